-- A case with a counted loop cut in two is accepted exactly where the case is: each way of the one plan has its like in the other, and what they name is there.
-- Assumes nothing.
use Rattle.std.specs.Prelude.{◌≡◌, refl, ◌↔◌, List, Bool, true, false, ℕ, ◌+◌, ◌-◌, ◌≤◌, ◌<◌, length, Some}
use Rattle.std.proofs.Common.{sym, ◌∙◌, ap, subst, arith}
use Rattle.std.proofs.Math.Decide.{dec_lt}
use Rattle.counters.specs.Sum.{Valuation}
use Rattle.items.specs.declared.Place.{Place}
use Rattle.items.specs.Lists.{Items, with_places}
use Rattle.rules.specs.Rules.{mark_at}
use Rattle.meaning.specs.Run.{Way, stretch, back_of, place_at}
use Rattle.meaning.specs.Judged.{IsAccepted}
use Rattle.meaning.specs.Rounds.{mark_with}
use Rattle.meaning.specs.Cut.{halves}
use Rattle.meaning_laws.specs.Facts.{Resolved}
use Rattle.meaning_laws.specs.Plans.{mark_keeps}
use Rattle.meaning_laws.specs.SameRun.{SameWay, same_back, HasLike, connected_by, accepted_alike}
use Rattle.cut.specs.Places.{copy_stretch, copy_back, Cuts, has_one, more_places, second_place, high_same, by_side, by_place, low_copy, high_copy, low_way, ends_by, halves_laid, halves_closed}
use Rattle.cut.specs.Runs.{halves_show}

-- by the move into place q, or by the back move of the loop that it begins
abbrev way : ℕ → Bool → Way
way q v = record { place = q; back = v }

module _ {ps : List Place} {p l b m k : ℕ} (c : Cuts ps p l b m k) where
  -- the places with the loop cut
  abbrev qs : List Place
  qs = halves ps p l b m k

  -- the loop has a place
  o : 1 ≤ l
  o = has_one c

  -- ---- ways that are alike

  -- up to the loop's end
  low_like : (v : Bool) (q : ℕ) → q < p + l → SameWay ps qs (way q v) (way q v)
  low_like false q h = record { number = low_way c q h; from = (low_copy c (q - 1) (omega arith)).state; to = (low_copy c q h).state }
  low_like true q h =
      let e : q + stretch (mark_at qs q) - 1 ≡ q + stretch (mark_at ps q) - 1 = omega (arith, copy_stretch (low_copy c q h)) in
      record {
        number = copy_back (low_copy c q h);
        from = ap (λ z. (place_at qs z).state) e ∙ (low_copy c (q + stretch (mark_at ps q) - 1) (omega (arith, (ends_by c q h).0))).state;
        to = (low_copy c q h).state;
      }

  -- after the loop's first place, l places later
  high_in : (i : ℕ) → p < i → SameWay ps qs (way i false) (way (i + l) false)
  high_in i h =
      record {
        number = ap (λ (r : Place). r.way) (high_same c i h);
        from = (high_copy c (i - 1) (i + l - 1) (omega arith) (omega arith)).state;
        to = (high_copy c i (i + l) refl (omega arith)).state;
      }

  high_back : (i : ℕ) → p ≤ i → SameWay ps qs (way i true) (way (i + l) true)
  high_back i h =
      let n = c.laid.long i in
      record {
        number = copy_back (high_copy c i (i + l) refl h);
        from =
            (high_copy c (i + stretch (mark_at ps i) - 1) (i + l + stretch (mark_at qs (i + l)) - 1)
            (omega (arith, copy_stretch (high_copy c i (i + l) refl h))) (omega arith)
            ).state;
        to = (high_copy c i (i + l) refl h).state;
      }

  -- the way into the second half is the back move
  entered : SameWay ps qs (way p true) (way (p + l) false)
  entered =
      let e : p + l - 1 ≡ p + stretch (mark_at ps p) - 1 = omega (arith, ap stretch c.is) in
      record {
        number = ap (λ (q : Place). q.way) (second_place c) ∙ sym (ap back_of c.is);
        from = (low_copy c (p + l - 1) (omega (arith, o))).state ∙ ap (λ z. (place_at ps z).state) e;
        to = (high_copy c p (p + l) refl (omega arith)).state;
      }

  -- each way of the plan with the loop cut has its like in the plan
  has_like : (w : Way) → w.place < length qs → HasLike ps qs w
  has_like w =
      by_side c (λ q. q < length qs → HasLike ps qs (way q w.back))
      (λ q a h. record { way = way q w.back; there = omega (arith, c.whole); like = low_like w.back q a })
      (λ i a h. later w.back i a (omega (arith, more_places c))) w.place
    where
      later : (v : Bool) (i : ℕ) → p ≤ i → i < length ps → HasLike ps qs (way (i + l) v)
      later true i a d = record { way = way i true; there = d; like = high_back i a }
      later false i a d =
          elim (dec_lt p i) [
            | yes g ↦ record { way = way i false; there = d; like = high_in i g }
            | no g ↦
                let e : p ≡ i = omega arith in
                subst (λ z. HasLike ps qs (way (z + l) false)) e (record { way = way p true; there = omega (arith, o, c.whole); like = entered })
          ]

  -- and each way of the plan there
  like_of : (w : Way) → w.place < length ps → HasLike qs ps w
  like_of w h =
      let q = w.place in
      elim (dec_lt q (p + l)) [
        | yes a ↦ record { way = w; there = omega (arith, more_places c); like = same_back (low_like w.back q a) }
        | no a ↦ record { way = way (q + l) w.back; there = omega (arith, more_places c); like = same_back (later w.back (omega arith)) }
      ]
    where
      later : (v : Bool) → p + l ≤ w.place → SameWay ps qs (way w.place v) (way (w.place + l) v)
      later false a = high_in w.place (omega (arith, o))
      later true a = high_back w.place (omega arith)

-- ---- the case

module _ (x : Items) (f : Resolved x) {p l b m k : ℕ} (c : Cuts x.places p l b m k) where
  abbrev ps : List Place
  ps = x.places

  abbrev y : Items
  y = with_places x (halves ps p l b m k)

  pub halves_resolved : Resolved (with_places x (halves x.places p l b m k))
  halves_resolved =
      record {
        laid = halves_laid c;
        states = λ q h. by_place c (λ z. z.state < length x.states) q (λ e. f.states p first) (f.states p first) (λ i g o. f.states i (g h));
        ways = λ q o h.
            by_place c (λ z. (t : ℕ) × (z.way ≡ Some t) × (t < length x.moves)) q
            (λ e. f.ways p (omega arith) first) (b, refl, f.backs p b first (ap back_of c.is)) (λ i g w. f.ways i (w o) (g h));
        backs = λ q t h.
            by_place c (λ z. back_of z.mark ≡ Some t → t < length x.moves) q
            (λ w e. f.backs p t first (sym (back m) ∙ e)) (λ e. f.backs p t first (sym (back k) ∙ e)) (λ i g o. f.backs i t (g h));
        guards = f.guards;
      }
    where
      first : p < length ps
      first = omega (arith, has_one c, c.whole)

      back : (n : ℕ) → back_of (mark_with n (mark_at ps p)) ≡ back_of (mark_at ps p)
      back n = mark_keeps back_of (λ i j r t. refl) n (mark_at ps p)

  -- accepted exactly where the other is
  pub halves_accepted : (θ : Valuation) → IsAccepted x θ ↔ IsAccepted (with_places x (halves x.places p l b m k)) θ
  halves_accepted =
      let v = halves_closed c x in
      accepted_alike x f halves_resolved (λ h. (h.0, v.0 h.1), λ h. (h.0, v.1 h.1)) (connected_by x (has_like c), connected_by y (like_of c)) (halves_show c)
