-- A case with a loop cut in two: its file spells it; where the case is closed and 64 places are enough, it has what every case has that records make. Assumes
-- nothing.
use Rattle.std.specs.Prelude.{◌≡◌, ◌↔◌, List, ℕ, ◌+◌, ◌-◌, ◌≤◌, ◌<◌, length, None}
use Rattle.std.proofs.Common.{sym, ◌∙◌, ap, subst, arith}
use Rattle.std.proofs.Math.Decide.{dec_lt}
use Rattle.kinds.specs.declared.Kind.TheVariants as kind
use Rattle.counters.specs.Sum.{Valuation}
use Rattle.items.specs.declared.LoopMark.{LoopMark}
use Rattle.items.specs.declared.LoopMark.TheVariants as mark
use Rattle.items.specs.declared.Place.{Place}
use Rattle.items.specs.Lists.{Items, room_of, with_places}
use Rattle.items.specs.File.{file_of}
use Rattle.rules.specs.Rules.{mark_at, length_of, Closed}
use Rattle.rules.specs.Files.{spelled}
use Rattle.collector.specs.declared.Case.{Case}
use Rattle.collector.specs.Cases.{case_of, items_of}
use Rattle.collector.specs.Sound.{Sound, LoopsApart}
use Rattle.rules_laws.specs.Held.{counted}
use Rattle.rules_laws.specs.Records.{file_spelled}
use Rattle.meaning.specs.Run.{place_at, stretch}
use Rattle.meaning.specs.Rounds.{mark_with, place_with}
use Rattle.meaning.specs.Spans.{MayHave}
use Rattle.meaning.specs.Judged.{IsAccepted}
use Rattle.meaning.specs.Cut.{place_by, halves, cut_by, cut_at, MayCut, Fits}
use Rattle.meaning_laws.specs.Facts.{Resolved}
use Rattle.meaning_laws.specs.Given.{facts, no_shorter}
use Rattle.meaning_laws.specs.Walk.{endless_is}
use Rattle.meaning_laws.specs.Stays.{ends_in}
use Rattle.places.specs.Replaced.{Meets, meets, all_meet, sound_places}
use Rattle.places.specs.OneField.{with_mark, meets_rounds, meets_by, meets_at}
use Rattle.cut.specs.Places.{Cuts, has_one, by_place, low_way, halves_closed}
use Rattle.cut.specs.Accepted.{halves_resolved, halves_accepted}

-- loops that lie well in a closed plan within the room
apart_closed : (x : Items) → Resolved x → Closed x → length x.places ≤ room_of kind.Place → LoopsApart x.places
apart_closed x f v fits =
    let ps = x.places in
    record {
      apart = λ p q a g d. omega (arith, f.laid.apart p q a g d, no_shorter (mark_at ps p));
      within = λ p g. omega (arith, ends_in x f.laid v p g, no_shorter (mark_at ps p));
      last = λ p e. let (l, b, d) = endless_is (mark_at ps p) e in omega (arith, f.laid.last p e, ap stretch d, ap length_of d);
    }

module _ {c : Case} (s : Sound c) {p l b m k : ℕ} (u : Cuts (items_of c).places p l b m k) where
  -- the items, the loop's first place, and the places with the loop cut
  abbrev x : Items
  x = items_of c

  abbrev z : Place
  z = place_at x.places p

  abbrev qs : List Place
  qs = halves x.places p l b m k

  may : (j : ℕ) → 1 ≤ j → j ≤ m + k → MayHave j
  may j one most = record { least = one; most = omega (arith, ((facts c s).rounds p l (m + k) b u.is).1) }

  as_it_was : (i : ℕ) → i < length x.places → Meets c.count kind.Place i (place_at x.places i)
  as_it_was i h = meets s kind.Place i (omega (arith, counted c s kind.Place))

  half : (j : ℕ) → MayHave j → Meets c.count kind.Place p (place_with j z)
  half j h = meets_rounds c.count p z j h (as_it_was p (omega (arith, has_one u, u.whole)))

  -- its copy is entered by the back move
  entered : (j : ℕ) → MayHave j → Meets c.count kind.Place p (place_by b (place_with j z))
  entered j h =
      let e : mark_with j z.mark ≡ mark.Counted l j b = ap (mark_with j) u.is in
      let M : LoopMark → Type 0 = λ a. Meets c.count kind.Place p (with_mark z a) in
      subst (λ a. Meets c.count kind.Place p (place_by b (with_mark z a))) (sym e) (meets_by c.count p z l j b (subst M e (half j h)))

  each : (q : ℕ) → q < length qs → Meets c.count kind.Place q (place_at qs q)
  each q h =
      by_place u (Meets c.count kind.Place q) q
      (λ e. meets_at (half m (may m u.one (omega arith))) q) (meets_at (entered k (may k u.left (omega arith))) q)
      (λ i g o. meets_at (as_it_was i (g h)) q)

  -- the file of the case with the loop cut spells it
  halves_spelled : let y = with_places (items_of c) (halves (items_of c).places p l b m k) in spelled (file_of y) ≡ y
  halves_spelled = let h = all_meet s qs each in file_spelled (with_places x qs) (λ k i l. (h k i l).fit) (λ k i l. (h k i l).read)

  known : Resolved (with_places x qs)
  known = halves_resolved x (facts c s).resolved u

  -- field 2 is blank exactly at place 0
  ways : (q : ℕ) → q < length qs → (q ≡ 0) ↔ ((place_at qs q).way ≡ None)
  ways q h = (
    λ e. ap (λ i. (place_at qs i).way) e ∙ low_way u 0 (omega (arith, has_one u)) ∙ (facts c s).start,
    λ e. elim (dec_lt 0 q) [
      | yes a ↦ let (t, d, w) = known.ways q a h in let n : ◌≡◌ {A = ℕ} 0 1 = cc in absurd (omega arith)
      | no a ↦ omega arith
    ],
  )

  halves_sound : Closed (items_of c) → length (halves (items_of c).places p l b m k) ≤ room_of kind.Place → Sound (case_of (with_places (items_of c) (halves (items_of c).places p l b m k)))
  halves_sound v fits = sound_places s qs fits each ways (apart_closed (with_places x qs) known ((halves_closed u x).0 v) fits)

-- ---- the cut case

module _ {c : Case} (s : Sound c) {p m : ℕ} (h : MayCut (items_of c).places p m) where
  -- the rounds that are left
  abbrev left : ℕ
  left = h.rounds - m

  cuts : Cuts (items_of c).places p h.places h.back m left
  cuts =
      let e : h.rounds ≡ m + left = omega (arith, h.more) in
      record {
        laid = (facts c s).resolved.laid;
        is = h.is ∙ ap (λ n. mark.Counted h.places n h.back) e;
        whole = h.whole;
        one = h.least;
        left = omega (arith, h.more);
      }

  -- what is so of the halves is so of the cut case
  by_halves : (P : Items → Type 0) → P (with_places (items_of c) (halves (items_of c).places p h.places h.back m left)) → P (cut_at (items_of c) p m)
  by_halves P = subst P (ap (λ a. with_places (items_of c) (cut_by (items_of c).places p m a)) (sym h.is))

  pub cut_accepted : (θ : Valuation) → IsAccepted (items_of c) θ ↔ IsAccepted (cut_at (items_of c) p m) θ
  cut_accepted θ = by_halves (λ y. IsAccepted (items_of c) θ ↔ IsAccepted y θ) (halves_accepted (items_of c) (facts c s).resolved cuts θ)

  pub cut_sound : Closed (items_of c) → Fits (cut_at (items_of c) p m) → Sound (case_of (cut_at (items_of c) p m))
  cut_sound v = by_halves (λ y. Fits y → Sound (case_of y)) (halves_sound s cuts v)

  pub cut_spelled : spelled (file_of (cut_at (items_of c) p m)) ≡ cut_at (items_of c) p m
  cut_spelled = by_halves (λ y. spelled (file_of y) ≡ y) (halves_spelled s cuts)
