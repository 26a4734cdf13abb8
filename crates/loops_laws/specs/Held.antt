-- A case with other rounds, from 1 to 1,000,000, in one loop has what every case has that records make, and all but the rounds of that one place is as it was.
-- Assumes nothing.
use Rattle.std.specs.Prelude.{◌≡◌, List, ◌++◌, ℕ, ◌-◌, ◌<◌, get_or}
use Rattle.std.proofs.Math.Path.{sym, ap}
use Rattle.std.proofs.Common.{◌∙◌, subst, arith, get_or-set_same, get_or-set_other}
use Rattle.std.proofs.Math.Decide.{ℕ_discrete}
use Rattle.std.proofs.Math.ListN.{length, set, replicate}
use Rattle.std.proofs.lemmas.List.{set-append_left}
use Rattle.laws.specs.Lists.{at_front}
use Rattle.kinds.specs.declared.Kind.TheVariants as kind
use Rattle.items.specs.declared.Place.{Place}
use Rattle.items.specs.Lists.{room_of, no_item, with_places}
use Rattle.meaning.specs.Run.{place_at}
use Rattle.meaning.specs.Rounds.{place_with, places_with, with_rounds}
use Rattle.meaning.specs.Spans.{MayHave}
use Rattle.collector.specs.declared.Case.{Case}
use Rattle.collector.specs.Cases.{arrays_of, filled, case_by, case_of, items_of}
use Rattle.collector.specs.Sound.{Sound}
use Rattle.rules_laws.specs.Held.{counted, padded}
use Rattle.meaning_laws.specs.Plans.{other_rounds}
use Rattle.places.specs.Replaced.{Meets, meets, case_with, sound_with}
use Rattle.places.specs.OneField.{meets_rounds}

-- place q is as it was, or has n rounds
with_by : (P : Place → Type 0) (ps : List Place) (p n q : ℕ) → q < length ps → P (place_at ps q) → P (place_with n (place_at ps q)) → P (place_at (places_with ps p n) q)
unfolding places_with
with_by P ps p n q h u v =
    elim (ℕ_discrete q p) [
      | yes e ↦
          subst (λ j. P (place_at (set ps j (place_with n (place_at ps j))) q)) e
          (subst P (sym (get_or-set_same ps q (place_with n (place_at ps q)) (no_item kind.Place) h)) v)
      | no e ↦ subst P (sym (get_or-set_other ps p q (place_with n (place_at ps p)) (no_item kind.Place) e)) u
    ]

-- ---- the case

module _ {c : Case} (s : Sound c) (p n : ℕ) where
  abbrev ps : List Place
  ps = (items_of c).places

  pub sound_rounds : MayHave n → Sound (case_of (with_rounds (items_of c) p n))
  sound_rounds may =
      let e = other_rounds ps p n in
      sound_with s e (λ q h.
      let l : q < length ps = omega (arith, e.long) in
      let m = meets s kind.Place q (omega (arith, counted c s kind.Place)) in
      with_by (Meets c.count kind.Place q) ps p n q l m (meets_rounds c.count q (place_at ps q) n may m))

  -- all that it keeps is as it was, but for that one place
  pub case_rounds : p < length (items_of c).places →
      case_of (with_rounds (items_of c) p n)
      ≡ case_by c.count c.loops c.drifts (with_places (arrays_of c) (set c.places p (place_with n (get_or c.places p (no_item kind.Place)))))
  unfolding places_with
  case_rounds h =
      let k = room_of kind.Place - length ps in
      case_with s (other_rounds ps p n)
      ∙ ap (λ l. case_by c.count c.loops c.drifts (with_places (arrays_of c) l))
      (ap (λ j. places_with ps p n ++ replicate (room_of kind.Place - j) (no_item kind.Place)) (other_rounds ps p n).long
      ∙ sym (set-append_left ps (replicate k (no_item kind.Place)) p (place_with n (place_at ps p)) h)
      ∙ ap (λ q. set (filled (items_of c) kind.Place) p (place_with n q)) (sym (at_front (no_item kind.Place) ps k p))
      ∙ ap (λ l. set l p (place_with n (get_or l p (no_item kind.Place)))) (sym (padded s kind.Place)))
