-- What fills the table of an until's steps, place by place: past the places that are held nothing is marked, so nothing is left to do there.
-- Assumes nothing.
use Rattle.std.specs.Prelude.{◌≡◌, ℕ, ◌≤◌, ℤ, pos, length, Option}
use Rattle.std.proofs.Common.{◌∙◌, ap}
use Rattle.laws.specs.Tab.{entry}
use Rattle.kinds.specs.declared.Kind.TheVariants as kind
use Rattle.items.specs.declared.Term.{Term}
use Rattle.items.specs.Lists.{Items, room_of}
use Rattle.meaning.specs.Judged.{marked}
use Rattle.verdict.specs.Labels.{Label, gain_of}
use Rattle.rounds.specs.Bits.{unmarked}
use Rattle.maxplus.specs.declared.Steps.{Steps}
use Rattle.maxplus.specs.Numbers.{none, entry_at, choice_by, stop_of, go_of}
use Rattle.maxplus.specs.Shows.{StepsAre}
use Rattle.untils.specs.Sums.{steps_of}

-- ---- what there is to do, and nothing past the places that are held

module _ (x : Items) where
  -- to stop at place p, where sentence b is the goal
  abbrev pub stop_at : ℕ → ℕ → ℤ
  stop_at b p = choice_by (marked x b p) (pos 0)

  -- to go on from place p, where sentence a is held
  abbrev pub go_at : ℕ → Option Term → Option Term → ℕ → ℤ
  go_at a t u p = choice_by (marked x a p) (gain_of (λ s. marked x s p) t u)

  pub stop_past : (b p : ℕ) → length x.places ≤ p → stop_at b p ≡ none
  stop_past b p h = ap (λ c. choice_by c (pos 0)) (unmarked x b p h)

  pub go_past : (a : ℕ) (t u : Option Term) (p : ℕ) → length x.places ≤ p → go_at a t u p ≡ none
  go_past a t u p h = ap (λ c. choice_by c (gain_of (λ s. marked x s p) t u)) (unmarked x a p h)

-- ---- the table has the steps

pub steps_are : (l : ℕ → Label) {s : Steps} → s ≡ steps_of l → StepsAre l (entry_at s.stops) (entry_at s.goes)
steps_are l e =
    record {
      stops = λ i h. ap (λ (s : Steps). entry_at s.stops i) e ∙ entry (λ p. stop_of (l p)) (room_of kind.Place) i (pos 0) h;
      goes = λ i h. ap (λ (s : Steps). entry_at s.goes i) e ∙ entry (λ p. go_of (l p)) (room_of kind.Place) i (pos 0) h;
    }
