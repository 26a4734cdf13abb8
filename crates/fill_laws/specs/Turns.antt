-- Filling as a loop goes, sentence by sentence. Assumes nothing.
use Rattle.std.specs.Prelude.{◌≡◌, ℕ, suc}
use Rattle.std.proofs.Math.Path.{refl, ap}
use Rattle.counters.specs.Sum.{Valuation}
use Rattle.items.specs.Lists.{Items}
use Rattle.meaning.specs.Judged.{Mark}
use Rattle.meaning.specs.Marking.{with_marks}
use Rattle.verdict.specs.Verdict.{Found, nowhere, at, first_not}
use Rattle.verdict.specs.Fill.{mark_through, is_steady, row_at, marks_with, Marking, given, changes, fill_from}

module _ (x : Items) (θ : Valuation) (i : ℕ) where
  -- no sentence is left
  pub fill_end : fill_from x θ i 0 ≡ given x
  unfolding fill_from
  fill_end = refl

  -- the first place at which sentence i changes, if any
  abbrev pub change_at : Found Mark
  change_at = first_not (λ k. is_steady (mark_through x θ k)) (row_at x i)

  -- n sentences after it, by what is found
  abbrev by_found : ℕ → Found Mark → Marking
  by_found n f = elim f [ nowhere ↦ fill_from (with_marks x (marks_with x θ i)) θ (suc i) n | at k ↦ changes k ]

  pub fill_stop : (n : ℕ) (k : Mark) → change_at ≡ at k → fill_from x θ i (suc n) ≡ changes k
  unfolding fill_from
  fill_stop n k e = ap (by_found n) e

  pub fill_turn : (n : ℕ) → change_at ≡ nowhere → fill_from x θ i (suc n) ≡ fill_from (with_marks x (marks_with x θ i)) θ (suc i) n
  unfolding fill_from
  fill_turn n e = ap (by_found n) e
