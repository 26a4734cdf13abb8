-- A loop from the last place to the first: it has the best and the sum of the places from i on. Assumes nothing.
use borrow.Author.Rules.{rules}
use mathlib.Core.Path.{◌≡◌, refl, ◌∙◌}
use Prim.Native.Nat.{ℕ, ◌+◌, ◌-◌, ◌≤◌, ◌<◌, ◌^◌}
use native.Mathlib.Omega.{arith}
use lib.IntN.{ℤ, ◌+ℤ◌, +ℤ_comm}
use mir.Syntax.{w64}
use mir.Val.{SFits, to_z, of_z}
use mir.Facts.{to_z-of_z}
use Rattle.laws.specs.Sizes.{size, add_fits, add_read}
use Rattle.laws.specs.Down.{down_none, down_more}
use Rattle.maxplus.specs.Numbers.{entry_at, step_by, within_by, sum_by}
use Rattle.maxplus.specs.Over.{within_size, sum_size}
use Rattle.maxplus.proofs.Steps.over.Goals as goal
use Rattle.maxplus.proofs.Steps.over.Goals.{In-loop-i, Start}

module _ (c : Start) where
  -- the tables
  abbrev stop : ℕ → ℤ
  stop = entry_at c.args.self.now.stops

  abbrev go : ℕ → ℤ
  go = entry_at c.args.self.now.goes

  -- the end of the places
  abbrev e : ℕ
  e = c.args.p + c.args.n

  -- one place more
  within_more : (i : ℕ) → 0 < i → i ≤ e → step_by (stop (i - 1)) (go (i - 1)) (within_by stop go i (e - i)) ≡ within_by stop go (i - 1) (e - (i - 1))
  unfolding within_by
  within_more i h k = down_more (within_by stop go) (λ j x. step_by (stop j) (go j) x) (λ j n. refl) i e _ h k refl

  sum_more : (i : ℕ) → 0 < i → i ≤ e → sum_by go i (e - i) +ℤ go (i - 1) ≡ sum_by go (i - 1) (e - (i - 1))
  unfolding sum_by
  sum_more i h k = +ℤ_comm (sum_by go i (e - i)) (go (i - 1)) ∙ down_more (sum_by go) (λ j x. go j +ℤ x) (λ j n. refl) i e _ h k refl

pub loop-i-init : goal.loop-i-init
unfolding within_by sum_by
loop-i-init c = (omega arith, down_none (within_by (stop c) (go c)) (e c), down_none (sum_by (go c)) (e c))

module _ (c : In-loop-i) where
  abbrev t : Start
  t = (goal.at.In-loop-i c).Start

  -- the place after, and how many are done
  abbrev i : ℕ
  i = c.loop-i.i

  abbrev n : ℕ
  n = e t - i

  stop_read : to_z w64 (of_z w64 (stop t (i - 1))) ≡ stop t (i - 1)
  stop_read = let f : SFits w64 (stop t (i - 1)) = search rules in to_z-of_z f

  go_read : to_z w64 (of_z w64 (go t (i - 1))) ≡ go t (i - 1)
  go_read = let f : SFits w64 (go t (i - 1)) = search rules in to_z-of_z f

  within_small : size (go t (i - 1)) + size (within_by (stop t) (go t) i n) < 2 ^ 63
  within_small = omega (arith, t.requires.1.goes (i - 1) (omega arith), within_size t.requires.1 i n (omega arith))

  sum_small : size (sum_by (go t) i n) + size (go t (i - 1)) < 2 ^ 63
  sum_small = omega (arith, t.requires.1.goes (i - 1) (omega arith), sum_size t.requires.1 i n (omega arith))

pub step-within-requires : goal.step-within-requires
step-within-requires c =
    let b = (goal.at.step-within-requires c).In-loop-i in
    rw (go_read b, c.loop-i.invariant.1) (within_small b)

pub overflow_add-sum : goal.overflow_add-sum
overflow_add-sum c =
    let b = (goal.at.overflow_add-sum c).In-loop-i in
    add_fits w64 c.loop-i.invariant.2 (go_read b) (sum_small b)

pub loop-i-preserved : goal.loop-i-preserved
loop-i-preserved c =
    let b = (goal.at.loop-i-preserved c).In-loop-i in
    let inv = c.loop-i.invariant in
    let f : SFits w64 c.step-within.result = search rules in (
      omega arith,
      to_z-of_z f ∙ c.step-within.ensures ∙ rw (stop_read b, go_read b, inv.1) (within_more (t b) (i b) (omega arith) (omega arith)),
      add_read w64 inv.2 (go_read b) (sum_small b) ∙ sum_more (t b) (i b) (omega arith) (omega arith),
    )
