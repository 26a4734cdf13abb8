-- The sums are read back from their bits, and fit. Assumes nothing.
use borrow.Author.Rules.{rules}
use mathlib.Core.Path.{◌≡◌, ◌∙◌}
use mathlib.Core.Bool.{cond}
use Prim.Native.Nat.{◌≤◌}
use native.Mathlib.Nat.{mul-le-mul_left}
use native.Mathlib.Omega.{arith}
use lib.IntN.{ℤ, pos, ◌+ℤ◌}
use mir.Syntax.{w32, w64}
use mir.Val.{SFits, to_z, of_z}
use mir.Facts.{to_z-of_z}
use Rattle.laws.specs.Sizes.{size, add_size}
use Rattle.laws.specs.Tests.{cond_by}
use Rattle.rounds.specs.Last.{last_of}
use Rattle.counters.specs.Vectors.{value_at}
use Rattle.counters.specs.Sum.{sum}
use Rattle.counters.specs.Bounds.{sum_size}
use Rattle.guards.specs.GuardSums.{through_by}
use Rattle.guards.proofs.guard_through.Goals as goal
use Rattle.guards.proofs.guard_through.Goals.{After-dot-d, After-first_sum-first, Start, Start}

module _ (c : After-dot-d) where
  abbrev t : Start
  t = (goal.at.After-dot-d c).Start

  -- the sum in the first round, and what a round adds
  abbrev a : ℤ
  a = sum t.args.g.coefficients.at (value_at t.args.base)

  abbrev d : ℤ
  d = sum t.args.g.coefficients.at (value_at t.args.drift)

  a_read : to_z w64 (of_z w64 c.dot-a.result) ≡ a
  a_read = (let f : SFits w64 c.dot-a.result = search rules in to_z-of_z f) ∙ c.dot-a.ensures

  d_read : to_z w64 (of_z w64 c.dot-d.result) ≡ d
  d_read = (let f : SFits w64 c.dot-d.result = search rules in to_z-of_z f) ∙ c.dot-d.ensures

pub first_sum-first-requires : goal.first_sum-first-requires
first_sum-first-requires c =
    let x = (t c).args in
    rw (a_read c, d_read c) (omega (arith, (t c).requires, sum_size x.g.coefficients.at (value_at x.base), sum_size x.g.coefficients.at (value_at x.drift)))

first_read : (c : After-first_sum-first) →
    let x = (t (goal.at.After-first_sum-first c).After-dot-d).args in
    to_z w64 (of_z w64 c.first_sum-first.result) ≡ a (goal.at.After-first_sum-first c).After-dot-d +ℤ cond x.later (d (goal.at.After-first_sum-first c).After-dot-d) (pos 0)
first_read c = (let f : SFits w64 c.first_sum-first.result = search rules in to_z-of_z f) ∙ c.first_sum-first.ensures ∙ rw (a_read (goal.at.After-first_sum-first c).After-dot-d, d_read (goal.at.After-first_sum-first c).After-dot-d)

pub through-requires : goal.through-requires
through-requires c =
    let e = (goal.at.through-requires c).After-first_sum-first in
    let b = (goal.at.After-first_sum-first e).After-dot-d in
    let x = (t b).args in
    let l = x.g.coefficients.at in
    let m : size (cond x.later (d b) (pos 0)) ≤ size (d b) = cond_by (λ z. size z ≤ size (d b)) x.later (λ z. omega arith) (λ z. omega arith) in
    rw (first_read e, d_read b)
    (omega (
      arith,
      (t b).requires,
      add_size (a b) (cond x.later (d b) (pos 0)),
      sum_size l (value_at x.base),
      sum_size l (value_at x.drift),
      mul-le-mul_left (last_of x.rounds) (sum_size l (value_at x.drift)),
    ))

pub returns : goal.returns
unfolding through_by
returns c =
    let f = (goal.at.returns c).After-first_sum-first in
    let b = (goal.at.After-first_sum-first f).After-dot-d in
    let g : SFits w32 (t b).args.g.bound = search rules in
    let h : SFits w64 c.from.result = search rules in
    c.through.ensures ∙ rw (first_read f, d_read b, to_z-of_z h, c.from.ensures, to_z-of_z g)
