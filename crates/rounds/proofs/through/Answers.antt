-- The sum in the last round fits, and the answer follows the rounds. Assumes nothing.
use borrow.Author.Rules.{rules}
use mathlib.Core.Path.{◌≡◌, ◌∙◌}
use Prim.Native.Nat.{ℕ, ◌+◌, ◌*◌, ◌<◌, ◌^◌}
use native.Mathlib.Omega.{arith}
use lib.IntN.{ℤ, pos, ◌*ℤ◌}
use mir.Syntax.{w64}
use mir.Val.{SFits, to_z, of_z}
use mir.Facts.{to_z-of_z}
use Rattle.laws.specs.Sizes.{size, mul_size, add_fits, add_read, mul_fits, mul_read}
use Rattle.verdict.specs.Rounds.{through}
use Rattle.rounds.proofs.through.Goals as goal
use Rattle.rounds.proofs.through.Goals.{After-from}

module _ (c : After-from) where
  -- the first sum, what a round adds, and the last round
  abbrev a : ℤ
  a = c.args.a

  abbrev d : ℤ
  d = c.args.d

  abbrev k : ℕ
  k = c.in-UpTo.k

  small : size a + k * size d < 2 ^ 63
  small = simp c.in-UpTo.is at c.requires

  small_sum : size a + size (pos k *ℤ d) < 2 ^ 63
  small_sum = omega (arith, small, mul_size (pos k) d)

  a_read : to_z w64 (of_z w64 a) ≡ a
  a_read = to_z-of_z c.ranges.a

  d_read : to_z w64 (of_z w64 d) ≡ d
  d_read = to_z-of_z c.ranges.d

  k_read : to_z w64 (of_z w64 c.from.result) ≡ pos k
  k_read = (let f : SFits w64 c.from.result = search rules in to_z-of_z f) ∙ c.from.ensures

  added : to_z w64 (of_z w64 (to_z w64 (of_z w64 c.from.result) *ℤ to_z w64 (of_z w64 d))) ≡ pos k *ℤ d
  added = mul_read w64 k_read d_read (omega (arith, small))

pub overflow_mul-last : goal.overflow_mul-last
overflow_mul-last c = mul_fits w64 (k_read c) (d_read c) (omega (arith, small c))

pub overflow_add-last : goal.overflow_add-last
overflow_add-last c = add_fits w64 (a_read c) (added c) (small_sum c)

pub returns-in-None : goal.returns-in-None
unfolding through
returns-in-None c = simp c.in-None.is

pub returns-in-UpTo : goal.returns-in-UpTo
unfolding through
returns-in-UpTo c =
    let e = (goal.at.returns-in-UpTo c).After-from in
    let b = to_z-of_z e.ranges.b in
    c.agree.ensures ∙ rw (add_read w64 (a_read e) (added e) (small_sum e), a_read e, b) (simp e.in-UpTo.is)

pub returns-in-Ever : goal.returns-in-Ever
unfolding through
returns-in-Ever c =
    let f = c.ranges in
    c.ever.ensures ∙ simp (to_z-of_z f.a, to_z-of_z f.b, to_z-of_z f.d, c.in-Ever.is)
