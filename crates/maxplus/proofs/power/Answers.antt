-- The sums over many rounds fit, and the answer follows the tests. Assumes nothing.
use borrow.Author.Rules.{rules}
use borrow.Author.Tests.{eq-eqb, ne_eqb}
use mathlib.Core.Path.{◌≡◌, ◌∙◌, ap, ap₂}
use mathlib.Core.Bool.{false}
use Prim.Native.Nat.{ℕ, ◌+◌, ◌-◌, ◌<◌, ◌^◌}
use native.Mathlib.Omega.{arith}
use lib.IntN.{ℤ, pos, negsuc, ◌+ℤ◌, ◌-ℤ◌, ◌*ℤ◌}
use lib.Signed.{lt_z}
use mir.Syntax.{w64}
use mir.Val.{SFits, to_z, of_z}
use mir.Facts.{to_z-of_z}
use Rattle.std.specs.Int.{int_max}
use Rattle.laws.specs.Arithmetic.{eq_in, add_rel}
use Rattle.laws.specs.Sizes.{size, mul_size, size_read, add_fits, add_read, mul_fits, mul_read}
use Rattle.maxplus.specs.declared.Round.{Round}
use Rattle.maxplus.specs.Numbers.{least, larger, power_by}
use Rattle.maxplus.specs.Over.{stops_far, goes_far}
use Rattle.maxplus.proofs.Larger.{max_larger, max_turned}
use Rattle.maxplus.proofs.power.Goals as goal
use Rattle.maxplus.proofs.power.Goals.{After-max-gain, Start}

module _ (c : Start) where
  abbrev r : Round
  r = c.args.r

  sum_read : to_z w64 (of_z w64 r.sum) ≡ r.sum
  sum_read = let f : SFits w64 r.sum = search rules in to_z-of_z f

  within_read : to_z w64 (of_z w64 r.within) ≡ r.within
  within_read = let f : SFits w64 r.within = search rules in to_z-of_z f

pub returns-then-n-eq0 : goal.returns-then-n-eq0
unfolding power_by
returns-then-n-eq0 c = simp (to_z-of_z c.ranges.v, eq-eqb _ _ c.if-n-eq0.true)

pub returns-then-r-lt-LEAST : goal.returns-then-r-lt-LEAST
unfolding power_by
returns-then-r-lt-LEAST c =
    let s = (goal.at.returns-then-r-lt-LEAST c).Start in
    simp (within_read s, ne_eqb _ _ c.if-n-eq0.false, simp (sum_read s) at c.if-r-lt-LEAST.true)

module _ (c : After-max-gain) where
  abbrev s : Start
  s = (goal.at.After-max-gain c).Start

  -- how often, and what is gained each time
  abbrev n : ℕ
  n = s.args.n

  abbrev gain : ℤ
  gain = larger (pos 0) (r s).sum

  some : n ≡ 0 → ⊥
  some = c.if-n-eq0.false

  passable : lt_z (r s).sum least ≡ false
  passable = simp (sum_read s) at c.if-r-lt-LEAST.false

  -- n, as the code reads it
  abbrev wide : ℤ
  wide = to_z w64 (of_z w64 c.from-k.result)

  n_read : wide ≡ pos n
  n_read = (let f : SFits w64 c.from-k.result = search rules in to_z-of_z f) ∙ c.from-k.ensures

  one_less : wide -ℤ pos 1 ≡ pos (n - 1)
  one_less = ap (λ z. z -ℤ pos 1) n_read ∙ eq_in (omega (arith, add_rel (pos n) (negsuc 0), some))

  less_read : to_z w64 (of_z w64 (wide -ℤ pos 1)) ≡ pos (n - 1)
  less_read = rw one_less (size_read w64 (pos (n - 1)) (omega (arith, s.requires.few)))

  gain_read : to_z w64 (of_z w64 c.max-gain.result) ≡ gain
  gain_read =
      let f : SFits w64 c.max-gain.result = search rules in
      to_z-of_z f ∙ c.max-gain.ensures.value ∙ ap (λ z. int_max z (pos 0)) (sum_read s) ∙ max_turned (r s).sum (pos 0)

  v_read : to_z w64 (of_z w64 s.args.v) ≡ s.args.v
  v_read = to_z-of_z s.ranges.v

  stops_small : size (r s).within + size (pos (n - 1) *ℤ gain) < 2 ^ 63
  stops_small = omega (arith, stops_far s.requires passable, mul_size (pos (n - 1)) gain)

  goes_small : size s.args.v + size (pos n *ℤ (r s).sum) < 2 ^ 63
  goes_small = omega (arith, goes_far s.requires passable, mul_size (pos n) (r s).sum)

  stops_read : to_z w64 (of_z w64 (to_z w64 (of_z w64 (wide -ℤ pos 1)) *ℤ to_z w64 (of_z w64 c.max-gain.result))) ≡ pos (n - 1) *ℤ gain
  stops_read = mul_read w64 less_read gain_read (omega (arith, stops_far s.requires passable))

  goes_read : to_z w64 (of_z w64 (wide *ℤ to_z w64 (of_z w64 (r s).sum))) ≡ pos n *ℤ (r s).sum
  goes_read = mul_read w64 n_read (sum_read s) (omega (arith, goes_far s.requires passable))

pub overflow_mul-k : goal.overflow_mul-k
overflow_mul-k c = mul_fits w64 (less_read c) (gain_read c) (omega (arith, stops_far (s c).requires (passable c)))

pub overflow_add-r : goal.overflow_add-r
overflow_add-r c =
    let e = (goal.at.overflow_add-r c).After-max-gain in
    add_fits w64 (within_read (s e)) (stops_read e) (stops_small e)

pub overflow_mul-k-2 : goal.overflow_mul-k-2
overflow_mul-k-2 c =
    let e = (goal.at.overflow_mul-k-2 c).After-max-gain in
    mul_fits w64 (n_read e) (sum_read (s e)) (omega (arith, goes_far (s e).requires (passable e)))

pub overflow_add-v : goal.overflow_add-v
overflow_add-v c =
    let e = (goal.at.overflow_add-v c).After-max-gain in
    add_fits w64 (v_read e) (goes_read e) (goes_small e)

pub returns : goal.returns
unfolding power_by
returns c =
    let e = (goal.at.returns c).After-max-gain in
    let f : SFits w64 c.max.result = search rules in
    to_z-of_z f
    ∙ c.max.ensures.value
    ∙ ap₂ int_max (add_read w64 (within_read (s e)) (stops_read e) (stops_small e)) (add_read w64 (v_read e) (goes_read e) (goes_small e))
    ∙ max_larger ((r (s e)).within +ℤ pos (n e - 1) *ℤ gain e) ((s e).args.v +ℤ pos (n e) *ℤ (r (s e)).sum)
    ∙ simp (ne_eqb _ _ (some e), passable e)
