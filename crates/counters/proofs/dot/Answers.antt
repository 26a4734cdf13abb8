-- The loop adds the products up: it has the sum over the first j counters. Assumes nothing.
use Rattle.std.proofs.Common.{rules, arith, refl, ◌∙◌, ℕ, ◌+◌, ◌*◌, ◌<◌, ◌^◌, ℤ, pos, List, get_or, take, length, add-one, to_z-of_z}
use mir.Syntax.{w16, w64}
use mir.Val.{SFits}
use Rattle.laws.specs.Sizes.{size, times_fits, more_fits, more_read}
use Rattle.counters.specs.Vectors.{value_at, number_at, sum_more}
use Rattle.counters.specs.Bounds.{sizes, sum_within}
use Rattle.counters.specs.Sum.{Valuation, sum}
use Rattle.counters.proofs.Widened.{widened}
use Rattle.counters.proofs.dot.Goals as goal

-- the sum before counter j, and the size of its product
small : (l : List ℤ) (θ : Valuation) (j : ℕ) → j < length l → sizes l θ < 2 ^ 63 → size (sum (take j l) θ) + size (get_or l j (pos 0)) * size (θ j) < 2 ^ 63
small l θ j h s = omega (arith, sum_within l θ j h)

pub loop-j-init : goal.loop-j-init
unfolding sum
loop-j-init c = refl

pub overflow_mul-total : goal.overflow_mul-total
overflow_mul-total c =
    let j = c.loop-j.j in
    let f : SFits w16 (number_at c.args.c j) = search rules in
    let g : SFits w64 (value_at c.args.v j) = search rules in
    let h : j < length c.args.c.at = search rules in
    times_fits w64 c.loop-j.invariant (widened c.from.ensures f) (to_z-of_z g) (small _ (value_at c.args.v) j h c.requires)

pub overflow_add-total : goal.overflow_add-total
overflow_add-total c =
    let j = c.loop-j.j in
    let f : SFits w16 (number_at c.args.c j) = search rules in
    let g : SFits w64 (value_at c.args.v j) = search rules in
    let h : j < length c.args.c.at = search rules in
    more_fits w64 c.loop-j.invariant (widened c.from.ensures f) (to_z-of_z g) (small _ (value_at c.args.v) j h c.requires)

pub loop-j-preserved : goal.loop-j-preserved
loop-j-preserved c =
    let j = c.loop-j.j in
    let f : SFits w16 (number_at c.args.c j) = search rules in
    let g : SFits w64 (value_at c.args.v j) = search rules in
    let h : j < length c.args.c.at = search rules in
    more_read w64 c.loop-j.invariant (widened c.from.ensures f) (to_z-of_z g) (small _ (value_at c.args.v) j h c.requires)
    ∙ rw (add-one, sum_more c.args.c.at (value_at c.args.v) j h)
