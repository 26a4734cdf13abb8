-- A shift by n leaves something exactly of the numbers from 2 ^ n on. Assumes nothing.
use Rattle.std.proofs.Common.{◌^◌, ◌<◌, ◌∙◌, arith}
use borrow.Author.Tests.{le-ltb}
use Rattle.kinds.specs.Contents.{natural}
use Rattle.checks.proofs.Natural.{bit_from, no_bit_from}
use Rattle.checks.proofs.has_bit_from.Goals as goal

pub returns-then-n-lt32 : goal.returns-then-n-lt32
returns-then-n-lt32 c =
    let a = c.args in
    simp c.natural_of-set.ensures (bit_from a.n a.content)

pub returns-else-n-lt32 : goal.returns-else-n-lt32
returns-else-n-lt32 c =
    let a = c.args in
    let h : natural a.content < 2 ^ 32 = omega (arith, c.natural_of-set.ensures) in
    le-ltb a.n 32 c.if-n-lt32.false ∙ no_bit_from 32 a.n a.content c.if-n-lt32.false h
