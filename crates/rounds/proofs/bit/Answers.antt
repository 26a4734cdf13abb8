-- A shift reads the bits of a number that 32 bits hold, and past them there are none. Assumes nothing.
use Rattle.std.proofs.Common.{◌∙◌, sym, le-ltb}
use native.Mathlib.Omega.{arith}
use lib.Pow.{pow_mono}
use Rattle.meaning.specs.Truth.{bit}
use Rattle.rounds.specs.Bits.{bit_past}
use Rattle.rounds.proofs.bit.Goals as goal

pub returns-then-i-lt32 : goal.returns-then-i-lt32
unfolding bit
returns-then-i-lt32 c = rw c.from.ensures

pub returns : goal.returns
returns c = sym (bit_past c.args.n c.args.i (omega (arith, pow_mono {i = 32} {j = c.args.i} (omega arith))))
