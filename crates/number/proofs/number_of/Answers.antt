use Rattle.std.proofs.Common.{◌≡◌, ◌-◌, arith, length, get_or}
use Rattle.record.specs.Spelling.{digit}
use Rattle.number.proofs.Laws.{number_digit, number_long, no_leading, spelled_more, spelled_small, spelled_all}
use Rattle.number.proofs.number_of.Goals as goal

-- no number has so few bytes, or so many
pub returns-then-is_empty : goal.returns-then-is_empty
returns-then-is_empty c n is = let k = number_long c.args.bytes.now n is in grind (arith, k.0, k.1)

pub returns-then-bytes-eq48 : goal.returns-then-bytes-eq48
returns-then-bytes-eq48 c n is = no_leading c.args.bytes.now n is (omega arith) c.if-bytes-eq48.true

-- no number has a byte that is no digit
pub returns-then-not-is_digit : goal.returns-then-not-is_digit
returns-then-not-is_digit c n is = let k = number_digit c.args.bytes.now n is c.loop-b.b-index (omega arith) in grind (arith, k.0, k.1)

-- there is room for one digit more
pub overflow_mul-n : goal.overflow_mul-n
overflow_mul-n c = let small = spelled_small c.args.bytes.now c.loop-b.b-index c.loop-b.n (omega arith) c.loop-b.invariant.0 (omega arith) in omega arith

pub overflow_add-n : goal.overflow_add-n
overflow_add-n c = let small = spelled_small c.args.bytes.now c.loop-b.b-index c.loop-b.n (omega arith) c.loop-b.invariant.0 (omega arith) in omega arith

pub loop-b-preserved : goal.loop-b-preserved
loop-b-preserved c =
    let bs = c.args.bytes.now in
    let i = c.loop-b.b-index in
    let (spelled, leads) = c.loop-b.invariant in
    let d = get_or bs i 0 - digit 0 in
    let e : get_or bs i 0 ≡ digit d = grind arith in
    (rw c.from.ensures (spelled_more bs i c.loop-b.n (omega arith) spelled d (grind arith) e leads), leads)

pub returns : goal.returns
returns c =
    let bs = c.args.bytes.now in
    let e : c.loop-b.b-index ≡ length bs = omega arith in
    spelled_all bs c.loop-b.n (omega arith) (omega arith) (rw e at c.loop-b.invariant.0)
