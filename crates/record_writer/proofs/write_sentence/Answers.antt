-- `record_writer::write_sentence` meets its contract. Assumes nothing.
use Rattle.std.proofs.Common.{arith}
use Rattle.record_writer.proofs.Digits.{read_same}
use Rattle.record_writer.proofs.Fill.{until_spells, fill_sentence}
use Rattle.record_writer.proofs.write_sentence.Goals as goal

pub put_until-requires : goal.put_until-requires
put_until-requires c =
    let s = until_spells c.args.s c.in-Until.is c.requires.1 in
    (omega arith, rw (read_same _ s) s)

pub returns-in-True : goal.returns-in-True
returns-in-True c = fill_sentence c.args.s _ c.in-True.is c.requires.1 c.write_blank.ensures c.put_form.ensures

pub returns-in-Proposition : goal.returns-in-Proposition
returns-in-Proposition c = fill_sentence c.args.s _ c.in-Proposition.is c.requires.1 c.write_blank.ensures c.put_form-in-Proposition.ensures

pub returns-in-Guard : goal.returns-in-Guard
returns-in-Guard c = fill_sentence c.args.s _ c.in-Guard.is c.requires.1 c.write_blank.ensures c.put_form-in-Guard.ensures

pub returns-in-And : goal.returns-in-And
returns-in-And c = fill_sentence c.args.s _ c.in-And.is c.requires.1 c.write_blank.ensures c.put_form-in-And.ensures

pub returns-in-Not : goal.returns-in-Not
returns-in-Not c = fill_sentence c.args.s _ c.in-Not.is c.requires.1 c.write_blank.ensures c.put_form-in-Not.ensures

pub returns-in-Next : goal.returns-in-Next
returns-in-Next c = fill_sentence c.args.s _ c.in-Next.is c.requires.1 c.write_blank.ensures c.put_form-in-Next.ensures

pub returns-in-Until : goal.returns-in-Until
returns-in-Until c =
    let e = c.in-Until.is in
    fill_sentence c.args.s _ e c.requires.1 c.write_blank.ensures (rw (read_same _ (until_spells c.args.s e c.requires.1)) at c.put_until.ensures)
