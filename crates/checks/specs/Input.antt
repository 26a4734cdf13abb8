-- The results that come from the input (11 to 16), each stage named: 11 to 13 by the head of a record, 14 to 16 by its fields.
use Rattle.std.specs.Prelude.{List, Bool, cond, ◌&&◌, ℕ, ◌-◌, eqb, leb, length, get_or, Result, Ok, Err, Some, None}
use Rattle.record.specs.declared.Record.{Record}
use Rattle.record.specs.Layout.{fields, at, byte_in, record_length, line_feed}
use Rattle.kinds.specs.declared.Kind.{Kind}
use Rattle.kinds.specs.declared.Kind.TheVariants.{Sentence}
use Rattle.kinds.specs.Kinds.{kind_of, same, Letter}
use Rattle.table.specs.declared.Rule.TheVariants as rule
use Rattle.table.specs.Sorts as sort
use Rattle.table.specs.declared.Shape.{Shape}
use Rattle.answers.specs.declared.Refusal.{Refusal}
use Rattle.answers.specs.declared.Refusal.TheVariants as refusal
use Rattle.checks.specs.declared.Fault.TheVariants as fault
use Rattle.checks.specs.Faults.{bad_byte, outside, lowest_fault}
use Rattle.answers.specs.Answers.{Answer}

-- the answer where the lowest field with a fault is f, and the answer where there is none
abbrev pub or_else : ℕ → (ℕ → Answer) → Answer → Answer
or_else f refused other = cond (leb f fields) (refused f) other

-- a sentence whose form is filled, but is none
abbrev pub wrong_form : Shape → Record → Bool
wrong_form s r = same s.kind Sentence && outside (rule.Needed sort.Form) (at r.fields 1)

-- 16
unfoldable pub range_answer : Shape → Record → Answer
range_answer s r = or_else (lowest_fault fault.OutOfRange s r) (λ n. Err (refusal.OutOfRange n)) (Ok tt)

-- 15, or else: a field that must be blank is filled
unfoldable pub extra_answer : Shape → Record → Answer
extra_answer s r = or_else (lowest_fault fault.Extra s r) (λ n. Err (refusal.Misfilled n)) (range_answer s r)

-- 15: a needed field is blank
unfoldable pub missing_answer : Shape → Record → Answer
missing_answer s r = or_else (lowest_fault fault.Missing s r) (λ n. Err (refusal.Misfilled n)) (extra_answer s r)

-- 16, field 1, before 15
unfoldable pub form_answer : Shape → Record → Answer
form_answer s r = cond (wrong_form s r) (Err (refusal.OutOfRange 1)) (missing_answer s r)

-- the place in the record of the bad byte of field f
abbrev pub bad_place : Record → ℕ → ℕ
bad_place r f = byte_in f (bad_byte (at r.fields f))

-- 14
unfoldable pub fields_answer : Shape → Record → Answer
fields_answer s r = or_else (lowest_fault fault.Misspelled s r) (λ f. Err (refusal.Misspelled (bad_place r f))) (form_answer s r)

-- what the head of a record says: its kind, or why it is refused
abbrev pub Head : Type 0
Head = Result Kind Refusal

-- 13
abbrev pub named_head : Letter → Head
named_head (Some k) = Ok k
named_head None = Err refusal.NoSuchKind

-- 12
unfoldable pub ended_head : List ℕ → Head
ended_head bs = cond (eqb (get_or bs (record_length - 1) 0) line_feed) (named_head (kind_of (get_or bs 0 0))) (Err refusal.NoLineFeed)

-- 11
unfoldable pub head_of : List ℕ → Head
head_of bs = cond (eqb (length bs) record_length) (ended_head bs) (Err refusal.NotARecord)
