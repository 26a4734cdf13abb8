-- What is printed, by what is collected from a file and by what a word makes of the case. Assumes nothing.
use Rattle.std.specs.Prelude.{Result, Ok, Err, is_ok}
use mathlib.Core.Path.{◌≡◌, refl, ◌∙◌, sym, ap}
use mathlib.Core.List.{List}
use mathlib.Core.Bool.{Bool, true, false, cond}
use Prim.Native.Nat.{ℕ, ◌≤◌}
use lib.ListN.{length, take}
use Rattle.answers.specs.declared.Told.{Told}
use Rattle.answers.specs.declared.WriteError.{WriteError}
use Rattle.answers.specs.Answers.{is_taken, refusal, is_set, Answer, Filling, Setting, Written}
use Rattle.collector.specs.declared.Case.{Case}
use Rattle.collector.specs.Taking.{Collected, collected_of}
use Rattle.collector.specs.Cases.{empty_case}
use Rattle.output.specs.Line.{line_of}
use Rattle.writer.specs.Written.{written_of, buffer_after}
use Rattle.product.specs.Product.{most_printed}
use Rattle.casefile.specs.Bounded.{enough, collected_bounded}
use Rattle.tool.specs.Outputs.{output_after, output_of, case_by, read_case, is_marked}

-- out was printed into the buffer p₀, which is now p, and so it is told; it isn't longer than what is ever printed
abbrev pub Printed : List ℕ → List ℕ → Written → List ℕ → Type 0
Printed out p₀ w p = (w ≡ written_of out (length p₀)) × ((p ≡ buffer_after out p₀) × (length out ≤ most_printed))

-- so is what equals it
pub printed_as : {out new : List ℕ} (p₀ : List ℕ) {w : Written} {p : List ℕ} → new ≡ out → Printed out p₀ w p → Printed new p₀ w p
printed_as p₀ e h = rw e h

-- what a word prints for a file was printed; what comes after the first bytes of the file doesn't matter
abbrev pub PrintedFor : (Case → List ℕ) → List ℕ → List ℕ → Written → List ℕ → Type 0
PrintedFor word bs p₀ w p =
    let out = output_of word bs in
    (w ≡ written_of out (length p₀)) × ((p ≡ buffer_after out p₀) × ((out ≡ output_of word (take enough bs)) × (length out ≤ most_printed)))

pub printed_for : (word : Case → List ℕ) (bs p₀ : List ℕ) {w : Written} {p out : List ℕ} → output_of word bs ≡ out → Printed out p₀ w p → PrintedFor word bs p₀ w p
printed_for word bs p₀ e h =
    let q = printed_as p₀ e h in
    (q.0, (q.1.0, (sym (ap (output_after word) (collected_bounded bs)), q.1.1)))

-- what a word prints by what reading the file gives
abbrev output_by : (Case → List ℕ) → Result Case Told → List ℕ
output_by word r = elim r [ Ok c ↦ word c | Err t ↦ line_of t ]

read_by : (word : Case → List ℕ) (a : Answer) (c : Case) (n : ℕ) → cond (is_taken a) (word c) (line_of (refusal n a)) ≡ output_by word (case_by a c n)
read_by word (Ok tt) c n = refl
read_by word (Err a) c n = refl

module _ (word : Case → List ℕ) (bs p₀ : List ℕ) {r : Result Case Told} (read : r ≡ read_case bs) where
  output_read : output_of word bs ≡ output_by word r
  output_read = let r = collected_of empty_case bs in read_by word r.answer r.case r.taken ∙ sym (ap (output_by word) read)

  -- where all records are taken, what the word makes of the case was printed
  pub taken_printed : {c : Case} {w : Result ℕ WriteError} {p : List ℕ} → r ≡ Ok c → Printed (word c) p₀ w p → PrintedFor word bs p₀ w p
  taken_printed h = printed_for word bs p₀ (output_read ∙ ap (output_by word) h)

  -- where one is refused, its line was
  pub refused_printed : {t : Told} {w : Result ℕ WriteError} {p : List ℕ} → r ≡ Err t → Printed (line_of t) p₀ w p → PrintedFor word bs p₀ w p
  refused_printed h = printed_for word bs p₀ (output_read ∙ ap (output_by word) h)

-- ---- what was made

-- a case was made, or a record taken, where the answer says so
pub marked_ok : (a : Filling) → is_ok a ≡ is_marked a
marked_ok (Ok tt) = refl
marked_ok (Err a) = refl

pub taken_ok : (a : Answer) → is_ok a ≡ is_taken a
taken_ok (Ok tt) = refl
taken_ok (Err a) = refl

pub set_ok : (a : Setting) → is_ok a ≡ is_set a
set_ok (Ok tt) = refl
set_ok (Err a) = refl
