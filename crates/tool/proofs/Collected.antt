-- What is printed, by what is collected from a file. (The functions of src/ go by what `read_case` gives: Laws.antt.) Assumes nothing.
use mathlib.Core.Path.{◌≡◌, ◌∙◌, sym, ap}
use mathlib.Core.List.{List}
use mathlib.Core.Bool.{Bool, true, false, cond}
use Prim.Native.Nat.{ℕ}
use Rattle.answers.specs.declared.Told.{Told}
use Rattle.answers.specs.Answers.{is_taken, refusal, Written}
use Rattle.collector.specs.declared.Case.{Case}
use Rattle.collector.specs.Cases.{empty_case}
use Rattle.collector.specs.Sound.{Sound}
use Rattle.collector.specs.Taking.{Collected, collected_of}
use Rattle.rules_laws.specs.Theorems.{sound}
use Rattle.output.specs.Line.{line_of}
use Rattle.tool.specs.Outputs.{output_after, output_of}
use Rattle.tool.proofs.Laws.{Printed, PrintedFor, printed_for}

-- r was collected from a file
module _ (bs : List ℕ) {e : Case} {r : Collected} (empty : e ≡ empty_case) (collected : r ≡ collected_of e bs) where
  from_empty : r ≡ collected_of empty_case bs
  from_empty = collected ∙ ap (λ c. collected_of c bs) empty

  -- its case is sound
  pub collected_sound : Sound r.case
  collected_sound = rw from_empty (sound _)

  -- what it says of its last record, t, says what a word prints
  module _ (word : Case → List ℕ) (p₀ : List ℕ) {t : Bool} (said : t ≡ is_taken r.answer) where
    output_by : {u : Bool} → t ≡ u → output_of word bs ≡ cond u (word r.case) (line_of (refusal r.taken r.answer))
    output_by h =
        sym (ap (output_after word) from_empty) ∙ ap (λ b. cond b (word r.case) (line_of (refusal r.taken r.answer))) (sym said ∙ h)

    -- where it is taken, what the word makes of the case was printed
    pub taken_printed : {w : Written} {p : List ℕ} → t ≡ true → Printed (word r.case) p₀ w p → PrintedFor word bs p₀ w p
    taken_printed h = printed_for word bs p₀ (output_by h)

    -- where it is refused, its line was
    pub refused_printed : {w : Written} {p : List ℕ} {n : Told} → t ≡ false → n ≡ refusal r.taken r.answer → Printed (line_of n) p₀ w p →
        PrintedFor word bs p₀ w p
    refused_printed h q = printed_for word bs p₀ (output_by h ∙ sym (ap line_of q))
