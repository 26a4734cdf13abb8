-- A file of one record gives what taking it gives, and bytes of another length are refused as no record. Assumes nothing.
use Rattle.std.specs.Prelude.{Err, Ok}
use mathlib.Core.Path.{◌≡◌, refl, ◌∙◌, sym, ap}
use mathlib.Core.Bool.{cond}
use mathlib.Core.List.{List, [], ◌∷◌}
use Prim.Native.Nat.{ℕ, ◌-◌}
use native.Mathlib.Omega.{arith}
use lib.ListN.{length, take, drop, length-drop}
use lib.Seq.{take_all}
use borrow.Author.Tests.{ne_eqb}
use Rattle.record.specs.Layout.{record_length, cut}
use Rattle.answers.specs.declared.Refusal.TheVariants.{NotARecord}
use Rattle.answers.specs.Answers.{Answer, is_taken}
use Rattle.checks.specs.Input.{head_of}
use Rattle.collector.specs.declared.Case.{Case}
use Rattle.collector.specs.declared.Taken.{Taken}
use Rattle.collector.specs.Taking.{Collected, taken_by, taken_of, collected_from, collected_of}
use Rattle.collector.proofs.Laws.{cut_end, cut_next}

cut_one : (bs : List ℕ) → length bs ≡ record_length → cut bs ≡ bs ∷ []
unfolding cut
cut_one bs h =
    cut_next (length bs) (length bs - 1) bs (omega arith) (omega arith)
    ∙ ap (λ rs. take record_length bs ∷ rs) (cut_end (length bs - 1) (drop record_length bs) (omega (arith, length-drop record_length bs)))
    ∙ ap (λ r. r ∷ []) (take_all record_length bs (omega arith))

-- what is told of a file, without the number of its records
abbrev pub answered : Collected → Taken
answered r = record { case = r.case; answer = r.answer }

one : (c : Case) (a : Answer) → answered (cond (is_taken a) (record { case = c; answer = Ok tt; taken = 1 }) (record { case = c; answer = a; taken = 0 })) ≡ record { case = c; answer = a }
one c (Ok tt) = refl
one c (Err a) = refl

pub run_one : (c : Case) (bs : List ℕ) → length bs ≡ record_length → answered (collected_of c bs) ≡ taken_of c bs
unfolding collected_of collected_from
run_one c bs h = ap (λ rs. answered (collected_from c 0 rs)) (cut_one bs h) ∙ one (taken_of c bs).case (taken_of c bs).answer

pub not_one : (c : Case) (bs : List ℕ) → (length bs ≡ record_length → ⊥) → record { case = c; answer = Err NotARecord } ≡ taken_of c bs
unfolding taken_of head_of
not_one c bs h =
    let e : head_of bs ≡ Err NotARecord = simp (ne_eqb _ _ h) in
    sym (ap (λ x. taken_by c x bs) e)
