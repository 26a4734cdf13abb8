-- What the words `fill`, `rounds` and `set` say of files: start here. `tool::fill`, `tool::rounds` and `tool::set` (tool/src/lib.rt) print `fill_output`, `rounds_output`
-- and `set_output` of a file's bytes. Assumes nothing.
--
-- To be read with this file: meaning/specs/Files.antt (the files that are accepted), Marking.antt (a case with other marks, right marks) and Spans.antt (loops by number, the rounds that a loop may have, the record of a place), output/specs/Line.antt (a line), and of
-- loops_laws/specs/File.antt `Respelled`: two files alike in every byte but those of one rounds field; of OtherMarks.antt `OtherMarks`: but those of marks.
use Rattle.std.specs.Prelude.{◌≡◌, ◌↔◌, List, ◌++◌, false, cond, ℕ, ◌≤◌, length, Ok}
use Rattle.std.proofs.Common.{sym, ◌∙◌}
use Rattle.std.proofs.Math.Path.{ap, subst}
use Rattle.record.specs.Layout.{cut}
use Rattle.items.specs.Lists.{Items}
use Rattle.items.specs.File.{file_of}
use Rattle.answers.specs.Answers.{refusal, numbers, filling_numbers, span_numbers, is_set, setting_numbers, Filling}
use Rattle.rules.specs.Files.{spelled, AllTaken}
use Rattle.collector.specs.declared.Case.{Case}
use Rattle.collector.specs.Cases.{empty_case, items_of}
use Rattle.collector.specs.Taking.{collected_of}
use Rattle.rules_laws.specs.AllTaken.{all_taken}
use Rattle.rules_laws.specs.Theorems.{sound, file_spells, file_back}
use Rattle.meaning.specs.Judged.{start_of, root, TrueAt, Finished, IsAccepted}
use Rattle.meaning.specs.Files.{FileAccepted}
use Rattle.meaning.specs.Marking.{with_marks, RightMarks}
use Rattle.meaning.specs.Rounds.{with_rounds}
use Rattle.meaning.specs.Spans.{IsCounted, MayHave, AcceptedWith, place_record}
use Rattle.fill_laws.specs.Unlooked.{same_start}
use Rattle.fill.specs.Filled.{Filled, filled_case}
use Rattle.fill.specs.Says.{FillSays}
use Rattle.fill.specs.Theorems.{fill_answers, filled_sound, filled_right, filled_accepted}
use Rattle.loops_laws.specs.File.{Respelled, respelled, respelled_other}
use Rattle.loops.specs.Planned.{set_case}
use Rattle.loops.proofs.SetTheorems.{set_answers, set_items}
use Rattle.loops.specs.Theorems.{accepted_span}
use Rattle.output.specs.Line.{line_of}
use Rattle.product.specs.Product.{product_of}
use Rattle.casefile.specs.Taken.{case_is}
use Rattle.tool.specs.Outputs.{output_of, made_output, is_marked, case_filled, fill_output, case_span, rounds_output, case_set, set_output}
use Rattle.tool.specs.OtherMarks.{OtherMarks, marks_other}

-- what a word prints for the case that is held is printed for the file
printed : (bs : List ℕ) → AllTaken (cut bs) → (word : Case → List ℕ) → output_of word bs ≡ word (collected_of empty_case bs).case
printed bs t word =
    let r = collected_of empty_case bs in
    ap (λ b. cond b (word r.case) (line_of (refusal r.taken r.answer))) ((all_taken bs).0 t)

-- ---- fill

-- a file whose records are all taken
module _ (bs : List ℕ) (t : AllTaken (cut bs)) where
  -- the case that is held, and what filling hands back
  abbrev held : Case
  held = (collected_of empty_case bs).case

  abbrev full : Filled
  full = filled_case held

  answered : (a : Filling) → FillSays (spelled bs) a → (filled_case (collected_of empty_case bs).case).answer ≡ a
  answered a f = (fill_answers held (sound bs) a).1 (subst (λ (y : Items). FillSays y a) (sym (case_is bs t)) f)

  output : (a : Filling) → FillSays (spelled bs) a →
      fill_output bs ≡ made_output (is_marked a) (filled_case (collected_of empty_case bs).case).case (filling_numbers a)
  unfolding fill_output case_filled
  output a f = printed bs t case_filled ∙ ap (λ b. made_output (is_marked b) full.case (filling_numbers b)) (answered a f)

  -- where no marks can be filled in, `fill` prints the line of the answer that says why
  pub fill_refused : (a : Filling) → is_marked a ≡ false → FillSays (spelled bs) a → fill_output bs ≡ line_of (filling_numbers a)
  fill_refused a e f = output a f ∙ ap (λ b. made_output b full.case (filling_numbers a)) e

  -- where they can, it prints behind its line a file cs that is alike but for the marks of places: all its records are taken, it spells the case of the file with
  -- other marks, and these are right. And cs is accepted exactly where the last sentence is true at the start
  pub fill_printed : FillSays (spelled bs) (Ok tt) →
      (cs : List ℕ) × (μ : ℕ → ℕ)
      × (fill_output bs ≡ line_of (numbers 0 (length cs) 0) ++ cs)
      × OtherMarks bs cs
      × AllTaken (cut cs)
      × (spelled cs ≡ with_marks (spelled bs) μ)
      × RightMarks (spelled cs) (start_of (spelled cs))
      × (FileAccepted cs ↔ TrueAt (spelled bs) (start_of (spelled bs)) (root (spelled bs)) 0)
  unfolding product_of
  fill_printed f =
      let x = items_of held in
      let i : x ≡ spelled bs = case_is bs t in
      let e = answered (Ok tt) f in
      let (μ, h, r) = filled_right held (sound bs) e in
      let (u, v) = file_spells full.case (filled_sound held (sound bs)) in
      let a = filled_accepted held (sound bs) e in
      let Accepted : Items → Type 0 = λ y. IsAccepted y (start_of y) in (
        file_of (items_of full.case),
        μ,
        output (Ok tt) f,
        subst (λ ds. OtherMarks ds (file_of (items_of full.case))) (ap file_of i ∙ file_back bs t) (marks_other (sound bs) (filled_sound held (sound bs)) μ h),
        u,
        v ∙ h ∙ ap (λ (y : Items). with_marks y μ) i,
        subst (λ (y : Items). RightMarks y (start_of y)) (sym (v ∙ h)) (subst (RightMarks (with_marks x μ)) (sym (same_start x μ)) r),
        subst (λ (y : Items). FileAccepted (file_of (items_of full.case)) ↔ TrueAt y (start_of y) (root y) 0) i
            (λ g. a.0 (subst Accepted v g.case), λ g. record { taken = u; case = subst Accepted (sym v) (a.1 g) }),
      )

-- ---- rounds and set

-- a file whose records are all taken, and a counted loop of it: place p begins loop k, which has m rounds
module _ (bs : List ℕ) (t : AllTaken (cut bs)) {k p m : ℕ} (h : IsCounted (spelled bs).places k p m) where
  -- the case that is held
  abbrev c : Case
  c = (collected_of empty_case bs).case

  -- a file alike but for n rounds of that loop is accepted exactly where the case is with them
  accepted_alike : {n : ℕ} {cs : List ℕ} → MayHave n → Respelled bs cs (place_record (spelled bs) p) m n → FileAccepted cs ↔ AcceptedWith (spelled bs) p n
  accepted_alike may r =
      let (u, e) = respelled_other t h may r in (
        λ a. subst (λ (y : Items). IsAccepted y (start_of y)) e a.case,
        λ a. record { taken = u; case = subst (λ (y : Items). IsAccepted y (start_of y)) (sym e) a },
      )

  -- of an accepted file `rounds` prints two numbers a and b, and of the files that are alike but for the rounds of that loop, from 1 to 1,000,000, exactly those
  -- with a to b are accepted
  pub rounds_printed : FileAccepted bs →
      (a : ℕ) × (b : ℕ) × (rounds_output k bs ≡ line_of (numbers 0 a b))
      × ((n : ℕ) (cs : List ℕ) → MayHave n → Respelled bs cs (place_record (spelled bs) p) m n → FileAccepted cs ↔ ((a ≤ n) × (n ≤ b)))
  unfolding rounds_output case_span
  rounds_printed f =
      let i = case_is bs t in
      let (a, b, e, w) = accepted_span c (sound bs) k (subst (λ (y : Items). IsCounted y.places k p m) (sym i) h) (subst (λ (y : Items). IsAccepted y (start_of y)) (sym i) f.case) in (
        a,
        b,
        printed bs t (case_span k) ∙ ap (λ r. line_of (span_numbers r)) e,
        λ n cs may r.
            let u = accepted_alike may r in
            let v = subst (λ (y : Items). AcceptedWith y p n ↔ ((a ≤ n) × (n ≤ b))) i (w n may) in
            (λ g. v.0 (u.0 g), λ l. u.1 (v.1 l)),
      )

  -- of a finished file `set` prints a file that is alike but for n rounds in that loop, behind its line
  pub set_printed : Finished (spelled bs) → (n : ℕ) → MayHave n →
      (cs : List ℕ) × Respelled bs cs (place_record (spelled bs) p) m n × (set_output k n bs ≡ line_of (numbers 0 (length cs) 0) ++ cs)
  unfolding set_output case_set product_of
  set_printed f n may =
      let i = case_is bs t in
      let g = subst (λ (y : Items). IsCounted y.places k p m) (sym i) h in
      let e = (set_answers c (sound bs) k n (Ok tt)).1 (subst Finished (sym i) f, may, (p, m, g)) in
      let y : items_of (set_case c k n).case ≡ with_rounds (spelled bs) p n = set_items c (sound bs) k n g e ∙ ap (λ x. with_rounds x p n) i in (
        file_of (with_rounds (spelled bs) p n),
        respelled bs t h may,
        printed bs t (case_set k n)
            ∙ ap (λ a. made_output (is_set a) (set_case c k n).case (setting_numbers a)) e
            ∙ ap (λ x. line_of (numbers 0 (length (file_of x)) 0) ++ file_of x) y,
      )
