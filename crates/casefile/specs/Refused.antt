-- A file with a record to which a refusal applies is answered the first refusal of the first such record, and leaves the case that the records before it
-- spell. Assumes nothing.
use Rattle.std.specs.Prelude.{◌≡◌, refl, ◌⊎◌, List, [], ◌∷◌, ◌++◌, Bool, true, false, ℕ, zero, suc, ◌+◌, get_or, take}
use Rattle.std.proofs.Common.{◌∙◌, sym, ap, subst, inl, inr, ⊎_elim, append-nil, true≢false, arith}
use Rattle.std.proofs.Math.Seq.{append_snoc}
use Rattle.laws.specs.Lowest.{neither_less}
use Rattle.laws.specs.Tests.{cond_by}
use Rattle.record.specs.Layout.{cut}
use Rattle.answers.specs.Answers.{is_taken, refusal, Answer}
use Rattle.rules.specs.Rules.{Applies, IsFirst}
use Rattle.rules.specs.Files.{rows_of, spelled_by, AllTaken, Refused}
use Rattle.collector.specs.declared.Case.{Case}
use Rattle.collector.specs.Taking.{Collected, taken_of, collected_from, collected_of}
use Rattle.collector.specs.Cases.{empty_case, items_of}
use Rattle.collector.specs.Sound.{Sound}
use Rattle.rules_laws.specs.Stages.{refuses}
use Rattle.rules_laws.specs.Kept.{sound_empty, sound_kept}
use Rattle.rules_laws.specs.First.{first_one}
use Rattle.rules_laws.specs.Theorems.{answers, refused}
use Rattle.rules_laws.specs.AllTaken.{spelled_more, all_taken}
use Rattle.casefile.specs.Answer.{answer_of}

module _ (ps rs : List (List ℕ)) (b : List ℕ) where
  -- record b is taken, and a later one refused
  later : (k : ℕ) (a : Answer) → ((w : Answer) → Applies (spelled_by ps) b w → ⊥) → Refused (ps ++ (b ∷ [])) rs k a → Refused ps (b ∷ rs) (suc k) a
  later k a none r =
      record {
        there = omega (arith, r.there);
        before =
            elim [
              | zero ↦ λ h. subst (λ l. (w : Answer) → Applies (spelled_by l) b w → ⊥) (sym (append-nil ps)) none
              | suc i ↦ λ h. subst (λ l. (w : Answer) → Applies (spelled_by l) (get_or rs i []) w → ⊥) (append_snoc ps b (take i rs)) (r.before i (omega arith))
            ];
        first = subst (λ l. IsFirst (spelled_by l) (get_or rs k []) a) (append_snoc ps b (take k rs)) r.first;
      }

  -- it is refused
  now : (a : Answer) → IsFirst (spelled_by ps) b a → Refused ps (b ∷ rs) 0 a
  now a f =
      record {
        there = omega arith;
        before = λ j h. absurd (omega arith);
        first = subst (λ l. IsFirst (spelled_by l) b a) (sym (append-nil ps)) f;
      }

-- there is one such record, and one such refusal
one_refusal : {ps rs : List (List ℕ)} {k j : ℕ} {a b : Answer} → Refused ps rs k a → Refused ps rs j b → (j ≡ k) × (b ≡ a)
one_refusal {ps} {rs} {k} {j} {a} {b} r q =
    let e : j ≡ k = neither_less (λ h. r.before j h b q.first.applies) (λ h. q.before k h a r.first.applies) in
    (e, first_one (spelled_by (ps ++ take k rs)) (get_or rs k []) b a (subst (λ i. IsFirst (spelled_by (ps ++ take i rs)) (get_or rs i []) b) e q.first) r.first)

-- collecting records, where one is refused: what it tells, and the case that it leaves
stops : (rs ps : List (List ℕ)) (c : Case) (m : ℕ) → Sound c → items_of c ≡ spelled_by ps → is_taken (collected_from c m rs).answer ≡ false →
    (k : ℕ) × Refused ps rs k (collected_from c m rs).answer × ((collected_from c m rs).taken ≡ m + k) × (items_of (collected_from c m rs).case ≡ spelled_by (ps ++ take k rs))
unfolding collected_from
stops [] ps c m s e = λ h. absurd (true≢false h)
stops (b ∷ rs) ps c m s e =
    let t = taken_of c b in
    let by = subst (λ x. ((is_taken t.answer ≡ true) × ((a : Answer) → Applies x b a → ⊥)) ⊎ IsFirst x b t.answer) e (answers c b s) in
    cond_by
    (λ (r : Collected). is_taken r.answer ≡ false →
    (k : ℕ) × Refused ps (b ∷ rs) k r.answer × (r.taken ≡ m + k) × (items_of r.case ≡ spelled_by (ps ++ take k (b ∷ rs))))
    (is_taken t.answer) {x = collected_from t.case (m + 1) rs} {y = record { case = t.case; answer = t.answer; taken = m }}
    (λ w h.
    let (k, r, n, l) = stops rs (ps ++ (b ∷ [])) t.case (m + 1) (sound_kept c b s) (spelled_more c ps b s e w) h in
    let none = ⊎_elim (λ y. y.1) (λ f. absurd (true≢false (sym w ∙ refuses (spelled_by ps) b t.answer f.applies))) by in
    (suc k, later ps rs b k _ none r, omega (arith, n), l ∙ ap spelled_by (append_snoc ps b (take k rs))))
    (λ w h. (
      0,
      now ps rs b t.answer (⊎_elim (λ y. absurd (true≢false (sym y.0 ∙ w))) (λ f. f) by),
      omega arith,
      ap items_of (refused c b w) ∙ e ∙ ap spelled_by (sym (append-nil ps)),
    ))

-- the numbers of a file of which record k is refused, and the case that is held: the one that the records before it spell
abbrev pub StopsAt : List ℕ → ℕ → Answer → Type 0
StopsAt bs k a = (answer_of bs ≡ refusal k a) × (items_of (collected_of empty_case bs).case ≡ spelled_by (take k (cut bs)))

ends : (bs : List ℕ) → AllTaken (cut bs) ⊎ ((k : ℕ) × (a : Answer) × Refused [] (cut bs) k a × StopsAt bs k a)
unfolding answer_of collected_of empty_case rows_of
ends bs = go (is_taken (collected_of empty_case bs).answer) refl
  where
    go : (t : Bool) → is_taken (collected_of empty_case bs).answer ≡ t → AllTaken (cut bs) ⊎ ((k : ℕ) × (a : Answer) × Refused [] (cut bs) k a × StopsAt bs k a)
    go true e = inl ((all_taken bs).1 e)
    go false e =
        let (k, r, n, l) = stops (cut bs) [] empty_case 0 sound_empty refl e in
        let m : (collected_of empty_case bs).taken ≡ k = omega (arith, n) in
        inr (k, (collected_of empty_case bs).answer, r, (rw e (ap (λ i. refusal i (collected_of empty_case bs).answer) m), l))

-- all records of a file are taken, or there is a first that is refused
pub file_refused : (bs : List ℕ) → AllTaken (cut bs) ⊎ ((k : ℕ) × (a : Answer) × Refused [] (cut bs) k a)
file_refused bs = ⊎_elim inl (λ (k, a, r, _). inr (k, a, r)) (ends bs)

-- where record k is, the file is answered its refusal, and the case is the one that the records before it spell
pub file_ends : (bs : List ℕ) (k : ℕ) (a : Answer) → Refused [] (cut bs) k a → StopsAt bs k a
file_ends bs k a r =
    ⊎_elim (λ t. absurd (t k r.there a r.first.applies))
    (λ (j, b, q, e). let (i, f) = one_refusal r q in subst (StopsAt bs k) f (subst (λ n. StopsAt bs n b) i e)) (ends bs)
