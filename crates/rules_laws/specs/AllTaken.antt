-- The records of a file are all taken, by the rules, exactly where the collector takes them to their end. Assumes nothing.
use Rattle.std.specs.Prelude.{◌≡◌, refl, ◌↔◌, List, [], ◌∷◌, ◌++◌, map, Bool, true, false, cond, ℕ, zero, suc, ◌+◌, ◌<◌, eqb, length, get_or, take}
use Rattle.std.proofs.Common.{◌∙◌, sym, ap, subst, ⊎_elim, append-nil, true≢false, arith}
use Rattle.std.proofs.lemmas.List.{map-append}
use Rattle.std.proofs.Math.Seq.{append_snoc}
use Rattle.record.specs.declared.Field.{Field}
use Rattle.record.specs.Layout.{record_of, cut}
use Rattle.kinds.specs.declared.Kind.{Kind}
use Rattle.kinds.specs.Kinds.{letter_of}
use Rattle.items.specs.Items.{item_of}
use Rattle.items.specs.Lists.{list_of}
use Rattle.answers.specs.Answers.{is_taken, Answer}
use Rattle.rules.specs.Rules.{Applies}
use Rattle.items.specs.Laws.{list_by, items_same}
use Rattle.rules.specs.Files.{rows_of, spelled_by, AllTaken}
use Rattle.collector.specs.declared.Case.{Case}
use Rattle.collector.specs.Cases.{empty_case, items_of}
use Rattle.collector.specs.Taking.{taken_of, collected_from, collected_of}
use Rattle.collector.specs.Sound.{Sound}
use Rattle.rules_laws.specs.Stages.{refuses}
use Rattle.rules_laws.specs.Held.{taken_with}
use Rattle.rules_laws.specs.Kept.{sound_empty, sound_kept}
use Rattle.rules_laws.specs.Spelled.{lists_more, goes_on}
use Rattle.rules_laws.specs.First.{answers_first}

-- ---- the case that records spell

-- its items of kind k, record by record
spelled_list : (k : Kind) (rs : List (List ℕ)) → list_of k (spelled_by rs) ≡ map (item_of k) (rows_of k rs)
spelled_list k rs = list_by (λ j. map (item_of j) (rows_of j rs)) k

pub rows_append : (k : Kind) (rs qs : List (List ℕ)) → rows_of k (rs ++ qs) ≡ rows_of k rs ++ rows_of k qs
unfolding rows_of
rows_append k [] qs = refl
rows_append k (b ∷ rs) qs =
    go (eqb (get_or b 0 0) (letter_of k)) (record_of b).fields (rows_of k (rs ++ qs)) (rows_of k rs) (rows_of k qs) (rows_append k rs qs)
  where
    go : (t : Bool) (r : List Field) (l m n : List (List Field)) → l ≡ m ++ n → cond t (r ∷ l) l ≡ cond t (r ∷ m) m ++ n
    go true r l m n e = ap (λ q. r ∷ q) e
    go false r l m n e = e

pub spelled_append : (k : Kind) (rs qs : List (List ℕ)) → list_of k (spelled_by (rs ++ qs)) ≡ list_of k (spelled_by rs) ++ map (item_of k) (rows_of k qs)
spelled_append k rs qs =
    spelled_list k (rs ++ qs)
    ∙ ap (map (item_of k)) (rows_append k rs qs)
    ∙ map-append (item_of k) (rows_of k rs) (rows_of k qs)
    ∙ ap (λ l. l ++ map (item_of k) (rows_of k qs)) (sym (spelled_list k rs))

-- ---- taking them

-- what the collector holds after a taken record is spelled by one record more
pub spelled_more : (c : Case) (ps : List (List ℕ)) (b : List ℕ) → Sound c → items_of c ≡ spelled_by ps → is_taken (taken_of c b).answer ≡ true →
    items_of (taken_of c b).case ≡ spelled_by (ps ++ (b ∷ []))
unfolding rows_of
spelled_more c ps b s e h =
    items_same (λ k.
    sym (append-nil (list_of k (items_of (taken_of c b).case)))
    ∙ lists_more c b [] (taken_with c b h) s k
    ∙ ap (λ x. list_of k x ++ map (item_of k) (rows_of k (b ∷ []))) e
    ∙ sym (spelled_append k ps (b ∷ [])))

-- no refusal applies to the record b, or to any of the records qs, where the records ps come before
abbrev None : List (List ℕ) → List ℕ → Type 0
None ps b = (a : Answer) → Applies (spelled_by ps) b a → ⊥

abbrev AllAfter : List (List ℕ) → List (List ℕ) → Type 0
AllAfter ps qs = (k : ℕ) → k < length qs → None (ps ++ take k qs) (get_or qs k [])

module _ (ps : List (List ℕ)) (b : List ℕ) where
  after_cons : (qs : List (List ℕ)) → AllAfter ps (b ∷ qs) ↔ (None ps b × AllAfter (ps ++ (b ∷ [])) qs)
  after_cons qs = (
    λ h. (
      subst (λ l. None l b) (append-nil ps) (h 0 (omega arith)),
      λ k l. subst (λ l. None l (get_or qs k [])) (sym (append_snoc ps b (take k qs))) (h (suc k) (omega arith)),
    ),
    λ h. elim [
      | zero ↦ λ l. subst (λ l. None l b) (sym (append-nil ps)) h.0
      | suc j ↦ λ l. subst (λ l. None l (get_or qs j [])) (append_snoc ps b (take j qs)) (h.1 j (omega arith))
    ],
  )

  -- the collector takes a record where no refusal applies
  none_applies : (c : Case) → Sound c → items_of c ≡ spelled_by ps → None ps b ↔ (is_taken (taken_of c b).answer ≡ true)
  none_applies c s e =
      let a = (taken_of c b).answer in
      subst (λ x. ((w : Answer) → Applies x b w → ⊥) ↔ (is_taken a ≡ true)) e
      (⊎_elim (λ t. (λ n. t.0, λ h. t.1))
      (λ f. (λ n. absurd (n a f.applies), λ h. absurd (true≢false (sym h ∙ refuses (items_of c) b a f.applies))))
      (answers_first c b s))

taken_on : (qs ps : List (List ℕ)) (c : Case) (m : ℕ) → Sound c → items_of c ≡ spelled_by ps →
    AllAfter ps qs ↔ (is_taken (collected_from c m qs).answer ≡ true)
unfolding collected_from
taken_on [] ps c m s e = (λ h. refl, λ h k l. absurd (omega arith))
taken_on (b ∷ qs) ps c m s e =
    let t = taken_of c b in
    let one = none_applies ps b c s e in
    let rest : is_taken t.answer ≡ true → AllAfter (ps ++ (b ∷ [])) qs ↔ (is_taken (collected_from t.case (m + 1) qs).answer ≡ true) =
    λ w. taken_on qs (ps ++ (b ∷ [])) t.case (m + 1) (sound_kept c b s) (spelled_more c ps b s e w) in (
      λ h. let p = (after_cons ps b qs).0 h in let w = one.0 p.0 in rw w ((rest w).0 p.1),
      λ h.
          let p = goes_on (is_taken t.answer) _ _ refl h in
          (after_cons ps b qs).1 (one.1 p.0, (rest p.0).1 (subst (λ q. is_taken q.answer ≡ true) p.1 h)),
    )

-- the records of a file are all taken exactly where the collector takes the file to its end
pub all_taken : (bs : List ℕ) → AllTaken (cut bs) ↔ (is_taken (collected_of empty_case bs).answer ≡ true)
unfolding collected_of empty_case rows_of
all_taken bs = taken_on (cut bs) [] empty_case 0 sound_empty refl
