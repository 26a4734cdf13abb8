-- Taking never looks at the number of rounds, but for its range: two files that differ in it alone are taken alike. Assumes nothing.
use Rattle.std.specs.Prelude.{◌≡◌, List, [], ◌∷◌, ◌++◌, Bool, true, false, cond, ℕ, zero, suc, ◌+◌, ℤ, get_or}
use Rattle.std.proofs.Math.Path.{refl, sym, ap, fun_ext}
use Rattle.std.proofs.Common.{◌∙◌, ap₂, subst, subst₂}
use Rattle.laws.specs.Lowest.{lowest}
use Rattle.record.specs.declared.Content.{Content}
use Rattle.record.specs.declared.Content.TheVariants.{Blank, Number, Bad}
use Rattle.record.specs.declared.Field.{Field}
use Rattle.record.specs.declared.Record.{Record}
use Rattle.record.specs.Layout.{fields, record_of, at}
use Rattle.kinds.specs.declared.Kind.{Kind}
use Rattle.kinds.specs.declared.Kind.TheVariants.{Place}
use Rattle.kinds.specs.declared.Counts.{Counts}
use Rattle.kinds.specs.Kinds.{same}
use Rattle.kinds.specs.Laws.{one_kind}
use Rattle.table.specs.Sorts.{Rounds, range_of}
use Rattle.table.specs.Table.{shape_of, rule_at}
use Rattle.items.specs.Items.{place_of, mark_of}
use Rattle.answers.specs.Answers.{is_taken}
use Rattle.checks.specs.declared.Fault.{Fault}
use Rattle.checks.specs.declared.Fault.TheVariants.{Misspelled, Missing, Extra, OutOfRange, NotThere}
use Rattle.checks.specs.Faults.{bad_byte, beyond, has_fault, lowest_fault}
use Rattle.checks.specs.Input.{head_of, range_answer, extra_answer, missing_answer, form_answer, fields_answer}
use Rattle.rules.specs.Rules.{IsA}
use Rattle.standing.specs.declared.Loops.{Loops}
use Rattle.standing.specs.Standing.{loops_after, record_answer, order_answer, room_answer, there_answer, place_answer, mark_answer, way_answer}
use Rattle.collector.specs.declared.Case.{Case}
use Rattle.collector.specs.declared.Taken.{Taken}
use Rattle.collector.specs.Taking.{Collected, taken_as, taken_by, taken_of, collected_from}
use Rattle.collector.specs.Cases.{one_more, with}
use Rattle.rules_laws.specs.Letters.{by_head}
use Rattle.meaning_laws.specs.Around.{row_with}

-- ---- what taking looks at in a case

-- two cases have the same counts, and the same loops beside the items; two results so, and one answer
abbrev Same : Case → Case → Type 0
Same c d = (c.count ≡ d.count) × (c.loops ≡ d.loops)

abbrev SameResult : Taken → Taken → Type 0
SameResult t u = (t.answer ≡ u.answer) × Same t.case u.case

same_with : (c d : Case) → Same c d → (k : Kind) (r : List Field) → Same (with c k r) (with d k r)
same_with c d s k r =
    (ap (λ n. one_more n k) s.0, ap₂ (λ l n. cond (same k Place) (loops_after l n.places (place_of r).mark) l) s.1 s.0)

-- two rows of kind k are answered alike, and their items leave the same counts and loops
record AlikeAs (k : Kind) (r q : Record) : Type 0 where
  answer : (n : Counts) (l : Loops) → record_answer n l k r ≡ record_answer n l k q
  item : (c : Case) → Same (with c k r.fields) (with c k q.fields)

-- two records are taken alike, and so are two rows of records, where the cases held are alike
abbrev Alike : List ℕ → List ℕ → Type 0
Alike b e = (c d : Case) → Same c d → SameResult (taken_of c b) (taken_of d e)

abbrev AllAlike : List (List ℕ) → List (List ℕ) → Type 0
AllAlike rs qs = (c d : Case) (m : ℕ) → Same c d → (collected_from c m rs).answer ≡ (collected_from d m qs).answer

alike_as : (c d : Case) (k : Kind) (r q : Record) → Same c d → AlikeAs k r q → SameResult (taken_as c k r) (taken_as d k q)
unfolding taken_as
alike_as c d k r q s a =
    let t = is_taken (record_answer c.count c.loops k r) in
    (e, subst (λ u. Same (cond t (with c k r.fields) c) (cond u (with d k q.fields) d)) (ap is_taken e) (go t))
  where
    e : record_answer c.count c.loops k r ≡ record_answer d.count d.loops k q
    e = ap₂ (λ n l. record_answer n l k r) s.0 s.1 ∙ a.answer d.count d.loops

    go : (t : Bool) → Same (cond t (with c k r.fields) c) (cond t (with d k q.fields) d)
    go true = let u = same_with c d s k r.fields in let v = a.item d in (u.0 ∙ v.0, u.1 ∙ v.1)
    go false = s

-- records with one head whose rows are alike are taken alike
alike_by : (b e : List ℕ) → head_of e ≡ head_of b → ((k : Kind) → IsA k b → AlikeAs k (record_of b) (record_of e)) → Alike b e
unfolding taken_of
alike_by b e h f c d s =
    subst (λ w. SameResult (taken_by c (head_of b) b) (taken_by d w e)) (sym h)
    (by_head b (λ w. SameResult (taken_by c w b) (taken_by d w e))
    (λ p. (refl, s)) (λ p q. (refl, s)) (λ p q r. (refl, s)) (λ p q k is. alike_as c d k (record_of b) (record_of e) s (f k is)))

alike_self : (b : List ℕ) → Alike b b
alike_self b = alike_by b b refl (λ k is. record { answer = λ n l. refl; item = λ c. (refl, refl) })

-- ---- a place

-- a number of rounds in its range
abbrev pub RoundsInRange : ℤ → Type 0
RoundsInRange z = beyond (range_of Rounds) (Number z) ≡ false

module _ (g : ℕ → Field) where
  -- the place with z rounds
  abbrev rounds : ℤ → Record
  rounds z = record { fields = row_with g (Number z) }

  module _ (y z : ℤ) (p : RoundsInRange y) (q : RoundsInRange z) where
    -- what is one for both rounds is one for the rows, field by field
    same_row : {A : Type 0} (t : ℕ → Content → A) → t 5 (Number y) ≡ t 5 (Number z) → (k : ℕ) → t k (at (rounds y).fields k) ≡ t k (at (rounds z).fields k)
    same_row t e zero = refl
    same_row t e (suc zero) = refl
    same_row t e (suc (suc zero)) = refl
    same_row t e (suc (suc (suc zero))) = refl
    same_row t e (suc (suc (suc (suc zero)))) = refl
    same_row t e (suc (suc (suc (suc (suc zero))))) = e
    same_row t e (suc (suc (suc (suc (suc (suc k)))))) = refl

    abbrev fault : Fault → ℕ → Content → Bool
    fault f k c = has_fault f (rule_at (shape_of Place (rounds z)) k) c

    same_fault : (f : Fault) → fault f 5 (Number y) ≡ fault f 5 (Number z)
    unfolding rule_at shape_of
    same_fault Misspelled = refl
    same_fault Missing = refl
    same_fault Extra = refl
    same_fault OutOfRange = p ∙ sym q
    same_fault (NotThere n) = refl

    same_lowest : (f : Fault) → lowest_fault f (shape_of Place (rounds y)) (rounds y) ≡ lowest_fault f (shape_of Place (rounds z)) (rounds z)
    unfolding lowest_fault shape_of
    same_lowest f = ap (lowest fields 1) (fun_ext (same_row (fault f) (same_fault f)))

    same_answer : (n : Counts) (l : Loops) → record_answer n l Place (rounds y) ≡ record_answer n l Place (rounds z)
    unfolding record_answer fields_answer form_answer missing_answer extra_answer range_answer order_answer room_answer there_answer place_answer mark_answer way_answer shape_of
    same_answer n l = rw (same_lowest Misspelled, same_row (λ k. bad_byte) refl, same_lowest Missing, same_lowest Extra, same_lowest OutOfRange, same_lowest (NotThere n))

    same_loops : (l : Loops) (n : ℕ) (c b : Content) → loops_after l n (mark_of c (Number y) b) ≡ loops_after l n (mark_of c (Number z) b)
    unfolding mark_of
    same_loops l n Blank b = refl
    same_loops l n (Number x) b = refl
    same_loops l n (Bad i) b = refl

    alike_rounds : AlikeAs Place (rounds y) (rounds z)
    unfolding place_of
    alike_rounds =
        record {
          answer = same_answer;
          item = λ c. (refl, same_loops c.loops c.count.places (g 4).content (g 6).content);
        }

-- two records of places that differ in their rounds alone are taken alike
pub alike_places : (b e : List ℕ) (g : ℕ → Field) (y z : ℤ) → IsA Place b → head_of e ≡ head_of b → RoundsInRange y → RoundsInRange z →
    record_of b ≡ rounds g y → record_of e ≡ rounds g z → Alike b e
alike_places b e g y z is h p q v w =
    alike_by b e h (λ k a.
    subst (λ j. AlikeAs j (record_of b) (record_of e)) (one_kind (get_or b 0 0) Place k is a)
    (subst₂ (AlikeAs Place) (sym v) (sym w) (alike_rounds g y z p q)))

-- ---- rows of records

answer_cond : (t : Bool) (p q : Collected) → (cond t p q).answer ≡ cond t p.answer q.answer
answer_cond true p q = refl
answer_cond false p q = refl

alike_cons : (b e : List ℕ) (rs qs : List (List ℕ)) → Alike b e → AllAlike rs qs → AllAlike (b ∷ rs) (e ∷ qs)
unfolding collected_from
alike_cons b e rs qs a f c d m s =
    let w = a c d s in
    answer_cond (is_taken (taken_of c b).answer) _ _
    ∙ ap₂ (λ v u. cond (is_taken v) u v) w.0 (f (taken_of c b).case (taken_of d e).case (m + 1) w.1)
    ∙ sym (answer_cond (is_taken (taken_of d e).answer) _ _)

alike_on : (ps rs qs : List (List ℕ)) → AllAlike rs qs → AllAlike (ps ++ rs) (ps ++ qs)
alike_on [] rs qs f = f
alike_on (b ∷ ps) rs qs f = alike_cons b b (ps ++ rs) (ps ++ qs) (alike_self b) (alike_on ps rs qs f)

all_self : (rs : List (List ℕ)) → AllAlike rs rs
unfolding collected_from
all_self [] = λ c d m s. refl
all_self (b ∷ rs) = alike_cons b b rs rs (alike_self b) (all_self rs)

-- with either of two records that are taken alike, the others are taken alike
pub same_collected : (ps qs : List (List ℕ)) (b e : List ℕ) → Alike b e → (c : Case) (m : ℕ) →
    (collected_from c m (ps ++ (b ∷ qs))).answer ≡ (collected_from c m (ps ++ (e ∷ qs))).answer
same_collected ps qs b e a c m = alike_on ps (b ∷ qs) (e ∷ qs) (alike_cons b e qs qs a (all_self qs)) c c m (refl, refl)
