-- A file that is taken to its end gives the case that it spells: its items, their fields again, and their number. Assumes nothing.
use Rattle.std.specs.Prelude.{◌≡◌, refl, List, [], ◌∷◌, ◌++◌, map, Bool, true, false, ℕ, ◌+◌, length, get_or}
use Rattle.std.proofs.Common.{◌∙◌, sym, ap₂, subst, append-nil, true≢false, arith, eq-eqb}
use Rattle.std.proofs.Math.Path.{ap}
use Rattle.std.proofs.Math.Bool.{cond}
use Rattle.std.proofs.Math.Dec.{eqb}
use Rattle.std.proofs.Math.Seq.{append_snoc}
use Rattle.laws.specs.All.{sum_over}
use Rattle.record.specs.declared.Field.{Field}
use Rattle.record.specs.Layout.{record_of, cut}
use Rattle.kinds.specs.declared.Kind.{Kind}
use Rattle.kinds.specs.declared.Counts.{Counts}
use Rattle.kinds.specs.Kinds.{letter_of, count_of, counts_total}
use Rattle.kinds.specs.Laws.{by_kind, over_more}
use Rattle.items.specs.Items.{item_of, row_of}
use Rattle.items.specs.Lists.{list_of, items_by}
use Rattle.answers.specs.Answers.{is_taken}
use Rattle.rules.specs.Files.{rows_of, spelled_by, item_count}
use Rattle.collector.specs.declared.Case.{Case}
use Rattle.collector.specs.Taking.{Collected, taken_of, collected_from, collected_of}
use Rattle.collector.specs.Cases.{items_of, one_more, empty_case}
use Rattle.rules_laws.specs.Fields.{fields_again}
use Rattle.collector.specs.Sound.{Sound}
use Rattle.rules_laws.specs.Held.{IsTaken, same_kind, other_list, counts_are, empty_list, taken_with}
use Rattle.rules_laws.specs.Kept.{sound_empty, sound_kept}

-- ---- one record

-- a record gives its fields to its own kind, and nothing to another
module _ (b : List ℕ) (rs : List (List ℕ)) (k : Kind) (e : get_or b 0 0 ≡ letter_of k) where
  pub rows_same : rows_of k (b ∷ rs) ≡ (record_of b).fields ∷ rows_of k rs
  unfolding rows_of
  rows_same = ap (λ t. cond t ((record_of b).fields ∷ rows_of k rs) (rows_of k rs)) (eq-eqb (get_or b 0 0) (letter_of k) e)

  pub rows_other : (j : Kind) → eqb (letter_of k) (letter_of j) ≡ false → rows_of j (b ∷ rs) ≡ rows_of j rs
  unfolding rows_of
  rows_other j o =
      ap (λ t. cond t ((record_of b).fields ∷ rows_of j rs) (rows_of j rs)) (ap (λ n. eqb n (letter_of j)) e ∙ o)

total_more : (n : Counts) (k : Kind) → counts_total (one_more n k) ≡ counts_total n + 1
unfolding sum_over
total_more n k = over_more (count_of n) k

empty_size : item_count (items_of empty_case) ≡ 0
unfolding empty_case sum_over
empty_size = refl

module _ (c : Case) (b : List ℕ) (rs : List (List ℕ)) (t : IsTaken c b) where
  -- what it adds to the items
  pub lists_more : Sound c → (j : Kind) →
      list_of j (items_of (taken_of c b).case) ++ map (item_of j) (rows_of j rs) ≡ list_of j (items_of c) ++ map (item_of j) (rows_of j (b ∷ rs))
  lists_more s =
      by_kind
      (λ j. list_of j (items_of (taken_of c b).case) ++ map (item_of j) (rows_of j rs) ≡ list_of j (items_of c) ++ map (item_of j) (rows_of j (b ∷ rs)))
      k
      (ap (λ d. list_of k (items_of d) ++ map (item_of k) (rows_of k rs)) t.case
      ∙ ap (λ l. l ++ map (item_of k) (rows_of k rs)) (same_kind c k r s.same t.next.room)
      ∙ append_snoc (list_of k (items_of c)) (item_of k r) (map (item_of k) (rows_of k rs))
      ∙ ap (λ l. list_of k (items_of c) ++ map (item_of k) l) (sym (rows_same b rs k t.letter)))
      (λ j o.
      ap (λ d. list_of j (items_of d) ++ map (item_of j) (rows_of j rs)) t.case
      ∙ ap₂ (λ l r. l ++ map (item_of j) r) (other_list c k r s.same t.next.room j o) (sym (rows_other b rs k t.letter j o)))
    where
      k : Kind
      k = t.kind

      r : List Field
      r = (record_of b).fields

  -- the fields of its item are its fields again
  rows_more : ((j : Kind) → map (row_of j) (map (item_of j) (rows_of j rs)) ≡ rows_of j rs) →
      (j : Kind) → map (row_of j) (map (item_of j) (rows_of j (b ∷ rs))) ≡ rows_of j (b ∷ rs)
  rows_more f =
      by_kind (λ j. map (row_of j) (map (item_of j) (rows_of j (b ∷ rs))) ≡ rows_of j (b ∷ rs)) t.kind
      (rw (rows_same b rs t.kind t.letter)
      (ap₂ (λ r l. r ∷ l) (fields_again t.kind (record_of b).fields t.fit) (f t.kind)))
      (λ j o. rw (rows_other b rs t.kind t.letter j o) (f j))

  -- there is one item more
  pub size_more : Sound c → item_count (items_of (taken_of c b).case) ≡ item_count (items_of c) + 1
  size_more s =
      ap counts_total (sym (counts_are (taken_of c b).case (sound_kept c b s)))
      ∙ ap (λ d. counts_total d.count) t.case
      ∙ total_more c.count t.kind
      ∙ ap (λ n. counts_total n + 1) (counts_are c s)

-- ---- a row of records

-- what taking records rs to their end makes of the case c, where m were taken before
record Ran (c : Case) (m : ℕ) (rs : List (List ℕ)) (r : Collected) : Type 0 where
  lists : (j : Kind) → list_of j (items_of r.case) ≡ list_of j (items_of c) ++ map (item_of j) (rows_of j rs)
  rows : (j : Kind) → map (row_of j) (map (item_of j) (rows_of j rs)) ≡ rows_of j rs
  taken : r.taken ≡ m + length rs
  items : item_count (items_of r.case) ≡ item_count (items_of c) + length rs

pub goes_on : (t : Bool) (a b : Collected) → is_taken b.answer ≡ t → is_taken (cond t a b).answer ≡ true → (t ≡ true) × (cond t a b ≡ a)
goes_on true a b e h = (refl, refl)
goes_on false a b e h = absurd (true≢false (sym h ∙ e))

ran : (rs : List (List ℕ)) (c : Case) (m : ℕ) → Sound c → is_taken (collected_from c m rs).answer ≡ true → Ran c m rs (collected_from c m rs)
unfolding collected_from rows_of
ran [] c m s h =
    record {
      lists = λ j. sym (append-nil (list_of j (items_of c)));
      rows = λ j. refl;
      taken = omega arith;
      items = omega arith;
    }
ran (b ∷ rs) c m s h =
    let t = taken_of c b in
    let rest = collected_from t.case (m + 1) rs in
    let p = goes_on (is_taken t.answer) rest (record { case = t.case; answer = t.answer; taken = m }) refl h in
    let k = taken_with c b p.0 in
    let r = ran rs t.case (m + 1) (sound_kept c b s) (subst (λ q. is_taken q.answer ≡ true) p.1 h) in
    subst (Ran c m (b ∷ rs)) (sym p.1)
    (record {
      lists = λ j. r.lists j ∙ lists_more c b rs k s j;
      rows = rows_more c b rs k r.rows;
      taken = omega (arith, r.taken);
      items = omega (arith, r.items, size_more c b rs k s);
    })

-- ---- the theorem

-- the run r over the records rs holds what they spell
pub record Spells (rs : List (List ℕ)) (r : Collected) : Type 0 where
  pub items : items_of r.case ≡ spelled_by rs
  -- row i of a kind is the row of its item i
  pub rows : (k : Kind) → map (row_of k) (list_of k (items_of r.case)) ≡ rows_of k rs
  -- every record is an item
  pub number : r.taken ≡ item_count (items_of r.case)
  pub all : r.taken ≡ length rs

pub spells : (rs : List (List ℕ)) → is_taken (collected_from empty_case 0 rs).answer ≡ true → Spells rs (collected_from empty_case 0 rs)
spells rs h =
    record {
      items = λ i. items_by (λ k. list k i);
      rows = λ k. ap (map (row_of k)) (list k) ∙ r.rows k;
      number = r.taken ∙ sym (r.items ∙ ap (λ n. n + length rs) empty_size);
      all = omega (arith, r.taken);
    }
  where
    r : Ran empty_case 0 rs (collected_from empty_case 0 rs)
    r = ran rs empty_case 0 sound_empty h

    list : (k : Kind) → list_of k (items_of (collected_from empty_case 0 rs).case) ≡ map (item_of k) (rows_of k rs)
    list k = r.lists k ∙ ap (λ l. l ++ map (item_of k) (rows_of k rs)) (empty_list k)

-- a file that is taken to its end gives the case that its bytes spell
pub spells_file : (bs : List ℕ) → is_taken (collected_of empty_case bs).answer ≡ true → Spells (cut bs) (collected_of empty_case bs)
unfolding collected_of
spells_file bs h = spells (cut bs) h
