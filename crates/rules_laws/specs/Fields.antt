-- No number is lost on the way into a case: the fields of an item are the fields of its record again. Assumes nothing.
use Rattle.std.specs.Prelude.{◌≡◌, refl, List, [], ◌∷◌, ◌++◌, map, Bool, true, cond, ◌||◌, ℕ, zero, suc, ◌+◌, ◌-◌, ◌%◌, ◌≤◌, ℤ, pos, negsuc, length, get_or, drop, replicate}
use Rattle.std.proofs.Common.{sym, ap, subst, subst₂, ◌∙◌, true≢false, mod-eq_of_lt, arith, lit≤, get_or-drop, ltb-false}
use Rattle.std.proofs.Math.Bool.{false}
use Rattle.std.specs.Int.Signed.{lt_z, le_z}
use Rattle.std.proofs.Math.ListN.{take, get_or-eq_default}
use Rattle.laws.specs.Order.{zarith}
use Rattle.laws.specs.Tests.{neither, tells_false}
use Rattle.laws.specs.Tab.{tab, tab_again}
use Rattle.record.specs.declared.Content.{Content}
use Rattle.record.specs.declared.Content.TheVariants.{Blank, Number, Bad}
use Rattle.record.specs.declared.Field.{Field}
use Rattle.record.specs.Spell.{HasSpelling}
use Rattle.record.specs.Layout.{fields, at}
use Rattle.kinds.specs.declared.Kind.{Kind}
use Rattle.kinds.specs.declared.Kind.TheVariants as kind
use Rattle.kinds.specs.Kinds.{counters}
use Rattle.kinds.specs.Laws.{each_kind}
use Rattle.kinds.specs.Contents.{natural, is_number}
use Rattle.table.specs.declared.Sort.{Sort}
use Rattle.table.specs.declared.Sort.TheVariants.{Marks, Reference}
use Rattle.table.specs.Sorts as sort
use Rattle.table.specs.declared.Rule.{Rule}
use Rattle.table.specs.declared.Rule.TheVariants as rule
use Rattle.table.specs.Table as table
use Rattle.table.specs.Sorts.{range_of}
use Rattle.table.specs.Table.{needed_if, in_filled, shape_of, rule_at}
use Rattle.items.specs.Items.{item_of, row_of, byte_of, integer_of, short_of, per_counter, ref_of, term_of, mark_of, state_of, weights_of, guard_of, move_of, form_of, sentence_of, place_of, integer, number, blank, reference, term_fields, mark_fields}
use Rattle.checks.specs.Faults.{misspelled, missing, extra, outside, beyond}
use Rattle.collector.specs.Sound.{shape, Fit}
use Rattle.rules_laws.specs.Tells.{tells_bad, tells_missing, tells_extra, tells_outside}

-- ---- ranges: a number of a range is in every wider one

-- every number of a field of sort s is from l to h
abbrev Inside : Sort → ℤ → ℤ → Type 0
Inside s l h = (le_z l (range_of s).low ≡ true) × (le_z (range_of s).high h ≡ true)

wider : (s : Sort) (l h z : ℤ) → Inside s l h → beyond (range_of s) (Number z) ≡ false → (lt_z z l ≡ false) × (lt_z h z ≡ false)
wider s l h z w e =
    let b = neither (lt_z z (range_of s).low) (lt_z (range_of s).high z) e in
    (omega zarith, omega zarith)

-- ---- a field by its rule

-- a field that says c meets rule u
pub record MeetsRule (u : Rule) (c : Content) : Type 0 where
  pub spelled : misspelled c ≡ false
  pub full : missing u c ≡ false
  pub bare : extra u c ≡ false
  pub ranged : outside u c ≡ false

pub met : {k : Kind} {r : List Field} → Fit k r → (j : ℕ) → MeetsRule (rule_at (shape k r) j) (at r j)
met {k} {r} f j =
    record {
      spelled = tells_false _ (tells_bad r j) (λ (k, e). subst HasSpelling e (f.spelled j));
      full = tells_false _ (tells_missing k r j) (f.full j);
      bare = tells_false _ (tells_extra k r j) (f.bare j);
      ranged = tells_false _ (tells_outside k r j) (f.ranged j);
    }

abbrev field : Content → Field
field c = record { content = c }

blank_again : (c : Content) → MeetsRule rule.Blank c → blank ≡ field c
blank_again Blank m = refl
blank_again (Number z) m = absurd (true≢false m.bare)
blank_again (Bad i) m = absurd (true≢false m.spelled)

blanks : (rs : List Field) → ((j : ℕ) → MeetsRule rule.Blank (at rs (suc j))) → replicate (length rs) blank ≡ rs
blanks [] h = refl
blanks (x ∷ rs) h = λ i. blank_again x.content (h 0) i ∷ blanks rs (λ j. h (suc j)) i

-- the rules of a row
abbrev rules_in : Kind → List Field → List Rule
rules_in k r = let s = shape k r in table.rules_of counters k s.form (in_filled s.filled)

-- past its rules a row is blank
rest_again : {k : Kind} {r : List Field} → Fit k r → (n : ℕ) → length (rules_in k r) ≤ n → replicate (length (drop n r)) blank ≡ drop n r
unfolding rule_at shape_of
rest_again {k} {r} f n h =
    blanks (drop n r) (λ j.
    subst₂ MeetsRule (get_or-eq_default (rules_in k r) rule.Blank {n = n + j} (omega arith)) (ap (λ x. x.content) (sym (get_or-drop n r j blank)))
    (met f (suc (n + j))))

-- a number meets the rule of a field that may not be blank
needed : (b : Bool) (s : Sort) (z : ℤ) → MeetsRule (needed_if b s) (Number z) → MeetsRule (rule.Needed s) (Number z)
needed true s z m = m
needed false s z m = record { spelled = refl; full = refl; bare = refl; ranged = m.ranged }

-- the field of a number that 16 bits hold
abbrev short : Content → Field
short c = integer (short_of (integer_of c))

module _ (s : Sort) where
  integer_again : (c : Content) → MeetsRule (rule.Needed s) c → integer (integer_of c) ≡ field c
  integer_again Blank m = absurd (true≢false m.full)
  integer_again (Number z) m = refl
  integer_again (Bad i) m = absurd (true≢false m.spelled)

  -- a number from 0 to n, and one that is cut to that
  abbrev UpTo : ℕ → Type 0
  UpTo n = Inside s (pos 0) (pos n)

  natural_again : (n : ℕ) → UpTo n → (c : Content) → MeetsRule (rule.Needed s) c → (number (natural c) ≡ field c) × (natural c ≤ n)
  natural_again n w Blank m = absurd (true≢false m.full)
  natural_again n w (Number (pos k)) m = (refl, ltb-false n k (wider s (pos 0) (pos n) (pos k) w m.ranged).1)
  natural_again n w (Number (negsuc k)) m = absurd (true≢false (wider s (pos 0) (pos n) (negsuc k) w m.ranged).0)
  natural_again n w (Bad i) m = absurd (true≢false m.spelled)

  cut_again : (n : ℕ) → UpTo n → (c : Content) → MeetsRule (rule.Needed s) c → number (natural c % suc n) ≡ field c
  cut_again n w c m =
      let a = natural_again n w c m in
      let e : natural c % suc n ≡ natural c = mod-eq_of_lt (omega arith) in
      ap number e ∙ a.0

  -- a number that 16 bits hold
  abbrev Short : Type 0
  Short = Inside s (negsuc 32767) (pos 32767)

  short_again : Short → (c : Content) → MeetsRule (rule.Needed s) c → short c ≡ field c
  short_again w Blank m = absurd (true≢false m.full)
  short_again w (Number z) m =
      let e = wider s (negsuc 32767) (pos 32767) z w m.ranged in
      λ i. integer (cond (e.0 i) (pos 0) (cond (e.1 i) (pos 0) z))
  short_again w (Bad i) m = absurd (true≢false m.spelled)

  -- fields in a row that have this rule, in front of others, where h gives each again
  each_again : (h : Content → Field) → ((c : Content) → MeetsRule (rule.Needed s) c → h c ≡ field c) → (rs : List Field) (us : List Rule) (xs : List Field)
      → ((j : ℕ) → MeetsRule (get_or (replicate (length rs) (rule.Needed s) ++ us) j rule.Blank) (at (rs ++ xs) (suc j)))
      → map (λ (r : Field). h r.content) rs ≡ rs
  each_again h a [] us xs m = refl
  each_again h a (r ∷ rs) us xs m = λ i. a r.content (m 0) i ∷ each_again h a rs us xs (λ j. m (suc j)) i

-- a reference to an item of kind k, needed or not
module _ (k : Kind) where
  item_again : (c : Content) → MeetsRule (rule.Needed (Reference k)) c → number (byte_of c) ≡ field c
  item_again = cut_again (Reference k) 255 (refl, refl)

  reference_again : (b : Bool) (c : Content) → MeetsRule (needed_if b (Reference k)) c → reference (ref_of c) ≡ field c
  reference_again b Blank m = refl
  reference_again b (Number z) m = item_again (Number z) (needed b (Reference k) z m)
  reference_again b (Bad i) m = absurd (true≢false m.spelled)

-- a term: its coefficient and its sentence are both blank or both filled
term_again : (a b : Bool) (c e : Content)
    → (is_number e ≡ true → a ≡ true)
    → (is_number c ≡ true → b ≡ true)
    → MeetsRule (needed_if a sort.Coefficient) c
    → MeetsRule (needed_if b (Reference kind.Sentence)) e
    → term_fields (term_of c e) ≡ field c ∷ field e ∷ []
term_again a b Blank Blank p q m n = refl
term_again a b Blank (Number z) p q m n = absurd (true≢false (rw (p refl) at m).full)
term_again a b Blank (Bad i) p q m n = absurd (true≢false n.spelled)
term_again a b (Number y) Blank p q m n = absurd (true≢false (rw (q refl) at n).full)
term_again a b (Number y) (Number z) p q m n =
    λ i. short_again sort.Coefficient (refl, refl) (Number y) (needed a _ y m) i ∷ item_again kind.Sentence (Number z) (needed b _ z n) i ∷ []
term_again a b (Number y) (Bad i) p q m n = absurd (true≢false n.spelled)
term_again a b (Bad i) e p q m n = absurd (true≢false m.spelled)

-- fields, and blanks after them
abbrev padded : List Field → List Field
padded xs = xs ++ replicate (fields - length xs) blank

-- a loop mark, after three fields: its length, its rounds and its back move are all blank, or only the rounds may be
mark_again : (x y z : Field) (c d e : Content)
    → MeetsRule (needed_if (is_number d || is_number e) sort.LoopLength) c
    → MeetsRule (rule.Optional sort.Rounds) d
    → MeetsRule (needed_if (is_number c) (Reference kind.Move)) e
    → padded (x ∷ y ∷ z ∷ mark_fields (mark_of c d e)) ≡ x ∷ y ∷ z ∷ field c ∷ field d ∷ field e ∷ replicate (fields - 6) blank
unfolding mark_of
mark_again x y z Blank Blank Blank m n o = refl
mark_again x y z Blank Blank (Number e) m n o = absurd (true≢false m.full)
mark_again x y z Blank Blank (Bad i) m n o = absurd (true≢false o.spelled)
mark_again x y z Blank (Number d) e m n o = absurd (true≢false m.full)
mark_again x y z Blank (Bad i) e m n o = absurd (true≢false n.spelled)
mark_again x y z (Number c) Blank e m n o =
    let p = cut_again sort.LoopLength 255 (refl, refl) (Number c) (needed (is_number e) _ c m) in
    λ i. x ∷ y ∷ z ∷ p i ∷ blank ∷ item_again kind.Move e o i ∷ replicate (fields - 6) blank
mark_again x y z (Number c) (Number d) e m n o =
    let p = cut_again sort.LoopLength 255 (refl, refl) (Number c) m in
    let q = (natural_again sort.Rounds 1000000 (refl, refl) (Number d) (needed false _ d n)).0 in
    λ i. x ∷ y ∷ z ∷ p i ∷ q i ∷ item_again kind.Move e o i ∷ replicate (fields - 6) blank
mark_again x y z (Number c) (Bad i) e m n o = absurd (true≢false n.spelled)
mark_again x y z (Bad i) d e m n o = absurd (true≢false m.spelled)

-- ---- each kind

-- the fields of an item of kind k are those of its record again
abbrev Again : Kind → List Field → Type 0
Again k r = Fit k r → row_of k (item_of k r) ≡ r

module _ (g : ℕ → Content) where
  -- a row of fields, by what its first says
  abbrev row : Content → List Field
  row c = field c ∷ tab (fields - 1) 2 (λ j. field (g j))

  state_again : (c : Content) → Again kind.State (row c)
  unfolding rule_at shape_of row_of state_of
  state_again c f = λ i. cut_again sort.Propositions 65535 (refl, refl) c (met f 1) i ∷ rest_again f 1 (lit≤ tt) i

  weights_again : (c : Content) → Again kind.Weights (row c)
  unfolding rule_at shape_of row_of weights_of
  weights_again c f =
      let r = row c in
      let h : Content → Field = λ c. integer (integer_of c) in
      let p = each_again sort.Weight h (integer_again sort.Weight) (take counters r) (drop counters (rules_in kind.Weights r)) (drop counters r) (λ j. met f (suc j)) in
      λ i. p i ++ rest_again f counters (lit≤ tt) i

  guard_again : (c : Content) → Again kind.Guard (row c)
  unfolding rule_at shape_of row_of guard_of per_counter
  guard_again c f =
      let r = row c in
      let p =
      each_again sort.Coefficient short (short_again sort.Coefficient (refl, refl)) (take counters r) (drop counters (rules_in kind.Guard r)) (drop counters r) (λ j. met f (suc j)) in
      λ i. p i ++ (integer_again sort.Bound (at r (1 + counters)) (met f (1 + counters)) i ∷ rest_again f (1 + counters) (lit≤ tt) i)

  move_again : (c : Content) → Again kind.Move (row c)
  unfolding rule_at shape_of row_of move_of per_counter
  move_again c f =
      let r = row c in
      let p =
      each_again sort.Update short (short_again sort.Update (refl, refl)) (take counters (drop 2 r)) (drop (2 + counters) (rules_in kind.Move r)) (drop (2 + counters) r)
      (λ j. met f (suc (suc (suc j)))) in
      let q = reference_again kind.Guard (is_number (g (4 + counters))) (g (3 + counters)) (met f (3 + counters)) in
      let t = reference_again kind.Guard false (g (4 + counters)) (met f (4 + counters)) in
      λ i.
      item_again kind.State c (met f 1) i
      ∷ item_again kind.State (g 2) (met f 2) i
      ∷ (p i ++ (q i ∷ t i ∷ rest_again f (4 + counters) (lit≤ tt) i))

  place_again : (c : Content) → Again kind.Place (row c)
  unfolding rule_at shape_of row_of place_of
  place_again c f =
      let p = reference_again kind.Move false (g 2) (met f 2) in
      let q = (natural_again Marks 1048575 (refl, refl) (g 3) (met f 3)).0 in
      mark_again _ _ _ (g 4) (g 5) (g 6) (met f 4) (met f 5) (met f 6)
      ∙ (λ i.
      item_again kind.State c (met f 1) i ∷ p i ∷ q i ∷ field (g 4) ∷ field (g 5) ∷ field (g 6) ∷ rest_again f 6 (lit≤ tt) i)

  -- a form with one part, of sort s
  part_again : (s : Sort) → UpTo s 255 → (n : ℕ) (f : Fit kind.Sentence (row (Number (pos n))))
      → MeetsRule (rule.Needed s) (g 2) → length (rules_in kind.Sentence (row (Number (pos n)))) ≤ 2
      → number n ∷ number (byte_of (g 2)) ∷ replicate (fields - 2) blank ≡ row (Number (pos n))
  part_again s w n f m l = λ i. number n ∷ cut_again s 255 w (g 2) m i ∷ rest_again f 2 l i

  sentence_again : (c : Content) → Again kind.Sentence (row c)
  unfolding rule_at shape_of row_of sentence_of form_of
  sentence_again Blank f = absurd (true≢false (met f 1).full)
  sentence_again (Number (pos zero)) f = λ i. number 0 ∷ rest_again f 1 (lit≤ tt) i
  sentence_again (Number (pos (suc zero))) f = part_again sort.Proposition (refl, refl) 1 f (met f 2) (lit≤ tt)
  sentence_again (Number (pos (suc (suc zero)))) f = part_again (Reference kind.Guard) (refl, refl) 2 f (met f 2) (lit≤ tt)
  sentence_again (Number (pos (suc (suc (suc zero))))) f =
      λ i.
      number 3
      ∷ item_again kind.Sentence (g 2) (met f 2) i
      ∷ item_again kind.Sentence (g 3) (met f 3) i
      ∷ rest_again f 3 (lit≤ tt) i
  sentence_again (Number (pos (suc (suc (suc (suc zero)))))) f =
      part_again (Reference kind.Sentence) (refl, refl) 4 f (met f 2) (lit≤ tt)
  sentence_again (Number (pos (suc (suc (suc (suc (suc zero))))))) f =
      part_again (Reference kind.Sentence) (refl, refl) 5 f (met f 2) (lit≤ tt)
  sentence_again (Number (pos (suc (suc (suc (suc (suc (suc zero)))))))) f =
      let a = is_number (g 7) || is_number (g 8) in
      let p = term_again (is_number (g 6) || a) (is_number (g 5) || a) (g 5) (g 6) (λ e. rw e) (λ e. rw e) (met f 5) (met f 6) in
      let q = term_again (is_number (g 8)) (is_number (g 7)) (g 7) (g 8) (λ e. e) (λ e. e) (met f 7) (met f 8) in
      let t = integer_again sort.Bound (g 4) (met f 4) in
      (λ i. padded (number 6 ∷ item_again kind.Sentence (g 2) (met f 2) i ∷ item_again kind.Sentence (g 3) (met f 3) i ∷ t i ∷ (p i ++ q i)))
      ∙ (λ i. take fields (row (Number (pos 6))) ++ rest_again f fields (lit≤ tt) i)
  sentence_again (Number (pos (suc (suc (suc (suc (suc (suc (suc n))))))))) f =
      let h = natural_again sort.Form 6 (refl, refl) _ (met f 1) in
      absurd (omega (arith, h.1))
  sentence_again (Number (negsuc n)) f = absurd (true≢false (met f 1).ranged)
  sentence_again (Bad i) f = absurd (true≢false (met f 1).spelled)

  again : (k : Kind) (c : Content) → Again k (row c)
  again = each_kind (λ k. (c : Content) → Again k (row c)) state_again weights_again guard_again move_again sentence_again place_again

pub fields_again : (k : Kind) (r : List Field) → Fit k r → row_of k (item_of k r) ≡ r
fields_again k r f = subst (Again k) (tab_again blank r fields f.long) (again (at r) k (at r 1)) f
