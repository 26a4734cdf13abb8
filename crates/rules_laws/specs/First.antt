-- Taking answers the first refusal that applies, in document 01's order, and there is one first. Assumes nothing.
use Rattle.std.specs.Prelude.{◌≡◌, ◌⊎◌, List, true, ℕ, zero, suc, ◌-◌, ◌≤◌, ◌<◌, leb, ltb, get_or, Err, Ok}
use Rattle.std.proofs.Math.Path.{refl, ap}
use Rattle.std.proofs.Common.{◌∙◌, sym, ap₂, subst, subst₂, arith}
use Rattle.std.proofs.Math.Logic.{inl, inr, ⊎_elim}
use Rattle.std.proofs.Math.Bool.{Bool, and-eq-true_iff, false≢true}
use Rattle.std.proofs.Math.ListN.{length}
use Rattle.std.proofs.lemmas.Bool.{eqb-false}
use Rattle.laws.specs.Lowest.{lowest, neither_less}
use Rattle.laws.specs.Tests.{Tells, cond_by, tells_lt, tells_le, tells_and, tells_or}
use Rattle.record.specs.Layout.{record_length, line_feed, bytes_at, byte_in, record_of}
use Rattle.record_laws.specs.BadByte.{one_bad_byte}
use Rattle.kinds.specs.declared.Kind.{Kind}
use Rattle.kinds.specs.declared.Kind.TheVariants.{Sentence, Place}
use Rattle.kinds.specs.Kinds.{letter_of, rank_of, same, count_of}
use Rattle.kinds.specs.Last.{last_rank}
use Rattle.kinds.specs.Laws.{one_kind, same_is, tells_last}
use Rattle.kinds.specs.Contents.{natural, is_number}
use Rattle.table.specs.declared.Shape.{Shape}
use Rattle.table.specs.declared.Rule.TheVariants.{Needed}
use Rattle.table.specs.Sorts.{Form}
use Rattle.table.specs.Table.{shape_of, rule_at}
use Rattle.items.specs.Lists.{Items, list_of, counts_of, room_of}
use Rattle.items.specs.Laws.{counted_of}
use Rattle.answers.specs.declared.Refusal.TheVariants.{NotARecord, NoLineFeed, NoSuchKind, Misspelled, Misfilled, OutOfRange, OutOfOrder, NoRoom, NotThere, Misplaced, WrongWayIn}
use Rattle.answers.specs.Answers.{number_of, third_of, test_order, turn_of, is_taken, Answer}
use Rattle.answers.specs.Laws.{in_order}
use Rattle.checks.specs.declared.Fault.TheVariants as fault
use Rattle.checks.specs.Faults.{bad_byte, outside}
use Rattle.checks.specs.Input.{wrong_form, bad_place, range_answer, extra_answer, missing_answer, form_answer, fields_answer}
use Rattle.rules.specs.Rules.{IsA, fields_of, content_at, rule_for, IsMissing, IsExtra, IsOutside, IsNotThere, HasForm, BadAt, Lowest, Closed, Open, Applies, IsFirst}
use Rattle.standing.specs.declared.Loops.{Loops}
use Rattle.standing.specs.Standing.{no_loops, loops_from, is_closed, is_open, is_long, way_answer, mark_answer, place_answer, layout_answer, there_answer, room_answer, order_answer, record_answer}
use Rattle.collector.specs.declared.Case.{Case}
use Rattle.collector.specs.Cases.{items_of}
use Rattle.collector.specs.Taking.{taken_as, taken_by, taken_of}
use Rattle.collector.specs.Sound.{Sound}
use Rattle.rules_laws.specs.Tells.{tells_blank, tells_number, tells_missing, tells_extra, tells_outside, tells_there, tells_form, tells_way}
use Rattle.rules_laws.specs.Held.{counts_are, loops_are}
use Rattle.rules_laws.specs.Loops.{closed_is, open_is}
use Rattle.rules_laws.specs.Letters.{by_head}
use Rattle.rules_laws.specs.Bytes.{bad_says, tells_bad_byte}
use Rattle.rules_laws.specs.Stages.{Nowhere, no_lowest, numbered, Passed, Ends, renumbered, start, more, none, first, refuses, tested, fault_tested}

-- a record's shape, if it is of kind k
abbrev shaped : Kind → List ℕ → Shape
shaped k bs = shape_of k (record_of bs)

-- ---- what the tests tell

form_outside : (bs : List ℕ) (k : Kind) → wrong_form (shape_of k (record_of bs)) (record_of bs) ≡ true → outside (rule_for k (fields_of bs) 1) (content_at bs 1) ≡ true
unfolding shape_of rule_at
form_outside bs k e =
    let (s, o) = (and-eq-true_iff (same k Sentence) (outside (Needed Form) (content_at bs 1))).0 e in
    subst (λ j. outside (rule_for j (fields_of bs) 1) (content_at bs 1) ≡ true) (sym (same_is k Sentence s)) o

form_lowest : (bs : List ℕ) (k : Kind) → wrong_form (shape_of k (record_of bs)) (record_of bs) ≡ true → Lowest (IsOutside k (fields_of bs)) 1
unfolding rule_at
form_lowest bs k e =
    let w = tells_outside k (fields_of bs) in
    record {
      holds = (w 1).0 (form_outside bs k e);
      before = elim [ zero ↦ λ l h. false≢true ((w 0).1 h) | suc g ↦ λ l h. omega arith ];
    }

module _ (x : Items) where
  -- items of a kind with a rank above m are held
  abbrev Above : ℕ → Type 0
  Above m = (j : Kind) × (m < rank_of j) × (0 < length (list_of j x))

  tells_order : (m : ℕ) → Tells (ltb m (last_rank (counts_of x))) (Above m)
  tells_order m =
      let w = tells_last (counts_of x) m in
      (λ e. let (j, h, l) = w.0 e in (j, h, omega (arith, counted_of x j)), λ (j, h, l). w.1 (j, h, omega (arith, counted_of x j)))

  tells_room : (k : Kind) → Tells (leb (room_of k) (count_of (counts_of x) k)) (room_of k ≤ length (list_of k x))
  tells_room k = rw (counted_of x k) (tells_le (room_of k) (length (list_of k x)))

-- ---- the results that come from the input, 14 to 16, of a record of kind k

-- what is true of its kind is true of k
of_kind : (bs : List ℕ) (k : Kind) → IsA k bs → (P : Kind → Type 0) (j : Kind) → IsA j bs → P j → P k
of_kind bs k is P j a = subst P (one_kind (get_or bs 0 0) j k a is)

-- field f is the lowest that is needed and blank, or else the lowest that is filled and must be blank
abbrev WrongFill : List ℕ → Kind → ℕ → Type 0
WrongFill bs j f = Lowest (IsMissing j (fields_of bs)) f ⊎ (Nowhere (IsMissing j (fields_of bs)) × Lowest (IsExtra j (fields_of bs)) f)

module _ (x : Items) (bs : List ℕ) (k : Kind) (is : IsA k bs) where
  range_ends : Passed x bs 16 → Ends x bs 21 (range_answer (shaped k bs) (record_of bs))
  unfolding range_answer lowest
  range_ends p =
      fault_tested x bs 21 fault.OutOfRange (shaped k bs) (λ n. Err (OutOfRange n)) (tells_outside k (fields_of bs))
      (λ g l. first x bs (Err (OutOfRange g)) p (k, is, l))
      (λ none. inl (refl, more x bs 16 21 refl (λ f h. no_lowest none (of_kind bs k is (λ j. Lowest (IsOutside j (fields_of bs)) f) h.0 h.1 h.2)) p))

  extra_ends : HasForm k (fields_of bs) → Nowhere (IsMissing k (fields_of bs)) → Passed x bs 15 → Ends x bs 21 (extra_answer (shaped k bs) (record_of bs))
  unfolding extra_answer lowest
  extra_ends form full p =
      fault_tested x bs 21 fault.Extra (shaped k bs) (λ n. Err (Misfilled n)) (tells_extra k (fields_of bs))
      (λ g l. first x bs (Err (Misfilled g)) p (k, is, form, inr (full, l)))
      (λ none. range_ends (more x bs 15 16 refl (λ f h.
      ⊎_elim (no_lowest full) (λ l. no_lowest none l.1) (of_kind bs k is (λ j. WrongFill bs j f) h.0 h.1 h.3)) p))

  missing_ends : HasForm k (fields_of bs) → Passed x bs 15 → Ends x bs 21 (missing_answer (shaped k bs) (record_of bs))
  unfolding missing_answer
  missing_ends form p =
      fault_tested x bs 21 fault.Missing (shaped k bs) (λ n. Err (Misfilled n)) (tells_missing k (fields_of bs))
      (λ g l. first x bs (Err (Misfilled g)) p (k, is, form, inl l))
      (λ full. extra_ends form full p)

  form_ends : Passed x bs 15 → Ends x bs 21 (form_answer (shaped k bs) (record_of bs))
  unfolding form_answer lowest
  form_ends p =
      cond_by (Ends x bs 21) (wrong_form (shaped k bs) (record_of bs)) {x = Err (OutOfRange 1)} {y = missing_answer (shaped k bs) (record_of bs)}
      (λ e. inr (first x bs (Err (OutOfRange 1))
      (more x bs 15 16 refl (λ f h. false≢true (sym ((tells_form k (record_of bs)).1 (of_kind bs k is (λ j. HasForm j (fields_of bs)) h.0 h.1 h.2)) ∙ e)) p)
      (k, is, form_lowest bs k e)))
      (λ e. missing_ends ((tells_form k (record_of bs)).0 e) p)

  fields_end : length bs ≡ record_length → Passed x bs 14 → Ends x bs 21 (fields_answer (shaped k bs) (record_of bs))
  unfolding fields_answer lowest
  fields_end w p =
      fault_tested x bs 21 fault.Misspelled (shaped k bs) (λ f. Err (Misspelled (bad_place (record_of bs) f))) (tells_bad_byte bs w)
      (λ g l.
      let (i, b) = l.holds in
      first x bs (Err (Misspelled (bad_place (record_of bs) g))) p (g, i, l, b, ap (λ c. byte_in g (bad_byte c)) (bad_says bs w g i b)))
      (λ none. form_ends (more x bs 14 15 refl (λ f h. no_lowest none h.2) p))

-- ---- the results that come from the state

module _ (x : Items) (bs : List ℕ) (l : Loops)
    (closed : Tells (is_closed l (length x.places)) (Closed x))
    (opened : Tells (is_open l (length x.places)) (Open x)) where
  way_ends : IsA Place bs → Passed x bs 26 → Ends x bs 0 (way_answer (length x.places) (record_of bs).fields)
  unfolding way_answer lowest
  way_ends is p =
      tested x bs 0 _ (Err WrongWayIn) (tells_way (length x.places) _ _ (tells_number (content_at bs 2)) (tells_blank (content_at bs 2)))
      (λ w. first x bs (Err WrongWayIn) p (is, w))
      (λ right. inl (refl, more x bs 26 0 refl (λ f h. right h.1) p))

  mark_ends : IsA Place bs → (Closed x → ⊥) → Passed x bs 25 → Ends x bs 0 (mark_answer l (length x.places) (record_of bs).fields)
  unfolding mark_answer lowest
  mark_ends is still p =
      let t : Bool = is_long (length x.places) (natural (content_at bs 4)) in
      tested x bs 0 _ (Err (Misplaced 4))
      (tells_and (is_number (content_at bs 4)) _ (tells_number (content_at bs 4)) (tells_or (is_open l (length x.places)) t opened (tells_lt _ _)))
      (λ w. first x bs (Err (Misplaced 4)) p (is, inr (still, w, refl)))
      (λ right. way_ends is (more x bs 25 26 refl (λ f h. ⊎_elim (λ c. still c.0) (λ m. right m.1) h.1) p))

  place_ends : IsA Place bs → Passed x bs 25 → Ends x bs 0 (place_answer l (length x.places) (record_of bs).fields)
  unfolding place_answer
  place_ends is p =
      tested x bs 0 _ (Err (Misplaced 0)) closed
      (λ c. first x bs (Err (Misplaced 0)) p (is, inl (c, refl)))
      (λ still. mark_ends is still p)

  no_place : (IsA Place bs → ⊥) → Passed x bs 25 → Ends x bs 0 (Ok tt)
  unfolding lowest
  no_place other p = inl (refl, more x bs 26 0 refl (λ f h. other h.0) (more x bs 25 26 refl (λ f h. other h.0) p))

  layout_ends : (k : Kind) → IsA k bs → Passed x bs 25 → Ends x bs 0 (layout_answer k (counts_of x) l (record_of bs).fields)
  layout_ends k is p =
      cond_by (Ends x bs 0) (same k Place) {x = place_answer l (length x.places) (record_of bs).fields} {y = Ok tt}
      (λ e. place_ends (is ∙ ap letter_of (same_is k Place e)) p) (λ e. no_place (λ h. eqb-false (letter_of k) (letter_of Place) e (sym is ∙ h)) p)

  module _ (k : Kind) (is : IsA k bs) where
    there_ends : Passed x bs 23 → Ends x bs 0 (there_answer (counts_of x) l (shaped k bs) (record_of bs))
    unfolding there_answer shape_of lowest
    there_ends p =
        fault_tested x bs 0 (fault.NotThere (counts_of x)) (shaped k bs) (λ n. Err (NotThere n)) (λ g. tells_there k (fields_of bs) g (counts_of x))
        (λ g w. first x bs (Err (NotThere g)) p (k, is, w))
        (λ none. layout_ends k is
        (more x bs 23 25 refl (λ f h. no_lowest none (of_kind bs k is (λ j. Lowest (IsNotThere (counts_of x) j (fields_of bs)) f) h.0 h.1 h.2)) p))

    room_ends : Passed x bs 22 → Ends x bs 0 (room_answer (counts_of x) l (shaped k bs) (record_of bs))
    unfolding room_answer shape_of lowest
    room_ends p =
        tested x bs 0 _ (Err NoRoom) (tells_room x k)
        (λ w. first x bs (Err NoRoom) p (k, is, w))
        (λ room. there_ends (more x bs 22 23 refl (λ f h. room (of_kind bs k is (λ j. room_of j ≤ length (list_of j x)) h.0 h.1 h.2)) p))

    order_ends : Passed x bs 21 → Ends x bs 0 (order_answer (counts_of x) l (shaped k bs) (record_of bs))
    unfolding order_answer shape_of lowest
    order_ends p =
        tested x bs 0 _ (Err OutOfOrder) (tells_order x (rank_of k))
        (λ w. first x bs (Err OutOfOrder) p (k, is, w))
        (λ right. room_ends (more x bs 21 22 refl (λ f h. right (of_kind bs k is (λ j. Above x (rank_of j)) h.0 h.1 h.2)) p))

  -- ---- the whole

  kind_ends : length bs ≡ record_length → (k : Kind) → IsA k bs → Passed x bs 14 → Ends x bs 0 (record_answer (counts_of x) l k (record_of bs))
  unfolding record_answer
  kind_ends w k is p =
      let own = fields_answer (shaped k bs) (record_of bs) in
      ⊎_elim (λ t. rw t.0 (order_ends k is t.1)) (λ h. rw (refuses x bs own h.applies) (inr h)) (fields_end x bs k is w p)

-- no refusal applies and the record is taken, or it gets the first that applies
pub answers_first : (c : Case) (bs : List ℕ) → Sound c →
    ((is_taken (taken_of c bs).answer ≡ true) × ((a : Answer) → Applies (items_of c) bs a → ⊥)) ⊎ IsFirst (items_of c) bs (taken_of c bs).answer
unfolding taken_of taken_as lowest
answers_first c bs s =
    ⊎_elim (λ t. inl (t.0, none x bs t.1)) (λ h. inr h)
    (by_head bs (λ h. Ends x bs 0 (taken_by c h bs).answer)
    (λ e. inr (first x bs (Err NotARecord) (start x bs) e))
    (λ w e. inr (first x bs (Err NoLineFeed) (whole w) e))
    (λ w d e. inr (first x bs (Err NoSuchKind) (ended w d) e))
    (λ w d k is.
    subst₂ (λ n l. Ends x bs 0 (record_answer n l k (record_of bs))) (sym (counts_are c s)) (sym (loops_are s))
    (kind_ends x bs (loops_from no_loops 0 x.places) (closed_is x s.loops) (open_is x s.loops) w k is
    (more x bs 13 14 refl (λ f h. h k is) (ended w d)))))
  where
    x : Items
    x = items_of c

    whole : length bs ≡ record_length → Passed x bs 12
    whole w = more x bs 11 12 refl (λ f h. h w) (start x bs)

    ended : length bs ≡ record_length → get_or bs (record_length - 1) 0 ≡ line_feed → Passed x bs 13
    ended w d = more x bs 12 13 refl (λ f h. h d) (whole w)

-- ---- there is one first

lowest_one : (P : ℕ → Type 0) (f g : ℕ) → Lowest P f → Lowest P g → f ≡ g
lowest_one P f g v w =
    neither_less (λ h. w.before f h v.holds) (λ h. v.before g h w.holds)

both_ways : {A B C D E : Type 0} → (A → C → E) → (A → D → E) → (B → C → E) → (B → D → E) → A ⊎ B → C ⊎ D → E
both_ways f g h k v w = ⊎_elim (λ a. ⊎_elim (f a) (g a) w) (λ b. ⊎_elim (h b) (k b) w) v

-- two answers with one number that both apply have one third number
third_one : (x : Items) (bs : List ℕ) (a : Answer) (g : ℕ) → Applies x bs a → Applies x bs (numbered (number_of a) g) → a ≡ numbered (number_of a) g
unfolding lowest
third_one x bs (Ok tt) g v w = refl
third_one x bs (Err NotARecord) g v w = refl
third_one x bs (Err NoLineFeed) g v w = refl
third_one x bs (Err NoSuchKind) g v w = refl
third_one x bs (Err (Misspelled p)) g (f, k, l, b, e) (h, j, m, c, d) =
    let q : h ≡ f = lowest_one _ h f m l in
    let r : j ≡ k = one_bad_byte (bytes_at bs f) j k (subst (λ i. BadAt bs i j) q c).1 b.1 in
    ap (λ n. Err (Misspelled n)) (e ∙ sym (d ∙ ap₂ byte_in q r))
third_one x bs (Err (Misfilled f)) g v w =
    ap (λ n. Err (Misfilled n)) (both_ways (lowest_one _ f g) (λ l m. absurd (no_lowest m.0 l)) (λ l m. absurd (no_lowest l.0 m)) (λ l m. lowest_one _ f g l.1 m.1)
    v.3 (of_kind bs v.0 v.1 (λ j. WrongFill bs j g) w.0 w.1 w.3))
third_one x bs (Err (OutOfRange f)) g v w =
    ap (λ n. Err (OutOfRange n)) (lowest_one _ f g v.2 (of_kind bs v.0 v.1 (λ j. Lowest (IsOutside j (fields_of bs)) g) w.0 w.1 w.2))
third_one x bs (Err OutOfOrder) g v w = refl
third_one x bs (Err NoRoom) g v w = refl
third_one x bs (Err (NotThere f)) g v w =
    ap (λ n. Err (NotThere n)) (lowest_one _ f g v.2 (of_kind bs v.0 v.1 (λ j. Lowest (IsNotThere (counts_of x) j (fields_of bs)) g) w.0 w.1 w.2))
third_one x bs (Err (Misplaced f)) g v w =
    ap (λ n. Err (Misplaced n)) (both_ways (λ c d. c.1 ∙ sym d.1) (λ c d. absurd (d.0 c.0)) (λ c d. absurd (c.0 d.0)) (λ c d. c.2 ∙ sym d.2) v.1 w.1)
third_one x bs (Err WrongWayIn) g v w = refl

pub first_one : (x : Items) (bs : List ℕ) (a b : Answer) → IsFirst x bs a → IsFirst x bs b → a ≡ b
first_one x bs a b v w =
    let e : turn_of (number_of a) ≡ turn_of (number_of b) =
    neither_less (λ h. w.earlier a h v.applies) (λ h. v.earlier b h w.applies) in
    third_one x bs a (third_of b) v.applies (renumbered x bs b (number_of a) (sym e) w.applies)
    ∙ ap (λ i. get_or (test_order (third_of b)) i (Ok tt)) e
    ∙ in_order b
