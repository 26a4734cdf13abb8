-- No refusal applies to the record of an item of a sound case, where the items before it are held. Assumes nothing.
use Rattle.std.specs.Prelude.{◌≡◌, List, Bool, true, false, cond, ℕ, ◌≤◌, ◌<◌, ltb, length, get_or, take, Err, None, Ok, Some}
use Rattle.std.proofs.Math.Path.{refl}
use Rattle.std.proofs.Common.{◌∙◌, sym, ap, subst, subst₂, ⊎_elim, true≢false, arith, length-take, get_or-take, length-take-le, le-ltb}
use Rattle.std.proofs.lemmas.Bool.{false≢true}
use Rattle.record.specs.declared.Content.TheVariants as content
use Rattle.record.specs.Spell.{HasSpelling}
use Rattle.record.specs.Layout.{at}
use Rattle.kinds.specs.declared.Kind.{Kind}
use Rattle.kinds.specs.declared.Kind.TheVariants as kind
use Rattle.kinds.specs.declared.Counts.{Counts}
use Rattle.kinds.specs.Kinds.{letter_of, rank_of, count_of}
use Rattle.kinds.specs.Laws.{one_kind, by_kind, counts_same}
use Rattle.kinds.specs.Contents.{natural}
use Rattle.items.specs.declared.LoopMark.{LoopMark}
use Rattle.items.specs.declared.LoopMark.TheVariants as mark
use Rattle.items.specs.declared.Place.{Place}
use Rattle.items.specs.Items.{Item, row_of, reference, Ref}
use Rattle.items.specs.Lists.{Items, list_of, items_by, counts_of, room_of, no_item}
use Rattle.items.specs.Laws.{list_by, counted_of}
use Rattle.items.specs.File.{record_bytes, item_bytes}
use Rattle.answers.specs.declared.Refusal.TheVariants.{NotARecord, NoLineFeed, NoSuchKind, Misspelled, Misfilled, OutOfRange, OutOfOrder, NoRoom, NotThere, Misplaced, WrongWayIn}
use Rattle.rules.specs.Rules.{IsA, fields_of, content_at, IsNumber, mark_at, length_of, is_endless, Closed, MarkMisplaced, WayInWrong, Applies, IsMissing, IsExtra, IsOutside, IsNotThere}
use Rattle.collector.specs.declared.Case.{Case}
use Rattle.collector.specs.Cases.{items_of}
use Rattle.collector.specs.Sound.{Sound, Fit, There, reach}
use Rattle.rules_laws.specs.Tells.{tells_blank, tells_number}
use Rattle.rules_laws.specs.Bytes.{bad_says}
use Rattle.rules_laws.specs.Held.{counted}
use Rattle.rules_laws.specs.Loops.{marked_held}
use Rattle.rules_laws.specs.Kept.{reach_own, reach_rest, length_field, field_two, field_four}
use Rattle.rules_laws.specs.Written.{record_long, record_ends, record_reads}
use Rattle.answers.specs.Answers.{Answer}

-- ---- the first items of each kind

-- so many as n says
abbrev pub part : Items → Counts → Items
part x n = items_by (λ j. take (count_of n j) (list_of j x))

module _ (x : Items) (n : Counts) (h : (j : Kind) → count_of n j ≤ length (list_of j x)) where
  part_long : (j : Kind) → length (list_of j (part x n)) ≡ count_of n j
  part_long j = ap length (list_by (λ j. take (count_of n j) (list_of j x)) j) ∙ length-take-le (count_of n j) (list_of j x) (h j)

  part_counts : counts_of (part x n) ≡ n
  part_counts = counts_same (λ j. counted_of (part x n) j ∙ part_long j)

-- ---- the places

module _ (ps : List Place) (i : ℕ) where
  -- those before place i
  abbrev qs : List Place
  qs = take i ps

  -- a place of them that begins a loop is a place before i, with the same mark
  kept : (p : ℕ) → (mark_at qs p ≡ mark.None → ⊥) → (p < i) × (mark_at qs p ≡ mark_at ps p)
  kept p m =
      let h : p < i = omega (arith, marked_held qs p m, length-take i ps) in
      (h, ap (λ (q : Place). q.mark) (get_or-take i ps p (no_item kind.Place) h))

-- what field 4 says of a mark
number_marks : (m : LoopMark) → IsNumber (length_field m) → (m ≡ mark.None → ⊥) × (natural (length_field m) ≡ length_of m)
number_marks mark.None n = absurd (false≢true ((tells_number content.Blank).1 n))
number_marks (mark.Counted l r b) n = (λ e. let z : ◌≡◌ {A = ℕ} 0 1 = cc in omega arith, refl)
number_marks (mark.Endless l b) n = (λ e. let z : ◌≡◌ {A = ℕ} 0 1 = cc in omega arith, refl)

blank_way : (w : Ref) → (reference w).content ≡ content.Blank → w ≡ None
blank_way None e = refl
blank_way (Some n) e = absurd (false≢true ((tells_blank (reference (Some n)).content).1 e))

-- ---- the record of an item

module _ (c : Case) where
  abbrev x : Items
  x = items_of c

  module _ (k : Kind) (i : ℕ) where
    -- item i, its record, and the items before it
    abbrev pub item : Item k
    item = get_or (list_of k x) i (no_item k)

    abbrev pub bytes : List ℕ
    bytes = item_bytes k item

    abbrev pub before : Items
    before = part x (reach c.count k i)

  -- a place may come where those before it are held
  record MayCome (k : Kind) (i : ℕ) : Type 0 where
    going : Closed (before k i) → ⊥
    marked : MarkMisplaced (before k i) (bytes k i) → ⊥
    way : WayInWrong (before k i) (bytes k i) → ⊥

  module _ (s : Sound c) (i : ℕ) (h : i < c.count.places) where
    abbrev ps : List Place
    ps = x.places

    long : length (take i ps) ≡ i
    long = length-take-le i ps (omega (arith, counted c s kind.Place))

    says : (f : ℕ) → content_at (bytes kind.Place i) f ≡ at (row_of kind.Place (item kind.Place i)) f
    says f = ap (λ r. at r f) (record_reads (s.fit kind.Place i h))

    abbrev p : Place
    p = item kind.Place i

    says_mark : content_at (bytes kind.Place i) 4 ≡ length_field p.mark
    says_mark = says 4 ∙ field_four p.state p.way p.marks p.mark

    says_way : content_at (bytes kind.Place i) 2 ≡ (reference p.way).content
    says_way = says 2 ∙ field_two p

    mark_fits : MarkMisplaced (before kind.Place i) (bytes kind.Place i) → ⊥
    mark_fits (u, w) =
        let (m, l) = number_marks p.mark (subst IsNumber says_mark u) in
        let held = counted c s kind.Place in
        ⊎_elim
        (λ o.
        let (g, e) = kept ps i o.first (λ z. omega (arith, o.begun, o.more, ap length_of z)) in
        omega (arith, s.loops.apart o.first i g (omega arith) m, o.more, ap length_of e, long))
        (λ r. omega (arith, s.loops.within i (omega arith), ap natural says_mark, l, long))
        w

    place_comes : MayCome kind.Place i
    place_comes =
        record {
          going = λ q.
              let (l, e) = kept ps i q.first (λ z. true≢false (sym q.endless ∙ ap is_endless z)) in
              omega (arith, s.loops.last q.first (ap is_endless (sym e) ∙ q.endless), q.whole, ap length_of e, long, counted c s kind.Place);
          marked = mark_fits;
          way =
              ⊎_elim
              (λ (z, u). false≢true ((tells_number content.Blank).1 (subst (λ w. IsNumber (reference w).content) ((s.ways i h).0 (sym long ∙ z)) (subst IsNumber says_way u))))
              (λ (z, u). omega (arith, (s.ways i h).1 (blank_way p.way (sym says_way ∙ u)), long));
        }

  -- no refusal applies to it
  module _ (s : Sound c) (k : Kind) (i : ℕ) (h : i < count_of c.count k) where
    abbrev b : List ℕ
    b = bytes k i

    abbrev y : Items
    y = before k i

    abbrev n : Counts
    n = reach c.count k i

    within : (j : Kind) → count_of n j ≤ length (list_of j x)
    within =
        by_kind (λ j. count_of n j ≤ length (list_of j x)) k (omega (arith, reach_own c.count k i, counted c s k))
        (λ j e. omega (arith, reach_rest c.count k i j e, counted c s j, go (ltb (rank_of j) (rank_of k)) (count_of c.count j)))
      where
        go : (t : Bool) (m : ℕ) → cond t m 0 ≤ m
        go true m = omega arith
        go false m = omega arith

    -- its fields are the item's row
    fit : Fit k (fields_of b)
    fit = subst (Fit k) (sym (record_reads (s.fit k i h))) (s.fit k i h)

    letter : get_or b 0 0 ≡ letter_of k
    unfolding record_bytes
    letter = refl

    pub is : (j : Kind) → IsA j b → j ≡ k
    is j e = one_kind (get_or b 0 0) j k e letter

    there : There (counts_of y) k (fields_of b)
    there = subst₂ (λ m r. There m k r) (sym (part_counts x n within)) (sym (record_reads (s.fit k i h))) (s.there k i h)

    none_later : (j : Kind) → rank_of k < rank_of j → 0 < length (list_of j y) → ⊥
    none_later =
        by_kind (λ j. rank_of k < rank_of j → 0 < length (list_of j y) → ⊥) k (λ r p. omega arith)
        (λ j e r p. omega (arith, part_long x n within j, reach_rest c.count k i j e ∙ ap (λ t. cond t (count_of c.count j) 0) (le-ltb (rank_of j) (rank_of k) (omega arith))))

    comes : IsA kind.Place b → MayCome k i
    comes a = subst (λ j. i < count_of c.count j → MayCome j i) (is kind.Place a) (place_comes s i) h

    pub none_applies : (a : Answer) → Applies y b a → ⊥
    none_applies (Ok tt) e = e
    none_applies (Err NotARecord) e = e (record_long (s.fit k i h))
    none_applies (Err NoLineFeed) e = e (record_ends (s.fit k i h))
    none_applies (Err NoSuchKind) e = e k letter
    none_applies (Err (Misspelled p)) (f, g, l, w, q) = subst HasSpelling (bad_says b (record_long (s.fit k i h)) f g w) (fit.spelled f)
    none_applies (Err (Misfilled f)) (j, a, o, e) =
        ⊎_elim (λ l. fit.full f (subst (λ m. IsMissing m (fields_of b) f) (is j a) l.holds))
        (λ l. fit.bare f (subst (λ m. IsExtra m (fields_of b) f) (is j a) l.1.holds)) e
    none_applies (Err (OutOfRange f)) (j, a, l) = fit.ranged f (subst (λ m. IsOutside m (fields_of b) f) (is j a) l.holds)
    none_applies (Err OutOfOrder) (j, a, l) = none_later l.0 (subst (λ m. rank_of m < rank_of l.0) (is j a) l.1) l.2
    none_applies (Err NoRoom) (j, a, l) =
        omega (arith, subst (λ m. room_of m ≤ length (list_of m y)) (is j a) l, part_long x n within k, reach_own c.count k i, s.room k)
    none_applies (Err (NotThere f)) (j, a, l) = there f (subst (λ m. IsNotThere (counts_of y) m (fields_of b) f) (is j a) l.holds)
    none_applies (Err (Misplaced f)) (a, e) = ⊎_elim (λ q. (comes a).going q.0) (λ q. (comes a).marked q.1) e
    none_applies (Err WrongWayIn) (a, e) = (comes a).way e
