-- Every case that is made by taking records is sound: the empty one is, and taking a record keeps it so. Assumes nothing.
use Rattle.std.specs.Prelude.{◌≡◌, refl, ◌↔◌, List, [], ◌∷◌, ◌++◌, Bool, true, false, cond, ◌&&◌, ◌||◌, ℕ, zero, suc, ◌+◌, ◌^◌, ◌≤◌, ◌<◌, ltb, eqb, pos, length, get_or, None, Some}
use Rattle.std.proofs.Common.{◌∙◌, sym, ap, subst, subst₂, inl, inr, ⊎_elim, true≢false, arith, ltb-false}
use Rattle.std.proofs.Math.Nat.{pow-le-pow_right}
use Rattle.std.proofs.Math.Decide.{dec_lt}
use Rattle.std.proofs.Math.Dec.{eqb-suc-zero}
use Rattle.std.proofs.Math.ListN.{get_or-append}
use Rattle.std.proofs.lemmas.List.{get_or_at}
use Rattle.laws.specs.Tests.{neither}
use Rattle.record.specs.declared.Content.{Content}
use Rattle.record.specs.declared.Content.TheVariants as content
use Rattle.record.specs.declared.Field.{Field}
use Rattle.record.specs.Layout.{at, record_of}
use Rattle.kinds.specs.declared.Kind.{Kind}
use Rattle.kinds.specs.declared.Kind.TheVariants as kind
use Rattle.kinds.specs.declared.Counts.{Counts}
use Rattle.kinds.specs.Kinds.{count_of, rank_of, same}
use Rattle.kinds.specs.Last.{kind_at}
use Rattle.kinds.specs.Laws.{same_is, same_self, kind_at_lem, rank_below, later, HeldAbove, by_kind, count_own, count_rest}
use Rattle.kinds.specs.Contents.{natural, is_number, is_blank}
use Rattle.table.specs.Sorts as sort
use Rattle.table.specs.Table.{needed_if, in_filled, rule_at, shape_of}
use Rattle.items.specs.declared.LoopMark.{LoopMark}
use Rattle.items.specs.declared.LoopMark.TheVariants as mark
use Rattle.items.specs.declared.Place.{Place}
use Rattle.items.specs.Items.{Item, item_of, place_of, row_of, reference, Ref}
use Rattle.items.specs.Lists.{Items, room_of, no_item, list_of}
use Rattle.answers.specs.Answers.{is_taken}
use Rattle.checks.specs.Faults.{outside}
use Rattle.standing.specs.declared.Loops.{Loops}
use Rattle.standing.specs.Standing.{no_loops, loops_from, is_closed, is_open, is_long}
use Rattle.collector.specs.declared.Case.{Case}
use Rattle.collector.specs.Cases.{items_of, one_more, with, empty_case}
use Rattle.collector.specs.Taking.{taken_of}
use Rattle.collector.specs.Sound.{Sound, Fit, There, reach, shape, LoopsApart}
use Rattle.rules_laws.specs.Fields.{met, fields_again}
use Rattle.rules_laws.specs.Held.{count_more, count_other, counted, kept_counted, loops_are, items_with_lem, same_kind, other_list, kept_with_lem, empty_kept, empty_list, refused_same, Placed, IsTaken, taken_with}
use Rattle.rules_laws.specs.Loops.{MarkMayCome, apart_snoc}

-- ---- what is there stays there

-- m has at least as many of each kind
abbrev AtMost : Counts → Counts → Type 0
AtMost n m = (k : Kind) → count_of n k ≤ count_of m k

-- with one item more
more : (n : Counts) (k : Kind) → AtMost n (one_more n k)
more n k =
    by_kind (λ j. count_of n j ≤ count_of (one_more n k) j) k (omega (arith, count_more n k)) (λ j e. omega (arith, count_other n k j e))

-- so many of each kind an item reaches
module _ (n : Counts) (k : Kind) (i : ℕ) where
  abbrev earlier : Kind → ℕ
  earlier j = cond (ltb (rank_of j) (rank_of k)) (count_of n j) 0

  pub reach_own : count_of (reach n k i) k ≡ i
  reach_own = count_own (λ j. i) earlier k

  pub reach_rest : (j : Kind) → same k j ≡ false → count_of (reach n k i) j ≡ cond (ltb (rank_of j) (rank_of k)) (count_of n j) 0
  reach_rest = count_rest (λ j. i) earlier k

-- what an item reaches grows with what is held, and the next item reaches all that is held
reaches : {n m : Counts} → AtMost n m → (k : Kind) (i : ℕ) → AtMost (reach n k i) (reach m k i)
reaches {n} {m} a k i =
    by_kind (λ j. count_of (reach n k i) j ≤ count_of (reach m k i) j) k (omega (arith, reach_own n k i, reach_own m k i))
    (λ j e. omega (arith, reach_rest n k i j e, reach_rest m k i j e, go (ltb (rank_of j) (rank_of k)) (a j)))
  where
    go : (t : Bool) {y z : ℕ} → y ≤ z → cond t y 0 ≤ cond t z 0
    go true h = h
    go false h = omega arith

reaches_held : (n : Counts) (k : Kind) → (HeldAbove n (rank_of k) → ⊥) → AtMost n (reach (one_more n k) k (count_of n k))
reaches_held n k none =
    let i = count_of n k in
    by_kind (λ j. count_of n j ≤ count_of (reach (one_more n k) k i) j) k (omega (arith, reach_own (one_more n k) k i))
    (λ j e. omega (arith, reach_rest (one_more n k) k i j e, go j e (ltb (rank_of j) (rank_of k)) refl))
  where
    go : (j : Kind) → same k j ≡ false → (t : Bool) → ltb (rank_of j) (rank_of k) ≡ t → count_of n j ≤ cond t (count_of (one_more n k) j) 0
    go j e true b = omega (arith, count_other n k j e)
    go j e false b = elim (dec_lt 0 (count_of n j)) [ yes h ↦ absurd (none (j, later k j e b, h)) | no h ↦ omega arith ]

there_more : {n m : Counts} → AtMost n m → (k : Kind) (r : List Field) → There n k r → There m k r
there_more {n} {m} a k r t f (z, d, h) =
    t f (
      z,
      d,
      ⊎_elim
          (λ (j, u, l). let le : count_of n j ≤ z = omega (arith, a j) in inl (j, u, le))
          (λ (u, l). let le : 2 ^ n.sentences ≤ z = omega (arith, pow-le-pow_right {n = 2} (omega arith) (a kind.Sentence)) in inr (u, le))
          h,
    )

-- ---- the fields of a place

-- the length of a mark as a field
abbrev pub length_field : LoopMark → Content
length_field mark.None = content.Blank
length_field (mark.Counted l n b) = content.Number (pos l)
length_field (mark.Endless l b) = content.Number (pos l)

pub field_four : (s : ℕ) (w : Ref) (k : ℕ) (m : LoopMark) →
    at (row_of kind.Place (record { state = s; way = w; marks = k; mark = m })) 4 ≡ length_field m
unfolding row_of
field_four s w k mark.None = refl
field_four s w k (mark.Counted l n b) = refl
field_four s w k (mark.Endless l b) = refl

pub field_two : (p : Place) → at (row_of kind.Place p) 2 ≡ (reference p.way).content
unfolding row_of
field_two p = refl

-- the tests of its way in, where n places are held
way_at : (n : ℕ) (w : Ref) →
    cond (eqb n 0) (is_number (reference w).content) (is_blank (reference w).content) ≡ false → (n ≡ 0) ↔ (w ≡ None)
way_at zero None e = (λ z. refl, λ z. refl)
way_at zero (Some a) e = absurd (true≢false e)
way_at (suc n) None e = absurd (true≢false (rw (eqb-suc-zero n) at e))
way_at (suc n) (Some a) e = (λ z. absurd (omega arith), λ z. let o : ◌≡◌ {A = ℕ} 0 1 = cc in absurd (omega arith))

-- a length is not 0
in_range : (b : Bool) (l : ℕ) → outside (needed_if b sort.LoopLength) (content.Number (pos l)) ≡ false → 0 < l
in_range true l e = ltb-false l 1 (neither (ltb l 1) (ltb 64 l) e).0
in_range false l e = ltb-false l 1 (neither (ltb l 1) (ltb 64 l) e).0

long_enough : (r : List Field) → Fit kind.Place r → (l : ℕ) → at r 4 ≡ content.Number (pos l) → 0 < l
unfolding rule_at shape_of
long_enough r f l e =
    let x = in_filled (shape kind.Place r).filled in
    in_range (x 5 || x 6) l (subst (λ c. outside (rule_at (shape kind.Place r) 4) c ≡ false) e (met f 4).ranged)

-- the tests of its mark, where n places are held
mark_fits : (l : Loops) (n : ℕ) (m : LoopMark) → n < room_of kind.Place → is_closed l n ≡ false →
    (is_number (length_field m) && (is_open l n || is_long n (natural (length_field m)))) ≡ false →
    ((z : ℕ) → length_field m ≡ content.Number (pos z) → 0 < z) → MarkMayCome l n m
mark_fits l n mark.None h g e w =
    record { going = g; apart = λ x. absurd (x refl); within = omega arith; whole = λ x. absurd (x refl) }
mark_fits l n (mark.Counted z r b) h g e w =
    let t = neither (is_open l n) (is_long n z) e in
    record { going = g; apart = λ x. t.0; within = ltb-false (room_of kind.Place) (n + z) t.1; whole = λ x. w z refl }
mark_fits l n (mark.Endless z b) h g e w =
    let t = neither (is_open l n) (is_long n z) e in
    record { going = g; apart = λ x. t.0; within = ltb-false (room_of kind.Place) (n + z) t.1; whole = λ x. w z refl }

-- ---- one item more

-- what is true of every element and of one more
all_snoc : {A : Type 0} (P : ℕ → A → Type 0) (l : List A) (x d : A) (n : ℕ) → length l ≡ n →
    ((i : ℕ) → i < n → P i (get_or l i d)) → P n x → (i : ℕ) → i < n + 1 → P i (get_or (l ++ (x ∷ [])) i d)
all_snoc P l x d n e old new i h =
    elim (dec_lt i n) [
      | yes b ↦ subst (P i) (sym (get_or-append l (x ∷ []) d i (omega arith))) (old i b)
      | no b ↦
          let q : n ≡ i = omega arith in
          subst (λ j. P j (get_or (l ++ (x ∷ [])) j d)) q (subst (P n) (sym (get_or_at l x [] d n e)) new)
    ]

-- what a sound case has of its n places ps
record Places (n : ℕ) (ps : List Place) : Type 0 where
  ways : (i : ℕ) → i < n → (i ≡ 0) ↔ ((get_or ps i (no_item kind.Place)).way ≡ None)
  loops : LoopsApart ps

-- a kind but that of places comes before it
before_place : (k : Kind) → same k kind.Place ≡ false → rank_of k < rank_of kind.Place
before_place k e =
    elim (dec_lt (rank_of k) (rank_of kind.Place)) [
      | yes h ↦ h
      | no h ↦
          let i : rank_of k ≡ rank_of kind.Place = omega (arith, rank_below k) in
          absurd (true≢false (sym (same_self kind.Place) ∙ ap (λ j. same j kind.Place) (sym (ap kind_at i) ∙ kind_at_lem k) ∙ e))
    ]

pub empty_of : {A : Type 0} (l : List A) → length l ≡ 0 → l ≡ []
empty_of [] e = refl
empty_of (x ∷ l) e = absurd (omega arith)

-- place p may come as place n, where these loops are held
module _ (l : Loops) (n : ℕ) (p : Place) (h : n < room_of kind.Place) (f : Fit kind.Place (row_of kind.Place p)) (t : Placed l n (row_of kind.Place p)) where
  may_come : MarkMayCome l n p.mark
  may_come =
      let q : at (row_of kind.Place p) 4 ≡ length_field p.mark = field_four p.state p.way p.marks p.mark in
      mark_fits l n p.mark h t.before (rw q at t.mark) (λ j g. long_enough (row_of kind.Place p) f j (q ∙ g))

  comes_by : (n ≡ 0) ↔ (p.way ≡ None)
  comes_by = way_at n p.way (rw (field_two p) at t.way)

one_place : (n : ℕ) (ps : List Place) (p : Place) → length ps ≡ n → n < room_of kind.Place → Places n ps →
    (n ≡ 0) ↔ (p.way ≡ None) → MarkMayCome (loops_from no_loops 0 ps) n p.mark → Places (n + 1) (ps ++ (p ∷ []))
one_place n ps p e h s w m =
    record {
      ways = all_snoc (λ i (q : Place). (i ≡ 0) ↔ (q.way ≡ None)) ps p (no_item kind.Place) n e s.ways w;
      loops = apart_snoc ps p s.loops (subst (λ j. MarkMayCome (loops_from no_loops 0 ps) j p.mark) (sym e) m) (omega arith);
    }

module _ (c : Case) (s : Sound c) where
  places : Places c.count.places (items_of c).places
  places = record { ways = s.ways; loops = s.loops }

  -- a record that is taken: its kind, its row, and the item that it becomes, whose row it is again
  module _ (bs : List ℕ) (t : IsTaken c bs) where
    abbrev k : Kind
    k = t.kind

    abbrev r : List Field
    r = (record_of bs).fields

    abbrev x : Item k
    x = item_of k r

    again : row_of k x ≡ r
    again = fields_again k r t.fit

    -- the number of places and the places
    abbrev n : ℕ
    n = c.count.places

    abbrev ps : List Place
    ps = (items_of c).places

    -- a place that is taken
    module _ (e : k ≡ kind.Place) where
      row : row_of kind.Place (place_of r) ≡ r
      row = subst (λ j. row_of j (item_of j r) ≡ r) e again

      held : n < room_of kind.Place
      held = subst (λ j. count_of c.count j < room_of j) e t.next.room

      fit : Fit kind.Place (row_of kind.Place (place_of r))
      fit = subst (Fit kind.Place) (sym row) (subst (λ j. Fit j r) e t.fit)

      placed : Placed (loops_from no_loops 0 ps) n (row_of kind.Place (place_of r))
      placed = subst₂ (λ l r. Placed l n r) (loops_are s) (sym row) (t.next.place e)

      mark_may_come : MarkMayCome (loops_from no_loops 0 ps) n (place_of r).mark
      mark_may_come = may_come (loops_from no_loops 0 ps) n (place_of r) held fit placed

      next_places : Places (n + 1) (ps ++ (place_of r ∷ []))
      next_places =
          one_place n ps (place_of r) (counted c s kind.Place) held places (comes_by (loops_from no_loops 0 ps) n (place_of r) held fit placed) mark_may_come

    -- no other kind comes after a place
    none_yet : same k kind.Place ≡ false → ps ≡ []
    none_yet e = empty_of ps (elim (dec_lt 0 n) [
      | yes h ↦ absurd (t.next.order (kind.Place, before_place k e, h))
      | no h ↦ omega (arith, counted c s kind.Place)
    ])

    places_with_lem : Places (with c k r).count.places (items_of (with c k r)).places
    places_with_lem =
        subst (λ (y : Items). Places (with c k r).count.places y.places) (sym (items_with_lem c k r s.same t.next.room)) (go (same k kind.Place) refl)
      where
        go : (b : Bool) → same k kind.Place ≡ b → Places (cond b (n + 1) n) (cond b (ps ++ (place_of r ∷ [])) ps)
        go true e = next_places (same_is k kind.Place e)
        go false e = places

    -- what is true of every item that is held, and of the next
    all_with : (P : (j : Kind) → ℕ → Item j → Type 0) →
        ((j : Kind) (i : ℕ) → i < count_of c.count j → P j i (get_or (list_of j (items_of c)) i (no_item j))) →
        P k (count_of c.count k) x →
        (j : Kind) (i : ℕ) → i < count_of (with c k r).count j → P j i (get_or (list_of j (items_of (with c k r))) i (no_item j))
    all_with P old new =
        by_kind (λ j. (i : ℕ) → i < count_of (with c k r).count j → P j i (get_or (list_of j (items_of (with c k r))) i (no_item j))) k
        (subst₂ (λ n l. (i : ℕ) → i < n → P k i (get_or l i (no_item k))) (sym (count_more c.count k))
        (sym (same_kind c k r s.same t.next.room))
        (all_snoc (P k) (list_of k (items_of c)) x (no_item k) (count_of c.count k) (counted c s k) (old k) new))
        (λ j o. subst₂ (λ n l. (i : ℕ) → i < n → P j i (get_or l i (no_item j))) (sym (count_other c.count k j o))
        (sym (other_list c k r s.same t.next.room j o)) (old j))

    sound_with : Sound (with c k r)
    sound_with =
        record {
          same =
              kept_with_lem c k r s.same t.next.room
              (record { place = λ e. ((next_places e).loops, (mark_may_come e).whole); other = none_yet });
          room =
              by_kind (λ j. count_of (with c k r).count j ≤ room_of j) k (omega (arith, count_more c.count k, t.next.room))
              (λ j o. omega (arith, count_other c.count k j o, s.room j));
          fit = all_with (λ j i y. Fit j (row_of j y)) s.fit (subst (Fit k) (sym again) t.fit);
          there =
              all_with (λ j i y. There (reach (with c k r).count j i) j (row_of j y))
              (λ j i h. there_more (reaches (more c.count k) j i) j (row_of j (get_or (list_of j (items_of c)) i (no_item j))) (s.there j i h))
              (there_more (reaches_held c.count k t.next.order) k (row_of k x) (subst (There c.count k) (sym again) t.next.there));
          read = all_with (λ j i y. item_of j (row_of j y) ≡ y) s.read (ap (item_of k) again);
          ways = places_with_lem.ways;
          loops = places_with_lem.loops;
        }

-- ---- the empty case, and a record more

pub sound_empty : Sound empty_case
unfolding empty_case
sound_empty =
    record {
      same = empty_kept;
      room = λ k. omega (arith, none k);
      fit = λ k i h. absurd (omega (arith, none k));
      there = λ k i h. absurd (omega (arith, none k));
      read = λ k i h. absurd (omega (arith, none k));
      ways = λ i h. absurd (omega arith);
      loops = record { apart = λ p q b h m. absurd (omega arith); within = λ p h. absurd (omega arith); last = λ p e. omega arith };
    }
  where
    none : (k : Kind) → count_of empty_case.count k ≡ 0
    none k = sym (kept_counted empty_case empty_kept k) ∙ ap length (empty_list k)

pub sound_kept : (c : Case) (bs : List ℕ) → Sound c → Sound (taken_of c bs).case
sound_kept c bs s = go (is_taken (taken_of c bs).answer) refl
  where
    go : (b : Bool) → is_taken (taken_of c bs).answer ≡ b → Sound (taken_of c bs).case
    go true e =
        let t = taken_with c bs e in
        subst Sound (sym t.case) (sound_with c s bs t)
    go false e = subst Sound (sym (refused_same c bs e)) s
