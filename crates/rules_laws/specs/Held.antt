-- A case is its items: what one item more does to them, over the kind.
-- Nothing above this speaks of the room that is left. Assumes nothing.
use Rattle.std.specs.Prelude.{◌≡◌, List, [], ◌∷◌, ◌++◌, Bool, true, false, ◌&&◌, ◌||◌, ℕ, suc, ◌+◌, ◌-◌, ◌≤◌, ◌<◌, eqb, leb, ltb, length, take, set, replicate, get_or, Err, Ok}
use Rattle.std.proofs.Math.Path.{refl, ap}
use Rattle.std.proofs.Common.{◌∙◌, sym, ap₂, subst, true≢false, arith, length-append, leb-false}
use Rattle.std.proofs.Math.Bool.{cond}
use Rattle.std.proofs.lemmas.List.{length-replicate, set_at}
use Rattle.std.proofs.Math.Seq.{take-append_seam, append_snoc}
use Rattle.laws.specs.Members.{sum_le}
use Rattle.laws.specs.Tests.{tells_not}
use Rattle.record.specs.declared.Field.{Field}
use Rattle.record.specs.declared.Record.{Record}
use Rattle.record.specs.Layout.{fields, record_length, line_feed, at, record_of}
use Rattle.kinds.specs.declared.Kind.{Kind}
use Rattle.kinds.specs.declared.Kind.TheVariants.{Place}
use Rattle.kinds.specs.declared.Counts.{Counts}
use Rattle.kinds.specs.Kinds.{all_kinds, count_of, over_kinds, counts_total, same, letter_of, rank_of}
use Rattle.kinds.specs.Laws.{same_is, same_self, HeldAbove, tells_last, by_kind, count_own, count_rest, counts_same}
use Rattle.kinds.specs.Last.{last_rank}
use Rattle.kinds.specs.Contents.{natural, is_number, is_blank}
use Rattle.table.specs.Table.{shape_of}
use Rattle.items.specs.declared.LoopMark.TheVariants as mark
use Rattle.items.specs.Items.{Item, item_of, place_of}
use Rattle.items.specs.Lists.{Items, list_of, items_by, counts_of, room_of, no_item}
use Rattle.items.specs.Laws.{list_by, items_same, counted_of}
use Rattle.answers.specs.declared.Refusal.TheVariants.{Misspelled, Misfilled, OutOfRange, OutOfOrder, NoRoom, NotThere, Misplaced, WrongWayIn}
use Rattle.answers.specs.Answers.{is_taken}
use Rattle.answers.specs.Laws.{passed, both_take}
use Rattle.checks.specs.declared.Fault.{Fault}
use Rattle.checks.specs.declared.Fault.TheVariants as fault
use Rattle.checks.specs.Faults.{fault_at, lowest_fault}
use Rattle.checks.specs.Input.{bad_place, wrong_form, range_answer, extra_answer, missing_answer, form_answer, fields_answer, head_of, Head}
use Rattle.rules.specs.Rules.{IsA, length_of}
use Rattle.standing.specs.declared.Loops.{Loops}
use Rattle.standing.specs.Standing.{no_loops, loops_after, loops_from, record_answer, order_answer, room_answer, there_answer, layout_answer, place_answer, mark_answer, way_answer, is_closed, is_open, is_long, is_loop_end}
use Rattle.collector.specs.declared.Case.{Case}
use Rattle.collector.specs.Cases.{changed, added, arrays_of, filled, case_by, case_of, items_of, drifts_of, one_more, loops_with, round_from, drifts_with, with, empty_case}
use Rattle.collector.specs.Taking.{taken_of, taken_by, taken_as}
use Rattle.collector.specs.Sound.{Sound, Fit, There, LoopsApart}
use Rattle.rules_laws.specs.Bytes.{length_row, all_spelled}
use Rattle.rules_laws.specs.Letters.{by_head}
use Rattle.rules_laws.specs.Loops.{loops_snoc}
use Rattle.collector.proofs.Drifts.{no_places}
use Rattle.rules_laws.specs.Drifts.{drifts_after}
use Rattle.rules_laws.specs.Stages.{fault_none}
use Rattle.rules_laws.specs.Tells.{tells_bad, tells_missing, tells_extra, tells_outside, tells_there}

-- ---- kind by kind

-- where the items of kind k are changed, these are, and the others are not
module _ (k : Kind) (f : (j : Kind) → List (Item j) → List (Item j)) (x : Items) where
  abbrev lists : (j : Kind) → List (Item j)
  lists j = cond (same k j) (f j (list_of j x)) (list_of j x)

  changed_same : list_of k (changed k f x) ≡ f k (list_of k x)
  changed_same = list_by lists k ∙ ap (λ t. cond t (f k (list_of k x)) (list_of k x)) (same_self k)

  changed_other : (j : Kind) → same k j ≡ false → list_of j (changed k f x) ≡ list_of j x
  changed_other j e = list_by lists j ∙ ap (λ t. cond t (f j (list_of j x)) (list_of j x)) e

module _ (n : Counts) (k : Kind) where
  pub count_more : count_of (one_more n k) k ≡ count_of n k + 1
  count_more = count_own (λ j. count_of n j + 1) (count_of n) k

  pub count_other : (j : Kind) → same k j ≡ false → count_of (one_more n k) j ≡ count_of n j
  count_other = count_rest (λ j. count_of n j + 1) (count_of n) k

-- ---- the case that holds given items

pub items_of_lem : (x : Items) → items_of (case_of x) ≡ x
items_of_lem x =
    items_same (λ k.
    list_by (λ j. take (count_of (counts_of x) j) (list_of j (items_by (filled x)))) k
    ∙ ap₂ (λ n l. take n l) (counted_of x k) (list_by (filled x) k)
    ∙ take-append_seam (list_of k x) (replicate (room_of k - length (list_of k x)) (no_item k)))

-- storing an item after those that are held
set_filled : {A : Type 0} (l : List A) (r : ℕ) (d y : A) → length l < r →
    set (l ++ replicate (r - length l) d) (length l) y ≡ (l ++ (y ∷ [])) ++ replicate (r - length (l ++ (y ∷ []))) d
set_filled l r d y h =
    let m : ℕ = r - (length l + 1) in
    let e : r - length l ≡ suc m = omega arith in
    let g : r - length (l ++ (y ∷ [])) ≡ m = omega (arith, length-append l (y ∷ [])) in
    ap (λ k. set (l ++ replicate k d) (length l) y) e
    ∙ set_at l d (replicate m d) y (length l) refl
    ∙ sym (ap (λ k. (l ++ (y ∷ [])) ++ replicate k d) g ∙ append_snoc l y (replicate m d))

-- an item of kind k and the row r may follow the items x: a place leaves the loops apart, and a loop that it begins has a place; no other kind
-- comes after a place
pub record MayFollow (x : Items) (k : Kind) (r : List Field) : Type 0 where
  pub place : k ≡ Place → LoopsApart (x.places ++ (place_of r ∷ [])) × (((place_of r).mark ≡ mark.None → ⊥) → 0 < length_of (place_of r).mark)
  pub other : same k Place ≡ false → x.places ≡ []

module _ (x : Items) (k : Kind) (r : List Field) where
  abbrev put : (j : Kind) → List (Item j) → List (Item j)
  put j l = l ++ (item_of j r ∷ [])

  pub added_same : list_of k (added x k r) ≡ list_of k x ++ (item_of k r ∷ [])
  added_same = changed_same k put x

  pub added_other : (j : Kind) → same k j ≡ false → list_of j (added x k r) ≡ list_of j x
  added_other = changed_other k put x

  loops_added : loops_with (loops_from no_loops 0 x.places) (counts_of x) k r ≡ loops_from no_loops 0 (added x k r).places
  loops_added = go (same k Place)
    where
      go : (t : Bool) → let l = loops_from no_loops 0 x.places in
          cond t (loops_after l (length x.places) (place_of r).mark) l ≡ loops_from no_loops 0 (cond t (put Place x.places) x.places)
      go true =
          let z : length x.places ≡ 0 + length x.places = omega arith in
          ap (λ n. loops_after (loops_from no_loops 0 x.places) n (place_of r).mark) z ∙ sym (loops_snoc no_loops 0 x.places (place_of r))
      go false = refl

  counts_added : one_more (counts_of x) k ≡ counts_of (added x k r)
  counts_added =
      counts_same (by_kind (λ j. count_of (one_more (counts_of x) k) j ≡ count_of (counts_of (added x k r)) j) k
      (count_more (counts_of x) k
      ∙ ap (λ n. n + 1) (counted_of x k)
      ∙ sym (counted_of (added x k r) k ∙ ap length added_same ∙ length-append (list_of k x) (item_of k r ∷ [])))
      (λ j e. count_other (counts_of x) k j e ∙ counted_of x j ∙ sym (counted_of (added x k r) j ∙ ap length (added_other j e))))

  arrays_added : length (list_of k x) < room_of k →
      changed k (λ j l. set l (count_of (counts_of x) j) (item_of j r)) (items_by (filled x)) ≡ items_by (filled (added x k r))
  arrays_added h =
      let f : (j : Kind) → List (Item j) → List (Item j) = λ j l. set l (count_of (counts_of x) j) (item_of j r) in
      items_same (by_kind (λ j. list_of j (changed k f (items_by (filled x))) ≡ list_of j (items_by (filled (added x k r)))) k
      (changed_same k f (items_by (filled x))
      ∙ ap₂ (λ n l. set l n (item_of k r)) (counted_of x k) (list_by (filled x) k)
      ∙ set_filled (list_of k x) (room_of k) (no_item k) (item_of k r) h
      ∙ sym (list_by (filled (added x k r)) k ∙ ap (λ l. l ++ replicate (room_of k - length l) (no_item k)) added_same))
      (λ j e.
      changed_other k f (items_by (filled x)) j e
      ∙ list_by (filled x) j
      ∙ sym (list_by (filled (added x k r)) j ∙ ap (λ l. l ++ replicate (room_of j - length l) (no_item j)) (added_other j e))))

  drifts_added : MayFollow x k r → length (list_of k x) < room_of k →
      drifts_with (drifts_of x) (loops_from no_loops 0 (added x k r).places) (items_by (filled (added x k r))) (counts_of x) k ≡ drifts_of (added x k r)
  drifts_added m h = go (same k Place) refl
    where
      go : (t : Bool) → same k Place ≡ t →
          drifts_with (drifts_of x) (loops_from no_loops 0 (added x k r).places) (items_by (filled (added x k r))) (counts_of x) k ≡ drifts_of (added x k r)
      go true e =
          let i = same_is k Place e in
          let a = m.place i in
          subst
          (λ j. drifts_with (drifts_of x) (loops_from no_loops 0 (added x j r).places) (items_by (filled (added x j r))) (counts_of x) j ≡ drifts_of (added x j r)) (sym i)
          (drifts_after x (place_of r) a.0 a.1 (subst (λ j. length (list_of j x) < room_of j) i h))
      go false e =
          let l = loops_from no_loops 0 (added x k r).places in
          let q = l.first.0 in
          let n = length x.places in
          ap (λ t. cond (t && is_loop_end l n) (set (drifts_of x) q (round_from (items_by (filled (added x k r))) q n)) (drifts_of x)) e
          ∙ no_places x (m.other e)
          ∙ sym (no_places (added x k r) (added_other Place e ∙ m.other e))

  with_is : MayFollow x k r → length (list_of k x) < room_of k → with (case_of x) k r ≡ case_of (added x k r)
  with_is m h =
      (λ i. case_by (counts_added i) (loops_added i) (drifts_with (drifts_of x) (loops_added i) (arrays_added h i) (counts_of x) k) (arrays_added h i))
      ∙ ap (λ d. case_by (counts_of (added x k r)) (loops_from no_loops 0 (added x k r).places) d (items_by (filled (added x k r)))) (drifts_added m h)

  -- whatever is kept beside the items
  items_added : length (list_of k x) < room_of k → items_of (with (case_of x) k r) ≡ added x k r
  items_added h = (λ i. items_of (case_by (counts_added i) no_loops [] (arrays_added h i))) ∙ items_of_lem (added x k r)

-- ---- a case that is its items

abbrev pub Kept : Case → Type 0
Kept c = c ≡ case_of (items_of c)

module _ (c : Case) (s : Kept c) where
  pub kept_counts : c.count ≡ counts_of (items_of c)
  kept_counts = ap (λ (d : Case). d.count) s

  pub kept_counted : (k : Kind) → length (list_of k (items_of c)) ≡ count_of c.count k
  kept_counted k = sym (ap (λ n. count_of n k) kept_counts ∙ counted_of (items_of c) k)

pub counted : (c : Case) → Sound c → (k : Kind) → length (list_of k (items_of c)) ≡ count_of c.count k
counted c s = kept_counted c s.same

pub counts_are : (c : Case) → Sound c → c.count ≡ counts_of (items_of c)
counts_are c s = kept_counts c s.same

module _ {c : Case} (s : Sound c) where
  -- all that is held has room
  pub total_room : counts_total c.count ≤ over_kinds room_of
  total_room = sum_le (count_of c.count) room_of s.room all_kinds

  -- what is kept beside the items follows from them
  pub loops_are : c.loops ≡ loops_from no_loops 0 (items_of c).places
  loops_are = ap (λ (d : Case). d.loops) s.same

  pub drifts_are : c.drifts ≡ drifts_of (items_of c)
  drifts_are = ap (λ (d : Case). d.drifts) s.same

  -- each array is the items, and empty ones up to the room
  pub padded : (k : Kind) → list_of k (arrays_of c) ≡ filled (items_of c) k
  padded k = ap (λ (d : Case). list_of k (arrays_of d)) s.same ∙ list_by (filled (items_of c)) k

  pub long : (k : Kind) → length (list_of k (arrays_of c)) ≡ room_of k
  long k =
      let l = list_of k (items_of c) in
      ap length (padded k)
      ∙ omega (arith, length-append l (replicate (room_of k - length l) (no_item k)), length-replicate (room_of k - length l) (no_item k), counted c s k, s.room k)

-- ---- a case with one item more

module _ (c : Case) (k : Kind) (r : List Field) (s : Kept c) (h : count_of c.count k < room_of k) where
  pub items_with_lem : items_of (with c k r) ≡ added (items_of c) k r
  items_with_lem = ap (λ (d : Case). items_of (with d k r)) s ∙ items_added (items_of c) k r (omega (arith, kept_counted c s k))

  pub kept_with_lem : MayFollow (items_of c) k r → Kept (with c k r)
  kept_with_lem m = ap (λ (d : Case). with d k r) s ∙ with_is (items_of c) k r m (omega (arith, kept_counted c s k)) ∙ ap case_of (sym items_with_lem)

  pub same_kind : list_of k (items_of (with c k r)) ≡ list_of k (items_of c) ++ (item_of k r ∷ [])
  same_kind = ap (list_of k) items_with_lem ∙ added_same (items_of c) k r

  pub other_list : (j : Kind) → same k j ≡ false → list_of j (items_of (with c k r)) ≡ list_of j (items_of c)
  other_list j e = ap (list_of j) items_with_lem ∙ added_other (items_of c) k r j e

  pub other_kind : (j : Kind) → (j ≡ k → ⊥) → list_of j (items_of (with c k r)) ≡ list_of j (items_of c)
  other_kind =
      by_kind (λ j. (j ≡ k → ⊥) → list_of j (items_of (with c k r)) ≡ list_of j (items_of c)) k (λ d. absurd (d refl)) (λ j e d. other_list j e)

-- ---- the empty case

pub empty_kept : Kept empty_case
unfolding empty_case
empty_kept = ap case_of (sym (items_of_lem (items_by (λ k. []))))

pub empty_list : (k : Kind) → list_of k (items_of empty_case) ≡ []
unfolding empty_case
empty_list k = ap (list_of k) (items_of_lem (items_by (λ k. []))) ∙ list_by (λ k. []) k

-- ---- a record that is refused

-- it leaves the whole case as it was
same_by : (c : Case) (bs : List ℕ) (h : Head) → is_taken (taken_by c h bs).answer ≡ false → (taken_by c h bs).case ≡ c
unfolding taken_as
same_by c bs (Ok k) e = ap (λ t. cond t (with c k (record_of bs).fields) c) e
same_by c bs (Err a) e = refl

pub refused_same : (c : Case) (bs : List ℕ) → is_taken (taken_of c bs).answer ≡ false → (taken_of c bs).case ≡ c
unfolding taken_of
refused_same c bs e = same_by c bs (head_of bs) e

-- ---- a record that is taken

-- a place may come as place n, where these loops are held
pub record Placed (l : Loops) (n : ℕ) (r : List Field) : Type 0 where
  pub before : is_closed l n ≡ false
  pub mark : (is_number (at r 4) && (is_open l n || is_long n (natural (at r 4)))) ≡ false
  pub way : cond (eqb n 0) (is_number (at r 2)) (is_blank (at r 2)) ≡ false

-- a record of kind k may come where so many items and these loops are held
pub record Next (n : Counts) (l : Loops) (k : Kind) (r : Record) : Type 0 where
  pub order : HeldAbove n (rank_of k) → ⊥
  pub room : count_of n k < room_of k
  pub there : There n k r.fields
  pub place : k ≡ Place → Placed l n.places r.fields

-- what follows from a record's being taken: its length, its line feed, its kind, its own fields, what is held, and the case after it
pub record IsTaken (c : Case) (bs : List ℕ) : Type 0 where
  pub kind : Kind
  pub whole : length bs ≡ record_length
  pub ended : get_or bs (record_length - 1) 0 ≡ line_feed
  pub letter : get_or bs 0 0 ≡ letter_of kind
  pub fit : Fit kind (record_of bs).fields
  pub next : Next c.count c.loops kind (record_of bs)
  pub case : (taken_of c bs).case ≡ with c kind (record_of bs).fields

fit_is : (k : Kind) (bs : List ℕ) → length bs ≡ record_length → is_taken (fields_answer (shape_of k (record_of bs)) (record_of bs)) ≡ true → Fit k (record_of bs).fields
unfolding fields_answer form_answer missing_answer extra_answer range_answer
fit_is k bs l e =
    let r = record_of bs in
    let s = shape_of k r in
    let low : Fault → ℕ = λ f. lowest_fault f s r in
    let none : (f : Fault) → leb (low f) fields ≡ false → (g : ℕ) → fault_at f s r g ≡ false = λ f h. fault_none f s bs (leb-false (low f) fields h) in
    let p0 = passed (leb (low fault.Misspelled) fields) (Err (Misspelled (bad_place r (low fault.Misspelled)))) (form_answer s r) refl e in
    let p1 = passed (wrong_form s r) (Err (OutOfRange 1)) (missing_answer s r) refl p0.1 in
    let p2 = passed (leb (low fault.Missing) fields) (Err (Misfilled (low fault.Missing))) (extra_answer s r) refl p1.1 in
    let p3 = passed (leb (low fault.Extra) fields) (Err (Misfilled (low fault.Extra))) (range_answer s r) refl p2.1 in
    let p4 = passed (leb (low fault.OutOfRange) fields) (Err (OutOfRange (low fault.OutOfRange))) (Ok tt) refl p3.1 in
    record {
      long = length_row bs;
      spelled = all_spelled bs l (λ g. tells_not _ (tells_bad r.fields g) (none fault.Misspelled p0.0 g));
      full = λ g. tells_not _ (tells_missing k r.fields g) (none fault.Missing p2.0 g);
      bare = λ g. tells_not _ (tells_extra k r.fields g) (none fault.Extra p3.0 g);
      ranged = λ g. tells_not _ (tells_outside k r.fields g) (none fault.OutOfRange p4.0 g);
    }

place_is : (l : Loops) (n : ℕ) (r : List Field) → is_taken (place_answer l n r) ≡ true → Placed l n r
unfolding place_answer mark_answer way_answer
place_is l n r e =
    let p0 = passed (is_closed l n) (Err (Misplaced 0)) (mark_answer l n r) refl e in
    let p1 = passed (is_number (at r 4) && (is_open l n || is_long n (natural (at r 4)))) (Err (Misplaced 4)) (way_answer n r) refl p0.1 in
    let p2 = passed (cond (eqb n 0) (is_number (at r 2)) (is_blank (at r 2))) (Err WrongWayIn) (Ok tt) refl p1.1 in
    record { before = p0.0; mark = p1.0; way = p2.0 }

next_is : (n : Counts) (l : Loops) (k : Kind) (bs : List ℕ) → is_taken (order_answer n l (shape_of k (record_of bs)) (record_of bs)) ≡ true → Next n l k (record_of bs)
unfolding order_answer room_answer there_answer shape_of
next_is n l k bs e =
    let r = record_of bs in
    let s = shape_of k r in
    let m : ℕ = lowest_fault (fault.NotThere n) s r in
    let p0 = passed (ltb (rank_of k) (last_rank n)) (Err OutOfOrder) (room_answer n l s r) refl e in
    let p1 = passed (leb (room_of k) (count_of n k)) (Err NoRoom) (there_answer n l s r) refl p0.1 in
    let p2 = passed (leb m fields) (Err (NotThere m)) (layout_answer k n l r.fields) refl p1.1 in
    record {
      order = tells_not _ (tells_last n (rank_of k)) p0.0;
      room = leb-false (room_of k) (count_of n k) p1.0;
      there = λ g. tells_not _ (tells_there k r.fields g n) (fault_none (fault.NotThere n) s bs (leb-false m fields p2.0) g);
      place = λ i. place_is l n.places r.fields (subst (λ j. is_taken (layout_answer j n l r.fields) ≡ true) i p2.1);
    }

module _ (c : Case) (bs : List ℕ) where
  -- a head that is not refused is that of a whole record with its kind's letter
  abbrev Headed : Head → Type 0
  Headed (Ok k) = (length bs ≡ record_length) × (get_or bs (record_length - 1) 0 ≡ line_feed) × IsA k bs
  Headed (Err a) = Unit {0}

  taken_by_lem : (h : Head) → Headed h → head_of bs ≡ h → is_taken (taken_by c h bs).answer ≡ true → IsTaken c bs
  unfolding taken_of taken_as record_answer
  taken_by_lem (Err a) r e t = absurd (true≢false (sym t))
  taken_by_lem (Ok k) r e t =
      let s = shape_of k (record_of bs) in
      let b = both_take (fields_answer s (record_of bs)) (order_answer c.count c.loops s (record_of bs)) t in
      record {
        kind = k;
        whole = r.0;
        ended = r.1;
        letter = r.2;
        fit = fit_is k bs r.0 b.0;
        next = next_is c.count c.loops k bs b.1;
        case = ap (λ h. (taken_by c h bs).case) e ∙ ap (λ q. cond q (with c k (record_of bs).fields) c) t;
      }

  pub taken_with : is_taken (taken_of c bs).answer ≡ true → IsTaken c bs
  unfolding taken_of
  taken_with = taken_by_lem (head_of bs) (by_head bs Headed (λ e. tt) (λ w e. tt) (λ w d e. tt) (λ w d k is. (w, d, is))) refl
