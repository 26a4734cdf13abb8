-- A case that is written is taken in again, record by record, and is the same case, all of it. Assumes nothing.
use Rattle.std.specs.Prelude.{◌≡◌, refl, List, [], ◌∷◌, ◌++◌, map, Bool, true, false, cond, ltb, length, take, Ok}
use Rattle.std.proofs.Common.{◌∙◌, sym, ap, ap₂, subst₂, ⊎_elim, append-nil, append_assoc, add-one, arith, length-append, take-suc, take_all, lt-ltb, le-ltb, ltb-true}
use Rattle.std.proofs.Math.Path.{subst}
use Rattle.std.proofs.lemmas.List.{map-append}
use Prim.Native.Nat.{ℕ, zero, suc, ◌+◌, ◌≤◌, ◌<◌}
use Rattle.laws.specs.All.{gather}
use Rattle.laws.specs.Gathered.{gather_more}
use Rattle.record.specs.Layout.{record_of, cut}
use Rattle.kinds.specs.declared.Kind.{Kind}
use Rattle.kinds.specs.declared.Kind.TheVariants as kind
use Rattle.kinds.specs.declared.Counts.{Counts}
use Rattle.kinds.specs.Kinds.{rank_of, all_kinds, count_of, counts_by, same}
use Rattle.kinds.specs.Last.{kind_at}
use Rattle.kinds.specs.Laws.{rank_below, rank_at, later, by_kind, count_by, counts_same}
use Rattle.items.specs.Items.{Item, row_of}
use Rattle.items.specs.Lists.{Items, list_of, no_item}
use Rattle.items.specs.Laws.{list_by, items_same}
use Rattle.items.specs.File.{item_bytes, file_of}
use Rattle.answers.specs.Answers.{is_taken}
use Rattle.rules.specs.Files.{item_count}
use Rattle.rules.specs.Rules.{Applies}
use Rattle.collector.specs.declared.Case.{Case}
use Rattle.collector.specs.Taking.{Collected, taken_of, collected_from, collected_of}
use Rattle.collector.specs.Cases.{added, items_of, case_of, empty_case}
use Rattle.collector.specs.Sound.{Sound, reach}
use Rattle.rules_laws.specs.Held.{added_same, added_other, items_with_lem, counted, empty_list, taken_with}
use Rattle.rules_laws.specs.First.{answers_first}
use Rattle.rules_laws.specs.Kept.{reach_own, reach_rest, sound_empty, sound_kept}
use Rattle.rules_laws.specs.Spelled.{spells_file}
use Rattle.rules_laws.specs.Written.{record_reads}
use Rattle.rules_laws.specs.Records.{block_of, cut_file}
use Rattle.rules_laws.specs.Unrefused.{part, item, bytes, before, is, none_applies}

-- ---- taking records one after the other

collected_is : (bs : List ℕ) → collected_of empty_case bs ≡ collected_from empty_case 0 (cut bs)
unfolding collected_of
collected_is bs = refl

collected_none : (d : Case) (m : ℕ) → collected_from d m [] ≡ record { case = d; answer = Ok tt; taken = m }
unfolding collected_from
collected_none d m = refl

-- the records rs, taken from the case d, are all taken, and then z is held
record Takes (d : Case) (rs : List (List ℕ)) (z : Items) : Type 0 where
  case : Case
  sound : Sound case
  holds : items_of case ≡ z
  same : (m : ℕ) (qs : List (List ℕ)) → collected_from d m (rs ++ qs) ≡ collected_from case (m + length rs) qs

-- so it is from any case that holds y
abbrev Leads : List (List ℕ) → Items → Items → Type 0
Leads rs y z = (d : Case) → Sound d → items_of d ≡ y → Takes d rs z

leads_none : (y : Items) → Leads [] y y
leads_none y d s e =
    let i : (m : ℕ) → m ≡ m + 0 = λ m. omega arith in
    record { case = d; sound = s; holds = e; same = λ m qs. ap (λ j. collected_from d j qs) (i m) }

leads_one : (b : List ℕ) (y z : Items) → ((d : Case) → Sound d → items_of d ≡ y → (is_taken (taken_of d b).answer ≡ true) × (items_of (taken_of d b).case ≡ z)) →
    Leads (b ∷ []) y z
unfolding collected_from
leads_one b y z f d s e =
    let t = taken_of d b in
    record {
      case = t.case;
      sound = sound_kept d b s;
      holds = (f d s e).1;
      same = λ m qs. ap (λ q. cond q (collected_from t.case (m + 1) qs) (record { case = t.case; answer = t.answer; taken = m })) (f d s e).0;
    }

leads_both : (rs qs : List (List ℕ)) {x y z : Items} → Leads rs x y → Leads qs y z → Leads (rs ++ qs) x z
leads_both rs qs f g d s e =
    let t = f d s e in
    let u = g t.case t.sound t.holds in
    let i : (m : ℕ) → m + length rs + length qs ≡ m + length (rs ++ qs) = λ m. omega (arith, length-append rs qs) in
    record {
      case = u.case;
      sound = u.sound;
      holds = u.holds;
      same = λ m ps.
          ap (collected_from d m) (append_assoc rs qs ps) ∙ t.same m (qs ++ ps) ∙ u.same (m + length rs) ps ∙ ap (λ j. collected_from u.case j ps) (i m);
    }

-- ---- the records of the case

module _ (c : Case) (s : Sound c) where
  abbrev held : Counts
  held = c.count

  abbrev list : (k : Kind) → List (Item k)
  list k = list_of k (items_of c)

  -- the records of a kind
  abbrev block : Kind → List (List ℕ)
  block = block_of (items_of c)

  module _ (k : Kind) (i : ℕ) (h : i < count_of c.count k) where
    -- with item i those before it are those before the next
    added_next : added (before c k i) k (row_of k (item c k i)) ≡ before c k (i + 1)
    added_next =
        let r = row_of k (item c k i) in
        let so_far : ℕ → (j : Kind) → List (Item j) = λ m j. take (count_of (reach held k m) j) (list j) in
        items_same (by_kind (λ j. list_of j (added (before c k i) k r) ≡ list_of j (before c k (i + 1))) k
        (added_same (before c k i) k r
        ∙ ap₂ (λ l y. l ++ (y ∷ [])) (list_by (so_far i) k ∙ ap (λ m. take m (list k)) (reach_own held k i)) (s.read k i h)
        ∙ sym (take-suc (list k) i (no_item k) (omega (arith, counted c s k)))
        ∙ ap (λ m. take m (list k)) (sym (reach_own held k (i + 1) ∙ add-one i))
        ∙ sym (list_by (so_far (i + 1)) k))
        (λ j o.
        added_other (before c k i) k r j o
        ∙ list_by (so_far i) j
        ∙ ap (λ m. take m (list j)) (reach_rest held k i j o ∙ sym (reach_rest held k (i + 1) j o))
        ∙ sym (list_by (so_far (i + 1)) j)))

    item_leads : Leads (bytes c k i ∷ []) (before c k i) (before c k (i + 1))
    item_leads = leads_one (bytes c k i) (before c k i) (before c k (i + 1)) go
      where
        go : (d : Case) → Sound d → items_of d ≡ before c k i →
            (is_taken (taken_of d (bytes c k i)).answer ≡ true) × (items_of (taken_of d (bytes c k i)).case ≡ before c k (i + 1))
        go d t e =
            let b = bytes c k i in
            let a = (taken_of d b).answer in
            let q : is_taken (taken_of d b).answer ≡ true =
            ⊎_elim (λ o. o.0) (λ f. absurd (none_applies c s k i h a (subst (λ y. Applies y b a) e f.applies))) (answers_first d b t) in
            let w = taken_with d b q in
            let r = (record_of b).fields in (
              q,
              ap items_of w.case
                  ∙ items_with_lem d w.kind r t.same w.next.room
                  ∙ ap (λ j. added (items_of d) j r) (is c s k i h w.kind w.letter)
                  ∙ ap₂ (λ y r. added y k r) e (record_reads (s.fit k i h))
                  ∙ added_next,
            )

  -- the first m items of a kind
  items_lead : (k : Kind) (m : ℕ) → m ≤ count_of c.count k → Leads (map (item_bytes k) (take m (list k))) (before c k 0) (before c k m)
  items_lead k zero h = leads_none (before c k 0)
  items_lead k (suc m) h =
      let f = item_bytes k in
      let e : map (item_bytes k) (take m (list k)) ++ (bytes c k m ∷ []) ≡ map (item_bytes k) (take (suc m) (list k)) =
      sym (ap (map f) (take-suc (list k) m (no_item k) (omega (arith, counted c s k))) ∙ map-append f (take m (list k)) (item c k m ∷ [])) in
      subst₂ (λ rs j. Leads rs (before c k 0) (before c k j)) e (add-one m)
      (leads_both (map f (take m (list k))) (bytes c k m ∷ []) (items_lead k m (omega arith)) (item_leads k m h))

  -- all items of the kinds with a rank below r
  abbrev below : ℕ → Counts
  below r = counts_by (λ j. cond (ltb (rank_of j) r) (count_of held j) 0)

  below_of : (r : ℕ) (j : Kind) (t : Bool) → ltb (rank_of j) r ≡ t → count_of (below r) j ≡ cond t (count_of held j) 0
  below_of r j t e = count_by (λ j. cond (ltb (rank_of j) r) (count_of held j) 0) j ∙ ap (λ q. cond q (count_of held j) 0) e

  reach_none : (k : Kind) → below (rank_of k) ≡ reach held k 0
  reach_none k =
      counts_same (by_kind (λ j. count_of (below (rank_of k)) j ≡ count_of (reach held k 0) j) k
      (below_of (rank_of k) k false (le-ltb (rank_of k) (rank_of k) (omega arith)) ∙ sym (reach_own held k 0))
      (λ j o. below_of (rank_of k) j (ltb (rank_of j) (rank_of k)) refl ∙ sym (reach_rest held k 0 j o)))

  reach_all : (k : Kind) → reach held k (count_of held k) ≡ below (suc (rank_of k))
  reach_all k =
      let r = suc (rank_of k) in
      counts_same (by_kind (λ j. count_of (reach held k (count_of held k)) j ≡ count_of (below r) j) k
      (reach_own held k (count_of held k) ∙ sym (below_of r k true (lt-ltb (rank_of k) r (omega arith))))
      (λ j o. reach_rest held k (count_of held k) j o ∙ sym (below_of r j (ltb (rank_of j) (rank_of k)) (go j o (ltb (rank_of j) (rank_of k)) refl))))
    where
      go : (j : Kind) → same k j ≡ false → (t : Bool) → ltb (rank_of j) (rank_of k) ≡ t → ltb (rank_of j) (suc (rank_of k)) ≡ t
      go j o true e = lt-ltb (rank_of j) (suc (rank_of k)) (omega (arith, ltb-true (rank_of j) (rank_of k) e))
      go j o false e = le-ltb (rank_of j) (suc (rank_of k)) (omega (arith, later k j o e))

  kind_leads : (k : Kind) → Leads (block k) (part (items_of c) (below (rank_of k))) (part (items_of c) (below (suc (rank_of k))))
  kind_leads k =
      let e : take (count_of held k) (list k) ≡ list k = take_all (count_of held k) (list k) (omega (arith, counted c s k)) in
      subst₂ (λ y z. Leads (block k) (part (items_of c) y) (part (items_of c) z)) (sym (reach_none k)) (reach_all k)
      (subst (λ l. Leads (map (item_bytes k) l) (before c k 0) (before c k (count_of held k))) e (items_lead k (count_of held k) (omega arith)))

  -- the first r kinds
  kinds_lead : (r : ℕ) → r ≤ length all_kinds → Leads (gather block (take r all_kinds)) (part (items_of c) (below 0)) (part (items_of c) (below r))
  unfolding gather
  kinds_lead zero h = leads_none (part (items_of c) (below 0))
  kinds_lead (suc r) h =
      let k = kind_at r in
      subst (λ rs. Leads rs (part (items_of c) (below 0)) (part (items_of c) (below (suc r)))) (sym (ap (λ j. gather block (take j all_kinds)) (sym (add-one r)) ∙ gather_more block all_kinds r kind.State h))
      (leads_both (gather block (take r all_kinds)) (block k) (kinds_lead r (omega arith))
      (subst (λ j. Leads (block k) (part (items_of c) (below j)) (part (items_of c) (below (suc j)))) (rank_at r h) (kind_leads k)))

  empty_holds : items_of empty_case ≡ part (items_of c) (below 0)
  empty_holds =
      items_same (λ j.
      empty_list j
      ∙ sym (list_by (λ j. take (count_of (below 0) j) (list j)) j
      ∙ ap (λ m. take m (list j)) (below_of 0 j false (le-ltb (rank_of j) 0 (omega arith)))))

  all_hold : part (items_of c) (below (length all_kinds)) ≡ items_of c
  all_hold =
      items_same (λ j.
      list_by (λ j. take (count_of (below (length all_kinds)) j) (list j)) j
      ∙ ap (λ m. take m (list j)) (below_of (length all_kinds) j true (lt-ltb (rank_of j) (length all_kinds) (rank_below j)))
      ∙ take_all (count_of held j) (list j) (omega (arith, counted c s j)))

  -- ---- its file

  -- taking in the file of the case from the empty case takes every record, and gives the same case, all of it
  pub taken_again : collected_of empty_case (file_of (items_of c)) ≡ record { case = c; answer = Ok tt; taken = item_count (items_of c) }
  taken_again = r ∙ (λ i. record { case = same_case i; answer = Ok tt; taken = all_taken i })
    where
      t : Takes empty_case (gather block all_kinds) (part (items_of c) (below (length all_kinds)))
      t = kinds_lead (length all_kinds) (omega arith) empty_case sound_empty empty_holds

      r : collected_of empty_case (file_of (items_of c)) ≡ record { case = t.case; answer = Ok tt; taken = 0 + length (gather block all_kinds) }
      r = collected_is (file_of (items_of c)) ∙ ap (collected_from empty_case 0) (cut_file (items_of c) (λ k i h. s.fit k i (omega (arith, counted c s k))) ∙ sym (append-nil (gather block all_kinds))) ∙ t.same 0 [] ∙ collected_none t.case _

      same_case : t.case ≡ c
      same_case = t.sound.same ∙ ap case_of (t.holds ∙ all_hold) ∙ sym s.same

      all_taken : 0 + length (gather block all_kinds) ≡ item_count (items_of c)
      all_taken =
          ap (λ (q : Collected). q.taken) (sym r)
          ∙ (spells_file (file_of (items_of c)) (ap (λ (q : Collected). is_taken q.answer) r)).number
          ∙ ap (λ (q : Collected). item_count (items_of q.case)) r
          ∙ ap item_count (t.holds ∙ all_hold)
