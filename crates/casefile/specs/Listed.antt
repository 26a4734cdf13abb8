-- Every file gets one of document 01's results, with its second and third number in range. Assumes nothing.
use Rattle.std.specs.Prelude.{◌≡◌, refl, List, [], ◌∷◌, Bool, true, false, cond, ℕ, zero, suc, ◌+◌, ◌≤◌, ◌<◌, eqb, length, Err, None, Ok, Some}
use Rattle.std.proofs.Common.{◌∙◌, sym, ap, inl, inr, ⊎_elim, true≢false, arith, lit<}
use mathlib.Core.List.Memᴰ
use Rattle.laws.specs.Tests.{cond_by}
use Rattle.laws.specs.All.{All, none, also, from, sum_over}
use Rattle.laws.specs.Members.{Has, all_has, has_all, all_map, gather_has, has_below, all_pairs}
use Rattle.record.specs.Layout.{record_of, cut}
use Rattle.kinds.specs.declared.Kind.{Kind}
use Rattle.kinds.specs.declared.Kind.TheVariants as kind
use Rattle.kinds.specs.Kinds.{counts_total}
use Rattle.table.specs.Table.{shape_of}
use Rattle.items.specs.Lists.{Items, list_of, counts_of, room_of}
use Rattle.answers.specs.declared.Refusal.TheVariants as refusal
use Rattle.answers.specs.Answers.{is_taken, Answer}
use Rattle.checks.specs.declared.Fault.TheVariants as fault
use Rattle.rules.specs.Rules.{Applies, fields_of}
use Rattle.rules.specs.Files.{item_count}
use Rattle.collector.specs.declared.Case.{Case}
use Rattle.collector.specs.Taking.{Collected, taken_of, collected_from, collected_of}
use Rattle.collector.specs.Cases.{empty_case, items_of}
use Rattle.collector.specs.Sound.{Sound}
use Rattle.rules_laws.specs.Tells.{tells_missing, tells_extra, tells_outside, tells_there}
use Rattle.rules_laws.specs.Stages.{in_record}
use Rattle.rules_laws.specs.Bytes.{bad_in}
use Rattle.rules_laws.specs.Held.{counted, counts_are, total_room, taken_with}
use Rattle.rules_laws.specs.Kept.{sound_empty, sound_kept}
use Rattle.rules_laws.specs.Spelled.{size_more}
use Rattle.rules_laws.specs.Theorems.{answers}
use Rattle.meaning.specs.Run.{Way, place_at, back_of, move_at, move_no, move_by, guards_of}
use Rattle.meaning.specs.Judged.{way_in, ways_into, ways_of, Test, tests_of, Mark, marks_of, marked, root, state_at, start_of}
use Rattle.meaning.specs.Listed.{room, ThirdFits, NumbersFit, Listed, refused, judged}
use Rattle.meaning_laws.specs.Lists.{all_grid}
use Rattle.meaning_laws.specs.Given.{facts}
use Rattle.verdict.specs.Verdict as judge
use Rattle.verdict.specs.Verdict.{Found, nowhere, first_not, finished, connects, passes, mark_right, verdict}
use Rattle.verdict_laws.specs.Steps.{in_way, back_way}
use Rattle.casefile.specs.Answer.{answer_after, answer_of}
use Rattle.items.specs.Items.{Ref}

-- ---- a record

-- a refusal that applies names a field, or a byte of one, that it may name
third_fits : (x : Items) (bs : List ℕ) (a : Answer) → Applies x bs a → ThirdFits a
third_fits x bs (Ok tt) w = absurd w
third_fits x bs (Err refusal.NotARecord) w = tt
third_fits x bs (Err refusal.NoLineFeed) w = tt
third_fits x bs (Err refusal.NoSuchKind) w = tt
third_fits x bs (Err (refusal.Misspelled p)) (f, k, l, b, e) = let (h, i) = bad_in bs f k b in (omega arith, omega (arith, b.0))
third_fits x bs (Err (refusal.Misfilled f)) (k, is, form, w) =
    ⊎_elim (λ l. in_record fault.Missing (shape_of k (record_of bs)) bs f ((tells_missing k (fields_of bs) f).1 l.holds))
    (λ (full, l). in_record fault.Extra (shape_of k (record_of bs)) bs f ((tells_extra k (fields_of bs) f).1 l.holds)) w
third_fits x bs (Err (refusal.OutOfRange f)) (k, is, l) = in_record fault.OutOfRange (shape_of k (record_of bs)) bs f ((tells_outside k (fields_of bs) f).1 l.holds)
third_fits x bs (Err refusal.OutOfOrder) w = tt
third_fits x bs (Err refusal.NoRoom) w = tt
third_fits x bs (Err (refusal.NotThere f)) (k, is, l) =
    in_record (fault.NotThere (counts_of x)) (shape_of k (record_of bs)) bs f ((tells_there k (fields_of bs) f (counts_of x)).1 l.holds)
third_fits x bs (Err (refusal.Misplaced f)) (is, w) = ⊎_elim (λ c. inl c.1) (λ m. inr m.2) w
third_fits x bs (Err refusal.WrongWayIn) w = tt

-- ---- a judgement

-- P is true of what is found, if anything is
data Of {A : Type 0} (P : A → Type 0) : Found A → Type 0 where
  no_one : Of P nowhere
  one : {a : A} → P a → Of P (judge.at a)

-- what is true of all of a list is true of the one that is found
found : {A : Type 0} {P : A → Type 0} {l : List A} (ok : A → Bool) → All P l → Of P (first_not ok l)
unfolding first_not
found ok none = no_one
found {A} {P} ok (also {x = a} p h) = go (ok a) (found ok h)
  where
    go : (t : Bool) {y : Found A} → Of P y → Of P (elim t [ true ↦ y | false ↦ judge.at a ])
    go true q = q
    go false q = one p

module _ (c : Case) (s : Sound c) where
  abbrev x : Items
  x = items_of c

  -- all that is held has room
  held : (k : Kind) → length (list_of k x) ≤ room_of k
  held k = omega (arith, counted c s k, s.room k)

  pub within : item_count x ≤ room
  within = omega (arith, ap counts_total (counts_are c s), total_room s)

  -- the place of a way is there
  way_place : (w : Way) → Has (ways_of x) w → w.place < length x.places
  way_place w h =
      let ps = x.places in
      let (p, b, k) = gather_has (ways_into ps) (from 0 (length ps)) h in
      let l = (has_below (length ps) p).0 b in
      ⊎_elim (λ i. rw (in_way p (place_at ps p).way {w = w} i).0 l) (λ i. rw (back_way p (place_at ps p).mark {w = w} i).0 l)
      (Memᴰ.append_cases (way_in p (place_at ps p).way) k)

  -- a move that is named is there
  abbrev MoveThere : Ref → Type 0
  MoveThere r = (t : ℕ) → r ≡ Some t → t < length x.moves

  way_move : (w : Way) → w.place < length x.places → MoveThere (move_no x.places w)
  way_move w h t = go w.back
    where
      into : (p : ℕ) → p < length x.places → (place_at x.places p).way ≡ Some t → t < length x.moves
      into zero h e = let z : ◌≡◌ {A = ℕ} 0 1 = cc (facts c s).start in absurd (omega arith)
      into (suc p) h e =
          let (u, q, l) = (facts c s).resolved.ways (suc p) (omega arith) h in
          let r : u ≡ t = cc in
          omega arith

      go : (b : Bool) → cond b (back_of (place_at x.places w.place).mark) (place_at x.places w.place).way ≡ Some t → t < length x.moves
      go true = (facts c s).resolved.backs w.place t h
      go false = into w.place h

  number_small : (r : Ref) → MoveThere r → judge.ref_number r < room_of kind.Move
  number_small None k = lit< tt
  number_small (Some t) k = omega (arith, k t refl, held kind.Move)

  guards_small : (r : Ref) → MoveThere r → All (λ g. g < room_of kind.Guard) (guards_of (move_at x.moves r))
  unfolding move_at
  guards_small None k = none
  guards_small (Some t) k = all_map (λ g l. omega (arith, held kind.Guard)) ((facts c s).resolved.guards t (k t refl))

  -- what is found is in range
  abbrev WayFits : Way → Type 0
  WayFits w = (w.place < room_of kind.Place) × (judge.ref_number (move_no x.places w) < room_of kind.Move)

  abbrev TestFits : Test → Type 0
  TestFits t = (t.way.place < room_of kind.Place) × (t.guard < room_of kind.Guard)

  abbrev MarkFits : Mark → Type 0
  MarkFits k = (k.place < room_of kind.Place) × (k.sentence < room_of kind.Sentence)

  ways_fit : All WayFits (ways_of x)
  ways_fit =
      has_all (ways_of x) (λ w h.
      let p = way_place w h in
      (omega (arith, held kind.Place), number_small (move_no x.places w) (way_move w p)))

  tests_fit : All TestFits (tests_of x)
  tests_fit =
      (all_pairs {C = Test} (λ w g. record { way = w; guard = g }) (λ w. guards_of (move_by x w)) (ways_of x)).1
      (λ w g h k.
      let p = way_place w h in
      (omega (arith, held kind.Place), all_has (guards_small (move_no x.places w) (way_move w p)) k))

  marks_fit : All MarkFits (marks_of x)
  marks_fit = (all_grid (length x.sentences) (length x.places)).1 (λ i p a b. (omega (arith, held kind.Place), omega (arith, held kind.Sentence)))

  by_tests : (f s r : Bool) {w : Found Way} {t : Found Test} {k : Found Mark} → Of WayFits w → Of TestFits t → Of MarkFits k →
      NumbersFit (judge.judgement_by x f s w t k r)
  by_tests false s r a b d = within
  by_tests true false r a b d = tt
  by_tests true true r (one a) b d = a
  by_tests true true r no_one (one b) d = b
  by_tests true true r no_one no_one (one d) = d
  by_tests true true false no_one no_one no_one = omega (arith, held kind.Sentence)
  by_tests true true true no_one no_one no_one = tt

  -- the answer of a judgement is listed
  verdict_fits : NumbersFit (verdict x (start_of x))
  unfolding verdict
  verdict_fits =
      by_tests (finished x) (eqb (state_at x 0) 0) (marked x (root x) 0)
      (found (connects x) ways_fit) (found (passes x (start_of x)) tests_fit) (found (mark_right x (start_of x)) marks_fit)

-- ---- a file

-- the answer where records rs are collected, and the case c holds the m records taken before
from_here : (rs : List (List ℕ)) (c : Case) (m : ℕ) → Sound c → m ≡ item_count (items_of c) → Listed (answer_after (collected_from c m rs))
unfolding collected_from
from_here [] c m s e = judged (verdict (items_of c) (start_of (items_of c))) (verdict_fits c s)
from_here (b ∷ rs) c m s e =
    let t = taken_of c b in
    cond_by (λ (r : Collected). Listed (answer_after r)) (is_taken t.answer) {x = collected_from t.case (m + 1) rs} {y = record { case = t.case; answer = t.answer; taken = m }}
    (λ h. from_here rs t.case (m + 1) (sound_kept c b s) (omega (arith, size_more c b rs (taken_with c b h) s)))
    (λ h. rw h
    (⊎_elim (λ k. absurd (true≢false (sym k.0 ∙ h))) (λ k. refused m t.answer (omega (arith, within c s)) (third_fits (items_of c) b t.answer k.applies))
    (answers c b s)))

-- every file gets one of the listed results
pub listed : (bs : List ℕ) → Listed (answer_of bs)
unfolding answer_of collected_of sum_over
listed bs = from_here (cut bs) empty_case 0 sound_empty (unfold empty_case in refl)
