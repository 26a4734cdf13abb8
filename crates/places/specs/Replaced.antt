-- A case with other places instead of those that it holds, each of which meets the rules, has what every case has that records make; where they are the same but
-- for rounds and marks, it has the same loops and drifts beside its items. Assumes nothing.
use Rattle.std.specs.Prelude.{◌≡◌, refl, ◌↔◌, List, [], ◌∷◌, cond, ℕ, suc, ◌+◌, ◌≤◌, ◌<◌, leb, pos, length, get_or, None}
use Rattle.std.proofs.Common.{sym, ◌∙◌, ap, subst, arith}
use Rattle.laws.specs.Tab.{tab}
use Rattle.kinds.specs.declared.Kind.{Kind}
use Rattle.kinds.specs.declared.Kind.TheVariants as kind
use Rattle.kinds.specs.declared.Counts.{Counts}
use Rattle.kinds.specs.Kinds.{count_of, counts_by, same}
use Rattle.kinds.specs.Laws.{each_kind}
use Rattle.counters.specs.Vectors.{vec_of}
use Rattle.items.specs.declared.Place.{Place}
use Rattle.items.specs.Items.{Item, item_of, row_of}
use Rattle.items.specs.Lists.{Items, list_of, items_by, counts_of, room_of, no_item, with_places}
use Rattle.items.specs.Laws.{counted_of}
use Rattle.standing.specs.declared.Loops.{Loops}
use Rattle.standing.specs.Standing.{no_loops, loops_after, loops_from}
use Rattle.meaning.specs.Run.{place_at}
use Rattle.collector.specs.declared.Case.{Case}
use Rattle.collector.specs.Cases.{drifts_of, arrays_of, filled, case_by, case_of, items_of}
use Rattle.collector.specs.Sound.{Sound, Fit, There, LoopsApart, reach}
use Rattle.rules_laws.specs.Held.{items_of_lem, counted, counts_are, loops_are, drifts_are, padded}
use Rattle.meaning_laws.specs.Plans.{SamePlan, same_loop, same_endless, same_end, same_none, same_drift}

-- ---- what is kept beside the items

pub counts_same : (x : Items) {qs : List Place} → SamePlan x.places qs → counts_of (with_places x qs) ≡ counts_of x
counts_same x e = ap (λ n. counts_by (λ k. cond (same kind.Place k) n (length (list_of k x)))) e.long

-- of the places from place n on, after the loops l
loops_from_lem : (l : Loops) (n : ℕ) (ps qs : List Place) → SamePlan ps qs → loops_from l n qs ≡ loops_from l n ps
unfolding loops_from
loops_from_lem l n [] [] e = refl
loops_from_lem l n [] (q ∷ qs) e = absurd (omega (arith, e.long))
loops_from_lem l n (p ∷ ps) [] e = absurd (omega (arith, e.long))
loops_from_lem l n (p ∷ ps) (q ∷ qs) e =
    ap (λ k. loops_from k (n + 1) qs) (same_loop e (loops_after l n) (λ i j m b. refl) 0)
    ∙ loops_from_lem (loops_after l n p.mark) (n + 1) ps qs
    (record { long = omega (arith, e.long); states = λ k. e.states (suc k); ways = λ k. e.ways (suc k); loops = λ k. e.loops (suc k) })

pub loops_same : {ps qs : List Place} → SamePlan ps qs → loops_from no_loops 0 qs ≡ loops_from no_loops 0 ps
loops_same {ps} {qs} = loops_from_lem no_loops 0 ps qs

pub drifts_same : (x : Items) {qs : List Place} → SamePlan x.places qs → drifts_of (with_places x qs) ≡ drifts_of x
unfolding drifts_of
drifts_same x e = λ i. tab (room_of kind.Place) 0 (λ q. vec_of (λ j. cond (leb (same_end e q i) (e.long i)) (same_drift x e j q i) (pos 0)))

-- ---- the invariant

-- item i of kind k meets the rules, where so many items are held: as each does of a case that records make
pub record Meets (n : Counts) (k : Kind) (i : ℕ) (y : Item k) : Type 0 where
  pub fit : Fit k (row_of k y)
  pub there : There (reach n k i) k (row_of k y)
  pub read : item_of k (row_of k y) ≡ y

pub meets : {c : Case} → Sound c → (k : Kind) (i : ℕ) → i < count_of c.count k → Meets c.count k i (get_or (list_of k (items_of c)) i (no_item k))
meets s k i h = record { fit = s.fit k i h; there = s.there k i h; read = s.read k i h }

apart_same : {ps qs : List Place} → SamePlan ps qs → LoopsApart ps → LoopsApart qs
apart_same e h =
    record {
      apart = λ p q l g m. omega (arith, same_end e p, h.apart p q l (omega (arith, e.long)) (λ d. m (same_none e q d)));
      within = λ p g. omega (arith, same_end e p, h.within p (omega (arith, e.long)));
      last = λ p d. omega (arith, same_end e p, e.long, h.last p (sym (same_endless e p) ∙ d));
    }

-- ---- any other places

module _ {c : Case} (s : Sound c) (qs : List Place) where
  -- the items, and those with the other places
  abbrev x : Items
  x = items_of c

  abbrev y : Items
  y = with_places x qs

  -- no item but a place looks at the places
  same_reach : (k : Kind) (i : ℕ) → reach (counts_of y) k i ≡ reach c.count k i
  same_reach k i = each_kind (λ k. reach (counts_of y) k i ≡ reach (counts_of x) k i) refl refl refl refl refl refl k ∙ ap (λ n. reach n k i) (sym (counts_are c s))

  -- where each place meets the rules, all items do
  pub all_meet : ((p : ℕ) → p < length qs → Meets c.count kind.Place p (place_at qs p)) → let y = with_places (items_of c) qs in
      (k : Kind) (i : ℕ) → i < length (list_of k y) → Meets c.count k i (get_or (list_of k y) i (no_item k))
  all_meet h =
      each_kind (λ k. (i : ℕ) → i < length (list_of k y) → Meets c.count k i (get_or (list_of k y) i (no_item k)))
      (kept kind.State) (kept kind.Weights) (kept kind.Guard) (kept kind.Move) (kept kind.Sentence) h
    where
      kept : (k : Kind) (i : ℕ) → i < length (list_of k x) → Meets c.count k i (get_or (list_of k x) i (no_item k))
      kept k i l = meets s k i (omega (arith, counted c s k))

  -- the case has what every case has that records make, where the places are within the room, each meets the rules, field 2 is blank exactly at place 0, and
  -- loops lie well
  pub sound_places : length qs ≤ room_of kind.Place → ((p : ℕ) → p < length qs → Meets c.count kind.Place p (place_at qs p)) →
      ((p : ℕ) → p < length qs → (p ≡ 0) ↔ ((place_at qs p).way ≡ None)) → LoopsApart qs → Sound (case_of (with_places (items_of c) qs))
  sound_places few h ways loops =
      record {
        same = ap case_of (sym (items_of_lem y));
        room = each_kind (λ k. count_of (counts_of y) k ≤ room_of k) (old kind.State) (old kind.Weights) (old kind.Guard) (old kind.Move) (old kind.Sentence) few;
        fit = λ k i l. (all k i l).fit;
        there = λ k i l. subst (λ n. There n k (row_of k (get_or (list_of k (items_of (case_of y))) i (no_item k)))) (sym (same_reach k i)) (all k i l).there;
        read = λ k i l. (all k i l).read;
        ways = λ i l. subst (λ (z : Items). (i ≡ 0) ↔ ((place_at z.places i).way ≡ None)) (sym (items_of_lem y)) (ways i l);
        loops = subst (λ (z : Items). LoopsApart z.places) (sym (items_of_lem y)) loops;
      }
    where
      old : (k : Kind) → length (list_of k x) ≤ room_of k
      old k = omega (arith, counted c s k, s.room k)

      all : (k : Kind) (i : ℕ) → i < count_of (counts_of y) k → Meets c.count k i (get_or (list_of k (items_of (case_of y))) i (no_item k))
      all k i l = rw (items_of_lem y) (all_meet h k i (omega (arith, counted_of y k)))

-- ---- the same but for rounds and marks

module _ {c : Case} (s : Sound c) {qs : List Place} (e : SamePlan (items_of c).places qs) where
  -- the case with other places: all that it keeps but the places is as it was
  pub case_with : case_of (with_places (items_of c) qs) ≡ case_by c.count c.loops c.drifts (with_places (arrays_of c) (filled (with_places (items_of c) qs) kind.Place))
  case_with =
      let x = items_of c in
      λ i.
      case_by ((counts_same x e ∙ sym (counts_are c s)) i) ((loops_same e ∙ sym (loops_are s)) i) ((drifts_same x e ∙ sym (drifts_are s)) i)
      (with_places (items_by (λ k. sym (padded s k) i)) (filled (with_places x qs) kind.Place))

  -- it has what every case has that records make, where each place meets the rules
  pub sound_with : ((p : ℕ) → p < length qs → Meets c.count kind.Place p (place_at qs p)) → Sound (case_of (with_places (items_of c) qs))
  sound_with h =
      let n = counted c s kind.Place in
      sound_places s qs (omega (arith, e.long, n, s.room kind.Place)) h (λ p l. rw (e.ways p) (s.ways p (omega (arith, e.long, n)))) (apart_same e s.loops)
