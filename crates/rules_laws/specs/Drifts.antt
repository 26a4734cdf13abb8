-- What one place more does to the drifts that are kept beside the items: nothing but for the loop that it closes, with whose first place what its moves add
-- up to is kept from then on. Assumes nothing.
use Rattle.std.specs.Prelude.{◌≡◌, List, [], ◌∷◌, ◌++◌, Bool, ℕ, ◌+◌, ◌-◌, ◌≤◌, ◌<◌, length, replicate, None, Some}
use Rattle.std.proofs.Math.Path.{refl, sym, ap}
use Rattle.std.proofs.Common.{◌∙◌, ⊎_elim, arith}
use Rattle.std.proofs.Math.Bool.{true, false, cond, true≢false}
use Rattle.std.proofs.Math.Decide.{dec_lt}
use Rattle.std.proofs.Math.ListN.{set, get_or-append}
use Rattle.laws.specs.Lists.{at_front}
use Rattle.laws.specs.Tab.{tab_same, tab_set}
use Rattle.kinds.specs.declared.Kind.TheVariants as kind
use Rattle.counters.specs.Values.{values_same}
use Rattle.items.specs.declared.LoopMark.{LoopMark}
use Rattle.items.specs.declared.LoopMark.TheVariants as mark
use Rattle.items.specs.declared.Move.{Move}
use Rattle.items.specs.declared.Place.{Place}
use Rattle.items.specs.Lists.{Items, items_by, room_of, no_item, with_places}
use Rattle.rules.specs.Rules.{mark_at, length_of, end_at}
use Rattle.meaning.specs.Run.{Way, stretch, back_of, place_at, move_no, move_at, move_by, update}
use Rattle.meaning.specs.Drift.{once_around, drift}
use Rattle.standing.specs.Standing.{no_loops, loops_from, is_loop_end}
use Rattle.collector.specs.Cases.{filled, kept_with, drifts_of, round_from}
use Rattle.collector.specs.Sound.{LoopsApart}
use Rattle.collector.proofs.Drifts.{once_same, kept_none, kept_open, kept_closed}
use Rattle.rules_laws.specs.Loops.{past_mark, marked?, ends, ends_only, old_mark, new_mark, long, where?}
use Rattle.items.specs.Items.{Ref}

-- ---- the arrays of a case add what its items do

pub move_filled : (ts : List Move) (n : ℕ) (r : Ref) → move_at (ts ++ replicate n (no_item kind.Move)) r ≡ move_at ts r
unfolding move_at
move_filled ts n None = refl
move_filled ts n (Some t) = at_front (no_item kind.Move) ts n t

by_filled : (x : Items) (w : Way) → move_by (items_by (filled x)) w ≡ move_by x w
by_filled x w =
    move_filled x.moves (room_of kind.Move - length x.moves) (move_no (items_by (filled x)).places w)
    ∙ ap (λ (p : Place). move_at x.moves (cond w.back (back_of p.mark) p.way))
    (at_front (no_item kind.Place) x.places (room_of kind.Place - length x.places) w.place)

-- ---- one place more

stretch_is : (m : LoopMark) → (m ≡ mark.None → ⊥) → stretch m ≡ length_of m
stretch_is mark.None h = absurd (h refl)
stretch_is (mark.Counted l n b) h = refl
stretch_is (mark.Endless l b) h = refl

module _ (x : Items) (p : Place) where
  abbrev ps : List Place
  ps = x.places

  -- the items with the place
  abbrev pub with_place : Items
  with_place = with_places x (ps ++ (p ∷ []))

  -- a place that was held
  old_place : (i : ℕ) → i < length ps → place_at (ps ++ (p ∷ [])) i ≡ place_at ps i
  old_place i h = get_or-append ps (p ∷ []) (no_item kind.Place) i h

  -- a loop that had closed
  old_drift : (i j : ℕ) → i < length ps → (mark_at ps i ≡ mark.None → ⊥) → end_at ps i ≤ length ps → drift x j i ≡ drift with_place j i
  unfolding drift
  old_drift i j h m e =
      once_same x with_place j i (stretch (mark_at ps i) - 1)
      (sym (ap (λ (q : Place). update (move_at x.moves (back_of q.mark)) j) (old_place i h)))
      (λ k g l. sym (ap (λ (q : Place). update (move_at x.moves q.way) j) (old_place k (omega (arith, stretch_is (mark_at ps i) m)))))
      ∙ sym (ap (λ (q : Place). once_around with_place j i (stretch q.mark - 1)) (old_place i h))

  module _ (apart : LoopsApart (x.places ++ (p ∷ []))) (whole : (p.mark ≡ mark.None → ⊥) → 0 < length_of p.mark) where
    abbrev n : ℕ
    n = length ps

    abbrev q : ℕ
    q = (loops_from no_loops 0 (ps ++ (p ∷ []))).first.0

    abbrev t : Bool
    t = is_loop_end (loops_from no_loops 0 (ps ++ (p ∷ []))) n

    -- with no other place what is kept changes
    other : (i : ℕ) → (t ≡ true → i ≡ q → ⊥) → kept_with x i ≡ kept_with with_place i
    other i apt = ⊎_elim none some (marked? (mark_at (ps ++ (p ∷ [])) i))
      where
        none : mark_at (ps ++ (p ∷ [])) i ≡ mark.None → kept_with x i ≡ kept_with with_place i
        none e =
            kept_none x i
            (elim (dec_lt i n) [
              | yes h ↦ sym (old_mark ps p i h) ∙ e
              | no h ↦ past_mark ps i (omega arith)
            ])
            ∙ sym (kept_none with_place i e)

        -- it doesn't end with the new place
        not_now : (mark_at (ps ++ (p ∷ [])) i ≡ mark.None → ⊥) → i ≤ n → end_at (ps ++ (p ∷ [])) i ≡ n + 1 → ⊥
        not_now m h e = let r = ends_only (ps ++ (p ∷ [])) n (long ps p) apart i h m e in apt r.0 r.1

        some : (mark_at (ps ++ (p ∷ [])) i ≡ mark.None → ⊥) → kept_with x i ≡ kept_with with_place i
        some m =
            ⊎_elim
            (λ h.
            let s = old_mark ps p i h in
            elim (dec_lt n (end_at ps i)) [
              | yes g ↦
                  kept_open x i g
                  ∙ sym (kept_open with_place i
                  (elim (dec_lt (n + 1) (end_at (ps ++ (p ∷ [])) i)) [
                    | yes k ↦ omega (arith, long ps p)
                    | no k ↦ absurd (not_now m (omega arith) (omega (arith, ap length_of s)))
                  ]))
              | no g ↦
                  kept_closed x i (omega arith)
                  ∙ values_same (λ j. drift x j i) (λ j. drift with_place j i) (λ j k. old_drift i j h (λ e. m (s ∙ e)) (omega arith))
                  ∙ sym (kept_closed with_place i (omega (arith, ap length_of s, long ps p)))
            ])
            (⊎_elim
            (λ e.
            let s = new_mark ps p i e in
            kept_none x i (past_mark ps i (omega arith))
            ∙ sym (kept_open with_place i
            (elim (dec_lt (n + 1) (end_at (ps ++ (p ∷ [])) i)) [
              | yes k ↦ omega (arith, long ps p)
              | no k ↦ absurd (not_now m (omega arith) (omega (arith, ap length_of s, whole (λ z. m (s ∙ z)))))
            ])))
            (λ e. absurd (m e)))
            (where? ps p i)

    -- the loop that it closes
    closing : t ≡ true → kept_with with_place q ≡ round_from (items_by (filled with_place)) q n
    unfolding drift
    closing e =
        let r = ends (ps ++ (p ∷ [])) n (long ps p) e in
        let k : stretch (mark_at (ps ++ (p ∷ [])) q) - 1 ≡ n - q = omega (arith, r.1, stretch_is (mark_at (ps ++ (p ∷ [])) q) r.0) in
        kept_closed with_place q (omega (arith, r.1, long ps p))
        ∙ values_same (λ j. drift with_place j q) (λ j. once_around (items_by (filled with_place)) j q (n - q))
        (λ j h.
        ap (once_around with_place j q) k
        ∙ once_same with_place (items_by (filled with_place)) j q (n - q)
        (sym (ap (λ (m : Move). update m j) (by_filled with_place (record { place = q; back = true }))))
        (λ i g l. sym (ap (λ (m : Move). update m j) (by_filled with_place (record { place = i; back = false })))))

    pub drifts_after : length x.places < room_of kind.Place →
        let l = loops_from no_loops 0 (x.places ++ (p ∷ [])) in
        let q = l.first.0 in
        let n = length x.places in
        cond (is_loop_end l n) (set (drifts_of x) q (round_from (items_by (filled with_place)) q n)) (drifts_of x) ≡ drifts_of with_place
    unfolding drifts_of
    drifts_after h = go t refl
      where
        go : (b : Bool) → t ≡ b → cond b (set (drifts_of x) q (round_from (items_by (filled with_place)) q n)) (drifts_of x) ≡ drifts_of with_place
        go true e =
            ap (λ v. set (drifts_of x) q v) (sym (closing e))
            ∙ tab_set (kept_with x) (kept_with with_place) (room_of kind.Place) q
            (omega (arith, (ends (ps ++ (p ∷ [])) n (long ps p) e).2))
            (λ i k d. other i (λ z s. d s))
        go false e = tab_same (kept_with x) (kept_with with_place) (room_of kind.Place) 0 (λ i k l. other i (λ z s. true≢false (sym z ∙ e)))
