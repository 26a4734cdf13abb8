-- Counting until over the run: the best sums that `front` works out are the best sums of the run's moments. Assumes nothing.
use Rattle.std.specs.Prelude.{◌≡◌, ◌↔◌, List, Bool, true, false, ℤ, pos, ◌+ℤ◌, neg_ℤ, length}
use Rattle.std.proofs.Math.Path.{refl, ap, subst}
use Rattle.std.proofs.Common.{◌∙◌, ap₂, inl, inr, ⊎_elim, add-zero}
use Rattle.std.proofs.Math.Logic.Iff
use Rattle.std.proofs.lemmas.Bool.{false≢true}
use Prim.Native.Nat.{ℕ, zero, suc, ◌+◌, ◌-◌, ◌≤◌, ◌<◌}
use Rattle.std.proofs.Math.Nat.{sub_self, sub-zero}
use native.Mathlib.Omega.{arith}
use Rattle.std.proofs.Math.Decide.{dec_lt}
use borrow.Author.Tests.{leb-true, leb-false, lt-ltb, le-ltb}
use Rattle.laws.specs.Tests.{cond_by}
use Rattle.laws.specs.Arithmetic.{le_out, le_in, add_rel, neg_rel}
use Rattle.items.specs.declared.LoopMark.{LoopMark}
use Rattle.items.specs.declared.LoopMark.TheVariants as mark
use Rattle.items.specs.declared.Place.{Place}
use Rattle.items.specs.Lists.{Items}
use Rattle.rules.specs.Rules.{mark_at, Closed}
use Rattle.meaning.specs.Run.{Moment, Spot, Step, here, stretch, goes_again, next, spot}
use Rattle.meaning_laws.specs.Facts.{Laid}
use Rattle.meaning_laws.specs.Counting.{total_gain, Gets, splice}
use Rattle.meaning_laws.specs.Walk.{spot_at, next_on, next_back, next_out}
use Rattle.meaning_laws.specs.Stays.{in_plan}
use Rattle.meaning_laws.specs.Between.{is_later, one_way}
use Rattle.verdict.specs.declared.Rounds.{Rounds}
use Rattle.verdict.specs.declared.Rounds.TheVariants as rounds
use Rattle.verdict.specs.Labels.{Label}
use Rattle.verdict.specs.Best as best
use Rattle.verdict.specs.Rounds.{first_of, is_last, rounds_of, In}
use Rattle.verdict.specs.Forward.{repeats}
use Rattle.verdict.specs.Best.{Best, Front, is_reached, step, chain, whole_sum, limit, on_first, on_last, front}
use Rattle.verdict.specs.Verdict.{until_through}
use Rattle.verdict_laws.specs.Tells.{TellsHow, agree_tells}
use Rattle.verdict_laws.specs.Steps.{in_zero, first_le, first_in, first_on, first_out, first_is, round_in, visit}
use Rattle.verdict_laws.specs.Power.{laps, power_is, laps_one_way, step_at, limit_reached, laps_limit}

-- ---- the best sum at a moment

-- v is the best sum at moment m, as far as goals less than f moments on tell
record BestTo (l : ℕ → Label) (f : ℕ) (m : Moment) (v : Best) : Type 0 where
  reached : (b : ℤ) → is_reached b v ≡ true → Gets l b m
  enough : (b : ℤ) (g : Gets l b m) → g.n < f → is_reached b v ≡ true

-- one moment back: a goal now, or held now and got from the next moment on
best_step : (l : ℕ → Label) {f f' : ℕ} {m : Moment} {v : Best} → f' ≤ suc f → BestTo l f (suc m) v → BestTo l f' m (step (l m) v)
unfolding total_gain splice
best_step l {m = m} {v = v} fewer t =
    let w = (l m).gain in
    record {
      reached = λ b e. ⊎_elim
          (λ h. record { n = 0; goal = rw add-zero h.0; held = λ j g. absurd (omega arith); enough = h.1 })
          (λ h. splice l l b (suc m) m 0 1 (t.reached (b +ℤ neg_ℤ w) h.1) (omega arith)
          (λ j g. let e : m + j ≡ m = omega arith in rw e h.0) (λ j g. let e : m + (1 + j) ≡ suc m + (0 + j) = omega arith in ap l e)
          (λ z g. le_in (omega (arith, le_out g, neg_rel w, add_rel b (neg_ℤ w), add_rel (pos 0) z, add_rel w (pos 0), add_rel (w +ℤ pos 0) z))))
          ((step_at (l m) v b).0 e);
      enough = λ b g h. (step_at (l m) v b).1 (elim (dec_lt 0 g.n) [
        | yes u ↦ inr (
          rw add-zero at (g.held 0 u),
          t.enough (b +ℤ neg_ℤ w) (splice l l (b +ℤ neg_ℤ w) m (suc m) 1 0 g u (λ j g. absurd (omega arith))
              (λ j g. let e : suc m + (0 + j) ≡ m + (1 + j) = omega arith in ap l e)
              (λ z g. le_in (omega (arith, le_out g, neg_rel w, add_rel b (neg_ℤ w), add_rel (pos 0) z, add_rel w (pos 0), add_rel (w +ℤ pos 0) z)))) (omega arith),
        )
        | no u ↦ let e : g.n ≡ 0 = omega arith in inl (rw (e, add-zero) at g.goal, rw e at g.enough)
      ]);
    }

-- the last round of a stretch is one of its rounds; where there is none, so is round 0
in_last : (k : LoopMark) → In (rounds_of k) (repeats k)
in_last mark.None = omega arith
in_last (mark.Counted m i b) = omega arith
in_last (mark.Endless m b) = tt

-- ---- the best sum at a spot

module _ (x : Items) (laid : Laid x.places) (closed : Closed x) (l : ℕ → Label) where
  -- the places of the plan
  abbrev ps : List Place
  ps = x.places

  -- the label of a moment is that of its place
  abbrev labels : Moment → Label
  labels m = l (here (spot ps m))

  -- at each moment at spot s, as far as goals less than f moments on tell
  abbrev BestAt : ℕ → Spot → Best → Type 0
  BestAt f s v = (m : Moment) → spot ps m ≡ s → BestTo labels f m v

  -- one step back, to place p
  at_step : {f f' p : ℕ} {s t : Spot} {v : Best} → f' ≤ suc f → here s ≡ p → (next ps s).to ≡ t → BestAt f t v → BestAt f' s (step (l p) v)
  unfolding spot
  at_step {f' = f'} {v = v} w c d h m e =
      subst (λ p. BestTo labels f' m (step (l p) v)) (ap here e ∙ c) (best_step labels w (h (suc m) (ap (λ s. (next ps s).to) e ∙ d)))

  -- the run never comes to a spot that isn't in the plan
  nowhere : {f : ℕ} {s : Spot} {v : Best} → length ps ≤ here s → BestAt f s v
  nowhere h m e = absurd (omega (arith, rw e at (in_plan x laid closed m)))

  -- ---- over the rounds of a stretch

  module _ (q : ℕ) where
    -- its loop mark, and the number of its places
    abbrev k : LoopMark
    k = mark_at ps q

    abbrev n : ℕ
    n = stretch k

    -- after its last place in round r
    abbrev past : ℕ → Spot
    past r = (next ps (spot_at q (n - 1) r)).to

    -- on in the stretch, and from its last place
    on_best : {f f' p o r : ℕ} {v : Best} → f' ≤ suc f → q + o ≡ p → o + 1 < n → BestAt f (spot_at q (o + 1) r) v → BestAt f' (spot_at q o r) (step (l p) v)
    on_best {o = o} {r = r} w e h = at_step w e (ap (λ (y : Step). y.to) (next_on ps q o r h))

    out_best : {f f' p o r : ℕ} {v : Best} → f' ≤ suc f → q + o ≡ p → o + 1 ≡ n → BestAt f (past r) v → BestAt f' (spot_at q o r) (step (l p) v)
    out_best {o = o} {r = r} w e h = let c : o ≡ n - 1 = omega arith in at_step w e (ap (λ i. (next ps (spot_at q i r)).to) c)

    -- the rest of a round
    rest_best : {f f' r : ℕ} {v : Best} → f' ≤ suc f → BestAt f (past r) v → (j p o : ℕ) → q + o ≡ p → o + suc j ≡ n → BestAt f' (spot_at q o r) (chain l p (suc j) v)
    unfolding chain
    rest_best w t zero p o e d = out_best w e d t
    rest_best {f = f} w t (suc j) p o e d = on_best w e (omega arith) (rest_best {f' = f} (omega arith) t j (suc p) (o + 1) (omega arith) (omega arith))

    -- rounds up to i: F j is how far the best sum tells with j of them to go
    laps_best : (F : ℕ → ℕ) → ((j : ℕ) → F (suc j) ≤ suc (F j)) → {w : Best} (i : ℕ) → ((r : ℕ) → r < i → goes_again k r ≡ true) → BestAt (F 0) (past i) w →
        (j r : ℕ) → r + j ≡ i → BestAt (F j) (past r) (laps l q n j w)
    unfolding laps
    laps_best F g i a t zero r e m d = let c : r ≡ i = omega arith in t m (d ∙ ap past c)
    laps_best F g i a t (suc j) r e m d =
        let h = laid.long q in
        let c : suc (n - 1) ≡ n = omega arith in
        rw c at (rest_best (g j) (laps_best F g i a t j (r + 1) (omega arith)) (n - 1) q 0 (omega arith) (omega arith) m
        (d ∙ ap (λ (y : Step). y.to) (next_back ps q (n - 1) r (omega arith) (a r (omega arith)))))

    -- rounds up to i, where w is the best sum after the stretch
    counted_best : {w : Best} → ((f : ℕ) → BestAt f (spot_at (q + n) 0 0) w) → (i : ℕ) → ((r : ℕ) → r < i → goes_again k r ≡ true) → goes_again k i ≡ false →
        {f : ℕ} (r : ℕ) → r ≤ i → BestAt f (past r) (laps l q n (i - r) w)
    counted_best t i a z {f} r h =
        let g = laid.long q in
        laps_best (λ j. f) (λ j. omega arith) i a (λ m d. t f m (d ∙ ap (λ (y : Step). y.to) (next_out ps q (n - 1) i (omega arith) z))) (i - r) r (omega arith)

    -- rounds without end
    endless_best : ((r : ℕ) → goes_again k r ≡ true) → {f : ℕ} (r : ℕ) → BestAt f (past r) (limit (chain l q n best.None) (whole_sum l q n))
    endless_best a {f} r m d =
        record {
          reached = λ b h. let (i, t) = limit_reached l q n b h in (after i).reached b t;
          enough = λ b g h. laps_limit l q n f b ((after f).enough b g h);
        }
      where
        after : (i : ℕ) → BestTo labels i m (laps l q n i best.None)
        after i =
            laps_best (λ j. j) (λ j. omega arith) (r + i) (λ r h. a r)
            (λ m d. record { reached = λ b h. absurd (false≢true h); enough = λ b g h. absurd (omega arith) }) i r refl m d

    -- the best sum after the last place in round r, where w is the best sum after the stretch
    abbrev past_best : Rounds → ℕ → Best → Best
    past_best rounds.None r w = w
    past_best (rounds.UpTo i) r w = laps l q n (i - r) w
    past_best rounds.Ever r w = limit (chain l q n best.None) (whole_sum l q n)

    past_best_lem : {w : Best} → ((f : ℕ) → BestAt f (spot_at (q + n) 0 0) w) → (j : LoopMark) → k ≡ j → {f : ℕ} (r : ℕ) → In (rounds_of j) r → BestAt f (past r) (past_best (rounds_of j) r w)
    past_best_lem t mark.None e = counted_best t 0 (λ r h. absurd (omega arith)) (rw e)
    past_best_lem t (mark.Counted m i b) e = counted_best t (i - 1) (λ r h. rw e (lt-ltb (r + 1) i (omega arith))) (rw e (le-ltb (i - 1 + 1) i (omega arith)))
    past_best_lem t (mark.Endless m b) e = λ r h. endless_best (λ r. rw e) r

    -- what `front` has there in the first round and in the last
    on_first_lem : (i : Rounds) (w : Best) → on_first i (chain l q n best.None) (whole_sum l q n) w ≡ past_best i 0 w
    on_first_lem rounds.None w = refl
    on_first_lem (rounds.UpTo i) w = rw sub-zero (power_is l q n i w)
    on_first_lem rounds.Ever w = refl

    on_last_lem : (j : LoopMark) (w : Best) → on_last (rounds_of j) (chain l q n best.None) (whole_sum l q n) w ≡ past_best (rounds_of j) (repeats j) w
    unfolding laps
    on_last_lem mark.None w = refl
    on_last_lem (mark.Counted m i b) w = rw sub_self
    on_last_lem (mark.Endless m b) w = refl

    module _ (z : ℤ) (p j : ℕ) (w : Best) (a : Bool) where
      -- a tells whether bound z is reached in round r over the j places from p on
      abbrev Flags : Rounds → ℕ → Type 0
      Flags i r = (a ≡ true) ↔ (is_reached z (chain l p j (past_best i r w)) ≡ true)

      -- where it tells of the first round and of the last it tells of all
      up_to : (i : ℕ) → Flags (rounds.UpTo i) 0 → Flags (rounds.UpTo i) i → (r : ℕ) → r ≤ i → Flags (rounds.UpTo i) r
      up_to i u v r h =
          one_way (λ c. is_reached z (chain l p j (laps l q n c w)) ≡ true) (laps_one_way l q n w z p j)
          (is_later 0 0 (i - r) (omega arith)).1 (is_later 0 (i - r) i (omega arith)).1 a (rw sub_self at v) (rw sub-zero at u)

      all_rounds : (i : LoopMark) → Flags (rounds_of i) 0 → Flags (rounds_of i) (repeats i) → (r : ℕ) → In (rounds_of i) r → Flags (rounds_of i) r
      all_rounds mark.None = up_to 0
      all_rounds (mark.Counted m i b) = up_to (i - 1)
      all_rounds (mark.Endless m b) = λ u v r h. u

  -- ---- the best sums of `front`

  -- y has the best sums at step o of the stretch that place q begins, in its first round and in its last
  record HasBest (q o : ℕ) (y : Front) : Type 0 where
    after : Best
    next : (f : ℕ) → BestAt f (spot_at (q + n q) 0 0) after
    first : (f : ℕ) → BestAt f (spot_at q o 0) y.first
    last : (f : ℕ) → BestAt f (spot_at q o (repeats (k q))) y.last

  -- on in the stretch
  fits_on : {q p o : ℕ} {y : Front} → q + o ≡ p → o + 1 < n q → HasBest q (o + 1) y → HasBest q o (record { first = step (l p) y.first; last = step (l p) y.last })
  fits_on {q} e h t =
      record {
        after = t.after;
        next = t.next;
        first = λ f. on_best q (omega arith) e h (t.first f);
        last = λ f. on_best q (omega arith) e h (t.last f);
      }

  -- from its last place
  fits_out : {q p o : ℕ} {y : Front} → q + o ≡ p → o + 1 ≡ n q → HasBest (suc p) 0 y →
      let a = chain l q (n q) best.None in
      let s = whole_sum l q (n q) in
      let i = rounds_of (k q) in
      HasBest q o (record { first = step (l p) (on_first i a s y.first); last = step (l p) (on_last i a s y.first) })
  fits_out {q} {p} {y = y} e h t =
      record {
        after = y.first;
        next = out;
        first = λ f. out_best q {f = f} (omega arith) e h (rw (on_first_lem q (rounds_of (k q)) y.first) (past_best_lem q out (k q) refl 0 (in_zero (k q))));
        last = λ f. out_best q {f = f} (omega arith) e h (rw (on_last_lem q (k q) y.first) (past_best_lem q out (k q) refl (repeats (k q)) (in_last (k q))));
      }
    where
      out : (f : ℕ) → BestAt f (spot_at (q + n q) 0 0) y.first
      out = let c : q + n q ≡ suc p = omega arith in rw c t.first

  fits : (d p o : ℕ) → first_of ps p + o ≡ p → p + d ≡ length ps → HasBest (first_of ps p) o (front l ps p d)
  unfolding front
  fits zero p o e c =
      record {
        after = best.None;
        next = λ f. nowhere (omega (arith, first_in ps laid p));
        first = λ f. nowhere (omega arith);
        last = λ f. nowhere (omega arith);
      }
  fits (suc d) p o e c =
      let end = first_of ps p + n (first_of ps p) in
      cond_by (HasBest (first_of ps p) o) (is_last ps p)
      (λ a.
      let h = leb-true end (suc p) a in
      let i = first_out ps p h in
      fits_out e (omega (arith, first_in ps laid p)) (rw i at (fits d (suc p) 0 (omega arith) (omega arith))))
      (λ a.
      let h = leb-false end (suc p) a in
      let i = first_on ps p h in
      fits_on e (omega arith) (rw i at (fits d (suc p) (o + 1) (omega arith) (omega arith))))

  -- ---- what they tell

  module _ (z : ℤ) (p : ℕ) (h : p < length ps) where
    -- its stretch, its step, and how many places the stretch has after it
    abbrev q : ℕ
    q = first_of ps p

    abbrev o : ℕ
    o = p - q

    abbrev j : ℕ
    j = q + n q - suc p

    -- of the moments at place p in round r
    tells : {v : Best} (r : ℕ) → ((f : ℕ) → BestAt f (spot_at q o r) v) → (m : Moment) → here (spot ps m) ≡ p → (spot ps m).round ≡ r → (is_reached z v ≡ true) ↔ Gets labels z m
    tells r b m e d = (λ t. (b 0 m there).reached z t, λ g. (b (suc g.n) m there).enough z g (omega arith))
      where
        there : spot ps m ≡ spot_at q o r
        there =
            let a : (spot ps m).first ≡ q = first_is ps laid m ∙ ap (first_of ps) e in
            let c : (spot ps m).step ≡ o = omega arith in
            ap₂ (λ i j. spot_at i j (spot ps m).round) a c ∙ ap (spot_at q o) d

    module _ {y : Front} (t : HasBest q o y) where
      in_round : (r : ℕ) → In (rounds_of (k q)) r → (m : Moment) → here (spot ps m) ≡ p → (spot ps m).round ≡ r →
          (is_reached z (chain l p (suc j) (past_best q (rounds_of (k q)) r t.after)) ≡ true) ↔ Gets labels z m
      in_round r i = tells r (λ f. rest_best q {f = f} (omega arith) (past_best_lem q t.next (k q) refl r i) j p o
          (omega (arith, first_le ps p)) (omega (arith, first_in ps laid p, first_le ps p)))

      fits_tell : TellsHow (until_through z y) (λ m. here (spot ps m) ≡ p) (Gets labels z)
      fits_tell =
          let (m, c, d) = visit x laid closed p h 0 (in_zero (k q)) in
          let (i, e, f) = visit x laid closed p h (repeats (k q)) (in_last (k q)) in
          let u = tells 0 t.first m c d in
          let v = tells (repeats (k q)) t.last i e f in
          agree_tells (is_reached z y.first) (is_reached z y.last) (m, c, u) (i, e, v)
          (λ g s w.
          let r = subst (λ p. In (rounds_of (mark_at ps (first_of ps p))) (spot ps s).round) w (round_in ps laid s) in
          Iff.trans (all_rounds q z p (suc j) t.after (is_reached z y.first) (k q)
          (Iff.trans u (Iff.symm (in_round 0 (in_zero (k q)) m c d)))
          (rw g (Iff.trans v (Iff.symm (in_round (repeats (k q)) (in_last (k q)) i e f))))
          (spot ps s).round r)
          (in_round (spot ps s).round r s w refl))

  pub until_tells : (z : ℤ) (p : ℕ) → p < length x.places →
      TellsHow (until_through z (front l x.places p (length x.places - p))) (λ m. here (spot x.places m) ≡ p) (Gets (λ m. l (here (spot x.places m))) z)
  until_tells z p h = fits_tell z p h (fits (length ps - p) p (o z p h) (omega (arith, first_le ps p)) (omega arith))
