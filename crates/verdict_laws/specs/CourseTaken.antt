-- The line of the table of courses that is taken for a guard at a place of the endless loop is the case of the six that the run is in: the sums with which the
-- computation enters the table are those of which the six statements speak (meaning_laws/specs/EndlessGuards.antt), and of which each line of the table is right
-- (`table_right` in Courses.antt). Assumes nothing.
use Rattle.std.specs.Prelude.{◌≡◌, refl, List, true, false, cond, ℕ, zero, suc, ◌≤◌, ◌<◌, ℤ, pos, ◌+ℤ◌, ◌*ℤ◌, length}
use Rattle.std.proofs.Common.{sym, ◌∙◌, ap, subst, arith, ne_eqb}
use Rattle.std.proofs.lemmas.Bool.{false≢true}
use Rattle.laws.specs.Progression.{line_zero}
use Rattle.counters.specs.Sum.{Valuation, sum}
use Rattle.items.specs.declared.LoopMark.{LoopMark}
use Rattle.items.specs.declared.LoopMark.TheVariants as mark
use Rattle.items.specs.declared.Guard.{Guard}
use Rattle.items.specs.declared.Place.{Place}
use Rattle.items.specs.Lists.{Items}
use Rattle.rules.specs.Rules.{mark_at, is_endless, Closed}
use Rattle.collector.specs.declared.Case.{Case}
use Rattle.collector.specs.Cases.{items_of}
use Rattle.collector.specs.Sound.{Sound}
use Rattle.meaning.specs.Run.{Moment, Way, here, spot, guard_at}
use Rattle.meaning.specs.Drift.{drift}
use Rattle.meaning_laws.specs.Facts.{Laid}
use Rattle.meaning_laws.specs.Given.{facts}
use Rattle.meaning_laws.specs.EndlessTimes.{ComesBy}
use Rattle.meaning_laws.specs.EndlessGuards.{EachRound, sum_at_first, round_adds, as_way_in, as_back_move, as_sentence}
use Rattle.verdict.specs.declared.Throughout.{Throughout}
use Rattle.verdict.specs.declared.Rounds.{Rounds}
use Rattle.verdict.specs.declared.Rounds.TheVariants as rounds
use Rattle.verdict.specs.Rounds.{first_of, loop_of, rounds_of, later, trend, side, course, overall, through}
use Rattle.verdict.specs.Verdict.{first_sum, round_sum, guard_through, test_through}
use Rattle.verdict_laws.specs.Steps.{first_is}
use Rattle.verdict_laws.specs.Kept.{from_shift, sum_at}

-- the rounds of an endless loop
ever : (k : LoopMark) → is_endless k ≡ true → rounds_of k ≡ rounds.Ever
ever mark.None e = absurd (false≢true e)
ever (mark.Counted l n b) e = absurd (false≢true e)
ever (mark.Endless l b) e = refl

-- a way that the run comes by leads to its place
comes_there : (ps : List Place) (w : Way) (m : Moment) → ComesBy ps w m → here (spot ps m) ≡ w.place
comes_there ps w zero e = absurd e
comes_there ps w (suc m) e = ap (λ (v : Way). v.place) e

-- what the table says of a guard that is tested at such moments of the run
abbrev pub table_says : (x : Items) (laid : Laid x.places) (θ : Valuation) (g : Guard) {n : ℕ} {At : Moment → Type 0} → EachRound x.places n At → Throughout
table_says x laid θ g t = overall (course (trend (round_adds x laid θ g t)) (side (sum_at_first x laid θ g t) g.bound))

-- a case that records make, whose endless loop has closed, from any start
module _ (c : Case) (s : Sound c) (o : Closed (items_of c)) (θ : Valuation) where
  -- the items, the places, and that loops lie well
  abbrev x : Items
  x = items_of c

  abbrev ps : List Place
  ps = x.places

  abbrev pub laid : Laid (items_of c).places
  laid = (facts c s).resolved.laid

  -- a guard that is tested at place p, from round n on
  module _ (g : Guard) {n : ℕ} {At : Moment → Type 0} (t : EachRound ps n At) {p : ℕ} (at : At t.first → here (spot ps t.first) ≡ p) where
    there : here (spot ps t.first) ≡ p
    there = at ((t.times t.first).1 (0, omega arith))

    stretch_is : (spot ps t.first).first ≡ first_of ps p
    stretch_is = first_is ps laid t.first ∙ ap (first_of ps) there

    is_endless_lem : is_endless (loop_of ps p) ≡ true
    is_endless_lem = subst (λ q. is_endless (mark_at ps q) ≡ true) stretch_is t.endless

    -- what a round adds
    adds_same : round_sum x g p ≡ round_adds x laid θ g t
    adds_same = ap (λ q. sum g.coefficients.at (λ j. drift x j q)) (sym stretch_is)

    -- the sum the first time
    first_same : sum_at_first x laid θ g t ≡ first_sum x θ g p +ℤ pos n *ℤ round_sum x g p
    first_same = sum_at x (facts c s) o θ g t.first there t.round

    -- what is computed, by its sums and its rounds
    by_sums : {a : ℤ} {r : Rounds} → a ≡ sum_at_first x laid θ g t → r ≡ rounds.Ever →
        through a (round_sum x g p) g.bound r ≡ table_says x laid θ g t
    unfolding through
    by_sums e d = λ i. through (e i) (adds_same i) g.bound (d i)

  -- a sentence that is a guard, at a place of the endless loop
  pub sentence_course : (g : Guard) (p : ℕ) (l : o.first ≤ p) (h : p < length (items_of c).places) →
      guard_through (items_of c) θ g p ≡ table_says (items_of c) laid θ g (as_sentence (items_of c) laid o p l h)
  sentence_course g p l h =
      let t = as_sentence x laid o p l h in
      by_sums g t (λ e. e) (sym (first_same g t (λ e. e) ∙ line_zero (first_sum x θ g p) (round_sum x g p))) (ever (loop_of ps p) (is_endless_lem g t (λ e. e)))

  -- its places but the first begin no stretch
  inner : (p : ℕ) → o.first < p → p < length ps → is_endless (loop_of ps p) ≡ true → first_of ps p ≡ p → ⊥
  inner p l h e d =
      let m : is_endless (mark_at ps p) ≡ true = subst (λ q. is_endless (mark_at ps q) ≡ true) d e in
      omega (arith, laid.apart o.first p l h (λ v. false≢true (sym (ap is_endless v) ∙ m)), laid.last o.first o.endless)

  -- a guard of the move into a place of it, but its first
  pub way_in_course : (i p : ℕ) (l : o.first < p) (h : p < length (items_of c).places) →
      test_through (items_of c) θ (record { way = record { place = p; back = false }; guard = i })
      ≡ table_says (items_of c) laid θ (guard_at (items_of c).guards i) (as_way_in (items_of c) laid o p l h)
  way_in_course i p l h =
      let g = guard_at x.guards i in
      let w : Way = record { place = p; back = false } in
      let t = as_way_in x laid o p l h in
      let at = comes_there ps w t.first in
      let e = is_endless_lem g t at in
      by_sums g t at
      (sym (first_same g t at ∙ from_shift (first_sum x θ g p) (round_sum x g p) 0 false ∙ line_zero _ (round_sum x g p)))
      (ap (λ b. cond b (rounds.UpTo 0) (rounds_of (loop_of ps p))) (ne_eqb (first_of ps p) p (inner p l h e)) ∙ ever (loop_of ps p) e)

  -- a guard of its back move
  pub back_move_course : (i : ℕ) →
      test_through (items_of c) θ (record { way = record { place = o.first; back = true }; guard = i })
      ≡ table_says (items_of c) laid θ (guard_at (items_of c).guards i) (as_back_move (items_of c) laid o)
  back_move_course i =
      let g = guard_at x.guards i in
      let w : Way = record { place = o.first; back = true } in
      let t = as_back_move x laid o in
      let at = comes_there ps w t.first in
      by_sums g t at
      (sym (first_same g t at ∙ from_shift (first_sum x θ g o.first) (round_sum x g o.first) 0 true ∙ line_zero _ (round_sum x g o.first)))
      (ap later (ever (mark_at ps o.first) o.endless))
