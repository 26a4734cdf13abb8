-- What the answer for a sentence over the rounds of a place tells, by its form, where the marks of the sentences below are right. Assumes nothing.
use Rattle.std.specs.Prelude.{◌≡◌, refl, ◌↔◌, List, Bool, true, false, cond, not, ◌&&◌, ℕ, suc, ◌+◌, ◌-◌, ◌≤◌, ◌<◌, eqb, leb, length, get_or}
use Rattle.std.proofs.Common.{sym, arith, le-ltb, lt-ltb, le-leb, eqb-true}
use Rattle.std.proofs.Math.Logic.Iff
use Rattle.std.proofs.lemmas.Bool.{false≢true, lt-leb, eqb-false}
use Rattle.std.proofs.Math.Decide.{dec_lt}
use Rattle.laws.specs.Tests.{cond_by, tells_and, tells_not}
use Rattle.kinds.specs.declared.Kind.TheVariants as kind
use Rattle.counters.specs.Sum.{Valuation}
use Rattle.items.specs.declared.LoopMark.{LoopMark}
use Rattle.items.specs.declared.LoopMark.TheVariants as mark
use Rattle.items.specs.declared.Form.{Form}
use Rattle.items.specs.declared.Form.TheVariants as form
use Rattle.items.specs.declared.Place.{Place}
use Rattle.items.specs.Lists.{Items, no_item}
use Rattle.rules.specs.Rules.{mark_at, Closed}
use Rattle.meaning.specs.Run.{Moment, here, stretch, goes_again, spot, guard_at}
use Rattle.meaning.specs.Truth.{Says, bit}
use Rattle.meaning.specs.Judged.{state_at, marked, trace_of}
use Rattle.meaning_laws.specs.Facts.{Laid, Facts, Refers}
use Rattle.meaning_laws.specs.Stays.{next_by_lem}
use Rattle.meaning_laws.specs.Below.{RightBelow, SaysBelow, says_below, until_labels}
use Rattle.verdict.specs.declared.Throughout.{Throughout}
use Rattle.verdict.specs.Labels.{label_of}
use Rattle.verdict.specs.Rounds.{first_of, loop_of, is_last, rounds_of, In, flag}
use Rattle.verdict.specs.Verdict.{next_by, form_through}
use Rattle.verdict_laws.specs.Tells.{TellsHow, tells_always, tells_never, agree_tells}
use Rattle.verdict_laws.specs.Steps.{in_zero, first_in, first_is, round_in, visit}
use Rattle.verdict_laws.specs.Kept.{guard_tells}
use Rattle.verdict_laws.specs.Until.{until_tells}

-- ---- what is told

-- by a flag that tells of Q everywhere
flag_tells : {At Q : Moment → Type 0} (b : Bool) → ((m : Moment) × At m) → ((m : Moment) → At m → (b ≡ true) ↔ Q m) → TellsHow (flag b) At Q
flag_tells true (m, a) e = tells_always (m, a, (e m a).0 refl) (λ i h. (e i h).0 refl)
flag_tells false (m, a) e = tells_never (m, a, tells_not false (e m a) refl) (λ i h. tells_not false (e i h) refl)

-- of all that is true at the same moments
tells_same : {t : Throughout} {At Q R : Moment → Type 0} → TellsHow t At Q → ((m : Moment) → Q m ↔ R m) → TellsHow t At R
tells_same w e =
    record {
      always = λ a m h. (e m).0 (w.always a m h);
      never = λ a m h q. w.never a m h ((e m).1 q);
      unmet = λ n. let (m, h, q) = w.unmet n in (m, h, λ r. q ((e m).1 r));
      met = λ n. let (m, h, q) = w.met n in (m, h, (e m).0 q);
    }

-- ---- next

-- the place a moment on: the next, or from the last place of a stretch its first while rounds are left
next_place : (ps : List Place) → Laid ps → (m : Moment) →
    let p = here (spot ps m) in
    here (spot ps (suc m)) ≡ cond (is_last ps p) (cond (goes_again (loop_of ps p) (spot ps m).round) (first_of ps p) (suc p)) (suc p)
unfolding spot
next_place ps laid m =
    let q = (spot ps m).first in
    let p = here (spot ps m) in
    let k = mark_at ps q in
    let e = sym (first_is ps laid m) in
    rw e
    (next_by_lem (λ s. here s.to ≡ cond (leb (q + stretch k) (suc p)) (cond (goes_again k (spot ps m).round) q (suc p)) (suc p)) ps (spot ps m)
    (λ l. rw (lt-leb (q + stretch k) (suc p) (omega arith)) (omega arith))
    (λ l a. rw (le-leb (q + stretch k) (suc p) (omega arith), a) (omega arith))
    (λ l a. rw (le-leb (q + stretch k) (suc p) (omega arith), a) (omega (arith, rw e at (first_in ps laid p)))))

-- where the flag of place u tells of Q in every round but the last, and that of place v in the last
next_tells : {At Q : Moment → Type 0} (round : Moment → ℕ) (k : LoopMark) (mk : ℕ → Bool) (u v : ℕ) →
    ((r : ℕ) → In (rounds_of k) r → (m : Moment) × At m × (round m ≡ r)) → ((m : Moment) → At m → In (rounds_of k) (round m)) →
    ((m : Moment) → At m → (mk (cond (goes_again k (round m)) u v) ≡ true) ↔ Q m) → TellsHow (next_by (rounds_of k) (mk u) (mk v)) At Q
next_tells round mark.None mk u v visits rounds e = let s = visits 0 (omega arith) in flag_tells (mk v) (s.0, s.1) e
next_tells {At} {Q} round (mark.Counted l n b) mk u v visits rounds e =
    cond_by (λ t. TellsHow t At Q) (eqb (n - 1) 0)
    (λ z.
    let s = visits 0 (omega arith) in
    flag_tells (mk v) (s.0, s.1) (λ m h. late m h (omega (arith, rounds m h, eqb-true (n - 1) 0 z))))
    (λ z.
    let (i, h, r) = visits 0 (omega arith) in
    let (j, g, s) = visits (n - 1) (omega arith) in
    agree_tells (mk u) (mk v) (i, h, early i h (omega (arith, eqb-false (n - 1) 0 z))) (j, g, late j g (omega arith))
    (λ q m h. elim (dec_lt (round m + 1) n) [ yes w ↦ early m h w | no w ↦ rw q (late m h (omega arith)) ]))
  where
    early : (m : Moment) → At m → round m + 1 < n → (mk u ≡ true) ↔ Q m
    early m h w = rw (lt-ltb (round m + 1) n w) at (e m h)

    late : (m : Moment) → At m → n ≤ round m + 1 → (mk v ≡ true) ↔ Q m
    late m h w = rw (le-ltb (round m + 1) n w) at (e m h)
next_tells round (mark.Endless l b) mk u v visits rounds e = let s = visits 0 tt in flag_tells (mk u) (s.0, s.1) e

-- ---- each form

not_tells : (t : Bool) {P : Type 0} → (t ≡ true) ↔ P → (not t ≡ true) ↔ (P → ⊥)
not_tells true w = (λ e. absurd (false≢true e), λ n. absurd (n (w.0 refl)))
not_tells false w = (λ e p. false≢true (w.1 p), λ n. refl)

module _ (x : Items) (f : Facts x) (c : Closed x) (θ : Valuation) (i : ℕ) (right : RightBelow x θ i) (p : ℕ) (h : p < length x.places) where
  -- the places, and the moments of place p
  abbrev ps : List Place
  ps = x.places

  abbrev AtPlace : Moment → Type 0
  AtPlace m = here (spot ps m) ≡ p

  -- there is one
  there : (m : Moment) × AtPlace m
  there = let v = visit x f.resolved.laid c p h 0 (in_zero (loop_of ps p)) in (v.0, v.1)

  -- the marks of the sentences below i tell
  told : (j : ℕ) → j < i → (m : Moment) → (marked x j (here (spot ps m)) ≡ true) ↔ SaysBelow x θ i j m
  told j l m = rw (says_below x θ i j l m) (right j l m)

  told_here : (j : ℕ) → j < i → (m : Moment) → AtPlace m → (marked x j p ≡ true) ↔ SaysBelow x θ i j m
  told_here j l m e = rw e at (told j l m)

  pub form_tells : (φ : Form) → Refers i φ →
      TellsHow (form_through x θ φ p) (λ m. here (spot x.places m) ≡ p) (Says x.guards (trace_of x θ) (SaysBelow x θ i) φ)
  unfolding form_through
  form_tells form.True r = tells_always (there.0, there.1, tt) (λ m e. tt)
  form_tells (form.Proposition v) r =
      flag_tells (bit (get_or x.states (state_at x p) (no_item kind.State)).propositions v) there (λ m e. rw e Iff.rfl)
  form_tells (form.Guard g) r = guard_tells x f c θ (guard_at x.guards g) p h
  form_tells (form.And a b) r =
      flag_tells (marked x a p && marked x b p) there
      (λ m e. tells_and (marked x a p) (marked x b p) (told_here a r.0 m e) (told_here b r.1 m e))
  form_tells (form.Not a) r = flag_tells (not (marked x a p)) there (λ m e. not_tells (marked x a p) (told_here a r m e))
  form_tells (form.Next a) r =
      cond_by (λ t. TellsHow t AtPlace (λ m. SaysBelow x θ i a (suc m))) (is_last ps p)
      (λ l.
      next_tells (λ m. (spot ps m).round) (loop_of ps p) (marked x a) (first_of ps p) (suc p) (λ r v. visit x f.resolved.laid c p h r v)
      (λ m e. rw e at (round_in ps f.resolved.laid m)) (λ m e. rw l at (on m e)))
      (λ l. flag_tells (marked x a (suc p)) there (λ m e. rw l at (on m e)))
    where
      on : (m : Moment) → AtPlace m →
          (marked x a (cond (is_last ps p) (cond (goes_again (loop_of ps p) (spot ps m).round) (first_of ps p) (suc p)) (suc p)) ≡ true)
          ↔ SaysBelow x θ i a (suc m)
      on m e = rw (next_place ps f.resolved.laid m, e) at (told a r (suc m))
  form_tells (form.Until a b z t u) r =
      tells_same (until_tells x f.resolved.laid c (label_of (marked x) a b t u) z p h) (λ m. Iff.symm (until_labels x θ i a b z t u r right m))
