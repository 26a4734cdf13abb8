-- Loop k of a plan as the code looks it up: its first place and its rounds, where it is a counted one, and where its rounds may be set. Assumes nothing.
use Rattle.std.specs.Prelude.{◌≡◌, refl, List, Bool, true, false, cond, ℕ, ◌<◌, eqb, length, Option, Some, None, Result, Ok, Err}
use Rattle.std.specs.Result.{is_ok}
use Rattle.std.proofs.Common.{sym, ◌∙◌, subst, arith, true≢false}
use Rattle.std.proofs.Math.Path.{ap, ap₂}
use Rattle.std.proofs.Math.Decide.{dec_lt}
use Rattle.std.proofs.Math.ListN.{get_or-eq_default}
use Rattle.std.proofs.lemmas.Option.{none-some}
use borrow.Author.Tests.{eq-eqb, ne_eqb}
use Rattle.laws.specs.Lists.{within}
use Rattle.items.specs.declared.LoopMark.{LoopMark}
use Rattle.items.specs.declared.LoopMark.TheVariants as mark
use Rattle.items.specs.declared.Place.{Place}
use Rattle.items.specs.Lists.{Items}
use Rattle.answers.specs.declared.NotSet.{NotSet}
use Rattle.answers.specs.Answers.{Setting}
use Rattle.rules.specs.Rules.{mark_at}
use Rattle.collector.specs.declared.Case.{Case}
use Rattle.collector.specs.Cases.{items_of}
use Rattle.collector.specs.Sound.{Sound}
use Rattle.rules_laws.specs.Loops.{past_mark}
use Rattle.meaning.specs.Spans.{loop_starts, IsCounted}
use Rattle.verdict.specs.Span.{loop_at, counted_rounds, is_none, setting_of}
use Rattle.loops_laws.specs.Numbered.{counted_at, counted_rounds_lem}

-- the first place and the rounds of loop k, where it is a counted one
unfoldable pub counted_loop : List Place → ℕ → Option (ℕ × ℕ)
counted_loop ps k =
    let p = loop_at ps k in
    let n = counted_rounds (mark_at ps p) in
    cond (eqb n 0) None (Some (p, n))

-- by what setting tells: the first place, or why nothing is set
abbrev pub place_by : Setting → ℕ → Result ℕ NotSet
place_by (Ok a) p = Ok p
place_by (Err e) p = Err e

-- the first place of loop k, where n rounds may be set in it, and else why they may not
unfoldable pub place_to_set : Items → ℕ → ℕ → Result ℕ NotSet
place_to_set x k n = place_by (setting_of x k n) (loop_at x.places k)

-- ---- looking it up

-- its first place has no rounds
pub finds_none : (ps : List Place) (k : ℕ) → counted_rounds (mark_at ps (loop_at ps k)) ≡ 0 → None ≡ counted_loop ps k
unfolding counted_loop
finds_none ps k e = let p = loop_at ps k in ap (λ t. cond t None (Some (p, counted_rounds (mark_at ps p)))) (sym (eq-eqb _ 0 e))

-- its first place has n rounds
is_counted : (ps : List Place) (k : ℕ) {p l n b : ℕ} → p ≡ loop_at ps k → mark_at ps p ≡ mark.Counted l n b → IsCounted ps k p n
is_counted ps k {p} {l} {n} {b} e m =
    let t : k < length (loop_starts ps) = elim (dec_lt k (length (loop_starts ps))) [
      | yes g ↦ g
      | no g ↦
          let d = sym m ∙ past_mark ps p (omega (arith, e, get_or-eq_default (loop_starts ps) (length ps) {n = k} (omega arith))) in
          absurd (true≢false (ap has_rounds d))
    ] in
    record { there = t; first = within (loop_starts ps) k 0 (length ps) t ∙ sym e; places = l; back = b; is = m }
  where
    has_rounds : LoopMark → Bool
    has_rounds mark.None = false
    has_rounds (mark.Counted l n b) = true
    has_rounds (mark.Endless l b) = false

pub finds_some : {c : Case} → Sound c → (k : ℕ) {p l n b : ℕ} → p ≡ loop_at (items_of c).places k → mark_at (items_of c).places p ≡ mark.Counted l n b →
    Some (p, n) ≡ counted_loop (items_of c).places k
unfolding counted_loop
finds_some {c} s k {p} {l} {n} {b} e m =
    let ps = (items_of c).places in
    let r : n ≡ counted_rounds (mark_at ps (loop_at ps k)) = ap counted_rounds (sym m) ∙ ap (λ q. counted_rounds (mark_at ps q)) e in
    let least = (counted_rounds_lem s (is_counted ps k e m)).least in
    ap₂ (λ q t. Some (q, t)) e r
    ∙ ap (λ t. cond t None (Some (loop_at ps k, counted_rounds (mark_at ps (loop_at ps k))))) (sym (ne_eqb _ 0 (λ z. omega (arith, least, r, z))))

-- ---- what is found

module _ (x : Items) (k : ℕ) where
  -- the place that loop k is looked for at, and its rounds
  abbrev it : ℕ × ℕ
  it = let p = loop_at x.places k in (p, counted_rounds (mark_at x.places p))

  pub found_none : None ≡ counted_loop x.places k → is_none x (loop_at x.places k) ≡ true
  unfolding counted_loop
  found_none = by (is_none x (loop_at x.places k))
    where
      by : (t : Bool) → None ≡ cond t None (Some it) → t ≡ true
      by true e = refl
      by false e = absurd (none-some _ e)

  -- loop k begins with place p and has n rounds
  pub record Found (p n : ℕ) : Type 0 where
    pub some : is_none x (loop_at x.places k) ≡ false
    pub place : p ≡ loop_at x.places k
    pub rounds : n ≡ counted_rounds (mark_at x.places (loop_at x.places k))
    pub counted : IsCounted x.places k p n

  pub found_some : {p n : ℕ} → ◌≡◌ {A = Option (ℕ × ℕ)} (Some (p, n)) (counted_loop x.places k) → Found p n
  unfolding counted_loop
  found_some {p} {n} = by (is_none x (loop_at x.places k)) refl
    where
      more : is_none x (loop_at x.places k) ≡ false → 0 < counted_rounds (mark_at x.places (loop_at x.places k))
      more d =
          let m = counted_rounds (mark_at x.places (loop_at x.places k)) in
          elim (dec_lt 0 m) [ yes h ↦ h | no h ↦ absurd (true≢false (sym (eq-eqb m 0 (omega arith)) ∙ d)) ]

      by : (t : Bool) → is_none x (loop_at x.places k) ≡ t → ◌≡◌ {A = Option (ℕ × ℕ)} (Some (p, n)) (cond t None (Some it)) → Found p n
      by true d e = absurd (none-some _ (sym e))
      by false d e =
          let f : ◌≡◌ {A = ℕ × ℕ} (p, n) it = cc in
          record {
            some = d;
            place = ap (λ (u, v). u) f;
            rounds = ap (λ (u, v). v) f;
            counted = subst (λ ((u, v) : ℕ × ℕ). IsCounted x.places k u v) (sym f) (counted_at x.places k (more d));
          }

  module _ (n : ℕ) where
    -- by what setting tells
    pub place_is : {a : Setting} → setting_of x k n ≡ a → place_by a (loop_at x.places k) ≡ place_to_set x k n
    unfolding place_to_set
    place_is e = ap (λ a. place_by a (loop_at x.places k)) (sym e)

    -- nothing is set
    pub not_set : {e : NotSet} → Err e ≡ place_to_set x k n → setting_of x k n ≡ Err e
    unfolding place_to_set
    not_set {e} = by (setting_of x k n)
      where
        by : (a : Setting) → Err e ≡ place_by a (loop_at x.places k) → a ≡ Err e
        by (Ok a) d = absurd (true≢false (ap is_ok (sym d)))
        by (Err f) d = cc

    -- the rounds may be set
    pub may_set : {p : ℕ} → Ok p ≡ place_to_set x k n → (setting_of x k n ≡ Ok tt) × (p ≡ loop_at x.places k)
    unfolding place_to_set
    may_set {p} = by (setting_of x k n)
      where
        by : (a : Setting) → Ok p ≡ place_by a (loop_at x.places k) → (a ≡ Ok tt) × (p ≡ loop_at x.places k)
        by (Ok a) d = (refl, cc)
        by (Err f) d = absurd (true≢false (ap is_ok d))
