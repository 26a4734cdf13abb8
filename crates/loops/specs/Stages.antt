-- What each answer is, stage by stage, as the code goes. Assumes nothing.
use Rattle.std.specs.Prelude.{◌≡◌, Bool, true, false, cond, ℕ, ◌<◌, length, Err, Ok}
use Rattle.std.proofs.Common.{sym, ◌∙◌, true≢false, arith}
use Rattle.std.proofs.Math.Path.{ap, ap₂}
use Rattle.items.specs.Lists.{Items}
use Rattle.answers.specs.declared.Rejection.{Rejection}
use Rattle.answers.specs.declared.NotSet.TheVariants as not_set
use Rattle.answers.specs.declared.NoSpan.TheVariants as no_span
use Rattle.answers.specs.Answers.{is_set, Setting}
use Rattle.rules.specs.Rules.{mark_at}
use Rattle.rules.specs.Files.{item_count}
use Rattle.collector.specs.declared.Case.{Case}
use Rattle.collector.specs.Cases.{items_of, case_of}
use Rattle.collector.specs.Sound.{Sound}
use Rattle.meaning.specs.Judged.{start_of}
use Rattle.meaning.specs.Rounds.{with_rounds}
use Rattle.meaning.specs.Spans.{MayHave, place_record, SettingSays}
use Rattle.verdict.specs.Verdict.{finished, verdict}
use Rattle.verdict.specs.Span.{loop_at, counted_rounds, is_none, last_rounds, span_by, span_of, may_have, setting_by, setting_of}
use Rattle.loops_laws.specs.Numbered.{counted_is, counted_held}
use Rattle.loops_laws.specs.Set.{setting_tells}
use Rattle.loops.specs.Planned.{set_case}

-- ---- setting rounds

module _ (x : Items) (k n : ℕ) where
  -- the first place of loop k
  abbrev p : ℕ
  p = loop_at x.places k

  pub setting_unfinished : finished x ≡ false → setting_of x k n ≡ Err (not_set.Unfinished (item_count x))
  unfolding setting_of
  setting_unfinished e = ap (λ t. setting_by x k p t (is_none x p) (may_have n)) e

  module _ (e : finished x ≡ true) where
    pub setting_none : is_none x (loop_at x.places k) ≡ true → setting_of x k n ≡ Err (not_set.NoLoop k)
    unfolding setting_of
    setting_none d = ap₂ (λ t u. setting_by x k p t u (may_have n)) e d

    module _ (d : is_none x (loop_at x.places k) ≡ false) where
      by_range : {r : Bool} → may_have n ≡ r → setting_of x k n ≡ setting_by x k p true false r
      unfolding setting_of
      by_range h = λ i. setting_by x k p (e i) (d i) (h i)

      pub setting_set : may_have n ≡ true → setting_of x k n ≡ Ok tt
      setting_set = by_range

      pub setting_out : may_have n ≡ false → setting_of x k n ≡ Err (not_set.OutOfRange (place_record x (loop_at x.places k)))
      setting_out = by_range

-- the case that is left with an answer
pub set_by : (c : Case) (k n : ℕ) {a : Setting} → a ≡ setting_of (items_of c) k n → {b : Bool} → is_set a ≡ b →
    record { case = cond b (case_of (with_rounds (items_of c) (loop_at (items_of c).places k) n)) c; answer = a } ≡ set_case c k n
unfolding set_case
set_by c k n {a} e {b} d =
    let set = case_of (with_rounds (items_of c) (loop_at (items_of c).places k) n) in
    λ i. record { case = cond ((sym d ∙ ap is_set e) i) set c; answer = e i }

-- where rounds are set, the loop may have them, and its first place is held
pub set_held : {c : Case} → Sound c → (k n : ℕ) → is_set (setting_of (items_of c) k n) ≡ true →
    (MayHave n) × (loop_at (items_of c).places k < length (items_of c).places)
set_held {c} s k n = by (setting_of x k n) (setting_tells s k n)
  where
    x : Items
    x = items_of c

    by : (a : Setting) → SettingSays x k n a → is_set a ≡ true → (MayHave n) × (loop_at x.places k < length x.places)
    by (Err (not_set.Unfinished m)) t e = absurd (true≢false (sym e))
    by (Err (not_set.NoLoop j)) t e = absurd (true≢false (sym e))
    by (Err (not_set.OutOfRange r)) t e = absurd (true≢false (sym e))
    by (Ok tt) (f, may, (p, m, h)) e = (may, omega (arith, (counted_is x.places k h).0, counted_held x.places k h))

-- ---- the rounds that are accepted

module _ (x : Items) (k : ℕ) where
  -- the first place of loop k
  abbrev q : ℕ
  q = loop_at x.places k

  pub span_refused : {a : Rejection} → Err a ≡ verdict x (start_of x) → span_of x k ≡ Err (no_span.Refused a)
  unfolding span_of
  span_refused e = λ i. span_by x k q (sym e i) (is_none x q)

  module _ (e : verdict x (start_of x) ≡ Ok tt) where
    pub span_none : is_none x (loop_at x.places k) ≡ true → span_of x k ≡ Err (no_span.NoLoop k)
    unfolding span_of
    span_none d = λ i. span_by x k q (e i) (d i)

    pub span_between : is_none x (loop_at x.places k) ≡ false →
        let p = loop_at x.places k in
        let n = counted_rounds (mark_at x.places p) in
        span_of x k ≡ Ok (last_rounds x p n 1, last_rounds x p n 1000000)
    unfolding span_of
    span_between d = λ i. span_by x k q (e i) (d i)
