-- What setting a loop's rounds tells: each answer exactly where it says so. Assumes nothing.
use Rattle.std.specs.Prelude.{◌≡◌, ◌↔◌, Bool, ℕ, leb, Err, Ok}
use Rattle.std.proofs.Math.Path.{refl}
use Rattle.std.proofs.Common.{sym, ◌∙◌, ap, subst, arith}
use Rattle.std.proofs.Math.Bool.{true, false}
use borrow.Author.Tests.{eqb-true, eqb-false}
use Rattle.laws.specs.Tests.{Tells, tells_not, tells_le, tells_and}
use Rattle.items.specs.Lists.{Items}
use Rattle.answers.specs.declared.NotSet.TheVariants as not_set
use Rattle.rules.specs.Rules.{mark_at}
use Rattle.meaning.specs.Spans.{MayHave, place_record, SettingSays}
use Rattle.verdict.specs.Verdict.{finished}
use Rattle.verdict.specs.Span.{loop_at, counted_rounds, is_none, may_have, setting_by, setting_of}
use Rattle.collector.specs.declared.Case.{Case}
use Rattle.collector.specs.Cases.{items_of}
use Rattle.collector.specs.Sound.{Sound}
use Rattle.verdict_laws.specs.Judge.{tells_finished}
use Rattle.loops_laws.specs.Numbered.{counted_at, counted_is, no_counted}
use Rattle.answers.specs.Answers.{Setting}

-- no two of them are said of one case
pub setting_one : (x : Items) (k n : ℕ) (a b : Setting) → SettingSays x k n a → SettingSays x k n b → a ≡ b
setting_one x k n (Err (not_set.Unfinished i)) (Err (not_set.Unfinished j)) (f, e) (g, d) = ap (λ n. Err (not_set.Unfinished n)) (e ∙ sym d)
setting_one x k n (Err (not_set.Unfinished i)) (Err (not_set.NoLoop j)) (f, e) (d, g, none) = absurd (f g)
setting_one x k n (Err (not_set.Unfinished i)) (Err (not_set.OutOfRange r)) (f, e) (g, no-may, l) = absurd (f g)
setting_one x k n (Err (not_set.Unfinished i)) (Ok tt) (f, e) (g, may, l) = absurd (f g)
setting_one x k n (Err (not_set.NoLoop i)) (Err (not_set.Unfinished j)) (e, g, none) (f, d) = absurd (f g)
setting_one x k n (Err (not_set.NoLoop i)) (Err (not_set.NoLoop j)) (e, g, none) (d, h, others) = ap (λ n. Err (not_set.NoLoop n)) (e ∙ sym d)
setting_one x k n (Err (not_set.NoLoop i)) (Err (not_set.OutOfRange r)) (e, g, none) (h, no-may, (p, m, l, w)) = absurd (none p m l)
setting_one x k n (Err (not_set.NoLoop i)) (Ok tt) (e, g, none) (h, may, (p, m, l)) = absurd (none p m l)
setting_one x k n (Err (not_set.OutOfRange r)) (Err (not_set.Unfinished j)) (g, no-may, l) (f, e) = absurd (f g)
setting_one x k n (Err (not_set.OutOfRange r)) (Err (not_set.NoLoop j)) (g, no-may, (p, m, l, w)) (e, h, none) = absurd (none p m l)
setting_one x k n (Err (not_set.OutOfRange r)) (Err (not_set.OutOfRange q)) (g, no-may, (p, m, l, w)) (h, none, (i, j, t, v)) =
    ap (λ n. Err (not_set.OutOfRange n)) (w ∙ ap (place_record x) ((counted_is x.places k l).0 ∙ sym (counted_is x.places k t).0) ∙ sym v)
setting_one x k n (Err (not_set.OutOfRange r)) (Ok tt) (g, no-may, l) (h, may, t) = absurd (no-may may)
setting_one x k n (Ok tt) (Err (not_set.Unfinished j)) (g, may, l) (f, e) = absurd (f g)
setting_one x k n (Ok tt) (Err (not_set.NoLoop j)) (g, may, (p, m, l)) (e, h, none) = absurd (none p m l)
setting_one x k n (Ok tt) (Err (not_set.OutOfRange r)) (g, may, l) (h, no-may, t) = absurd (no-may may)
setting_one x k n (Ok tt) (Ok t) u v = refl

-- ---- the tests

pub tells_may : (n : ℕ) → Tells (may_have n) (MayHave n)
tells_may n =
    let t = tells_and (leb 1 n) (leb n 1000000) (tells_le 1 n) (tells_le n 1000000) in
    (λ e. record { least = (t.0 e).0; most = (t.0 e).1 }, λ h. t.1 (h.least, h.most))

-- ---- the answer

module _ {c : Case} (s : Sound c) (k n : ℕ) where
  -- the items, the first place of the loop, and its rounds
  abbrev x : Items
  x = items_of c

  abbrev p : ℕ
  p = loop_at x.places k

  abbrev m : ℕ
  m = counted_rounds (mark_at x.places p)

  pub setting_tells : SettingSays (items_of c) k n (setting_of (items_of c) k n)
  unfolding setting_of
  setting_tells = by (finished x) (is_none x p) (may_have n) refl refl refl
    where
      by : (f a r : Bool) → finished x ≡ f → is_none x p ≡ a → may_have n ≡ r → SettingSays x k n (setting_by x k p f a r)
      by false a r e d h = (tells_not _ (tells_finished c s) e, refl)
      by true true r e d h = (refl, (tells_finished c s).0 e, no_counted s k (eqb-true m 0 d))
      by true false false e d h = ((tells_finished c s).0 e, tells_not _ (tells_may n) h, (p, m, counted_at x.places k (omega (arith, eqb-false m 0 d)), refl))
      by true false true e d h = ((tells_finished c s).0 e, (tells_may n).0 h, (p, m, counted_at x.places k (omega (arith, eqb-false m 0 d))))

  -- each answer is given exactly where it says so
  pub setting_exactly : (a : Setting) → (setting_of (items_of c) k n ≡ a) ↔ SettingSays (items_of c) k n a
  setting_exactly a = (λ e. subst (SettingSays x k n) e setting_tells, setting_one x k n (setting_of x k n) a setting_tells)
