-- What is proved of the call that sets the rounds of a loop, `Plan::set` (loops/src/lib.rt): it takes a case c that is `Sound`, the number k of a loop and n rounds,
-- leaves the case of `set_case c k n` in its place, and hands back its answer. Assumes nothing. (These theorems stand in proofs/ so that a must-fail edit of `set_case` is read.)
use Rattle.std.specs.Prelude.{◌≡◌, refl, ◌↔◌, Bool, true, false, ℕ, get_or, set, Ok}
use Rattle.std.proofs.Math.Path.{sym, ap}
use Rattle.std.proofs.Common.{◌∙◌, subst}
use Rattle.std.proofs.Math.Bool.{cond}
use Rattle.laws.specs.Tests.{cond_by}
use Rattle.kinds.specs.declared.Kind.TheVariants as kind
use Rattle.items.specs.Lists.{Items, no_item, with_places}
use Rattle.items.specs.File.{file_of}
use Rattle.answers.specs.Answers.{is_set, Setting}
use Rattle.collector.specs.declared.Case.{Case}
use Rattle.collector.specs.Cases.{case_by, arrays_of, case_of, items_of}
use Rattle.collector.specs.Sound.{Sound}
use Rattle.rules_laws.specs.Held.{items_of_lem}
use Rattle.rules_laws.specs.KeptDrifts.{KeepsDrifts, keeps_drifts}
use Rattle.meaning.specs.Rounds.{place_with, with_rounds}
use Rattle.meaning.specs.Spans.{IsCounted, MayHave, place_record, SettingSays}
use Rattle.verdict.specs.Span.{loop_at, setting_of}
use Rattle.loops_laws.specs.Numbered.{counted_is, counted_held}
use Rattle.loops_laws.specs.Held.{sound_rounds, case_rounds}
use Rattle.loops_laws.specs.Spans as spans
use Rattle.loops_laws.specs.Set as setting
use Rattle.loops_laws.specs.File.{Respelled, file_rounds}
use Rattle.loops.specs.Planned.{set_case}
use Rattle.loops.specs.Stages.{set_held}

module _ (c : Case) (s : Sound c) (k : ℕ) where
  abbrev x : Items
  x = items_of c

  -- ---- setting rounds

  module _ (n : ℕ) where
    -- each answer is given exactly where it says so
    pub set_answers : (a : Setting) → ((set_case c k n).answer ≡ a) ↔ SettingSays (items_of c) k n a
    unfolding set_case
    set_answers = setting.setting_exactly s k n

    -- a refusal leaves the case as it was
    pub unchanged : is_set (set_case c k n).answer ≡ false → (set_case c k n).case ≡ c
    unfolding set_case
    unchanged e = ap (λ t. cond t (case_of (with_rounds x (loop_at x.places k) n)) c) e

    -- whatever the answer, the case after it has what every case has that records make
    pub set_sound : Sound (set_case c k n).case
    unfolding set_case
    set_sound = cond_by Sound (is_set (setting_of x k n)) (λ e. sound_rounds s (loop_at x.places k) n (set_held s k n e).0) (λ e. s)

    -- and so the drifts that it keeps are those of its own loops
    pub set_drifts : KeepsDrifts (set_case c k n).case
    set_drifts = keeps_drifts (set_case c k n).case set_sound

    -- where loop k begins with place p and has m rounds, and these are set
    module _ {p m : ℕ} (h : IsCounted (items_of c).places k p m) (e : (set_case c k n).answer ≡ Ok tt) where
      may : MayHave n
      may = ((set_answers (Ok tt)).0 e).1

      case_is : (set_case c k n).case ≡ case_of (with_rounds (items_of c) p n)
      unfolding set_case
      case_is =
          ap (λ (a : Setting). cond (is_set a) (case_of (with_rounds x (loop_at x.places k) n)) c) e
          ∙ ap (λ q. case_of (with_rounds x q n)) (sym (counted_is x.places k h).0)

      -- what it holds is as it was, but for the rounds of that loop
      pub set_items : items_of (set_case c k n).case ≡ with_rounds (items_of c) p n
      set_items = ap items_of case_is ∙ items_of_lem (with_rounds x p n)

      -- and so is all that is kept: one place of the array has other rounds, and the stored drifts stay
      pub set_kept : (set_case c k n).case
          ≡ case_by c.count c.loops c.drifts (with_places (arrays_of c) (set c.places p (place_with n (get_or c.places p (no_item kind.Place)))))
      set_kept = case_is ∙ case_rounds s p n (counted_held x.places k h)

      -- the file of the case after it is that of the case before, with the rounds field of that one record respelled; taking it gives the case after it
      -- (`file_again` of rules_laws/specs/Theorems.antt), so judging the one is judging the other
      pub set_file : Respelled (file_of (items_of c)) (file_of (items_of (set_case c k n).case)) (place_record (items_of c) p) m n
      set_file = subst (λ y. Respelled (file_of x) (file_of y) (place_record x p) m n) (sym set_items) (file_rounds s h may)

  -- setting the rounds that a loop has leaves the case as it was
  pub set_own : {p m : ℕ} → IsCounted (items_of c).places k p m → (set_case c k m).case ≡ c
  unfolding set_case
  set_own {p} {m} h = ap (λ d. cond (is_set (setting_of x k m)) d c) same ∙ either (is_set (setting_of x k m))
    where
      same : case_of (with_rounds x (loop_at x.places k) m) ≡ c
      same = ap (λ q. case_of (with_rounds x q m)) (sym (counted_is x.places k h).0) ∙ ap case_of (spans.with_own x p h.places m h.back h.is) ∙ sym s.same

      either : (t : Bool) → cond t c c ≡ c
      either true = refl
      either false = refl
