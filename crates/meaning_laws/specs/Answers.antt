-- The meaning leaves one answer, whose result is 0 exactly where the case is accepted; runs that show the same have the same truth. Assumes nothing.
use Rattle.std.specs.Prelude.{◌≡◌, refl, ◌↔◌, List, [], ◌∷◌, true, ℕ, zero, suc, ◌≤◌, ◌<◌, get_or, Err, Ok}
use Rattle.std.proofs.Common.{sym, ◌∙◌, ap, ap₂, subst, ⊎_elim, true≢false, eq-or-lt_of_le, le_of_suc-le-suc, arith}
use Rattle.std.proofs.Math.Path.{fun_ext}
use Rattle.laws.specs.All.{All}
use Rattle.laws.specs.Members.{first_one, all_first}
use Rattle.counters.specs.Sum.{Valuation}
use Rattle.items.specs.declared.Guard.{Guard}
use Rattle.items.specs.declared.Sentence.{Sentence}
use Rattle.items.specs.Lists.{Items}
use Rattle.answers.specs.declared.Rejection.TheVariants.{Unfinished, WrongStart, Unconnected, GuardFails, WrongMark, RootUnmarked}
use Rattle.answers.specs.Answers.{numbers_of, Judgement}
use Rattle.meaning.specs.Run.{Moment, Way}
use Rattle.meaning.specs.Truth.{Trace, True}
use Rattle.meaning.specs.Judged.{state_at, ways_of, Connects, Test, tests_of, Passes, Fails, Mark, marks_of, marked, root, Right, Wrong, Finished, IsAccepted, Judged}

-- ---- an answer by its numbers

-- how many of the tests a case with this answer passes
abbrev rank : Judgement → ℕ
rank (Err (Unfinished n)) = 0
rank (Err WrongStart) = 1
rank (Err (Unconnected p t)) = 2
rank (Err (GuardFails p g)) = 3
rank (Err (WrongMark p i)) = 4
rank (Err (RootUnmarked r)) = 5
rank (Ok tt) = 6

-- the answer of a rank with these numbers
abbrev ranked_answer : ℕ → ℕ → ℕ → Judgement
ranked_answer k m n =
    get_or
    (Err (Unfinished m) ∷ Err WrongStart ∷ Err (Unconnected (record { 0 = m }) n) ∷ Err (GuardFails (record { 0 = m }) n) ∷ Err (WrongMark (record { 0 = m }) n) ∷ Err (RootUnmarked n) ∷ [])
    k
    (Ok tt)

numbered : (a : Judgement) → ranked_answer (rank a) (numbers_of a).second (numbers_of a).third ≡ a
numbered (Err (Unfinished n)) = refl
numbered (Err WrongStart) = refl
numbered (Err (Unconnected p t)) = refl
numbered (Err (GuardFails p g)) = refl
numbered (Err (WrongMark p i)) = refl
numbered (Err (RootUnmarked r)) = refl
numbered (Ok tt) = refl

module _ (x : Items) (θ : Valuation) where
  -- ---- what excludes what

  not_both : (w : Way) → Connects x w → (Connects x w → ⊥) → ⊥
  not_both w c n = n c

  passes_or_fails : (t : Test) → Passes x θ t → Fails x θ t → ⊥
  passes_or_fails t p f = f.unmet (p.met f.moment f.way)

  right_or_wrong : (k : Mark) → Right x θ k → Wrong x θ k → ⊥
  right_or_wrong k r w =
      let s = r.same w.moment w.there in
      ⊎_elim (λ d. d.1 (s.0 d.0)) (λ d. true≢false (sym (s.1 d.1) ∙ d.0)) w.differs

  -- ---- the tests in their order

  -- test k of a finished case: there are five
  abbrev Good : ℕ → Type 0
  Good k =
      get_or
      ((state_at x 0 ≡ 0)
      ∷ All (Connects x) (ways_of x)
      ∷ All (Passes x θ) (tests_of x)
      ∷ All (Right x θ) (marks_of x)
      ∷ (marked x (root x) 0 ≡ true)
      ∷ [])
      k
      ⊥

  -- the first k tests are passed
  abbrev PassedTests : ℕ → Type 0
  PassedTests zero = Unit {0}
  PassedTests (suc zero) = Finished x
  PassedTests (suc (suc k)) = PassedTests (suc k) × Good k

  one_less : (k : ℕ) → PassedTests (suc k) → PassedTests k
  one_less zero s = tt
  one_less (suc k) s = s.0

  fewer : (j k : ℕ) → j ≤ k → PassedTests k → PassedTests j
  fewer j zero h s = let e : 0 ≡ j = omega arith in subst PassedTests e s
  fewer j (suc k) h s =
      ⊎_elim (λ e. subst PassedTests (sym e) s) (λ l. fewer j k (le_of_suc-le-suc l) (one_less k s)) (eq-or-lt_of_le h)

  -- ---- one answer

  -- what an answer says: the first tests are passed and no more, and no other answer of its rank says so
  record SaysFirst (a : Judgement) : Type 0 where
    passed : PassedTests (rank a)
    stops : PassedTests (suc (rank a)) → ⊥
    only : (m n : ℕ) → Judged x θ (ranked_answer (rank a) m n) → ranked_answer (rank a) m n ≡ a

  says : (a : Judgement) → Judged x θ a → SaysFirst a
  says (Err (Unfinished n)) j = record { passed = tt; stops = j.0; only = λ m k i. ap (λ n. Err (Unfinished n)) (i.1 ∙ sym j.1) }
  says (Err WrongStart) j = record { passed = j.0; stops = λ s. j.1 s.1; only = λ m k i. refl }
  says (Err (Unconnected p t)) j =
      record {
        passed = j.0;
        stops = λ s. all_first not_both s.1 j.1.1;
        only = λ m k i.
            let e = first_one not_both i.1.1 j.1.1 in
            ap₂ (λ q n. Err (Unconnected (record { 0 = q }) n)) (cc) (cc);
      }
  says (Err (GuardFails p g)) j =
      record {
        passed = j.0;
        stops = λ s. all_first passes_or_fails s.1 j.1.1;
        only = λ m k i.
            let e = first_one passes_or_fails i.1.1 j.1.1 in
            ap₂ (λ q n. Err (GuardFails (record { 0 = q }) n)) (cc) (cc);
      }
  says (Err (WrongMark p r)) j =
      record {
        passed = j.0;
        stops = λ s. all_first right_or_wrong s.1 j.1.1;
        only = λ m k i.
            let e = first_one right_or_wrong i.1.1 j.1.1 in
            ap₂ (λ q n. Err (WrongMark (record { 0 = q }) n)) (cc) (cc);
      }
  says (Err (RootUnmarked r)) j =
      record { passed = j.0; stops = λ s. true≢false (sym s.1 ∙ j.1); only = λ m k i. ap (λ n. Err (RootUnmarked n)) (i.2 ∙ sym j.2) }
  says (Ok tt) j = record { passed = j; stops = λ s. s.1; only = λ m k i. refl }

  no_later : {a b : Judgement} → SaysFirst a → SaysFirst b → rank a < rank b → ⊥
  no_later {a} {b} s t h = s.stops (fewer (suc (rank a)) (rank b) h t.passed)

  pub one_answer : (a b : Judgement) → Judged x θ a → Judged x θ b → a ≡ b
  one_answer a b i j =
      let s = says a i in
      let t = says b j in
      let e : rank b ≡ rank a = omega (arith, no_later s t, no_later t s) in
      let n = numbers_of b in
      let f : b ≡ ranked_answer (rank a) n.second n.third = sym (numbered b) ∙ ap (λ k. ranked_answer k n.second n.third) e in
      sym (f ∙ s.only n.second n.third (subst (Judged x θ) f j))

  -- the result is 0 exactly where the case is accepted: every other answer excludes it
  pub zero_accepts : (a : Judgement) → Judged x θ a → ((numbers_of a).result ≡ 0) ↔ IsAccepted x θ
  zero_accepts a j = (λ e. subst (Judged x θ) (zero_only a e) j, λ h. ap (λ b. (numbers_of b).result) (one_answer a (Ok tt) j h))
    where
      zero_only : (b : Judgement) → (numbers_of b).result ≡ 0 → b ≡ Ok tt
      zero_only (Err (Unfinished n)) e = absurd (omega arith)
      zero_only (Err WrongStart) e = absurd (omega arith)
      zero_only (Err (Unconnected p t)) e = absurd (omega arith)
      zero_only (Err (GuardFails p g)) e = absurd (omega arith)
      zero_only (Err (WrongMark p i)) e = absurd (omega arith)
      zero_only (Err (RootUnmarked r)) e = absurd (omega arith)
      zero_only (Ok tt) e = refl

-- runs that show the same propositions and counters have the same truth
pub same_truth : (gs : List Guard) (fs : List Sentence) (t u : Trace)
    → ((m : Moment) → t.propositions m ≡ u.propositions m)
    → ((m : Moment) (j : ℕ) → t.counters m j ≡ u.counters m j)
    → (s : ℕ) (i : Moment) → True gs fs t s i ≡ True gs fs u s i
same_truth gs fs t u p c s i =
    ap (λ r. True gs fs r s i) (λ k. record { propositions = fun_ext p k; counters = fun_ext (λ m. fun_ext (c m)) k })
