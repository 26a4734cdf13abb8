-- What filling leaves and tells, by each of its ends, and what each answer tells. Assumes nothing.
use Rattle.std.specs.Prelude.{◌≡◌, refl, ℕ, Err, Ok}
use Rattle.std.proofs.Common.{sym, ◌∙◌, subst, ⊎_elim}
use Rattle.std.proofs.Math.Path.{ap, ap₂}
use Rattle.laws.specs.Members.{all_first}
use Rattle.counters.specs.Sum.{Valuation}
use Rattle.answers.specs.declared.NotFilled.TheVariants.{Refused, Changes}
use Rattle.answers.specs.declared.Rejection.TheVariants.{Unfinished, WrongStart, Unconnected, GuardFails, WrongMark, RootUnmarked}
use Rattle.items.specs.Lists.{Items}
use Rattle.meaning.specs.Judged.{start_of, Guarded, Judged}
use Rattle.meaning_laws.specs.Lists.{mark_for}
use Rattle.verdict.specs.Verdict.{before_marks}
use Rattle.verdict.specs.Fill.{Marking, given, changes, filled_of}
use Rattle.collector.specs.declared.Case.{Case}
use Rattle.collector.specs.Cases.{items_of, case_of}
use Rattle.collector.specs.Sound.{Sound}
use Rattle.fill_laws.specs.Unlooked.{Before34}
use Rattle.fill_laws.specs.Theorems.{checked, given_sound}
use Rattle.fill.specs.Filled.{Filled, filled_by, filled_case}
use Rattle.answers.specs.declared.Rejection.{Rejection}
use Rattle.answers.specs.Answers.{Filling, Judgement}

module _ (c : Case) where
  -- the items
  abbrev x : Items
  x = items_of c

  pub refused : {a : Rejection} → Err a ≡ before_marks (items_of c) (start_of (items_of c)) → record { case = c; answer = Err (Refused a) } ≡ filled_case c
  unfolding filled_case
  refused e = ap (λ a. filled_by c a (filled_of x (start_of x))) e

  -- where none of the checks before applies
  module _ (a : before_marks (items_of c) (start_of (items_of c)) ≡ Ok tt) where
    by_marking : {m : Marking} → filled_of x (start_of x) ≡ m → filled_case c ≡ filled_by c (Ok tt) m
    unfolding filled_case
    by_marking e = ap₂ (filled_by c) a e

    pub changed : {i p : ℕ} → filled_of (items_of c) (start_of (items_of c)) ≡ changes (mark_for i p) → record { case = c; answer = Err (Changes (record { 0 = p }) i) } ≡ filled_case c
    changed e = sym (by_marking e)

    pub all_marked : {y : Items} {d : Case} → filled_of (items_of c) (start_of (items_of c)) ≡ given y → d ≡ case_of y → record { case = d; answer = Ok tt } ≡ filled_case c
    all_marked e w = ap (λ d. record { case = d; answer = Ok tt }) w ∙ sym (by_marking e)

-- ---- what each answer tells

-- a refusal before those of marks isn't told where none of them applies
pub excluded : (x : Items) (θ : Valuation) (a : Judgement) → Before34 a → Judged x θ a → Guarded x θ → ⊥
excluded x θ (Err (Unfinished n)) b j g = j.0 g.0.0.0
excluded x θ (Err WrongStart) b j g = j.1 g.0.0.1
excluded x θ (Err (Unconnected p t)) b j g = all_first (λ w c n. n c) g.0.1 j.1.1
excluded x θ (Err (GuardFails p i)) b j g = all_first (λ t h f. f.unmet (h.met f.moment f.way)) g.1 j.1.1
excluded x θ (Err (WrongMark p i)) b j g = b
excluded x θ (Err (RootUnmarked r)) b j g = b
excluded x θ (Ok tt) b j g = b

-- by each answer: what it tells of the case c, and of the case d after the call
abbrev pub Tells : Case → Case → Filling → Type 0
Tells c d (Err (Refused a)) = (d ≡ c) × Before34 (Err a) × Judged (items_of c) (start_of (items_of c)) (Err a)
Tells c d (Err (Changes p i)) = (d ≡ c) × Guarded (items_of c) (start_of (items_of c)) × (filled_of (items_of c) (start_of (items_of c)) ≡ changes (mark_for i p.0))
Tells c d (Ok tt) = (y : Items) × Guarded (items_of c) (start_of (items_of c)) × (filled_of (items_of c) (start_of (items_of c)) ≡ given y) × (d ≡ case_of y)

module _ (c : Case) (s : Sound c) where
  -- the items
  abbrev z : Items
  z = items_of c

  -- where none of 24, 31, 32 and 33 applies, the checks for them say so
  pub checks_pass : Guarded (items_of c) (start_of (items_of c)) → before_marks (items_of c) (start_of (items_of c)) ≡ Ok tt
  checks_pass g = ⊎_elim (λ (b, j). absurd (excluded z (start_of z) (before_marks z (start_of z)) b j g)) (λ (e, h). e) (checked c s (start_of z))

  -- where one of these applies
  early : (a : Judgement) → a ≡ before_marks (items_of c) (start_of (items_of c)) → Before34 a → Judged (items_of c) (start_of (items_of c)) a → Tells c (filled_case c).case (filled_case c).answer
  early (Err a) e b j = subst (λ (r : Filled). Tells c r.case r.answer) (refused c e) (refl, b, j)
  early (Ok tt) e b j = absurd b

  pub tells : Tells c (filled_case c).case (filled_case c).answer
  tells =
      ⊎_elim
      (λ (b, j). early (before_marks z (start_of z)) refl b j)
      (λ (e, g). subst (λ (r : Filled). Tells c r.case r.answer) (sym (by_marking c e refl)) (by g (filled_of z (start_of z)) refl)) (checked c s (start_of z))
    where
      by : Guarded z (start_of z) → (m : Marking) → filled_of z (start_of z) ≡ m → Tells c (filled_by c (Ok tt) m).case (filled_by c (Ok tt) m).answer
      by g (given y) w = (y, g, w, refl)
      by g (changes k) w = (refl, g, w)

  -- the case after the call has what every case has that records make
  pub filled_sound : {r : Filled} → r ≡ filled_case c → Sound r.case
  filled_sound e = subst (λ (r : Filled). Sound r.case) (sym e) (by (filled_case c).answer tells)
    where
      by : (a : Filling) → Tells c (filled_case c).case a → Sound (filled_case c).case
      by (Err (Refused a)) t = subst Sound (sym t.0) s
      by (Err (Changes p i)) t = subst Sound (sym t.0) s
      by (Ok tt) (y, g, w, d) = subst Sound (sym d) (given_sound c s g.0.0.0.1 (start_of z) y w).0
