-- The truth of the sentences that a sentence refers to, and until read off their marks. Assumes nothing.
use Rattle.std.specs.Prelude.{◌≡◌, refl, ◌↔◌, List, [], ◌∷◌, ◌++◌, true, ℕ, zero, suc, ◌<◌, ℤ, None, Option, Some}
use Rattle.std.proofs.Common.{ap, arith, eq-eqb, ne_eqb}
use Rattle.std.proofs.Math.Path.{fun_ext}
use Rattle.std.proofs.Math.Decide.{dec_lt}
use Rattle.counters.specs.Sum.{Valuation}
use Rattle.items.specs.declared.Term.{Term}
use Rattle.items.specs.declared.Form.{Form}
use Rattle.items.specs.declared.Form.TheVariants as form
use Rattle.items.specs.declared.Guard.{Guard}
use Rattle.items.specs.declared.Sentence.{Sentence}
use Rattle.items.specs.Lists.{Items}
use Rattle.meaning.specs.Run.{Moment, here, spot}
use Rattle.meaning.specs.Truth.{Trace, Until, counted_terms, Says, TrueBelow, True}
use Rattle.meaning.specs.Judged.{marked, TrueAt, trace_of}
use Rattle.verdict.specs.Labels.{label_of}
use Rattle.meaning_laws.specs.Facts.{TermRefers, Refers}
use Rattle.meaning_laws.specs.Counting.{Gets, until_gets, adds_gain}

pub below : (gs : List Guard) (fs : List Sentence) (t : Trace) (n j : ℕ) (m : Moment) → j < n → TrueBelow gs fs t n j m ≡ True gs fs t j m
unfolding TrueBelow
below gs fs t zero j m h = absurd (omega arith)
below gs fs t (suc n) j m h =
    elim (dec_lt j n) [
      | yes w ↦ rw (ne_eqb j n (λ e. omega arith)) (below gs fs t n j m w)
      | no w ↦ let e : n ≡ j = omega arith in rw (e, eq-eqb j j refl)
    ]

-- what a form says is the same where the truth of the sentences below i is, and it refers to no others
module _ (gs : List Guard) (t : Trace) (i : ℕ) {H K : ℕ → Moment → Type 0} (same : (j : ℕ) → j < i → (m : Moment) → H j m ≡ K j m) where
  same_terms : (u : Option Term) → TermRefers i u → counted_terms H u ≡ counted_terms K u
  same_terms None h = refl
  same_terms (Some c) h = λ k. record { coefficient = c.coefficient; Counts = fun_ext (same c.sentence h) k } ∷ []

  pub same_says : (f : Form) → Refers i f → (m : Moment) → Says gs t H f m ≡ Says gs t K f m
  same_says form.True r m = refl
  same_says (form.Proposition p) r m = refl
  same_says (form.Guard g) r m = refl
  same_says (form.And a b) r m = λ k. same a r.0 m k × same b r.1 m k
  same_says (form.Not a) r m = ap (λ A. A → ⊥) (same a r m)
  same_says (form.Next a) r m = same a r (suc m)
  same_says (form.Until a b z u v) r m =
      λ k. Until (fun_ext (same a r.0) k) (fun_ext (same b r.1) k) z (same_terms u r.2 k ++ same_terms v r.3 k) m

-- the marks of the sentences below i are right
abbrev pub RightBelow : Items → Valuation → ℕ → Type 0
RightBelow x θ i = (j : ℕ) → j < i → (m : Moment) → (marked x j (here (spot x.places m)) ≡ true) ↔ TrueAt x θ j m

-- the truth of the sentences below i, on the run
abbrev pub SaysBelow : Items → Valuation → ℕ → ℕ → Moment → Type 0
SaysBelow x θ i = TrueBelow x.guards x.sentences (trace_of x θ) i

module _ (x : Items) (θ : Valuation) (i : ℕ) where
  pub says_below : (j : ℕ) → j < i → (m : Moment) → SaysBelow x θ i j m ≡ TrueAt x θ j m
  says_below j h m = below x.guards x.sentences (trace_of x θ) i j m h

  pub until_labels : (a b : ℕ) (z : ℤ) (t u : Option Term) → Refers i (form.Until a b z t u) → RightBelow x θ i → (m : Moment) →
      Until (SaysBelow x θ i a) (SaysBelow x θ i b) z (counted_terms (SaysBelow x θ i) t ++ counted_terms (SaysBelow x θ i) u) m
      ↔ Gets (λ k. label_of (marked x) a b t u (here (spot x.places k))) z m
  until_labels a b z t u r h m =
      until_gets (SaysBelow x θ i a) (SaysBelow x θ i b) (counted_terms (SaysBelow x θ i) t ++ counted_terms (SaysBelow x θ i) u)
      (λ k. label_of (marked x) a b t u (here (spot x.places k))) (told a r.0) (told b r.1)
      (λ k. adds_gain (SaysBelow x θ i) (λ s. marked x s (here (spot x.places k))) k i (λ s w. told s w k) t u r.2 r.3) z m
    where
      told : (j : ℕ) → j < i → (k : Moment) → (marked x j (here (spot x.places k)) ≡ true) ↔ SaysBelow x θ i j k
      told j w k = rw (says_below j w k) (h j w k)
