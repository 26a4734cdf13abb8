-- Truth is decided at every moment, where the marks of the sentences below are right. Assumes nothing.
use Rattle.std.specs.Prelude.{◌≡◌, refl, ◌↔◌, ◌⊎◌, Bool, true, false, ℕ, suc, ◌+◌, ◌≤◌, ◌<◌, length, get_or}
use Rattle.std.proofs.Common.{sym, ◌∙◌, ap, inl, inr, ⊎_elim, arith}
use Rattle.std.proofs.Math.Logic.Iff
use Rattle.std.proofs.lemmas.Bool.{false≢true}
use Rattle.laws.specs.Arithmetic.{le_out, le_or}
use Rattle.kinds.specs.declared.Kind.TheVariants as kind
use Rattle.counters.specs.Sum.{Valuation, sum}
use Rattle.items.specs.declared.Form.{Form}
use Rattle.items.specs.declared.Form.TheVariants as form
use Rattle.items.specs.Lists.{Items, no_item}
use Rattle.rules.specs.Rules.{mark_at, Closed}
use Rattle.meaning.specs.Run.{Moment, here, stretch, spot, guard_at}
use Rattle.meaning.specs.Truth.{Says, bit}
use Rattle.meaning.specs.Judged.{marked, TrueAt, trace_of}
use Rattle.verdict.specs.Labels.{label_of}
use Rattle.meaning_laws.specs.Facts.{Facts, Laid, Refers}
use Rattle.meaning_laws.specs.EndlessTimes.{to, moment, there, ever_since}
use Rattle.meaning_laws.specs.Counting.{Decided, gets_decided}
use Rattle.meaning_laws.specs.Below.{RightBelow, SaysBelow, says_below, until_labels}

-- ---- the endless loop comes again and again

-- from some moment on, the run is where it was a round before
record Recurs (x : Items) : Type 0 where
  pub moment : Moment
  pub round : ℕ
  pub long : 1 ≤ round
  pub same : (j : ℕ) → moment ≤ j → here (spot x.places (j + round)) ≡ here (spot x.places j)

comes_again : (x : Items) → Laid x.places → Closed x → Recurs x
comes_again x laid c =
    record {
      moment = (to x laid c).moment;
      round = stretch (mark_at x.places c.first);
      long = laid.long c.first;
      same = λ j h.
          let (r, o, l, w) = ever_since x laid c j h in
          let v : j + stretch (mark_at x.places c.first) ≡ moment x laid c (suc r) o = omega arith in
          ap (λ i. here (spot x.places i)) v ∙ ap here (there x laid c (suc r) o l) ∙ sym (ap here (ap (spot x.places) w ∙ there x laid c r o l));
    }

-- ---- sentences

bool_decided : (t : Bool) → Decided (t ≡ true)
bool_decided true = inl refl
bool_decided false = inr false≢true

iff_decided : {A B : Type 0} → A ↔ B → Decided A → Decided B
iff_decided h (inl a) = inl (h.0 a)
iff_decided h (inr n) = inr (λ b. n (h.1 b))

module _ (x : Items) (facts : Facts x) (c : Closed x) (θ : Valuation) (i : ℕ) (right : RightBelow x θ i) where
  below_decided : (j : ℕ) → j < i → (m : Moment) → Decided (SaysBelow x θ i j m)
  below_decided j h m = rw (says_below x θ i j h m) (iff_decided (right j h m) (bool_decided (marked x j (here (spot x.places m)))))

  says_decided : (s : Form) → Refers i s → (m : Moment) → Decided (Says x.guards (trace_of x θ) (SaysBelow x θ i) s m)
  says_decided form.True r m = inl tt
  says_decided (form.Proposition p) r m = bool_decided (bit ((trace_of x θ).propositions m) p)
  says_decided (form.Guard g) r m = ⊎_elim inl (λ w. inr (λ h. omega (arith, le_out h, w)))
      (le_or (guard_at x.guards g).bound (sum (guard_at x.guards g).coefficients.at ((trace_of x θ).counters m)))
  says_decided (form.And a b) r m = ⊎_elim
      (λ p. ⊎_elim (λ q. inl (p, q)) (λ n. inr (λ h. n h.1)) (below_decided b r.1 m))
      (λ n. inr (λ h. n h.0))
      (below_decided a r.0 m)
  says_decided (form.Not a) r m = ⊎_elim (λ p. inr (λ n. n p)) inl (below_decided a r m)
  says_decided (form.Next a) r m = below_decided a r (suc m)
  says_decided (form.Until a b z t u) r m = let e = comes_again x facts.resolved.laid c in
      iff_decided (Iff.symm (until_labels x θ i a b z t u r right m))
      (gets_decided (λ k. label_of (marked x) a b t u (here (spot x.places k))) e.moment e.round e.long (λ j h. ap (label_of (marked x) a b t u) (e.same j h)) z m)

pub decided : (x : Items) → Facts x → Closed x → (θ : Valuation) (i : ℕ) → i < length x.sentences
    → ((j : ℕ) → j < i → (m : Moment) → (marked x j (here (spot x.places m)) ≡ true) ↔ TrueAt x θ j m)
    → (m : Moment) → TrueAt x θ i m ⊎ (TrueAt x θ i m → ⊥)
decided x facts c θ i h right m = says_decided x facts c θ i right (get_or x.sentences i (no_item kind.Sentence)).form (facts.refers i h) m
