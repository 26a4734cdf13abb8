-- Two cases, each from a start of its own. Where each sentence of the one has the form of its like in the other, of parts that are alike and a guard that is met
-- alike, it is true where its like is. Where the marks are alike too, and ways and tests of the one have theirs in the other, it is accepted where the other is.
-- Assumes nothing.
use Rattle.std.specs.Prelude.{◌≡◌, refl, ◌↔◌, List, [], ◌∷◌, ◌++◌, true, ℕ, zero, suc, ◌+◌, ◌≤◌, ◌<◌, ℤ, length, get_or, None, Option, Some}
use Rattle.std.proofs.Common.{sym, ◌∙◌, ap, subst, inl, inr, ⊎_elim, arith, ne_eqb}
use Rattle.std.proofs.Math.Logic.Iff
use Rattle.std.proofs.Math.Decide.{dec_lt}
use Rattle.laws.specs.All.{All}
use Rattle.laws.specs.Members.{Has, all_has, has_all}
use Rattle.kinds.specs.declared.Kind.TheVariants as kind
use Rattle.counters.specs.Sum.{Valuation}
use Rattle.items.specs.declared.Term.{Term}
use Rattle.items.specs.declared.Form.{Form}
use Rattle.items.specs.declared.Form.TheVariants as form
use Rattle.items.specs.Lists.{Items, no_item}
use Rattle.meaning.specs.Run.{Moment, Way, here, spot, way_taken, move_by, counters_at, guard_at, guards_of, Meets}
use Rattle.meaning.specs.Truth.{Counted, Adds, Sum, Until, counted_terms, Says, TrueBelow, bit}
use Rattle.meaning.specs.Judged.{Finished, state_at, ways_of, Connects, tests_of, MetAfter, Passes, marked, Right, root, trace_of, TrueAt, IsAccepted}
use Rattle.meaning_laws.specs.Facts.{Resolved}
use Rattle.meaning_laws.specs.Lists.{all_grid, all_tests}
use Rattle.meaning_laws.specs.Stays.{in_plan, way_there}
use Rattle.meaning_laws.specs.Below.{SaysBelow, says_below}

-- ---- forms that say the same

-- two terms, of sentences that are alike
pub data SameTerm (Like : ℕ → ℕ → Type 0) : Option Term → Option Term → Type 0 where
  none : SameTerm Like None None
  some : {z : ℤ} {a b : ℕ} → Like a b → SameTerm Like (Some (record { coefficient = z; sentence = a })) (Some (record { coefficient = z; sentence = b }))

-- two forms, of sentences that are alike and guards that are met alike
pub data SameForm (Like Met : ℕ → ℕ → Type 0) : Form → Form → Type 0 where
  always : SameForm Like Met form.True form.True
  proposition : {p : ℕ} → SameForm Like Met (form.Proposition p) (form.Proposition p)
  guard : {g h : ℕ} → Met g h → SameForm Like Met (form.Guard g) (form.Guard h)
  and : {a b c d : ℕ} → Like a c → Like b d → SameForm Like Met (form.And a b) (form.And c d)
  not : {a b : ℕ} → Like a b → SameForm Like Met (form.Not a) (form.Not b)
  next : {a b : ℕ} → Like a b → SameForm Like Met (form.Next a) (form.Next b)
  until : {a b c d : ℕ} {z : ℤ} {t u v w : Option Term} → Like a c → Like b d → SameTerm Like t v → SameTerm Like u w →
      SameForm Like Met (form.Until a b z t u) (form.Until c d z v w)

module _ {Like Like' : ℕ → ℕ → Type 0} (back : (a b : ℕ) → Like a b → Like' b a) where
  term_back : {t u : Option Term} → SameTerm Like t u → SameTerm Like' u t
  term_back none = none
  term_back (some {a = a} {b = b} l) = some (back a b l)

  -- the other way round
  pub form_back : {Met Met' : ℕ → ℕ → Type 0} → ((g h : ℕ) → Met g h → Met' h g) → {φ ψ : Form} → SameForm Like Met φ ψ → SameForm Like' Met' ψ φ
  form_back f always = always
  form_back f proposition = proposition
  form_back f (guard {g} {h} m) = guard (f g h m)
  form_back f (and {a} {b} {c} {d} k l) = and (back a c k) (back b d l)
  form_back f (not {a} {b} l) = not (back a b l)
  form_back f (next {a} {b} l) = next (back a b l)
  form_back f (until {a} {b} {c} {d} k l t u) = until (back a c k) (back b d l) (term_back t) (term_back u)

-- a form says the same as itself, each sentence being its own like, where its guard is met alike
pub form_self : {Met : ℕ → ℕ → Type 0} (φ : Form) → ((g : ℕ) → φ ≡ form.Guard g → Met g g) → SameForm (λ a b. a ≡ b) Met φ φ
form_self form.True f = always
form_self (form.Proposition p) f = proposition
form_self (form.Guard g) f = guard (f g refl)
form_self (form.And a b) f = and refl refl
form_self (form.Not a) f = not refl
form_self (form.Next a) f = next refl
form_self (form.Until a b z t u) f = until refl refl (self t) (self u)
  where
    self : (t : Option Term) → SameTerm (λ a b. a ≡ b) t t
    self None = none
    self (Some c) = some refl

-- ---- until, over predicates that are true together

-- two rows of terms that count together
data SameCounts : List Counted → List Counted → Type 1 where
  nil : SameCounts [] []
  cons : {z : ℤ} {P Q : Moment → Type 0} {ts us : List Counted} → ((m : Moment) → P m ↔ Q m) → SameCounts ts us →
      SameCounts (record { coefficient = z; Counts = P } ∷ ts) (record { coefficient = z; Counts = Q } ∷ us)

counts_back : {ts us : List Counted} → SameCounts ts us → SameCounts us ts
counts_back nil = nil
counts_back (cons e s) = cons (λ m. Iff.symm (e m)) (counts_back s)

adds_same : {ts us : List Counted} → SameCounts ts us → (i : Moment) (z : ℤ) → Adds ts i z → Adds us i z
unfolding Adds
adds_same nil i z h = h
adds_same (cons e s) i z (y, a, c) =
    (y, adds_same s i y a, ⊎_elim (λ (p, d). inl ((e i).0 p, d)) (λ (n, d). inr (λ q. n ((e i).1 q), d)) c)

sum_same : {ts us : List Counted} → SameCounts ts us → (i : Moment) (n : ℕ) (z : ℤ) → Sum ts i n z → Sum us i n z
unfolding Sum
sum_same s i zero z h = h
sum_same s i (suc n) z (x, y, a, b, e) = (x, y, adds_same s i x a, sum_same s (suc i) n y b, e)

until_same : {H G K L : Moment → Type 0} {z : ℤ} {ts us : List Counted} → ((m : Moment) → H m ↔ K m) → ((m : Moment) → G m ↔ L m) → SameCounts ts us →
    (i : Moment) → Until H G z ts i → Until K L z us i
until_same h g s i u =
    record {
      n = u.n;
      goal = (g (i + u.n)).0 u.goal;
      held = λ j l. (h (i + j)).0 (u.held j l);
      total = u.total;
      summed = sum_same s i u.n u.total u.summed;
      enough = u.enough;
    }

-- ---- truth

-- the form of sentence i
abbrev pub form_at : Items → ℕ → Form
form_at x i = (get_or x.sentences i (no_item kind.Sentence)).form

-- guard g of the one case is met at every moment of its run where guard h of the other is at that moment of its own
abbrev pub MetAlike : Items → Valuation → Items → Valuation → ℕ → ℕ → Type 0
MetAlike x θ y η g h = (m : Moment) → Meets (guard_at x.guards g) (counters_at x θ m) ↔ Meets (guard_at y.guards h) (counters_at y η m)

-- sentences that are alike say the same: the runs show the same propositions, sentences that are alike stand in one order, and have forms that say the same
pub record SaySame (x : Items) (θ : Valuation) (y : Items) (η : Valuation) (Like : ℕ → ℕ → Type 0) : Type 0 where
  pub propositions : (m : Moment) → (trace_of y η).propositions m ≡ (trace_of x θ).propositions m
  pub order : (a b i j : ℕ) → Like a b → Like i j → a < i ↔ b < j
  pub forms : (i j : ℕ) → Like i j → SameForm Like (MetAlike x θ y η) (form_at x i) (form_at y j)

-- no sentence from n on is below n
not_below : (x : Items) (θ : Valuation) (n a : ℕ) (m : Moment) → n ≤ a → SaysBelow x θ n a m → ⊥
unfolding TrueBelow
not_below x θ zero a m h b = b
not_below x θ (suc n) a m h b = not_below x θ n a m (omega arith) (rw (ne_eqb a n (λ e. omega arith)) at b)

module _ {x y : Items} {θ η : Valuation} {Like : ℕ → ℕ → Type 0} (e : SaySame x θ y η Like) where
  -- what two forms say, where T and U tell the truth of sentences that are alike together
  says_same : (T U : ℕ → Moment → Type 0) → ((a b : ℕ) → Like a b → (m : Moment) → T a m ↔ U b m) → {φ ψ : Form} → SameForm Like (MetAlike x θ y η) φ ψ →
      (m : Moment) → Says x.guards (trace_of x θ) T φ m ↔ Says y.guards (trace_of y η) U ψ m
  says_same T U f always m = (λ h. h, λ h. h)
  says_same T U f (proposition {p}) m = let d = e.propositions m in (λ h. ap (λ z. bit z p) d ∙ h, λ h. ap (λ z. bit z p) (sym d) ∙ h)
  says_same T U f (guard k) m = k m
  says_same T U f (and {a} {b} {c} {d} k l) m = (λ (p, q). ((f a c k m).0 p, (f b d l m).0 q), λ (p, q). ((f a c k m).1 p, (f b d l m).1 q))
  says_same T U f (not {a} {b} l) m = (λ n p. n ((f a b l m).1 p), λ n p. n ((f a b l m).0 p))
  says_same T U f (next {a} {b} l) m = f a b l (suc m)
  says_same T U f (until {a} {b} {c} {d} k l t u) m =
      let s = terms t u in
      (until_same (f a c k) (f b d l) s m, until_same (λ m. Iff.symm (f a c k m)) (λ m. Iff.symm (f b d l m)) (counts_back s) m)
    where
      terms : {t u v w : Option Term} → SameTerm Like t v → SameTerm Like u w → SameCounts (counted_terms T t ++ counted_terms T u) (counted_terms U v ++ counted_terms U w)
      terms none none = nil
      terms none (some {a = a} {b = b} k) = cons (f a b k) nil
      terms (some {a = a} {b = b} k) none = cons (f a b k) nil
      terms (some {a = a} {b = b} k) (some {a = c} {b = d} l) = cons (f a b k) (cons (f c d l) nil)

  -- the truth of the sentences below two that are alike, where that of those below the first is known
  parts : (i j : ℕ) → Like i j → ((a b : ℕ) → a < i → Like a b → (k : Moment) → TrueAt x θ a k ↔ TrueAt y η b k) →
      (a b : ℕ) → Like a b → (k : Moment) → SaysBelow x θ i a k ↔ SaysBelow y η j b k
  parts i j l f a b u k =
      let o = e.order a b i j u l in
      elim (dec_lt a i) [
        | yes v ↦ rw (says_below x θ i a v k, says_below y η j b (o.0 v) k) (f a b v u k)
        | no v ↦ (
          λ p. absurd (not_below x θ i a k (omega arith) p),
          λ p. elim (dec_lt b j) [ yes w ↦ absurd (v (o.1 w)) | no w ↦ absurd (not_below y η j b k (omega arith) p) ],
        )
      ]

  true_below : (n i j : ℕ) → i < n → Like i j → (m : Moment) → TrueAt x θ i m ↔ TrueAt y η j m
  true_below zero i j h l m = absurd (omega arith)
  true_below (suc n) i j h l m =
      says_same (SaysBelow x θ i) (SaysBelow y η j) (parts i j l (λ a b v u. true_below n a b (omega arith) u)) (e.forms i j l) m

  -- a sentence is true at every moment where its like is
  pub true_alike : (i j : ℕ) → Like i j → (m : Moment) → TrueAt x θ i m ↔ TrueAt y η j m
  true_alike i j = true_below (suc i) i j (omega arith)

  pub say_back : SaySame y η x θ (λ j i. Like i j)
  say_back =
      record {
        propositions = λ m. sym (e.propositions m);
        order = λ a b i j k l. Iff.symm (e.order b a j i k l);
        forms = λ i j l. form_back {Like = Like} {Like' = λ b a. Like a b} (λ a b k. k) (λ g h k m. Iff.symm (k m)) (e.forms j i l);
      }

-- ---- acceptance

-- what the two have alike: sentences, their marks where the runs are, and the root
pub record Alike (x : Items) (θ : Valuation) (y : Items) (η : Valuation) (Like : ℕ → ℕ → Type 0) : Type 0 where
  pub sentences : SaySame x θ y η Like
  pub marks : (i j : ℕ) → Like i j → (m : Moment) → marked y j (here (spot y.places m)) ≡ marked x i (here (spot x.places m))
  pub roots : Like (root x) (root y)

pub alike_back : {x y : Items} {θ η : Valuation} {Like : ℕ → ℕ → Type 0} → Alike x θ y η Like → Alike y η x θ (λ j i. Like i j)
alike_back a = record { sentences = say_back a.sentences; marks = λ i j l m. sym (a.marks j i l m); roots = a.roots }

-- each way of the case, each guard that its run is tested by, and each sentence has one in the other case: it connects, is met or is true where that one does
pub record Follows (x : Items) (θ : Valuation) (y : Items) (η : Valuation) (Like : ℕ → ℕ → Type 0) : Type 0 where
  pub finished : Finished x → Finished y
  pub start : state_at x 0 ≡ 0 → state_at y 0 ≡ 0
  pub ways : (w : Way) → Has (ways_of y) w → (v : Way) × Has (ways_of x) v × (Connects x v → Connects y w)
  pub tests : (m : Moment) (h : ℕ) → Has (guards_of (move_by y (way_taken y.places m))) h →
      (g : ℕ) × Has (guards_of (move_by x (way_taken x.places m))) g × (MetAfter x θ g m → MetAfter y η h m)
  pub each : (j : ℕ) → j < length y.sentences → (i : ℕ) × (i < length x.sentences) × Like i j

-- then it is accepted where the other is
pub accepted_after : {x y : Items} {θ η : Valuation} {Like : ℕ → ℕ → Type 0} → Resolved x → Alike x θ y η Like → Follows x θ y η Like →
    IsAccepted x θ → IsAccepted y η
unfolding spot
accepted_after {x} {y} {θ} {η} {Like} f a c h =
    (((((o, c.start s), connected), guarded), (all_grid (length y.sentences) (length y.places)).1 right), a.marks (root x) (root y) a.roots 0 ∙ h.1)
  where
    s : state_at x 0 ≡ 0
    s = h.0.0.0.0.1

    v : Finished x
    v = h.0.0.0.0.0

    o : Finished y
    o = c.finished v

    connected : All (Connects y) (ways_of y)
    connected = has_all (ways_of y) (λ w i. let (u, j, k) = c.ways w i in k (all_has h.0.0.0.1 j))

    guarded : All (Passes y η) (tests_of y)
    guarded =
        (all_tests y).1 (λ w g i j.
        record {
          met = λ m e.
              let (k, l, t) = c.tests m g (subst (λ u. Has (guards_of (move_by y u)) g) (sym e) j) in
              t (((all_tests x).0 h.0.0.1 (way_taken x.places m) k (way_there x f v.1 m).listed l).met m refl);
        })

    right : (j p : ℕ) → j < length y.sentences → p < length y.places → Right y η (record { sentence = j; place = p })
    right j p l q =
        let (i, k, e) = c.each j l in
        record {
          same = λ m d.
              let t = true_alike a.sentences i j e m in
              let r = ((all_grid {P = Right x θ} (length x.sentences) (length x.places)).0 h.0.1 i (here (spot x.places m)) k (in_plan x f.laid v.1 m)).same m refl in
              let w = a.marks i j e m in
              subst (λ z. (marked y j z ≡ true) ↔ TrueAt y η j m) d
              (λ b. t.0 (r.0 (sym w ∙ b)), λ b. w ∙ r.1 (t.1 b));
        }

-- two cases each of which follows the other are accepted together
pub accepted_together : {x y : Items} {θ η : Valuation} {Like : ℕ → ℕ → Type 0} → Resolved x → Resolved y → Alike x θ y η Like →
    Follows x θ y η Like → Follows y η x θ (λ j i. Like i j) → IsAccepted x θ ↔ IsAccepted y η
accepted_together f g a c d = (accepted_after f a c, accepted_after g (alike_back a) d)
