-- What the code reads of a place and of a sentence, for their marks. Assumes nothing.
use Rattle.std.specs.Prelude.{◌≡◌, Bool, cond, ℕ, suc, ◌+◌, ◌<◌, leb, length, get_or}
use Rattle.std.proofs.Common.{sym, ◌∙◌, ap, ap₂, subst, arith}
use Rattle.kinds.specs.declared.Kind.TheVariants as kind
use Rattle.items.specs.declared.State.{State}
use Rattle.items.specs.declared.Form.{Form}
use Rattle.items.specs.declared.Sentence.{Sentence}
use Rattle.items.specs.declared.Place.{Place}
use Rattle.items.specs.Lists.{Items, room_of, no_item}
use Rattle.collector.specs.declared.Case.{Case}
use Rattle.collector.specs.Cases.{items_of}
use Rattle.collector.specs.Sound.{Sound}
use Rattle.rules_laws.specs.Held.{counted}
use Rattle.meaning.specs.Run.{stretch, place_at}
use Rattle.meaning.specs.Truth.{bit}
use Rattle.meaning.specs.Judged.{start_of, state_at, marked}
use Rattle.meaning_laws.specs.Given.{by_end, facts}
use Rattle.verdict.specs.Rounds.{rounds_of, flag}
use Rattle.verdict.specs.Verdict.{next_by, next_through, form_through}
use Rattle.rounds.specs.Rows.{row_of}
use Rattle.tables.specs.declared.Firsts.{Firsts}
use Rattle.tables.specs.Tables.{firsts_of}
use Rattle.tables.specs.Known.{first_is}
use Rattle.tables.specs.Reads.{at_states, at_sentences, at_places}
use Rattle.marks.specs.Wrong.{form_at, sentence_row, same_always, simple_through}
use Rattle.marks.specs.Ranged.{Ranged, ranged}

-- ---- whether the next moment's sentence holds, at place p

module _ {c : Case} (s : Sound c) {f : Firsts} (e : f ≡ firsts_of (items_of c).places) (p : ℕ) (h : p < length (items_of c).places) where
  abbrev x : Items
  x = items_of c

  -- the first place of the stretch of place p, as the table has it, and what stands there
  abbrev q : ℕ
  q = get_or f.at p 0

  abbrev place : Place
  place = get_or c.places q (no_item kind.Place)

  pub next_is : (a : ℕ) {again out : Bool} → again ≡ bit place.marks a → out ≡ marked x a (suc p)
      → cond (leb (q + stretch place.mark) (suc p)) (next_by (rounds_of place.mark) again out) (flag out) ≡ next_through x a p
  next_is a k o =
      rw (k, o)
      (ap₂
      (λ (i : ℕ) (y : Place).
      cond (leb (i + stretch y.mark) (suc p)) (next_by (rounds_of y.mark) (bit y.marks a) (marked x a (suc p))) (flag (marked x a (suc p))))
      (first_is s e p h) (at_places s q ∙ ap (place_at x.places) (first_is s e p h)))

-- ---- the state and the marks of a place

module _ {c : Case} (s : Sound c) (p : ℕ) where
  -- what stands at place p
  abbrev place_here : Place
  place_here = get_or c.places p (no_item kind.Place)

  pub state_within : place_here.state < room_of kind.State
  state_within =
      rw (at_places s p)
      (by_end (λ (y : Place). y.state < room_of kind.State) (items_of c).places (no_item kind.Place) p
      (λ h. omega (arith, (facts c s).resolved.states p h, counted c s kind.State, s.room kind.State)) (omega arith))

  pub simple_is : (φ : Form) →
      flag (same_always φ (get_or c.states place_here.state (no_item kind.State)).propositions place_here.marks) ≡ simple_through (items_of c) φ p
  simple_is φ =
      ap (λ (y : Place). flag (same_always φ (get_or c.states y.state (no_item kind.State)).propositions y.marks)) (at_places s p)
      ∙ ap (λ (z : State). flag (same_always φ z.propositions (place_at (items_of c).places p).marks)) (at_states s (state_at (items_of c) p))

-- ---- the form of a sentence

module _ {c : Case} (s : Sound c) (i : ℕ) {φ : Form} (e : (get_or c.sentences i (no_item kind.Sentence)).form ≡ φ) where
  form_is : form_at (items_of c) i ≡ φ
  form_is = sym (ap (λ (y : Sentence). y.form) (at_sentences s i)) ∙ e

  pub form_ranged : Ranged φ
  form_ranged = subst Ranged form_is (ranged s i)

  pub row_by : row_of (items_of c) i (form_through (items_of c) (start_of (items_of c)) φ) ≡ sentence_row (items_of c) i
  row_by = ap (λ ψ. row_of (items_of c) i (form_through (items_of c) (start_of (items_of c)) ψ)) (sym form_is)

  pub simple_by : simple_through (items_of c) φ ≡ form_through (items_of c) (start_of (items_of c)) φ
      → row_of (items_of c) i (simple_through (items_of c) (get_or c.sentences i (no_item kind.Sentence)).form) ≡ sentence_row (items_of c) i
  simple_by k = ap (λ ψ. row_of (items_of c) i (simple_through (items_of c) ψ)) e ∙ ap (row_of (items_of c) i) k ∙ row_by
