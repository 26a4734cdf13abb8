-- Demand 2 in its own words, with the paper's run (003, section 2). A case is accepted exactly where this holds (meaning_laws/specs/Theorems.antt).
use Rattle.std.specs.Prelude.{◌≡◌, ◌↔◌, List, ◌∷◌, true, ℕ, suc, ◌<◌, ◌+ℤ◌, length}
use Rattle.laws.specs.All.{All}
use Rattle.counters.specs.Sum.{Valuation}
use Rattle.items.specs.declared.Guard.{Guard}
use Rattle.items.specs.declared.Move.{Move}
use Rattle.items.specs.Lists.{Items}
use Rattle.meaning.specs.Run.{Moment, here, spot, way_taken, move_by, update, counters_at, guards_of, Meets}
use Rattle.meaning.specs.Judged.{ways_of, Connects, state_at, marked, root, TrueAt}

-- a is item n of the list
pub data IsItem {A : Type 0} : List A → ℕ → A → Type 0 where
  top : {a : A} {l : List A} → IsItem (a ∷ l) 0 a
  below : {a b : A} {l : List A} {n : ℕ} → IsItem l n a → IsItem (b ∷ l) (suc n) a

-- guard number g is one of the system's, and it is met
pub record IsMet (x : Items) (θ : Valuation) (g : ℕ) : Type 0 where
  pub guard : Guard
  pub there : IsItem x.guards g guard
  pub met : Meets guard θ

-- t is one of the system's moves (transitions), and leads from configuration (p, θ) to configuration (q, η): from the one state to the other,
-- its update added, its guards met after
pub record Fires (x : Items) (t : Move) (p : ℕ) (θ : Valuation) (q : ℕ) (η : Valuation) : Type 0 where
  pub number : ℕ
  pub there : IsItem x.moves number t
  pub leaves : t.from ≡ p
  pub comes : t.to ≡ q
  pub updated : (j : ℕ) → η j ≡ θ j +ℤ update t j
  pub guarded : All (IsMet x η) (guards_of t)

-- a run of the counter system: states and counters at each moment, from state 0 and the initial counters, by the transitions ts
pub record IsRun (x : Items) (start : Valuation) (ts : Moment → Move) (state : Moment → ℕ) (θ : Moment → Valuation) : Type 0 where
  pub begins : state 0 ≡ 0
  pub initial : (j : ℕ) → θ 0 j ≡ start j
  pub states : (m : Moment) → state m < length x.states
  pub fires : (m : Moment) → Fires x (ts m) (state m) (θ m) (state (suc m)) (θ (suc m))

-- the named moves connect and make a run of the counter system, every sentence at every place is marked as it is at every moment of
-- that place, and the last sentence is true at the start
pub record Means (x : Items) (start : Valuation) : Type 0 where
  pub connected : All (Connects x) (ways_of x)
  pub run : IsRun x start (λ m. move_by x (way_taken x.places m)) (λ m. state_at x (here (spot x.places m))) (counters_at x start)
  pub labelled :
      (i p : ℕ) → i < length x.sentences → p < length x.places → (m : Moment) → here (spot x.places m) ≡ p →
      (marked x i p ≡ true) ↔ TrueAt x start i m
  pub holds : TrueAt x start (root x) 0
