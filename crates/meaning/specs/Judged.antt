-- What each answer of a judgement says of a case whose records are all taken, in the order of document 01. Never what a checker works out.
use Rattle.std.specs.Prelude.{◌≡◌, ◌↔◌, ◌⊎◌, List, [], ◌∷◌, ◌++◌, map, Bool, true, false, cond, ℕ, suc, ◌+◌, ◌-◌, ◌<◌, pos, length, get_or, Err, None, Ok, Some}
use Rattle.laws.specs.All.{All, First, from, gather}
use Rattle.kinds.specs.declared.Kind.TheVariants as kind
use Rattle.counters.specs.Sum.{Valuation}
use Rattle.items.specs.declared.LoopMark.{LoopMark}
use Rattle.items.specs.declared.LoopMark.TheVariants as mark
use Rattle.items.specs.declared.Place.{Place}
use Rattle.items.specs.Lists.{Items, no_item}
use Rattle.answers.specs.declared.Rejection.TheVariants.{Unfinished, WrongStart, Unconnected, GuardFails, WrongMark, RootUnmarked}
use Rattle.rules.specs.Rules.{Closed}
use Rattle.rules.specs.Files.{item_count}
use Rattle.meaning.specs.Run.{Moment, Way, here, stretch, spot, way_taken, move_no, move_by, counters_at, place_at, guard_at, guards_of, Meets}
use Rattle.meaning.specs.Truth.{Trace, bit, True}
use Rattle.items.specs.Items.{Ref}
use Rattle.answers.specs.Answers.{Judgement}

-- ---- the case

-- the counters at the start of a run of the case: its starting weights, and 0 where it has none
unfoldable pub start_of : Items → Valuation
start_of x j = get_or (get_or x.weights 0 (no_item kind.Weights)).at j (pos 0)

-- 24 doesn't apply: there is a sentence, and the endless loop has closed
abbrev pub Finished : Items → Type 0
Finished x = (0 < length x.sentences) × Closed x

-- the state of place p
abbrev pub state_at : Items → ℕ → ℕ
state_at x p = (place_at x.places p).state

-- ---- the ways of a plan, and where they connect

-- the way by the move into place p, where it names one
abbrev pub way_in : ℕ → Ref → List Way
way_in p None = []
way_in p (Some t) = record { place = p; back = false } ∷ []

-- the way by the back move of the loop that place p begins
abbrev pub way_back : ℕ → LoopMark → List Way
way_back p mark.None = []
way_back p (mark.Counted l n b) = record { place = p; back = true } ∷ []
way_back p (mark.Endless l b) = record { place = p; back = true } ∷ []

-- the ways into a place: the way in before the back move
abbrev pub ways_into : List Place → ℕ → List Way
ways_into ps p = way_in p (place_at ps p).way ++ way_back p (place_at ps p).mark

-- all ways of a plan, by place
abbrev pub ways_of : Items → List Way
ways_of x = gather (ways_into x.places) (from 0 (length x.places))

-- the place that a way comes from: the place before, or for a back move the last place of the loop
abbrev pub place_before : List Place → Way → ℕ
place_before ps w = cond w.back (w.place + stretch (place_at ps w.place).mark - 1) (w.place - 1)

-- the move of a way leads from the place before to this place
pub record Connects (x : Items) (w : Way) : Type 0 where
  pub leaves : (move_by x w).from ≡ state_at x (place_before x.places w)
  pub comes : (move_by x w).to ≡ state_at x w.place

-- ---- guards

-- a guard on a way
pub record Test : Type 0 where
  pub way : Way
  pub guard : ℕ

-- the guards of all ways: by place, way in before back move, field 7 before 8
abbrev pub tests_of : Items → List Test
tests_of x = gather (λ w. map (λ g. record { way = w; guard = g }) (guards_of (move_by x w))) (ways_of x)

-- ---- marks

-- a sentence at a place
pub record Mark : Type 0 where
  pub sentence : ℕ
  pub place : ℕ

-- all sentences at all places: by sentence, then by place
abbrev pub marks_of : Items → List Mark
marks_of x = gather (λ i. map (λ p. record { sentence = i; place = p }) (from 0 (length x.places))) (from 0 (length x.sentences))

-- sentence i is marked at place p: the marks are the labelling of the path schema
abbrev pub marked : Items → ℕ → ℕ → Bool
marked x i p = bit (place_at x.places p).marks i

-- the root: the last sentence
abbrev pub root : Items → ℕ
root x = length x.sentences - 1

-- ---- the run against the case, from given counters at the start

-- what sentences see of the run
abbrev pub trace_of : Items → Valuation → Trace
trace_of x θ =
    record {
      propositions = λ m. (get_or x.states (state_at x (here (spot x.places m))) (no_item kind.State)).propositions;
      counters = counters_at x θ;
    }

-- sentence i is true at moment m of the run
abbrev pub TrueAt : Items → Valuation → ℕ → Moment → Type 0
TrueAt x θ i m = True x.guards x.sentences (trace_of x θ) i m

-- the guard is met at moment m + 1
abbrev pub MetAfter : Items → Valuation → ℕ → Moment → Type 0
MetAfter x θ g m = Meets (guard_at x.guards g) (counters_at x θ (suc m))

-- the guard holds whenever the way is taken
pub record Passes (x : Items) (θ : Valuation) (t : Test) : Type 0 where
  pub met : (m : Moment) → way_taken x.places m ≡ t.way → MetAfter x θ t.guard m

-- the guard fails at some moment that the way is taken
pub record Fails (x : Items) (θ : Valuation) (t : Test) : Type 0 where
  pub moment : Moment
  pub way : way_taken x.places moment ≡ t.way
  pub unmet : MetAfter x θ t.guard moment → ⊥

-- the mark is as the sentence is, at every moment of the place
pub record Right (x : Items) (θ : Valuation) (k : Mark) : Type 0 where
  pub same : (m : Moment) → here (spot x.places m) ≡ k.place → (marked x k.sentence k.place ≡ true) ↔ TrueAt x θ k.sentence m

-- the sentence is marked and not true, or not marked and true, at some moment of the place
pub record Wrong (x : Items) (θ : Valuation) (k : Mark) : Type 0 where
  pub moment : Moment
  pub there : here (spot x.places moment) ≡ k.place
  pub differs :
      ((marked x k.sentence k.place ≡ true) × (TrueAt x θ k.sentence moment → ⊥))
      ⊎ ((marked x k.sentence k.place ≡ false) × TrueAt x θ k.sentence moment)

-- ---- acceptance, and each refusal

-- neither 24 nor 31 applies
abbrev pub Started : Items → Type 0
Started x = Finished x × (state_at x 0 ≡ 0)

-- nor 32
abbrev pub Connected : Items → Type 0
Connected x = Started x × All (Connects x) (ways_of x)

-- nor 33
abbrev pub Guarded : Items → Valuation → Type 0
Guarded x θ = Connected x × All (Passes x θ) (tests_of x)

-- nor 34
abbrev pub Labelled : Items → Valuation → Type 0
Labelled x θ = Guarded x θ × All (Right x θ) (marks_of x)

-- the case is accepted: none of 24 and 31 to 35 applies
abbrev pub IsAccepted : Items → Valuation → Type 0
IsAccepted x θ = Labelled x θ × (marked x (root x) 0 ≡ true)

-- what an answer says of a case: it is the first that applies
abbrev pub Judged : Items → Valuation → Judgement → Type 0
Judged x θ (Err (Unfinished n)) = (Finished x → ⊥) × (n ≡ item_count x)
Judged x θ (Err WrongStart) = Finished x × (state_at x 0 ≡ 0 → ⊥)
Judged x θ (Err (Unconnected p t)) =
    Started x × ((w : Way) × First (Connects x) (λ v. Connects x v → ⊥) (ways_of x) w × (w.place ≡ p.0) × (move_no x.places w ≡ Some t))
Judged x θ (Err (GuardFails p g)) =
    Connected x × ((t : Test) × First (Passes x θ) (Fails x θ) (tests_of x) t × (t.way.place ≡ p.0) × (t.guard ≡ g))
Judged x θ (Err (WrongMark p i)) =
    Guarded x θ × ((k : Mark) × First (Right x θ) (Wrong x θ) (marks_of x) k × (k.place ≡ p.0) × (k.sentence ≡ i))
Judged x θ (Err (RootUnmarked r)) = Labelled x θ × (marked x (root x) 0 ≡ false) × (r ≡ root x)
Judged x θ (Ok tt) = IsAccepted x θ
