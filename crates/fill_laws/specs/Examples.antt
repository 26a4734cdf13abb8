-- Worked examples of filling. Assumes nothing.
use Rattle.std.specs.Prelude.{◌≡◌, refl, [], ◌∷◌, ℕ, pos, get_or, None, Some}
use Rattle.laws.specs.All.{from}
use Rattle.kinds.specs.declared.Kind.TheVariants as kind
use Rattle.counters.specs.Sum.{sum}
use Rattle.items.specs.declared.Form.{Form}
use Rattle.items.specs.declared.Form.TheVariants as form
use Rattle.items.specs.declared.LoopMark.{LoopMark}
use Rattle.items.specs.declared.LoopMark.TheVariants as mark
use Rattle.items.specs.declared.Move.{Move}
use Rattle.items.specs.declared.Place.{Place}
use Rattle.items.specs.declared.Sentence.{Sentence}
use Rattle.items.specs.declared.State.{State}
use Rattle.items.specs.Lists.{Items, no_item}
use Rattle.meaning.specs.Run.{move_at}
use Rattle.meaning.specs.Drift.{once_around, drift}
use Rattle.meaning.specs.Truth.{bit}
use Rattle.meaning.specs.Judged.{start_of}
use Rattle.meaning.specs.Marking.{with_marks, marked_from}
use Rattle.verdict.specs.Labels.{gain_of}
use Rattle.verdict.specs.Rounds.{first_of, through}
use Rattle.verdict.specs.Forward.{base}
use Rattle.verdict.specs.Best.{greater, step, chain, whole_sum, power, limit, front}
use Rattle.verdict.specs.Verdict.{first_not, form_through}
use Rattle.verdict.specs.Fill.{given, changes, fill_from, filled_of}
use Rattle.items.specs.Items.{Ref}

-- a state, a move that adds nothing, a sentence, and a place
abbrev state : ℕ → State
state s = record { propositions = s }

abbrev move : ℕ → ℕ → Move
move a b = record { from = a; to = b; updates = (no_item kind.Move).updates; guard1 = None; guard2 = None }

abbrev sentence : Form → Sentence
sentence φ = record { form = φ }

abbrev place : ℕ → Ref → ℕ → LoopMark → Place
place s w m l = record { state = s; way = w; marks = m; mark = l }

-- document 01's sum: one place with proposition 0 in a loop of n rounds, then one with 0 and 1, then one with neither for ever; true until proposition 1,
-- proposition 0 counted once, bound 5
abbrev sums : ℕ → (ℕ → ℕ) → Items
sums n μ =
    record {
      states = state 1 ∷ state 3 ∷ state 0 ∷ [];
      weights = [];
      guards = [];
      moves = move 0 0 ∷ move 0 1 ∷ move 1 2 ∷ move 2 2 ∷ [];
      sentences =
          sentence form.True ∷ sentence (form.Proposition 1) ∷ sentence (form.Proposition 0) ∷ sentence (form.Until 0 1 (pos 5) (Some (record { coefficient = (pos 1); sentence = 2 })) None) ∷ [];
      places = place 0 None (μ 0) (mark.Counted 1 n 0) ∷ place 1 (Some 1) (μ 1) mark.None ∷ place 2 (Some 2) (μ 2) (mark.Endless 1 3) ∷ [];
    }

-- from its start with n rounds, whatever marks were there: with four it is false everywhere; with five, or a million, it changes in the first place
pub sums_filled : (μ : ℕ → ℕ) →
    (filled_of (sums 4 μ) (start_of (sums 4 μ)) ≡ given (with_marks (sums 4 μ) (λ p. get_or (5 ∷ 7 ∷ 1 ∷ []) p 0)))
    × (filled_of (sums 5 μ) (start_of (sums 5 μ)) ≡ changes (record { sentence = 3; place = 0 }))
    × (filled_of (sums 1000000 μ) (start_of (sums 1000000 μ)) ≡ changes (record { sentence = 3; place = 0 }))
unfolding from start_of move_at sum bit gain_of first_of through once_around drift base greater step chain whole_sum power limit front form_through first_not marked_from fill_from filled_of
sums_filled μ = (refl, refl, refl)
