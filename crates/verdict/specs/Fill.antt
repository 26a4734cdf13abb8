-- The marks filled in, as a computation: sentence by sentence, each from the marks of those below it. It never looks at the marks that a case has.
use Rattle.std.specs.Prelude.{List, map, Bool, true, false, cond, ℕ, zero, suc, ◌+◌, ◌^◌, length, get_or}
use Rattle.laws.specs.All.{from}
use Rattle.kinds.specs.declared.Kind.TheVariants as kind
use Rattle.counters.specs.Sum.{Valuation}
use Rattle.items.specs.Lists.{Items, no_item}
use Rattle.meaning.specs.Run.{place_at}
use Rattle.meaning.specs.Judged.{Mark}
use Rattle.meaning.specs.Marking.{with_marks}
use Rattle.verdict.specs.declared.Throughout.{Throughout}
use Rattle.verdict.specs.declared.Throughout.TheVariants.{Always, Never, Changes}
use Rattle.verdict.specs.Verdict.{nowhere, at, first_not, form_through, is_always}

-- what a sentence is over the rounds of a place, by the marks of the sentences below
abbrev pub mark_through : Items → Valuation → Mark → Throughout
mark_through x θ k = form_through x θ (get_or x.sentences k.sentence (no_item kind.Sentence)).form k.place

-- the same in all rounds
abbrev pub is_steady : Throughout → Bool
is_steady Always = true
is_steady Never = true
is_steady Changes = false

-- sentence i at all places
abbrev pub row_at : Items → ℕ → List Mark
row_at x i = map (λ p. record { sentence = i; place = p }) (from 0 (length x.places))

-- the marks of place p with bit i set besides, where sentence i is true throughout the place
abbrev pub marks_with : Items → Valuation → ℕ → ℕ → ℕ
marks_with x θ i p = (place_at x.places p).marks + cond (is_always (mark_through x θ (record { sentence = i; place = p }))) (2 ^ i) 0

-- what filling gives: the case with its marks, or a sentence that changes at a place
pub data Marking : Type 0 where
  given : Items → Marking
  changes : Mark → Marking

-- the n sentences from i on, where those below are marked and the others aren't
unfoldable pub fill_from : Items → Valuation → ℕ → ℕ → Marking
fill_from x θ i zero = given x
fill_from x θ i (suc n) =
    elim (first_not (λ k. is_steady (mark_through x θ k)) (row_at x i)) [
      | nowhere ↦ fill_from (with_marks x (marks_with x θ i)) θ (suc i) n
      | at k ↦ changes k
    ]

-- the case with its marks filled in: all sentences, where none is marked
unfoldable pub filled_of : Items → Valuation → Marking
filled_of x θ = fill_from (with_marks x (λ p. 0)) θ 0 (length x.sentences)
