-- The row of a sentence, by its form; the first place at which it is marked wrongly, and what a search for a wrong mark found, as the code tells it.
use Rattle.std.specs.Prelude.{Bool, true, false, cond, not, ◌&&◌, ℕ, zero, suc, ◌-◌, length, get_or, None, Option, Some}
use Rattle.kinds.specs.declared.Kind.TheVariants as kind
use Rattle.items.specs.declared.Form.{Form}
use Rattle.items.specs.declared.Form.TheVariants as form
use Rattle.items.specs.Lists.{Items, no_item}
use Rattle.meaning.specs.Truth.{bit}
use Rattle.meaning.specs.Run.{place_at}
use Rattle.meaning.specs.Judged.{start_of, state_at, Mark}
use Rattle.verdict.specs.declared.Throughout.{Throughout}
use Rattle.verdict.specs.Rounds.{flag}
use Rattle.verdict.specs.Verdict.{Found, nowhere, at, form_through, mark_right}
use Rattle.rounds.specs.declared.Row.{Row}
use Rattle.rounds.specs.Rows.{row_of, first_off}
use Rattle.marks.specs.declared.Off.{Off}
use Rattle.guards.specs.GuardSums.{Search}

-- the form of sentence i
abbrev pub form_at : Items → ℕ → Form
form_at x i = (get_or x.sentences i (no_item kind.Sentence)).form

-- the row of sentence i, by the marks of the sentences below
abbrev pub sentence_row : Items → ℕ → Row
sentence_row x i = row_of x i (form_through x (start_of x) (form_at x i))

-- the first place at which it is marked wrongly
abbrev pub wrong_of : Items → ℕ → ℕ
wrong_of x i = first_off (λ p. mark_right x (start_of x) (record { sentence = i; place = p })) 0 (length x.places)

-- ---- the first sentence that is off

-- of d sentences from number i on
unfoldable pub first_off_of : Items → ℕ → ℕ → Option Off
first_off_of x i zero = None
first_off_of x i (suc d) = cond (sentence_row x i).off (Some (record { sentence = i; row = sentence_row x i })) (first_off_of x (suc i) d)

-- of all from number i on
abbrev pub first_off_from : Items → ℕ → Option Off
first_off_from x i = first_off_of x i (length x.sentences - i)

-- ---- by form

-- a sentence that is the same in every round, at a place with these propositions and marks; false of the other forms
abbrev pub same_always : Form → ℕ → ℕ → Bool
same_always form.True s m = true
same_always (form.Proposition v) s m = bit s v
same_always (form.Guard g) s m = false
same_always (form.And a b) s m = bit m a && bit m b
same_always (form.Not a) s m = not (bit m a)
same_always (form.Next a) s m = false
same_always (form.Until a b z t u) s m = false

-- and over the rounds of place p
abbrev pub simple_through : Items → Form → ℕ → Throughout
simple_through x φ p = flag (same_always φ (get_or x.states (state_at x p) (no_item kind.State)).propositions (place_at x.places p).marks)

-- ---- what a search for a wrong mark found

-- a sentence at a place
abbrev pub told_mark : Found Mark → Search
told_mark nowhere = None
told_mark (at k) = Some ((record { 0 = k.place }), k.sentence)
