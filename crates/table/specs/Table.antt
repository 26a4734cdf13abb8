-- What each kind of record needs, may have and allows (document 01, "The record"; document 02 for starting weights): one row of rules for each kind and form, field 1 first.
-- Fields past the end of a row are blank.
use Rattle.std.specs.Prelude.{List, [], ◌∷◌, ◌++◌, Bool, true, false, ◌||◌, ℕ, ◌+◌, eqb, replicate, get_or}
use Rattle.laws.specs.Lists.{nth}
use Rattle.laws.specs.Tab.{tab}
use Rattle.record.specs.declared.Record.{Record}
use Rattle.record.specs.Layout.{fields, at}
use Rattle.kinds.specs.declared.Kind.{Kind}
use Rattle.kinds.specs.declared.Kind.TheVariants.{State, Weights, Guard, Move, Sentence, Place}
use Rattle.kinds.specs.Kinds.{counters}
use Rattle.kinds.specs.Contents.{flag_of, natural}
use Rattle.table.specs.declared.Sort.{Sort}
use Rattle.table.specs.declared.Sort.TheVariants.{Marks, Reference}
use Rattle.table.specs.Sorts.{Propositions, Weight, Coefficient, Bound, Update, Form, Proposition, LoopLength, Rounds}
use Rattle.table.specs.declared.Rule.{Rule}
use Rattle.table.specs.declared.Rule.TheVariants as rule
use Rattle.table.specs.declared.Rule.TheVariants.{Needed, Optional}
use Rattle.table.specs.declared.Filled.{Filled}
use Rattle.table.specs.declared.Shape.{Shape}

-- a field that may be blank, but is needed where the test holds
abbrev pub needed_if : Bool → Sort → Rule
needed_if true s = Needed s
needed_if false s = Optional s

-- the fields of an until after its form; x tells which fields are filled, counted from 1
abbrev pub until_parts : (ℕ → Bool) → List Rule
until_parts x =
    Needed (Reference Sentence)
    ∷ Needed (Reference Sentence)
    ∷ Needed Bound
    ∷ needed_if (x 6 || (x 7 || x 8)) Coefficient
    ∷ needed_if (x 5 || (x 7 || x 8)) (Reference Sentence)
    ∷ needed_if (x 8) Coefficient
    ∷ needed_if (x 7) (Reference Sentence)
    ∷ []

-- the fields after the form: of true, a proposition, a guard, and, not, next, until
abbrev pub form_rows : (ℕ → Bool) → List (List Rule)
form_rows x =
    []
    ∷ (Needed Proposition ∷ [])
    ∷ (Needed (Reference Guard) ∷ [])
    ∷ (Needed (Reference Sentence) ∷ Needed (Reference Sentence) ∷ [])
    ∷ (Needed (Reference Sentence) ∷ [])
    ∷ (Needed (Reference Sentence) ∷ [])
    ∷ until_parts x
    ∷ []

-- the fields after form f; none for a form that is not there
abbrev pub parts_of : ℕ → (ℕ → Bool) → List Rule
parts_of f x = get_or (form_rows x) f []

-- a state: its propositions
abbrev pub state_row : List Rule
state_row = Needed Propositions ∷ []

-- starting weights, with n counters: one for each
abbrev pub weights_row : ℕ → List Rule
weights_row n = replicate n (Needed Weight)

-- a guard, with n counters: a coefficient for each, then the bound
abbrev pub guard_row : ℕ → List Rule
guard_row n = replicate n (Needed Coefficient) ++ (Needed Bound ∷ [])

-- a move, with n counters: from and to, an update for each, two guards, the second only with the first
abbrev pub move_row : ℕ → (ℕ → Bool) → List Rule
move_row n x =
    let guards = needed_if (x (n + 4)) (Reference Guard) ∷ Optional (Reference Guard) ∷ [] in
    Needed (Reference State) ∷ Needed (Reference State) ∷ (replicate n (Needed Update) ++ guards)

-- a sentence: its form, then what the form asks for
abbrev pub sentence_row : ℕ → (ℕ → Bool) → List Rule
sentence_row f x = Needed Form ∷ parts_of f x

-- a place: its state, the move into it, its marks; then length, rounds and back move of a loop mark
abbrev pub place_row : (ℕ → Bool) → List Rule
place_row x =
    Needed (Reference State)
    ∷ Optional (Reference Move)
    ∷ Needed Marks
    ∷ needed_if (x 5 || x 6) LoopLength
    ∷ Optional Rounds
    ∷ needed_if (x 4) (Reference Move)
    ∷ []

-- the row of a kind and a form
abbrev pub rules_of : ℕ → Kind → ℕ → (ℕ → Bool) → List Rule
rules_of n State f x = state_row
rules_of n Weights f x = weights_row n
rules_of n Guard f x = guard_row n
rules_of n Move f x = move_row n x
rules_of n Sentence f x = sentence_row f x
rules_of n Place f x = place_row x

-- what decides the rules of a record: its kind, its form and which fields are filled
unfoldable pub shape_of : Kind → Record → Shape
shape_of k r =
    record {
      kind = k;
      form = natural (at r.fields 1);
      filled = record { at = tab fields 1 (λ (i : ℕ). flag_of (at r.fields i)) };
    }

-- field n is filled, counted from 1
abbrev pub in_filled : Filled → ℕ → Bool
in_filled x n = eqb (nth x.at n 0) 1

-- the rule of field f, counted from 1
unfoldable pub rule_at : Shape → ℕ → Rule
rule_at s f = nth (rules_of counters s.kind s.form (in_filled s.filled)) f rule.Blank
