-- The items of a case: what a record's fields become, and the fields of an item again.
use Rattle.std.specs.Prelude.{List, [], ◌∷◌, ◌++◌, map, cond, ℕ, ◌+◌, ◌-◌, ◌%◌, ℤ, pos, negsuc, length, replicate, get_or, None, Option, Some}
use Rattle.std.specs.Int.Signed.{lt_z}
use Rattle.laws.specs.Tab.{tab}
use Rattle.record.specs.declared.Content.{Content}
use Rattle.record.specs.declared.Content.TheVariants.{Blank, Number, Bad}
use Rattle.record.specs.declared.Field.{Field}
use Rattle.record.specs.Layout.{fields, at}
use Rattle.kinds.specs.declared.Kind.{Kind}
use Rattle.kinds.specs.declared.Kind.TheVariants as kind
use Rattle.kinds.specs.declared.PerCounter.{PerCounter}
use Rattle.kinds.specs.Kinds.{counters}
use Rattle.kinds.specs.Contents.{natural}
use Rattle.items.specs.declared.Term.{Term}
use Rattle.items.specs.declared.Form.{Form}
use Rattle.items.specs.declared.Form.TheVariants as form
use Rattle.items.specs.declared.LoopMark.{LoopMark}
use Rattle.items.specs.declared.LoopMark.TheVariants as mark
use Rattle.items.specs.declared.State.{State}
use Rattle.items.specs.declared.Weights.{Weights}
use Rattle.items.specs.declared.Guard.{Guard}
use Rattle.items.specs.declared.Move.{Move}
use Rattle.items.specs.declared.Sentence.{Sentence}
use Rattle.items.specs.declared.Place.{Place}

-- a reference to an item, or none
abbrev pub Ref : Type 0
Ref = Option ℕ

-- the items of a kind
abbrev pub Item : Kind → Type 0
Item kind.State = State
Item kind.Weights = Weights
Item kind.Guard = Guard
Item kind.Move = Move
Item kind.Sentence = Sentence
Item kind.Place = Place

-- ---- from fields to items. Each field is cut to the width at which it is kept; no number in its range is changed by that.

-- the number of a field, cut to 8 bits
abbrev pub byte_of : Content → ℕ
byte_of c = natural c % 256

-- the number of a field, cut to 16 bits
abbrev pub word_of : Content → ℕ
word_of c = natural c % 65536

-- the number of a field, and 0 for any other
abbrev pub integer_of : Content → ℤ
integer_of Blank = pos 0
integer_of (Number z) = z
integer_of (Bad i) = pos 0

-- a number that 16 bits hold, and 0 for any other
abbrev pub short_of : ℤ → ℤ
short_of z = cond (lt_z z (negsuc 32767)) (pos 0) (cond (lt_z (pos 32767) z) (pos 0) z)

-- a number for each counter, from field k on
unfoldable pub per_counter : List Field → ℕ → PerCounter
per_counter r k = record { at = tab counters 0 (λ (j : ℕ). short_of (integer_of (at r (k + j)))) }

-- a reference, none where the field is blank
abbrev pub ref_of : Content → Ref
ref_of Blank = None
ref_of (Number z) = Some (byte_of (Number z))
ref_of (Bad i) = None

-- a term, of its coefficient and its sentence
abbrev pub term_of : Content → Content → Option Term
term_of Blank s = None
term_of (Number z) s = Some (record { coefficient = (short_of z); sentence = (byte_of s) })
term_of (Bad i) s = None

-- a state: its propositions
unfoldable pub state_of : List Field → State
state_of r = record { propositions = word_of (at r 1) }

-- starting weights: one for each counter
unfoldable pub weights_of : List Field → Weights
weights_of r = record { at = tab counters 0 (λ (j : ℕ). integer_of (at r (1 + j))) }

-- a guard: a coefficient for each counter, then the bound
unfoldable pub guard_of : List Field → Guard
guard_of r = record { coefficients = per_counter r 1; bound = integer_of (at r (1 + counters)) }

-- a move: from, to, an update for each counter, two guards
unfoldable pub move_of : List Field → Move
move_of r =
    record {
      from = byte_of (at r 1);
      to = byte_of (at r 2);
      updates = per_counter r 3;
      guard1 = ref_of (at r (3 + counters));
      guard2 = ref_of (at r (4 + counters));
    }

-- the sentences of the forms 0 to 6
abbrev pub forms_of : List Field → List Form
forms_of r =
    form.True
    ∷ form.Proposition (byte_of (at r 2))
    ∷ form.Guard (byte_of (at r 2))
    ∷ form.And (byte_of (at r 2)) (byte_of (at r 3))
    ∷ form.Not (byte_of (at r 2))
    ∷ form.Next (byte_of (at r 2))
    ∷ form.Until (byte_of (at r 2)) (byte_of (at r 3)) (integer_of (at r 4)) (term_of (at r 5) (at r 6)) (term_of (at r 7) (at r 8))
    ∷ []

-- the sentence of form f
unfoldable pub form_of : ℕ → List Field → Form
form_of f r = get_or (forms_of r) f form.True

-- a sentence: its form, and what the form asks for
unfoldable pub sentence_of : List Field → Sentence
sentence_of r = record { form = form_of (natural (at r 1)) r }

-- a loop mark, of its length, its rounds and its back move: none, counted where rounds are given, or endless
unfoldable pub mark_of : Content → Content → Content → LoopMark
mark_of Blank n b = mark.None
mark_of (Number z) Blank b = mark.Endless (byte_of (Number z)) (byte_of b)
mark_of (Number z) (Number n) b = mark.Counted (byte_of (Number z)) (natural (Number n)) (byte_of b)
mark_of (Number z) (Bad i) b = mark.None
mark_of (Bad i) n b = mark.None

-- a place: its state, the move into it, its marks, its loop mark
unfoldable pub place_of : List Field → Place
place_of r =
    record { state = byte_of (at r 1); way = ref_of (at r 2); marks = natural (at r 3); mark = mark_of (at r 4) (at r 5) (at r 6) }

-- the item that a record of this kind becomes
abbrev pub item_of : (k : Kind) → List Field → Item k
item_of kind.State r = state_of r
item_of kind.Weights r = weights_of r
item_of kind.Guard r = guard_of r
item_of kind.Move r = move_of r
item_of kind.Sentence r = sentence_of r
item_of kind.Place r = place_of r

-- ---- from items to fields

-- a field with the number z
abbrev pub integer : ℤ → Field
integer z = record { content = Number z }

-- a field with the number n
abbrev pub number : ℕ → Field
number n = integer (pos n)

-- a blank field
abbrev pub blank : Field
blank = record { content = Blank }

-- the field of a reference
abbrev pub reference : Ref → Field
reference None = blank
reference (Some n) = number n

-- the two fields of a term
abbrev pub term_fields : Option Term → List Field
term_fields None = blank ∷ blank ∷ []
term_fields (Some c) = integer c.coefficient ∷ number c.sentence ∷ []

-- the fields of a sentence, its form first
abbrev pub form_fields : Form → List Field
form_fields form.True = number 0 ∷ []
form_fields (form.Proposition p) = number 1 ∷ number p ∷ []
form_fields (form.Guard g) = number 2 ∷ number g ∷ []
form_fields (form.And a b) = number 3 ∷ number a ∷ number b ∷ []
form_fields (form.Not a) = number 4 ∷ number a ∷ []
form_fields (form.Next a) = number 5 ∷ number a ∷ []
form_fields (form.Until a b z t u) = number 6 ∷ number a ∷ number b ∷ integer z ∷ (term_fields t ++ term_fields u)

-- the fields of a loop mark
abbrev pub mark_fields : LoopMark → List Field
mark_fields mark.None = []
mark_fields (mark.Counted l n b) = number l ∷ number n ∷ number b ∷ []
mark_fields (mark.Endless l b) = number l ∷ blank ∷ number b ∷ []

-- the filled part of an item's row
abbrev pub filled_of : (k : Kind) → Item k → List Field
filled_of kind.State s = number s.propositions ∷ []
filled_of kind.Weights w = map integer w.at
filled_of kind.Guard g = map integer g.coefficients.at ++ (integer g.bound ∷ [])
filled_of kind.Move m =
    number m.from ∷ number m.to ∷ (map integer m.updates.at ++ (reference m.guard1 ∷ reference m.guard2 ∷ []))
filled_of kind.Sentence s = form_fields s.form
filled_of kind.Place p = number p.state ∷ reference p.way ∷ number p.marks ∷ mark_fields p.mark

-- the row of an item: its fields, and blanks
unfoldable pub row_of : (k : Kind) → Item k → List Field
row_of k x = filled_of k x ++ replicate (fields - length (filled_of k x)) blank
