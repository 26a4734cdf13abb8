-- The kinds of records: their letters, the order in which they come, and how many items of each there are. The number of counters.
use Rattle.std.specs.Prelude.{List, [], ◌∷◌, Bool, cond, ℕ, eqb, Option, Some, None}
use Rattle.laws.specs.All.{sum_over}
use Rattle.kinds.specs.declared.Kind.{Kind}
use Rattle.kinds.specs.declared.Kind.TheVariants.{State, Weights, Guard, Move, Sentence, Place}
use Rattle.kinds.specs.declared.Counts.{Counts}

-- the letters S, W, G, T, F and P
abbrev pub letter_of : Kind → ℕ
letter_of State = 83
letter_of Weights = 87
letter_of Guard = 71
letter_of Move = 84
letter_of Sentence = 70
letter_of Place = 80

-- kinds come in this order
abbrev pub rank_of : Kind → ℕ
rank_of State = 0
rank_of Weights = 1
rank_of Guard = 2
rank_of Move = 3
rank_of Sentence = 4
rank_of Place = 5

-- every kind, by its rank
abbrev pub all_kinds : List Kind
all_kinds = State ∷ Weights ∷ Guard ∷ Move ∷ Sentence ∷ Place ∷ []

-- whether two kinds are the same: they have one letter
abbrev pub same : Kind → Kind → Bool
same j k = eqb (letter_of j) (letter_of k)

-- what a letter says: the kind that it names, or nothing
abbrev pub Letter : Type 0
Letter = Option Kind

-- the kind that a letter names, of those listed
unfoldable pub kind_in : List Kind → ℕ → Letter
kind_in [] b = None
kind_in (k ∷ ks) b = cond (eqb b (letter_of k)) (Some k) (kind_in ks b)

-- the kind that a letter names
abbrev pub kind_of : ℕ → Letter
kind_of = kind_in all_kinds

-- how many items of a kind are held
abbrev pub count_of : Counts → Kind → ℕ
count_of n State = n.states
count_of n Weights = n.weights
count_of n Guard = n.guards
count_of n Move = n.moves
count_of n Sentence = n.sentences
count_of n Place = n.places

-- counts, kind by kind
abbrev pub counts_by : (Kind → ℕ) → Counts
counts_by f = record { states = f State; weights = f Weights; guards = f Guard; moves = f Move; sentences = f Sentence; places = f Place }

-- the sum of a number for each kind
abbrev pub over_kinds : (Kind → ℕ) → ℕ
over_kinds f = sum_over f all_kinds

-- how many items are held
abbrev pub counts_total : Counts → ℕ
counts_total n = over_kinds (count_of n)

-- the number of counters
abbrev pub counters : ℕ
counters = 4
