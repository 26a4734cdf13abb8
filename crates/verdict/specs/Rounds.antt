-- The rounds of a place, and what is true throughout them.
use Rattle.std.specs.Prelude.{List, Bool, true, false, cond, ℕ, zero, suc, ◌+◌, ◌-◌, ◌≤◌, ltb, leb, eqb, ℤ, pos, ◌+ℤ◌, ◌*ℤ◌}
use Rattle.std.specs.Int.Signed.{le_z, lt_z}
use Rattle.items.specs.declared.LoopMark.{LoopMark}
use Rattle.items.specs.declared.LoopMark.TheVariants as mark
use Rattle.items.specs.declared.Place.{Place}
use Rattle.rules.specs.Rules.{mark_at}
use Rattle.meaning.specs.Run.{Way, stretch}
use Rattle.verdict.specs.declared.Throughout.{Throughout}
use Rattle.verdict.specs.declared.Throughout.TheVariants.{Always, Never, Changes}
use Rattle.verdict.specs.declared.Trend.{Trend}
use Rattle.verdict.specs.declared.Trend.TheVariants.{Rises, Stays, Falls}
use Rattle.verdict.specs.declared.Side.{Side}
use Rattle.verdict.specs.declared.Side.TheVariants.{AtOrAbove, Below}
use Rattle.verdict.specs.declared.Course.{Course}
use Rattle.verdict.specs.declared.Course.TheVariants.{AlwaysTrue, AlwaysFalse, TrueThenFalse, FalseThenTrue}
use Rattle.verdict.specs.declared.Rounds.{Rounds}
use Rattle.verdict.specs.declared.Rounds.TheVariants as rounds

-- ---- the stretch of a place

-- the first place of the stretch that place p is in
unfoldable pub first_of : List Place → ℕ → ℕ
first_of ps zero = 0
first_of ps (suc p) =
    let q = first_of ps p in
    cond (ltb (suc p) (q + stretch (mark_at ps q))) q (suc p)

-- its loop mark
abbrev pub loop_of : List Place → ℕ → LoopMark
loop_of ps p = mark_at ps (first_of ps p)

-- whether place p is the last of its stretch
abbrev pub is_last : List Place → ℕ → Bool
is_last ps p = leb (first_of ps p + stretch (loop_of ps p)) (suc p)

-- ---- rounds

-- the rounds of a stretch
abbrev pub rounds_of : LoopMark → Rounds
rounds_of mark.None = rounds.UpTo 0
rounds_of (mark.Counted l n b) = rounds.UpTo (n - 1)
rounds_of (mark.Endless l b) = rounds.Ever

-- all but the first of them, counted from 0 again
abbrev pub later : Rounds → Rounds
later rounds.None = rounds.None
later (rounds.UpTo k) = cond (eqb k 0) rounds.None (rounds.UpTo (k - 1))
later rounds.Ever = rounds.Ever

-- the rounds in which a way is taken: a back move in all but the first; a way in once, where it leads to the first place of a stretch, else in all
abbrev pub rounds_by : List Place → Way → Rounds
rounds_by ps w =
    cond w.back (later (rounds_of (mark_at ps w.place)))
    (cond (eqb (first_of ps w.place) w.place) (rounds.UpTo 0) (rounds_of (loop_of ps w.place)))

-- r is one of the rounds
abbrev pub In : Rounds → ℕ → Type 0
In rounds.None r = ⊥
In (rounds.UpTo k) r = r ≤ k
In rounds.Ever r = Unit {0}

-- ---- throughout

-- what doesn't look at the round
abbrev pub flag : Bool → Throughout
flag true = Always
flag false = Never

-- what is the same in all rounds where it is the same in the first and in the last
abbrev pub agree : Bool → Bool → Throughout
agree true true = Always
agree true false = Changes
agree false true = Changes
agree false false = Never

-- ---- without end, by six cases

-- how a sum goes to which each round adds d
abbrev pub trend : ℤ → Trend
trend d = cond (lt_z (pos 0) d) Rises (cond (lt_z d (pos 0)) Falls Stays)

-- where a sum is to its bound b, where a is the sum the first time
abbrev pub side : ℤ → ℤ → Side
side a b = cond (le_z b a) AtOrAbove Below

-- the table: how the truth of a guard goes, by how its sum goes and where it is the first time
abbrev pub course : Trend → Side → Course
course Rises AtOrAbove = AlwaysTrue
course Rises Below = FalseThenTrue
course Stays AtOrAbove = AlwaysTrue
course Stays Below = AlwaysFalse
course Falls AtOrAbove = TrueThenFalse
course Falls Below = AlwaysFalse

-- over all rounds: it changes where it is first one and then the other
abbrev pub overall : Course → Throughout
overall AlwaysTrue = Always
overall AlwaysFalse = Never
overall TrueThenFalse = Changes
overall FalseThenTrue = Changes

-- ---- a guard

-- a sum that is a in the first of the rounds and grows by d with each, against a bound: by its ends, and without end by the table
unfoldable pub through : ℤ → ℤ → ℤ → Rounds → Throughout
through a d b rounds.None = Always
through a d b (rounds.UpTo k) = agree (le_z b a) (le_z b (a +ℤ pos k *ℤ d))
through a d b rounds.Ever = overall (course (trend d) (side a b))
