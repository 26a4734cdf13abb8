-- Counting until over the places of a plan: the best sum that can be reached from each place, in its first and in its last round.
use Rattle.std.specs.Prelude.{List, Bool, true, false, cond, ℕ, zero, suc, ◌-◌, eqb, ℤ, pos, ◌+ℤ◌, ◌*ℤ◌}
use Rattle.std.specs.Int.Signed.{le_z}
use Rattle.items.specs.declared.Place.{Place}
use Rattle.meaning.specs.Run.{stretch}
use Rattle.verdict.specs.declared.Rounds.{Rounds}
use Rattle.verdict.specs.declared.Rounds.TheVariants as rounds
use Rattle.verdict.specs.Labels.{Label}
use Rattle.verdict.specs.Rounds.{first_of, loop_of, is_last, rounds_of}

-- the best sum that an until can reach from a moment: none, a number, or one as great as you like (the code has a number for it: crate maxplus)
pub data Best : Type 0 where
  None : Best
  Sum : ℤ → Best
  Any : Best

-- the best sums at a place: in its first round and in its last
pub record Front : Type 0 where
  pub first : Best
  pub last : Best

-- whether a bound is reached
abbrev pub is_reached : ℤ → Best → Bool
is_reached b None = false
is_reached b (Sum v) = le_z b v
is_reached b Any = true

-- w more
abbrev pub plus : ℤ → Best → Best
plus w None = None
plus w (Sum v) = Sum (w +ℤ v)
plus w Any = Any

-- the greater of two
unfoldable pub greater : Best → Best → Best
greater None v = v
greater (Sum a) None = Sum a
greater (Sum a) (Sum b) = Sum (cond (le_z a b) b a)
greater (Sum a) Any = Any
greater Any v = Any

-- on from a place, where it is held
abbrev pub onward : Label → Best → Best
onward l v = cond l.held (plus l.gain v) None

-- the best at a place, where v is the best at the next
unfoldable pub step : Label → Best → Best
step l v = greater (cond l.goal (Sum (pos 0)) None) (onward l v)

-- over the n places from p on, and then v
unfoldable pub chain : (ℕ → Label) → ℕ → ℕ → Best → Best
chain l p zero v = v
chain l p (suc n) v = step (l p) (chain l (suc p) n v)

-- the sum of the n places from p on, where each is held
unfoldable pub whole_sum : (ℕ → Label) → ℕ → ℕ → Best
whole_sum l p zero = Sum (pos 0)
whole_sum l p (suc n) = onward (l p) (whole_sum l (suc p) n)

-- the positive part
abbrev pub positive : ℤ → ℤ
positive z = cond (le_z (pos 0) z) z (pos 0)

-- n rounds, and then v: a is the best within a round, s the sum of a whole round. To stop in a round, or to go through all of them
unfoldable pub power : Best → Best → ℕ → Best → Best
power a None n v = cond (eqb n 0) v a
power a (Sum s) n v = cond (eqb n 0) v (greater (plus (pos (n - 1) *ℤ positive s) a) (plus (pos n *ℤ s) v))
power a Any n v = cond (eqb n 0) v a

-- rounds without end: where there is something to stop at and a round adds something, as much as you like
unfoldable pub limit : Best → Best → Best
limit a None = a
limit None (Sum s) = None
limit (Sum v) (Sum s) = cond (le_z s (pos 0)) (Sum v) Any
limit Any (Sum s) = Any
limit a Any = a

-- from the last place of a stretch in its first round: on into its later rounds, and then out of it, where v is the best after it
abbrev pub on_first : Rounds → Best → Best → Best → Best
on_first rounds.None a s v = v
on_first (rounds.UpTo k) a s v = power a s k v
on_first rounds.Ever a s v = limit a s

-- and in its last round: out of it
abbrev pub on_last : Rounds → Best → Best → Best → Best
on_last rounds.None a s v = v
on_last (rounds.UpTo k) a s v = v
on_last rounds.Ever a s v = limit a s

-- place p, where y has the best of the next place
abbrev pub front_by : (ℕ → Label) → List Place → ℕ → Front → Front
front_by l ps p y =
    let q = first_of ps p in
    let n = stretch (loop_of ps p) in
    let a = chain l q n None in
    let s = whole_sum l q n in
    let r = rounds_of (loop_of ps p) in
    cond (is_last ps p)
    (record { first = step (l p) (on_first r a s y.first); last = step (l p) (on_last r a s y.first) })
    (record { first = step (l p) y.first; last = step (l p) y.last })

-- place p, where d places are left from it on
unfoldable pub front : (ℕ → Label) → List Place → ℕ → ℕ → Front
front l ps p zero = record { first = None; last = None }
front l ps p (suc d) = front_by l ps p (front l ps (suc p) d)
