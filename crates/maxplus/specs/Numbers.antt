-- The best sums of an until as numbers: to go on is a sum, to choose is a maximum.
use Rattle.std.specs.Prelude.{List, Bool, cond, ℕ, zero, suc, ◌-◌, eqb, ℤ, pos, neg_ℤ, ◌+ℤ◌, ◌*ℤ◌, get_or}
use Rattle.std.specs.Int.Signed.{le_z, lt_z}
use Rattle.items.specs.declared.LoopMark.{LoopMark}
use Rattle.items.specs.declared.LoopMark.TheVariants as mark
use Rattle.verdict.specs.Labels.{Label}
use Rattle.maxplus.specs.declared.Round.{Round}
use Rattle.maxplus.specs.declared.Ends.{Ends}

-- no sum
abbrev pub none : ℤ
none = neg_ℤ (pos 10000000000000000)

-- sums without end
abbrev pub any : ℤ
any = pos 100000000000000

-- less than any sum of a round or of a part of it
abbrev pub least : ℤ
least = neg_ℤ (pos 1000000)

-- element i of a table
abbrev pub entry_at : List ℤ → ℕ → ℤ
entry_at l i = get_or l i (pos 0)

-- what a choice gives, where it can be made
abbrev pub choice_by : Bool → ℤ → ℤ
choice_by can sum = cond can sum none

-- to stop at a place with this label, and to go on from it
abbrev pub stop_of : Label → ℤ
stop_of l = choice_by l.goal (pos 0)

abbrev pub go_of : Label → ℤ
go_of l = choice_by l.held l.gain

-- the larger of two
abbrev pub larger : ℤ → ℤ → ℤ
larger a b = cond (le_z a b) b a

-- the best at a place, where v is the best at the next
abbrev pub step_by : ℤ → ℤ → ℤ → ℤ
step_by stop go v = larger stop (go +ℤ v)

-- the best within the n places from p on
unfoldable pub within_by : (ℕ → ℤ) → (ℕ → ℤ) → ℕ → ℕ → ℤ
within_by s g p zero = none
within_by s g p (suc n) = step_by (s p) (g p) (within_by s g (suc p) n)

-- the sum of all of them
unfoldable pub sum_by : (ℕ → ℤ) → ℕ → ℕ → ℤ
sum_by g p zero = pos 0
sum_by g p (suc n) = g p +ℤ sum_by g (suc p) n

-- a round of n places from p on
abbrev pub round_by : (ℕ → ℤ) → (ℕ → ℤ) → ℕ → ℕ → Round
round_by s g p n = record { within = within_by s g p n; sum = sum_by g p n }

-- n rounds, and then v: to stop in a round, or to go through all of them
unfoldable pub power_by : Round → ℕ → ℤ → ℤ
power_by r n v =
    cond (eqb n 0) v
    (cond (lt_z r.sum least) r.within
    (larger (r.within +ℤ pos (n - 1) *ℤ larger (pos 0) r.sum) (v +ℤ pos n *ℤ r.sum)))

-- rounds without end: where there is something to stop at and a round adds something, as much as you like
unfoldable pub limit_by : Round → ℤ
limit_by r = cond (le_z r.sum (pos 0)) r.within (cond (lt_z r.within least) r.within any)

-- after the last place of a stretch that place q begins, where v is the best after the stretch: in its first round and in its last
abbrev pub around_by : (ℕ → ℤ) → (ℕ → ℤ) → ℕ → LoopMark → ℤ → Ends
around_by s g q mark.None v = record { first = v; last = v }
around_by s g q (mark.Counted l n b) v = record { first = power_by (round_by s g q l) (n - 1) v; last = v }
around_by s g q (mark.Endless l b) v = record { first = limit_by (round_by s g q l); last = limit_by (round_by s g q l) }
