-- The last kind of which an item is held, by its rank.
use Rattle.std.specs.Prelude.{cond, ℕ, zero, suc, ltb, length, get_or}
use Rattle.kinds.specs.declared.Kind.{Kind}
use Rattle.kinds.specs.declared.Kind.TheVariants.{State}
use Rattle.kinds.specs.declared.Counts.{Counts}
use Rattle.kinds.specs.Kinds.{all_kinds, count_of}

-- the kind of a rank
abbrev pub kind_at : ℕ → Kind
kind_at r = get_or all_kinds r State

-- of the ranks below r, the last of whose kind an item is held; 0 where there is none
unfoldable pub last_below : ℕ → Counts → ℕ
last_below zero n = 0
last_below (suc r) n = cond (ltb 0 (count_of n (kind_at r))) r (last_below r n)

-- the rank of the last kind of which an item is held
abbrev pub last_rank : Counts → ℕ
last_rank n = last_below (length all_kinds) n
