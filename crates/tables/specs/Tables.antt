-- The tables of judging: entry p of each is the definition at place p, and 0 past the places that are held.
use Rattle.std.specs.Prelude.{List, ◌++◌, ℕ, ◌-◌, ℤ, length, replicate}
use Rattle.laws.specs.Tab.{tab}
use Rattle.kinds.specs.declared.Kind.TheVariants as kind
use Rattle.counters.specs.declared.Counters.{Counters}
use Rattle.counters.specs.Vectors.{vec_of, no_values}
use Rattle.items.specs.declared.Place.{Place}
use Rattle.items.specs.Lists.{Items, room_of}
use Rattle.meaning.specs.Judged.{start_of}
use Rattle.verdict.specs.Rounds.{first_of}
use Rattle.verdict.specs.Forward.{base}
use Rattle.tables.specs.declared.Firsts.{Firsts}
use Rattle.tables.specs.declared.Table.{Table}
use Rattle.tables.specs.declared.Tables.{Tables}

-- the first places, and 0 past the places that are held
abbrev pub firsts_of : List Place → Firsts
firsts_of ps = record { at = tab (length ps) 0 (first_of ps) ++ replicate (room_of kind.Place - length ps) 0 }

-- the values f j at place p
abbrev pub values_of : (ℕ → ℕ → ℤ) → ℕ → Counters
values_of f p = vec_of (λ j. f j p)

-- the values f j at each of the first n places, and 0 past them
abbrev pub table_of : ℕ → (ℕ → ℕ → ℤ) → Table
table_of n f = record { at = tab n 0 (values_of f) ++ replicate (room_of kind.Place - n) no_values }

-- the counters of each place in its first round
abbrev pub bases_of : Items → Table
bases_of x = table_of (length x.places) (base x (start_of x))

-- all of them
abbrev pub tables_of : Items → Tables
tables_of x = record { firsts = firsts_of x.places; bases = bases_of x }
