-- Sentences at places, and guards on ways. Assumes nothing.
use Rattle.std.proofs.Common.{subst}
use Rattle.std.specs.Prelude.{◌↔◌, List, map, ℕ, ◌<◌}
use Rattle.std.proofs.Math.Logic.Iff
use mathlib.Core.List.Memᴰ
use Rattle.laws.specs.All.{All, from, gather}
use Rattle.laws.specs.Members.{Has, all_has, has_all, has_below, all_pairs}
use Rattle.items.specs.Lists.{Items}
use Rattle.meaning.specs.Run.{Way, move_by, guards_of}
use Rattle.meaning.specs.Judged.{Mark, Test, ways_of, tests_of}

-- sentence i at place p
abbrev pub mark_for : ℕ → ℕ → Mark
mark_for i p = record { sentence = i; place = p }

-- sentence i at n places
pub all_row : {P : Mark → Type 0} (i n : ℕ) → All P (map (mark_for i) (from 0 n)) ↔ ((p : ℕ) → p < n → P (mark_for i p))
all_row {P} i n = (
  λ a p h. all_has a (Memᴰ.map (mark_for i) ((has_below n p).1 h)),
  λ f. has_all (map (mark_for i) (from 0 n)) (λ k m.
      let (p, h, e) = Memᴰ.of_map (mark_for i) (from 0 n) m in
      subst P e (f p ((has_below n p).0 h))),
)

-- the first s sentences at n places
abbrev pub grid : ℕ → ℕ → List Mark
grid s n = gather (λ i. map (mark_for i) (from 0 n)) (from 0 s)

pub all_grid : {P : Mark → Type 0} (s n : ℕ) → All P (grid s n) ↔ ((i p : ℕ) → i < s → p < n → P (mark_for i p))
all_grid s n =
    Iff.trans (all_pairs mark_for (λ i. from 0 n) (from 0 s))
    (λ f i p g h. f i p ((has_below s i).1 g) ((has_below n p).1 h), λ f i p g h. f i p ((has_below s i).0 g) ((has_below n p).0 h))

-- every guard of every way
pub all_tests : {P : Test → Type 0} (x : Items) → All P (tests_of x) ↔ ((w : Way) (g : ℕ) → Has (ways_of x) w → Has (guards_of (move_by x w)) g → P (record { way = w; guard = g }))
all_tests x = all_pairs (λ w g. record { way = w; guard = g }) (λ w. guards_of (move_by x w)) (ways_of x)
