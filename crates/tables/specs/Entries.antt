-- The entries of the tables of judging: how they are read, and how a loop fills them. Assumes nothing.
use Rattle.std.specs.Prelude.{◌≡◌, List, [], ◌∷◌, ◌++◌, ℕ, zero, suc, ◌+◌, ◌-◌, ◌<◌, ℤ, length, get_or, set, replicate}
use Rattle.std.proofs.Common.{sym, ◌∙◌, ap, ap₂, add-one, arith}
use Rattle.std.proofs.Math.ListN.{get_or-append}
use Rattle.std.proofs.lemmas.List.{set_at}
use Rattle.std.proofs.Math.Seq.{append_snoc}
use Rattle.laws.specs.Tab.{tab, length_tab, entry}
use Rattle.kinds.specs.declared.Kind.TheVariants as kind
use Rattle.counters.specs.declared.Counters.{Counters}
use Rattle.items.specs.declared.Place.{Place}
use Rattle.items.specs.Lists.{room_of}
use Rattle.verdict.specs.Rounds.{first_of}
use Rattle.tables.specs.declared.Firsts.{Firsts}
use Rattle.tables.specs.declared.Table.{Table}
use Rattle.tables.specs.Tables.{firsts_of, values_of, table_of}

module _ {A : Type 0} (g : ℕ → A) (n : ℕ) where
  -- entry k, whatever stands past the n entries
  front : (l : List A) (k : ℕ) (d : A) → k < n → get_or (tab n 0 g ++ l) k d ≡ g k
  front l k d h = get_or-append (tab n 0 g) l d k (omega (arith, length_tab g n 0)) ∙ entry g n k d h

  -- one entry more at the end
  tab_last : (k i : ℕ) {j : ℕ} → j ≡ i + k → tab k i g ++ (g j ∷ []) ≡ tab (suc k) i g
  tab_last zero i {j} e =
      let s : j ≡ i = omega arith in
      ap (λ m. g m ∷ []) s
  tab_last (suc k) i e = ap (λ l. g i ∷ l) (tab_last k (i + 1) (omega arith))

  -- the first k of n entries are those of g, and the others z: one entry of g more
  front_next : (z : A) (k : ℕ) → k < n → set (tab k 0 g ++ replicate (n - k) z) k (g k) ≡ tab (k + 1) 0 g ++ replicate (n - (k + 1)) z
  front_next z k h =
      let e : n - k ≡ suc (n - (k + 1)) = omega arith in
      let t : tab (k + 1) 0 g ≡ tab k 0 g ++ (g k ∷ []) = rw (add-one k) (sym (tab_last k 0 (omega arith))) in
      let r : List A = replicate (n - (k + 1)) z in
      rw (e, t) (set_at (tab k 0 g) z r (g k) k (length_tab g k 0) ∙ sym (append_snoc (tab k 0 g) (g k) r))

-- ---- the tables

pub first_at : {f : Firsts} (ps : List Place) → f ≡ firsts_of ps → (p : ℕ) → p < length ps → get_or f.at p 0 ≡ first_of ps p
first_at ps e p h = ap (λ (f : Firsts). get_or f.at p 0) e ∙ front (first_of ps) (length ps) _ p 0 h

pub values_at : {t : Table} (n : ℕ) (f : ℕ → ℕ → ℤ) → t ≡ table_of n f → (p : ℕ) (d : Counters) → p < n → get_or t.at p d ≡ values_of f p
values_at n f e p d h = ap (λ (t : Table). get_or t.at p d) e ∙ front (values_of f) n _ p d h

-- ---- a table that a loop fills

-- xs has g at the first p places, and z past them
pub record Begun {A : Type 0} (g : ℕ → A) (z : A) (xs : List A) (p : ℕ) : Type 0 where
  pub so : xs ≡ tab p 0 g ++ replicate (room_of kind.Place - p) z

module _ {A : Type 0} {g : ℕ → A} {z : A} where
  pub begin : {v : A} → v ≡ z → Begun g z (replicate (room_of kind.Place) v) 0
  begin e = record { so = ap (replicate (room_of kind.Place)) e }

  pub go_on : {xs : List A} {p : ℕ} {v : A} → Begun g z xs p → v ≡ g p → p < room_of kind.Place → Begun g z (set xs p v) (p + 1)
  go_on {p = p} b e h = record { so = ap₂ (λ (l : List A) (v : A). set l p v) b.so e ∙ front_next g (room_of kind.Place) z p h }
