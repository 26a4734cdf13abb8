-- The numbers of a line, and a line feed looked for. Assumes nothing.
use mathlib.Core.Path.{◌≡◌, refl, sym, ◌∙◌, ap}
use mathlib.Core.Bool.{◌||◌}
use mathlib.Core.List.{List, [], ◌∷◌, ◌++◌, append_assoc}
use Prim.Native.Nat.{ℕ, ◌+◌, ◌-◌}
use native.Mathlib.Omega.{arith}
use Rattle.std.proofs.Common.{eqb}
use Rattle.std.specs.List.{list_any}
use lib.ListN.{length, take, replicate, length-append}
use lib.Seq.{take_at}
use Rattle.record.specs.Spelling.{space}
use Rattle.record.specs.Layout.{line_feed}
use Rattle.answers.specs.declared.Told.{Told}
use Rattle.output.specs.declared.Line.{Line}
use Rattle.output.specs.Line.{line_of, longest, holding}
use Rattle.plancheck.specs.Named.{numbers, named_line, has_line_feed}
use Rattle.plancheck.specs.OneLine.{unnamed}

-- ---- the numbers of a line

module _ (t : Told) {l : Line} (e : l ≡ holding (line_of t)) where
  -- there is a line feed behind them
  pub numbers_count : l.count ≡ length (numbers t) + 1
  unfolding holding
  numbers_count = ap (λ (k : Line). k.count) e ∙ ap length (unnamed t) ∙ length-append (numbers t) (line_feed ∷ [])

  pub numbers_bytes : take (l.count - 1) l.bytes ≡ numbers t
  unfolding holding
  numbers_bytes =
      let rest : List ℕ = replicate (longest - length (line_of t)) 0 in
      let n : l.count - 1 ≡ length (numbers t) = omega (arith, numbers_count) in
      let b : l.bytes ≡ numbers t ++ (line_feed ∷ rest) =
      ap (λ (k : Line). k.bytes) e ∙ ap (λ w. w ++ rest) (unnamed t) ∙ append_assoc (numbers t) (line_feed ∷ []) rest in
      ap (λ w. take (l.count - 1) w) b ∙ take_at (numbers t) (line_feed ∷ rest) (l.count - 1) (sym n)

-- the parts of a named line, each put behind the one before
pub parts_put : (t : Told) (name : List ℕ) {a b d e : List ℕ} →
    a ≡ numbers t → b ≡ a ++ (space ∷ []) → d ≡ b ++ name → e ≡ d ++ (line_feed ∷ []) → e ≡ named_line t name
unfolding named_line
parts_put t name p q r s =
    let all = s ∙ ap (λ w. w ++ (line_feed ∷ [])) (r ∙ ap (λ w. w ++ name) (q ∙ ap (λ w. w ++ (space ∷ [])) p)) in
    all ∙ simp append_assoc

-- ---- a line feed looked for

pub feed_found : (name : List ℕ) → list_any (λ b. eqb b line_feed) name ≡ has_line_feed name
unfolding has_line_feed
feed_found [] = refl
feed_found (b ∷ bs) = ap (λ t. eqb b line_feed || t) (feed_found bs)
