-- The updates of the move that a reference names, added to a value for each counter, as a case with the invariant has them. Assumes nothing.
use Rattle.std.specs.Prelude.{◌≡◌, ℕ, ◌-◌, ◌≤◌, ◌<◌, ℤ, ◌+ℤ◌, length, get_or}
use Rattle.std.proofs.Common.{◌∙◌, ap}
use Rattle.kinds.specs.declared.Kind.TheVariants as kind
use Rattle.counters.specs.declared.Counters.{Counters}
use Rattle.counters.specs.Vectors.{value_at, vec, vec_of}
use Rattle.items.specs.declared.Move.{Move}
use Rattle.items.specs.Lists.{room_of}
use Rattle.collector.specs.declared.Case.{Case}
use Rattle.collector.specs.Cases.{items_of, slot_of}
use Rattle.collector.specs.Sound.{Sound}
use Rattle.collector.proofs.Moves as moves
use Rattle.rules_laws.specs.Held.{padded, long}
use Rattle.rules_laws.specs.Drifts.{move_filled}
use Rattle.meaning.specs.Run.{move_at, update}
use Rattle.items.specs.Items.{Ref}

-- the move that r names has number t, and v has the values f j
module _ {c : Case} (s : Sound c) {t : ℕ} (r : Ref) (e : t ≡ slot_of r) {v : Counters} (f : ℕ → ℤ) (p : v ≡ vec_of f) where
  -- the array of moves has the moves that are held
  same : vec_of (λ j. f j +ℤ update (move_at c.moves r) j) ≡ vec_of (λ j. f j +ℤ update (move_at (items_of c).moves r) j)
  same =
      let i = ap (λ l. move_at l r) (padded s kind.Move) ∙ move_filled (items_of c).moves (room_of kind.Move - length (items_of c).moves) r in
      ap (λ (m : Move). vec_of (λ j. f j +ℤ update m j)) i

  pub no_more : room_of kind.Move ≤ t → v ≡ vec_of (λ j. f j +ℤ update (move_at (items_of c).moves r) j)
  no_more h = moves.no_more c.moves (long s kind.Move) r e f p h ∙ same

  pub more : (d : Move) → t < room_of kind.Move → {w : Counters} → w.at ≡ vec (λ j. value_at v j +ℤ update (get_or c.moves t d) j) →
      w ≡ vec_of (λ j. f j +ℤ update (move_at (items_of c).moves r) j)
  more d h q = moves.more c.moves (long s kind.Move) r e f p d h q ∙ same
