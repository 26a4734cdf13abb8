-- A case with other marks, none at or above the number of sentences, has what every case has that records make; and every such case has such marks.
-- Assumes nothing.
use Rattle.std.proofs.Common.{sym, subst, arith, lit≤, leb-false}
use Rattle.std.specs.Prelude.{◌↔◌, ℕ, ◌≤◌, ◌<◌, ◌^◌, length}
use Rattle.std.proofs.Math.Nat.{pow-le-pow_right}
use Rattle.laws.specs.Tests.{tells_false}
use Rattle.record.specs.Layout.{at}
use Rattle.kinds.specs.declared.Kind.TheVariants as kind
use Rattle.table.specs.Table.{shape_of, rule_at}
use Rattle.items.specs.declared.Place.{Place}
use Rattle.items.specs.Items.{row_of}
use Rattle.items.specs.Lists.{Items}
use Rattle.meaning.specs.Run.{place_at}
use Rattle.meaning.specs.Marking.{with_marks}
use Rattle.collector.specs.declared.Case.{Case}
use Rattle.collector.specs.Cases.{case_of, items_of}
use Rattle.collector.specs.Sound.{Sound, reach}
use Rattle.rules_laws.specs.Held.{items_of_lem, counted}
use Rattle.rules_laws.specs.Tells.{tells_there}
use Rattle.places.specs.Replaced.{Meets, meets, sound_with}
use Rattle.places.specs.OneField.{meets_marked}
use Rattle.fill_laws.specs.Marks.{marked_plan, marks_at_lem, place_at_lem, own_marks}

-- no mark is set at or above the number of sentences
abbrev pub LowMarks : Items → (ℕ → ℕ) → Type 0
LowMarks x μ = (p : ℕ) → p < length x.places → μ p < 2 ^ length x.sentences

-- so it is of the marks that a case gets, and of those that it then has
pub low_own : (x : Items) (μ : ℕ → ℕ) → LowMarks x μ ↔ LowMarks (with_marks x μ) (own_marks (with_marks x μ))
low_own x μ = (
  λ h p l. let k : p < length x.places = omega (arith, (marked_plan μ x.places).long) in rw (marks_at_lem μ x.places p k) (h p k),
  λ h p k. rw (marks_at_lem μ x.places p k) at (h p (omega (arith, (marked_plan μ x.places).long))),
)

-- ---- a case

module _ (c : Case) (s : Sound c) where
  -- the items
  abbrev x : Items
  x = items_of c

  -- with other marks
  pub sound_marked : (μ : ℕ → ℕ) → LowMarks (items_of c) μ → Sound (case_of (with_marks (items_of c) μ))
  sound_marked μ low =
      let e = marked_plan μ x.places in
      sound_with s e (λ p h.
      let l : p < length x.places = omega (arith, e.long) in
      let d : μ p < 2 ^ c.count.sentences = rw (counted c s kind.Sentence) at (low p l) in
      let m : 2 ^ c.count.sentences ≤ 2 ^ 20 = pow-le-pow_right (lit≤ tt) (s.room kind.Sentence) in
      subst (Meets c.count kind.Place p) (sym (place_at_lem μ x.places p l))
      (meets_marked (place_at x.places p) (meets s kind.Place p (omega (arith, counted c s kind.Place))) (μ p) d (omega arith)))

  -- it has only such marks
  pub marks_low : LowMarks (items_of c) (own_marks (items_of c))
  unfolding row_of rule_at shape_of
  marks_low p h =
      rw (counted c s kind.Sentence)
      (leb-false (2 ^ c.count.sentences) (place_at x.places p).marks
      (tells_false _ (tells_there kind.Place (row_of kind.Place (place_at x.places p)) 3 (reach c.count kind.Place p)) (s.there kind.Place p (omega (arith, counted c s kind.Place)) 3)))

-- so it is of the case that holds given items
pub sound_items : (x : Items) → Sound (case_of x) → (μ : ℕ → ℕ) → LowMarks x μ → Sound (case_of (with_marks x μ))
sound_items x s μ low =
    subst (λ z. LowMarks z μ → Sound (case_of (with_marks z μ))) (items_of_lem x) (sound_marked (case_of x) s μ) low
