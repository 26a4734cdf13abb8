-- The record of a row of fields that can be spelled: 58 bytes that are read as the row again. A record that is taken is that of its item. Assumes nothing.
use Rattle.std.specs.Prelude.{◌≡◌, length}
use Rattle.std.proofs.Math.Path.{refl, sym, ap, ap₂, subst}
use Rattle.std.proofs.Common.{◌∙◌, take-append-drop, drop_of_length-le, drop-drop, take-add}
use mathlib.Core.List.{List, [], ◌∷◌, ◌++◌}
use Prim.Native.Nat.{ℕ, zero, suc, ◌+◌, ◌-◌, ◌*◌, ◌≤◌}
use native.Mathlib.Omega.{arith}
use Rattle.std.proofs.Math.ListN.{get_or, take, drop, length-append}
use Rattle.std.proofs.Math.Seq.{get_or_at, ext_get_or, drop-cons}
use Rattle.laws.specs.All.{gather}
use Rattle.laws.specs.Members.{all_by}
use Rattle.laws.specs.Gathered.{gather_long, gather_at}
use Rattle.laws.specs.Tab.{tab, at_tab}
use Rattle.record.specs.declared.Field.{Field}
use Rattle.record.specs.Spelling.{content_of}
use Rattle.record.specs.Spell.{HasSpelling, content_bytes}
use Rattle.record.specs.Layout.{width, fields, record_length, line_feed, bytes_at, field_at, record_of, at}
use Rattle.record_laws.specs.Spelled.{each_long, content_says}
use Rattle.kinds.specs.declared.Kind.{Kind}
use Rattle.kinds.specs.Kinds.{letter_of}
use Rattle.items.specs.Items.{item_of, blank}
use Rattle.items.specs.File.{field_bytes, CanSpell, record_bytes, item_bytes}
use Rattle.rules.specs.Rules.{IsBad}
use Rattle.collector.specs.declared.Case.{Case}
use Rattle.collector.specs.Sound.{Fit}
use Rattle.rules_laws.specs.Bytes.{length_row, field_is, field_back}
use Rattle.rules_laws.specs.Fields.{fields_again}
use Rattle.rules_laws.specs.Held.{IsTaken}

-- ---- a record

-- every field of a row that meets its rules can be spelled
pub can_spell : {k : Kind} {r : List Field} → Fit k r → CanSpell r
can_spell {k} {r} f = all_by blank r (λ j h. f.spelled (suc j))

-- the record of a row that meets its rules
module _ {k : Kind} {r : List Field} (f : Fit k r) where
  row_long : length (gather field_bytes r) ≡ fields * width
  row_long = gather_long field_bytes width (each_long (can_spell f)) ∙ ap (λ n. n * width) f.long

  pub record_long : length (record_bytes k r) ≡ record_length
  unfolding record_bytes
  record_long = omega (arith, length-append (gather field_bytes r) (line_feed ∷ []), row_long)

  pub record_ends : get_or (record_bytes k r) (record_length - 1) 0 ≡ line_feed
  unfolding record_bytes
  record_ends = get_or_at (gather field_bytes r) line_feed [] 0 (fields * width) row_long

  pub record_reads : (record_of (record_bytes k r)).fields ≡ r
  unfolding record_bytes record_of field_at
  record_reads =
      let b = record_bytes k r in
      ext_get_or blank (record_of b).fields r (length_row b ∙ sym f.long) (λ j h.
      let e : 1 + j ≡ suc j = omega arith in
      let i : 1 + j * width ≡ suc (j * width) = omega arith in
      at_tab (field_at b) fields 1 j blank (omega (arith, length_row b))
      ∙ ap (field_at b) e
      ∙ ap (λ m. record { content = content_of (take width (drop m b)) }) i
      ∙ ap (λ bs. record { content = content_of bs }) (gather_at field_bytes width (each_long (can_spell f)) j (line_feed ∷ []) blank (omega (arith, length_row b, f.long)))
      ∙ ap (λ c. record { content = c }) (content_says (at r (suc j)) (f.spelled (suc j))))

-- ---- a record that is taken

module _ (b : List ℕ) where
  -- the bytes of n fields after the first s
  chunks : (n s : ℕ) → s + n ≤ fields → ((g : ℕ) → 1 ≤ g → g ≤ fields → field_bytes (field_at b g) ≡ bytes_at b g) →
      gather field_bytes (tab n (s + 1) (field_at b)) ≡ take (n * width) (drop (1 + s * width) b)
  unfolding gather
  chunks zero s h e = refl
  chunks (suc n) s h e =
      let p : s + 1 ≡ suc s = omega arith in
      let q : 1 + s * width + width ≡ 1 + (s + 1) * width = omega arith in
      let m : width + n * width ≡ suc n * width = omega arith in
      ap₂ ◌++◌ (e (s + 1) (omega arith) (omega arith) ∙ ap (bytes_at b) p) (chunks n (s + 1) (omega arith) e)
      ∙ ap (λ l. take width (drop (1 + s * width) b) ++ take (n * width) l) (sym (drop-drop width (1 + s * width) b ∙ ap (λ i. drop i b) q))
      ∙ sym (take-add width (n * width) (drop (1 + s * width) b))
      ∙ ap (λ i. take i (drop (1 + s * width) b)) m

  record_back : (k : Kind) → length b ≡ record_length → get_or b 0 0 ≡ letter_of k → get_or b (record_length - 1) 0 ≡ line_feed →
      ((f : ℕ) → HasSpelling (at (record_of b).fields f)) → record_bytes k (record_of b).fields ≡ b
  unfolding record_bytes record_of field_at
  record_back k l p e h =
      let none : (f : ℕ) → IsBad (record_of b).fields f → ⊥ = λ f (i, q). subst HasSpelling q (h f) in
      let spelled : (f : ℕ) → 1 ≤ f → f ≤ fields → field_bytes (field_at b f) ≡ bytes_at b f =
      λ f g i. ap content_bytes (sym (field_is b f g i)) ∙ (field_back b l none f g i).1 in
      let last : drop (record_length - 1) b ≡ line_feed ∷ [] =
      drop-cons b (record_length - 1) 0 (omega arith) ∙ ap₂ ◌∷◌ e (drop_of_length-le b {i = record_length} (omega arith)) in
      ap (λ m. letter_of k ∷ (m ++ (line_feed ∷ []))) (chunks fields 0 (omega arith) spelled)
      ∙ ap₂ (λ x y. x ∷ (take (fields * width) (drop 1 b) ++ y)) (sym p) (sym (drop-drop (fields * width) 1 b ∙ last))
      ∙ ap (λ m. get_or b 0 0 ∷ m) (take-append-drop (fields * width) (drop 1 b))
      ∙ sym (drop-cons b 0 0 (omega arith))

pub item_back : (c : Case) (b : List ℕ) (t : IsTaken c b) → item_bytes t.kind (item_of t.kind (record_of b).fields) ≡ b
item_back c b t =
    ap (record_bytes t.kind) (fields_again t.kind (record_of b).fields t.fit) ∙ record_back b t.kind t.whole t.letter t.ended t.fit.spelled
