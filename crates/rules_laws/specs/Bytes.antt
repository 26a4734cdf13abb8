-- The fields of a record, by their bytes: what they say, and which has a bad byte. Assumes nothing.
use Rattle.std.specs.Prelude.{◌≡◌, refl, List, [], ℕ, zero, suc, ◌+◌, ◌*◌, ◌<◌, ◌≤◌, length, drop}
use Rattle.std.proofs.Common.{◌∙◌, sym, ap, subst, arith, length-take, length-drop}
use Rattle.std.proofs.Math.Decide.{dec_lt}
use Rattle.laws.specs.Tests.{Tells}
use Rattle.laws.specs.Lists.{past_end}
use Rattle.laws.specs.Tab.{length_tab, at_tab}
use Rattle.record.specs.declared.Content.{Content}
use Rattle.record.specs.declared.Content.TheVariants.{Blank, Number, Bad}
use Rattle.record.specs.declared.Field.{Field}
use Rattle.record.specs.Layout.{width, fields, record_length, bytes_at, field_at, record_of}
use Rattle.record.specs.Spelling.{content_of}
use Rattle.record.specs.Spell.{HasSpelling, content_bytes, ReadAs}
use Rattle.record_laws.specs.BadByte.{bad_within, read_as}
use Rattle.kinds.specs.declared.Kind.TheVariants.{State}
use Rattle.table.specs.Table.{shape_of}
use Rattle.checks.specs.declared.Fault.TheVariants as fault
use Rattle.checks.specs.Faults.{misspelled}
use Rattle.rules.specs.Rules.{fields_of, content_at, IsBad, BadAt, HasBad}
use Rattle.rules_laws.specs.Tells.{tells_bad}
use Rattle.rules_laws.specs.Stages.{in_record}

pub length_row : (b : List ℕ) → length (record_of b).fields ≡ fields
unfolding record_of
length_row b = length_tab (field_at b) fields 1

-- a field by its bytes
pub field_is : (b : List ℕ) (f : ℕ) → 1 ≤ f → f ≤ fields → content_at b f ≡ content_of (bytes_at b f)
unfolding record_of field_at
field_is b zero p h = absurd (omega arith)
field_is b (suc k) p h =
    let i : 1 + k ≡ suc k = omega arith in
    ap (λ x. x.content) (at_tab (field_at b) fields 1 k _ (omega arith)) ∙ ap (λ j. (field_at b j).content) i

bytes_long : (b : List ℕ) → length b ≡ record_length → (f : ℕ) → 1 ≤ f → f ≤ fields → length (bytes_at b f) ≡ width
bytes_long b l zero p h = absurd (omega arith)
bytes_long b l (suc k) p h = let s : ℕ = 1 + k * width in omega (arith, length-take width (drop s b), length-drop s b)

-- it says what all its bytes say
pub field_read : (b : List ℕ) → length b ≡ record_length → (f : ℕ) → 1 ≤ f → f ≤ fields → ReadAs (bytes_at b f) (content_at b f)
field_read b l f p h = subst (ReadAs (bytes_at b f)) (sym (field_is b f p h)) (read_as (bytes_at b f) (bytes_long b l f p h))

-- a field that isn't bad can be spelled, and its bytes are that spelling
read_back : (bs : List ℕ) (c : Content) → ReadAs bs c → ((k : ℕ) → c ≡ Bad k → ⊥) → HasSpelling c × (content_bytes c ≡ bs)
read_back bs Blank r n = (tt, sym (r.blank.0 refl))
read_back bs (Number z) r n = let h = (r.number z).0 refl in (h.1, sym h.0)
read_back bs (Bad k) r n = absurd (n k refl)

module _ (b : List ℕ) (l : length b ≡ record_length) (none : (f : ℕ) → IsBad (fields_of b) f → ⊥) where
  pub field_back : (f : ℕ) → 1 ≤ f → f ≤ fields → HasSpelling (content_at b f) × (content_bytes (content_at b f) ≡ bytes_at b f)
  field_back f p h = read_back (bytes_at b f) (content_at b f) (field_read b l f p h) (λ k e. none f (k, e))

  -- there is no field 0 and none past the last: what it says is blank
  pub all_spelled : (f : ℕ) → HasSpelling (content_at b f)
  all_spelled f =
      elim (dec_lt 0 f) [
        | yes p ↦ elim (dec_lt fields f) [
          | yes h ↦ subst HasSpelling (ap (λ (x : Field). x.content) (past_end (record { content = Blank }) (fields_of b) f (omega (arith, length_row b)))) tt
          | no h ↦ (field_back f p (omega arith)).0
        ]
        | no p ↦ let e : 0 ≡ f = omega arith in subst (λ g. HasSpelling (content_at b g)) e tt
      ]

-- a bad byte is a byte of one of the fields
pub bad_in : (b : List ℕ) (f k : ℕ) → BadAt b f k → (1 ≤ f) × (k < width)
bad_in b zero k h = absurd (omega (arith, bad_within [] k h.1))
bad_in b (suc g) k h =
    let s : ℕ = 1 + g * width in
    (omega arith, omega (arith, bad_within (bytes_at b (suc g)) k h.1, length-take width (drop s b)))

module _ (b : List ℕ) (l : length b ≡ record_length) where
  -- the field that has a bad byte says which it is
  pub bad_says : (f k : ℕ) → BadAt b f k → content_at b f ≡ Bad k
  bad_says f k h = ((field_read b l f (bad_in b f k h).0 h.0).bad k).1 h.1

  -- the test of 14 tells whether a field has one
  pub tells_bad_byte : (f : ℕ) → Tells (misspelled (content_at b f)) (HasBad b f)
  tells_bad_byte f = (
    λ e.
        let (p, h) = in_record fault.Misspelled (shape_of State (record_of b)) b f e in
        let (k, q) = (tells_bad (fields_of b) f).0 e in
        (k, (h, ((field_read b l f p h).bad k).0 q)),
    λ (k, h). ap misspelled (bad_says f k h),
  )
