-- What the spelling of a field means: each number from -999,999 to 9,999,999 has one spelling, of seven bytes, and what is read as a number is
-- its spelling. Assumes nothing.
use Rattle.std.specs.Prelude.{◌≡◌, ◌↔◌, List, ◌++◌, ℕ, ◌+◌, ◌-◌, ℤ, pos, negsuc, neg_ℤ, ◌≤ℤ◌, length, replicate}
use Rattle.std.proofs.Common.{◌∙◌, sym, ap, subst, arith, leb→le, le→leb, length-append}
use Rattle.std.proofs.lemmas.List.{length-replicate}
use Rattle.laws.specs.All.{All}
use Rattle.laws.specs.Members.{all_map}
use Rattle.record.specs.declared.Content.{Content}
use Rattle.record.specs.declared.Content.TheVariants.{Blank, Number, Bad}
use Rattle.record.specs.declared.Field.{Field}
use Rattle.record.specs.Spelling.{space, content_of}
use Rattle.record.specs.Spell.{token, spell, Spellable, HasSpelling, content_bytes}
use Rattle.record.specs.Layout.{width}
use Rattle.record_laws.specs.Reading.{token_fits, number_reads, spaces_blank, SaysAll, says_all}

-- each number of the range has a spelling of seven bytes
pub spell_length : (z : ℤ) → Spellable z → length (spell z) ≡ width
unfolding spell
spell_length z h =
    omega (arith, (token_fits z).0 h, length-append (replicate (width - length (token z)) space) (token z), length-replicate (width - length (token z)) space)

-- a number's spelling is read as the number
pub spell_reads : (z : ℤ) → content_of (spell z) ≡ Number z
unfolding spell
spell_reads z = number_reads (width - length (token z)) 0 z

-- seven bytes that are read as a number are the spelling of that number: no number is read in part
pub one_spelling : (bs : List ℕ) (z : ℤ) → length bs ≡ width → content_of bs ≡ Number z → (bs ≡ spell z) × Spellable z
unfolding spell
one_spelling bs z l e =
    let (k, t) = subst (SaysAll 0 bs) e (says_all 0 bs) in
    let n : length bs ≡ k + length (token z) = ap length t ∙ length-append (replicate k space) (token z) ∙ ap (λ i. i + length (token z)) (length-replicate k space) in
    let q : k ≡ width - length (token z) = omega arith in
    (t ∙ ap (λ i. replicate i space ++ token z) q, (token_fits z).1 (omega arith))

-- what is blank is spaces
pub blank_spaces : (bs : List ℕ) → content_of bs ≡ Blank → bs ≡ replicate (length bs) space
blank_spaces bs e = subst (SaysAll 0 bs) e (says_all 0 bs)

-- the bytes of a field that can be spelled: seven, which say what it says
pub content_long : (c : Content) → HasSpelling c → length (content_bytes c) ≡ width
content_long Blank h = length-replicate width space
content_long (Number z) h = spell_length z h
content_long (Bad k) h = absurd h

pub each_long : {r : List Field} → All (λ g. HasSpelling g.content) r → All (λ g. length (content_bytes g.content) ≡ width) r
each_long h = all_map (λ g. content_long g.content) h

pub content_says : (c : Content) → HasSpelling c → content_of (content_bytes c) ≡ c
content_says Blank h = spaces_blank width 0
content_says (Number z) h = spell_reads z
content_says (Bad k) h = absurd h

-- two numbers have two spellings
pub spell_apart : (y z : ℤ) → spell y ≡ spell z → y ≡ z
spell_apart y z e =
    let q : Number y ≡ Number z = sym (spell_reads y) ∙ ap content_of e ∙ spell_reads z in
    cc

-- the numbers that a field can spell
pub spellable_range : (z : ℤ) → Spellable z ↔ ((neg_ℤ (pos 999999) ≤ℤ z) × (z ≤ℤ pos 9999999))
spellable_range (pos n) =
    (λ h. (record { le = tt }, record { le = le→leb n 9999999 (omega arith) }), λ r. omega (arith, leb→le n 9999999 r.1.le))
spellable_range (negsuc n) =
    (λ h. (record { le = le→leb n 999998 (omega arith) }, record { le = tt }), λ r. omega (arith, leb→le n 999998 r.0.le))
