-- Which byte of a field is bad: seven bytes are blank, or the spelling of a number, or have one bad byte; and reading tells which. Assumes nothing.
use Rattle.std.specs.Prelude.{◌≡◌, refl, ◌⊎◌, List, [], ◌∷◌, ◌++◌, ℕ, zero, suc, ◌+◌, ◌<◌, ◌≤◌, ℤ, length, replicate, take, drop}
use Rattle.std.proofs.Common.{◌∙◌, sym, ap, subst, inl, inr, ⊎_elim, append_assoc, add-one, arith, take-append-drop, take_all}
use Rattle.std.proofs.Math.Decide.{dec_lt}
use Rattle.std.proofs.lemmas.List.{length-replicate}
use Rattle.laws.specs.Lowest.{neither_less}
use Rattle.record.specs.declared.Content.{Content}
use Rattle.record.specs.declared.Content.TheVariants.{Blank, Number, Bad}
use Rattle.record.specs.Spelling.{space, content_of}
use Rattle.record.specs.Spell.{IsSpelling, WellFormed, Starts, IsBadByte, ReadAs}
use Rattle.record.specs.Layout.{width}
use Rattle.record_laws.specs.Stops.{IsFine}
use Rattle.record_laws.specs.Reading.{spaces_blank, SaysAll, says_all}
use Rattle.record_laws.specs.Spelled.{spell_length, spell_reads, one_spelling, blank_spaces, spell_apart}

-- ---- what starts a well-formed field

-- the first j bytes, and those up to k after them
shorter : (bs : List ℕ) (j k : ℕ) → j ≤ k → (more : List ℕ) × (take j bs ++ more ≡ take k bs)
shorter bs zero k h = (take k bs, refl)
shorter bs (suc j) zero h = absurd (omega arith)
shorter [] (suc j) (suc k) h = ([], refl)
shorter (b ∷ bs) (suc j) (suc k) h = let (more, e) = shorter bs j k (omega arith) in (more, ap (λ xs. b ∷ xs) e)

starts_shorter : (bs : List ℕ) (j k : ℕ) → j ≤ k → Starts (take k bs) → Starts (take j bs)
starts_shorter bs j k h (more, w) =
    let (xs, e) = shorter bs j k h in
    (xs ++ more, subst WellFormed (ap (λ ys. ys ++ more) (sym e) ∙ append_assoc (take j bs) xs more) w)

-- a well-formed field starts one with as many of its bytes as one likes
well_starts : (bs : List ℕ) (k : ℕ) → WellFormed bs → Starts (take k bs)
well_starts bs k w = (drop k bs, subst WellFormed (sym (take-append-drop k bs)) w)

-- so no byte of it is bad
well_has_none : (bs : List ℕ) (k : ℕ) → WellFormed bs → IsBadByte bs k → ⊥
well_has_none bs k w b = b.1 (well_starts bs (k + 1) w)

-- there is one bad byte at most
not_before : (bs : List ℕ) (j k : ℕ) → IsBadByte bs j → IsBadByte bs k → j < k → ⊥
not_before bs j k v w h = v.1 (starts_shorter bs (j + 1) k (omega arith) w.0)

pub one_bad_byte : (bs : List ℕ) (j k : ℕ) → IsBadByte bs j → IsBadByte bs k → j ≡ k
one_bad_byte bs j k v w = neither_less (not_before bs j k v w) (not_before bs k j w v)

-- and it is a byte of the field
pub bad_within : (bs : List ℕ) (k : ℕ) → IsBadByte bs k → k < length bs
bad_within bs k b = elim (dec_lt k (length bs)) [
  | yes h ↦ h
  | no h ↦
      let e : take (k + 1) bs ≡ take k bs = take_all (k + 1) bs (omega arith) ∙ sym (take_all k bs (omega arith)) in
      absurd (b.1 (subst Starts (sym e) b.0))
]

-- ---- what reading tells

well_length : (bs : List ℕ) → WellFormed bs → length bs ≡ width
well_length bs = ⊎_elim (λ e. ap length e ∙ length-replicate width space) (λ (z, h). ap length h.0 ∙ spell_length z h.1)

well_fine : (bs : List ℕ) → WellFormed bs → IsFine (content_of bs)
well_fine bs =
    ⊎_elim (λ e. subst IsFine (sym (ap content_of e ∙ spaces_blank width 0)) tt) (λ (z, h). subst IsFine (sym (ap content_of h.0 ∙ spell_reads z)) tt)

module _ (bs : List ℕ) (l : length bs ≡ width) where
  -- seven bytes that say blank are spaces, and those of which no byte is told are well-formed
  blank_well : content_of bs ≡ Blank → bs ≡ replicate width space
  blank_well e = blank_spaces bs e ∙ ap (λ k. replicate k space) l

  well_by : (c : Content) → content_of bs ≡ c → IsFine c → WellFormed bs
  well_by Blank e f = inl (blank_well e)
  well_by (Number z) e f = inr (z, one_spelling bs z l e)
  well_by (Bad k) e f = absurd f

-- the byte that is told is the bad byte
told_bad : (bs : List ℕ) (k : ℕ) → length bs ≡ width → content_of bs ≡ Bad k → IsBadByte bs k
told_bad bs k l e =
    let (j, p, s) = subst (SaysAll 0 bs) e (says_all 0 bs) in
    let q : k ≡ j = omega arith in
    rw (q, add-one) (
      (s.more, well_by (take j bs ++ s.more) (s.whole ∙ l) _ refl s.goes),
      (λ (rest, w). subst IsFine (s.ends rest (well_length _ w ∙ sym l)) (well_fine _ w)),
    )

-- all of seven bytes say it
pub read_as : (bs : List ℕ) → length bs ≡ width → ReadAs bs (content_of bs)
read_as bs l =
    record {
      blank = (blank_well bs l, λ q. ap content_of q ∙ spaces_blank width 0);
      number = λ z. (one_spelling bs z l, λ h. ap content_of h.0 ∙ spell_reads z);
      bad = λ k. (told_bad bs k l, go k (content_of bs) refl);
    }
  where
    go : (k : ℕ) (c : Content) → content_of bs ≡ c → IsBadByte bs k → c ≡ Bad k
    go k Blank e b = absurd (well_has_none bs k (well_by bs l Blank e tt) b)
    go k (Number z) e b = absurd (well_has_none bs k (well_by bs l (Number z) e tt) b)
    go k (Bad j) e b = ap Bad (one_bad_byte bs j k (told_bad bs j l e) b)

-- ---- the theorem

-- the bytes are exactly one of three: blank, the spelling of one number, or bad at one byte
pub record OneOfThree (bs : List ℕ) : Type 0 where
  pub some : (bs ≡ replicate width space) ⊎ (((z : ℤ) × IsSpelling bs z) ⊎ ((k : ℕ) × IsBadByte bs k))
  pub blank_no_number : bs ≡ replicate width space → (z : ℤ) → IsSpelling bs z → ⊥
  pub blank_not_bad : bs ≡ replicate width space → (k : ℕ) → IsBadByte bs k → ⊥
  pub number_not_bad : (z : ℤ) → IsSpelling bs z → (k : ℕ) → IsBadByte bs k → ⊥
  pub one_number : (y z : ℤ) → IsSpelling bs y → IsSpelling bs z → y ≡ z
  pub one_bad : (j k : ℕ) → IsBadByte bs j → IsBadByte bs k → j ≡ k

pub one_of_three : (bs : List ℕ) → length bs ≡ width → OneOfThree bs
one_of_three bs l =
    record {
      some = some (content_of bs) refl;
      blank_no_number = λ e z h. let o : ◌≡◌ {A = ℕ} 0 1 = cc (sym (spaces_blank width 0) ∙ ap content_of (sym e ∙ h.0) ∙ spell_reads z) in omega arith;
      blank_not_bad = λ e k. well_has_none bs k (inl e);
      number_not_bad = λ z h k. well_has_none bs k (inr (z, h));
      one_number = λ y z v w. spell_apart y z (sym v.0 ∙ w.0);
      one_bad = one_bad_byte bs;
    }
  where
    some : (c : Content) → content_of bs ≡ c → (bs ≡ replicate width space) ⊎ (((z : ℤ) × IsSpelling bs z) ⊎ ((k : ℕ) × IsBadByte bs k))
    some Blank e = inl (blank_well bs l e)
    some (Number z) e = inr (inl (z, one_spelling bs z l e))
    some (Bad k) e = inr (inr (k, told_bad bs k l e))
