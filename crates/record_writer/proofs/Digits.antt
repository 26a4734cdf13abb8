-- A number put into a field: its digits from the last on, and a minus before them. Assumes nothing.
use Rattle.std.specs.Prelude.{unsigned_abs}
use mathlib.Core.Path.{◌≡◌, refl, sym, ◌∙◌, ap}
use mathlib.Core.List.{List, [], ◌∷◌, ◌++◌, append-nil}
use mathlib.Core.Bool.{true, false, true≢false}
use Prim.Native.Nat.{ℕ, suc, ◌+◌, ◌-◌, ◌*◌, ◌/◌, ◌%◌, ◌^◌, ◌≤◌, ◌<◌}
use native.Mathlib.Omega.{arith}
use lib.IntN.{ℤ, pos, negsuc}
use lib.Signed.{lt_z}
use lib.ListN.{length, take, drop, get_or, set, length-append, length-take, length-drop, take-append-drop}
use lib.Seq.{length-take-le, take-suc, append_snoc, set_at}
use borrow.Author.Tests.{ltb-true}
use mir.Syntax.{w32, w64}
use mir.Val.{SFits, to_z, of_z}
use Rattle.laws.specs.Sizes.{size, size_fits, size_read}
use Rattle.record.specs.Spelling.{minus, digit}
use Rattle.record.specs.Spell.{numeral, token, Spellable}
use Rattle.record.specs.Layout.{width}
use Rattle.record_laws.specs.Digits.{numeral_by, numeral_one, numeral_more, numeral_length}
use Rattle.record_writer.specs.Fields.{ending_at, Put}

-- one byte more before the text
pub put_before : {p text q : List ℕ} {i : ℕ} (a : ℕ) → width ≤ length p → 0 < i → Put p text q i → Put p (a ∷ text) (set q (i - 1) a) (i - 1)
unfolding ending_at
put_before {p} {text} {q} {i} a l h u =
    let j = i - 1 in
    let e : width - length text ≡ suc (i - 1) = omega (arith, u.ends) in
    let f : i - 1 ≡ width - suc (length text) = omega (arith, u.ends) in
    let after = text ++ drop width p in
    record {
      ends = omega (arith, u.ends);
      bytes =
          ap (λ t. set t j a)
          (u.bytes ∙ ap (λ k. take k p ++ after) e ∙ ap (λ t. t ++ after) (take-suc p j 0 (omega (arith, u.ends))) ∙ append_snoc (take j p) (get_or p j 0) after)
          ∙ set_at (take j p) (get_or p j 0) after a j (length-take-le j p (omega (arith, u.ends)))
          ∙ ap (λ k. take k p ++ (a ∷ after)) f;
    }

-- of the digits of m all but those of n are put
pub record Digits (p₀ : List ℕ) (m : ℕ) (p : List ℕ) (i n : ℕ) : Type 0 where
  pub done : List ℕ
  pub all : numeral m ≡ numeral n ++ done
  pub put : Put p₀ done p i
  pub room : 0 < i
  pub long : length p ≡ length p₀

numeral_some : (n : ℕ) → 0 < length (numeral n)
numeral_some = numeral_by (λ n ds. 0 < length ds) (λ d h. omega arith) (λ n d ds p h l. omega (arith, length-append ds (digit d ∷ [])))

module _ (p₀ : List ℕ) (m : ℕ) (w : width ≤ length p₀) (s : m < 10 ^ width) where
  digits_by : {p : List ℕ} {i n : ℕ} (done : List ℕ) → numeral m ≡ numeral n ++ done → Put p₀ done p i → Digits p₀ m p i n
  unfolding ending_at
  digits_by {p} {i} {n} done e u =
      let after = drop width p₀ in
      record {
        done = done;
        all = e;
        put = u;
        room = omega (arith, ap length e, length-append (numeral n) done, numeral_some n, numeral_length m (width - 1) s, u.ends);
        long =
            let j = width - length done in
            omega
            (arith, ap length u.bytes, length-append (take j p₀) (done ++ after), length-take j p₀, length-append done after, length-drop width p₀, u.ends);
      }

  pub digits_none : Digits p₀ m p₀ width m
  unfolding ending_at
  digits_none = digits_by [] (sym (append-nil (numeral m))) (record { ends = refl; bytes = sym (take-append-drop width p₀) })

  module _ {p : List ℕ} {i n : ℕ} (d : Digits p₀ m p i n) where
    pub digits_more : 9 < n → Digits p₀ m (set p (i - 1) (digit (n % 10))) (i - 1) (n / 10)
    digits_more h =
        let e : 10 * (n / 10) + n % 10 ≡ n = omega arith in
        digits_by (digit (n % 10) ∷ d.done)
        (d.all
        ∙ ap (λ t. t ++ d.done) (ap numeral (sym e) ∙ numeral_more (n / 10) (n % 10) (omega arith) (omega arith))
        ∙ append_snoc (numeral (n / 10)) (digit (n % 10)) d.done)
        (put_before (digit (n % 10)) w d.room d.put)

    pub digits_done : n ≤ 9 → Put p₀ (numeral m) (set p (i - 1) (digit n)) (i - 1)
    digits_done h = rw (d.all ∙ ap (λ t. t ++ d.done) (numeral_one n (omega arith))) (put_before (digit n) w d.room d.put)

-- ---- the sign

spellable_size : (x : ℤ) → Spellable x → size x < 2 ^ 31
spellable_size (pos n) h = omega arith
spellable_size (negsuc n) h = omega arith

pub read_same : (x : ℤ) → Spellable x → to_z w32 (of_z w32 x) ≡ x
read_same x h = size_read w32 x (spellable_size x h)

-- n is the size of x, as it is read
module _ (x : ℤ) (h : Spellable x) {n : ℕ} (is : n ≡ unsigned_abs (to_z w32 (of_z w32 x))) where
  -- where x isn't below 0, it is spelled by the digits of n
  pub plain_text : lt_z (to_z w32 (of_z w32 x)) (pos 0) ≡ false → token x ≡ numeral n
  unfolding token
  plain_text e = go x (rw (read_same x h) at e) ∙ ap numeral (sym (is ∙ ap unsigned_abs (read_same x h)))
    where
      go : (x : ℤ) → lt_z x (pos 0) ≡ false → token x ≡ numeral (unsigned_abs x)
      go (pos m) e = refl
      go (negsuc m) e = absurd (true≢false e)

  -- where it is, by a minus and these, which leave room for it in a field
  pub below_text : lt_z (to_z w32 (of_z w32 x)) (pos 0) ≡ true → (token x ≡ minus ∷ numeral n) × (n < 10 ^ (width - 1))
  unfolding token
  below_text e = rw (is ∙ ap unsigned_abs (read_same x h)) (go x h (rw (read_same x h) at e))
    where
      go : (x : ℤ) → Spellable x → lt_z x (pos 0) ≡ true → (token x ≡ minus ∷ numeral (unsigned_abs x)) × (unsigned_abs x < 10 ^ (width - 1))
      go (pos m) h e = absurd (omega (arith, ltb-true m 0 e))
      go (negsuc m) h e = (refl, h)

-- ---- a number that is kept in 64 bits

-- z, which is read as y from where it is kept, is handed on in 32 bits
pub record HandedOn (z y : ℤ) : Type 0 where
  pub fits : SFits w32 y
  pub same : to_z w32 (of_z w32 y) ≡ z
  pub spells : Spellable (to_z w32 (of_z w32 y))

pub handed_on : (z : ℤ) → Spellable z → HandedOn z (to_z w64 (of_z w64 z))
handed_on z h =
    let s = spellable_size z h in
    rw (size_read w64 z (omega arith)) (record { fits = size_fits w32 z s; same = read_same z h; spells = rw (read_same z h) h })
