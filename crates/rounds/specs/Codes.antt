-- The loops that make a row, upwards and downwards, and what a row tells. Assumes nothing.
use Rattle.std.specs.Prelude.{◌≡◌, refl, List, Bool, true, false, cond, ◌||◌, ltb, length, get_or, set, replicate}
use Rattle.std.proofs.Common.{sym, ◌∙◌, ap₂, subst, ⊎_elim, eq-or-lt_of_le, lt-ltb, le-ltb}
use Rattle.std.proofs.Math.Path.{ap}
use Rattle.std.proofs.Math.Bool.{not, or_assoc, or_comm, or-false}
use Prim.Native.Nat.{ℕ, zero, suc, ◌+◌, ◌-◌, ◌≤◌, ◌<◌}
use native.Mathlib.Omega.{arith}
use Rattle.std.proofs.lemmas.Bool.{not-false}
use Rattle.laws.specs.Tests.{neither}
use Rattle.laws.specs.Tab.{entry}
use Rattle.laws.specs.Ready.{Ready, ready_none, ready_more, ready_all, Behind, behind_none, behind_more, behind_all}
use Rattle.kinds.specs.declared.Kind.TheVariants as kind
use Rattle.items.specs.Lists.{Items, room_of}
use Rattle.meaning.specs.Judged.{marked}
use Rattle.verdict.specs.declared.Throughout.{Throughout}
use Rattle.verdict.specs.declared.Throughout.TheVariants.{Always, Never, Changes}
use Rattle.verdict.specs.Rounds.{flag}
use Rattle.verdict.specs.Verdict.{is_always, is_never}
use Rattle.rounds.specs.declared.Row.{Row}
use Rattle.rounds.specs.Rows.{code_of, mark_code, agrees, code_at, agrees_at, some_off, row_of, first_off, wrong_in}
use Rattle.rounds.specs.Search.{off_same}

-- ---- some number that fails a test

module _ (ok : ℕ → Bool) (n : ℕ) where
  some_turn : (p : ℕ) → p < n → some_off ok p (n - p) ≡ (not (ok p) || some_off ok (p + 1) (n - (p + 1)))
  unfolding some_off
  some_turn p h =
      let d : n - p ≡ suc (n - (p + 1)) = omega arith in
      let e : suc p ≡ p + 1 = omega arith in
      ap (some_off ok p) d ∙ ap (λ q. not (ok p) || some_off ok q (n - (p + 1))) e

  some_end : (p : ℕ) → n ≤ p → some_off ok p (n - p) ≡ false
  unfolding some_off
  some_end p h = let d : n - p ≡ 0 = omega arith in ap (some_off ok p) d

-- where there is none, each meets the test
pub none_off : (ok : ℕ → Bool) (p d q : ℕ) → p ≤ q → q < p + d → some_off ok p d ≡ false → ok q ≡ true
unfolding some_off
none_off ok p zero q a b e = absurd (omega arith)
none_off ok p (suc d) q a b e =
    let h = neither (not (ok p)) (some_off ok (suc p) d) e in
    ⊎_elim (λ w. subst (λ k. ok k ≡ true) w (not-false (ok p) h.0)) (λ w. none_off ok (suc p) d q w (omega arith) h.1) (eq-or-lt_of_le a)

-- there is one where the first is among them
pub some_first : (ok : ℕ → Bool) (p d : ℕ) → some_off ok p d ≡ ltb (first_off ok p d) (p + d)
unfolding some_off first_off
some_first ok p zero = sym (le-ltb p (p + 0) (omega arith))
some_first ok p (suc d) = let e : suc p + d ≡ p + suc d = omega arith in by (ok p) (first_off ok (suc p) d) (some_first ok (suc p) d ∙ ap (ltb (first_off ok (suc p) d)) e)
  where
    by : (t : Bool) (q : ℕ) {s : Bool} → s ≡ ltb q (p + suc d) → (not t || s) ≡ ltb (cond t q p) (p + suc d)
    by true q h = h
    by false q h = sym (lt-ltb p (p + suc d) (omega arith))

-- ---- a mark agrees where it is right

-- the code of what doesn't look at the round
pub flag_code : (b : Bool) → mark_code b ≡ code_of (flag b)
flag_code true = refl
flag_code false = refl

agrees_right : (b : Bool) (t : Throughout) → agrees (code_of t) b ≡ cond b (is_always t) (is_never t)
agrees_right true Always = refl
agrees_right true Never = refl
agrees_right true Changes = refl
agrees_right false Always = refl
agrees_right false Never = refl
agrees_right false Changes = refl

-- ---- the row of sentence i, of which f tells

module _ (x : Items) (i : ℕ) (f : ℕ → Throughout) where
  -- the number of places, and the test
  abbrev n : ℕ
  n = length x.places

  abbrev ok : ℕ → Bool
  ok = agrees_at x i f

  pub code_past : (p : ℕ) → n ≤ p → code_at x f p ≡ 0
  code_past p h = ap (λ b. cond b (code_of (f p)) 0) (le-ltb p n h)

  code_held : (p : ℕ) → p < n → code_at x f p ≡ code_of (f p)
  code_held p h = ap (λ b. cond b (code_of (f p)) 0) (lt-ltb p n h)

  -- upwards: it is done below place p, and off where it was there or is from p on
  abbrev pub UpTo : List ℕ → Bool → ℕ → Type 0
  UpTo l off p = Ready (code_at x f) (room_of kind.Place) n 0 l p × ((off || some_off ok p (n - p)) ≡ some_off ok 0 n)

  pub up_none : UpTo (replicate (room_of kind.Place) 0) false 0
  up_none = let e : n - 0 ≡ n = omega arith in (ready_none code_past, ap (some_off ok 0) e)

  pub up_more : {l : List ℕ} (off : Bool) {o b : Bool} {p v : ℕ} → p < n → p < room_of kind.Place → v ≡ code_of (f p) → b ≡ marked x i p
      → o ≡ (off || not (agrees v b)) → UpTo l off p → UpTo (set l p v) o (p + 1)
  up_more off {p = p} h r e k w u =
      (ready_more (e ∙ sym (code_held p h)) r u.0, rw (w, e, k) (or_assoc off (not (ok p)) _ ∙ ap (λ t. off || t) (sym (some_turn ok n p h)) ∙ u.1))

  pub up_all : {l : List ℕ} {off : Bool} {p : ℕ} → n ≤ p → UpTo l off p → record { at = l; off = off } ≡ row_of x i f
  up_all {off = off} {p = p} h u =
      let e : off ≡ some_off ok 0 n = sym (or-false off) ∙ ap (λ t. off || t) (sym (some_end ok n p h)) ∙ u.1 in
      λ j. record { at = ready_all h u.0 j; off = e j }

  -- downwards: it is done from place p on
  abbrev pub DownTo : List ℕ → Bool → ℕ → Type 0
  DownTo l off p = Behind (code_at x f) (room_of kind.Place) 0 l p × (off ≡ some_off ok p (n - p))

  pub down_none : {p : ℕ} → n ≤ p → DownTo (replicate (room_of kind.Place) 0) false p
  down_none {p} h = (behind_none (λ k a. code_past k (omega arith)), sym (some_end ok n p h))

  pub down_more : {l : List ℕ} (off : Bool) {o b : Bool} {p v : ℕ} → 0 < p → p ≤ n → p ≤ room_of kind.Place → v ≡ code_of (f (p - 1)) → b ≡ marked x i (p - 1)
      → o ≡ (off || not (agrees v b)) → DownTo l off p → DownTo (set l (p - 1) v) o (p - 1)
  down_more off {p = p} a h r e k w u =
      let q : p ≡ (p - 1) + 1 = omega arith in (
        behind_more (e ∙ sym (code_held (p - 1) (omega arith))) a r u.0,
        rw (w, e, k)
            (or_comm off (not (ok (p - 1))) ∙ ap (λ t. not (ok (p - 1)) || t) (u.1 ∙ ap (λ k. some_off ok k (n - k)) q) ∙ sym (some_turn ok n (p - 1) (omega arith))),
      )

  pub down_all : {l : List ℕ} {off : Bool} → DownTo l off 0 → record { at = l; off = off } ≡ row_of x i f
  down_all u =
      let e : n - 0 ≡ n = omega arith in
      let w = u.1 ∙ ap (some_off ok 0) e in
      λ j. record { at = behind_all u.0 j; off = w j }

  -- ---- what the row tells

  module _ (few : n ≤ room_of kind.Place) {r : Row} (e : r ≡ row_of x i f) where
    pub row_at : (p : ℕ) → p < n → get_or r.at p 0 ≡ code_of (f p)
    row_at p h = ap (λ (r : Row). get_or r.at p 0) e ∙ entry (code_at x f) (room_of kind.Place) p 0 (omega arith) ∙ code_held p h

    -- the first wrong mark
    pub wrong_by : wrong_in x i r ≡ first_off (λ p. cond (marked x i p) (is_always (f p)) (is_never (f p))) 0 n
    wrong_by = off_same _ _ 0 n (λ p a b. ap (λ c. agrees c (marked x i p)) (row_at p (omega arith)) ∙ agrees_right (marked x i p) (f p))

  -- where it isn't off, each mark is as its code
  pub not_off : (row_of x i f).off ≡ false → (p : ℕ) → p < n → agrees (code_of (f p)) (marked x i p) ≡ true
  not_off e p h = none_off ok 0 n p (omega arith) (omega arith) e

  -- it is off where there is one
  pub off_is : (row_of x i f).off ≡ ltb (first_off (λ p. cond (marked x i p) (is_always (f p)) (is_never (f p))) 0 n) n
  off_is =
      let e : 0 + n ≡ n = omega arith in
      some_first ok 0 n ∙ ap₂ ltb (off_same _ _ 0 n (λ p a b. agrees_right (marked x i p) (f p))) e
