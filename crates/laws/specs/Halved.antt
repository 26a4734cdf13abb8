-- The search by halving: its turns as a loop goes, and what it finds. The number of halvings is the same in every turn, where it is enough. Assumes nothing.
use Rattle.std.specs.Prelude.{◌≡◌, Bool, leb}
use Rattle.std.proofs.Math.Path.{refl, ap, subst}
use Rattle.std.proofs.Common.{sym, ◌∙◌, ap₂}
use Rattle.std.proofs.Math.Bool.{true, false, cond}
use Prim.Native.Nat.{ℕ, zero, suc, ◌+◌, ◌-◌, ◌^◌, ◌≤◌, ◌<◌}
use native.Mathlib.Omega.{arith}
use Rattle.std.proofs.Math.Decide.{dec_lt}
use Rattle.laws.specs.Tests.{Tells, cond_by, by_test, tells_not, tells_le, tells_and}
use Rattle.laws.specs.Halving.{is_next, middle, halved, last_from}

-- ---- two numbers

-- the test tells that none is between them
pub tells_next : (a b : ℕ) → Tells (is_next a b) ((a ≤ b + 1) × (b ≤ a + 1))
tells_next a b = tells_and (leb a (b + 1)) (leb b (a + 1)) (tells_le a (b + 1)) (tells_le b (a + 1))

-- if one is, they are further apart, whichever is the greater
pub far_up : (a b : ℕ) → is_next a b ≡ false → a < b → a + 1 < b
far_up a b e h = elim (dec_lt (a + 1) b) [ yes l ↦ l | no l ↦ absurd (tells_not (is_next a b) (tells_next a b) e (omega arith, omega arith)) ]

pub far_down : (a b : ℕ) → is_next a b ≡ false → b < a → b + 1 < a
far_down a b e h = elim (dec_lt (b + 1) a) [ yes l ↦ l | no l ↦ absurd (tells_not (is_next a b) (tells_next a b) e (omega arith, omega arith)) ]

-- neither is more than 2 ^ n from the other
abbrev pub Near : ℕ → ℕ → ℕ → Type 0
Near n a b = (a ≤ b + 2 ^ n) × (b ≤ a + 2 ^ n)

-- the middle is no further from either
pub near_good : (n a b : ℕ) → Near n a b → Near n a (middle a b)
near_good n a b (u, v) = (omega arith, omega arith)

pub near_bad : (n a b : ℕ) → Near n a b → Near n (middle a b) b
near_bad n a b (u, v) = (omega arith, omega arith)

-- but at half the distance
half_good : (n a b : ℕ) → Near (suc n) a b → Near n a (middle a b)
half_good n a b (u, v) = (omega arith, omega arith)

half_bad : (n a b : ℕ) → Near (suc n) a b → Near n (middle a b) b
half_bad n a b (u, v) = (omega arith, omega arith)

module _ (test : ℕ → Bool) where
  -- ---- turns

  -- by one halving more
  abbrev turn : ℕ → ℕ → ℕ → ℕ
  turn n good bad = cond (test (middle good bad)) (halved test n (middle good bad) bad) (halved test n good (middle good bad))

  halved_by : (n good bad : ℕ) → halved test (suc n) good bad ≡ cond (is_next good bad) good (turn n good bad)
  unfolding halved
  halved_by n good bad = by (is_next good bad) (test (middle good bad)) (halved test n (middle good bad) bad) (halved test n good (middle good bad))
    where
      by : (t u : Bool) (i j : ℕ) → elim t as (λ b. ℕ) [ true ↦ good | false ↦ elim u as (λ b. ℕ) [ true ↦ i | false ↦ j ] ] ≡ cond t good (cond u i j)
      by true u i j = refl
      by false true i j = refl
      by false false i j = refl

  -- the end
  pub halved_done : (n good bad : ℕ) → is_next good bad ≡ true → halved test n good bad ≡ good
  unfolding halved
  halved_done zero good bad e = refl
  halved_done (suc n) good bad e = halved_by n good bad ∙ ap (λ t. cond t good (turn n good bad)) e

  halved_next : (n good bad : ℕ) → is_next good bad ≡ false → halved test (suc n) good bad ≡ turn n good bad
  halved_next n good bad e = halved_by n good bad ∙ ap (λ t. cond t good (turn n good bad)) e

  -- one halving more than is needed
  halved_more : (n good bad : ℕ) → Near n good bad → halved test (suc n) good bad ≡ halved test n good bad
  halved_more zero good bad (u, v) =
      let e = (tells_next good bad).1 (omega arith, omega arith) in
      halved_done 1 good bad e ∙ sym (halved_done 0 good bad e)
  halved_more (suc n) good bad near =
      by_test (is_next good bad)
      (λ e. halved_done (suc (suc n)) good bad e ∙ sym (halved_done (suc n) good bad e))
      (λ e.
      halved_next (suc n) good bad e
      ∙ ap₂ (cond (test (middle good bad))) (halved_more n (middle good bad) bad (half_bad n good bad near))
      (halved_more n good (middle good bad) (half_good n good bad near))
      ∙ sym (halved_next n good bad e))

  -- a turn of a loop
  pub halved_turn : (n good bad : ℕ) → Near n good bad → is_next good bad ≡ false →
      halved test n good bad ≡ cond (test (middle good bad)) (halved test n (middle good bad) bad) (halved test n good (middle good bad))
  halved_turn n good bad near e = sym (halved_more n good bad near) ∙ halved_next n good bad e

  -- by what the middle tells
  pub turn_passes : (n good bad : ℕ) → Near n good bad → is_next good bad ≡ false → test (middle good bad) ≡ true →
      halved test n good bad ≡ halved test n (middle good bad) bad
  turn_passes n good bad near e t = halved_turn n good bad near e ∙ ap (λ b. cond b (halved test n (middle good bad) bad) (halved test n good (middle good bad))) t

  pub turn_fails : (n good bad : ℕ) → Near n good bad → is_next good bad ≡ false → test (middle good bad) ≡ false →
      halved test n good bad ≡ halved test n good (middle good bad)
  turn_fails n good bad near e t = halved_turn n good bad near e ∙ ap (λ b. cond b (halved test n (middle good bad) bad) (halved test n good (middle good bad))) t

  -- the limit, which is tried first
  pub limit_passes : (n good limit : ℕ) → test limit ≡ true → last_from test n good limit ≡ limit
  limit_passes n good limit e = ap (λ t. elim t as (λ b. ℕ) [ true ↦ limit | false ↦ halved test n good limit ]) e

  pub limit_fails : (n good limit : ℕ) → test limit ≡ false → last_from test n good limit ≡ halved test n good limit
  limit_fails n good limit e = ap (λ t. elim t as (λ b. ℕ) [ true ↦ limit | false ↦ halved test n good limit ]) e

  -- ---- what is found, of any test

  -- e passes, and the next on the way to bad doesn't
  record Edge (good bad e : ℕ) : Type 0 where
    holds : test e ≡ true
    up : good < bad → (good ≤ e) × (e < bad) × (test (e + 1) ≡ false)
    down : bad < good → (bad < e) × (e ≤ good) × (test (e - 1) ≡ false)

  next_edge : (good bad : ℕ) → test good ≡ true → test bad ≡ false → (good ≤ bad + 1) × (bad ≤ good + 1) → Edge good bad good
  next_edge good bad g b (u, v) =
      record {
        holds = g;
        up = λ h. let e : bad ≡ good + 1 = omega arith in (omega arith, h, ap test (sym e) ∙ b);
        down = λ h. let e : bad ≡ good - 1 = omega arith in (h, omega arith, ap test (sym e) ∙ b);
      }

  from_middle : (good bad : ℕ) → is_next good bad ≡ false → {e : ℕ} → Edge (middle good bad) bad e → Edge good bad e
  from_middle good bad d r =
      record {
        holds = r.holds;
        up = λ h. let l = far_up good bad d h in let q = r.up (omega arith) in (omega (arith, q.0), q.1, q.2);
        down = λ h. let l = far_down good bad d h in let q = r.down (omega arith) in (q.0, omega (arith, q.1), q.2);
      }

  to_middle : (good bad : ℕ) → is_next good bad ≡ false → {e : ℕ} → Edge good (middle good bad) e → Edge good bad e
  to_middle good bad d r =
      record {
        holds = r.holds;
        up = λ h. let l = far_up good bad d h in let q = r.up (omega arith) in (q.0, omega (arith, q.1), q.2);
        down = λ h. let l = far_down good bad d h in let q = r.down (omega arith) in (omega (arith, q.0), q.1, q.2);
      }

  halved_edge : (n good bad : ℕ) → Near n good bad → test good ≡ true → test bad ≡ false → Edge good bad (halved test n good bad)
  unfolding halved
  halved_edge zero good bad (u, v) g b = next_edge good bad g b (omega arith, omega arith)
  halved_edge (suc n) good bad near g b =
      by_test (is_next good bad)
      (λ e. subst (Edge good bad) (sym (halved_done (suc n) good bad e)) (next_edge good bad g b ((tells_next good bad).0 e)))
      (λ e.
      subst (Edge good bad) (sym (halved_next n good bad e))
      (cond_by (Edge good bad) (test (middle good bad))
      (λ w. from_middle good bad e (halved_edge n (middle good bad) bad (half_bad n good bad near) w b))
      (λ w. to_middle good bad e (halved_edge n good (middle good bad) (half_good n good bad near) g w))))

-- ---- the least and the greatest that is so

-- e is the least from low on of which P is true
pub record Least (P : ℕ → Type 0) (low e : ℕ) : Type 0 where
  pub above : low ≤ e
  pub holds : P e
  pub none : (k : ℕ) → low ≤ k → k < e → P k → ⊥

-- e is the greatest up to high
pub record Greatest (P : ℕ → Type 0) (high e : ℕ) : Type 0 where
  pub below : e ≤ high
  pub holds : P e
  pub none : (k : ℕ) → e < k → k ≤ high → P k → ⊥

-- where the test tells it, what is so of two numbers is so of those between them, it is so of `good`, and the halvings are enough
module _ (P : ℕ → Type 0) (test : ℕ → Bool) (low high : ℕ) (tells : (k : ℕ) → low ≤ k → k ≤ high → Tells (test k) (P k))
    (convex : (i j k : ℕ) → low ≤ i → i ≤ j → j ≤ k → k ≤ high → P i → P k → P j)
    (n good : ℕ) (above : low ≤ good) (below : good ≤ high) (few : high ≤ low + 2 ^ n) (holds : P good) where
  fails : (k : ℕ) → low ≤ k → k ≤ high → test k ≡ false → P k → ⊥
  fails k u v = tells_not (test k) (tells k u v)

  apart : (limit : ℕ) → low ≤ limit → limit ≤ high → test limit ≡ false → good ≡ limit → ⊥
  apart limit u v d e = fails limit u v d (subst P e holds)

  pub least_found : (last_from test n good low ≤ good) × Least P low (last_from test n good low)
  least_found = by (test low) refl
    where
      by : (t : Bool) → test low ≡ t → let e = elim t as (λ b. ℕ) [ true ↦ low | false ↦ halved test n good low ] in (e ≤ good) × Least P low e
      by true d = (above, record { above = omega arith; holds = (tells low (omega arith) (omega arith)).0 d; none = λ k u v. absurd (omega arith) })
      by false d =
          let r = halved_edge test n good low (omega arith, omega arith) ((tells good above below).1 holds) d in
          let l : low < good = elim (dec_lt low good) [ yes h ↦ h | no h ↦ absurd (apart low (omega arith) (omega arith) d (omega arith)) ] in
          let q = r.down l in
          let e = halved test n good low in
          let p : P e = (tells e (omega (arith, q.0)) (omega (arith, q.1))).0 r.holds in (
            q.1,
            record {
              above = omega (arith, q.0);
              holds = p;
              none = λ k u v w.
                  fails (e - 1) (omega (arith, q.0)) (omega (arith, q.1)) q.2
                  (convex k (e - 1) e u (omega arith) (omega arith) (omega (arith, q.1)) w p);
            },
          )

  pub greatest_found : (good ≤ last_from test n good high) × Greatest P high (last_from test n good high)
  greatest_found = by (test high) refl
    where
      by : (t : Bool) → test high ≡ t → let e = elim t as (λ b. ℕ) [ true ↦ high | false ↦ halved test n good high ] in (good ≤ e) × Greatest P high e
      by true d = (below, record { below = omega arith; holds = (tells high (omega arith) (omega arith)).0 d; none = λ k u v. absurd (omega arith) })
      by false d =
          let r = halved_edge test n good high (omega arith, omega arith) ((tells good above below).1 holds) d in
          let l : good < high = elim (dec_lt good high) [ yes h ↦ h | no h ↦ absurd (apart high (omega arith) (omega arith) d (omega arith)) ] in
          let q = r.up l in
          let e = halved test n good high in
          let p : P e = (tells e (omega (arith, q.0)) (omega (arith, q.1))).0 r.holds in (
            q.0,
            record {
              below = omega (arith, q.1);
              holds = p;
              none = λ k u v w.
                  fails (e + 1) (omega (arith, q.0)) (omega (arith, q.1)) q.2
                  (convex e (e + 1) k (omega (arith, q.0)) (omega arith) (omega arith) v p w);
            },
          )
