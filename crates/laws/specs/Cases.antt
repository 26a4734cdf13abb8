-- A function by cases of its number, with one value at 0 and at every number from k on. Assumes nothing.
use Rattle.std.specs.Prelude.{◌≡◌, ℕ, zero, suc, ◌+◌, ◌-◌, ◌≤◌, ◌<◌}
use Rattle.std.proofs.Common.{◌∙◌, ap, arith}

-- k more than m, as a pattern has it
abbrev pub more : ℕ → ℕ → ℕ
more zero m = m
more (suc k) m = suc (more k m)

more_add : (k m : ℕ) → more k m ≡ k + m
more_add zero m = omega arith
more_add (suc k) m = omega (arith, more_add k m)

pub no_case : {A : Type 0} (g : ℕ → A) (k : ℕ) {x : A} → x ≡ g 0 → ((m : ℕ) → x ≡ g (more k m)) → (n : ℕ) → (0 < n → k ≤ n) → x ≡ g n
no_case g k z s zero h = z
no_case g k z s (suc n) h =
    let a = h (omega arith) in
    let e : more k (suc n - k) ≡ suc n = omega (arith, more_add k (suc n - k)) in
    s (suc n - k) ∙ ap g e
