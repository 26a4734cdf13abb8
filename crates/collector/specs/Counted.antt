-- What is told of the records of a file says how they were answered. Assumes nothing.
use Rattle.std.specs.Prelude.{◌≡◌, refl, ℕ, Result, Ok, Err}
use Rattle.std.proofs.Common.{ap}
use Rattle.answers.specs.declared.Refusal.{Refusal}
use Rattle.answers.specs.Answers.{Answer}
use Rattle.collector.specs.Taking.{Collected, counted_by, counted}

taken_by_answer : (k : ℕ) (x : Answer) {n : ℕ} → counted_by k x ≡ Ok n → (x ≡ Ok tt) × (k ≡ n)
taken_by_answer k (Ok t) e = (refl, cc)
taken_by_answer k (Err a) e = absurd cc

refused_by_answer : (k : ℕ) (x : Answer) {n : ℕ} {a : Refusal} → counted_by k x ≡ Err (n, a) → (x ≡ Err a) × (k ≡ n)
refused_by_answer k (Ok t) e = absurd cc
refused_by_answer k (Err a) e =
    let p = ap (λ (r : Result ℕ (ℕ × Refusal)). elim r [ Ok m ↦ (k, a) | Err q ↦ q ]) e in
    (ap (λ (q : ℕ × Refusal). Err q.1) p, ap (λ (q : ℕ × Refusal). q.0) p)

-- all were taken
pub counted_taken : (r : Collected) {n : ℕ} → counted r ≡ Ok n → (r.answer ≡ Ok tt) × (r.taken ≡ n)
counted_taken r = taken_by_answer r.taken r.answer

-- one was refused
pub counted_refused : (r : Collected) {n : ℕ} {a : Refusal} → counted r ≡ Err (n, a) → (r.answer ≡ Err a) × (r.taken ≡ n)
counted_refused r = refused_by_answer r.taken r.answer
