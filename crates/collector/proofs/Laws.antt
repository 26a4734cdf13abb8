-- What a file's records give, record by record. Assumes nothing.
use Rattle.std.specs.Prelude.{Err, Ok}
use mathlib.Core.Path.{◌≡◌, refl, ◌∙◌, sym, ap, ap₂}
use mathlib.Core.Bool.{Bool, true, false, cond}
use mathlib.Core.List.{List, [], ◌∷◌, ◌++◌}
use Prim.Native.Nat.{ℕ, zero, suc, ◌+◌, ◌<◌, min}
use native.Mathlib.Omega.{arith}
use lib.Dec.{eqb, leb}
use lib.ListN.{length, take, drop, drop_of_length-le}
use lib.Seq.{take_all, take-length, drop-length, take-append_seam, drop-append_seam}
use borrow.Author.Tests.{eqb-true, leb-true, leb-false}
use Rattle.record.specs.Layout.{record_length, cut_from}
use Rattle.kinds.specs.declared.Kind.{Kind}
use Rattle.answers.specs.declared.Refusal.{Refusal}
use Rattle.answers.specs.declared.Refusal.TheVariants.{NotARecord}
use Rattle.checks.specs.Input.{ended_head, head_of}
use Rattle.collector.specs.declared.Case.{Case}
use Rattle.collector.specs.Taking.{taken_of, collected_from}

-- ---- the records of a file: none at its end, and else the next one and the rest

pub cut_end : (n : ℕ) (bs : List ℕ) → length bs ≡ 0 → cut_from n bs ≡ []
unfolding cut_from
cut_end zero bs h = refl
cut_end (suc n) [] h = refl
cut_end (suc n) (b ∷ bs) h = absurd (omega arith)

pub cut_next : (n n' : ℕ) (bs : List ℕ) → n ≡ n' + 1 → 0 < length bs → cut_from n bs ≡ take record_length bs ∷ cut_from n' (drop record_length bs)
unfolding cut_from
cut_next zero n' bs p h = absurd (omega arith)
cut_next (suc n) n' [] p h = absurd (omega arith)
cut_next (suc n) n' (b ∷ bs) p h =
    let q : n ≡ n' = omega arith in
    ap (λ k. take record_length (b ∷ bs) ∷ cut_from k (drop record_length (b ∷ bs))) q

-- a part of n elements, or up to the end
min_part : {A : Type 0} (n : ℕ) (s : List A) (t : Bool) → leb n (length s) ≡ t → (take (min n (length s)) s ≡ take n s) × (drop (min n (length s)) s ≡ drop n s)
min_part n s true e =
    let q : min n (length s) ≡ n = omega (arith, leb-true n (length s) e) in
    (ap (λ k. take k s) q, ap (λ k. drop k s) q)
min_part n s false e =
    let l = leb-false n (length s) e in
    let q : min n (length s) ≡ length s = omega arith in (
      ap (λ k. take k s) q ∙ take-length s ∙ sym (take_all n s (omega arith)),
      ap (λ k. drop k s) q ∙ drop-length s ∙ sym (drop_of_length-le s {i = n} (omega arith)),
    )

-- the next record bs of what is left, and r after it
module _ (s bs r : List ℕ) (e : s ≡ bs ++ r) (h : length bs ≡ min record_length (length s)) where
  part : bs ≡ take record_length s
  part =
      sym (take-append_seam bs r) ∙ ap (take (length bs)) (sym e) ∙ ap (λ k. take k s) h ∙ (min_part record_length s _ refl).0

  rest : r ≡ drop record_length s
  rest =
      sym (drop-append_seam bs r) ∙ ap (drop (length bs)) (sym e) ∙ ap (λ k. drop k s) h ∙ (min_part record_length s _ refl).1

  pub cut_chunk : (n n' : ℕ) → n ≡ n' + 1 → 0 < length s → cut_from n s ≡ bs ∷ cut_from n' r
  cut_chunk n n' p l = cut_next n n' s p l ∙ ap₂ (λ x y. x ∷ cut_from n' y) (sym part) (sym rest)

-- ---- the head of a record

-- a head that says a kind is that of a whole record
pub whole : (bs : List ℕ) (k : Kind) → head_of bs ≡ Ok k → length bs ≡ record_length
unfolding head_of
whole bs k e = go _ refl e
  where
    go : (t : Bool) → eqb (length bs) record_length ≡ t → cond t (ended_head bs) (Err NotARecord) ≡ Ok k → length bs ≡ record_length
    go true h e = eqb-true _ _ h
    go false h e = cc

-- ---- one record, taken or not, and those after it

pub collected_next : (c d : Case) (m : ℕ) (bs : List ℕ) (rs : List (List ℕ)) → Ok tt ≡ (taken_of c bs).answer → d ≡ (taken_of c bs).case → collected_from c m (bs ∷ rs) ≡ collected_from d (m + 1) rs
unfolding collected_from
collected_next c d m bs rs a e = rw (← a, ← e) refl

pub collected_refused : (c d : Case) (m : ℕ) (bs : List ℕ) (rs : List (List ℕ)) (r : Refusal) → Err r ≡ (taken_of c bs).answer → d ≡ (taken_of c bs).case → collected_from c m (bs ∷ rs) ≡ record { case = d; answer = Err r; taken = m }
unfolding collected_from
collected_refused c d m bs rs r a e = rw (← a, ← e) refl
