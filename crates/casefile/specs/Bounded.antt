-- What comes after one record more than a case has room for cannot change what is collected, nor the answer. Assumes nothing.
use Rattle.std.specs.Prelude.{◌≡◌, refl, List, [], ◌∷◌, Bool, true, false, cond, ℕ, zero, suc, ◌+◌, ◌*◌, ◌≤◌, ◌<◌, length, take, drop}
use Rattle.std.proofs.Common.{◌∙◌, sym, ap, ap₂, arith, length-drop, take-take}
use Rattle.std.proofs.Math.Seq.{take-nil}
use Rattle.record.specs.Layout.{record_length, cut_from, cut}
use Rattle.answers.specs.Answers.{is_taken}
use Rattle.rules.specs.Files.{item_count}
use Rattle.collector.specs.declared.Case.{Case}
use Rattle.collector.specs.Cases.{empty_case, items_of}
use Rattle.collector.specs.Taking.{taken_of, collected_from, collected_of}
use Rattle.collector.specs.Sound.{Sound}
use Rattle.rules_laws.specs.Held.{taken_with}
use Rattle.rules_laws.specs.Kept.{sound_empty, sound_kept}
use Rattle.rules_laws.specs.Spelled.{size_more}
use Rattle.meaning.specs.Listed.{room}
use Rattle.casefile.specs.Answer.{answer_after, answer_of}
use Rattle.casefile.specs.Listed.{within}

-- the bytes of one record more than a case has room for
abbrev pub enough : ℕ
enough = record_length * suc room

-- ---- the records at the beginning of a file

drop_take : (n k m : ℕ) (l : List ℕ) → k ≡ n + m → drop n (take k l) ≡ take m (drop n l)
drop_take zero k m l e = let q : k ≡ m = omega arith in ap (λ i. take i l) q
drop_take (suc n) zero m l e = absurd (omega arith)
drop_take (suc n) (suc k) m [] e = sym (take-nil m)
drop_take (suc n) (suc k) m (x ∷ l) e = drop_take n k m l (omega arith)

cut_nil : (n : ℕ) → cut_from n [] ≡ []
unfolding cut_from
cut_nil zero = refl
cut_nil (suc n) = refl

-- the bytes of k records are cut into the first k
cut_first : (k j n m : ℕ) (bs : List ℕ) → j ≡ record_length * k → length (take j bs) ≤ n → length bs ≤ m → cut_from n (take j bs) ≡ take k (cut_from m bs)
unfolding cut_from
cut_first zero j n m bs e h l = let q : j ≡ 0 = omega arith in ap (λ i. cut_from n (take i bs)) q ∙ cut_nil n
cut_first (suc k) zero n m bs e h l = absurd (omega arith)
cut_first (suc k) (suc j) n m [] e h l = cut_nil n ∙ sym (ap (take (suc k)) (cut_nil m))
cut_first (suc k) (suc j) zero m (b ∷ bs) e h l = absurd (omega arith)
cut_first (suc k) (suc j) (suc n) zero (b ∷ bs) e h l = absurd (omega arith)
cut_first (suc k) (suc j) (suc n) (suc m) (b ∷ bs) e h l =
    let d = drop_take record_length (suc j) (record_length * k) (b ∷ bs) (omega arith) in
    ap₂ (λ r q. r ∷ cut_from n q) (take-take record_length (suc j) (b ∷ bs) (omega arith)) d
    ∙ ap (λ rs. take record_length (b ∷ bs) ∷ rs)
    (cut_first k (record_length * k) n m (drop record_length (b ∷ bs)) refl
    (omega (arith, ap length d, length-drop record_length (b ∷ take j bs)))
    (omega (arith, length-drop record_length (b ∷ bs))))

-- ---- collecting

-- where there is no room for k records more, no record after them is looked at
collected_first : (k : ℕ) (rs : List (List ℕ)) (c : Case) (m : ℕ) → Sound c → room < item_count (items_of c) + k → collected_from c m (take k rs) ≡ collected_from c m rs
unfolding collected_from
collected_first zero rs c m s h = absurd (omega (arith, within c s))
collected_first (suc k) [] c m s h = refl
collected_first (suc k) (b ∷ rs) c m s h =
    go (is_taken (taken_of c b).answer) _
    (λ e. collected_first k rs (taken_of c b).case (m + 1) (sound_kept c b s) (omega (arith, size_more c b rs (taken_with c b e) s)))
  where
    go : {A : Type 0} (t : Bool) (z : A) {x y : A} → (t ≡ true → x ≡ y) → cond t x z ≡ cond t y z
    go true z f = f refl
    go false z f = refl

-- of a file as of its first bytes
pub collected_bounded : (bs : List ℕ) → collected_of empty_case (take enough bs) ≡ collected_of empty_case bs
unfolding collected_of cut
collected_bounded bs =
    ap (collected_from empty_case 0) (cut_first (suc room) enough (length (take enough bs)) (length bs) bs refl (omega arith) (omega arith))
    ∙ collected_first (suc room) (cut bs) empty_case 0 sound_empty (omega arith)

-- a file is answered as its first bytes are
pub bounded : (bs : List ℕ) → answer_of (take enough bs) ≡ answer_of bs
unfolding answer_of
bounded bs = ap answer_after (collected_bounded bs)
