-- A file cut at the rounds field of one record: the records before it and after it are the same whatever is in that field, and so are the
-- other fields of its record. Assumes nothing.
use Rattle.std.specs.Prelude.{◌≡◌, refl, List, [], ◌∷◌, ◌++◌, false, cond, eqb, ltb, take, drop, Err}
use Rattle.std.proofs.Common.{◌∙◌, sym, ap₂, append_assoc, arith, lit<, take-append-drop, get_or-drop, get_or-append-add, length-take-le, take_at, drop_at, le-ltb}
use Rattle.std.proofs.Math.Path.{ap}
use Prim.Native.Nat.{ℕ, zero, suc, ◌+◌, ◌*◌, ◌-◌, ◌≤◌, ◌<◌}
use Rattle.std.proofs.Math.ListN.{length, get_or, length-append, length-drop, get_or-append}
use Rattle.std.proofs.lemmas.List.{take-append-le, drop-append-le}
use Rattle.std.proofs.Math.Seq.{take-append-add, drop-append-add}
use Rattle.laws.specs.Tab.{tab}
use Rattle.record.specs.declared.Content.{Content}
use Rattle.record.specs.declared.Field.{Field}
use Rattle.record.specs.Spelling.{content_of}
use Rattle.record.specs.Layout.{fields, width, record_length, field_at, record_of, line_feed, cut_from, cut}
use Rattle.kinds.specs.Kinds.{kind_of}
use Rattle.answers.specs.declared.Refusal.TheVariants.{NotARecord, NoLineFeed}
use Rattle.checks.specs.Input.{named_head, ended_head, head_of}
use Rattle.meaning.specs.Files.{rounds_at}

abbrev rest : ℕ
rest = record_length - (rounds_at + width)

-- ---- past a part of known length

module _ (xs ys : List ℕ) (n k : ℕ) (e : length xs + k ≡ n) where
  take_past : take n (xs ++ ys) ≡ xs ++ take k ys
  take_past = ap (λ m. take m (xs ++ ys)) (sym e) ∙ take-append-add xs ys k

  drop_past : drop n (xs ++ ys) ≡ drop k ys
  drop_past = ap (λ m. drop m (xs ++ ys)) (sym e) ∙ drop-append-add xs ys k

  get_d_past : get_or (xs ++ ys) n 0 ≡ get_or ys k 0
  get_d_past = ap (λ m. get_or (xs ++ ys) m 0) (sym e) ∙ get_or-append-add xs ys k 0

-- ---- cutting

cut_one : (n : ℕ) (bs : List ℕ) → 0 < length bs → cut_from (suc n) bs ≡ take record_length bs ∷ cut_from n (drop record_length bs)
unfolding cut_from
cut_one n [] h = absurd (omega arith)
cut_one n (b ∷ bs) h = refl

-- i whole records are cut off first
cut_on : (i n : ℕ) (p bs : List ℕ) → length p ≡ record_length * i → cut_from (i + n) (p ++ bs) ≡ cut_from i p ++ cut_from n bs
unfolding cut_from
cut_on zero n [] bs l = let e : 0 + n ≡ n = omega arith in ap (λ k. cut_from k bs) e
cut_on zero n (b ∷ p) bs l = absurd (omega arith)
cut_on (suc i) n [] bs l = absurd (omega arith)
cut_on (suc i) n (b ∷ p) bs l =
    let e : suc i + n ≡ suc (i + n) = omega arith in
    let d : length (drop record_length (b ∷ p)) ≡ record_length * i = omega (arith, length-drop record_length (b ∷ p)) in
    ap (λ k. cut_from k (b ∷ (p ++ bs))) e
    ∙ ap₂ (λ r q. r ∷ cut_from (i + n) q) (take-append-le record_length (b ∷ p) bs (omega arith)) (drop-append-le record_length (b ∷ p) bs (omega arith))
    ∙ ap (λ q. take record_length (b ∷ p) ∷ q) (cut_on i n (drop record_length (b ∷ p)) bs d)

-- ---- the fields of a record

-- two rows are the same where their elements are
tab_same : {A : Type 0} (n i : ℕ) (g h : ℕ → A) → ((k : ℕ) → i ≤ k → g k ≡ h k) → tab n i g ≡ tab n i h
tab_same zero i g h e = refl
tab_same (suc n) i g h e = λ t. e i (omega arith) t ∷ tab_same n (i + 1) g h (λ k l. e k (omega arith)) t

-- a row of fields, by what its rounds field says
abbrev pub row_with : (ℕ → Field) → Content → List Field
row_with g c = g 1 ∷ g 2 ∷ g 3 ∷ g 4 ∷ record { content = c } ∷ tab (fields - 5) 6 g

module _ (head tail : List ℕ) where
  -- field k, where it is not the rounds field
  abbrev other : ℕ → Field
  other k = cond (ltb k 5) (field_at head k) (record { content = content_of (take width (drop ((k - 6) * width) tail)) })

  module _ (f : List ℕ) (lh : length head ≡ rounds_at) (lf : length f ≡ width) where
    early : (k : ℕ) → k < 4 → field_at (head ++ (f ++ tail)) (suc k) ≡ field_at head (suc k)
    unfolding field_at
    early k h =
        let n : ℕ = 1 + k * width in
        ap (λ q. record { content = content_of (take width q) }) (drop-append-le n head (f ++ tail) (omega arith))
        ∙ ap (λ q. record { content = content_of q }) (take-append-le width (drop n head) (f ++ tail) (omega (arith, length-drop n head)))

    late : (k : ℕ) → field_at (head ++ (f ++ tail)) (suc (5 + k)) ≡ record { content = content_of (take width (drop (k * width) tail)) }
    unfolding field_at
    late k =
        ap (λ q. record { content = content_of (take width q) })
        (drop_past head (f ++ tail) (1 + (5 + k) * width) (width + k * width) (omega arith)
        ∙ drop_past f tail (width + k * width) (k * width) (omega arith))

    after : (k : ℕ) → 6 ≤ k → field_at (head ++ (f ++ tail)) k ≡ other k
    after k h =
        let e : k ≡ suc (5 + (k - 6)) = omega arith in
        let t : ltb k 5 ≡ false = le-ltb k 5 (omega arith) in
        ap (field_at (head ++ (f ++ tail))) e ∙ late (k - 6) ∙ rw t refl

    own : field_at (head ++ (f ++ tail)) 5 ≡ record { content = content_of f }
    unfolding field_at
    own =
        ap (λ q. record { content = content_of (take width q) }) (drop_at head (f ++ tail) rounds_at lh)
        ∙ ap (λ q. record { content = content_of q }) (take_at f tail width lf)

    row_is : record_of (head ++ (f ++ tail)) ≡ record { fields = row_with other (content_of f) }
    unfolding record_of
    row_is =
        let past = tab_same (fields - 5) 6 (field_at (head ++ (f ++ tail))) other after in
        λ i. record { fields = early 0 (lit< tt) i ∷ early 1 (lit< tt) i ∷ early 2 (lit< tt) i ∷ early 3 (lit< tt) i ∷ own i ∷ past i }

    -- its length, its last byte and its letter are the same for all
    head_is : head_of (head ++ (f ++ tail)) ≡ cond (eqb (rounds_at + (width + length tail)) record_length)
        (cond (eqb (get_or tail (rest - 1) 0) line_feed) (named_head (kind_of (get_or head 0 0))) (Err NoLineFeed)) (Err NotARecord)
    unfolding head_of ended_head
    head_is =
        let n : length (head ++ (f ++ tail)) ≡ rounds_at + (width + length tail) = omega (arith, length-append head (f ++ tail), length-append f tail) in
        let e : get_or (head ++ (f ++ tail)) (record_length - 1) 0 ≡ get_or tail (rest - 1) 0 =
        get_d_past head (f ++ tail) (record_length - 1) (width + (rest - 1)) (omega arith) ∙ get_d_past f tail (width + (rest - 1)) (rest - 1) (omega arith) in
        rw (n, e, get_or-append head (f ++ tail) 0 0 (omega arith))

-- ---- the whole

-- the parts of a file around the rounds field of record i: the records before and after it, and its own record by what is in that field
pub record Around (pre post : List ℕ) (i : ℕ) : Type 0 where
  pub before : List (List ℕ)
  pub after : List (List ℕ)
  pub own : List ℕ → List ℕ
  pub others : ℕ → Field
  pub letter : (f : List ℕ) → get_or (own f) 0 0 ≡ get_or pre (record_length * i) 0
  pub headed : (e f : List ℕ) → length e ≡ width → length f ≡ width → head_of (own e) ≡ head_of (own f)
  pub row : (f : List ℕ) → length f ≡ width → record_of (own f) ≡ record { fields = row_with others (content_of f) }
  pub parts : (f : List ℕ) → length f ≡ width → cut (pre ++ (f ++ post)) ≡ before ++ (own f ∷ after)

pub around : (pre post : List ℕ) (i : ℕ) → length pre ≡ record_length * i + rounds_at → Around pre post i
unfolding cut
around pre post i l =
    record {
      before = cut_from i first;
      after = cut_from left (drop rest post);
      own = λ f. head ++ (f ++ tail);
      others = other head tail;
      letter =
          λ f.
          let e : n + 0 ≡ n = omega arith in
          get_or-append head (f ++ tail) 0 0 (omega (arith, long)) ∙ get_or-drop n pre 0 0 ∙ ap (λ k. get_or pre k 0) e;
      headed = λ e f v w. head_is head tail e long v ∙ sym (head_is head tail f long w);
      row = λ f. row_is head tail f long;
      parts =
          λ f w.
          let m : length (pre ++ (f ++ post)) ≡ i + suc left = omega (arith, length-append pre (f ++ post), length-append f post) in
          let own : length (head ++ f) + rest ≡ record_length = omega (arith, long, length-append head f) in
          let all : pre ++ (f ++ post) ≡ first ++ (head ++ f ++ post) =
          ap (λ q. q ++ (f ++ post)) (sym (take-append-drop n pre)) ∙ append_assoc first head (f ++ post) ∙ ap (λ q. first ++ q) (sym (append_assoc head f post)) in
          ap₂ cut_from m all
          ∙ cut_on i (suc left) first (head ++ f ++ post) (length-take-le n pre (omega arith))
          ∙ ap (λ q. cut_from i first ++ q)
          (cut_one left (head ++ f ++ post) (omega (arith, length-append (head ++ f) post))
          ∙ ap₂ (λ r q. r ∷ cut_from left q) (take_past (head ++ f) post record_length rest own ∙ append_assoc head f tail)
          (drop_past (head ++ f) post record_length rest own));
    }
  where
    n : ℕ
    n = record_length * i

    first : List ℕ
    first = take n pre

    head : List ℕ
    head = drop n pre

    tail : List ℕ
    tail = take rest post

    left : ℕ
    left = length pre + (width + length post) - suc i

    long : length head ≡ rounds_at
    long = omega (arith, length-drop n pre)
