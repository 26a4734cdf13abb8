-- What is held after a file is written back as the file's first records, so many as were taken: byte for byte, whatever comes after them. Assumes nothing.
use Rattle.std.specs.Prelude.{◌≡◌, refl, true, false, length, take, drop}
use Rattle.std.proofs.Common.{◌∙◌, ap₂, arith, length-append, length-drop, take-append-drop, take-add, take_all, take_at, drop_at}
use Rattle.std.proofs.Math.Path.{sym, ap}
use mathlib.Core.List.{List, [], ◌∷◌, ◌++◌, append-nil, append_assoc}
use Prim.Native.Nat.{ℕ, zero, suc, ◌+◌, ◌-◌, ◌*◌, ◌≤◌, ◌<◌}
use Rattle.std.proofs.Math.Decide.{dec_lt}
use Rattle.std.proofs.Math.Seq.{take-nil}
use Rattle.laws.specs.All.{All, none, also, gather}
use Rattle.laws.specs.Members.{has_all, all_map}
use Rattle.laws.specs.Tests.{cond_by}
use Rattle.laws.specs.Gathered.{gather_both, gather_none, gather_last}
use Rattle.record.specs.declared.Field.{Field}
use Rattle.record.specs.Layout.{record_length, record_of, cut_from, cut}
use Rattle.kinds.specs.declared.Kind.{Kind}
use Rattle.kinds.specs.Kinds.{rank_of, all_kinds, count_of}
use Rattle.kinds.specs.Laws.{kinds_split, kinds_before, kinds_after, by_kind}
use Rattle.items.specs.Items.{item_of}
use Rattle.items.specs.Lists.{Items, list_of}
use Rattle.items.specs.File.{item_bytes, kind_bytes, file_of}
use Rattle.answers.specs.Answers.{is_taken}
use Rattle.collector.specs.declared.Case.{Case}
use Rattle.collector.specs.Taking.{Collected, taken_of, collected_from, collected_of}
use Rattle.collector.specs.Cases.{added, items_of, empty_case}
use Rattle.collector.specs.Sound.{Sound}
use Rattle.collector.proofs.Laws.{cut_end, cut_next}
use Rattle.rules_laws.specs.Held.{added_same, added_other, counted, items_with_lem, empty_list, refused_same, taken_with}
use Rattle.rules_laws.specs.Kept.{empty_of, sound_empty, sound_kept}
use Rattle.rules_laws.specs.Spelled.{spells_file}
use Rattle.rules_laws.specs.Written.{item_back}

-- ---- one item more

-- an item of the last kind of which there are any comes at the end
file_added : (x : Items) (k : Kind) (r : List Field) → ((j : Kind) → rank_of k < rank_of j → list_of j x ≡ []) → file_of (added x k r) ≡ file_of x ++ item_bytes k (item_of k r)
unfolding file_of gather
file_added x k r last =
    ap (gather g) (kinds_split k)
    ∙ gather_last f g w (take (rank_of k) all_kinds) k (drop (suc (rank_of k)) all_kinds)
    (all_map (λ j h. other j (omega arith)) (kinds_before k))
    own
    (all_map (λ j h. empty j h) (kinds_after k))
    (all_map (λ j h. sym (other j (omega arith)) ∙ empty j h) (kinds_after k))
    ∙ ap (λ l. gather f l ++ w) (sym (kinds_split k))
  where
    f : Kind → List ℕ
    f = kind_bytes x

    g : Kind → List ℕ
    g = kind_bytes (added x k r)

    w : List ℕ
    w = item_bytes k (item_of k r)

    other : (j : Kind) → (rank_of j ≡ rank_of k → ⊥) → f j ≡ g j
    other =
        by_kind (λ j. (rank_of j ≡ rank_of k → ⊥) → f j ≡ g j) k (λ n. absurd (n refl)) (λ j e n. ap (gather (item_bytes j)) (sym (added_other x k r j e)))

    own : g k ≡ f k ++ w
    own = ap (gather (item_bytes k)) (added_same x k r) ∙ gather_both (item_bytes k) (list_of k x) (item_of k r ∷ []) ∙ ap (λ m. f k ++ m) (append-nil w)

    empty : (j : Kind) → rank_of k < rank_of j → f j ≡ []
    empty j h = ap (gather (item_bytes j)) (last j h)

-- a record that is taken is written after what was held
file_more : (c : Case) (b : List ℕ) → Sound c → is_taken (taken_of c b).answer ≡ true → file_of (items_of (taken_of c b).case) ≡ file_of (items_of c) ++ b
file_more c b s h =
    let t = taken_with c b h in
    let k = t.kind in
    let r = (record_of b).fields in
    ap (λ d. file_of (items_of d)) t.case
    ∙ ap file_of (items_with_lem c k r s.same t.next.room)
    ∙ file_added (items_of c) k r (λ j l. empty_of (list_of j (items_of c)) (elim (dec_lt 0 (count_of c.count j)) [
      | yes o ↦ absurd (t.next.order (j, l, o))
      | no o ↦ omega (arith, counted c s j)
    ]))
    ∙ ap (λ w. file_of (items_of c) ++ w) (item_back c b t)

-- ---- a row of records

-- all bytes of a row of records
abbrev pub joined : List (List ℕ) → List ℕ
joined = gather (λ (b : List ℕ). b)

-- after the records rs were taken as q says, from the case c with m taken before: the bytes of the first `number` of them are written after what was held
record Wrote (c : Case) (m : ℕ) (rs : List (List ℕ)) (q : Collected) : Type 0 where
  number : ℕ
  taken : q.taken ≡ m + number
  file : file_of (items_of q.case) ≡ file_of (items_of c) ++ joined (take number rs)

module _ (c : Case) (m : ℕ) (b : List ℕ) (rs : List (List ℕ)) where
  wrote_more : (q : Collected) → Sound c → is_taken (taken_of c b).answer ≡ true → Wrote (taken_of c b).case (m + 1) rs q → Wrote c m (b ∷ rs) q
  unfolding gather
  wrote_more q s e w =
      record {
        number = suc w.number;
        taken = omega (arith, w.taken);
        file = w.file ∙ ap (λ l. l ++ joined (take w.number rs)) (file_more c b s e) ∙ append_assoc (file_of (items_of c)) b (joined (take w.number rs));
      }

  wrote_none : (q : Collected) → is_taken (taken_of c b).answer ≡ false → q.case ≡ (taken_of c b).case → q.taken ≡ m → Wrote c m (b ∷ rs) q
  unfolding gather
  wrote_none q e d n =
      record {
        number = 0;
        taken = omega arith;
        file = ap (λ d. file_of (items_of d)) (d ∙ refused_same c b e) ∙ sym (append-nil (file_of (items_of c)));
      }

wrote : (rs : List (List ℕ)) (c : Case) (m : ℕ) → Sound c → Wrote c m rs (collected_from c m rs)
unfolding collected_from gather
wrote [] c m s = record { number = 0; taken = omega arith; file = sym (append-nil (file_of (items_of c))) }
wrote (b ∷ rs) c m s =
    let t = taken_of c b in
    cond_by (Wrote c m (b ∷ rs)) (is_taken t.answer) {x = collected_from t.case (m + 1) rs} {y = record { case = t.case; answer = t.answer; taken = m }}
    (λ e. wrote_more c m b rs _ s e (wrote rs t.case (m + 1) (sound_kept c b s)))
    (λ e. wrote_none c m b rs _ e refl refl)

-- ---- a file

-- the bytes of the first j records of a file
first_bytes : (j n : ℕ) (bs : List ℕ) → length bs ≤ n → joined (take j (cut_from n bs)) ≡ take (record_length * j) bs
unfolding cut_from gather
first_bytes zero n bs h = refl
first_bytes (suc j) zero [] h = sym (take-nil (record_length * suc j))
first_bytes (suc j) zero (b ∷ bs) h = absurd (omega arith)
first_bytes (suc j) (suc n) [] h = sym (take-nil (record_length * suc j))
first_bytes (suc j) (suc n) (b ∷ bs) h =
    let i : record_length + record_length * j ≡ record_length * suc j = omega arith in
    ap (λ l. take record_length (b ∷ bs) ++ l) (first_bytes j n (drop record_length (b ∷ bs)) (omega (arith, length-drop record_length (b ∷ bs))))
    ∙ sym (take-add record_length (record_length * j) (b ∷ bs))
    ∙ ap (λ m. take m (b ∷ bs)) i

all_bytes : (n : ℕ) (bs : List ℕ) → length bs ≤ n → joined (cut_from n bs) ≡ bs
unfolding cut_from gather
all_bytes zero [] h = refl
all_bytes zero (b ∷ bs) h = absurd (omega arith)
all_bytes (suc n) [] h = refl
all_bytes (suc n) (b ∷ bs) h =
    ap (λ l. take record_length (b ∷ bs) ++ l) (all_bytes n (drop record_length (b ∷ bs)) (omega (arith, length-drop record_length (b ∷ bs)))) ∙ take-append-drop record_length (b ∷ bs)

-- a record has all its bytes
abbrev pub IsWhole : List ℕ → Type 0
IsWhole b = length b ≡ record_length

-- whole records are cut apart again
pub cut_joined : {rs : List (List ℕ)} → All IsWhole rs → (n : ℕ) → length (joined rs) ≤ n → cut_from n (joined rs) ≡ rs
unfolding gather
cut_joined none n h = cut_end n [] refl
cut_joined (also {x = b} {l = rs} w t) n h =
    let l = length-append b (joined rs) in
    cut_next n (n - 1) (b ++ joined rs) (omega arith) (omega arith)
    ∙ ap₂ (λ x y. x ∷ cut_from (n - 1) y) (take_at b (joined rs) record_length w) (drop_at b (joined rs) record_length w)
    ∙ ap (λ l. b ∷ l) (cut_joined t (n - 1) (omega arith))

-- the empty case is no bytes
empty_file : file_of (items_of empty_case) ≡ []
unfolding file_of gather
empty_file = gather_none (kind_bytes (items_of empty_case)) (has_all all_kinds (λ k m. ap (gather (item_bytes k)) (empty_list k)))

module _ (bs : List ℕ) where
  abbrev q : Collected
  q = collected_of empty_case bs

  held : file_of (items_of q.case) ≡ joined (take q.taken (cut bs))
  unfolding collected_of
  held =
      let w = wrote (cut bs) empty_case 0 sound_empty in
      let e : w.number ≡ q.taken = omega (arith, w.taken) in
      w.file ∙ ap (λ l. l ++ joined (take w.number (cut bs))) empty_file ∙ ap (λ j. joined (take j (cut bs))) e

  -- what is held after a file is its first records, so many as were taken
  pub held_written : file_of (items_of q.case) ≡ take (record_length * q.taken) bs
  unfolding cut
  held_written = held ∙ first_bytes q.taken (length bs) bs (omega arith)

  -- a file all of whose records are taken is the file of its case
  pub taken_written : is_taken q.answer ≡ true → file_of (items_of q.case) ≡ bs
  unfolding cut
  taken_written h = held ∙ ap joined (take_all q.taken (cut bs) (omega (arith, (spells_file bs h).all))) ∙ all_bytes (length bs) bs (omega arith)
