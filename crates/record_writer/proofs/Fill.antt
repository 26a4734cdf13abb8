-- A number put into a field of a record; fields filled in over a blank record, one after the other, are the record with these fields. Assumes nothing.
use Rattle.std.specs.Prelude.{Option}
use mathlib.Core.Path.{◌≡◌, refl, ◌∙◌, sym, ap, ap₂, subst}
use mathlib.Core.List.{List, [], ◌∷◌, ◌++◌, map, append-nil, append_assoc, map-append}
use Prim.Native.Nat.{ℕ, suc, ◌+◌, ◌-◌, ◌*◌, ◌≤◌, ◌<◌}
use native.Mathlib.Numerals.{add-one}
use native.Mathlib.Omega.{arith}
use lib.IntN.{ℤ, pos}
use lib.ListN.{length, get_or, take, drop, replicate, length-map, length-append, length-replicate, replicate-append-replicate, get_or-map}
use lib.Seq.{take_at, take-append-add, drop-append-add, append_snoc, take-add, drop-drop, take-suc, length-take-le}
use Rattle.laws.specs.All.{none, also, gather}
use Rattle.laws.specs.Members.{all_at, all_both, all_parts}
use Rattle.laws.specs.Gathered.{gather_both, gather_long}
use Rattle.laws.specs.Parts.{lent, back, lent_all, back_all}
use Rattle.record.specs.declared.Content.{Content}
use Rattle.record.specs.declared.Content.TheVariants.{Blank, Number, Bad}
use Rattle.record.specs.declared.Field.{Field}
use Rattle.record.specs.Spelling.{space}
use Rattle.record.specs.Spell.{Spellable, token, spell, HasSpelling, content_bytes}
use Rattle.record.specs.Layout.{width, fields, line_feed}
use Rattle.record_laws.specs.Reading.{token_fits}
use Rattle.record_laws.specs.Spelled.{each_long}
use Rattle.kinds.specs.declared.Kind.{Kind}
use Rattle.kinds.specs.declared.Kind.TheVariants as kind
use Rattle.kinds.specs.Kinds.{letter_of, counters}
use Rattle.items.specs.declared.Term.{Term}
use Rattle.items.specs.declared.Form.{Form}
use Rattle.items.specs.declared.Form.TheVariants as form
use Rattle.items.specs.declared.Guard.{Guard}
use Rattle.items.specs.declared.Move.{Move}
use Rattle.items.specs.declared.Sentence.{Sentence}
use Rattle.items.specs.declared.Place.{Place}
use Rattle.items.specs.Items.{Item, integer, blank, reference, form_fields, mark_fields, filled_of, row_of}
use Rattle.items.specs.File.{field_bytes, CanSpell, record_bytes, item_bytes}
use Rattle.record_writer.specs.Fields.{ending_at, Put, fill_in, fill_from, HasRecord}

-- ---- a field of a record

-- field f was lent to a call, which put a number into it
pub put_field : (p q text : List ℕ) (r f : ℕ) → 1 ≤ f → Put (lent (1 + (f - 1) * width) p) text q r →
    back (1 + (f - 1) * width) p q ≡ ending_at (1 + f * width) text p
unfolding ending_at
put_field p q text r f h u =
    let a = 1 + (f - 1) * width in
    let t = length text in
    let e : 1 + (f - 1) * width + width ≡ 1 + f * width = omega arith in
    let i : 1 + (f - 1) * width + (width - length text) ≡ 1 + f * width - length text = omega (arith, u.ends) in
    back_all a p q
    ∙ ap (λ b. take a p ++ b) (u.bytes ∙ ap (ending_at width text) (lent_all a p))
    ∙ sym (append_assoc (take a p) (take (width - t) (drop a p)) (text ++ drop width (drop a p)))
    ∙ ap₂ (λ b c. b ++ (text ++ c)) (sym (take-add a (width - t) p) ∙ ap (λ n. take n p) i) (drop-drop width a p ∙ ap (λ n. drop n p) e)

-- ---- fields in a row

-- fields before others
pub fill_both : (f : ℕ) (xs ys : List Field) (bs : List ℕ) → fill_from f (xs ++ ys) bs ≡ fill_from (f + length xs) ys (fill_from f xs bs)
fill_both f [] ys bs = let e : f ≡ f + 0 = omega arith in ap (λ g. fill_from g ys bs) e
fill_both f (x ∷ xs) ys bs =
    let e : f + 1 + length xs ≡ f + suc (length xs) = omega arith in
    let cs = fill_from (f + 1) xs (fill_in f x.content bs) in
    fill_both (f + 1) xs ys (fill_in f x.content bs) ∙ ap (λ g. fill_from g ys cs) e

-- numbers in a row: the first j of l are filled in, from field f on
pub record Numbers (f : ℕ) (l : List ℤ) (p₀ p : List ℕ) (j : ℕ) : Type 0 where
  pub bytes : p ≡ fill_from f (map integer (take j l)) p₀
  pub long : length p ≡ length p₀

pub numbers_more : {f : ℕ} {l : List ℤ} {p₀ p q : List ℕ} {j : ℕ} → Numbers f l p₀ p j → j < length l → length q ≡ length p →
    q ≡ fill_in (f + j) (Number (get_or l j (pos 0))) p → Numbers f l p₀ q (j + 1)
numbers_more {f} {l} {p₀} {p} {q} {j} n h e r =
    let done = map integer (take j l) in
    let next : List Field = integer (get_or l j (pos 0)) ∷ [] in
    let m : f + j ≡ f + length done = omega (arith, length-map (take j l) integer, length-take-le j l (omega arith)) in
    record {
      bytes =
          r
          ∙ ap₂ (λ k b. fill_from k next b) m n.bytes
          ∙ sym (fill_both f done next p₀)
          ∙ ap (λ x. fill_from f x p₀) (sym (ap (λ k. map integer (take k l)) (add-one j) ∙ ap (map integer) (take-suc l j (pos 0) h) ∙ map-append integer (take j l) (get_or l j (pos 0) ∷ [])));
      long = e ∙ n.long;
    }

-- each of them can be spelled where all can
pub numbers_spell : (l : List ℤ) (j : ℕ) → CanSpell (map integer l) → Spellable (get_or l j (pos 0))
numbers_spell l j s =
    let h = all_at (λ (g : Field). HasSpelling g.content) (map integer l) (integer (pos 0)) s (omega arith) j in
    subst (λ (g : Field). HasSpelling g.content) (get_or-map integer l j (pos 0)) h

-- ---- one field over a blank one

-- a text that ends with some spaces, after the bytes l and before the bytes r
over_spaces : (l r text : List ℕ) (e : ℕ) → length l + width ≡ e → length text ≤ width →
    ending_at e text (l ++ (replicate width space ++ r)) ≡ l ++ ((replicate (width - length text) space ++ text) ++ r)
unfolding ending_at
over_spaces l r text e n h =
    let t = length text in
    let k = width - length text in
    let spaces = replicate width space in
    let i : e - length text ≡ length l + (width - length text) = omega arith in
    let w : width - length text + length text ≡ width = omega arith in
    let some : replicate width space ≡ replicate k space ++ replicate t space = sym (replicate-append-replicate k t space ∙ ap (λ m. replicate m space) w) in
    let front : take k (spaces ++ r) ≡ replicate k space =
    ap (take k) (ap (λ m. m ++ r) some ∙ append_assoc (replicate k space) (replicate t space) r) ∙ take_at (replicate k space) (replicate t space ++ r) k (length-replicate k space) in
    ap₂ (λ a b. take a (l ++ (spaces ++ r)) ++ (text ++ drop b (l ++ (spaces ++ r)))) i (sym n)
    ∙ ap₂ (λ a b. a ++ (text ++ b)) (take-append-add l (spaces ++ r) k ∙ ap (λ m. l ++ m) front) (drop-append-add l (spaces ++ r) width)
    ∙ append_assoc l (replicate k space) (text ++ r)
    ∙ ap (λ m. l ++ m) (sym (append_assoc (replicate k space) text r))

-- a field that can be spelled, over a blank one
over_blank : (l r : List ℕ) (f : ℕ) (c : Content) → length l ≡ 1 + (f - 1) * width → 1 ≤ f → HasSpelling c →
    fill_in f c (l ++ (replicate width space ++ r)) ≡ l ++ (content_bytes c ++ r)
unfolding spell
over_blank l r f Blank n p h = refl
over_blank l r f (Number z) n p h = over_spaces l r (token z) (1 + f * width) (omega arith) ((token_fits z).0 h)
over_blank l r f (Bad k) n p h = absurd h

-- ---- all fields

-- the bytes before the fields that are still blank
abbrev begun : Kind → List Field → List ℕ
begun k r = letter_of k ∷ gather field_bytes r

-- and from there on: n blank fields, the line feed, the rest
abbrev left : ℕ → List ℕ → List ℕ
left n rest = gather field_bytes (replicate n blank) ++ (line_feed ∷ rest)

fill_fields : (k : Kind) (rest : List ℕ) (xs before : List Field) (f n : ℕ) → f ≡ 1 + length before → length xs ≤ n → CanSpell before → CanSpell xs →
    fill_from f xs (begun k before ++ left n rest) ≡ begun k (before ++ xs) ++ left (n - length xs) rest
unfolding gather
fill_fields k rest [] before f n e h b s =
    let d : n ≡ n - 0 = omega arith in
    ap₂ (λ r m. begun k r ++ left m rest) (sym (append-nil before)) d
fill_fields k rest (x ∷ xs) before f n e h b (also p s) =
    let m = n - 1 in
    let d : n ≡ suc (n - 1) = omega arith in
    let i : n - 1 - length xs ≡ n - suc (length xs) = omega arith in
    let l : length (begun k before) ≡ 1 + (f - 1) * width = omega (arith, gather_long field_bytes width (each_long b)) in
    let more : begun k before ++ (field_bytes x ++ left m rest) ≡ begun k (before ++ (x ∷ [])) ++ left m rest =
    sym (append_assoc (begun k before) (field_bytes x) (left m rest))
    ∙ ap (λ g. (letter_of k ∷ g) ++ left m rest) (sym (gather_both field_bytes before (x ∷ []) ∙ ap (λ g. gather field_bytes before ++ g) (append-nil (field_bytes x)))) in
    ap (λ j. fill_from (f + 1) xs (fill_in f x.content (begun k before ++ left j rest))) d
    ∙ ap (fill_from (f + 1) xs) (over_blank (begun k before) (left m rest) f x.content l (omega arith) p ∙ more)
    ∙ fill_fields k rest xs (before ++ (x ∷ [])) (f + 1) m (omega (arith, length-append before (x ∷ []))) (omega arith) (all_both b (also p none)) s
    ∙ ap₂ (λ r j. begun k r ++ left j rest) (append_snoc before x xs) i

-- ---- parts of an item

-- a number for each counter, and what comes after
pub fill_counters : (f : ℕ) (l : List ℤ) (ys : List Field) (bs : List ℕ) → length l ≡ counters →
    fill_from f (map integer l ++ ys) bs ≡ fill_from (f + counters) ys (fill_from f (map integer l) bs)
fill_counters f l ys bs e =
    fill_both f (map integer l) ys bs ∙ ap (λ n. fill_from (f + n) ys (fill_from f (map integer l) bs)) (length-map l integer ∙ e)

-- ---- an item

-- the fields of an item can be spelled
pub filled_spells : (k : Kind) (z : Item k) → HasRecord k z → CanSpell (filled_of k z)
unfolding row_of
filled_spells k z h = (all_parts (filled_of k z) (replicate (fields - length (filled_of k z)) blank) h.1).0

-- so can the bound of a guard, the marks and the loop mark of a place, and the bound of an until
pub guard_spells : (g : Guard) → HasRecord kind.Guard g → Spellable g.bound
guard_spells g h = go (all_parts (map integer g.coefficients.at) (integer g.bound ∷ []) (filled_spells kind.Guard g h)).1
  where
    go : {a : Field} → CanSpell (a ∷ []) → HasSpelling a.content
    go (also x s) = x

pub place_spells : (p : Place) → HasRecord kind.Place p → Spellable (pos p.marks) × CanSpell (mark_fields p.mark)
place_spells p h = go (filled_spells kind.Place p h)
  where
    go : {a b c : Field} {l : List Field} → CanSpell (a ∷ b ∷ c ∷ l) → HasSpelling c.content × CanSpell l
    go (also x (also y (also z s))) = (z, s)

pub until_spells : {a b : ℕ} {z : ℤ} {t u : Option Term} (s : Sentence) → s.form ≡ form.Until a b z t u → HasRecord kind.Sentence s → Spellable z
until_spells s e h = go (subst (λ f. CanSpell (form_fields f)) e (filled_spells kind.Sentence s h))
  where
    go : {a b c d : Field} {l : List Field} → CanSpell (a ∷ b ∷ c ∷ d ∷ l) → HasSpelling d.content
    go (also w (also x (also y (also z s)))) = z

-- an item's fields, filled in over a blank record, are its record
pub fill_item : (k : Kind) (z : Item k) (rest : List ℕ) → HasRecord k z → fill_from 1 (filled_of k z) (record_bytes k (replicate fields blank) ++ rest) ≡ item_bytes k z ++ rest
unfolding record_bytes row_of gather
fill_item k z rest h =
    let xs = filled_of k z in
    let blanks = replicate (fields - length (filled_of k z)) blank in
    fill_fields k rest xs [] 1 fields refl (omega (arith, h.0, length-append xs blanks)) none (filled_spells k z h)
    ∙ ap (λ l. letter_of k ∷ l) (sym (append_snoc (gather field_bytes (xs ++ blanks)) line_feed rest
    ∙ ap (λ g. g ++ (line_feed ∷ rest)) (gather_both field_bytes xs blanks)
    ∙ append_assoc (gather field_bytes xs) (gather field_bytes blanks) (line_feed ∷ rest)))

-- so are those of a sentence, by its form
pub fill_sentence : {f : Form} {p q : List ℕ} (s : Sentence) (rest : List ℕ) → s.form ≡ f → HasRecord kind.Sentence s →
    p ≡ record_bytes kind.Sentence (replicate fields blank) ++ rest → q ≡ fill_from 1 (form_fields f) p → q ≡ item_bytes kind.Sentence s ++ rest
fill_sentence {f} s rest e h w r = r ∙ ap₂ (λ g b. fill_from 1 (form_fields g) b) (sym e) w ∙ fill_item kind.Sentence s rest h

-- and those of a move, step by step
pub fill_move : {blanks one two three four all : List ℕ} (m : Move) (rest : List ℕ) → length m.updates.at ≡ counters → HasRecord kind.Move m →
    blanks ≡ record_bytes kind.Move (replicate fields blank) ++ rest →
    one ≡ fill_in 1 (Number (pos m.from)) blanks →
    two ≡ fill_in 2 (Number (pos m.to)) one →
    three ≡ fill_from 3 (map integer m.updates.at) two →
    four ≡ fill_in (3 + counters) (reference m.guard1).content three →
    all ≡ fill_in (4 + counters) (reference m.guard2).content four →
    all ≡ item_bytes kind.Move m ++ rest
fill_move m rest l h b e f g i j =
    cc (fill_counters 3 m.updates.at (reference m.guard1 ∷ reference m.guard2 ∷ []) _ l, fill_item kind.Move m rest h)
