-- Every case with the invariant has what the laws of a run need of it. Assumes nothing.
use Rattle.std.specs.Prelude.{◌≡◌, List, [], ◌∷◌, ◌++◌, map, Bool, true, false, ℕ, zero, suc, ◌+◌, ◌≤◌, ◌<◌, ltb, ℤ, pos, neg_ℤ, length, get_or, replicate, drop, None, Option, Some}
use Rattle.std.proofs.Math.Path.{refl, subst}
use Rattle.std.proofs.Common.{sym, lit≤}
use native.Mathlib.Omega.{arith}
use Rattle.std.proofs.Math.Decide.{dec_lt}
use Rattle.std.specs.Int.Signed.{lt_z}
use Rattle.std.proofs.Math.ListN.{get_or-eq_default}
use borrow.Author.Tests.{ltb-false, leb-false}
use Rattle.laws.specs.Order.{lt_false}
use Rattle.laws.specs.Tests.{neither, tells_false}
use Rattle.laws.specs.Arithmetic.{le_in, neg_rel}
use Rattle.laws.specs.All.{All, none, also}
use Rattle.laws.specs.Sizes.{Within}
use Rattle.laws.specs.Members.{all_at, all_both}
use Rattle.record.specs.declared.Content.{Content}
use Rattle.record.specs.declared.Content.TheVariants.{Number}
use Rattle.record.specs.declared.Field.{Field}
use Rattle.record.specs.Layout.{at}
use Rattle.kinds.specs.declared.Kind.{Kind}
use Rattle.kinds.specs.declared.Kind.TheVariants as kind
use Rattle.kinds.specs.declared.Counts.{Counts}
use Rattle.kinds.specs.Kinds.{count_of, counters}
use Rattle.kinds.specs.Contents.{is_number}
use Rattle.table.specs.declared.Sort.{Sort}
use Rattle.table.specs.declared.Sort.TheVariants.{Reference}
use Rattle.table.specs.Sorts as sort
use Rattle.table.specs.declared.Rule.{Rule}
use Rattle.table.specs.declared.Rule.TheVariants as rule
use Rattle.table.specs.Sorts.{range_of, from_to}
use Rattle.table.specs.Table.{needed_if, weights_row, guard_row, move_row, in_filled, rule_at, shape_of}
use Rattle.items.specs.declared.Term.{Term}
use Rattle.items.specs.declared.Form.{Form}
use Rattle.items.specs.declared.Form.TheVariants as form
use Rattle.items.specs.declared.LoopMark.{LoopMark}
use Rattle.items.specs.declared.LoopMark.TheVariants as mark
use Rattle.items.specs.declared.Guard.{Guard}
use Rattle.items.specs.declared.Move.{Move}
use Rattle.items.specs.declared.Sentence.{Sentence}
use Rattle.items.specs.declared.Place.{Place}
use Rattle.items.specs.Items.{Item, item_of, row_of, integer, reference, weights_of, guard_of, move_of, sentence_of, place_of, per_counter, Ref}
use Rattle.items.specs.Lists.{Items, list_of, counts_of, room_of, no_item}
use Rattle.checks.specs.Faults.{beyond, outside, at_least, not_there}
use Rattle.rules.specs.Rules.{mark_at, length_of}
use Rattle.collector.specs.declared.Case.{Case}
use Rattle.collector.specs.Cases.{items_of}
use Rattle.collector.specs.Sound.{shape, Sound, Fit, reach}
use Rattle.rules_laws.specs.Tells.{tells_there}
use Rattle.rules_laws.specs.Fields.{met}
use Rattle.rules_laws.specs.Held.{counted, counts_are}
use Rattle.meaning.specs.Run.{stretch, back_of, move_at, named, guards_of}
use Rattle.meaning.specs.Judged.{start_of}
use Rattle.meaning_laws.specs.Facts.{TermRefers, Refers, most_start, StartHas, Facts}

-- ---- lists

-- what is true of every element and of what stands past the end
pub by_end : {A : Type 0} (P : A → Type 0) (l : List A) (d : A) (i : ℕ) → (i < length l → P (get_or l i d)) → P d → P (get_or l i d)
by_end P l d i f p =
    elim (dec_lt i (length l)) [ yes h ↦ f h | no h ↦ subst P (sym (get_or-eq_default l d {n = i} (omega arith))) p ]

-- ---- a field

-- a field with the number z from -l to h
abbrev pub FieldFrom : ℕ → ℕ → ℤ → Type 0
FieldFrom l h z = beyond (from_to (neg_ℤ (pos l)) (pos h)) (Number z) ≡ false

-- where neither end passes n
field_from : (l h n : ℕ) → l ≤ n → h ≤ n → (z : ℤ) → FieldFrom l h z → Within n z
field_from l h n p q z e =
    let b = neither (lt_z z (neg_ℤ (pos l))) (lt_z (pos h) z) e in (
      le_in (omega (arith, lt_false z (neg_ℤ (pos l)) b.0, neg_rel (pos l), neg_rel (pos n))),
      le_in (omega (arith, lt_false (pos h) z b.1)),
    )

pub field_within : (n : ℕ) (z : ℤ) → FieldFrom n n z → Within n z
field_within n = field_from n n n (omega arith) (omega arith)

-- numbers in a row whose rules are one sort's, of which every number is from -n to n
each_within : (n : ℕ) (s : Sort) → ((z : ℤ) → beyond (range_of s) (Number z) ≡ false → Within n z) → (zs : List ℤ) (us : List Rule) (xs : List Field)
    → ((j : ℕ) → outside (get_or (replicate (length zs) (rule.Needed s) ++ us) j rule.Blank) (at (map integer zs ++ xs) (suc j)) ≡ false)
    → All (Within n) zs
each_within n s e [] us xs h = none
each_within n s e (z ∷ zs) us xs h = also (e z (h 0)) (each_within n s e zs us xs (λ j. h (suc j)))

-- numbers that are all 0
zeros_within : (n k : ℕ) → FieldFrom n n (pos 0) → All (Within n) (replicate k (pos 0))
zeros_within n zero z = none
zeros_within n (suc k) z = also (field_within n (pos 0) z) (zeros_within n k z)

from_to_lem : (l h n : ℕ) → beyond (from_to (pos l) (pos h)) (Number (pos n)) ≡ false → (l ≤ n) × (n ≤ h)
from_to_lem l h n e =
    let b = neither (ltb n l) (ltb h n) e in
    (ltb-false n l b.0, ltb-false h n b.1)

-- what a reference names is one of n
abbrev Names : ℕ → Ref → Type 0
Names n r = All (λ t. t < n) (named r)

names : (n : ℕ) (r : Ref) → at_least n (reference r).content ≡ false → Names n r
names n None e = none
names n (Some t) e = also (leb-false n t e) none

-- needed or not
either : (n : Counts) (b : Bool) (k : Kind) (c : Content) → not_there n (needed_if b (Reference k)) c ≡ false → at_least (count_of n k) c ≡ false
either n true k c e = e
either n false k c e = e

-- every field of a row refers to what is held, by the test
abbrev Held : Counts → Kind → List Field → Type 0
Held n k r = (f : ℕ) → not_there n (rule_at (shape k r) f) (at r f) ≡ false

-- ---- an item

-- what a loop mark has, where there are n moves
abbrev MarkHas : ℕ → LoopMark → Type 0
MarkHas n mark.None = Unit {0}
MarkHas n (mark.Counted l r b) = (1 ≤ l) × (b < n) × (1 ≤ r) × (r ≤ 1000000)
MarkHas n (mark.Endless l b) = (1 ≤ l) × (b < n)

-- what an item of each kind has that the meaning reads, where so many items are held
abbrev GuardHas : Counts → Guard → Type 0
GuardHas n x = (length x.coefficients.at ≤ counters) × All (Within 999) x.coefficients.at

abbrev MoveHas : Counts → Move → Type 0
MoveHas n x = All (λ g. g < n.guards) (guards_of x) × All (Within 9999) x.updates.at

abbrev SentenceHas : Counts → Sentence → Type 0
SentenceHas n x = Refers n.sentences x.form

abbrev PlaceHas : Counts → Place → Type 0
PlaceHas n x = (x.state < n.states) × Names n.moves x.way × MarkHas n.moves x.mark

module _ (n : Counts) where
  -- an item of kind k that meets its rules has P
  abbrev Given : (k : Kind) → (Counts → Item k → Type 0) → Item k → Type 0
  Given k P x = Fit k (row_of k x) → Held n k (row_of k x) → P n x

  weights_has : (r : List Field) → Given kind.Weights (λ n. StartHas) (weights_of r)
  unfolding row_of rule_at shape_of weights_of
  weights_has r f t = (
    refl,
    each_within most_start sort.Weight (field_from 999999 9999999 most_start (lit≤ tt) (lit≤ tt)) (weights_of r).at (drop counters (weights_row counters))
        (drop counters (row_of kind.Weights (weights_of r))) (λ j. (met f (suc j)).ranged),
  )

  guard_has : (r : List Field) → Given kind.Guard GuardHas (guard_of r)
  unfolding row_of rule_at shape_of guard_of per_counter
  guard_has r f t = (
    omega arith,
    each_within 999 sort.Coefficient (field_within 999) (guard_of r).coefficients.at (drop counters (guard_row counters))
        (drop counters (row_of kind.Guard (guard_of r))) (λ j. (met f (suc j)).ranged),
  )

  move_has : (r : List Field) → Given kind.Move MoveHas (move_of r)
  unfolding row_of rule_at shape_of move_of per_counter
  move_has r f t =
      let m = move_of r in
      let g = names n.guards m.guard1 (either n (is_number (reference m.guard2).content) kind.Guard _ (t (3 + counters))) in
      let h = names n.guards m.guard2 (t (4 + counters)) in (
        all_both g h,
        each_within 9999 sort.Update (field_within 9999) m.updates.at
            (drop (2 + counters) (move_row counters (in_filled (shape kind.Move (row_of kind.Move m)).filled))) (drop (2 + counters) (row_of kind.Move m)) (λ j. (met f (suc (suc (suc j)))).ranged),
      )

  terms_have : (a b : ℕ) (z : ℤ) (u v : Option Term) → Held n kind.Sentence (row_of kind.Sentence (record { form = form.Until a b z u v })) →
      TermRefers n.sentences u × TermRefers n.sentences v
  unfolding row_of rule_at shape_of
  terms_have a b z None None t = (tt, tt)
  terms_have a b z None (Some c) t = (tt, leb-false n.sentences c.sentence (t 8))
  terms_have a b z (Some c) None t = (leb-false n.sentences c.sentence (t 6), tt)
  terms_have a b z (Some c) (Some d) t = (leb-false n.sentences c.sentence (t 6), leb-false n.sentences d.sentence (t 8))

  form_has : (f : Form) → Held n kind.Sentence (row_of kind.Sentence (record { form = f })) → Refers n.sentences f
  unfolding row_of rule_at shape_of
  form_has form.True t = tt
  form_has (form.Proposition p) t = tt
  form_has (form.Guard g) t = tt
  form_has (form.And a b) t = (leb-false n.sentences a (t 2), leb-false n.sentences b (t 3))
  form_has (form.Not a) t = leb-false n.sentences a (t 2)
  form_has (form.Next a) t = leb-false n.sentences a (t 2)
  form_has (form.Until a b z u v) t =
      let w = terms_have a b z u v t in
      (leb-false n.sentences a (t 2), leb-false n.sentences b (t 3), w.0, w.1)

  place_has : (s : ℕ) (w : Ref) (k : ℕ) (m : LoopMark) → Given kind.Place PlaceHas (record { state = s; way = w; marks = k; mark = m })
  unfolding row_of rule_at shape_of
  place_has s w k m f t = (leb-false n.states s (t 1), names n.moves w (t 2), go m f t)
    where
      go : (m : LoopMark) →
          let x : Place = record { state = s; way = w; marks = k; mark = m } in
          Fit kind.Place (row_of kind.Place x) → Held n kind.Place (row_of kind.Place x) → MarkHas n.moves m
      go mark.None f t = tt
      go (mark.Counted l r b) f t =
          let p = from_to_lem 1 1000000 r (met f 5).ranged in
          ((from_to_lem 1 64 l (met f 4).ranged).0, leb-false n.moves b (t 6), p.0, p.1)
      go (mark.Endless l b) f t = ((from_to_lem 1 64 l (met f 4).ranged).0, leb-false n.moves b (t 6))

-- ---- the case

-- a loop is as long as its mark says, and a lone place is one place
pub no_shorter : (m : LoopMark) → length_of m ≤ stretch m
no_shorter mark.None = omega arith
no_shorter (mark.Counted l n b) = omega arith
no_shorter (mark.Endless l b) = omega arith

ends : (p q : ℕ) (m : LoopMark) → p < q → p + length_of m ≤ q → p + stretch m ≤ q
ends p q mark.None h e = omega arith
ends p q (mark.Counted l n b) h e = e
ends p q (mark.Endless l b) h e = e

has_places : (n : ℕ) (m : LoopMark) → MarkHas n m → 1 ≤ stretch m
has_places n mark.None h = omega arith
has_places n (mark.Counted l r b) h = h.0
has_places n (mark.Endless l b) h = h.0

has_back : (n t : ℕ) (m : LoopMark) → MarkHas n m → back_of m ≡ Some t → t < n
has_back n t mark.None h e = let z : ◌≡◌ {A = ℕ} 0 1 = cc in absurd (omega arith)
has_back n t (mark.Counted l r b) h e = let q : b ≡ t = cc in omega (arith, h.1)
has_back n t (mark.Endless l b) h e = let q : b ≡ t = cc in omega (arith, h.1)

has_way : (n : ℕ) (r : Ref) → Names n r → (r ≡ None → ⊥) → (t : ℕ) × (r ≡ Some t) × (t < n)
has_way n None a h = absurd (h refl)
has_way n (Some t) (also l a) h = (t, refl, l)

module _ (c : Case) (s : Sound c) where
  abbrev x : Items
  x = items_of c

  -- each item of a kind has what its row gives
  held : (k : Kind) (P : Counts → Item k → Type 0) → ((n : Counts) (r : List Field) → Given n k P (item_of k r)) →
      (i : ℕ) → i < length (list_of k x) → P (reach (counts_of x) k i) (get_or (list_of k x) i (no_item k))
  held k P has i h =
      let l : i < count_of c.count k = omega (arith, counted c s k) in
      let n = reach c.count k i in
      let y = get_or (list_of k x) i (no_item k) in
      subst (λ m. P (reach m k i) y) (counts_are c s)
      (subst (Given n k P) (s.read k i l) (has n (row_of k y)) (s.fit k i l) (λ f. tells_false _ (tells_there k _ f n) (s.there k i l f)))

  weights_held : (i : ℕ) → i < length x.weights → StartHas (get_or x.weights i (no_item kind.Weights))
  weights_held = held kind.Weights (λ n. StartHas) weights_has

  guard_held : (i : ℕ) → i < length x.guards → GuardHas (counts_of x) (get_or x.guards i (no_item kind.Guard))
  guard_held = held kind.Guard GuardHas guard_has

  move_held : (i : ℕ) → i < length x.moves → MoveHas (counts_of x) (get_or x.moves i (no_item kind.Move))
  move_held = held kind.Move MoveHas move_has

  place_held : (i : ℕ) → i < length x.places → PlaceHas (counts_of x) (get_or x.places i (no_item kind.Place))
  place_held = held kind.Place PlaceHas (λ n r. place_has n (place_of r).state (place_of r).way (place_of r).marks (place_of r).mark)

  marks : (p : ℕ) → MarkHas (length x.moves) (mark_at x.places p)
  marks p =
      by_end (λ (q : Place). MarkHas (length x.moves) q.mark) x.places (no_item kind.Place) p (λ h. (place_held p h).2) tt

  adds : (t : Ref) → All (Within 9999) (move_at x.moves t).updates.at
  unfolding move_at
  adds None = zeros_within 9999 counters refl
  adds (Some t) =
      by_end (λ (m : Move). All (Within 9999) m.updates.at) x.moves (no_item kind.Move) t (λ h. (move_held t h).1) (zeros_within 9999 counters refl)

  pub facts : Facts (items_of c)
  unfolding move_at
  facts =
      record {
        resolved =
            record {
              laid =
                  record {
                    long = λ p. has_places (length x.moves) (mark_at x.places p) (marks p);
                    apart = λ p q h l m. ends p q (mark_at x.places p) h (s.loops.apart p q h l m);
                    last = λ p e. omega (arith, s.loops.last p e, no_shorter (mark_at x.places p));
                  };
              states = λ p h. (place_held p h).0;
              ways =
                  λ p l h.
                  has_way (length x.moves) _ (place_held p h).1
                  (λ e. let z = (s.ways p (omega (arith, counted c s kind.Place))).1 e in omega arith);
              backs = λ p t h. has_back (length x.moves) t (mark_at x.places p) (marks p);
              guards = λ t h. (move_held t h).0;
            };
        room =
            λ p h. ends p (room_of kind.Place) (mark_at x.places p) (omega (arith, counted c s kind.Place, s.room kind.Place)) (s.loops.within p h);
        rounds = λ p l n b e. let h : MarkHas (length x.moves) (mark.Counted l n b) = subst (MarkHas _) e (marks p) in (h.2, h.3);
        start =
            by_end (λ (p : Place). p.way ≡ None) x.places (no_item kind.Place) 0
            (λ h. (s.ways 0 (omega (arith, counted c s kind.Place))).0 refl) refl;
        refers = held kind.Sentence SentenceHas (λ n r f t. form_has n (sentence_of r).form t);
        weights = by_end StartHas x.weights (no_item kind.Weights) 0 (weights_held 0) (refl, zeros_within most_start counters refl);
        updates = λ t. all_at (Within 9999) _ (pos 0) (adds t) (field_within 9999 (pos 0) refl);
        coefficients =
            λ g. by_end (GuardHas (counts_of x)) x.guards (no_item kind.Guard) g (guard_held g) (omega arith, zeros_within 999 counters refl);
      }

-- no counter is further from 0 than `most_start` at the start
pub starts : {x : Items} → Facts x → (j : ℕ) → Within most_start (start_of x j)
unfolding start_of
starts f = all_at (Within most_start) _ (pos 0) f.weights.1 (field_within most_start (pos 0) refl)
