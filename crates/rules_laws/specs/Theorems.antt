-- What is proved of taking records: start here. The rules and the case that a file spells are in the crate rules; the invariant, and `taken_of` and
-- `collected_of`, with which the code's promises are equations, in the crate collector; how fields are spelled in record_laws. Assumes nothing.
use Rattle.std.specs.Prelude.{◌≡◌, ◌↔◌, ◌⊎◌, List, [], ◌∷◌, ◌++◌, true, false, ℕ, ◌+◌, ◌*◌, ◌<◌, ℤ, length, get_or, take, Err, Ok}
use Rattle.std.proofs.Common.{◌∙◌, sym, ap}
use Rattle.laws.specs.Tests.{cond_by}
use Rattle.record.specs.declared.Content.TheVariants.{Number}
use Rattle.record.specs.Spelling.{content_of}
use Rattle.record.specs.Layout.{width, record_length, record_of, cut}
use Rattle.record_laws.specs.Spelled.{one_spelling, spellable_range}
use Rattle.kinds.specs.declared.Kind.{Kind}
use Rattle.kinds.specs.declared.Kind.TheVariants as kind
use Rattle.kinds.specs.Kinds.{count_of}
use Rattle.table.specs.Sorts.{Bound}
use Rattle.items.specs.Items.{item_of, row_of}
use Rattle.items.specs.Lists.{Items, list_of, no_item}
use Rattle.items.specs.File.{CanSpell, record_bytes, file_of}
use Rattle.answers.specs.declared.Refusal.TheVariants.{OutOfRange}
use Rattle.answers.specs.Answers.{is_taken, Answer}
use Rattle.rules.specs.Rules.{IsA, InRange, Applies, IsFirst}
use Rattle.rules.specs.Files.{spelled, item_count, AllTaken}
use Rattle.collector.specs.declared.Case.{Case}
use Rattle.collector.specs.Taking.{Collected, taken_of, collected_from, collected_of}
use Rattle.collector.specs.Cases.{empty_case, case_of, items_of}
use Rattle.collector.specs.Sound.{Sound}
use Rattle.rules_laws.specs.Fields.{fields_again}
use Rattle.rules_laws.specs.Held.{same_kind, other_kind, refused_same, taken_with}
use Rattle.rules_laws.specs.First.{answers_first, first_one}
use Rattle.rules_laws.specs.Kept.{sound_empty, sound_kept}
use Rattle.rules_laws.specs.Spelled.{Spells, spells_file}
use Rattle.rules_laws.specs.AllTaken as taking
use Rattle.rules_laws.specs.Written.{can_spell, record_reads}
use Rattle.rules_laws.specs.Back.{held_written, taken_written}
use Rattle.rules_laws.specs.Again.{taken_again}
use Rattle.rules_laws.specs.Weights.{no_16}

-- a record is taken where no refusal applies, and else gets the first that applies, of which there is one
pub answers : (c : Case) (bs : List ℕ) → Sound c →
    ((is_taken (taken_of c bs).answer ≡ true) × ((a : Answer) → Applies (items_of c) bs a → ⊥)) ⊎ IsFirst (items_of c) bs (taken_of c bs).answer
answers = answers_first

pub one_answer : (c : Case) (bs : List ℕ) (a b : Answer) → IsFirst (items_of c) bs a → IsFirst (items_of c) bs b → a ≡ b
one_answer c = first_one (items_of c)

-- a refused record leaves the case as it was, all of it
pub refused : (c : Case) (bs : List ℕ) → is_taken (taken_of c bs).answer ≡ false → (taken_of c bs).case ≡ c
refused = refused_same

-- a taken record is the next item of its kind, field for field, and all else held stays
pub record BecomesNext (c d : Case) (bs : List ℕ) : Type 0 where
  pub kind : Kind
  pub named : IsA kind bs
  pub item : list_of kind (items_of d) ≡ list_of kind (items_of c) ++ (item_of kind (record_of bs).fields ∷ [])
  pub fields : row_of kind (item_of kind (record_of bs).fields) ≡ (record_of bs).fields
  pub others : (j : Kind) → (j ≡ kind → ⊥) → list_of j (items_of d) ≡ list_of j (items_of c)

pub taken : (c : Case) (bs : List ℕ) → Sound c → is_taken (taken_of c bs).answer ≡ true → BecomesNext c (taken_of c bs).case bs
taken c bs s h =
    let t = taken_with c bs h in
    let k = t.kind in
    let r = (record_of bs).fields in
    record {
      kind = k;
      named = t.letter;
      item = ap (λ d. list_of k (items_of d)) t.case ∙ same_kind c k r s.same t.next.room;
      fields = fields_again k r t.fit;
      others = λ j n. ap (λ d. list_of j (items_of d)) t.case ∙ other_kind c k r s.same t.next.room j n;
    }

-- a case with the invariant is its items: what it keeps beside them follows from them
pub case_is : (c : Case) → Sound c → c ≡ case_of (items_of c)
case_is c s = s.same

-- the empty case is sound, and every record, taken or refused, keeps a case so: what `take` hands back and `take_all` leaves may be gone on with, and judged
pub empty_sound : Sound empty_case
empty_sound = sound_empty

pub take_sound : (c : Case) (bs : List ℕ) → Sound c → Sound (taken_of c bs).case
take_sound = sound_kept

sound_from : (rs : List (List ℕ)) (c : Case) (m : ℕ) → Sound c → Sound (collected_from c m rs).case
unfolding collected_from
sound_from [] c m s = s
sound_from (r ∷ rs) c m s =
    let t = taken_of c r in
    cond_by (λ (q : Collected). Sound q.case) (is_taken t.answer) {x = collected_from t.case (m + 1) rs} {y = record { case = t.case; answer = t.answer; taken = m }}
    (λ e. sound_from rs t.case (m + 1) (take_sound c r s))
    (λ e. take_sound c r s)

pub collected_sound : (c : Case) (bs : List ℕ) → Sound c → Sound (collected_of c bs).case
unfolding collected_of
collected_sound c bs s = sound_from (cut bs) c 0 s

-- so every case that a file makes is sound
pub sound : (bs : List ℕ) → Sound (collected_of empty_case bs).case
sound bs = collected_sound empty_case bs empty_sound

-- a file all of whose records are taken gives the case that it spells
pub spelled_case : (bs : List ℕ) → is_taken (collected_of empty_case bs).answer ≡ true → Spells (cut bs) (collected_of empty_case bs)
spelled_case = spells_file

-- all records of a file are taken by the rules exactly where the collector takes them
pub all_taken : (bs : List ℕ) → AllTaken (cut bs) ↔ (is_taken (collected_of empty_case bs).answer ≡ true)
all_taken = taking.all_taken

-- ---- a case written back: `file_of` is in the crate items

-- every field of every item of a sound case has a spelling, and its record is read as the item's fields again
pub item_spelled : (c : Case) → Sound c → (k : Kind) (i : ℕ) → i < count_of c.count k →
    let r = row_of k (get_or (list_of k (items_of c)) i (no_item k)) in CanSpell r × ((record_of (record_bytes k r)).fields ≡ r)
item_spelled c s k i h = (can_spell (s.fit k i h), record_reads (s.fit k i h))

-- the file of a sound case is taken in again: from the empty case every record is taken, and the case is the same, all of it
pub file_again : (c : Case) → Sound c → collected_of empty_case (file_of (items_of c)) ≡ record { case = c; answer = Ok tt; taken = item_count (items_of c) }
file_again = taken_again

-- so by the rules all its records are taken, and it spells the case's items
pub file_spells : (c : Case) → Sound c → AllTaken (cut (file_of (items_of c))) × (spelled (file_of (items_of c)) ≡ items_of c)
file_spells c s =
    let e = file_again c s in
    let t : is_taken (collected_of empty_case (file_of (items_of c))).answer ≡ true = ap (λ (q : Collected). is_taken q.answer) e in
    ((all_taken (file_of (items_of c))).1 t, sym (spelled_case (file_of (items_of c)) t).items ∙ ap (λ (q : Collected). items_of q.case) e)

-- a file all of whose records are taken is the file of the case that it spells, byte for byte
pub file_back : (bs : List ℕ) → AllTaken (cut bs) → file_of (spelled bs) ≡ bs
file_back bs h =
    let t = (all_taken bs).0 h in
    ap file_of (sym (spelled_case bs t).items) ∙ taken_written bs t

-- of any file, what is held after it is written as its first records, so many as were taken
pub held_back : (bs : List ℕ) → let q = collected_of empty_case bs in file_of (items_of q.case) ≡ take (record_length * q.taken) bs
held_back = held_written

-- so it is the only spelling: two files whose records are all taken and that give the same case are equal
pub one_file : (bs cs : List ℕ) → AllTaken (cut bs) → AllTaken (cut cs) → spelled bs ≡ spelled cs → bs ≡ cs
one_file bs cs h k e = sym (file_back bs h) ∙ ap file_of e ∙ file_back cs k

-- a bound may be any number that a field can spell: each that is read is in its range
pub bounds : (bs : List ℕ) → length bs ≡ width → (z : ℤ) → content_of bs ≡ Number z → InRange Bound z
bounds bs l z e = (spellable_range z).0 (one_spelling bs z l e).1

-- and so may a starting weight: 16 applies to no record of them
pub no_16_for_weights : (bs : List ℕ) → length bs ≡ record_length → IsA kind.Weights bs → (x : Items) (f : ℕ) → Applies x bs (Err (OutOfRange f)) → ⊥
no_16_for_weights = no_16
