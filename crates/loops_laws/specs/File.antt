-- The file of a case with other rounds in one loop is the file of the case with that one field respelled, and so it is of every file whose records are all
-- taken. Assumes nothing.
use Rattle.std.specs.Prelude.{◌≡◌, refl, List, [], ◌∷◌, ◌++◌, pos, length, take, drop}
use Rattle.std.proofs.Common.{sym, ◌∙◌, ap₂, subst, append_assoc, length-append, take-append-drop, take_at, drop_at, length-take-le}
use Rattle.std.proofs.Math.Path.{ap}
use Prim.Native.Nat.{ℕ, suc, ◌+◌, ◌*◌, ◌≤◌, ◌<◌}
use native.Mathlib.Omega.{arith}
use Rattle.std.proofs.Math.Seq.{split_at, set_split}
use Rattle.laws.specs.All.{All, gather, sum_over}
use Rattle.laws.specs.Members.{all_by, all_parts}
use Rattle.laws.specs.Gathered.{gather_both, gather_long}
use Rattle.record.specs.declared.Field.{Field}
use Rattle.record.specs.Spell.{spell}
use Rattle.record.specs.Layout.{width, record_length, line_feed, cut}
use Rattle.record_laws.specs.Spelled.{spell_length, each_long}
use Rattle.kinds.specs.declared.Kind.{Kind}
use Rattle.kinds.specs.declared.Kind.TheVariants as kind
use Rattle.kinds.specs.Kinds.{letter_of, count_of}
use Rattle.items.specs.declared.LoopMark.TheVariants as mark
use Rattle.items.specs.declared.Place.{Place}
use Rattle.items.specs.Items.{row_of, number, reference, blank}
use Rattle.items.specs.Lists.{Items, list_of, counts_of, no_item, with_places}
use Rattle.items.specs.Laws.{counted_of}
use Rattle.items.specs.File.{CanSpell, field_bytes, record_bytes, item_bytes, kind_bytes, file_of}
use Rattle.rules.specs.Files.{spelled, item_count, AllTaken}
use Rattle.meaning.specs.Files.{rounds_at}
use Rattle.meaning.specs.Run.{place_at}
use Rattle.meaning.specs.Rounds.{mark_with, place_with, places_with, with_rounds}
use Rattle.meaning.specs.Spans.{IsCounted, MayHave, place_record}
use Rattle.collector.specs.declared.Case.{Case}
use Rattle.collector.specs.Cases.{empty_case, case_of, items_of}
use Rattle.collector.specs.Taking.{collected_of}
use Rattle.collector.specs.Sound.{Sound}
use Rattle.rules_laws.specs.Held.{items_of_lem, counted}
use Rattle.rules_laws.specs.Written.{can_spell, record_long}
use Rattle.rules_laws.specs.Theorems as taking
use Rattle.places.specs.OneField.{with_mark}
use Rattle.loops_laws.specs.Numbered.{counted_held, counted_rounds_lem}
use Rattle.loops_laws.specs.Held.{sound_rounds}

-- two files that are the same but for the rounds field of record r, which spells m in the one and n in the other
pub record Respelled (bs cs : List ℕ) (r m n : ℕ) : Type 0 where
  pub before : List ℕ
  pub after : List ℕ
  pub long : length before ≡ record_length * r + rounds_at
  pub first : bs ≡ before ++ (spell (pos m) ++ after)
  pub second : cs ≡ before ++ (spell (pos n) ++ after)
  pub first_long : length (spell (pos m)) ≡ width
  pub second_long : length (spell (pos n)) ≡ width

-- ---- one part of a list

-- what stands around a part of a part
pub inside : {A : Type 0} (a b f c d : List A) → a ++ ((b ++ (f ++ c)) ++ d) ≡ (a ++ b) ++ (f ++ (c ++ d))
inside a b f c d = ap (λ l. a ++ l) (append_assoc b (f ++ c) d ∙ ap (λ l. b ++ l) (append_assoc f c d)) ∙ sym (append_assoc a b (f ++ (c ++ d)))

-- two parts by their lengths
same_parts : {A : Type 0} (a b c d : List A) → length a ≡ length c → a ++ b ≡ c ++ d → (a ≡ c) × (b ≡ d)
same_parts a b c d h e = (
  sym (take_at a b (length c) h) ∙ ap (take (length c)) e ∙ take_at c d (length c) refl,
  sym (drop_at a b (length c) h) ∙ ap (drop (length c)) e ∙ drop_at c d (length c) refl,
)

-- ---- the record of a place that begins a counted loop

-- its fields before its rounds, and those after them
abbrev fore : Place → ℕ → List Field
fore q l = number q.state ∷ reference q.way ∷ number q.marks ∷ number l ∷ []

abbrev rest : ℕ → List Field
rest b = number b ∷ blank ∷ blank ∷ []

-- its bytes before its rounds, and those after them
abbrev fore_bytes : Place → ℕ → List ℕ
fore_bytes q l = letter_of kind.Place ∷ gather field_bytes (fore q l)

abbrev rest_bytes : ℕ → List ℕ
rest_bytes b = gather field_bytes (rest b) ++ (line_feed ∷ [])

module _ (q : Place) (l m b : ℕ) where
  record_is : item_bytes kind.Place (with_mark q (mark.Counted l m b)) ≡ fore_bytes q l ++ (spell (pos m) ++ rest_bytes b)
  unfolding record_bytes row_of gather
  record_is =
      ap (λ r. letter_of kind.Place ∷ (r ++ (line_feed ∷ []))) (gather_both field_bytes (fore q l) (number m ∷ rest b))
      ∙ inside (letter_of kind.Place ∷ []) (gather field_bytes (fore q l)) (spell (pos m)) (gather field_bytes (rest b)) (line_feed ∷ [])

  fore_long : CanSpell (row_of kind.Place (with_mark q (mark.Counted l m b))) → length (fore_bytes q l) ≡ rounds_at
  unfolding row_of
  fore_long h = ap suc (gather_long field_bytes width (each_long (all_parts (fore q l) (number m ∷ rest b) h).0))

-- ---- the file of a case

-- the kinds before places
abbrev pub others : List Kind
others = kind.State ∷ kind.Weights ∷ kind.Guard ∷ kind.Move ∷ kind.Sentence ∷ []

-- the bytes of a file before a place, and those after it: of the items of other kinds, and of the places before and after
abbrev front : Items → List Place → List ℕ
front x us = gather (kind_bytes x) others ++ gather (item_bytes kind.Place) us

abbrev end : List Place → List ℕ
end vs = gather (item_bytes kind.Place) vs ++ []

file_is : (x : Items) (us vs : List Place) (q : Place) → file_of (with_places x (us ++ (q ∷ vs))) ≡ front x us ++ (item_bytes kind.Place q ++ end vs)
unfolding file_of gather
file_is x us vs q =
    let f = item_bytes kind.Place in
    gather_both (kind_bytes (with_places x (us ++ (q ∷ vs)))) others (kind.Place ∷ [])
    ∙ ap (λ l. gather (kind_bytes x) others ++ (l ++ [])) (gather_both f us (q ∷ vs))
    ∙ inside (gather (kind_bytes x) others) (gather f us) (f q) (gather f vs) []

-- so many records, kind by kind
pub gather_records : (f : Kind → List ℕ) (g : Kind → ℕ) → ((k : Kind) → length (f k) ≡ g k * record_length) → (ks : List Kind) →
    length (gather f ks) ≡ sum_over g ks * record_length
unfolding gather sum_over
gather_records f g h [] = refl
gather_records f g h (k ∷ ks) = omega (arith, length-append (f k) (gather f ks), h k, gather_records f g h ks)

module _ {c : Case} (s : Sound c) where
  -- the items
  abbrev x : Items
  x = items_of c

  each_record : (k : Kind) → All (λ y. length (item_bytes k y) ≡ record_length) (list_of k x)
  each_record k = all_by (no_item k) (list_of k x) (λ i h. record_long (s.fit k i (omega (arith, counted c s k))))

  pub kind_long : (k : Kind) → length (kind_bytes (items_of c) k) ≡ count_of (counts_of (items_of c)) k * record_length
  kind_long k = gather_long (item_bytes k) record_length (each_record k) ∙ ap (λ n. n * record_length) (sym (counted_of x k))

  others_are : item_count x ≡ sum_over (count_of (counts_of x)) others + length x.places
  unfolding sum_over
  others_are = omega arith

  front_long : (p : ℕ) → p ≤ length x.places → length (front x (take p x.places)) ≡ record_length * place_record x p
  front_long p h =
      let us = take p x.places in
      let e = subst (All (λ y. length (item_bytes kind.Place y) ≡ record_length)) (sym (take-append-drop p x.places)) (each_record kind.Place) in
      omega (
        arith,
        length-append (gather (kind_bytes x) others) (gather (item_bytes kind.Place) us),
        gather_records (kind_bytes x) (count_of (counts_of x)) kind_long others,
        gather_long (item_bytes kind.Place) record_length (all_parts us (drop p x.places) e).0,
        length-take-le p x.places h,
        others_are,
      )

  module _ {k p m : ℕ} (h : IsCounted (items_of c).places k p m) where
    -- the places, the loop's first one, those before it and those after it
    abbrev ps : List Place
    ps = x.places

    abbrev q : Place
    q = place_at ps p

    abbrev us : List Place
    us = take p ps

    abbrev vs : List Place
    vs = drop (suc p) ps

    -- it with so many rounds
    abbrev counting : ℕ → Place
    counting j = with_mark q (mark.Counted h.places j h.back)

    -- the bytes before the field, and those after it
    abbrev lead : List ℕ
    lead = front x us ++ fore_bytes q h.places

    abbrev trail : List ℕ
    trail = rest_bytes h.back ++ end vs

    there : p < length ps
    there = counted_held ps k h

    file_with : (j : ℕ) → file_of (with_places x (us ++ (counting j ∷ vs))) ≡ lead ++ (spell (pos j) ++ trail)
    file_with j =
        file_is x us vs (counting j)
        ∙ ap (λ r. front x us ++ (r ++ end vs)) (record_is q h.places j h.back)
        ∙ inside (front x us) (fore_bytes q h.places) (spell (pos j)) (rest_bytes h.back) (end vs)

    own_places : ps ≡ us ++ (counting m ∷ vs)
    own_places = split_at ps p (no_item kind.Place) there ∙ ap (λ k. us ++ (with_mark q k ∷ vs)) h.is

    new_places : (n : ℕ) → places_with ps p n ≡ us ++ (counting n ∷ vs)
    unfolding places_with
    new_places n = set_split ps p (place_with n q) there ∙ ap (λ k. us ++ (with_mark q (mark_with n k) ∷ vs)) h.is

    can : CanSpell (row_of kind.Place (counting m))
    can = subst (λ k. CanSpell (row_of kind.Place (with_mark q k))) h.is (can_spell (s.fit kind.Place p (omega (arith, counted c s kind.Place, there))))

    -- the file of the case with n rounds in loop k is that of the case with one field respelled
    pub file_rounds : {n : ℕ} → MayHave n → Respelled (file_of (items_of c)) (file_of (with_rounds (items_of c) p n)) (place_record (items_of c) p) m n
    file_rounds {n} may =
        record {
          before = lead;
          after = trail;
          long = omega (arith, length-append (front x us) (fore_bytes q h.places), front_long p (omega (arith, there)), fore_long q h.places m h.back can);
          first = ap (λ l. file_of (with_places x l)) own_places ∙ file_with m;
          second = ap (λ l. file_of (with_places x l)) (new_places n) ∙ file_with n;
          first_long = spell_length (pos m) (omega (arith, (counted_rounds_lem s h).most));
          second_long = spell_length (pos n) (omega (arith, may.most));
        }

  -- all its records are taken, and it spells that case
  pub file_spells : (p : ℕ) {n : ℕ} → MayHave n → let y = with_rounds (items_of c) p n in AllTaken (cut (file_of y)) × (spelled (file_of y) ≡ y)
  file_spells p {n} may =
      subst (λ y. AllTaken (cut (file_of y)) × (spelled (file_of y) ≡ y)) (items_of_lem (with_rounds x p n)) (taking.file_spells (case_of (with_rounds x p n)) (sound_rounds s p n may))

-- ---- any file whose records are all taken

module _ (bs : List ℕ) (t : AllTaken (cut bs)) {k p m n : ℕ} (h : IsCounted (spelled bs).places k p m) (may : MayHave n) where
  -- the case that it spells, and the file of that case with n rounds in loop k
  abbrev z : Items
  z = spelled bs

  abbrev cs : List ℕ
  cs = file_of (with_rounds z p n)

  held : items_of (collected_of empty_case bs).case ≡ z
  held = (taking.spelled_case bs ((taking.all_taken bs).0 t)).items

  -- with one field respelled it is the file of the case with n rounds in loop k
  pub respelled : Respelled bs (file_of (with_rounds (spelled bs) p n)) (place_record (spelled bs) p) m n
  respelled =
      subst (λ ds. Respelled ds cs (place_record z p) m n) (taking.file_back bs t)
      (subst (λ y. IsCounted y.places k p m → Respelled (file_of y) (file_of (with_rounds y p n)) (place_record y p) m n) held
      (λ i. file_rounds (taking.sound bs) i may) h)

  -- whose records are all taken, and that spells that case
  pub respelled_spells : AllTaken (cut (file_of (with_rounds (spelled bs) p n))) × (spelled (file_of (with_rounds (spelled bs) p n)) ≡ with_rounds (spelled bs) p n)
  respelled_spells =
      subst (λ (x : Items). let y = with_rounds x p n in AllTaken (cut (file_of y)) × (spelled (file_of y) ≡ y)) held (file_spells (taking.sound bs) p may)

-- so the bytes where the rounds of loop k stand spell its rounds, and with n spelled there instead, and all other bytes the same, all records are taken again, and
-- the case is that with n rounds in loop k
pub field_respelled : {k p m n : ℕ} (pre field post : List ℕ) → AllTaken (cut (pre ++ (field ++ post))) → let x = spelled (pre ++ (field ++ post)) in
    IsCounted x.places k p m → MayHave n → length pre ≡ record_length * place_record x p + rounds_at → length field ≡ width →
    (field ≡ spell (pos m)) × AllTaken (cut (pre ++ (spell (pos n) ++ post))) × (spelled (pre ++ (spell (pos n) ++ post)) ≡ with_rounds x p n)
field_respelled {k} {p} {m} {n} pre field post t h may long wide =
    let bs = pre ++ (field ++ post) in
    let r = respelled bs t h may in
    let (u, v) = same_parts pre (field ++ post) r.before (spell (pos m) ++ r.after) (long ∙ sym r.long) r.first in
    let (w, e) = same_parts field post (spell (pos m)) r.after (wide ∙ sym r.first_long) v in
    let g : file_of (with_rounds (spelled bs) p n) ≡ pre ++ (spell (pos n) ++ post) = r.second ∙ ap₂ (λ a b. a ++ (spell (pos n) ++ b)) (sym u) (sym e) in
    let (a, b) = subst (λ cs. AllTaken (cut cs) × (spelled cs ≡ with_rounds (spelled bs) p n)) g (respelled_spells bs t h may) in
    (w, a, b)

-- so of every file that is respelled there
pub respelled_other : {bs cs : List ℕ} {k p m n : ℕ} → AllTaken (cut bs) → IsCounted (spelled bs).places k p m → MayHave n →
    Respelled bs cs (place_record (spelled bs) p) m n → AllTaken (cut cs) × (spelled cs ≡ with_rounds (spelled bs) p n)
respelled_other {bs} {cs} {k} {p} {m} {n} t h may r =
    subst (λ ds. AllTaken (cut ds) × (spelled ds ≡ with_rounds (spelled bs) p n)) (sym r.second) (by r.first t h r.long)
  where
    by : bs ≡ r.before ++ (spell (pos m) ++ r.after) → AllTaken (cut bs) → IsCounted (spelled bs).places k p m →
        length r.before ≡ record_length * place_record (spelled bs) p + rounds_at →
        AllTaken (cut (r.before ++ (spell (pos n) ++ r.after))) × (spelled (r.before ++ (spell (pos n) ++ r.after)) ≡ with_rounds (spelled bs) p n)
    by e =
        subst
        (λ (ds : List ℕ).
        AllTaken (cut ds) → IsCounted (spelled ds).places k p m → length r.before ≡ record_length * place_record (spelled ds) p + rounds_at →
        AllTaken (cut (r.before ++ (spell (pos n) ++ r.after))) × (spelled (r.before ++ (spell (pos n) ++ r.after)) ≡ with_rounds (spelled ds) p n))
        (sym e)
        (λ t h l. let (w, u, v) = field_respelled r.before (spell (pos m)) r.after t h may l r.first_long in (u, v))
