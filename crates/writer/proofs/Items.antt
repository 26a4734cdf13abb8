-- The items of a case as they are written: each from its array, record by record, kind by kind; all of them, which are the file. Assumes nothing.
use Rattle.std.specs.Prelude.{Err, Ok}
use mathlib.Core.Path.{◌≡◌, sym, ◌∙◌, ap, ap₂}
use mathlib.Core.Bool.{Bool, true, false, cond}
use mathlib.Core.List.{List, [], ◌∷◌, ◌++◌, append-nil, append_assoc}
use Prim.Native.Nat.{ℕ, ◌+◌, ◌-◌, ◌*◌, ◌≤◌, ◌<◌}
use native.Mathlib.Omega.{arith}
use lib.ListN.{length, get_or, take, drop, take-append-drop, length-append}
use lib.Seq.{length-take-le, take_all, get_or-take}
use lib.Dec.{leb}
use borrow.Author.Tests.{le-leb, lt-leb}
use Rattle.laws.specs.All.{gather, sum_over}
use Rattle.laws.specs.Gathered.{gather_both, gather_more, gather_long}
use Rattle.laws.specs.Lists.{at_front, within}
use Rattle.laws.specs.Members.{all_by}
use Rattle.laws.specs.Parts.{lent, back}
use Rattle.record.specs.Layout.{record_length}
use Rattle.kinds.specs.declared.Kind.{Kind}
use Rattle.kinds.specs.declared.Kind.TheVariants.{State}
use Rattle.kinds.specs.Kinds.{all_kinds, count_of, counts_total}
use Rattle.kinds.specs.Last.{kind_at}
use Rattle.items.specs.Items.{Item}
use Rattle.items.specs.Lists.{Items, list_of, no_item, room_of}
use Rattle.items.specs.File.{item_bytes, kind_bytes, file_of}
use Rattle.record_writer.specs.Fields.{HasRecord}
use Rattle.answers.specs.declared.WriteError.TheVariants.{TooShort}
use Rattle.collector.specs.declared.Case.{Case}
use Rattle.collector.specs.Cases.{arrays_of, items_of}
use Rattle.collector.specs.Sound.{Sound}
use Rattle.rules_laws.specs.Held.{counted, padded, long}
use Rattle.rules_laws.specs.Written.{can_spell, record_long}
use Rattle.writer.specs.Written.{written_of, buffer_after}
use Rattle.writer.proofs.Begun.{Begun, begun_none, begun_part}

-- ---- an item

-- item i of a kind
abbrev pub item_at : Case → (k : Kind) → ℕ → Item k
item_at c k i = get_or (list_of k (items_of c)) i (no_item k)

module _ {c : Case} (s : Sound c) (k : Kind) (i : ℕ) (h : i < count_of c.count k) where
  -- it stands in the array of its kind
  pub array_item : (d : Item k) → get_or (list_of k (arrays_of c)) i d ≡ item_at c k i
  array_item d =
      within (list_of k (arrays_of c)) i d (no_item k) (omega (arith, long s k, s.room k))
      ∙ ap (λ l. get_or l i (no_item k)) (padded s k)
      ∙ at_front (no_item k) (list_of k (items_of c)) (room_of k - length (list_of k (items_of c))) i

  pub has_record : HasRecord k (item_at c k i)
  has_record = ((s.fit k i h).long, can_spell (s.fit k i h))

  pub item_long : length (item_bytes k (item_at c k i)) ≡ record_length
  item_long = record_long (s.fit k i h)

-- ---- the items of a kind, and all of them

-- so many elements are gathered as there are for each
long_by : {A B : Type 0} (f : A → List B) (g : A → ℕ) → ((a : A) → length (f a) ≡ g a * record_length) → (l : List A) → length (gather f l) ≡ sum_over g l * record_length
unfolding gather sum_over
long_by f g h [] = omega arith
long_by f g h (a ∷ l) = omega (arith, length-append (f a) (gather f l), h a, long_by f g h l)

module _ {c : Case} (s : Sound c) where
  -- the first i of a kind, each in its own bytes
  items_long : (k : Kind) (i : ℕ) → i ≤ count_of c.count k → length (gather (item_bytes k) (take i (list_of k (items_of c)))) ≡ i * record_length
  items_long k i h =
      let l = list_of k (items_of c) in
      let n : length (take i l) ≡ i = length-take-le i l (omega (arith, counted c s k)) in
      gather_long (item_bytes k) record_length
      (all_by (no_item k) (take i l) (λ j g.
      rw (get_or-take i l j (no_item k) (omega arith)) (item_long s k j (omega arith))))
      ∙ ap (λ m. m * record_length) n

  kind_long : (k : Kind) → length (kind_bytes (items_of c) k) ≡ count_of c.count k * record_length
  kind_long k =
      ap (λ l. length (gather (item_bytes k) l)) (sym (take_all (count_of c.count k) (list_of k (items_of c)) (omega (arith, counted c s k))))
      ∙ items_long k (count_of c.count k) (omega arith)

  pub file_long : length (file_of (items_of c)) ≡ counts_total c.count * record_length
  unfolding file_of
  file_long = long_by (kind_bytes (items_of c)) (count_of c.count) kind_long all_kinds

-- ---- record by record

-- the items of the kinds below rank r are written, and the first i of the kind of that rank, up to byte n
pub record Upto (c : Case) (p₀ p : List ℕ) (n r i : ℕ) : Type 0 where
  pub begun : Begun p₀ (gather (kind_bytes (items_of c)) (take r all_kinds) ++ gather (item_bytes (kind_at r)) (take i (list_of (kind_at r) (items_of c)))) p n
  pub held : i ≤ count_of c.count (kind_at r)

pub upto_none : (c : Case) (p : List ℕ) → Upto c p p 0 0 0
unfolding gather
upto_none c p = record { begun = begun_none p; held = omega arith }

module _ {c : Case} {p₀ p : List ℕ} {n r i : ℕ} (s : Sound c) (u : Upto c p₀ p n r i) where
  abbrev x : Items
  x = items_of c

  abbrev k : Kind
  k = kind_at r

  -- one more has room
  pub upto_room : r < length all_kinds → i < count_of c.count (kind_at r) → n + record_length ≤ counts_total c.count * record_length
  unfolding file_of
  upto_room h g =
      let first = gather (kind_bytes x) (take r all_kinds) in
      let more = gather (kind_bytes x) (take (r + 1) all_kinds) in
      let rest = gather (kind_bytes x) (drop (r + 1) all_kinds) in
      let all : gather (kind_bytes x) all_kinds ≡ more ++ rest =
      ap (gather (kind_bytes x)) (sym (take-append-drop (r + 1) all_kinds)) ∙ gather_both (kind_bytes x) (take (r + 1) all_kinds) (drop (r + 1) all_kinds) in
      omega (
        arith,
        u.begun.size,
        length-append first (gather (item_bytes k) (take i (list_of k x))),
        items_long s k i u.held,
        kind_long s k,
        ap length (gather_more (kind_bytes x) all_kinds r State h),
        length-append first (kind_bytes x k),
        ap length all,
        length-append more rest,
        file_long s,
      )

  -- it was written
  pub upto_item : (q : List ℕ) → r < length all_kinds → i < count_of c.count (kind_at r) → n + record_length ≤ length p₀ →
      q ≡ item_bytes (kind_at r) (item_at c (kind_at r) i) ++ drop record_length (lent n p) → Upto c p₀ (back n p q) (n + record_length) r (i + 1)
  upto_item q h g m e =
      let first = gather (kind_bytes x) (take r all_kinds) in
      let more : (first ++ gather (item_bytes k) (take i (list_of k x))) ++ item_bytes k (item_at c k i) ≡ first ++ gather (item_bytes k) (take (i + 1) (list_of k x)) =
      append_assoc first (gather (item_bytes k) (take i (list_of k x))) (item_bytes k (item_at c k i))
      ∙ ap (λ l. first ++ l) (sym (gather_more (item_bytes k) (list_of k x) i (no_item k) (omega (arith, counted c s k)))) in
      record {
        begun = rw (← more) (begun_part u.begun (item_bytes k (item_at c k i)) q record_length (item_long s k i g) m e);
        held = omega arith;
      }

  -- all of the kind are: on to the next
  pub upto_kind : r < length all_kinds → count_of c.count (kind_at r) ≤ i → Upto c p₀ p n (r + 1) 0
  unfolding gather
  upto_kind h g =
      let first = gather (kind_bytes x) (take r all_kinds) in
      let more : first ++ gather (item_bytes k) (take i (list_of k x)) ≡ gather (kind_bytes x) (take (r + 1) all_kinds) ++ [] =
      ap (λ l. first ++ gather (item_bytes k) l) (take_all i (list_of k x) (omega (arith, counted c s k)))
      ∙ sym (gather_more (kind_bytes x) all_kinds r State h)
      ∙ sym (append-nil (gather (kind_bytes x) (take (r + 1) all_kinds))) in
      record { begun = rw (← more) u.begun; held = omega arith }

  -- all are
  pub upto_all : length all_kinds ≤ r → i ≡ 0 → Begun p₀ (file_of (items_of c)) p n
  unfolding file_of gather
  upto_all h e =
      let all : gather (kind_bytes x) (take r all_kinds) ++ gather (item_bytes k) (take i (list_of k x)) ≡ gather (kind_bytes x) all_kinds =
      ap₂ (λ l j. gather (kind_bytes x) l ++ gather (item_bytes k) (take j (list_of k x))) (take_all r all_kinds h) e ∙ append-nil (gather (kind_bytes x) all_kinds) in
      rw (← all) u.begun

-- ---- what is told

module _ (file b : List ℕ) where
  by_room : (t : Bool) → leb (length file) (length b) ≡ t →
      (cond t (Ok (length file)) (Err TooShort) ≡ written_of file (length b)) × (cond t (file ++ drop (length file) b) b ≡ buffer_after file b)
  unfolding written_of buffer_after
  by_room t e = (ap (λ u. cond u (Ok (length file)) (Err TooShort)) (sym e), ap (λ u. cond u (file ++ drop (length file) b) b) (sym e))

  pub too_short : length b < length file → (Err TooShort ≡ written_of file (length b)) × (b ≡ buffer_after file b)
  too_short h = by_room false (lt-leb (length file) (length b) h)

  pub all_fits : length file ≤ length b → (Ok (length file) ≡ written_of file (length b)) × (file ++ drop (length file) b ≡ buffer_after file b)
  all_fits h = by_room true (le-leb (length file) (length b) h)
