-- The file of items that fit their rows, record by record: it is cut into their records, and where each item is what its fields become it spells them. Assumes
-- nothing.
use Rattle.std.specs.Prelude.{◌≡◌, refl, List, [], ◌∷◌, ◌++◌, map, Bool, true, false, cond, ℕ, ◌<◌, length, get_or}
use Rattle.std.proofs.Common.{◌∙◌, ap₂, append-nil, true≢false, arith}
use Rattle.std.proofs.Math.Path.{sym, ap}
use Rattle.laws.specs.All.{All, none, also, gather}
use Rattle.laws.specs.Members.{all_has, has_all, all_both, all_by}
use Rattle.laws.specs.Gathered.{gather_same, gather_gather, gather_map}
use Rattle.record.specs.declared.Field.{Field}
use Rattle.record.specs.Layout.{cut}
use Rattle.kinds.specs.declared.Kind.{Kind}
use Rattle.kinds.specs.Kinds.{letter_of, all_kinds, same}
use Rattle.kinds.specs.Laws.{each_kind, by_kind, same_is, same_self}
use Rattle.items.specs.Items.{Item, item_of, row_of}
use Rattle.items.specs.Lists.{Items, list_of, no_item}
use Rattle.items.specs.Laws.{list_by, items_same}
use Rattle.items.specs.File.{record_bytes, item_bytes, file_of}
use Rattle.rules.specs.Files.{rows_of, spelled}
use Rattle.collector.specs.Sound.{Fit}
use Rattle.rules_laws.specs.Spelled.{rows_same, rows_other}
use Rattle.rules_laws.specs.AllTaken.{rows_append}
use Rattle.rules_laws.specs.Written.{record_long, record_reads}
use Rattle.rules_laws.specs.Back.{joined, IsWhole, cut_joined}

-- ---- lists

all_gather : {A B : Type 0} {P : B → Type 0} (f : A → List B) → ((a : A) → All P (f a)) → (l : List A) → All P (gather f l)
unfolding gather
all_gather f h [] = none
all_gather f h (a ∷ l) = all_both (h a) (all_gather f h l)

all_mapped : {A B : Type 0} {P : B → Type 0} (f : A → B) {l : List A} → All (λ a. P (f a)) l → All P (map f l)
all_mapped f none = none
all_mapped f (also h t) = also h (all_mapped f t)

-- one kind alone gives something
gather_one : {A : Type 0} (f : Kind → List A) (k : Kind) → ((j : Kind) → same k j ≡ false → f j ≡ []) → gather f all_kinds ≡ f k
unfolding gather
gather_one {A} f k h =
    gather_same f (λ j. cond (same k j) (f k) []) (has_all all_kinds (λ j m. only j))
    ∙ each_kind (λ k. (l : List A) → gather (λ j. cond (same k j) l []) all_kinds ≡ l) append-nil append-nil append-nil append-nil append-nil append-nil k (f k)
  where
    only : (j : Kind) → f j ≡ cond (same k j) (f k) []
    only =
        by_kind (λ j. f j ≡ cond (same k j) (f k) []) k
        (sym (ap (λ t. cond t (f k) []) (same_self k))) (λ j e. h j e ∙ sym (ap (λ t. cond t (f k) []) e))

-- ---- the records

-- the records of the items of a kind, and of all, kind by kind
abbrev pub block_of : Items → Kind → List (List ℕ)
block_of x k = map (item_bytes k) (list_of k x)

abbrev pub records_of : Items → List (List ℕ)
records_of x = gather (block_of x) all_kinds

-- every item fits its row
abbrev pub AllFit : Items → Type 0
AllFit x = (k : Kind) (i : ℕ) → i < length (list_of k x) → Fit k (row_of k (get_or (list_of k x) i (no_item k)))

module _ (x : Items) (fit : AllFit x) where
  all_fit : (k : Kind) → All (λ y. Fit k (row_of k y)) (list_of k x)
  all_fit k = all_by (no_item k) (list_of k x) (fit k)

  all_whole : All IsWhole (records_of x)
  all_whole = all_gather (block_of x) (λ k. all_mapped (item_bytes k) (has_all (list_of k x) (λ y m. record_long (all_has (all_fit k) m)))) all_kinds

  file_records : file_of x ≡ joined (records_of x)
  unfolding file_of
  file_records = sym (gather_gather (λ b. b) (block_of x) all_kinds ∙ gather_same _ _ (has_all all_kinds (λ k m. gather_map (λ b. b) (item_bytes k) (list_of k x))))

  -- the file is cut into them
  pub cut_file : cut (file_of x) ≡ records_of x
  unfolding cut
  cut_file = ap cut file_records ∙ cut_joined all_whole (length (joined (records_of x))) (omega arith)

-- ---- what they spell

first : (k : Kind) (r : List Field) → get_or (record_bytes k r) 0 0 ≡ letter_of k
unfolding record_bytes
first k r = refl

unlike : (k j : Kind) → same k j ≡ false → same j k ≡ false
unlike k j e = go (same j k) refl
  where
    go : (t : Bool) → same j k ≡ t → t ≡ false
    go true d = absurd (true≢false (sym (ap (same k) (same_is j k d) ∙ same_self k) ∙ e))
    go false d = refl

rows_gather : (j : Kind) (f : Kind → List (List ℕ)) (ks : List Kind) → rows_of j (gather f ks) ≡ gather (λ k. rows_of j (f k)) ks
unfolding gather rows_of
rows_gather j f [] = refl
rows_gather j f (k ∷ ks) = rows_append j (f k) (gather f ks) ∙ ap (λ l. rows_of j (f k) ++ l) (rows_gather j f ks)

-- the records of items give their rows to their own kind, and nothing to another
rows_own : (k : Kind) {l : List (Item k)} → All (λ y. Fit k (row_of k y)) l → rows_of k (map (item_bytes k) l) ≡ map (row_of k) l
unfolding rows_of
rows_own k none = refl
rows_own k (also {x = y} {l = l} h t) =
    rows_same (item_bytes k y) (map (item_bytes k) l) k (first k (row_of k y)) ∙ ap₂ (λ r q. r ∷ q) (record_reads h) (rows_own k t)

rows_none : (j k : Kind) → same k j ≡ false → (l : List (Item k)) → rows_of j (map (item_bytes k) l) ≡ []
unfolding rows_of
rows_none j k e [] = refl
rows_none j k e (y ∷ l) = rows_other (item_bytes k y) (map (item_bytes k) l) k (first k (row_of k y)) j e ∙ rows_none j k e l

read_all : (k : Kind) {l : List (Item k)} → All (λ y. item_of k (row_of k y) ≡ y) l → map (item_of k) (map (row_of k) l) ≡ l
read_all k none = refl
read_all k (also h t) = ap₂ (λ y l. y ∷ l) h (read_all k t)

-- the file spells the items, where each is what its fields become
pub file_spelled : (x : Items) → AllFit x →
    ((k : Kind) (i : ℕ) → i < length (list_of k x) → let y = get_or (list_of k x) i (no_item k) in item_of k (row_of k y) ≡ y) → spelled (file_of x) ≡ x
file_spelled x fit read =
    items_same (λ k.
    list_by (λ j. map (item_of j) (rows_of j (cut (file_of x)))) k
    ∙ ap (λ rs. map (item_of k) (rows_of k rs)) (cut_file x fit)
    ∙ ap (map (item_of k)) (rows_gather k (block_of x) all_kinds ∙ gather_one (λ j. rows_of k (block_of x j)) k (λ j e. rows_none k j (unlike k j e) (list_of j x)) ∙ rows_own k (all_fit x fit k))
    ∙ read_all k (all_by (no_item k) (list_of k x) (read k)))
