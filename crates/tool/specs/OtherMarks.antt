-- Two files that are alike but for the marks of places, and that the file of a case with other marks is so. Assumes nothing.
use Rattle.std.specs.Prelude.{◌≡◌, refl, List, [], ◌∷◌, ◌++◌, ℕ, suc, ◌+◌, ◌*◌, ◌-◌, pos, length, get_or, replicate}
use Rattle.std.proofs.Common.{sym, ◌∙◌, ap, ap₂, subst, append-nil, arith, length-append}
use Rattle.laws.specs.All.{All, none, also, gather, sum_over}
use Rattle.laws.specs.Members.{all_by}
use Rattle.laws.specs.Gathered.{gather_both, gather_long}
use Rattle.record.specs.declared.Field.{Field}
use Rattle.record.specs.Spell.{spell}
use Rattle.record.specs.Layout.{width, fields, record_length, line_feed}
use Rattle.record_laws.specs.Spelled.{each_long}
use Rattle.kinds.specs.declared.Kind.TheVariants as kind
use Rattle.kinds.specs.Kinds.{letter_of, count_of}
use Rattle.items.specs.declared.LoopMark.{LoopMark}
use Rattle.items.specs.declared.Place.{Place}
use Rattle.items.specs.Items.{row_of, number, reference, mark_fields, blank}
use Rattle.items.specs.Lists.{Items, counts_of, no_item, with_places}
use Rattle.items.specs.File.{field_bytes, record_bytes, item_bytes, kind_bytes, file_of}
use Rattle.meaning.specs.Marking.{place_marked, marked_from, with_marks}
use Rattle.collector.specs.declared.Case.{Case}
use Rattle.collector.specs.Cases.{items_of}
use Rattle.collector.specs.Sound.{Sound, Fit}
use Rattle.rules_laws.specs.Held.{counted}
use Rattle.rules_laws.specs.Written.{can_spell}
use Rattle.loops_laws.specs.File.{inside, others, gather_records, kind_long}

-- where the marks, field 3, begin in the record of a place
abbrev pub marks_begin : ℕ
marks_begin = 1 + 2 * width

-- two files that are the same but for the marks of places: records that are the same, and records of a place that are the same but for the bytes of field 3
pub data OtherMarks : List ℕ → List ℕ → Type 0 where
  end : OtherMarks [] []
  same : (n : ℕ) (records bs cs : List ℕ) → length records ≡ record_length * n → OtherMarks bs cs → OtherMarks (records ++ bs) (records ++ cs)
  place : (before f g after bs cs : List ℕ) → get_or before 0 0 ≡ letter_of kind.Place → length before ≡ marks_begin → length f ≡ width → length g ≡ width →
      length after ≡ record_length - marks_begin - width → OtherMarks bs cs → OtherMarks (before ++ (f ++ (after ++ bs))) (before ++ (g ++ (after ++ cs)))

-- ---- the record of a place

-- its fields before its marks, and those after them
abbrev fore : Place → List Field
fore q = number q.state ∷ reference q.way ∷ []

abbrev rest : LoopMark → List Field
rest m = mark_fields m ++ replicate (fields - suc (suc (suc (length (mark_fields m))))) blank

-- its bytes before its marks, and those after them
abbrev fore_bytes : Place → List ℕ
fore_bytes q = letter_of kind.Place ∷ gather field_bytes (fore q)

abbrev rest_bytes : LoopMark → List ℕ
rest_bytes m = gather field_bytes (rest m) ++ (line_feed ∷ [])

-- a place that meets the rules of its row
abbrev Fits : Place → Type 0
Fits q = Fit kind.Place (row_of kind.Place q)

-- the first two of a list, the third, and the others
parts : {A : Type 0} {P : A → Type 0} {a b c : A} {l : List A} → All P (a ∷ b ∷ c ∷ l) → All P (a ∷ b ∷ []) × P c × All P l
parts (also u (also v (also w t))) = (also u (also v none), w, t)

record_is : (q : Place) → item_bytes kind.Place q ≡ fore_bytes q ++ (spell (pos q.marks) ++ rest_bytes q.mark)
unfolding record_bytes row_of gather
record_is q =
    ap (λ r. letter_of kind.Place ∷ (r ++ (line_feed ∷ []))) (gather_both field_bytes (fore q) (number q.marks ∷ rest q.mark))
    ∙ inside (letter_of kind.Place ∷ []) (gather field_bytes (fore q)) (spell (pos q.marks)) (gather field_bytes (rest q.mark)) (line_feed ∷ [])

-- how long its parts are
record Long (q : Place) : Type 0 where
  before : length (fore_bytes q) ≡ marks_begin
  marks : length (spell (pos q.marks)) ≡ width
  after : length (rest_bytes q.mark) ≡ record_length - marks_begin - width

long : (q : Place) → Fits q → Long q
unfolding row_of
long q f =
    let (u, v, w) = parts (each_long (can_spell f)) in
    record {
      before = ap suc (gather_long field_bytes width u);
      marks = v;
      after = omega (arith, length-append (gather field_bytes (rest q.mark)) (line_feed ∷ []), gather_long field_bytes width w, f.long);
    }

-- ---- the file

places_other : (μ : ℕ → ℕ) (s : ℕ) (ps : List Place) → All Fits ps → All Fits (marked_from μ s ps) →
    OtherMarks (gather (item_bytes kind.Place) ps) (gather (item_bytes kind.Place) (marked_from μ s ps))
unfolding gather marked_from
places_other μ s [] h k = end
places_other μ s (q ∷ ps) (also f h) (also g k) =
    let z = place_marked (μ s) q in
    let bs = gather (item_bytes kind.Place) ps in
    let cs = gather (item_bytes kind.Place) (marked_from μ (suc s) ps) in
    let whole : (y : Place) (l : List ℕ) → item_bytes kind.Place y ++ l ≡ fore_bytes y ++ (spell (pos y.marks) ++ (rest_bytes y.mark ++ l)) =
    λ y l. ap (λ r. r ++ l) (record_is y) ∙ inside [] (fore_bytes y) (spell (pos y.marks)) (rest_bytes y.mark) l in
    let a = long q f in
    subst (λ (e : List ℕ × List ℕ). OtherMarks e.0 e.1) (ap₂ (λ u v. (u, v)) (sym (whole q bs)) (sym (whole z cs)))
    (place (fore_bytes q) (spell (pos q.marks)) (spell (pos (μ s))) (rest_bytes q.mark) bs cs refl a.before a.marks (long z g).marks a.after
    (places_other μ (suc s) ps h k))

-- the file of items: those of the other kinds, and the places
file_is : (x : Items) (ps : List Place) → file_of (with_places x ps) ≡ gather (kind_bytes x) others ++ gather (item_bytes kind.Place) ps
unfolding file_of gather
file_is x ps =
    gather_both (kind_bytes (with_places x ps)) others (kind.Place ∷ []) ∙ ap (λ l. gather (kind_bytes x) others ++ l) (append-nil (gather (item_bytes kind.Place) ps))

fits : {c : Case} → Sound c → All Fits (items_of c).places
fits {c} s = all_by (no_item kind.Place) (items_of c).places (λ i h. s.fit kind.Place i (omega (arith, counted c s kind.Place)))

-- a case that is another but for its marks has its file, but for them
pub marks_other : {c d : Case} → Sound c → Sound d → (μ : ℕ → ℕ) → items_of d ≡ with_marks (items_of c) μ → OtherMarks (file_of (items_of c)) (file_of (items_of d))
marks_other {c} {d} s u μ e =
    let x = items_of c in
    let f = gather (kind_bytes x) others in
    let n = sum_over (count_of (counts_of x)) others in
    let l : length f ≡ record_length * n = omega (arith, gather_records (kind_bytes x) (count_of (counts_of x)) (kind_long s) others) in
    let p = places_other μ 0 x.places (fits s) (subst (λ (y : Items). All Fits y.places) e (fits u)) in
    subst (λ (e : List ℕ × List ℕ). OtherMarks e.0 e.1)
    (ap₂ (λ u v. (u, v)) (sym (file_is x x.places)) (sym (ap file_of e ∙ file_is x (marked_from μ 0 x.places))))
    (same n f (gather (item_bytes kind.Place) x.places) (gather (item_bytes kind.Place) (marked_from μ 0 x.places)) l p)
