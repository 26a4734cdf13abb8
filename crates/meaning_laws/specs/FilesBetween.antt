-- Demand 3 of files, from that of cases. Assumes nothing.
use Rattle.std.specs.Prelude.{◌≡◌, refl, List, [], ◌∷◌, ◌++◌, map, true, false, ◌||◌, ℕ, ◌+◌, ◌*◌, ◌≤◌, eqb, ℤ, pos, negsuc, ◌≤ℤ◌, length, get_or}
use Rattle.std.proofs.Common.{◌∙◌, ap₂, subst, subst₂, true≢false, arith, length-append, ltb-false}
use Rattle.std.proofs.Math.Path.{sym, ap}
use Rattle.std.specs.Int.Signed.{lt_z}
use Rattle.std.proofs.Math.Seq.{set-append_seam, get_or-append_seam}
use Rattle.laws.specs.Order.{up, down, zarith}
use Rattle.laws.specs.Tests.{neither}
use Rattle.laws.specs.Arithmetic.{le_out}
use Rattle.record.specs.declared.Content.{Content}
use Rattle.record.specs.declared.Content.TheVariants.{Blank, Number, Bad}
use Rattle.record.specs.declared.Field.{Field}
use Rattle.record.specs.declared.Record.{Record}
use Rattle.record.specs.Spelling.{content_of}
use Rattle.record.specs.Layout.{width, record_length, record_of}
use Rattle.record.specs.Spell.{IsSpelling}
use Rattle.record_laws.specs.Spelled.{spell_length, spell_reads}
use Rattle.kinds.specs.declared.Kind.{Kind}
use Rattle.kinds.specs.declared.Kind.TheVariants as kind
use Rattle.kinds.specs.Kinds.{letter_of}
use Rattle.kinds.specs.Laws.{one_kind}
use Rattle.kinds.specs.Contents.{is_blank, natural}
use Rattle.table.specs.Table.{shape_of, rule_at}
use Rattle.items.specs.declared.LoopMark.TheVariants as mark
use Rattle.items.specs.declared.Place.{Place}
use Rattle.items.specs.Items.{item_of, mark_of, place_of, byte_of}
use Rattle.items.specs.Lists.{Items, list_of, no_item, with_places}
use Rattle.items.specs.Laws.{but_places}
use Rattle.answers.specs.Answers.{is_taken}
use Rattle.checks.specs.Faults.{misspelled}
use Rattle.rules.specs.Rules.{IsA, mark_at}
use Rattle.rules.specs.Files.{rows_of, spelled_by, spelled}
use Rattle.collector.specs.declared.Case.{Case}
use Rattle.collector.specs.Cases.{empty_case}
use Rattle.collector.specs.Taking.{taken_of, collected_from, collected_of}
use Rattle.collector.specs.Sound.{Fit}
use Rattle.rules_laws.specs.Fields.{met}
use Rattle.rules_laws.specs.Held.{taken_with}
use Rattle.rules_laws.specs.Spelled.{rows_same, rows_other, goes_on}
use Rattle.rules_laws.specs.Theorems.{sound, spelled_case}
use Rattle.meaning.specs.Judged.{start_of, IsAccepted}
use Rattle.meaning.specs.Files.{FileAccepted, rounds_at}
use Rattle.meaning.specs.Rounds.{mark_with, place_with, places_with, with_rounds}
use Rattle.meaning_laws.specs.Facts.{Facts, start_with}
use Rattle.meaning_laws.specs.Given.{facts}
use Rattle.meaning_laws.specs.Third.{between}
use Rattle.rules_laws.specs.AllTaken.{spelled_append, all_taken}
use Rattle.meaning_laws.specs.Around.{row_with, Around, around}
use Rattle.meaning_laws.specs.Alike.{RoundsInRange, alike_places, same_collected}

-- the bytes of a field say the number z
abbrev SaysNumber : List ℕ → ℤ → Type 0
SaysNumber f z = (length f ≡ width) × (content_of f ≡ Number z)

-- ---- numbers of rounds

-- z is a natural number, 1 or more
abbrev AtLeastOne : ℤ → Type 0
AtLeastOne z = (n : ℕ) × (z ≡ pos n) × (1 ≤ n)

at_least_one : (z : ℤ) → RoundsInRange z → AtLeastOne z
at_least_one (pos n) p = (n, refl, ltb-false n 1 (neither (lt_z (pos n) (pos 1)) (lt_z (pos 1000000) (pos n)) p).0)
at_least_one (negsuc n) p = absurd (true≢false p)

-- what is between two numbers in range is in range
between_range : (a b c : ℤ) → RoundsInRange a → RoundsInRange c → a ≤ℤ b → b ≤ℤ c → RoundsInRange b
between_range a b c p r ab bc =
    let u = neither (lt_z a (pos 1)) (lt_z (pos 1000000) a) p in
    let v = neither (lt_z c (pos 1)) (lt_z (pos 1000000) c) r in
    let x : lt_z b (pos 1) ≡ false = omega (zarith, le_out ab) in
    let y : lt_z (pos 1000000) b ≡ false = omega (zarith, le_out bc) in
    ap₂ ◌||◌ x y

less : (a b : ℤ) (m n : ℕ) → a ≤ℤ b → a ≡ pos m → b ≡ pos n → m ≤ n
less a b m n h p q = omega (arith, le_out h, ap up p, ap down p, ap up q, ap down q)

-- ---- a place, by its rounds

counted : (c b : Content) (z : ℤ) → is_blank c ≡ false → misspelled c ≡ false → (l : ℕ) × (k : ℕ) × (mark_of c (Number z) b ≡ mark.Counted l (natural (Number z)) k)
unfolding mark_of
counted Blank b z p q = absurd (true≢false p)
counted (Number x) b z p q = (byte_of (Number x), byte_of b, refl)
counted (Bad i) b z p q = absurd (true≢false q)

mark_with_lem : (c b : Content) (y : ℤ) (n : ℕ) → mark_with n (mark_of c (Number y) b) ≡ mark_of c (Number (pos n)) b
unfolding mark_of
mark_with_lem Blank b y n = refl
mark_with_lem (Number x) b y n = refl
mark_with_lem (Bad i) b y n = refl

module _ (g : ℕ → Field) where
  place_with_lem : (y : ℤ) (n : ℕ) → place_with n (place_of (row_with g (Number y))) ≡ place_of (row_with g (Number (pos n)))
  unfolding place_of
  place_with_lem y n =
      let p : Place = place_of (row_with g (Number y)) in
      ap (λ m. record { state = p.state; way = p.way; marks = p.marks; mark = m }) (mark_with_lem (g 4).content (g 6).content y n)

  module _ (z : ℤ) (f : Fit kind.Place (row_with g (Number z))) where
    fit_range : RoundsInRange z
    unfolding rule_at shape_of
    fit_range = (met f 5).ranged

    fit_counted : (l : ℕ) × (k : ℕ) × ((place_of (row_with g (Number z))).mark ≡ mark.Counted l (natural (Number z)) k)
    unfolding rule_at shape_of place_of
    fit_counted = counted (g 4).content (g 6).content z (met f 4).full (met f 4).spelled

-- ---- the files, by what is in the rounds field

-- where all records are taken, each was taken where some case was held
reached : (ps qs : List (List ℕ)) (b : List ℕ) (c : Case) (m : ℕ) → is_taken (collected_from c m (ps ++ (b ∷ qs))).answer ≡ true →
    (d : Case) × (is_taken (taken_of d b).answer ≡ true)
unfolding collected_from
reached [] qs b c m h = (c, (goes_on (is_taken (taken_of c b).answer) _ _ refl h).0)
reached (q ∷ ps) qs b c m h =
    reached ps qs b (taken_of c q).case (m + 1)
    (subst (λ r. is_taken r.answer ≡ true) (goes_on (is_taken (taken_of c q).answer) _ _ refl h).1 h)

module _ (pre post : List ℕ) (i : ℕ) (w : Around pre post i) (is : (f : List ℕ) → IsA kind.Place (w.own f)) where
  -- the file with f in the field
  abbrev file : List ℕ → List ℕ
  file f = pre ++ (f ++ post)

  -- the collector takes it to its end
  abbrev Taken : List ℕ → Type 0
  Taken f = is_taken (collected_of empty_case (file f)).answer ≡ true

  -- the places before the record's own, those after it, and its own with z rounds
  abbrev ps : List Place
  ps = (spelled_by w.before).places

  abbrev qs : List Place
  qs = map place_of (rows_of kind.Place w.after)

  abbrev place : ℤ → Place
  place z = place_of (row_with w.others (Number z))

  module _ (f : List ℕ) (z : ℤ) (s : SaysNumber f z) where
    collected_is : collected_of empty_case (file f) ≡ collected_from empty_case 0 (w.before ++ (w.own f ∷ w.after))
    unfolding collected_of
    collected_is = ap (collected_from empty_case 0) (w.parts f s.0)

    row_is : record_of (w.own f) ≡ record { fields = row_with w.others (Number z) }
    row_is = w.row f s.0 ∙ ap (λ c. record { fields = row_with w.others c }) s.1

    own_fits : Taken f → Fit kind.Place (row_with w.others (Number z))
    own_fits h =
        let d = reached w.before w.after (w.own f) empty_case 0 (subst (λ r. is_taken r.answer ≡ true) collected_is h) in
        let t = taken_with d.0 (w.own f) d.1 in
        subst (λ (r : Record). Fit kind.Place r.fields) row_is
        (subst (λ k. Fit k (record_of (w.own f)).fields) (one_kind (get_or (w.own f) 0 0) t.kind kind.Place t.letter (is f)) t.fit)

    lists_are : (k : Kind) → list_of k (spelled (file f)) ≡ list_of k (spelled_by w.before) ++ map (item_of k) (rows_of k (w.own f ∷ w.after))
    lists_are k = ap (λ rs. list_of k (spelled_by rs)) (w.parts f s.0) ∙ spelled_append k w.before (w.own f ∷ w.after)

    places_are : (spelled (file f)).places ≡ ps ++ (place z ∷ qs)
    places_are =
        lists_are kind.Place
        ∙ ap (λ l. ps ++ map place_of l) (rows_same (w.own f) w.after kind.Place (is f))
        ∙ ap (λ (r : Record). ps ++ (place_of r.fields ∷ qs)) row_is

    others_are : (k : Kind) → eqb (letter_of kind.Place) (letter_of k) ≡ false → list_of k (spelled (file f)) ≡ list_of k (spelled_by w.before) ++ map (item_of k) (rows_of k w.after)
    others_are k o = lists_are k ∙ ap (λ l. list_of k (spelled_by w.before) ++ map (item_of k) l) (rows_other (w.own f) w.after kind.Place (is f) k o)

  -- where both numbers are in range, the files are taken alike
  taken_too : (e f : List ℕ) (y z : ℤ) → SaysNumber e y → SaysNumber f z → RoundsInRange y → RoundsInRange z → Taken e → Taken f
  taken_too e f y z u v p q =
      let a = alike_places (w.own e) (w.own f) w.others y z (is e) (w.headed f e v.0 u.0) p q (row_is e y u) (row_is f z v) in
      let r = ap (λ t. t.answer) (collected_is e y u) ∙ same_collected w.before w.after (w.own e) (w.own f) a empty_case 0 ∙ ap (λ t. t.answer) (sym (collected_is f z v)) in
      subst (λ t. is_taken t ≡ true) r

  -- the case of one file is that of another with its number of rounds
  with_rounds_lem : (e f : List ℕ) (y : ℤ) (n : ℕ) → SaysNumber e y → SaysNumber f (pos n) → spelled (file f) ≡ with_rounds (spelled (file e)) (length ps) n
  unfolding places_with
  with_rounds_lem e f y n u v =
      but_places (λ k o. others_are f (pos n) v k o ∙ sym (others_are e y u k o))
      ∙ ap (with_places (spelled (file e))) (places_are f (pos n) v ∙ sym set_place)
    where
      set_place : places_with (spelled (file e)).places (length ps) n ≡ ps ++ (place (pos n) ∷ qs)
      set_place =
          ap (λ l. places_with l (length ps) n) (places_are e y u)
          ∙ set-append_seam ps (place y) qs (place_with n (get_or (ps ++ (place y ∷ qs)) (length ps) (no_item kind.Place)))
          ∙ ap (λ q. ps ++ (place_with n q ∷ qs)) (get_or-append_seam ps (place y) qs (no_item kind.Place))
          ∙ ap (λ q. ps ++ (q ∷ qs)) (place_with_lem w.others y n)

  accepted_between : (fa fb fc : List ℕ) (a b c : ℤ) → SaysNumber fa a → SaysNumber fb b → SaysNumber fc c → a ≤ℤ b → b ≤ℤ c →
      FileAccepted (file fa) → FileAccepted (file fc) → FileAccepted (file fb)
  accepted_between fa fb fc a b c sa sb sc ab bc va vc =
      record {
        taken = (all_taken (file fb)).1 (taken_too fa fb a b sa sb ra rb ta);
        case =
            subst₂ IsAccepted (sym (with_n fb b sb nb)) (sym (start_n fb b sb nb))
            (between x known (length ps) k.0 (natural (Number a)) k.1 (omega (arith, ap length are, length-append ps (place a ∷ qs)))
            (ap (λ l. mark_at l (length ps)) are ∙ ap (λ (q : Place). q.mark) (get_or-append_seam ps (place a) qs (no_item kind.Place)) ∙ k.2)
            na.0 nb.0 nc.0 na.2 (less a b na.0 nb.0 ab na.1 nb.1) (less b c nb.0 nc.0 bc nb.1 nc.1) (start_of x)
            (subst₂ IsAccepted (with_n fa a sa na) (start_n fa a sa na) va.case) (subst₂ IsAccepted (with_n fc c sc nc) (start_n fc c sc nc) vc.case));
      }
    where
      x : Items
      x = spelled (file fa)

      ta : Taken fa
      ta = (all_taken (file fa)).0 va.taken

      known : Facts x
      known = subst Facts (spelled_case (file fa) ta).items (facts _ (sound (file fa)))

      are : x.places ≡ ps ++ (place a ∷ qs)
      are = places_are fa a sa

      fit : Fit kind.Place (row_with w.others (Number a))
      fit = own_fits fa a sa ta

      k : (l : ℕ) × (k : ℕ) × ((place a).mark ≡ mark.Counted l (natural (Number a)) k)
      k = fit_counted w.others a fit

      ra : RoundsInRange a
      ra = fit_range w.others a fit

      rc : RoundsInRange c
      rc = fit_range w.others c (own_fits fc c sc ((all_taken (file fc)).0 vc.taken))

      rb : RoundsInRange b
      rb = between_range a b c ra rc ab bc

      na : AtLeastOne a
      na = at_least_one a ra

      nb : AtLeastOne b
      nb = at_least_one b rb

      nc : AtLeastOne c
      nc = at_least_one c rc

      with_n : (f : List ℕ) (z : ℤ) → SaysNumber f z → (n : AtLeastOne z) → spelled (file f) ≡ with_rounds x (length ps) n.0
      with_n f z s n = with_rounds_lem fa f a n.0 sa (subst (SaysNumber f) n.1 s)

      start_n : (f : List ℕ) (z : ℤ) → SaysNumber f z → (n : AtLeastOne z) → start_of (spelled (file f)) ≡ start_of x
      start_n f z s n = ap start_of (with_n f z s n) ∙ start_with x (length ps) n.0

-- a spelling says its number
says : (f : List ℕ) (z : ℤ) → IsSpelling f z → SaysNumber f z
says f z s = (ap length s.0 ∙ spell_length z s.1, ap content_of s.0 ∙ spell_reads z)

-- three files alike in every byte but the seven of the rounds field of one counted loop, which spell a ≤ b ≤ c: if those with a and c are
-- accepted, so is the one with b
pub file_between : (pre post fa fb fc : List ℕ) (i : ℕ) (a b c : ℤ)
    → length pre ≡ record_length * i + rounds_at → get_or pre (record_length * i) 0 ≡ letter_of kind.Place
    → IsSpelling fa a → IsSpelling fb b → IsSpelling fc c → a ≤ℤ b → b ≤ℤ c
    → FileAccepted (pre ++ (fa ++ post)) → FileAccepted (pre ++ (fc ++ post)) → FileAccepted (pre ++ (fb ++ post))
file_between pre post fa fb fc i a b c l p sa sb sc =
    let w = around pre post i l in
    accepted_between pre post i w (λ f. w.letter f ∙ p) fa fb fc a b c (says fa a sa) (says fb b sb) (says fc c sc)
