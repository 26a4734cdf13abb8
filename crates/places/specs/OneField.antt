-- A place that meets the rules, with another number in one field that meets that field's rule, meets them too: with other marks, with other rounds, or with its back
-- move as its way in. Assumes nothing.
use Rattle.std.specs.Prelude.{◌≡◌, List, Bool, true, ◌||◌, ℕ, zero, suc, ◌^◌, ◌≤◌, ◌<◌, pos, length, set}
use Rattle.std.proofs.Math.Path.{refl, ap}
use Rattle.std.proofs.Common.{sym, ◌∙◌, subst, arith, lit<, length-set, get_or-set_same, get_or-set_other}
use Rattle.std.proofs.Math.Bool.{false}
use Rattle.std.proofs.Math.Decide.{ℕ_discrete}
use borrow.Author.Tests.{le-ltb, lt-leb}
use Rattle.laws.specs.Lists.{nth}
use Rattle.laws.specs.Tests.{tells_not, tells_false}
use Rattle.record.specs.declared.Content.{Content}
use Rattle.record.specs.declared.Content.TheVariants as content
use Rattle.record.specs.declared.Field.{Field}
use Rattle.record.specs.Spell.{HasSpelling}
use Rattle.record.specs.Layout.{fields, at}
use Rattle.kinds.specs.declared.Kind.TheVariants as kind
use Rattle.kinds.specs.declared.Counts.{Counts}
use Rattle.table.specs.declared.Rule.{Rule}
use Rattle.table.specs.declared.Rule.TheVariants as rule
use Rattle.table.specs.declared.Sort.{Sort}
use Rattle.table.specs.declared.Sort.TheVariants.{Reference}
use Rattle.table.specs.Sorts.{LoopLength}
use Rattle.table.specs.Table.{needed_if, place_row, shape_of, in_filled, rule_at}
use Rattle.items.specs.declared.LoopMark.{LoopMark}
use Rattle.items.specs.declared.LoopMark.TheVariants as mark
use Rattle.items.specs.declared.Place.{Place}
use Rattle.items.specs.Items.{item_of, row_of, number, place_of, mark_of}
use Rattle.checks.specs.Faults.{outside, dangling, not_there}
use Rattle.rules.specs.Rules.{rule_for}
use Rattle.meaning.specs.Run.{back_of}
use Rattle.meaning.specs.Marking.{place_marked}
use Rattle.meaning.specs.Rounds.{mark_with, place_with}
use Rattle.meaning.specs.Spans.{MayHave}
use Rattle.meaning.specs.Cut.{place_by}
use Rattle.collector.specs.Sound.{shape, reach}
use Rattle.rules_laws.specs.Fields.{MeetsRule, met}
use Rattle.rules_laws.specs.Tells.{tells_missing, tells_extra, tells_outside, tells_there}
use Rattle.places.specs.Replaced.{Meets}

-- ---- one field

-- what is so of every field of a row, and of another one after the first j, is so of every field of the row with that one
each_field : (r : List Field) (j : ℕ) (v : Field) → j < length r → (P : ℕ → Content → Type 0) → P (suc j) v.content → ((f : ℕ) → P f (at r f)) → (f : ℕ) → P f (at (set r j v) f)
each_field r j v l P this others zero = others 0
each_field r j v l P this others (suc f) =
    let d : Field = record { content = content.Blank } in
    elim (ℕ_discrete f j) [
      | yes e ↦ subst (λ g. P (suc g) (at (set r j v) (suc g))) (sym e) (subst (λ (u : Field). P (suc j) u.content) (sym (get_or-set_same r j v d l)) this)
      | no e ↦ subst (λ (u : Field). P (suc f) u.content) (sym (get_or-set_other r j f v d e)) (others (suc f))
    ]

module _ {n : Counts} {i : ℕ} {q : Place} (h : Meets n kind.Place i q) (z : Place) (j m : ℕ) where
  -- the row of the place, that of the other, and the number and the rule of the field after the first j
  abbrev row : List Field
  row = row_of kind.Place q

  abbrev other : List Field
  other = row_of kind.Place z

  abbrev said : Content
  said = content.Number (pos m)

  abbrev its : Rule
  its = rule_for kind.Place row (suc j)

  -- a place with that field alone changed
  meets_field : other ≡ set row j (number m) → ((f : ℕ) → rule_for kind.Place other f ≡ rule_for kind.Place row f) → j < fields → HasSpelling said →
      MeetsRule its said → not_there (reach n kind.Place i) its said ≡ false → item_of kind.Place other ≡ z → Meets n kind.Place i z
  meets_field e rules l small meets there read =
      record {
        fit =
            record {
              long = ap length e ∙ length-set row j (number m) ∙ h.fit.long;
              spelled = each (λ f. HasSpelling) small h.fit.spelled;
              full = λ f. tells_not _ (tells_missing kind.Place other f) (field f).full;
              bare = λ f. tells_not _ (tells_extra kind.Place other f) (field f).bare;
              ranged = λ f. tells_not _ (tells_outside kind.Place other f) (field f).ranged;
            };
        there = λ f. tells_not _ (tells_there kind.Place other f to)
            (subst (λ u. not_there to u (at other f) ≡ false) (sym (rules f))
            (each (λ f c. not_there to (rule_for kind.Place row f) c ≡ false) there (λ f. tells_false _ (tells_there kind.Place row f to) (h.there f)) f));
        read = read;
      }
    where
      -- what it may refer to
      to : Counts
      to = reach n kind.Place i

      each : (P : ℕ → Content → Type 0) → P (suc j) said → ((f : ℕ) → P f (at row f)) → (f : ℕ) → P f (at other f)
      each P this others f = subst (λ r. P f (at r f)) (sym e) (each_field row j (number m) (omega (arith, h.fit.long)) P this others f)

      field : (f : ℕ) → MeetsRule (rule_for kind.Place other f) (at other f)
      field f = subst (λ u. MeetsRule u (at other f)) (sym (rules f)) (each (λ f. MeetsRule (rule_for kind.Place row f)) meets (met h.fit) f)

-- ---- its marks

pub meets_marked : {n : Counts} {i : ℕ} (q : Place) → Meets n kind.Place i q → (k : ℕ) → k < 2 ^ n.sentences → k ≤ 1048575 → Meets n kind.Place i (place_marked k q)
unfolding row_of rule_at shape_of place_of
meets_marked {n} q h k low most =
    let w : outside (rule_for kind.Place (row_of kind.Place q) 3) (content.Number (pos k)) ≡ false = rw (le-ltb 1048575 k most, le-ltb k 0 (omega arith)) in
    meets_field h (place_marked k q) 2 k refl (λ f. refl) (lit< tt) (omega arith)
    (record { spelled = refl; full = refl; bare = refl; ranged = w }) (lt-leb (2 ^ n.sentences) k low) (ap (place_marked k) h.read)

-- ---- its rounds, and its way in

-- a place with another loop mark
abbrev pub with_mark : Place → LoopMark → Place
with_mark q m = record { state = q.state; way = q.way; marks = q.marks; mark = m }

module _ (n : Counts) (i : ℕ) (q : Place) where
  -- the place with this loop mark meets the rules
  abbrev With : LoopMark → Type 0
  With m = Meets n kind.Place i (with_mark q m)

  with_rounds_lem : (l m b : ℕ) → With (mark.Counted l m b) → (k : ℕ) → MayHave k → With (mark.Counted l k b)
  unfolding row_of rule_at shape_of place_of mark_of
  with_rounds_lem l m b h k may =
      let row = row_of kind.Place (with_mark q (mark.Counted l m b)) in
      let w : outside (rule_for kind.Place row 5) (content.Number (pos k)) ≡ false = rw (le-ltb 1000000 k may.most, le-ltb k 1 may.least) in
      meets_field h (with_mark q (mark.Counted l k b)) 4 k refl (λ f. refl) (lit< tt) (omega (arith, may.most))
      (record { spelled = refl; full = refl; bare = refl; ranged = w }) refl (ap (place_with k) h.read)

  pub meets_rounds : (k : ℕ) → MayHave k → Meets n kind.Place i q → Meets n kind.Place i (place_with k q)
  meets_rounds k may = by q.mark
    where
      by : (m : LoopMark) → With m → With (mark_with k m)
      by mark.None g = g
      by (mark.Counted l m b) g = with_rounds_lem l m b g k may
      by (mark.Endless l b) g = g

  -- a place that begins a loop may be entered by its back move
  pub meets_by : (l m b : ℕ) → Meets n kind.Place i (with_mark q (mark.Counted l m b)) → Meets n kind.Place i (place_by b (with_mark q (mark.Counted l m b)))
  unfolding row_of rule_at shape_of place_of mark_of
  meets_by l m b h =
      let z = with_mark q (mark.Counted l m b) in
      meets_field h (place_by b z) 1 b refl (λ f. refl) (lit< tt) (h.fit.spelled 6)
      (record { spelled = refl; full = refl; bare = refl; ranged = (met h.fit 6).ranged })
      (tells_false _ (tells_there kind.Place (row_of kind.Place z) 6 (reach n kind.Place i)) (h.there 6))
      (λ i. record { state = (h.read i).state; way = ap (λ (q : Place). back_of q.mark) h.read i; marks = (h.read i).marks; mark = (h.read i).mark })

-- ---- its number

-- no field of a place refers to a place
same_there : (n : Counts) (i j : ℕ) (r : List Field) (f : ℕ) →
    not_there (reach n kind.Place i) (rule_for kind.Place r f) (at r f) ≡ not_there (reach n kind.Place j) (rule_for kind.Place r f) (at r f)
unfolding rule_at shape_of
same_there n i j r = each
  where
    x : ℕ → Bool
    x = in_filled (shape kind.Place r).filled

    if : (b : Bool) (s : Sort) (c : Content) → dangling (reach n kind.Place i) s c ≡ dangling (reach n kind.Place j) s c →
        not_there (reach n kind.Place i) (needed_if b s) c ≡ not_there (reach n kind.Place j) (needed_if b s) c
    if true s c e = e
    if false s c e = e

    each : (f : ℕ) → not_there (reach n kind.Place i) (nth (place_row x) f rule.Blank) (at r f) ≡ not_there (reach n kind.Place j) (nth (place_row x) f rule.Blank) (at r f)
    each zero = refl
    each (suc zero) = refl
    each (suc (suc zero)) = refl
    each (suc (suc (suc zero))) = refl
    each (suc (suc (suc (suc zero)))) = if (x 5 || x 6) LoopLength (at r 4) refl
    each (suc (suc (suc (suc (suc zero))))) = refl
    each (suc (suc (suc (suc (suc (suc zero)))))) = if (x 4) (Reference kind.Move) (at r 6) refl
    each (suc (suc (suc (suc (suc (suc (suc f))))))) = refl

-- so it may be any place
pub meets_at : {n : Counts} {i : ℕ} {q : Place} → Meets n kind.Place i q → (j : ℕ) → Meets n kind.Place j q
meets_at {n} {i} {q} h j =
    let r = row_of kind.Place q in
    record {
      fit = h.fit;
      there = λ f. tells_not _ (tells_there kind.Place r f (reach n kind.Place j))
          (same_there n j i r f ∙ tells_false _ (tells_there kind.Place r f (reach n kind.Place i)) (h.there f));
      read = h.read;
    }
