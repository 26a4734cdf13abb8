-- The places of a case as they get other marks, one by one. Assumes nothing.
use Rattle.std.specs.Prelude.{◌≡◌, List, ◌++◌, cond, ℕ, ◌+◌, ◌-◌, ◌≤◌, ◌<◌, ltb, length, get_or, set, replicate}
use Rattle.std.proofs.Common.{sym, ◌∙◌, ap, arith, length-append, ext_get_or, lt-ltb, le-ltb}
use Rattle.std.proofs.Math.Decide.{dec_lt}
use Rattle.std.proofs.lemmas.List.{length-replicate}
use Rattle.std.proofs.Math.ListN.{get_or-eq_default}
use Rattle.laws.specs.Lists.{at_front}
use Rattle.laws.specs.Tab.{tab, length_tab, entry, tab_same, tab_set, tab_again}
use Rattle.kinds.specs.declared.Kind.TheVariants as kind
use Rattle.items.specs.declared.Place.{Place}
use Rattle.items.specs.Lists.{room_of, no_item, with_places}
use Rattle.meaning.specs.Run.{place_at}
use Rattle.meaning.specs.Marking.{place_marked, marked_from, with_marks}
use Rattle.collector.specs.declared.Case.{Case}
use Rattle.collector.specs.Cases.{case_by, arrays_of, filled, case_of, items_of}
use Rattle.collector.specs.Sound.{Sound}
use Rattle.rules_laws.specs.Held.{counted, long}
use Rattle.places.specs.Replaced.{case_with}
use Rattle.fill_laws.specs.Marks.{marked_plan, place_at_lem}
use Rattle.tables.specs.Reads.{at_places}

module _ (c : Case) (μ : ℕ → ℕ) where
  -- place q of the array, and the places that are held
  abbrev old : ℕ → Place
  old q = get_or c.places q (no_item kind.Place)

  abbrev ps : List Place
  ps = (items_of c).places

  -- place q, where those below place p have their new marks
  abbrev partly_at : ℕ → ℕ → Place
  partly_at p q = cond (ltb q p) (place_marked (μ q) (old q)) (old q)

  abbrev pub partly : ℕ → List Place
  partly p = tab (room_of kind.Place) 0 (partly_at p)

  pub partly_start : Sound c → c.places ≡ partly 0
  partly_start s =
      sym (tab_again (no_item kind.Place) c.places (room_of kind.Place) (long s kind.Place))
      ∙ tab_same old (partly_at 0) (room_of kind.Place) 0 (λ q a b. sym (ap (λ t. cond t (place_marked (μ q) (old q)) (old q)) (le-ltb q 0 (omega arith))))

  module _ (p : ℕ) (h : p < room_of kind.Place) {l : List Place} (e : l ≡ partly p) where
    -- the place that is to be marked next is as it was
    pub partly_here : get_or l p (no_item kind.Place) ≡ get_or c.places p (no_item kind.Place)
    partly_here =
        ap (λ l. get_or l p (no_item kind.Place)) e ∙ entry (partly_at p) (room_of kind.Place) p (no_item kind.Place) h
        ∙ ap (λ t. cond t (place_marked (μ p) (old p)) (old p)) (le-ltb p p (omega arith))

    pub partly_turn : {q : Place} → q ≡ place_marked (μ p) (get_or l p (no_item kind.Place)) → set l p q ≡ partly (p + 1)
    partly_turn {q} w =
        let k : q ≡ partly_at (p + 1) p = w ∙ ap (place_marked (μ p)) partly_here ∙ sym (ap (λ t. cond t (place_marked (μ p) (old p)) (old p)) (lt-ltb p (p + 1) (omega arith))) in
        rw (e, k)
        (tab_set (partly_at p) (partly_at (p + 1)) (room_of kind.Place) p h
        (λ j a d. ap (λ t. cond t (place_marked (μ j) (old j)) (old j)) (same_side j d)))
      where
        same_side : (j : ℕ) → (j ≡ p → ⊥) → ltb j p ≡ ltb j (p + 1)
        same_side j d =
            elim (dec_lt j p) [
              | yes w ↦ lt-ltb j p w ∙ sym (lt-ltb j (p + 1) (omega arith))
              | no w ↦ le-ltb j p (omega arith) ∙ sym (le-ltb j (p + 1) (elim (dec_lt p j) [ yes v ↦ omega arith | no v ↦ absurd (d (omega arith)) ]))
            ]

  -- all that are held have theirs
  module _ (s : Sound c) (p : ℕ) (h : p ≡ length (items_of c).places) where
    abbrev qs : List Place
    qs = marked_from μ 0 ps

    all_marked : partly p ≡ filled (with_marks (items_of c) μ) kind.Place
    all_marked =
        ext_get_or (no_item kind.Place) (partly p) (qs ++ replicate (room_of kind.Place - length qs) (no_item kind.Place))
        (length_tab (partly_at p) (room_of kind.Place) 0
        ∙ omega (arith, length-append qs (replicate (room_of kind.Place - length qs) (no_item kind.Place)), length-replicate (room_of kind.Place - length qs) (no_item kind.Place), same_long, within))
        (λ q l. entry (partly_at p) (room_of kind.Place) q (no_item kind.Place) (rw (length_tab (partly_at p) (room_of kind.Place) 0) at l) ∙ here q ∙ sym (at_front (no_item kind.Place) qs (room_of kind.Place - length qs) q))
      where
        same_long : length qs ≡ length ps
        same_long = (marked_plan μ ps).long

        within : length ps ≤ room_of kind.Place
        within = omega (arith, counted c s kind.Place, s.room kind.Place)

        here : (q : ℕ) → partly_at p q ≡ place_at qs q
        here q =
            elim (dec_lt q p) [
              | yes w ↦
                  ap (λ t. cond t (place_marked (μ q) (old q)) (old q)) (lt-ltb q p w)
                  ∙ ap (place_marked (μ q)) (at_places s q)
                  ∙ sym (place_at_lem μ ps q (omega arith))
              | no w ↦
                  ap (λ t. cond t (place_marked (μ q) (old q)) (old q)) (le-ltb q p (omega arith))
                  ∙ at_places s q
                  ∙ get_or-eq_default ps (no_item kind.Place) (omega arith)
                  ∙ sym (get_or-eq_default qs (no_item kind.Place) (omega (arith, same_long)))
            ]

    pub partly_end : {l : List Place} → l ≡ partly p →
        case_by c.count c.loops c.drifts (with_places (arrays_of c) l) ≡ case_of (with_marks (items_of c) μ)
    partly_end e =
        ap (λ l. case_by c.count c.loops c.drifts (with_places (arrays_of c) l)) (e ∙ all_marked) ∙ sym (case_with s (marked_plan μ ps))
