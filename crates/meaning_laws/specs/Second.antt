-- Demand 2 in its own words, both ways: a finished case is accepted exactly where its moves make a run of the counter system that bears out
-- every mark, and the last sentence is true at its start. Assumes nothing.
use Rattle.std.specs.Prelude.{◌≡◌, ◌↔◌, List, [], ◌∷◌, ℕ, zero, suc, ◌<◌, get_or}
use Rattle.std.proofs.Math.Path.{refl, ap}
use Rattle.std.proofs.Common.{sym, ◌∙◌, subst, arith}
use Rattle.std.proofs.Math.ListN.{length}
use Rattle.laws.specs.All.{All}
use Rattle.laws.specs.Members.{Has, all_has, has_all, all_pairs}
use Rattle.kinds.specs.declared.Kind.TheVariants as kind
use Rattle.counters.specs.Sum.{Valuation}
use Rattle.items.specs.Lists.{Items, no_item}
use Rattle.meaning.specs.Run.{Moment, Way, Meets, here, spot, way_taken, move_at, move_by, counters_at, guard_at, guards_of}
use Rattle.meaning.specs.Judged.{state_at, ways_of, tests_of, Passes, root, Finished, Connected, IsAccepted}
use Rattle.meaning.specs.Paper.{IsItem, top, below, Fires, Means}
use Rattle.meaning_laws.specs.Facts.{Resolved}
use Rattle.meaning_laws.specs.Lists.{all_grid}
use Rattle.meaning_laws.specs.Stays.{in_plan, from_there, way_there}

-- ---- items

module _ {A : Type 0} where
  item_at_lem : (l : List A) (n : ℕ) (d : A) → n < length l → IsItem l n (get_or l n d)
  item_at_lem [] n d h = absurd (omega arith)
  item_at_lem (a ∷ l) zero d h = top
  item_at_lem (a ∷ l) (suc n) d h = below (item_at_lem l n d (omega arith))

  item_is : {l : List A} {n : ℕ} {a : A} (d : A) → IsItem l n a → get_or l n d ≡ a
  item_is d top = refl
  item_is d (below i) = item_is d i

module _ (x : Items) (f : Resolved x) (o : Finished x) (θ : Valuation) where
  -- every guard of every way
  tests :
      All (Passes x θ) (tests_of x) ↔
      ((w : Way) (g : ℕ) → Has (ways_of x) w → Has (guards_of (move_by x w)) g → Passes x θ (record { way = w; guard = g }))
  tests = all_pairs (λ w g. record { way = w; guard = g }) (λ w. guards_of (move_by x w)) (ways_of x)

  -- each move fires
  fires : Connected x → All (Passes x θ) (tests_of x) → (m : Moment)
      → Fires x (move_by x (way_taken x.places m)) (state_at x (here (spot x.places m))) (counters_at x θ m) (state_at x (here (spot x.places (suc m)))) (counters_at x θ (suc m))
  unfolding counters_at move_at
  fires c t m =
      let w = way_taken x.places m in
      let i = way_there x f o.1 m in
      let k = all_has c.1 i.listed in
      let l : All (λ g. g < length x.guards) (guards_of (move_by x w)) = rw i.named (f.guards i.number i.there) in
      record {
        number = i.number;
        there = rw i.named (item_at_lem x.moves i.number (no_item kind.Move) i.there);
        leaves = k.leaves ∙ ap (state_at x) (from_there x f.laid m);
        comes = k.comes;
        updated = λ j. refl;
        guarded =
            has_all (guards_of (move_by x w)) (λ g h.
            record { guard = guard_at x.guards g; there = item_at_lem x.guards g (no_item kind.Guard) (all_has l h); met = (tests.0 t w g i.listed h).met m refl });
      }

  -- each guard is met where the moves fire
  passes : Means x θ → (w : Way) (g : ℕ) → Has (guards_of (move_by x w)) g → Passes x θ (record { way = w; guard = g })
  passes h w g j =
      record {
        met = λ m e.
            let k = all_has (h.run.fires m).guarded (subst (λ v. Has (guards_of (move_by x v)) g) (sym e) j) in
            subst (λ u. Meets u (counters_at x θ (suc m))) (sym (item_is (no_item kind.Guard) k.there)) k.met;
      }

  pub means : IsAccepted x θ ↔ Means x θ
  unfolding spot counters_at
  means = (there, back)
    where
      there : IsAccepted x θ → Means x θ
      there h =
          let t = h.0.0.0 in
          let r = (all_grid (length x.sentences) (length x.places)).0 h.0.1 in
          let z = in_plan x f.laid o.1 in
          record {
            connected = t.1;
            run =
                record {
                  begins = t.0.1;
                  initial = λ j. refl;
                  states = λ m. f.states (here (spot x.places m)) (z m);
                  fires = fires t h.0.0.1;
                };
            labelled = λ i p a b. (r i p a b).same;
            holds = ((r (root x) 0 (omega (arith, o.0)) (omega (arith, z 0))).same 0 refl).0 h.1;
          }

      back : Means x θ → IsAccepted x θ
      back h =
          let n : 0 < length x.places = omega (arith, in_plan x f.laid o.1 0) in (
            ((((o, h.run.begins), h.connected), tests.1 (λ w g i j. passes h w g j)), (all_grid (length x.sentences) (length x.places)).1 (λ i p a b. record { same = h.labelled i p a b })),
            (h.labelled (root x) 0 (omega (arith, o.0)) n 0 refl).1 h.holds,
          )
