-- Two plans of one system whose runs go, moment by moment, by the same moves through the same states: they have the same counters and the same truth. Where they
-- show the same marks too, and their moves connect in the one where they do in the other, the one is accepted where the other is. Assumes nothing.
use Rattle.std.specs.Prelude.{◌≡◌, ◌↔◌, List, Bool, true, false, ◌+ℤ◌, length, get_or, None, Some}
use Rattle.std.proofs.Math.Path.{refl, sym, ap, ap₂, subst, fun_ext}
use Rattle.std.proofs.Common.{◌∙◌, ⊎_elim, arith}
use mathlib.Core.List.Memᴰ
use Prim.Native.Nat.{ℕ, zero, suc, ◌<◌}
use Rattle.laws.specs.All.{All}
use Rattle.laws.specs.Members.{Has, all_has, has_all, all_map, has_below, gather_has}
use Rattle.kinds.specs.declared.Kind.TheVariants as kind
use Rattle.counters.specs.Sum.{Valuation}
use Rattle.items.specs.declared.LoopMark.{LoopMark}
use Rattle.items.specs.declared.LoopMark.TheVariants as mark
use Rattle.items.specs.declared.Move.{Move}
use Rattle.items.specs.declared.Place.{Place}
use Rattle.items.specs.Lists.{Items, no_item, with_places}
use Rattle.meaning.specs.Run.{Moment, Spot, Step, Way, here, next, spot, way_taken, place_at, back_of, move_no, move_at, move_by, update, counters_at, guards_of, Meets}
use Rattle.meaning.specs.Judged.{Finished, state_at, way_in, way_back, ways_into, ways_of, place_before, Connects, trace_of, marked, root, TrueAt, IsAccepted}
use Rattle.meaning.specs.Paper.{IsItem, IsMet, Fires, Means}
use Rattle.meaning_laws.specs.Facts.{Resolved}
use Rattle.meaning_laws.specs.Walk.{spot_at}
use Rattle.meaning_laws.specs.Stays.{in_plan, way_listed}
use Rattle.meaning_laws.specs.Answers.{same_truth}
use Rattle.meaning_laws.specs.Second.{means}
use Rattle.items.specs.Items.{Ref}

-- ---- runs

-- the runs of two plans take the same moves and are in the same states
pub record SameRun (ps qs : List Place) : Type 0 where
  pub moves : (m : Moment) → move_no qs (way_taken qs m) ≡ move_no ps (way_taken ps m)
  pub states : (m : Moment) → (place_at qs (here (spot qs m))).state ≡ (place_at ps (here (spot ps m))).state

module _ (x : Items) {qs : List Place} (e : SameRun x.places qs) (θ : Valuation) where
  -- the case with these places
  abbrev y : Items
  y = with_places x qs

  same_move : (m : Moment) → move_by y (way_taken qs m) ≡ move_by x (way_taken x.places m)
  same_move m = ap (move_at x.moves) (e.moves m)

  pub same_counters : (m : Moment) (j : ℕ) → counters_at (with_places x qs) θ m j ≡ counters_at x θ m j
  unfolding counters_at
  same_counters zero j = refl
  same_counters (suc m) j = ap₂ (λ z (t : Move). z +ℤ update t j) (same_counters m j) (same_move m)

  pub same_true : (i : ℕ) (m : Moment) → TrueAt (with_places x qs) θ i m ≡ TrueAt x θ i m
  same_true =
      same_truth x.guards x.sentences (trace_of y θ) (trace_of x θ)
      (λ m. ap (λ z. (get_or x.states z (no_item kind.State)).propositions) (e.states m)) same_counters

  -- a move that fires in the one run fires in the other
  fires : (m : Moment) →
      Fires x (move_by x (way_taken x.places m)) (state_at x (here (spot x.places m))) (counters_at x θ m) (state_at x (here (spot x.places (suc m)))) (counters_at x θ (suc m)) →
      Fires y (move_by y (way_taken qs m)) (state_at y (here (spot qs m))) (counters_at y θ m) (state_at y (here (spot qs (suc m)))) (counters_at y θ (suc m))
  unfolding counters_at
  fires m h =
      let t = same_move m in
      record {
        number = h.number;
        there = subst (IsItem x.moves h.number) (sym t) h.there;
        leaves = ap (λ (v : Move). v.from) t ∙ h.leaves ∙ sym (e.states m);
        comes = ap (λ (v : Move). v.to) t ∙ h.comes ∙ sym (e.states (suc m));
        updated = λ j. refl;
        guarded =
            subst (λ (v : Move). All (IsMet y (counters_at y θ (suc m))) (guards_of v)) (sym t)
            (all_map (λ g i. record { guard = i.guard; there = i.there; met = subst (Meets i.guard) (sym (fun_ext (same_counters (suc m)))) i.met }) h.guarded);
      }

-- ---- ways

-- w is a way into place q, and names a move
record IsInto (ps : List Place) (q : ℕ) (w : Way) : Type 0 where
  place : w.place ≡ q
  number : ℕ
  named : move_no ps w ≡ Some number

is_into : (ps : List Place) (q : ℕ) (w : Way) → Has (ways_into ps q) w → IsInto ps q w
is_into ps q w h =
    ⊎_elim (enters (place_at ps q).way refl) (returns (place_at ps q).mark refl) (Memᴰ.append_cases (way_in q (place_at ps q).way) h)
  where
    this : (b : Bool) (t : ℕ) → w ≡ record { place = q; back = b } → move_no ps (record { place = q; back = b }) ≡ Some t → IsInto ps q w
    this b t e d = record { place = ap (λ (v : Way). v.place) e; number = t; named = ap (move_no ps) e ∙ d }

    enters : (r : Ref) → (place_at ps q).way ≡ r → Has (way_in q r) w → IsInto ps q w
    enters None e m = absurd (Memᴰ.not-nil m)
    enters (Some t) e m = this false t (Memᴰ.eq_of_singleton m) e

    returns : (k : LoopMark) → (place_at ps q).mark ≡ k → Has (way_back q k) w → IsInto ps q w
    returns mark.None e m = absurd (Memᴰ.not-nil m)
    returns (mark.Counted l n b) e m = this true b (Memᴰ.eq_of_singleton m) (ap back_of e)
    returns (mark.Endless l b) e m = this true b (Memᴰ.eq_of_singleton m) (ap back_of e)

-- all ways of a plan: those that name a move
pub all_ways : {P : Way → Type 0} (x : Items) → All P (ways_of x) ↔ ((w : Way) (t : ℕ) → w.place < length x.places → move_no x.places w ≡ Some t → P w)
all_ways x =
    let ps = x.places in (
      λ a w t h e. all_has a (way_listed x w t h e),
      λ f. has_all (ways_of x) (λ w m.
          let (q, b, i) = gather_has (ways_into ps) _ m in
          let n = is_into ps q w i in
          let h : q < length ps = (has_below (length ps) q).0 b in
          f w n.number (omega (arith, n.place)) n.named),
    )

-- two ways, one of each of two plans: by the same move, from and to the same states
pub record SameWay (ps qs : List Place) (v w : Way) : Type 0 where
  pub number : move_no qs w ≡ move_no ps v
  pub from : (place_at qs (place_before qs w)).state ≡ (place_at ps (place_before ps v)).state
  pub to : (place_at qs w.place).state ≡ (place_at ps v.place).state

pub same_back : {ps qs : List Place} {v w : Way} → SameWay ps qs v w → SameWay qs ps w v
same_back e = record { number = sym e.number; from = sym e.from; to = sym e.to }

-- way w of the one plan has its like in the other
pub record HasLike (ps qs : List Place) (w : Way) : Type 0 where
  pub way : Way
  pub there : way.place < length ps
  pub like : SameWay ps qs way w

-- the moves of the one plan connect where those of the other do, and each way of the one has its like there
pub connected_by : (x : Items) {qs : List Place} → ((w : Way) → w.place < length qs → HasLike x.places qs w) →
    All (Connects x) (ways_of x) → All (Connects (with_places x qs)) (ways_of (with_places x qs))
connected_by x {qs} f a =
    (all_ways (with_places x qs)).1 (λ w t h e.
    let k = f w h in
    let s = k.like in
    let c = (all_ways x).0 a k.way t k.there (sym s.number ∙ e) in
    let d = ap (move_at x.moves) s.number in
    record { leaves = ap (λ (v : Move). v.from) d ∙ c.leaves ∙ sym s.from; comes = ap (λ (v : Move). v.to) d ∙ c.comes ∙ sym s.to })

-- ---- acceptance

-- the runs of two plans show the same marks too
pub record ShowsSame (ps qs : List Place) : Type 0 where
  pub run : SameRun ps qs
  pub marks : (m : Moment) → (place_at qs (here (spot qs m))).marks ≡ (place_at ps (here (spot ps m))).marks

-- a relation between where the two runs are, which each step keeps (a bisimulation: a run has one step from each spot)
module _ (ps qs : List Place) (R : Spot → Spot → Type 0) where
  -- two steps, by the same move, to spots that are so related
  pub record Together (s t : Step) : Type 0 where
    pub to : R s.to t.to
    pub named : move_no qs (record { place = here t.to; back = t.back }) ≡ move_no ps (record { place = here s.to; back = s.back })

  -- where it is so at the start, and such spots have the same state and marks
  pub shows_by : R (spot_at 0 0 0) (spot_at 0 0 0) → ((s t : Spot) → R s t → Together (next ps s) (next qs t)) →
      ((s t : Spot) → R s t → (place_at qs (here t)).state ≡ (place_at ps (here s)).state) →
      ((s t : Spot) → R s t → (place_at qs (here t)).marks ≡ (place_at ps (here s)).marks) → ShowsSame ps qs
  unfolding spot
  shows_by start step states marks =
      record {
        run = record { moves = λ m. (step (spot ps m) (spot qs m) (at m)).named; states = λ m. states (spot ps m) (spot qs m) (at m) };
        marks = λ m. marks (spot ps m) (spot qs m) (at m);
      }
    where
      at : (m : Moment) → R (spot ps m) (spot qs m)
      at zero = start
      at (suc m) = (step (spot ps m) (spot qs m) (at m)).to

module _ (x : Items) {qs : List Place} (e : ShowsSame x.places qs) (θ : Valuation) where
  -- what the run bears out in the one case it bears out in the other
  means_by : ((m : Moment) → here (spot x.places m) < length x.places) → All (Connects (with_places x qs)) (ways_of (with_places x qs)) → Means x θ → Means (with_places x qs) θ
  means_by inside c h =
      let T = same_true x e.run θ in
      record {
        connected = c;
        run =
            record {
              begins = e.run.states 0 ∙ h.run.begins;
              initial = λ j. same_counters x e.run θ 0 j ∙ h.run.initial j;
              states = λ m. subst (λ z. z < length x.states) (sym (e.run.states m)) (h.run.states m);
              fires = λ m. fires x e.run θ m (h.run.fires m);
            };
        labelled = λ i p a b m d.
            subst (λ z. (marked (with_places x qs) i z ≡ true) ↔ TrueAt (with_places x qs) θ i m) d
            (rw (T i m, e.marks m) (h.labelled i (here (spot x.places m)) a (inside m) m refl));
        holds = rw (T (root x) 0) h.holds;
      }

  -- so the one is accepted where the other is
  accepted_by : Resolved x → Resolved (with_places x qs) → (Finished x → Finished (with_places x qs)) →
      (All (Connects x) (ways_of x) → All (Connects (with_places x qs)) (ways_of (with_places x qs))) → IsAccepted x θ → IsAccepted (with_places x qs) θ
  accepted_by f g o c h =
      let k : Finished x = h.0.0.0.0.0 in
      let m = (means x f k θ).0 h in
      (means (with_places x qs) g (o k) θ).1 (means_by (in_plan x f.laid k.1) (c m.connected) m)

-- two plans of one system that are finished, connect and show the same together are accepted together
pub accepted_alike : (x : Items) {qs : List Place} → Resolved x → Resolved (with_places x qs) → Finished x ↔ Finished (with_places x qs) →
    All (Connects x) (ways_of x) ↔ All (Connects (with_places x qs)) (ways_of (with_places x qs)) → ShowsSame x.places qs →
    (θ : Valuation) → IsAccepted x θ ↔ IsAccepted (with_places x qs) θ
accepted_alike x {qs} f g o c e θ = (accepted_by x e θ f g o.0 c.0, accepted_by (with_places x qs) (back e) θ g f o.1 c.1)
  where
    back : {ps qs : List Place} → ShowsSame ps qs → ShowsSame qs ps
    back e = record { run = record { moves = λ m. sym (e.run.moves m); states = λ m. sym (e.run.states m) }; marks = λ m. sym (e.marks m) }
