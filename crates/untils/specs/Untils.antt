-- One turn of the loop over the places, the last first, that finds the best sums of an until as numbers. Assumes nothing.
use Rattle.std.specs.Prelude.{◌≡◌, refl, List, Bool, true, false, cond, ℕ, suc, ◌+◌, ◌-◌, ◌*◌, ◌≤◌, ◌<◌, ◌^◌, leb, ℤ}
use Rattle.std.proofs.Common.{sym, ◌∙◌, ap, ap₂, subst, le-leb, to_z, of_z}
use native.Mathlib.Omega.{arith}
use Rattle.std.specs.Int.Signed.{le_z}
use Rattle.std.proofs.Math.ListN.{length}
use Rattle.std.proofs.lemmas.Bool.{lt-leb}
use Rattle.std.specs.Int.{w64}
use Rattle.laws.specs.Sizes.{size, size_read}
use Rattle.laws.specs.Down.{down_more}
use Rattle.kinds.specs.declared.Kind.TheVariants as kind
use Rattle.items.specs.declared.LoopMark.{LoopMark}
use Rattle.items.specs.declared.Place.{Place}
use Rattle.items.specs.Lists.{Items, room_of}
use Rattle.meaning.specs.Run.{stretch}
use Rattle.meaning_laws.specs.Facts.{Facts}
use Rattle.verdict.specs.Labels.{Label}
use Rattle.verdict.specs.Best as best
use Rattle.verdict.specs.Rounds.{first_of, loop_of, is_last, rounds_of, agree}
use Rattle.verdict.specs.Best.{Best, Front, step, chain, whole_sum, on_first, on_last, front_by, front}
use Rattle.maxplus.specs.Numbers.{none, stop_of, go_of, step_by, around_by}
use Rattle.maxplus.specs.Bounds.{Light, FewRounds, small, Tame}
use Rattle.maxplus.specs.Stretches.{stretch_room, stretch_few}
use Rattle.maxplus.specs.Shows.{Shows, stretch_far, place_far, shows_none, shows_step, shows_small, shows_bound, shows_wider, shows_around, StepsAre, steps_tame}
use Rattle.untils.specs.Sums.{untils_of}

-- u and v show the best sums of a place
pub record ShowBoth (B : ℕ) (y : Front) (u v : ℤ) : Type 0 where
  pub first : Shows B u y.first
  pub last : Shows B v y.last

both_wider : {A : ℕ} (B : ℕ) {y : Front} {u v : ℤ} → A ≤ B → ShowBoth A y u v → ShowBoth B y u v
both_wider B h k = record { first = shows_wider k.first h; last = shows_wider k.last h }

-- and so do numbers that stand for u and v
pub both_read : {B : ℕ} {y : Front} {a b u v : ℤ} → a ≡ u → b ≡ v → ShowBoth B y u v → ShowBoth B y a b
both_read p q k = rw (p, q) k

-- the best sums after place p, where y has those of the next place: at the end of a stretch by its rounds
abbrev after_by : (ℕ → Label) → List Place → ℕ → Front → Front
after_by l ps p y =
    let a = chain l (first_of ps p) (stretch (loop_of ps p)) best.None in
    let s = whole_sum l (first_of ps p) (stretch (loop_of ps p)) in
    let r = rounds_of (loop_of ps p) in
    cond (is_last ps p) (record { first = on_first r a s y.first; last = on_last r a s y.first }) y

-- f of both
abbrev each_sum : (Best → Best) → Front → Front
each_sum f y = record { first = f y.first; last = f y.last }

each_cond : (t : Bool) (f : Best → Best) (y z : Front) → each_sum f (cond t y z) ≡ cond t (each_sum f y) (each_sum f z)
each_cond true f y z = refl
each_cond false f y z = refl

-- the best sums of place i, and how far they go
abbrev sums_at : Items → (ℕ → Label) → ℕ → Front
sums_at x l i = front l x.places i (length x.places - i)

abbrev far_at : Items → ℕ → ℕ
far_at x i = (length x.places - i) * place_far

-- u and v show the best sums of place i
abbrev pub Shown : Items → (ℕ → Label) → ℕ → ℤ → ℤ → Type 0
Shown x l i = ShowBoth (far_at x i) (sums_at x l i)

-- and those after the place before i
abbrev pub After : Items → (ℕ → Label) → ℕ → ℤ → ℤ → Type 0
After x l i = ShowBoth (stretch_far + far_at x i) (after_by l x.places (i - 1) (sums_at x l i))

-- what a turn for the place before i stands on
pub record Turn (x : Items) (l : ℕ → Label) (s g : ℕ → ℤ) (i : ℕ) : Type 0 where
  pub facts : Facts x
  pub light : Light l
  pub are : StepsAre l s g
  pub some : 0 < i
  pub held : i ≤ length x.places

module _ {x : Items} {l : ℕ → Label} {s g : ℕ → ℤ} {i : ℕ} (t : Turn x l s g i) where
  -- the places, and the place before i
  abbrev ps : List Place
  ps = x.places

  abbrev p : ℕ
  p = i - 1

  few : length ps ≤ room_of kind.Place
  few = omega (arith, t.facts.room (length ps - 1) (omega arith), t.facts.resolved.laid.long (length ps - 1))

  tame : Tame s g
  tame = steps_tame t.light t.are

  -- the steps of a place are read back from their bits
  pub turn_read : (to_z w64 (of_z w64 (s p)) ≡ s p) × (to_z w64 (of_z w64 (g p)) ≡ g p)
  turn_read =
      let h : p < room_of kind.Place = omega (arith, few) in
      (size_read w64 (s p) (omega (arith, tame.stops p h)), size_read w64 (g p) (omega (arith, tame.goes p h)))

  module _ {u v : ℤ} (k : Shown x l i u v) {q : ℕ} {m : LoopMark} (eq : q ≡ first_of ps p) (em : m ≡ loop_of ps p) where
    last_is : leb (q + stretch m) i ≡ is_last ps p
    last_is =
        let e : i ≡ suc p = omega arith in
        ap (leb (q + stretch m)) e ∙ ap₂ (λ (a : ℕ) (b : LoopMark). leb (a + stretch b) (suc p)) eq em

    pub turn_fits : (q + stretch m ≤ room_of kind.Place) × ((Tame s g) × ((FewRounds (rounds_of m)) × (size u ≤ small)))
    turn_fits = rw (eq, em) (stretch_room t.facts p (omega arith), (tame, (stretch_few t.facts p, shows_small k.first (omega (arith, few)))))

    pub turn_out : q + stretch m ≤ i → After x l i (around_by s g q m u).first (around_by s g q m u).last
    turn_out h =
        let e : is_last ps p ≡ true = sym last_is ∙ le-leb (q + stretch m) i h in
        let f = t.facts in
        let r = stretch_room f p (omega arith) in
        let a = shows_around t.light t.are (first_of ps p) (loop_of ps p) r (stretch_few f p) k.first (omega (arith, few)) in
        rw (e, eq, em) (record { first = a.0; last = a.1 })

    pub turn_on : i < q + stretch m → After x l i u v
    turn_on h =
        let e : is_last ps p ≡ false = sym last_is ∙ lt-leb (q + stretch m) i h in
        rw e (both_wider (stretch_far + far_at x i) (omega arith) k)

  module _ {u v : ℤ} (k : After x l i u v) where
    pub turn_small : (size (g p) + size u < 2 ^ 63) × (size (g p) + size v < 2 ^ 63)
    turn_small =
        let h = tame.goes p (omega (arith, few)) in
        (omega (arith, shows_small k.first (omega (arith, few))), omega (arith, shows_small k.last (omega (arith, few))))

    pub turn_step : Shown x l p (step_by (s p) (g p) u) (step_by (s p) (g p) v)
    unfolding front
    turn_step =
        let h : p < room_of kind.Place = omega (arith, few) in
        let w = t.light.each p in
        rw (t.are.stops p h, t.are.goes p h)
        (subst (λ (z : Front). ShowBoth (far_at x p) z (step_by (stop_of (l p)) (go_of (l p)) u) (step_by (stop_of (l p)) (go_of (l p)) v))
        (each_cond (is_last ps p) (step (l p)) _ (sums_at x l i)
        ∙ down_more (front l ps) (front_by l ps) (λ i n. refl) i (length ps) (sums_at x l i) t.some t.held refl)
        (both_wider (far_at x p) (omega arith)
        (record { first = shows_step (l p) w k.first (omega (arith, few)); last = shows_step (l p) w k.last (omega (arith, few)) })))

module _ (x : Items) (l : ℕ → Label) (i : ℕ) where
  -- past the places that are held there is no sum
  pub shown_past : length x.places ≤ i → Shown x l i none none
  unfolding front
  shown_past h =
      let e : length x.places - i ≡ 0 = omega arith in
      rw e (record { first = shows_none 0; last = shows_none 0 })

  pub until_is : length x.places ≤ room_of kind.Place → {u v : ℤ} → Shown x l i u v
      → (z : ℤ) → size z ≤ 2 ^ 31 → agree (le_z z u) (le_z z v) ≡ untils_of x l z i
  until_is few k z h = ap₂ agree (shows_bound z h k.first (omega arith)) (shows_bound z h k.last (omega arith))
