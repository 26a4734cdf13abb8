-- The numbers of Numbers.antt show the best sums of verdict's Best.antt. Assumes nothing.
use Rattle.std.specs.Prelude.{◌≡◌, refl, Bool, true, false, cond, eqb, ℤ, pos, negsuc, ◌+ℤ◌, ◌*ℤ◌, ◌≤ℤ◌}
use Rattle.std.proofs.Common.{sym, ◌∙◌, ap, ap₂, ⊎_elim, mul-le-mul, arith}
use Prim.Native.Nat.{ℕ, zero, suc, ◌+◌, ◌-◌, ◌*◌, ◌^◌, ◌≤◌, ◌<◌}
use Rattle.std.proofs.Math.IntN.{+ℤ_comm}
use Rattle.std.specs.Int.Signed.{le_z, lt_z}
use Rattle.laws.specs.Order.{up, down, le_true, lt_false, false_lt}
use Rattle.laws.specs.Arithmetic.{le_out, le_in, le_or, add_rel}
use Rattle.laws.specs.Sizes.{size, add_size, mul_size}
use Rattle.laws.specs.Tests.{cond_by}
use Rattle.kinds.specs.declared.Kind.TheVariants as kind
use Rattle.items.specs.declared.LoopMark.{LoopMark}
use Rattle.items.specs.declared.LoopMark.TheVariants as mark
use Rattle.items.specs.Lists.{room_of}
use Rattle.meaning.specs.Run.{stretch}
use Rattle.verdict.specs.Labels.{Label}
use Rattle.verdict.specs.Best as best
use Rattle.verdict.specs.Rounds.{rounds_of}
use Rattle.verdict.specs.Best.{Best, is_reached, plus, greater, onward, step, chain, whole_sum, positive, power, limit, on_first, on_last}
use Rattle.rounds.specs.Last.{most_rounds}
use Rattle.maxplus.specs.declared.Round.{Round}
use Rattle.maxplus.specs.Numbers.{none, any, least, stop_of, go_of, larger, step_by, within_by, sum_by, round_by, power_by, limit_by, around_by}
use Rattle.maxplus.specs.Bounds.{most_gain, Light, FewRounds, small, Tame}

-- ---- how far

-- the most that a round can add
abbrev pub round_far : ℕ
round_far = room_of kind.Place * most_gain

-- the most that all rounds of a stretch, and a part of one round more, can add
abbrev pub stretch_far : ℕ
stretch_far = (most_rounds + 1) * round_far

-- the most that a place can add: its own gain, and at the end of a stretch the stretch's rounds
abbrev pub place_far : ℕ
place_far = most_gain + stretch_far

-- the most that all places can add
abbrev pub farthest : ℕ
farthest = room_of kind.Place * place_far

-- x is at most y and B more
abbrev pub Upto : ℕ → ℤ → ℤ → Type 0
Upto B x y = up x + down y ≤ up y + down x + B

-- x is near b: a sum is itself, and at most B in size; sums without end are off by at most B; no sum is far below (a place that isn't held may follow any)
abbrev pub Near : ℕ → ℤ → Best → Type 0
Near B x best.None = Upto B x (none +ℤ any)
Near B x (best.Sum z) = (x ≡ z) × (size z ≤ B)
Near B x best.Any = (Upto B any x) × (Upto B x any)

-- the number x shows b: it is near it, and not lower than no sum
pub record Shows (B : ℕ) (x : ℤ) (b : Best) : Type 0 where
  pub near : Near B x b
  pub low : Upto 0 none x

-- ---- the larger of two

larger_by : (P : ℤ → Type 0) (x y : ℤ) → (x ≤ℤ y → P y) → (up y + down x < up x + down y → P x) → P (larger x y)
larger_by P x y f g = cond_by P (le_z x y) (λ e. f (record { le = rw e tt })) (λ e. ⊎_elim (λ h. absurd (rw e at h.le)) g (le_or x y))

larger_low : (x y z : ℤ) → Upto 0 z x → Upto 0 z (larger x y)
larger_low x y z h = larger_by (Upto 0 z) x y (λ k. omega (arith, le_out k)) (λ k. h)

-- ---- near

near_wider : {A B : ℕ} (x : ℤ) (b : Best) → A ≤ B → Near A x b → Near B x b
near_wider x best.None h n = omega arith
near_wider x (best.Sum z) h n = (n.0, omega arith)
near_wider x best.Any h n = omega arith

near_top : {B : ℕ} (x : ℤ) (b : Best) → B ≤ farthest → Near B x b → Upto B x any
near_top x best.None h n = omega arith
near_top x (best.Sum z) h n = omega (arith, ap up n.0, ap down n.0)
near_top x best.Any h n = n.1

near_plus : {C : ℕ} (B : ℕ) (w x : ℤ) (b : Best) → size w ≤ C → Near B x b → Near (C + B) (w +ℤ x) (plus w b)
near_plus B w x best.None h n = omega (arith, add_rel w x)
near_plus B w x (best.Sum z) h n = (ap (λ y. w +ℤ y) n.0, omega (arith, add_size w z))
near_plus B w x best.Any h n = omega (arith, add_rel w x)

near_larger : {B : ℕ} → B ≤ farthest → (x y : ℤ) (a b : Best) → Near B x a → Near B y b → Near B (larger x y) (greater a b)
unfolding greater
near_larger {B} f x y best.None best.None m n = larger_by (λ u. Near B u best.None) x y (λ e. n) (λ e. m)
near_larger {B} f x y best.None (best.Sum z) m n =
    larger_by (λ u. Near B u (best.Sum z)) x y (λ e. n) (λ e. absurd (omega (arith, ap up n.0, ap down n.0)))
near_larger {B} f x y best.None best.Any m n = larger_by (λ u. Near B u best.Any) x y (λ e. n) (λ e. absurd (omega arith))
near_larger {B} f x y (best.Sum z) best.None m n =
    larger_by (λ u. Near B u (best.Sum z)) x y (λ e. absurd (omega (arith, le_out e, ap up m.0, ap down m.0))) (λ e. m)
near_larger {B} f x y (best.Sum z) (best.Sum w) m n = (ap₂ larger m.0 n.0, larger_by (λ u. size u ≤ B) z w (λ e. n.1) (λ e. m.1))
near_larger {B} f x y (best.Sum z) best.Any m n =
    larger_by (λ u. Near B u best.Any) x y (λ e. n) (λ e. absurd (omega (arith, ap up m.0, ap down m.0)))
near_larger {B} f x y best.Any b m n = larger_by (λ u. Near B u best.Any) x y (λ e. omega (arith, le_out e, near_top y b f n)) (λ e. m)

-- on from a place
near_on : {B : ℕ} (l : Label) → size l.gain ≤ most_gain → B ≤ farthest → (x : ℤ) (b : Best) → Near B x b → Near (most_gain + B) (go_of l +ℤ x) (onward l b)
near_on {B} l h f x b n = go l.held
  where
    go : (t : Bool) → Near (most_gain + B) (cond t l.gain none +ℤ x) (cond t (plus l.gain b) best.None)
    go true = near_plus B l.gain x b h n
    go false = omega (arith, add_rel none x, near_top x b f n)

-- ---- shows

pub shows_wider : {A B : ℕ} {x : ℤ} {b : Best} → Shows A x b → A ≤ B → Shows B x b
shows_wider {x = x} {b = b} s h = record { near = near_wider x b h s.near; low = s.low }

pub shows_none : (B : ℕ) → Shows B none best.None
shows_none B = record { near = omega arith; low = omega arith }

shows_any : (B : ℕ) → Shows B any best.Any
shows_any B = record { near = omega arith; low = omega arith }

shows_cond : {B : ℕ} (t : Bool) {x y : ℤ} {a b : Best} → Shows B x a → Shows B y b → Shows B (cond t x y) (cond t a b)
shows_cond true s r = s
shows_cond false s r = r

within_size : (z : ℤ) {B : ℕ} → down z ≤ up z + B → up z ≤ down z + B → size z ≤ B
within_size (pos n) h k = omega arith
within_size (negsuc n) h k = omega arith

pub shows_small : {B : ℕ} {x : ℤ} {b : Best} → Shows B x b → B ≤ farthest → size x ≤ small
shows_small {x = x} {b = b} s f = within_size x (omega (arith, s.low)) (omega (arith, near_top x b f s.near))

-- to stop where there is a goal
abbrev stop : Label → Best
stop l = cond l.goal (best.Sum (pos 0)) best.None

shows_stop : (B : ℕ) (l : Label) → Shows B (stop_of l) (stop l)
shows_stop B l = shows_cond l.goal (record { near = (refl, omega arith); low = omega arith }) (shows_none B)

pub shows_step : {B : ℕ} {x : ℤ} {b : Best} (l : Label) → size l.gain ≤ most_gain → Shows B x b → most_gain + B ≤ farthest
    → Shows (most_gain + B) (step_by (stop_of l) (go_of l) x) (step l b)
unfolding step
shows_step {B} {x} {b} l h s f =
    let t = shows_stop (most_gain + B) l in
    record {
      near = near_larger f (stop_of l) (go_of l +ℤ x) (stop l) (onward l b) t.near (near_on l h (omega arith) x b s.near);
      low = larger_low (stop_of l) (go_of l +ℤ x) none t.low;
    }

pub shows_bound : {B : ℕ} {x : ℤ} {b : Best} (z : ℤ) → size z ≤ 2 ^ 31 → Shows B x b → B ≤ farthest → le_z z x ≡ is_reached z b
shows_bound {B} {x} {b} z h s f = go b s.near (le_z z x) refl
  where
    go : (b : Best) → Near B x b → (t : Bool) → le_z z x ≡ t → t ≡ is_reached z b
    go best.None n true e = absurd (omega (arith, le_true z x e))
    go best.None n false e = refl
    go (best.Sum y) n t e = sym e ∙ ap (le_z z) n.0
    go best.Any n true e = refl
    go best.Any n false e = absurd (rw e at (le_in {a = z} {b = x} (omega arith)).le)

-- ---- a round

-- not sums without end
abbrev Finite : Best → Type 0
Finite best.None = Unit {0}
Finite (best.Sum z) = Unit {0}
Finite best.Any = ⊥

ended_plus : (w : ℤ) (b : Best) → Finite b → Finite (plus w b)
ended_plus w best.None h = tt
ended_plus w (best.Sum z) h = tt
ended_plus w best.Any h = h

ended_whole : (l : ℕ → Label) (p n : ℕ) → Finite (whole_sum l p n)
unfolding whole_sum
ended_whole l p zero = tt
ended_whole l p (suc n) =
    cond_by Finite (l p).held (λ e. ended_plus (l p).gain (whole_sum l (suc p) n) (ended_whole l (suc p) n)) (λ e. tt)

-- s and g are the steps of the labels l at every place that there is room for
pub record StepsAre (l : ℕ → Label) (s g : ℕ → ℤ) : Type 0 where
  pub stops : (i : ℕ) → i < room_of kind.Place → s i ≡ stop_of (l i)
  pub goes : (i : ℕ) → i < room_of kind.Place → g i ≡ go_of (l i)

-- a round shows the best within it, a, and the sum of its places, s
record ShowsRound (r : Round) (a s : Best) : Type 0 where
  within : Shows round_far r.within a
  sum : Near round_far r.sum s
  ended : Finite s

module _ {l : ℕ → Label} {s g : ℕ → ℤ} (light : Light l) (are : StepsAre l s g) where
  pub steps_tame : Tame s g
  steps_tame =
      record {
        stops = λ i h. rw (are.stops i h) (cond_by (λ z. size z ≤ small) (l i).goal (λ e. omega arith) (λ e. omega arith));
        goes = λ i h. rw (are.goes i h) (cond_by (λ z. size z ≤ small) (l i).held (λ e. omega (arith, light.each i)) (λ e. omega arith));
        gains = λ i h. rw (are.goes i h) (cond_by (λ z. z ≤ℤ pos most_gain) (l i).held (λ e. le_in (omega (arith, light.each i))) (λ e. le_in (omega arith)));
      }

  shows_within : (p n : ℕ) → p + n ≤ room_of kind.Place → Shows (n * most_gain) (within_by s g p n) (chain l p n best.None)
  unfolding within_by chain
  shows_within p zero h = shows_none 0
  shows_within p (suc n) h =
      rw (are.stops p (omega arith), are.goes p (omega arith))
      (shows_wider (shows_step (l p) (light.each p) (shows_within (suc p) n (omega arith)) (omega arith)) (omega arith))

  near_sum : (p n : ℕ) → p + n ≤ room_of kind.Place → Near (n * most_gain) (sum_by g p n) (whole_sum l p n)
  unfolding sum_by whole_sum
  near_sum p zero h = (refl, omega arith)
  near_sum p (suc n) h =
      let x = sum_by g (suc p) n in
      let b = whole_sum l (suc p) n in
      rw (are.goes p (omega arith))
      (near_wider (go_of (l p) +ℤ x) (onward (l p) b) (omega arith) (near_on (l p) (light.each p) (omega arith) x b (near_sum (suc p) n (omega arith))))

  shows_round : (p n : ℕ) → p + n ≤ room_of kind.Place → ShowsRound (round_by s g p n) (chain l p n best.None) (whole_sum l p n)
  shows_round p n h =
      let k : n * most_gain ≤ round_far = omega arith in
      record {
        within = shows_wider (shows_within p n h) k;
        sum = near_wider (sum_by g p n) (whole_sum l p n) k (near_sum p n h);
        ended = ended_whole l p n;
      }

-- ---- rounds

-- n times z more
near_times : (B : ℕ) (n : ℕ) (z x : ℤ) (b : Best) → n ≤ most_rounds → size z ≤ round_far → Near B x b
    → Near (most_rounds * round_far + B) (x +ℤ pos n *ℤ z) (plus (pos n *ℤ z) b)
near_times B n z x b h k m = rw (+ℤ_comm x (pos n *ℤ z)) (near_plus B (pos n *ℤ z) x b (omega (arith, mul_size (pos n) z, mul-le-mul h k)) m)

positive_size : (z : ℤ) → size (positive z) ≤ size z
positive_size z = cond_by (λ x. size x ≤ size z) (le_z (pos 0) z) (λ e. omega arith) (λ e. omega arith)

rises : (n : ℕ) (z : ℤ) → down (pos n *ℤ positive z) ≡ 0
rises n (pos m) = cond_by (λ u. down (pos n *ℤ u) ≡ 0) (le_z (pos 0) (pos m)) (λ e. refl) (λ e. refl)
rises n (negsuc m) = refl

shows_power : {B : ℕ} {v : ℤ} {b : Best} (r : Round) (a s : Best) → ShowsRound r a s → (n : ℕ) → n ≤ most_rounds → Shows B v b
    → stretch_far + B ≤ farthest → Shows (stretch_far + B) (power_by r n v) (power a s n b)
unfolding power_by power
shows_power {B} {v} {b} r a best.None t n h k f =
    shows_cond (eqb n 0) (shows_wider k (omega arith))
    (cond_by (λ u. Shows (stretch_far + B) u a) (lt_z r.sum least)
    (λ e. shows_wider t.within (omega arith)) (λ e. absurd (omega (arith, t.sum, lt_false r.sum least e))))
shows_power {B} {v} {b} r a (best.Sum z) t n h k f =
    let e : r.sum ≡ z = t.sum.0 in
    let y : ℤ = r.within +ℤ pos (n - 1) *ℤ positive z in
    rw (e, false_lt z least (omega (arith, t.sum.1)))
    (shows_cond (eqb n 0) (shows_wider k (omega arith))
    (record {
      near =
          near_larger f y (v +ℤ pos n *ℤ z) (plus (pos (n - 1) *ℤ positive z) a) (plus (pos n *ℤ z) b)
          (near_wider y (plus (pos (n - 1) *ℤ positive z) a) (omega arith)
          (near_times round_far (n - 1) (positive z) r.within a (omega arith) (omega (arith, positive_size z, t.sum.1)) t.within.near))
          (near_wider (v +ℤ pos n *ℤ z) (plus (pos n *ℤ z) b) (omega arith) (near_times B n z v b h t.sum.1 k.near));
      low =
          larger_low y (v +ℤ pos n *ℤ z) none
          (omega (arith, t.within.low, rises (n - 1) z, add_rel r.within (pos (n - 1) *ℤ positive z)));
    }))
shows_power r a best.Any t n h k f = absurd t.ended

shows_limit : (r : Round) (a s : Best) → ShowsRound r a s → Shows round_far (limit_by r) (limit a s)
unfolding limit_by limit
shows_limit r a best.None t =
    cond_by (λ u. Shows round_far u a) (le_z r.sum (pos 0))
    (λ e. t.within) (λ e. absurd (rw e at (le_in {a = r.sum} {b = pos 0} (omega (arith, t.sum))).le))
shows_limit r best.None (best.Sum z) t =
    cond_by (λ u. Shows round_far u best.None) (le_z r.sum (pos 0)) (λ e. t.within)
    (λ e. cond_by (λ u. Shows round_far u best.None) (lt_z r.within least)
    (λ e. t.within) (λ e. absurd (omega (arith, t.within.near, lt_false r.within least e))))
shows_limit r (best.Sum y) (best.Sum z) t =
    let e : r.within ≡ y = t.within.near.0 in
    let k : r.sum ≡ z = t.sum.0 in
    rw (k, false_lt r.within least (omega (arith, ap up e, ap down e, t.within.near.1))) (shows_cond (le_z z (pos 0)) t.within (shows_any round_far))
shows_limit r best.Any (best.Sum z) t =
    cond_by (λ u. Shows round_far u best.Any) (le_z r.sum (pos 0)) (λ e. t.within)
    (λ e. cond_by (λ u. Shows round_far u best.Any) (lt_z r.within least) (λ e. t.within) (λ e. shows_any round_far))
shows_limit r a best.Any t = absurd t.ended

pub shows_around : {l : ℕ → Label} {s g : ℕ → ℤ} {B : ℕ} {v : ℤ} {b : Best} → Light l → StepsAre l s g
    → (q : ℕ) (m : LoopMark) → q + stretch m ≤ room_of kind.Place → FewRounds (rounds_of m) → Shows B v b → stretch_far + B ≤ farthest →
    let a = chain l q (stretch m) best.None in
    let w = whole_sum l q (stretch m) in
    (Shows (stretch_far + B) (around_by s g q m v).first (on_first (rounds_of m) a w b))
    × (Shows (stretch_far + B) (around_by s g q m v).last (on_last (rounds_of m) a w b))
unfolding power_by
shows_around {l} {s} {g} light are q mark.None h few k f =
    (shows_power (round_by s g q 1) (chain l q 1 best.None) (whole_sum l q 1) (shows_round light are q 1 h) 0 few k f, shows_wider k (omega arith))
shows_around {l} {s} {g} light are q (mark.Counted n r b) h few k f =
    (shows_power (round_by s g q n) (chain l q n best.None) (whole_sum l q n) (shows_round light are q n h) (r - 1) few k f, shows_wider k (omega arith))
shows_around {l} {s} {g} {B} light are q (mark.Endless n b) h few k f =
    let t = shows_limit (round_by s g q n) (chain l q n best.None) (whole_sum l q n) (shows_round light are q n h) in
    let u : round_far ≤ stretch_far + B = omega arith in
    (shows_wider t u, shows_wider t u)
