-- What of a case doesn't look at the rounds of its loops or the marks of its places: all but where the run is, and what is marked. Assumes nothing.
use Rattle.std.specs.Prelude.{◌≡◌, List, [], ◌∷◌, ◌++◌, map, Bool, ltb, length, get_or, set}
use Rattle.std.proofs.Math.Path.{refl, ap, fun_ext}
use Rattle.std.proofs.Common.{sym, ◌∙◌, ap₂, subst, true≢false, arith}
use Rattle.std.proofs.Math.Bool.{true, false, cond}
use Prim.Native.Nat.{ℕ, zero, suc, ◌+◌, ◌-◌, ◌≤◌}
use Rattle.std.proofs.Math.ListN.{length-set}
use Rattle.laws.specs.All.{from, gather}
use Rattle.kinds.specs.declared.Kind.TheVariants as kind
use Rattle.items.specs.declared.LoopMark.{LoopMark}
use Rattle.items.specs.declared.LoopMark.TheVariants as mark
use Rattle.items.specs.declared.Move.{Move}
use Rattle.items.specs.declared.Place.{Place}
use Rattle.items.specs.Lists.{Items, no_item, with_places}
use Rattle.rules.specs.Rules.{mark_at, length_of, is_endless, end_at, Closed}
use Rattle.meaning.specs.Run.{Way, stretch, back_of, place_at, move_no, move_at, move_by, update, guards_of}
use Rattle.meaning.specs.Drift.{once_around, drift}
use Rattle.meaning.specs.Truth.{bit}
use Rattle.meaning.specs.Judged.{state_at, ways_into, way_back, way_in, ways_of, place_before, Connects, tests_of, marked}
use Rattle.meaning.specs.Rounds.{mark_with, place_with, places_with, with_rounds}
use Rattle.meaning.specs.Spans.{begins}
use Rattle.collector.proofs.Drifts.{once_same}
use Rattle.verdict.specs.Rounds.{first_of}
use Rattle.meaning_laws.specs.Facts.{Laid}

-- ---- a loop mark

-- what doesn't look at its rounds
pub mark_keeps : {B : Type 0} (f : LoopMark → B) → ((l n m b : ℕ) → f (mark.Counted l n b) ≡ f (mark.Counted l m b)) → (n : ℕ) (k : LoopMark) → f (mark_with n k) ≡ f k
mark_keeps f h n mark.None = refl
mark_keeps f h n (mark.Counted l m b) = h l n m b
mark_keeps f h n (mark.Endless l b) = refl

-- two that are the same but for their rounds
module _ {j k : LoopMark} (e : mark_with 0 j ≡ mark_with 0 k) where
  pub loop_same : {B : Type 0} (f : LoopMark → B) → ((l n m b : ℕ) → f (mark.Counted l n b) ≡ f (mark.Counted l m b)) → f j ≡ f k
  loop_same f h = sym (mark_keeps f h 0 j) ∙ ap f e ∙ mark_keeps f h 0 k

  pub none_same : k ≡ mark.None → j ≡ mark.None
  none_same d = unmarked j (loop_same begins (λ l n m b. refl) ∙ ap begins d)
    where
      -- one that begins no loop is none
      unmarked : (m : LoopMark) → begins m ≡ false → m ≡ mark.None
      unmarked mark.None e = refl
      unmarked (mark.Counted l n b) e = absurd (true≢false e)
      unmarked (mark.Endless l b) e = absurd (true≢false e)

-- ---- places that are the same but for rounds and marks

-- as many, with the same states and ways in, and the same loop marks but for rounds
pub record SamePlan (ps qs : List Place) : Type 0 where
  pub long : length qs ≡ length ps
  pub states : (p : ℕ) → (place_at qs p).state ≡ (place_at ps p).state
  pub ways : (p : ℕ) → (place_at qs p).way ≡ (place_at ps p).way
  pub loops : (p : ℕ) → mark_with 0 (mark_at qs p) ≡ mark_with 0 (mark_at ps p)

module _ {ps qs : List Place} (e : SamePlan ps qs) where
  pub plan_back : SamePlan qs ps
  plan_back = record { long = sym e.long; states = λ p. sym (e.states p); ways = λ p. sym (e.ways p); loops = λ p. sym (e.loops p) }

  -- what of a loop mark doesn't look at its rounds
  pub same_loop : {B : Type 0} (f : LoopMark → B) → ((l n m b : ℕ) → f (mark.Counted l n b) ≡ f (mark.Counted l m b)) → (p : ℕ) → f (mark_at qs p) ≡ f (mark_at ps p)
  same_loop f h p = loop_same {j = mark_at qs p} {k = mark_at ps p} (e.loops p) f h

  same_stretch : (p : ℕ) → stretch (mark_at qs p) ≡ stretch (mark_at ps p)
  same_stretch = same_loop stretch (λ l n m b. refl)

  pub same_endless : (p : ℕ) → is_endless (mark_at qs p) ≡ is_endless (mark_at ps p)
  same_endless = same_loop is_endless (λ l n m b. refl)

  pub same_end : (p : ℕ) → end_at qs p ≡ end_at ps p
  same_end p = ap (λ k. p + k) (same_loop length_of (λ l n m b. refl) p)

  pub same_none : (p : ℕ) → mark_at ps p ≡ mark.None → mark_at qs p ≡ mark.None
  same_none p = none_same {j = mark_at qs p} {k = mark_at ps p} (e.loops p)

  pub same_number : (w : Way) → move_no qs w ≡ move_no ps w
  same_number w = ap₂ (λ b r. cond w.back b r) (same_loop back_of (λ l n m b. refl) w.place) (e.ways w.place)

  same_before : (w : Way) → place_before qs w ≡ place_before ps w
  same_before w = ap (λ k. cond w.back (w.place + k - 1) (w.place - 1)) (same_stretch w.place)

  same_into : ways_into qs ≡ ways_into ps
  same_into = fun_ext (λ p. ap₂ ◌++◌ (ap (way_in p) (e.ways p)) (same_loop (way_back p) (λ l n m b. refl) p))

  pub same_first : (p : ℕ) → first_of qs p ≡ first_of ps p
  unfolding first_of
  same_first zero = refl
  same_first (suc p) =
      ap (λ q. cond (ltb (suc p) (q + stretch (mark_at qs q))) q (suc p)) (same_first p)
      ∙ ap (λ k. cond (ltb (suc p) (first_of ps p + k)) (first_of ps p) (suc p)) (same_stretch (first_of ps p))

  -- the loops lie as they did
  pub same_laid : Laid ps → Laid qs
  same_laid h =
      record {
        long = λ p. subst (λ z. 1 ≤ z) (sym (same_stretch p)) (h.long p);
        apart = λ p q l g m. omega (arith, same_stretch p, h.apart p q l (omega (arith, e.long)) (λ d. m (same_none q d)));
        last = λ p d. omega (arith, h.last p (sym (same_endless p) ∙ d), e.long, same_stretch p);
      }

module _ (x : Items) {qs : List Place} (e : SamePlan x.places qs) where
  -- the case with these places
  abbrev y : Items
  y = with_places x qs

  pub same_move : (w : Way) → move_by y w ≡ move_by x w
  same_move w = ap (move_at x.moves) (same_number e w)

  pub same_ways : ways_of y ≡ ways_of x
  same_ways = ap₂ (λ f k. gather f (from 0 k)) (same_into e) e.long

  pub same_tests : tests_of y ≡ tests_of x
  same_tests =
      ap₂ gather (fun_ext (λ w. ap (λ t. map (λ g. record { way = w; guard = g }) (guards_of t)) (same_move w))) same_ways

  pub same_state_before : (w : Way) → state_at y (place_before qs w) ≡ state_at x (place_before x.places w)
  same_state_before w = e.states (place_before qs w) ∙ ap (state_at x) (same_before e w)

  pub same_connects : (w : Way) → Connects x w → Connects y w
  same_connects w h =
      record {
        leaves = ap (λ t. t.from) (same_move w) ∙ h.leaves ∙ sym (same_state_before w);
        comes = ap (λ t. t.to) (same_move w) ∙ h.comes ∙ sym (e.states w.place);
      }

  pub same_closed : Closed x → Closed y
  same_closed h =
      record { first = h.first; endless = same_endless e h.first ∙ h.endless; whole = omega (arith, h.whole, same_end e h.first, e.long) }

  -- what a round of a loop adds
  pub same_drift : (j q : ℕ) → drift y j q ≡ drift x j q
  unfolding drift
  same_drift j q =
      ap (λ k. once_around y j q (k - 1)) (same_stretch e q)
      ∙ once_same y x j q (stretch (mark_at x.places q) - 1) (adds true q) (λ p h l. adds false p)
    where
      adds : (b : Bool) (p : ℕ) → update (move_by y (record { place = p; back = b })) j ≡ update (move_by x (record { place = p; back = b })) j
      adds b p = ap (λ (t : Move). update t j) (same_move (record { place = p; back = b }))

-- ---- other rounds in one counted loop

-- what f tells of an item stays where the item that is set tells the same
set_keeps : {A B : Type 0} (f : A → B) (l : List A) (s p : ℕ) (v d : A) → f v ≡ f (get_or l s d) → f (get_or (set l s v) p d) ≡ f (get_or l p d)
set_keeps f [] s p v d e = refl
set_keeps f (a ∷ l) zero zero v d e = e
set_keeps f (a ∷ l) zero (suc p) v d e = refl
set_keeps f (a ∷ l) (suc s) zero v d e = refl
set_keeps f (a ∷ l) (suc s) (suc p) v d e = set_keeps f l s p v d e

module _ (ps : List Place) (s n : ℕ) where
  -- what of a place doesn't look at its rounds
  pub same_field : {B : Type 0} (f : Place → B) → ((p : Place) → f (place_with n p) ≡ f p) → (p : ℕ) → f (place_at (places_with ps s n) p) ≡ f (place_at ps p)
  unfolding places_with
  same_field f h p = set_keeps f ps s p (place_with n (place_at ps s)) (no_item kind.Place) (h (place_at ps s))

  pub other_rounds : SamePlan ps (places_with ps s n)
  unfolding places_with
  other_rounds =
      record {
        long = length-set ps s (place_with n (place_at ps s));
        states = same_field (λ p. p.state) (λ p. refl);
        ways = same_field (λ p. p.way) (λ p. refl);
        loops = same_field (λ p. mark_with 0 p.mark) (λ p. mark_keeps (mark_with 0) (λ l n m b. refl) n p.mark);
      }

pub same_marked : (x : Items) (s n : ℕ) → marked (with_rounds x s n) ≡ marked x
same_marked x s n = fun_ext (λ i. fun_ext (λ p. ap (λ z. bit z i) (same_field x.places s n (λ q. q.marks) (λ q. refl) p)))
