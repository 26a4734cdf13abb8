-- What doesn't look at the marks: the run, truth, the refusals before 34, by their meaning and as they are computed, and the tables of judging. Assumes nothing.
use Rattle.std.specs.Prelude.{◌≡◌, ◌⊎◌, List, ◌++◌, Bool, ◌&&◌, ltb, leb, eqb, pos, ◌+ℤ◌, ◌*ℤ◌, length, replicate, Err, Ok}
use Rattle.std.proofs.Math.Path.{refl, ap, fun_ext}
use Rattle.std.proofs.Common.{sym, ◌∙◌, subst}
use Rattle.std.proofs.Math.Bool.{true, false, cond}
use Prim.Native.Nat.{ℕ, zero, suc, ◌+◌, ◌-◌}
use Rattle.laws.specs.All.{All, First, this, later}
use Rattle.laws.specs.Members.{all_map}
use Rattle.laws.specs.Tab.{tab}
use Rattle.kinds.specs.declared.Kind.TheVariants as kind
use Rattle.kinds.specs.Kinds.{counts_total}
use Rattle.counters.specs.Sum.{Valuation, sum}
use Rattle.counters.specs.Vectors.{vec_of, no_values}
use Rattle.items.specs.declared.LoopMark.{LoopMark}
use Rattle.items.specs.declared.Place.{Place}
use Rattle.items.specs.Lists.{Items, room_of}
use Rattle.answers.specs.declared.Rejection.TheVariants.{Unfinished, WrongStart, Unconnected, GuardFails, WrongMark, RootUnmarked}
use Rattle.rules.specs.Rules.{mark_at, Closed}
use Rattle.standing.specs.Standing.{is_closed}
use Rattle.meaning.specs.Run.{Moment, Spot, Step, Way, here, stretch, goes_again, next, spot, way_taken, move_no, update, counters_at, guard_at, Meets}
use Rattle.meaning.specs.Drift.{drift}
use Rattle.meaning.specs.Judged.{start_of, state_at, ways_of, Connects, Test, tests_of, Mark, MetAfter, Passes, Fails, TrueAt, Started, Connected, Guarded, Judged}
use Rattle.meaning.specs.Marking.{marked_from, with_marks, Varies, Steady}
use Rattle.meaning_laws.specs.SameRun.{SameRun}
use Rattle.meaning_laws.specs.SameRun as runs
use Rattle.meaning_laws.specs.Plans.{SamePlan, plan_back, same_number, same_first, same_move, same_ways, same_tests, same_state_before, same_connects, same_closed, same_drift}
use Rattle.verdict.specs.declared.Rounds.TheVariants as rounds
use Rattle.verdict.specs.Rounds.{first_of, loop_of, rounds_of, through}
use Rattle.verdict.specs.Rounds as over
use Rattle.verdict.specs.Forward.{repeats, rounds_add, base}
use Rattle.verdict.specs.Verdict.{Found, nowhere, at, first_not, connects, test_through, is_always, passes, finished, ref_number, judgement_by, before_marks}
use Rattle.places.specs.Replaced.{counts_same, loops_same}
use Rattle.tables.specs.Tables.{tables_of}
use Rattle.fill_laws.specs.Marks.{marked_plan, mark_same}
use Rattle.answers.specs.Answers.{Judgement}

-- a refusal that comes before those of marks: 24, 31, 32 or 33
abbrev pub Before34 : Judgement → Type 0
Before34 (Err (Unfinished n)) = Unit {0}
Before34 (Err WrongStart) = Unit {0}
Before34 (Err (Unconnected p t)) = Unit {0}
Before34 (Err (GuardFails p g)) = Unit {0}
Before34 (Err (WrongMark p i)) = ⊥
Before34 (Err (RootUnmarked r)) = ⊥
Before34 (Ok tt) = ⊥

first_map : {A : Type 0} {P Q B C : A → Type 0} {l : List A} {a : A} → ((a : A) → P a → Q a) → ((a : A) → B a → C a) → First P B l a → First Q C l a
first_map f g (this b) = this (g _ b)
first_map f g (later p h) = later (f _ p) (first_map f g h)

module _ (x : Items) (μ : ℕ → ℕ) where
  -- the case with other marks, and its places
  abbrev y : Items
  y = with_marks x μ

  abbrev ps : List Place
  ps = x.places

  abbrev qs : List Place
  qs = marked_from μ 0 x.places

  plan : SamePlan ps qs
  plan = marked_plan μ x.places

  -- ---- the run

  same_next : (s : Spot) → next qs s ≡ next ps s
  unfolding next
  same_next s =
      ap (λ (m : LoopMark).
      cond (ltb (s.step + 1) (stretch m))
      (record { to = record { first = s.first; step = s.step + 1; round = s.round }; back = false })
      (cond (goes_again m s.round)
      (record { to = record { first = s.first; step = 0; round = s.round + 1 }; back = true })
      (record { to = record { first = s.first + stretch m; step = 0; round = 0 }; back = false })))
      (mark_same μ x.places s.first)

  pub same_spot : (m : Moment) → spot (with_marks x μ).places m ≡ spot x.places m
  unfolding spot
  same_spot zero = refl
  same_spot (suc m) = ap (λ (s : Step). s.to) (same_next (spot qs m) ∙ ap (next ps) (same_spot m))

  pub same_way : (m : Moment) → way_taken (with_marks x μ).places m ≡ way_taken x.places m
  same_way m = λ i. record { place = here (same_spot (suc m) i); back = ((same_next (spot qs m) ∙ ap (next ps) (same_spot m)) i).back }

  run : SameRun ps qs
  run =
      record {
        moves = λ m. same_number plan (way_taken qs m) ∙ ap (move_no ps) (same_way m);
        states = λ m. plan.states (here (spot qs m)) ∙ ap (λ s. state_at x (here s)) (same_spot m);
      }

  pub same_counters : (θ : Valuation) (m : Moment) (j : ℕ) → counters_at (with_marks x μ) θ m j ≡ counters_at x θ m j
  same_counters = runs.same_counters x run

  -- ---- truth

  pub same_true : (θ : Valuation) (i : ℕ) (m : Moment) → TrueAt (with_marks x μ) θ i m ≡ TrueAt x θ i m
  same_true = runs.same_true x run

  pub still_varies : (θ : Valuation) (k : Mark) → Varies x θ k → Varies (with_marks x μ) θ k
  still_varies θ k v =
      record {
        one = v.one;
        one_there = ap here (same_spot v.one) ∙ v.one_there;
        true_then = rw (same_true θ k.sentence v.one) v.true_then;
        other = v.other;
        other_there = ap here (same_spot v.other) ∙ v.other_there;
        false_then = λ h. v.false_then (rw (same_true θ k.sentence v.other) at h);
      }

  pub same_steady : (θ : Valuation) (k : Mark) → Steady (with_marks x μ) θ k ≡ Steady x θ k
  same_steady θ k =
      let At : (m : Moment) → (here (spot qs m) ≡ k.place) ≡ (here (spot ps m) ≡ k.place) = λ m. ap (λ s. here s ≡ k.place) (same_spot m) in
      let T = same_true θ k.sentence in
      λ i. ((m : Moment) → At m i → T m i) ⊎ ((m : Moment) → At m i → T m i → ⊥)

  -- ---- the refusals before 34, by their meaning

  pub still_closed : Closed x → Closed (with_marks x μ)
  still_closed = same_closed x plan

  met_same : (θ : Valuation) (g : ℕ) (m : Moment) → MetAfter y θ g m ≡ MetAfter x θ g m
  met_same θ g m = ap (Meets (guard_at x.guards g)) (fun_ext (same_counters θ (suc m)))

  still_passes : (θ : Valuation) (t : Test) → Passes x θ t → Passes y θ t
  still_passes θ t h = record { met = λ m e. rw (met_same θ t.guard m) (h.met m (sym (same_way m) ∙ e)) }

  still_fails : (θ : Valuation) (t : Test) → Fails x θ t → Fails y θ t
  still_fails θ t h =
      record { moment = h.moment; way = same_way h.moment ∙ h.way; unmet = λ k. h.unmet (rw (met_same θ t.guard h.moment) at k) }

  still_started : Started x → Started y
  still_started h = ((h.0.0, still_closed h.0.1), plan.states 0 ∙ h.1)

  still_connected : Connected x → Connected y
  still_connected h = (still_started h.0, subst (All (Connects y)) (sym (same_ways x plan)) (all_map (same_connects x plan) h.1))

  pub still_guarded : (θ : Valuation) → Guarded x θ → Guarded (with_marks x μ) θ
  still_guarded θ h = (still_connected h.0, subst (All (Passes y θ)) (sym (same_tests x plan)) (all_map (still_passes θ) h.1))

  pub still_refused : (θ : Valuation) (a : Judgement) → Before34 a → Judged x θ a → Judged (with_marks x μ) θ a
  still_refused θ (Err (Unfinished n)) b h = (λ f. h.0 (f.0, same_closed y (plan_back plan) f.1), h.1 ∙ sym (ap counts_total (counts_same x plan)))
  still_refused θ (Err WrongStart) b h = ((h.0.0, still_closed h.0.1), λ e. h.1 (sym (plan.states 0) ∙ e))
  still_refused θ (Err (Unconnected p t)) b h =
      let (w, f, e, n) = h.1 in (
        still_started h.0,
        (
          w,
          subst (λ ws. First (Connects y) (λ v. Connects y v → ⊥) ws w) (sym (same_ways x plan))
              (first_map (same_connects x plan) (λ v u c. u (same_connects y (plan_back plan) v c)) f),
          e,
          same_number plan w ∙ n,
        ),
      )
  still_refused θ (Err (GuardFails p g)) b h =
      let (t, f, e, n) = h.1 in (
        still_connected h.0,
        (t, subst (λ ts. First (Passes y θ) (Fails y θ) ts t) (sym (same_tests x plan)) (first_map (still_passes θ) (still_fails θ) f), e, n),
      )
  still_refused θ (Err (WrongMark p i)) b h = absurd b
  still_refused θ (Err (RootUnmarked r)) b h = absurd b
  still_refused θ (Ok tt) b h = absurd b

  -- ---- the tables

  same_loop : (p : ℕ) → loop_of qs p ≡ loop_of ps p
  same_loop p = mark_same μ ps (first_of qs p) ∙ ap (mark_at ps) (same_first plan p)

  same_round : (j p : ℕ) → drift y j (first_of qs p) ≡ drift x j (first_of ps p)
  same_round j p = ap (drift y j) (same_first plan p) ∙ same_drift x plan j (first_of ps p)

  same_base : (θ : Valuation) (j p : ℕ) → base y θ j p ≡ base x θ j p
  unfolding base
  same_base θ j zero = refl
  same_base θ j (suc p) = λ i. same_base θ j p i +ℤ adds i +ℤ update (same_move x plan (record { place = suc p; back = false }) i) j
    where
      adds : rounds_add y j p ≡ rounds_add x j p
      adds = λ i. cond (leb (same_first plan p i + stretch (same_loop p i)) (suc p)) (pos (repeats (same_loop p i)) *ℤ same_round j p i) (pos 0)

  pub same_start : start_of (with_marks x μ) ≡ start_of x
  unfolding start_of
  same_start = refl

  pub same_tables : tables_of (with_marks x μ) ≡ tables_of x
  same_tables =
      λ i.
      let n = plan.long i in
      record {
        firsts = record { at = tab n 0 (λ p. same_first plan p i) ++ replicate (room_of kind.Place - n) 0 };
        bases = record { at = tab n 0 (λ p. vec_of (λ j. (ap (λ θ. base y θ j p) same_start ∙ same_base (start_of x) j p) i)) ++ replicate (room_of kind.Place - n) no_values };
      }

  -- ---- the checks before 34, as they are computed

  connects_same : (w : Way) → connects y w ≡ connects x w
  connects_same w =
      λ i.
      let t = same_move x plan w i in
      eqb t.from (same_state_before x plan w i) && eqb t.to (plan.states w.place i)

  through_same : (θ : Valuation) (t : Test) → test_through y θ t ≡ test_through x θ t
  through_same θ t =
      let g = guard_at x.guards t.guard in
      let p = t.way.place in
      λ i.
      let d = sum g.coefficients.at (λ j. same_round j p i) in
      through (sum g.coefficients.at (λ j. same_base θ j p i) +ℤ cond t.way.back d (pos 0)) d g.bound
      (cond t.way.back (over.later (rounds_of (mark_same μ ps p i))) (cond (eqb (same_first plan p i) p) (rounds.UpTo 0) (rounds_of (same_loop p i))))

  -- by what the checks find
  same_by : (f s : Bool) (w : Found Way) (t : Found Test) → judgement_by y f s w t nowhere true ≡ judgement_by x f s w t nowhere true
  same_by false s w t = ap (λ n. Err (Unfinished (counts_total n))) (counts_same x plan)
  same_by true false w t = refl
  same_by true true (at w) t = ap (λ r. Err (Unconnected (record { 0 = w.place }) (ref_number r))) (same_number plan w)
  same_by true true nowhere (at t) = refl
  same_by true true nowhere nowhere = refl

  pub same_checks : (θ : Valuation) → before_marks (with_marks x μ) θ ≡ before_marks x θ
  unfolding before_marks
  same_checks θ =
      same_by (finished y) (eqb (state_at y 0) 0) (first_not (connects y) (ways_of y)) (first_not (passes y θ) (tests_of y))
      ∙ (λ i.
      judgement_by x (ltb 0 (length x.sentences) && is_closed (loops_same plan i) (plan.long i)) (eqb (plan.states 0 i) 0)
      (first_not (λ w. connects_same w i) (same_ways x plan i)) (first_not (λ t. is_always (through_same θ t i)) (same_tests x plan i)) nowhere true)
