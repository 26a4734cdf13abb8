-- The loop goes through the places. Assumes nothing.
use mathlib.Core.Path.{◌≡◌, ◌∙◌, ap}
use mathlib.Core.List.{[]}
use Prim.Native.Nat.{ℕ, ◌<◌}
use native.Mathlib.Omega.{arith}
use lib.ListN.{length, get_or}
use Rattle.kinds.specs.declared.Kind.TheVariants as kind
use Rattle.items.specs.Lists.{Items, room_of}
use Rattle.collector.specs.Cases.{items_of}
use Rattle.rules_laws.specs.Held.{counted}
use Rattle.meaning.specs.Run.{guard_at}
use Rattle.meaning.specs.Judged.{start_of}
use Rattle.meaning_laws.specs.Given.{facts}
use Rattle.verdict.specs.declared.Throughout.{Throughout}
use Rattle.verdict.specs.Rounds.{loop_of, rounds_of}
use Rattle.verdict.specs.Verdict.{guard_through}
use Rattle.tables.specs.declared.Tables.{Tables}
use Rattle.guards.specs.GuardSums.{Known}
use Rattle.rounds.specs.Rows.{code_of}
use Rattle.rounds.specs.Codes.{up_none, up_more, up_all}
use Rattle.tables.specs.Reads.{mark_read}
use Rattle.tables.specs.Known.{first_within, rounds_are, base_is, drift_is}
use Rattle.guards.specs.SentenceSums.{guard_fits, guard_is}
use Rattle.guards.proofs.guard_row.Goals as goal
use Rattle.guards.proofs.guard_row.Goals.{After-code-code, After-rounds_of-rounds, In-loop-p, Start}

-- what guard g is over the rounds of each place
abbrev guard_of : Items → ℕ → ℕ → Throughout
guard_of x g = guard_through x (start_of x) (guard_at x.guards g)

-- the items and the number of places
module _ (c : Start) where
  abbrev x : Items
  x = items_of c.args.c

  abbrev n : ℕ
  n = length x.places

  held : n ≡ c.args.c.count.places
  held = counted c.args.c c.requires.0 kind.Place

-- place p, which is held
module _ (c : In-loop-p) where
  abbrev t : Start
  t = (goal.at.In-loop-p c).Start

  abbrev p : ℕ
  p = c.loop-p.p

  inside : p < n t
  inside = omega (arith, held t)

  room : p < room_of kind.Place
  room = omega (arith, t.requires.0.room kind.Place)

  -- the first place of its stretch
  abbrev q : ℕ
  q = get_or t.args.t.firsts.at p 0

  within : q < room_of kind.Place
  within = first_within t.requires.0 (ap (λ (t : Tables). t.firsts) t.requires.1) p inside

pub loop-p-init : goal.loop-p-init
loop-p-init c = let s = (goal.at.loop-p-init c).Start in up_none (x s) s.args.i (guard_of (x s) s.args.g)

pub bounds-places-q : goal.bounds-places-q
bounds-places-q c = rw c.from-q.ensures (within (goal.at.bounds-places-q c).In-loop-p)

pub bounds-drifts-q : goal.bounds-drifts-q
bounds-drifts-q c = rw c.from-q.ensures (within (goal.at.bounds-drifts-q c).In-loop-p)

-- what is read there
module _ (c : After-rounds_of-rounds) where
  abbrev l : In-loop-p
  l = (goal.at.After-rounds_of-rounds c).In-loop-p

  known :
      Known (x (t l)) (start_of (x (t l))) (t l).args.g (p l) l.guard_at-guard.result
      (get_or (t l).args.t.bases.at (p l) (record { at = [] })) (get_or (t l).args.c.drifts c.from-q.result (record { at = [] }))
  known =
      let s = (t l).requires.0 in
      let e = (t l).requires.1 in
      rw c.from-q.ensures (record {
        guard = l.guard_at-guard.ensures;
        base = base_is s e (p l) (inside l) _;
        drift = drift_is s (t l).requires.2 (ap (λ (t : Tables). t.firsts) e) (p l) (inside l) _;
      })

  rounds : c.rounds_of-rounds.result ≡ rounds_of (loop_of (x (t l)).places (p l))
  rounds = rw c.from-q.ensures at c.rounds_of-rounds.ensures ∙ rounds_are (t l).requires.0 (ap (λ (t : Tables). t.firsts) (t l).requires.1) (p l) (inside l)

pub guard_through-requires : goal.guard_through-requires
guard_through-requires c =
    let r = (goal.at.guard_through-requires c).After-rounds_of-rounds in
    let e = l r in
    guard_fits (facts (t e).args.c (t e).requires.0) (known r) (rounds r) (room e)

-- what is found is the code of place p
module _ (c : After-code-code) where
  abbrev i : In-loop-p
  i = l (goal.at.After-code-code c).After-rounds_of-rounds

  is : c.code-code.result ≡ code_of (guard_of (x (t i)) (t i).args.g (p i))
  is =
      c.code-code.ensures
      ∙ ap code_of (c.guard_through.ensures ∙ guard_is (facts (t i).args.c (t i).requires.0) (known (goal.at.After-code-code c).After-rounds_of-rounds) (rounds (goal.at.After-code-code c).After-rounds_of-rounds))

pub loop-p-preserved : goal.loop-p-preserved
loop-p-preserved c =
    let d = (goal.at.loop-p-preserved c).After-code-code in
    let m = i d in
    up_more (x (t m)) (t m).args.i (guard_of (x (t m)) (t m).args.g) m.loop-p.off (inside m) (room m) (is d) (c.bit.ensures ∙ mark_read (t m).requires.0 (t m).args.i (p m)) c.off_by-off.ensures
    m.loop-p.invariant

pub returns : goal.returns
returns c =
    let s = (goal.at.returns c).Start in
    up_all (x s) s.args.i (guard_of (x s) s.args.g) (omega (arith, held s)) c.loop-p.invariant
