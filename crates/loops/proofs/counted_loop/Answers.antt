-- The loop goes over the places and counts loops. Assumes nothing.
use mathlib.Core.Path.{◌≡◌, sym, ◌∙◌, ap, subst}
use mathlib.Core.List.{List, [], ◌∷◌}
use mathlib.Core.Bool.{Bool, true, cond}
use Prim.Native.Nat.{ℕ, ◌+◌, ◌<◌}
use native.Mathlib.Omega.{arith}
use lib.ListN.{length}
use Rattle.std.proofs.Common.{⊎_elim}
use Rattle.kinds.specs.declared.Kind.TheVariants as kind
use Rattle.items.specs.declared.Place.{Place}
use Rattle.collector.specs.Cases.{items_of}
use Rattle.rules.specs.Rules.{mark_at}
use Rattle.meaning.specs.Spans.{begins}
use Rattle.verdict.specs.Span.{loop_at, counted_rounds}
use Rattle.rules_laws.specs.Held.{counted}
use Rattle.rules_laws.specs.Loops.{past_mark}
use Rattle.tables.specs.Reads.{at_places}
use Rattle.loops_laws.specs.Numbered.{Seeks, seek_none, seek_loop, seek_found, seek_end}
use Rattle.loops.specs.Counted.{finds_none, finds_some}
use Rattle.loops.proofs.counted_loop.Goals as goal
use Rattle.loops.proofs.counted_loop.Goals.{After-begins, then-begins+else-left-eq0, else-begins}

-- place p, by whether it begins a loop
abbrev starts_by : ℕ → Bool → List ℕ
starts_by p t = cond t (p ∷ []) []

-- place p, which is held, and whether it begins a loop
module _ (c : After-begins) where
  abbrev ps : List Place
  ps = (items_of c.args.c).places

  inside : c.loop-p.p < length ps
  inside = omega (arith, c.loop-p-test.true, counted c.args.c c.requires kind.Place)

  told : c.begins.result ≡ begins (mark_at ps c.loop-p.p)
  told = c.begins.ensures ∙ ap (λ (q : Place). begins q.mark) (at_places c.requires c.loop-p.p)

  -- it begins loop k
  found : c.begins.result ≡ true → c.loop-p.left ≡ 0 → c.loop-p.p ≡ loop_at ps c.args.k
  found t e = seek_found ps c.args.k c.loop-p.p c.loop-p.left inside (ap (starts_by c.loop-p.p) (sym told ∙ t)) e c.loop-p.invariant

pub returns-in-Counted : goal.returns-in-Counted
returns-in-Counted c =
    let d = (goal.at.returns-in-Counted c).After-begins in
    finds_some c.requires c.args.k (found d c.if-begins.true c.if-left-eq0.true)
    (sym (ap (λ (q : Place). q.mark) (at_places c.requires c.loop-p.p)) ∙ c.in-Counted.is)

pub returns-in-None : goal.returns-in-None
returns-in-None c =
    let d = (goal.at.returns-in-None c).After-begins in
    finds_none (ps d) c.args.k
    (
    ap (λ q. counted_rounds (mark_at (ps d) q)) (sym (found d c.if-begins.true c.if-left-eq0.true))
    ∙ sym (ap (λ (q : Place). counted_rounds q.mark) (at_places c.requires c.loop-p.p))
    ∙ ⊎_elim (λ e. ap counted_rounds e) (λ (l, b, e). ap counted_rounds e) c.in-None.is
    )

pub loop-p-preserved : goal.loop-p-preserved
loop-p-preserved c =
    let d = (goal.at.loop-p-preserved c).After-begins in
    let p = c.loop-p.p in
    elim c.if-begins.branch [
      | then-begins+else-left-eq0 w ↦
          subst (Seeks (ps d) c.args.k (p + 1)) (sym w.left-is)
          (seek_loop (ps d) c.args.k p c.loop-p.left (inside d) (ap (starts_by p) (sym (told d) ∙ w.if-begins.true)) (omega (arith, w.if-left-eq0.false)) c.loop-p.invariant)
      | else-begins w ↦
          subst (Seeks (ps d) c.args.k (p + 1)) (sym w.left-is)
          (seek_none (ps d) c.args.k p c.loop-p.left (inside d) (ap (starts_by p) (sym (told d) ∙ w.if-begins.false)) c.loop-p.invariant)
    ]

pub returns : goal.returns
returns c =
    let x = items_of c.args.c in
    let e : c.loop-p.p ≡ length x.places = omega (arith, counted c.args.c c.requires kind.Place) in
    let d = seek_end x.places c.args.k c.loop-p.p c.loop-p.left (omega (arith, e)) c.loop-p.invariant in
    finds_none x.places c.args.k (ap counted_rounds (past_mark x.places (loop_at x.places c.args.k) (omega (arith, d))))
