-- The case is judged, the loop looked up, and each end searched for. Assumes nothing.
use Rattle.std.specs.Prelude.{Ok, Err}
use Rattle.std.proofs.lemmas.Result.{err_from_is_err_and}
use mathlib.Core.Path.{◌≡◌, sym, ◌∙◌, ap, ap₂}
use Prim.Native.Nat.{ℕ, ◌<◌}
use lib.Dec.{lit≤}
use lib.ListN.{length}
use Rattle.items.specs.Lists.{Items}
use Rattle.rules.specs.Rules.{mark_at}
use Rattle.meaning.specs.Spans.{MayHave}
use Rattle.verdict.specs.Span.{loop_at, counted_rounds, last_rounds}
use Rattle.collector.specs.Cases.{items_of}
use Rattle.loops_laws.specs.Numbered.{counted_held, counted_rounds_lem}
use Rattle.loops.specs.Counted.{Found, found_none, found_some}
use Rattle.loops.specs.Stages.{span_refused, span_none, span_between}
use Rattle.loops.proofs.Plan.span.Goals as goal
use Rattle.loops.proofs.Plan.span.Goals.{In-Some}

pub returns-in_err-judge : goal.returns-in_err-judge
returns-in_err-judge c =
    let p = err_from_is_err_and c.from_residual.result c.from_residual.ensures.1 in
    p.1 ∙ ap Err p.2 ∙ sym (span_refused (items_of c.args.self.case) c.args.k c.in_err-judge.ensures)

pub returns-in_default : goal.returns-in_default
returns-in_default c =
    let x = items_of c.args.self.case in
    sym (span_none x c.args.k (sym c.in_ok-judge.ensures) (found_none x c.args.k c.in_default.ensures))

-- it is counted
module _ (c : In-Some) where
  abbrev x : Items
  x = items_of c.args.self.case

  found : Found x c.args.k c.in-Some.p c.in-Some.n
  found = found_some x c.args.k c.in-Some.ensures

  inside : c.in-Some.p < length x.places
  inside = counted_held x.places c.args.k found.counted

  may : MayHave c.in-Some.n
  may = counted_rounds_lem c.requires found.counted

  same : (limit : ℕ) → last_rounds x c.in-Some.p c.in-Some.n limit ≡ (let p = loop_at x.places c.args.k in last_rounds x p (counted_rounds (mark_at x.places p)) limit)
  same limit = ap₂ (λ q n. last_rounds x q n limit) found.place found.rounds

pub last_rounds-requires : goal.last_rounds-requires
last_rounds-requires c = (c.requires, inside c, may c, record { least = lit≤ tt; most = lit≤ tt })

pub last_rounds-requires-2 : goal.last_rounds-requires-2
last_rounds-requires-2 c =
    let s = (goal.at.last_rounds-requires-2 c).In-Some in
    (c.requires, inside s, may s, record { least = lit≤ tt; most = lit≤ tt })

pub returns : goal.returns
returns c =
    let s = (goal.at.returns c).In-Some in
    ap₂ (λ n m. Ok (n, m)) (c.last_rounds.ensures ∙ same s 1) (c.last_rounds-2.ensures ∙ same s 1000000)
    ∙ sym (span_between (x s) c.args.k (sym c.in_ok-judge.ensures) (found s).some)
