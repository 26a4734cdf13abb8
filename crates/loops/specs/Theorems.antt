-- What is proved of the two calls about a loop of a plan: start here. `Plan::span` and `Plan::set` (loops/src/lib.rt) take a case c that is `Sound` (crate collector:
-- the invariant of every case that records make), the number k of a loop and, to set them, n rounds. The first hands back the answer `span_of (items_of c) k`; the second
-- changes the case in its place to that of `set_case c k n`, and hands back its answer: what is proved of it is in loops/proofs/SetTheorems.antt. Assumes nothing.
--
-- To be read with this file: meaning/specs/Spans.antt (loops by number, the least and the greatest rounds, what each answer says) and Rounds.antt (a case with other
-- rounds in one loop), items/specs/File.antt (the file of a case), of loops_laws/specs/File.antt `Respelled`, and of rules_laws/specs/KeptDrifts.antt `KeepsDrifts`.
use Rattle.std.specs.Prelude.{◌≡◌, ◌↔◌, ℕ, ◌+◌, ◌≤◌, ◌<◌, pos, length, Ok}
use Rattle.std.proofs.Common.{arith}
use Rattle.laws.specs.Arithmetic.{le_out, le_in}
use Rattle.table.specs.Sorts.{Rounds}
use Rattle.items.specs.Lists.{Items}
use Rattle.rules.specs.Rules.{InRange, Closed}
use Rattle.collector.specs.declared.Case.{Case}
use Rattle.collector.specs.Cases.{items_of}
use Rattle.collector.specs.Sound.{Sound}
use Rattle.meaning.specs.Judged.{start_of, IsAccepted}
use Rattle.meaning.specs.Spans.{loop_starts, IsCounted, MayHave, AcceptedWith, IsSpan, SpanSays}
use Rattle.verdict.specs.Span.{last_rounds, span_of}
use Rattle.loops_laws.specs.Numbered as numbered
use Rattle.loops_laws.specs.Numbered.{counted_is, counted_held}
use Rattle.loops_laws.specs.Spans as spans
use Rattle.answers.specs.Answers.{Span}

-- the rounds that a loop may have are those that the rounds field of a record may have: one range, here and where records are taken (16)
pub may_have_lem : (n : ℕ) → MayHave n ↔ InRange Rounds (pos n)
may_have_lem n = (
  λ h. (le_in (omega (arith, h.least)), le_in (omega (arith, h.most))),
  λ (l, m). record { least = omega (arith, le_out l); most = omega (arith, le_out m) },
)

module _ (c : Case) (s : Sound c) (k : ℕ) where
  abbrev x : Items
  x = items_of c

  -- ---- loops by number

  -- where the endless loop has closed it is the last one, and each loop before it is counted
  pub all_but_last : Closed (items_of c) → ((p : ℕ) × (n : ℕ) × IsCounted (items_of c).places k p n) ↔ (k + 1 < length (loop_starts (items_of c).places))
  all_but_last o = numbered.all_but_last s o k

  -- ---- the rounds that are accepted

  -- each answer is given exactly where it says so
  pub span_answers : (a : Span) → (span_of (items_of c) k ≡ a) ↔ SpanSays (items_of c) k a
  span_answers = spans.span_answers s k

  module _ {p n : ℕ} (h : IsCounted (items_of c).places k p n) where
    -- of the rounds from 1 to 1,000,000 exactly those from the least to the greatest are accepted
    pub span_exactly : {a b : ℕ} → IsSpan (items_of c) p a b → (m : ℕ) → MayHave m → AcceptedWith (items_of c) p m ↔ ((a ≤ m) × (m ≤ b))
    span_exactly = spans.span_exactly s h

    -- so of an accepted case two numbers are answered, and these are the rounds that are accepted
    pub accepted_span : IsAccepted (items_of c) (start_of (items_of c)) →
        (a : ℕ) × (b : ℕ) × (span_of (items_of c) k ≡ Ok (a, b)) × ((m : ℕ) → MayHave m → AcceptedWith (items_of c) p m ↔ ((a ≤ m) × (m ≤ b)))
    accepted_span g =
        let a = last_rounds x p n 1 in
        let b = last_rounds x p n 1000000 in
        let i = spans.span_found s h g in
        (a, b, (span_answers (Ok (a, b))).1 (g, (p, n, h, i)), span_exactly i)

    -- those that the loop has are among them
    pub own_between : {a b : ℕ} → IsAccepted (items_of c) (start_of (items_of c)) → IsSpan (items_of c) p a b → (a ≤ n) × (n ≤ b)
    own_between = spans.own_between s h
