-- What is proved of a loop cut in two: start here. The cut case is defined in meaning/specs/Cut.antt, acceptance in meaning/specs (Judged.antt, Files.antt), the file
-- of a case in items/specs/File.antt, and what the checker answers in casefile/specs (Answer.antt, Demands.antt). It speaks of acceptance only: places after the cut
-- have other numbers. Assumes nothing.
use Rattle.std.specs.Prelude.{◌≡◌, ◌↔◌, List, ℕ, ◌≤◌, ◌<◌}
use Rattle.std.proofs.Common.{sym, ap, subst, arith}
use Rattle.std.proofs.Math.Logic.Iff
use Rattle.record.specs.Layout.{cut}
use Rattle.kinds.specs.declared.Kind.TheVariants as kind
use Rattle.counters.specs.Sum.{Valuation}
use Rattle.items.specs.Lists.{Items}
use Rattle.items.specs.File.{file_of}
use Rattle.answers.specs.Answers.{numbers_of}
use Rattle.rules.specs.Rules.{Closed}
use Rattle.rules.specs.Files.{spelled, AllTaken}
use Rattle.collector.specs.declared.Case.{Case}
use Rattle.collector.specs.Cases.{empty_case, case_of, items_of}
use Rattle.collector.specs.Taking.{collected_of}
use Rattle.collector.specs.Sound.{Sound}
use Rattle.rules_laws.specs.Held.{items_of_lem, counted}
use Rattle.rules_laws.specs.Theorems.{sound, file_spells}
use Rattle.meaning.specs.Run.{stretch}
use Rattle.meaning.specs.Judged.{start_of, IsAccepted}
use Rattle.meaning.specs.Files.{FileAccepted}
use Rattle.meaning.specs.Spans.{IsCounted}
use Rattle.meaning.specs.Cut.{cut_at, MayCut, Fits}
use Rattle.meaning_laws.specs.Given.{facts}
use Rattle.meaning_laws.specs.Stays.{ends_in}
use Rattle.verdict.specs.Verdict.{verdict}
use Rattle.verdict_laws.specs.Theorems.{accepts}
use Rattle.loops_laws.specs.Numbered.{counted_held}
use Rattle.casefile.specs.Taken.{case_is}
use Rattle.casefile.specs.Demands.{Accepts, checker_accepts}
use Rattle.cut.specs.Held as held

-- ---- cases

-- a case with a counted loop cut in two is accepted exactly where the case is, from any start
pub cut_in_two : (c : Case) → Sound c → (p m : ℕ) → MayCut (items_of c).places p m → (θ : Valuation) → IsAccepted (items_of c) θ ↔ IsAccepted (cut_at (items_of c) p m) θ
cut_in_two c s p m h = held.cut_accepted s h

-- where the endless loop has closed, every counted loop may be cut, after each of its rounds but the last
pub may_cut : (c : Case) → Sound c → Closed (items_of c) → (k p n m : ℕ) → IsCounted (items_of c).places k p n → 1 ≤ m → m < n → MayCut (items_of c).places p m
may_cut c s v k p n m i one more =
    let e = ends_in (items_of c) (facts c s).resolved.laid v p (counted_held (items_of c).places k i) in
    record { places = i.places; rounds = n; back = i.back; is = i.is; whole = omega (arith, ap stretch i.is); least = one; more = more }

-- and records make the cut case exactly where it has no more than 64 places: nothing else can go wrong
pub cut_sound : (c : Case) → Sound c → Closed (items_of c) → (p m : ℕ) → MayCut (items_of c).places p m →
    Fits (cut_at (items_of c) p m) ↔ ((d : Case) × Sound d × (items_of d ≡ cut_at (items_of c) p m))
cut_sound c s v p m h =
    let y = cut_at (items_of c) p m in (
      λ f. (case_of y, held.cut_sound s h v f, items_of_lem y),
      λ (d, w, e). subst Fits e (omega (arith, counted d w kind.Place, w.room kind.Place)),
    )

-- `judge` answers `verdict` of a case's items and their start: its result is 0
abbrev pub JudgedZero : Case → Type 0
JudgedZero c = (numbers_of (verdict (items_of c) (start_of (items_of c)))).result ≡ 0

-- so it accepts of two cases, the second of which is the first with a loop cut, both or none
pub judge_in_two : (c d : Case) → Sound c → Sound d → (p m : ℕ) → MayCut (items_of c).places p m → items_of d ≡ cut_at (items_of c) p m → JudgedZero c ↔ JudgedZero d
unfolding start_of
judge_in_two c d s g p m h e =
    let own : Items → Type 0 = λ x. IsAccepted x (start_of x) in
    let same = subst (λ y. own (items_of c) ↔ own y) (sym e) (cut_in_two c s p m h (start_of (items_of c))) in
    Iff.trans (accepts c s (start_of (items_of c))) (Iff.trans same (Iff.symm (accepts d g (start_of (items_of d)))))

-- ---- files

-- what is so of every case that records make is so of that which a file spells whose records are all taken
by_case : (P : Items → Type 0) → ((c : Case) → Sound c → P (items_of c)) → (bs : List ℕ) → AllTaken (cut bs) → P (spelled bs)
by_case P f bs t = subst P (case_is bs t) (f (collected_of empty_case bs).case (sound bs))

-- the file of the cut case spells it
pub cut_spelled : (bs : List ℕ) → AllTaken (cut bs) → (p m : ℕ) → MayCut (spelled bs).places p m → spelled (file_of (cut_at (spelled bs) p m)) ≡ cut_at (spelled bs) p m
cut_spelled bs t p m = by_case (λ x. MayCut x.places p m → spelled (file_of (cut_at x p m)) ≡ cut_at x p m) (λ c s. held.cut_spelled s) bs t

-- where the endless loop has closed, all records of that file are taken exactly where there is room for its places
pub cut_taken : (bs : List ℕ) → AllTaken (cut bs) → Closed (spelled bs) → (p m : ℕ) → MayCut (spelled bs).places p m →
    AllTaken (cut (file_of (cut_at (spelled bs) p m))) ↔ Fits (cut_at (spelled bs) p m)
cut_taken bs t v p m h = (
  λ a. subst Fits (cut_spelled bs t p m h) (by_case Fits (λ c s. omega (arith, counted c s kind.Place, s.room kind.Place)) (file_of (cut_at (spelled bs) p m)) a),
  by_case (λ x. Closed x → MayCut x.places p m → Fits (cut_at x p m) → AllTaken (cut (file_of (cut_at x p m))))
      (λ c s v h f. let (d, g, e) = (cut_sound c s v p m h).0 f in subst (λ (y : Items). AllTaken (cut (file_of y))) e (file_spells d g).0) bs t v h,
)

-- where there is, the checker accepts the file of the cut case exactly where it accepts the file
pub checker_in_two : (bs : List ℕ) → AllTaken (cut bs) → (p m : ℕ) → MayCut (spelled bs).places p m → Fits (cut_at (spelled bs) p m) →
    Accepts bs ↔ Accepts (file_of (cut_at (spelled bs) p m))
unfolding start_of
checker_in_two bs t p m h f =
    Iff.trans (checker_accepts bs) (Iff.trans both (Iff.symm (checker_accepts (file_of (cut_at (spelled bs) p m)))))
  where
    θ : Valuation
    θ = start_of (spelled bs)

    same : IsAccepted (spelled bs) θ ↔ IsAccepted (cut_at (spelled bs) p m) θ
    same = by_case (λ x. MayCut x.places p m → IsAccepted x θ ↔ IsAccepted (cut_at x p m) θ) (λ c s h. cut_in_two c s p m h θ) bs t h

    -- from its own start
    Own : Items → Type 0
    Own x = IsAccepted x (start_of x)

    both : FileAccepted bs ↔ FileAccepted (file_of (cut_at (spelled bs) p m))
    both = (
      λ g. record { taken = (cut_taken bs t g.case.0.0.0.0.0.1 p m h).1 f; case = subst Own (sym (cut_spelled bs t p m h)) (same.0 g.case) },
      λ g. record { taken = t; case = same.1 (subst Own (cut_spelled bs t p m h) g.case) },
    )
