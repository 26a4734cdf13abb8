-- What is proved of the meaning: start here. In the crate meaning, the run is in Run.antt, truth in Truth.antt, acceptance and each answer in Judged.antt,
-- demand 2 in its own words in Paper.antt, the files that are accepted in Files.antt. `Sound` is the invariant of every case that records make (crate
-- collector). Assumes nothing.
use Rattle.std.specs.Prelude.{◌≡◌, ◌↔◌, ◌⊎◌, List, ◌++◌, true, ℕ, ◌+◌, ◌*◌, ◌≤◌, ◌<◌, ℤ, ◌≤ℤ◌, length, get_or}
use Rattle.std.proofs.Common.{sym, subst, arith}
use Rattle.laws.specs.Sizes.{within_size, size_within, Within}
use Rattle.record.specs.Layout.{record_length}
use Rattle.record.specs.Spell.{IsSpelling}
use Rattle.kinds.specs.declared.Kind.TheVariants as kind
use Rattle.kinds.specs.Kinds.{letter_of}
use Rattle.kinds.specs.Kinds as kinds
use Rattle.counters.specs.Sum.{Valuation, sum}
use Rattle.items.specs.declared.LoopMark.TheVariants as mark
use Rattle.items.specs.declared.Guard.{Guard}
use Rattle.items.specs.declared.Sentence.{Sentence}
use Rattle.items.specs.Lists.{Items, no_item}
use Rattle.answers.specs.Answers.{numbers_of, Judgement}
use Rattle.rules.specs.Rules.{mark_at, Closed}
use Rattle.collector.specs.declared.Case.{Case}
use Rattle.collector.specs.Cases.{items_of}
use Rattle.collector.specs.Sound.{Sound}
use Rattle.meaning.specs.Run.{Moment, here, spot, counters_at, guard_at, Early}
use Rattle.meaning.specs.Truth.{Trace, Says, True}
use Rattle.meaning.specs.Judged.{Finished, IsAccepted, Judged, marked, trace_of, TrueAt, start_of}
use Rattle.meaning.specs.Paper.{Means}
use Rattle.meaning.specs.Files.{FileAccepted, rounds_at}
use Rattle.meaning.specs.Rounds.{with_rounds}
use Rattle.meaning_laws.specs.Facts.{most_start, start_with}
use Rattle.meaning_laws.specs.Given.{facts, starts}
use Rattle.meaning_laws.specs.Answers as answers
use Rattle.meaning_laws.specs.Second as second
use Rattle.meaning_laws.specs.Below.{SaysBelow, says_below, same_says}
use Rattle.meaning_laws.specs.Decided as truth
use Rattle.meaning_laws.specs.Ceilings as ceilings
use Rattle.meaning_laws.specs.Third as third
use Rattle.meaning_laws.specs.FilesBetween as files

-- ---- the answers

-- the meaning leaves one answer
pub one_answer : (x : Items) (θ : Valuation) (a b : Judgement) → Judged x θ a → Judged x θ b → a ≡ b
one_answer = answers.one_answer

-- the result is 0 where the case is accepted; every other answer excludes it
pub zero_accepts : (x : Items) (θ : Valuation) (a : Judgement) → Judged x θ a → ((numbers_of a).result ≡ 0) ↔ IsAccepted x θ
zero_accepts = answers.zero_accepts

-- ---- demand 2 in its own words

-- a case with a sentence and a closed endless loop is accepted exactly where its named moves connect and make a run of the counter system, every sentence
-- at every place is marked as it is at every moment of that place, and the last sentence is true at the start
pub means : (c : Case) → Sound c → Finished (items_of c) → (θ : Valuation) → IsAccepted (items_of c) θ ↔ Means (items_of c) θ
means c s = second.means (items_of c) (facts c s).resolved

-- ---- truth

-- it goes by the form of a sentence, as document 003 defines it: a form speaks of the truth itself of the sentences that it refers to. So `Says` alone is held
-- against 003, and that the definition of truth takes the sentences in the order of their numbers need not be looked at
pub truth_by_form : (c : Case) → Sound c → (θ : Valuation) (i : ℕ) → i < length (items_of c).sentences → (m : Moment) →
    TrueAt (items_of c) θ i m
    ≡ Says (items_of c).guards (trace_of (items_of c) θ) (TrueAt (items_of c) θ) (get_or (items_of c).sentences i (no_item kind.Sentence)).form m
truth_by_form c s θ i h m =
    let x = items_of c in
    same_says x.guards (trace_of x θ) i {H = SaysBelow x θ i} {K = TrueAt x θ} (says_below x θ i) (get_or x.sentences i (no_item kind.Sentence)).form
    ((facts c s).refers i h) m

-- truth is decided at every moment, where the marks of the sentences below are right
pub decided : (c : Case) → Sound c → Closed (items_of c) → (θ : Valuation) (i : ℕ) → i < length (items_of c).sentences →
    ((j : ℕ) → j < i → (m : Moment) → (marked (items_of c) j (here (spot (items_of c).places m)) ≡ true) ↔ TrueAt (items_of c) θ j m) →
    (m : Moment) → TrueAt (items_of c) θ i m ⊎ (TrueAt (items_of c) θ i m → ⊥)
decided c s = truth.decided (items_of c) (facts c s)

-- runs that show the same propositions and counters have the same truth
pub same_truth : (gs : List Guard) (fs : List Sentence) (t u : Trace) →
    ((m : Moment) → t.propositions m ≡ u.propositions m) → ((m : Moment) (j : ℕ) → t.counters m j ≡ u.counters m j) →
    (s : ℕ) (i : Moment) → True gs fs t s i ≡ True gs fs u s i
same_truth = answers.same_truth

-- ---- the ceilings of documents 01 and 02

-- from counters within b: before the end of the endless loop's first round no counter passes 640,000,000,000 + b either way, and no sum of a guard 999 times
-- that for each counter
pub counter_ceiling_from : (c : Case) → Sound c → (θ : Valuation) (b : ℕ) → ((j : ℕ) → Within b (θ j)) →
    (m : Moment) → Early (items_of c).places m → (j : ℕ) → Within (640000000000 + b) (counters_at (items_of c) θ m j)
counter_ceiling_from c s = ceilings.counter_ceiling (items_of c) (facts c s)

pub sum_ceiling_from : (c : Case) → Sound c → (θ : Valuation) (b : ℕ) → ((j : ℕ) → Within b (θ j)) →
    (m : Moment) → Early (items_of c).places m → (g : ℕ) →
    Within (kinds.counters * (999 * (640000000000 + b))) (sum (guard_at (items_of c).guards g).coefficients.at (counters_at (items_of c) θ m))
sum_ceiling_from c s = ceilings.sum_ceiling (items_of c) (facts c s)

-- as each case starts: no counter passes 640,010,000,000 either way, and no sum of a guard 3,000,000,000,000,000
pub counter_ceiling : (c : Case) → Sound c → (m : Moment) → Early (items_of c).places m → (j : ℕ) →
    Within 640010000000 (counters_at (items_of c) (start_of (items_of c)) m j)
counter_ceiling c s = counter_ceiling_from c s (start_of (items_of c)) most_start (starts (facts c s))

pub sum_ceiling : (c : Case) → Sound c → (m : Moment) → Early (items_of c).places m → (g : ℕ) →
    Within 3000000000000000 (sum (guard_at (items_of c).guards g).coefficients.at (counters_at (items_of c) (start_of (items_of c)) m))
sum_ceiling c s m e g =
    let w = sum_ceiling_from c s (start_of (items_of c)) most_start (starts (facts c s)) m e g in
    size_within 3000000000000000 _ (omega (arith, within_size _ _ w))

-- ---- demand 3 of the meaning

-- every number of rounds of one counted loop between two accepted ones is accepted
pub between : (c : Case) → Sound c → (p l n back : ℕ) → p < length (items_of c).places → mark_at (items_of c).places p ≡ mark.Counted l n back →
    (i j k : ℕ) → 1 ≤ i → i ≤ j → j ≤ k → (θ : Valuation) →
    IsAccepted (with_rounds (items_of c) p i) θ → IsAccepted (with_rounds (items_of c) p k) θ → IsAccepted (with_rounds (items_of c) p j) θ
between c s = third.between (items_of c) (facts c s)

-- each from its own start: other rounds leave the starting weights, so these are equal
pub between_own : (c : Case) → Sound c → (p l n back : ℕ) → p < length (items_of c).places → mark_at (items_of c).places p ≡ mark.Counted l n back →
    (i j k : ℕ) → 1 ≤ i → i ≤ j → j ≤ k → let own : ℕ → Type 0 = λ m. IsAccepted (with_rounds (items_of c) p m) (start_of (with_rounds (items_of c) p m)) in
    own i → own k → own j
between_own c s p l n back h e i j k a b d y z =
    let x = items_of c in
    let at : ℕ → Valuation → Type 0 = λ m. IsAccepted (with_rounds x p m) in
    subst (at j) (sym (start_with x p j))
    (between c s p l n back h e i j k a b d (start_of x) (subst (at i) (start_with x p i) y) (subst (at k) (start_with x p k) z))

-- for three files alike in every byte but the seven of the rounds field of one counted loop, which spell a ≤ b ≤ c: if those with a and c are
-- accepted, so is the one with b. The first byte of record i is P, and the field begins `rounds_at` bytes after it
pub file_between : (pre post fa fb fc : List ℕ) (i : ℕ) (a b c : ℤ) →
    length pre ≡ record_length * i + rounds_at → get_or pre (record_length * i) 0 ≡ letter_of kind.Place →
    IsSpelling fa a → IsSpelling fb b → IsSpelling fc c → a ≤ℤ b → b ≤ℤ c →
    FileAccepted (pre ++ (fa ++ post)) → FileAccepted (pre ++ (fc ++ post)) → FileAccepted (pre ++ (fb ++ post))
file_between = files.file_between
