-- The loops of a plan by their numbers, with how many rounds of one of them a case is accepted, and what each answer about them says (document 02, item 7).
-- Never what a checker works out.
use Rattle.std.specs.Prelude.{◌≡◌, List, [], ◌∷◌, Bool, true, false, cond, ℕ, ◌+◌, ◌-◌, ◌≤◌, ◌<◌, length, get_or, Err, Ok}
use Rattle.laws.specs.All.{from, gather}
use Rattle.items.specs.declared.LoopMark.{LoopMark}
use Rattle.items.specs.declared.LoopMark.TheVariants as mark
use Rattle.items.specs.declared.Place.{Place}
use Rattle.items.specs.Lists.{Items}
use Rattle.answers.specs.declared.NotSet.TheVariants as not_set
use Rattle.answers.specs.declared.NoSpan.TheVariants as no_span
use Rattle.rules.specs.Rules.{mark_at}
use Rattle.rules.specs.Files.{item_count}
use Rattle.meaning.specs.Judged.{start_of, Finished, IsAccepted, Judged}
use Rattle.meaning.specs.Rounds.{with_rounds}
use Rattle.answers.specs.Answers.{Setting, Span}

-- ---- loops by number

-- whether a place with this loop mark begins a loop
abbrev pub begins : LoopMark → Bool
begins mark.None = false
begins (mark.Counted l n b) = true
begins (mark.Endless l b) = true

-- place p, where it begins a loop
abbrev pub start_if : ℕ → LoopMark → List ℕ
start_if p m = cond (begins m) (p ∷ []) []

-- the first places of the loops of a plan, in plan order: loop k begins with number k of them, counted from 0
abbrev pub loop_starts : List Place → List ℕ
loop_starts ps = gather (λ p. start_if p (mark_at ps p)) (from 0 (length ps))

-- loop k is counted: it begins with place p and has n rounds
pub record IsCounted (ps : List Place) (k p n : ℕ) : Type 0 where
  pub there : k < length (loop_starts ps)
  pub first : get_or (loop_starts ps) k 0 ≡ p
  pub places : ℕ
  pub back : ℕ
  pub is : mark_at ps p ≡ mark.Counted places n back

-- ---- the rounds that are accepted

-- a loop may have n rounds: from 1 to 1,000,000
pub record MayHave (n : ℕ) : Type 0 where
  pub least : 1 ≤ n
  pub most : n ≤ 1000000

-- the case is accepted with n rounds in the loop that place p begins, and all else the same
abbrev pub AcceptedWith : Items → ℕ → ℕ → Type 0
AcceptedWith x p n = IsAccepted (with_rounds x p n) (start_of (with_rounds x p n))

-- a is the least and b the greatest number of rounds that the loop may have and the case is accepted with: both are such, and none beyond either is
pub record IsSpan (x : Items) (p a b : ℕ) : Type 0 where
  pub least_may : MayHave a
  pub least : AcceptedWith x p a
  pub none_below : (n : ℕ) → MayHave n → n < a → AcceptedWith x p n → ⊥
  pub greatest_may : MayHave b
  pub greatest : AcceptedWith x p b
  pub none_above : (n : ℕ) → MayHave n → b < n → AcceptedWith x p n → ⊥

-- what each answer for loop k says: the judgement's own where the case isn't accepted; it is, and loop k is absent or endless; or loop k is counted, and a and b
-- are its least and its greatest rounds
abbrev pub SpanSays : Items → ℕ → Span → Type 0
SpanSays x k (Err (no_span.Refused a)) = (IsAccepted x (start_of x) → ⊥) × Judged x (start_of x) (Err a)
SpanSays x k (Err (no_span.NoLoop j)) = (j ≡ k) × IsAccepted x (start_of x) × ((p n : ℕ) → IsCounted x.places k p n → ⊥)
SpanSays x k (Ok (a, b)) = IsAccepted x (start_of x) × ((p : ℕ) × (n : ℕ) × IsCounted x.places k p n × IsSpan x p a b)

-- ---- setting rounds

-- the number of the record of place p in a file of the case: places come last
abbrev pub place_record : Items → ℕ → ℕ
place_record x p = item_count x - length x.places + p

-- what each answer to setting n rounds in loop k says: the case isn't finished; it is, and loop k is absent or endless; loop k is counted, and may not have so
-- many rounds; or it may
abbrev pub SettingSays : Items → ℕ → ℕ → Setting → Type 0
SettingSays x k n (Err (not_set.Unfinished m)) = (Finished x → ⊥) × (m ≡ item_count x)
SettingSays x k n (Err (not_set.NoLoop j)) = (j ≡ k) × Finished x × ((p m : ℕ) → IsCounted x.places k p m → ⊥)
SettingSays x k n (Err (not_set.OutOfRange r)) = Finished x × (MayHave n → ⊥) × ((p : ℕ) × (m : ℕ) × IsCounted x.places k p m × (r ≡ place_record x p))
SettingSays x k n (Ok tt) = Finished x × MayHave n × ((p : ℕ) × (m : ℕ) × IsCounted x.places k p m)
