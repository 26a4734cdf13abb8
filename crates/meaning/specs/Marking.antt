-- A case with other marks: when they are right, and when no marks can be, since a sentence is true at one moment of a place and false at another.
-- Never what a checker works out.
use Rattle.std.specs.Prelude.{◌≡◌, ◌⊎◌, List, [], ◌∷◌, ℕ, suc, ◌<◌, ◌^◌, length}
use Rattle.laws.specs.All.{All}
use Rattle.counters.specs.Sum.{Valuation}
use Rattle.items.specs.declared.Place.{Place}
use Rattle.items.specs.Lists.{Items, with_places}
use Rattle.meaning.specs.Run.{Moment, here, spot, place_at}
use Rattle.meaning.specs.Judged.{Mark, marks_of, TrueAt, Right}

-- ---- a case with other marks

-- a place with other marks
abbrev pub place_marked : ℕ → Place → Place
place_marked n p = record { state = p.state; way = p.way; marks = n; mark = p.mark }

-- places, the first of which is place s, each with the marks that μ has for it
unfoldable pub marked_from : (ℕ → ℕ) → ℕ → List Place → List Place
marked_from μ s [] = []
marked_from μ s (p ∷ ps) = place_marked (μ s) p ∷ marked_from μ (suc s) ps

-- the case with the marks that μ has for each place, and all else the same
abbrev pub with_marks : Items → (ℕ → ℕ) → Items
with_marks x μ = with_places x (marked_from μ 0 x.places)

-- ---- right marks

-- the marks of a case are right: every sentence at every place is marked as it is at every moment of that place, and no bit is set at or above the number of
-- sentences
pub record RightMarks (x : Items) (θ : Valuation) : Type 0 where
  pub right : All (Right x θ) (marks_of x)
  pub within : (p : ℕ) → p < length x.places → (place_at x.places p).marks < 2 ^ length x.sentences

-- ---- a sentence that no mark is right for

-- a sentence is true at one moment of a place and false at another
pub record Varies (x : Items) (θ : Valuation) (k : Mark) : Type 0 where
  pub one : Moment
  pub one_there : here (spot x.places one) ≡ k.place
  pub true_then : TrueAt x θ k.sentence one
  pub other : Moment
  pub other_there : here (spot x.places other) ≡ k.place
  pub false_then : TrueAt x θ k.sentence other → ⊥

-- it is true at all moments of the place, or at none
abbrev pub Steady : Items → Valuation → Mark → Type 0
Steady x θ k =
    ((m : Moment) → here (spot x.places m) ≡ k.place → TrueAt x θ k.sentence m)
    ⊎ ((m : Moment) → here (spot x.places m) ≡ k.place → TrueAt x θ k.sentence m → ⊥)

-- the smallest sentence that varies at some place, and the smallest such place
pub record Smallest (x : Items) (θ : Valuation) (k : Mark) : Type 0 where
  pub sentence_there : k.sentence < length x.sentences
  pub place_there : k.place < length x.places
  pub varies : Varies x θ k
  pub none_below : (i p : ℕ) → i < k.sentence → Varies x θ (record { sentence = i; place = p }) → ⊥
  pub none_before : (p : ℕ) → p < k.place → Varies x θ (record { sentence = k.sentence; place = p }) → ⊥
