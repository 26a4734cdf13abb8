-- The kind letter of a record, and its head, case by case. Assumes nothing.
use Rattle.std.specs.Prelude.{◌≡◌, ℕ, ◌-◌, eqb, length, get_or, Err, None, Ok, Some}
use Rattle.std.proofs.Math.Path.{refl}
use Rattle.std.proofs.Common.{◌∙◌, sym, arith}
use mathlib.Core.List.{List, [], ◌∷◌}
use borrow.Author.Tests.{eqb-true, eqb-false}
use Rattle.laws.specs.Tests.{cond_by}
use Rattle.record.specs.Layout.{record_length, line_feed}
use Rattle.kinds.specs.declared.Kind.{Kind}
use Rattle.kinds.specs.Kinds.{letter_of, all_kinds, kind_in, kind_of, Letter}
use Rattle.kinds.specs.Laws.{kind_named}
use Rattle.answers.specs.declared.Refusal.TheVariants.{NotARecord, NoLineFeed, NoSuchKind}
use Rattle.checks.specs.Input.{named_head, ended_head, head_of, Head}
use Rattle.rules.specs.Rules.{IsA}

-- b is the letter of the kind that it is said to name
abbrev Reads : ℕ → Letter → Type 0
Reads b (Some k) = b ≡ letter_of k
Reads b None = Unit {0}

module _ (b : ℕ) where
  unnamed : kind_of b ≡ None → (k : Kind) → b ≡ letter_of k → ⊥
  unnamed e k q =
      let d : Some k ≡ None = sym (kind_named b k q) ∙ e in
      let z : ◌≡◌ {A = ℕ} 0 1 = cc in
      omega arith

  reads : (ks : List Kind) → Reads b (kind_in ks b)
  unfolding kind_in
  reads [] = tt
  reads (k ∷ ks) = cond_by (Reads b) (eqb b (letter_of k)) {x = Some k} {y = kind_in ks b} (eqb-true b (letter_of k)) (λ e. reads ks)

-- what is true of every head that a record may get is true of its own
module _ (bs : List ℕ) (P : Head → Type 0) where
  -- it is as long as a record; it ends with a line feed
  abbrev Whole : Type 0
  Whole = length bs ≡ record_length

  abbrev Ended : Type 0
  Ended = get_or bs (record_length - 1) 0 ≡ line_feed

  by_letter : (l : Letter) → kind_of (get_or bs 0 0) ≡ l → Reads (get_or bs 0 0) l →
      (((k : Kind) → IsA k bs → ⊥) → P (Err NoSuchKind)) → ((k : Kind) → IsA k bs → P (Ok k)) → P (named_head l)
  by_letter (Some k) e r none some = some k r
  by_letter None e r none some = none (unnamed (get_or bs 0 0) e)

  pub by_head : ((Whole → ⊥) → P (Err NotARecord)) →
      (Whole → (Ended → ⊥) → P (Err NoLineFeed)) →
      (Whole → Ended → ((k : Kind) → IsA k bs → ⊥) → P (Err NoSuchKind)) →
      (Whole → Ended → (k : Kind) → IsA k bs → P (Ok k)) → P (head_of bs)
  unfolding head_of ended_head
  by_head short unended none some =
      cond_by P (eqb (length bs) record_length) {x = ended_head bs} {y = Err NotARecord}
      (λ e.
      let w = eqb-true (length bs) record_length e in
      cond_by P (eqb (get_or bs (record_length - 1) 0) line_feed) {x = named_head (kind_of (get_or bs 0 0))} {y = Err NoLineFeed}
      (λ f.
      let d = eqb-true (get_or bs (record_length - 1) 0) line_feed f in
      by_letter (kind_of (get_or bs 0 0)) refl (reads (get_or bs 0 0) all_kinds) (none w d) (some w d))
      (λ f. unended w (eqb-false _ line_feed f)))
      (λ e. short (eqb-false _ record_length e))
