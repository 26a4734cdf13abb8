-- Lists that are gathered: piece by piece, from pieces of one length, with one piece more. Assumes nothing.
use Rattle.std.specs.Prelude.{◌≡◌, get_or, drop}
use Rattle.std.proofs.Math.Path.{refl, sym, ap, ap₂}
use Rattle.std.proofs.Common.{◌∙◌, add-one, take-suc}
use mathlib.Core.List.{List, [], ◌∷◌, ◌++◌, map, append-nil, append_assoc}
use Prim.Native.Nat.{ℕ, zero, suc, ◌+◌, ◌*◌, ◌<◌}
use native.Mathlib.Omega.{arith}
use Rattle.std.proofs.Math.ListN.{length, take, length-append}
use Rattle.std.proofs.Math.Seq.{take_at, drop-append-add}
use Rattle.laws.specs.All.{All, none, also, gather}

module _ {A B : Type 0} (f : A → List B) where
  pub gather_both : (l m : List A) → gather f (l ++ m) ≡ gather f l ++ gather f m
  unfolding gather
  gather_both [] m = refl
  gather_both (a ∷ l) m = ap (λ k. f a ++ k) (gather_both l m) ∙ sym (append_assoc (f a) (gather f l) (gather f m))

  -- one piece more
  pub gather_more : (l : List A) (k : ℕ) (d : A) → k < length l → gather f (take (k + 1) l) ≡ gather f (take k l) ++ f (get_or l k d)
  unfolding gather
  gather_more l k d h =
      ap (λ n. gather f (take n l)) (add-one k)
      ∙ ap (gather f) (take-suc l k d h)
      ∙ gather_both (take k l) (get_or l k d ∷ [])
      ∙ ap (λ r. gather f (take k l) ++ r) (append-nil (f (get_or l k d)))

  -- pieces of n elements each: how many elements there are, and piece j
  module _ (n : ℕ) where
    pub gather_long : {l : List A} → All (λ a. length (f a) ≡ n) l → length (gather f l) ≡ length l * n
    unfolding gather
    gather_long none = omega arith
    gather_long (also {x = a} {l = l} h t) = omega (arith, length-append (f a) (gather f l), h, gather_long t)

    pub gather_at : {l : List A} → All (λ a. length (f a) ≡ n) l → (j : ℕ) (post : List B) (d : A) → j < length l →
        take n (drop (j * n) (gather f l ++ post)) ≡ f (get_or l j d)
    unfolding gather
    gather_at none j post d h = absurd (omega arith)
    gather_at (also {x = a} {l = l} e t) zero post d h =
        let i : 0 * n ≡ 0 = omega arith in
        ap₂ (λ k r. take n (drop k r)) i (append_assoc (f a) (gather f l) post) ∙ take_at (f a) (gather f l ++ post) n e
    gather_at (also {x = a} {l = l} e t) (suc j) post d h =
        let i : suc j * n ≡ length (f a) + j * n = omega (arith, e) in
        ap₂ (λ k r. take n (drop k r)) i (append_assoc (f a) (gather f l) post)
        ∙ ap (take n) (drop-append-add (f a) (gather f l ++ post) (j * n))
        ∙ gather_at t j post d (omega arith)

  pub gather_none : {l : List A} → All (λ a. f a ≡ []) l → gather f l ≡ []
  unfolding gather
  gather_none none = refl
  gather_none (also e t) = ap₂ ◌++◌ e (gather_none t)

-- the same pieces
pub gather_same : {A B : Type 0} (f g : A → List B) {l : List A} → All (λ a. f a ≡ g a) l → gather f l ≡ gather g l
unfolding gather
gather_same f g none = refl
gather_same f g (also e t) = ap₂ ◌++◌ e (gather_same f g t)

-- what is gathered from what is gathered, or from what is mapped
pub gather_gather : {A B C : Type 0} (g : B → List C) (f : A → List B) (l : List A) → gather g (gather f l) ≡ gather (λ (a : A). gather g (f a)) l
unfolding gather
gather_gather g f [] = refl
gather_gather g f (a ∷ l) = gather_both g (f a) (gather f l) ∙ ap (λ m. gather g (f a) ++ m) (gather_gather g f l)

pub gather_map : {A B C : Type 0} (g : B → List C) (f : A → B) (l : List A) → gather g (map f l) ≡ gather (λ (a : A). g (f a)) l
unfolding gather
gather_map g f [] = refl
gather_map g f (a ∷ l) = ap (λ m. g (f a) ++ m) (gather_map g f l)

-- a longer piece is the last that isn't empty: what it has more stands at the end
pub gather_last : {A B : Type 0} (f g : A → List B) (w : List B) (before : List A) (a : A) (after : List A) →
    All (λ b. f b ≡ g b) before → g a ≡ f a ++ w → All (λ b. f b ≡ []) after → All (λ b. g b ≡ []) after →
    gather g (before ++ (a ∷ after)) ≡ gather f (before ++ (a ∷ after)) ++ w
unfolding gather
gather_last f g w before a after p e q r =
    gather_both g before (a ∷ after)
    ∙ ap₂ (λ x y. x ++ (y ++ gather g after)) (sym (gather_same f g p)) e
    ∙ ap (λ x. gather f before ++ ((f a ++ w) ++ x)) (gather_none g r)
    ∙ ap (λ x. gather f before ++ x) (append-nil (f a ++ w) ∙ ap (λ x. x ++ w) (sym (append-nil (f a)) ∙ ap (λ x. f a ++ x) (sym (gather_none f q))))
    ∙ sym (append_assoc (gather f before) (f a ++ gather f after) w)
    ∙ ap (λ x. x ++ w) (sym (gather_both f before (a ∷ after)))
