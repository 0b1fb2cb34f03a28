-- Values at locations, along a line and along the keys.
use Rattle.std.proofs.Common.{◌≡◌, ℕ, ◌+◌, ◌<◌, ◌≤◌, List, [], ◌∷◌, ◌++◌, length, take, set, slice_get, Option, Some, None, refl, sym, ◌∙◌, ap, map, arith}
use Rattle.std.specs.List.{list_all}
use Rattle.std.specs.Option.{option_or}
use Rattle.std.proofs.lemmas.List.{take_all, take_more, take_more_set, map-append}
use Rattle.std.proofs.lemmas.List.Folds.{list_all-map}
use Rattle.std.proofs.lemmas.Option.{slice_get_within, get_or_from_slice_get}
use Rattle.pb_profile.specs.declared.line.Ancestor.{Ancestor}
use Rattle.pb_profile.specs.Line.{seen, allows}

pub or_none : {A : Type 0} (a : Option A) → option_or a None ≡ a
or_none None = refl
or_none (Some x) = refl

-- a test of each profile of a line, as contracts see them
pub each_seen : (line : List Ancestor) → list_all allows (map seen line) ≡ list_all (λ a. allows (seen a)) line
each_seen line = list_all-map allows seen line

module _ {A B : Type 0} (f : A → B) (xs : List A) (ys : List B) (i : ℕ) where
  -- one item more has its value
  pub mapped_on : (x : A) (y : B) → slice_get xs i ≡ Some x → i < length ys → y ≡ f x → take i ys ≡ map f (take i xs) → take (i + 1) (set ys i y) ≡ map f (take (i + 1) xs)
  mapped_on x y at lt is so_far =
      take_more_set ys i y lt
      ∙ ap (λ zs. zs ++ y ∷ []) so_far
      ∙ ap (λ z. map f (take i xs) ++ z ∷ []) is
      ∙ sym (rw (take_more xs i x (slice_get_within xs i x at), map-append, get_or_from_slice_get xs i x x at) refl)

  -- each item has its value
  pub all_mapped : length ys ≡ length xs → i ≡ length xs → take i ys ≡ map f (take i xs) → ys ≡ map f xs
  all_mapped same end so_far =
      let all : length ys ≤ i = omega arith in
      let also : length xs ≤ i = omega arith in
      sym (take_all i ys all) ∙ so_far ∙ ap (map f) (take_all i xs also)
