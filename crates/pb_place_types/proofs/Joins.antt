-- Pieces of a file in turn.
use Rattle.std.proofs.Common.{◌≡◌, ◌+◌, ◌<◌, ℕ, List, [], ◌∷◌, ◌++◌, length, take, slice_index_or, sym, ◌∙◌, ap, arith, length-append}
use Rattle.std.specs.Prelude.{min}
use Rattle.std.specs.List.{concat}
use Rattle.std.proofs.lemmas.List.{take_more, append-nil}
use Rattle.std.proofs.lemmas.List.Folds.{concat-append}

abbrev most : ℕ
most = 0xffff_ffff_ffff_ffff

pub concat_more : (pieces : List (List ℕ)) (i : ℕ) (piece : List ℕ) → i < length pieces → piece ≡ slice_index_or pieces i piece → concat (take (i + 1) pieces) ≡ concat (take i pieces) ++ piece
concat_more pieces i piece less is =
    let more : take (i + 1) pieces ≡ take i pieces ++ piece ∷ [] = take_more pieces i piece less ∙ ap (λ x. take i pieces ++ x ∷ []) (sym is) in
    rw (more, concat-append (take i pieces) (piece ∷ [])) (ap (λ t. concat (take i pieces) ++ t) (append-nil piece))

min_twice : (a b : ℕ) → min (min a most + b) most ≡ min (a + b) most
min_twice a b = omega arith

pub length_more : (pieces : List (List ℕ)) (i : ℕ) (piece : List ℕ) (length_so_far : ℕ) → i < length pieces → piece ≡ slice_index_or pieces i piece
    → length_so_far ≡ min (length (concat (take i pieces))) most → min (length_so_far + length piece) most ≡ min (length (concat (take (i + 1) pieces))) most
length_more pieces i piece so_far less is e = rw (e, concat_more pieces i piece less is, length-append (concat (take i pieces)) piece) (min_twice (length (concat (take i pieces))) (length piece))
