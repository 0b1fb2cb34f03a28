-- A line without its blanks is what the law says.
use Rattle.std.proofs.Common.{◌≡◌, ◌∙◌, ◌++◌, ◌∷◌, ◌+◌, ◌-◌, [], ℕ, suc, Bool, true, false, cond, drop, take, length, List, refl, reverse, sym, ap, arith}
use Rattle.std.proofs.Math.Seq.{take-append_seam}
use Rattle.std.proofs.lemmas.List.{length-drop, length-reverse, reverse-append, take-append-drop}
use Rattle.std.specs.List.{prefix_len, suffix_len}
use Rattle.pb_directive.specs.Lines.{is_blank, trimmed_end, trimmed_front}
use Rattle.pb_command_laws.specs.Texts.{LinesAreTrimmed}

front_is : (bytes : List ℕ) → trimmed_front bytes ≡ drop (prefix_len is_blank bytes) bytes
front_is [] = refl
front_is (b ∷ bytes) = by (is_blank b) (front_is bytes)
  where
    by : (blank : Bool) → trimmed_front bytes ≡ drop (prefix_len is_blank bytes) bytes → cond blank (trimmed_front bytes) (b ∷ bytes) ≡ drop (cond blank (1 + prefix_len is_blank bytes) 0) (b ∷ bytes)
    by true rest = let one : 1 + prefix_len is_blank bytes ≡ suc (prefix_len is_blank bytes) = omega arith in rest ∙ ap (λ n. drop n (b ∷ bytes)) (sym one)
    by false rest = refl

back_again : (xs : List ℕ) → reverse (reverse xs) ≡ xs
back_again [] = refl
back_again (x ∷ xs) = ap reverse (reverse-append (x ∷ []) xs) ∙ reverse-append (reverse xs) (x ∷ []) ∙ ap (λ ys. x ∷ ys) (back_again xs)

end_is : (k : ℕ) (y : List ℕ) → reverse (drop k y) ≡ take (length y - k) (reverse y)
end_is k y =
    let long : length (reverse (drop k y)) ≡ length y - k = length-reverse (drop k y) ∙ length-drop k y in
    let whole : reverse y ≡ reverse (drop k y) ++ reverse (take k y) = ap reverse (sym (take-append-drop k y)) ∙ reverse-append (take k y) (drop k y) in
    sym (take-append_seam (reverse (drop k y)) (reverse (take k y))) ∙ (λ i. take (long i) (sym whole i))

pub lines_are_trimmed : LinesAreTrimmed
lines_are_trimmed line =
    let rest = drop (prefix_len is_blank line) line in
    ap trimmed_end (front_is line) ∙ ap reverse (front_is (reverse rest)) ∙ end_is (suffix_len is_blank rest) (reverse rest)
    ∙ (λ i. take (length-reverse rest i - suffix_len is_blank rest) (back_again rest i))
