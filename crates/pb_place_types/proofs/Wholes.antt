-- Bytes that a sink takes part by part.
use Rattle.std.proofs.Common.{◌≡◌, ◌∙◌, ◌++◌, ℕ, List, [], Option, ap, sym, subst, refl, take, drop, length, append_assoc, append-nil, take-append-drop, arith, ◌∷◌, ◌-◌, ◌+◌, ◌<◌, length-append, Some, None}
use Rattle.std.proofs.lemmas.Grind.{common_steps}
use Rattle.std.specs.Io.KnownBytes.{Appends, Keeps}
use Rattle.std.proofs.Math.Seq.{take-append_seam}
use Rattle.std.proofs.KnownBytes.{Appends-trans, Appends-nil}
use Rattle.pb_place_types.specs.Sinks.{TakesPart}

-- the sink has taken what stands before the rest
pub record Told (old new : Option (List ℕ)) (bytes rest : List ℕ) : Type 0 where
  pub done : List ℕ
  pub parts : bytes ≡ done ++ rest
  pub taken : Appends old new done

pub told_none : (old : Option (List ℕ)) (bytes : List ℕ) → Told old old bytes bytes
told_none old bytes = record { done = []; parts = refl; taken = Appends-nil old }

pub told_more : (old mid new : Option (List ℕ)) (bytes rest : List ℕ) (n : ℕ) → Told old mid bytes rest → Appends mid new (take n rest) → Told old new bytes (drop n rest)
told_more old mid new bytes rest n told more = record {
  done = told.done ++ take n rest;
  parts = told.parts ∙ ap (λ r. told.done ++ r) (sym (take-append-drop n rest)) ∙ sym (append_assoc told.done (take n rest) (drop n rest));
  taken = Appends-trans old mid new told.done (take n rest) told.taken more;
}

no_length : (rest : List ℕ) → length rest ≡ 0 → rest ≡ []
no_length [] e = refl
no_length (x ∷ rest) e = absurd (omega arith)

pub told_all : (old new : Option (List ℕ)) (bytes rest : List ℕ) → Told old new bytes rest → length rest ≡ 0 → Appends old new bytes
told_all old new bytes rest told end = subst (Appends old new) (sym (told.parts ∙ ap (λ r. told.done ++ r) (no_length rest end) ∙ append-nil told.done)) told.taken

-- the rest as the code has it: what is left of the slice
pub told_rest : (old mid new : Option (List ℕ)) (bytes rest : List ℕ) (n : ℕ) → Told old mid bytes rest → Appends mid new (take n rest) → Told old new bytes (take (length rest - n) (drop n rest))
told_rest old mid new bytes rest n told more =
    let whole : take (length rest - n) (drop n rest) ≡ drop n rest = grind (arith, common_steps) in
    subst (Told old new bytes) (sym whole) (told_more old mid new bytes rest n told more)

-- a sink that took nothing
pub took_none : (old new : Option (List ℕ)) → Keeps old new → Appends old new []
took_none None new kept = tt
took_none (Some xs) None kept = kept
took_none (Some xs) (Some ys) kept = kept ∙ sym (append-nil xs)

pub ruleset took_laws = (took_none)

-- a sink that failed at the rest, of which there is some, took the first of the bytes
pub told_some : (old mid new : Option (List ℕ)) (bytes rest : List ℕ) → Told old mid bytes rest → 0 < length rest → Appends mid new [] → TakesPart bytes old new
told_some old mid new bytes rest told some none =
    let first : take (length told.done) bytes ≡ told.done = ap (take (length told.done)) told.parts ∙ take-append_seam told.done rest in
    let whole : length bytes ≡ length told.done + length rest = ap length told.parts ∙ length-append told.done rest in
    (length told.done, omega (arith, whole, some), subst (Appends old new) (append-nil told.done ∙ sym first) (Appends-trans old mid new told.done [] told.taken none))
