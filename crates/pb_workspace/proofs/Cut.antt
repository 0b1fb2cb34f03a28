-- A manifest is read as its first bytes are, one more than a manifest may have.
use Rattle.std.proofs.Common.{◌≡◌, ◌∙◌, ◌<◌, ◌≤◌, ℕ, zero, suc, Bool, true, false, cond, List, [], ◌∷◌, length, take, nat_lt, Option, Some, None, Err, ap, refl, arith}
use Rattle.std.proofs.lemmas.Bool.Decides.{nat_tests}
use Rattle.std.specs.Option.{option_map}
use Rattle.pb_data.specs.Limits.{max_manifest_bytes}
use Rattle.pb_data.specs.UnlessOom.{◌>>=◌, lifted}
use Rattle.pb_manifest_types.specs.declared.fault.ManifestFault.TheVariants.{TooLarge}
use Rattle.pb_workspace_types.specs.declared.fault.LoadFault.TheVariants.{Manifest}
use Rattle.pb_manifest.specs.Document.{document_in, document_of, manifest_of}
use Rattle.pb_workspace.specs.Rounds.{read_found}

less : (m n : ℕ) → nat_lt m n ≡ true → m < n
less m n h = grind (arith, nat_tests)

not_less : (m n : ℕ) → nat_lt m n ≡ false → n ≤ m
not_less m n h = grind (arith, nat_tests)

is_less : (m n : ℕ) → m < n → nat_lt m n ≡ true
is_less m n h = grind (arith, nat_tests)

-- at most n bytes are their own first n + 1
whole : (n : ℕ) (bytes : List ℕ) → length bytes ≤ n → take (suc n) bytes ≡ bytes
whole n [] few = refl
whole zero (b ∷ bytes) few = absurd (omega (arith, few))
whole (suc n) (b ∷ bytes) few = ap (λ rest. b ∷ rest) (whole n bytes (omega (arith, few)))

-- more than n bytes have first n + 1 that are more than n
longer : (n : ℕ) (bytes : List ℕ) → n < length bytes → n < length (take (suc n) bytes)
longer n [] many = many
longer zero (b ∷ bytes) many = omega arith
longer (suc n) (b ∷ bytes) many = let rest = longer n bytes (omega (arith, many)) in omega (arith, rest)

module _ {A : Type 0} (n : ℕ) (large : A) (read : List ℕ → A) where
  read_cut : (bytes : List ℕ) → cond (nat_lt n (length (take (suc n) bytes))) large (read (take (suc n) bytes)) ≡ cond (nat_lt n (length bytes)) large (read bytes)
  read_cut bytes = by (nat_lt n (length bytes)) refl
    where
      by : (b : Bool) → nat_lt n (length bytes) ≡ b → cond (nat_lt n (length (take (suc n) bytes))) large (read (take (suc n) bytes)) ≡ cond b large (read bytes)
      by true over = ap (λ b. cond b large (read (take (suc n) bytes))) (is_less n (length (take (suc n) bytes)) (longer n bytes (less n (length bytes) over)))
      by false fits =
          let same = whole n bytes (not_less n (length bytes) fits) in
          ap (λ text. cond (nat_lt n (length text)) large (read text)) same ∙ ap (λ b. cond b large (read bytes)) fits

manifest_cut : (bytes : List ℕ) → manifest_of (take (suc max_manifest_bytes) bytes) ≡ manifest_of bytes
manifest_cut bytes = read_cut max_manifest_bytes (Err TooLarge) (λ text. document_in text >>= document_of) bytes

pub found_cut : (path : List ℕ) (found : Option (List ℕ)) → read_found path (option_map (take (suc max_manifest_bytes)) found) ≡ read_found path found
found_cut path None = refl
found_cut path (Some bytes) = ap (lifted (Manifest path)) (manifest_cut bytes)

pub ruleset cut_laws = (found_cut)
