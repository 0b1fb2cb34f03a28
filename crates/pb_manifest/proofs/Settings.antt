-- The keys of a profile are read one after another.
use Rattle.std.proofs.Common.{◌≡◌, ◌<◌, ◌≤◌, ◌+◌, ℕ, suc, List, [], ◌∷◌, ◌++◌, length, take, drop, set, slice_get, take-suc-set, drop-cons, drop_of_length-le, add-one, Option, Some, None, Ok, Err, refl, sym, ap, arith, ◌∙◌}
use Rattle.std.proofs.lemmas.List.{append_assoc, append-nil, take_all}
use Rattle.std.proofs.lemmas.Option.{slice_get_within, get_or_from_slice_get}
use Rattle.toml.specs.Data.{Members}
use Rattle.pb_data.specs.UnlessOom.{◌>>=◌}
use Rattle.pb_profile_keys.specs.Keys.{Said}
use Rattle.pb_profile_keys.specs.declared.key.ProfileKey.{ProfileKey}
use Rattle.pb_profile_keys.specs.declared.setting.Setting.{Setting}
use Rattle.pb_manifest_types.specs.Values.{Read}
use Rattle.pb_manifest_types.specs.declared.fault.ManifestFault.{ManifestFault}
use Rattle.pb_manifest_types.specs.declared.key.Key.TheVariants as key
use Rattle.pb_manifest.specs.Profiles.{setting_in, settings_at, profile_value}

-- values that were read, and then the rest
abbrev pub behind : Said → Read Said → Read Said
behind so_far rest = rest >>= (λ values. Ok (so_far ++ values))

pub none_yet : (rest : Read Said) → rest ≡ behind [] rest
none_yet (Ok values) = refl
none_yet (Err e) = refl

dropped : (ks : List ProfileKey) (i : ℕ) (k : ProfileKey) → slice_get ks i ≡ Some k → drop i ks ≡ k ∷ drop (i + 1) ks
dropped ks i k e =
    let lt : i < length ks = slice_get_within ks i k e in
    let g = get_or_from_slice_get ks i k k e in
    rw (add-one, drop-cons ks i k, g) refl

one_more : (so_far : Said) (value : Option Setting) (rest : Read Said) → behind so_far (rest >>= (λ values. Ok (value ∷ values))) ≡ behind (so_far ++ value ∷ []) rest
one_more so_far value (Ok values) = ap (λ vs. Ok vs) (sym (append_assoc so_far (value ∷ []) values))
one_more so_far value (Err e) = refl

module _ (ks : List ProfileKey) (ms : Members) (i : ℕ) (k : ProfileKey) (at : slice_get ks i ≡ Some k) (values : Said) where
  pub read_on : (value : Option Setting) → i < length values → profile_value (setting_in k) (key.OfProfile k) ms ≡ Ok value
      → behind (take i values) (settings_at (drop i ks) ms) ≡ behind (take (i + 1) (set values i value)) (settings_at (drop (i + 1) ks) ms)
  read_on value lt was =
      rw (dropped ks i k at, was)
      (one_more (take i values) value (settings_at (drop (i + 1) ks) ms)
      ∙ ap (λ vs. behind vs (settings_at (drop (i + 1) ks) ms)) (sym (taken lt)))
    where
      taken : i < length values → take (i + 1) (set values i value) ≡ take i values ++ value ∷ []
      taken lt = rw add-one (take-suc-set values i value lt)

  pub read_badly : (fault : ManifestFault) → profile_value (setting_in k) (key.OfProfile k) ms ≡ Err fault → behind (take i values) (settings_at (drop i ks) ms) ≡ Err fault
  read_badly fault was = rw (dropped ks i k at, was) refl

-- all keys are read
pub all_read : (ks : List ProfileKey) (ms : Members) (i : ℕ) (values : Said) → length values ≡ length ks → i ≡ length ks → settings_at ks ms ≡ behind (take i values) (settings_at (drop i ks) ms) → Ok values ≡ settings_at ks ms
all_read ks ms i values same end so_far =
    let all : length values ≤ i = omega arith in
    let gone : length ks ≤ i = omega arith in
    sym (so_far ∙ ap (λ rest. behind (take i values) (settings_at rest ms)) (drop_of_length-le ks gone) ∙ ap (λ vs. Ok vs) (append-nil (take i values) ∙ take_all i values all))
