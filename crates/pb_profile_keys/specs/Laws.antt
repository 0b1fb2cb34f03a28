-- Laws: each key has one index, and one position among the compiler's options.
use Rattle.std.specs.Prelude.{◌≡◌, ◌==◌, Some, count_by, slice_get}
use Rattle.pb_profile_keys.specs.Table.{keys, index, told}
use Rattle.pb_profile_keys.specs.declared.key.ProfileKey.{ProfileKey}

-- in the list of all keys, each key is at its index
abbrev pub KeysAreAtTheirIndex : Type 0
KeysAreAtTheirIndex = (k : ProfileKey) → slice_get keys (index k) ≡ Some k

-- each key occurs once in the list of keys that have an option of the compiler
abbrev pub KeysAreToldOnce : Type 0
KeysAreToldOnce = (k : ProfileKey) → count_by (λ other. index other == index k) told ≡ 1
