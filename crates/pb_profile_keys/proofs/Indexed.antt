-- Each key has one index, and is told once.
use Rattle.std.proofs.Common.{refl}
use Rattle.pb_profile_keys.specs.Laws.{KeysAreAtTheirIndex, KeysAreToldOnce}
use Rattle.pb_profile_keys.specs.declared.key.ProfileKey.TheVariants as key

pub at_index : KeysAreAtTheirIndex
at_index key.CodegenUnits = refl
at_index _ = refl

pub told_once : KeysAreToldOnce
told_once key.CodegenUnits = refl
told_once _ = refl
