use Rattle.std.proofs.Common.{◌≡◌, ◌++◌, drop, map}
use Rattle.pb_manifest_types.specs.Library.{crate_type_text}
use Rattle.pb_manifest_types.proofs.spelling.texts_of.Given as goal

abbrev pub invariant-loop-crate_type : goal.invariant-loop-crate_type
invariant-loop-crate_type l = map (λ t. t.now) l.texts.items ++ map crate_type_text (drop l.crate_type-index l.crate_types) ≡ map crate_type_text l.crate_types
