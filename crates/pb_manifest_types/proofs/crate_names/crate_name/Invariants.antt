use denote.Shadow.{shadow}
use denote.Text.{Utf8}
use Rattle.std.proofs.Common.{◌≡◌, ◌++◌, length, string_bytes}
use Rattle.pb_manifest_types.specs.Letters.{underscored}
use Rattle.pb_manifest_types.proofs.crate_names.crate_name.Given as goal

abbrev pub invariant-loop-part : goal.invariant-loop-part
invariant-loop-part l = shadow (Utf8 l.left) × (string_bytes l.made ++ underscored l.left ≡ underscored l.name)

abbrev pub decreases-loop-part : goal.decreases-loop-part
decreases-loop-part l = length l.left
