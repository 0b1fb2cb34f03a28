use Rattle.std.proofs.Common.{◌≡◌, ◌++◌, drop, string_bytes}
use Rattle.std.specs.List.{flat_map}
use Rattle.std.specs.Prelude.{codes}
use Rattle.pb_manifest_types.specs.declared.feature.Feature.{Feature}
use Rattle.pb_command_arguments.specs.Words.{quoted}
use Rattle.pb_command_arguments.proofs.words.push_more_quoted.Given as goal

abbrev pub invariant-loop-feature : goal.invariant-loop-feature
invariant-loop-feature l = string_bytes l.text ++ flat_map (λ (f : Feature). codes ", " ++ quoted f.name) (drop l.feature-index l.more) ≡ string_bytes l.fn.text ++ flat_map (λ (f : Feature). codes ", " ++ quoted f.name) l.more
