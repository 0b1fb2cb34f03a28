-- What is told of calls is what the law says.
use Rattle.std.proofs.Common.{◌≡◌, [], Option, Some, None, refl}
use Rattle.std.specs.Option.{option_map_or}
use Rattle.pb_place_types.specs.CallsInTurn.{own_fault}
use Rattle.pb_place_types.specs.Counts.{Counts, name_given, named_in}
use Rattle.pb_place_types.specs.declared.call.Call.{Call}
use Rattle.pb_place_types.specs.declared.call.Call.TheVariants as call
use Rattle.pb_build_laws.specs.Calls as calls
use Rattle.pb_build_laws.specs.Calls.{CallsAreTold, IsCall}

told : (c : Call) → IsCall c (own_fault c) (name_given c)
told (call.Read path) = calls.read path
told (call.IsFile path) = calls.is_file path
told (call.List folder) = calls.list folder
told (call.ListOutside folder left_out) = calls.list_outside folder left_out
told (call.ListDirectly folder) = calls.list_directly folder
told (call.ListFolders folder left_out) = calls.list_folders folder left_out
told (call.Write path) = calls.write path
told (call.Remove path) = calls.remove path
told (call.Variable name) = calls.variable name

given : (counts : Counts) (o : Option Call) → named_in (record counts { failing = o }) ≡ option_map_or name_given o []
given counts None = refl
given counts (Some c) = refl

pub calls_are_told : CallsAreTold
calls_are_told = (told, λ counts. given counts counts.failing)
