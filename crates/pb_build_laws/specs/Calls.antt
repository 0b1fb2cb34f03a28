-- What a build reports about a failed call on files or variables.
use Rattle.std.specs.Prelude.{◌≡◌, ℕ, List, []}
use Rattle.std.specs.Option.{option_map_or}
use Rattle.pb_place_types.specs.CallsInTurn.{own_fault}
use Rattle.pb_place_types.specs.Counts.{Counts, name_given, named_in}
use Rattle.pb_place_types.specs.declared.call.Call.{Call}
use Rattle.pb_place_types.specs.declared.call.Call.TheVariants as call
use Rattle.pb_place_types.specs.declared.place.PlaceFault.{PlaceFault}
use Rattle.pb_place_types.specs.declared.place.PlaceFault.TheVariants as place

-- if this call fails, it fails with this fault; this is the call's argument: a path, a folder or a
-- name
pub data IsCall : Call → PlaceFault → List ℕ → Type 0 where
  read : (path : List ℕ) → IsCall (call.Read path) place.Read path
  is_file : (path : List ℕ) → IsCall (call.IsFile path) place.Read path
  list : (folder : List ℕ) → IsCall (call.List folder) place.List folder
  list_outside : (folder left_out : List ℕ) → IsCall (call.ListOutside folder left_out) place.List folder
  list_directly : (folder : List ℕ) → IsCall (call.ListDirectly folder) place.List folder
  list_folders : (folder left_out : List ℕ) → IsCall (call.ListFolders folder left_out) place.List folder
  write : (path : List ℕ) → IsCall (call.Write path) place.Write path
  remove : (path : List ℕ) → IsCall (call.Remove path) place.Remove path
  variable : (name : List ℕ) → IsCall (call.Variable name) place.Variable name

-- The fault and the argument of each call are as `IsCall` says. The counters have the argument of
-- the last failed call.
abbrev pub CallsAreTold : Type 0
CallsAreTold = ((c : Call) → IsCall c (own_fault c) (name_given c)) × ((counts : Counts) → named_in counts ≡ option_map_or name_given counts.failing [])
