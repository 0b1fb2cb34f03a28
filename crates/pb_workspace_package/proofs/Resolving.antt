-- The path that a written path says.
use Rattle.std.proofs.Common.{◌≡◌, ℕ, List, Bool, true, false, Ok, Err, Result, if◌then◌else◌}
use Rattle.pb_place_types.specs.Paths.{joined, names_of, parsed, path_of}
use Rattle.pb_place_types.specs.declared.path.PathFault.{PathFault}
use Rattle.pb_place_types.specs.declared.path.PathFault.TheVariants.{NotAbsolute, BadByte}
use Rattle.pb_workspace_package.specs.Sources.{resolved}

abbrev parsed_by : Bool → Bool → List ℕ → Result (List ℕ) PathFault
parsed_by absolute zero path = if absolute then (if zero then Err BadByte else Ok path) else Err NotAbsolute

one_path : (absolute zero : Bool) (path made : List ℕ) → parsed_by absolute zero path ≡ Ok made → made ≡ path
one_path true true path made h = cc
one_path true false path made h = cc
one_path false zero path made h = cc

-- where a text says a path, it says this one
pub joined_is_resolved : (folder text made : List ℕ) → joined folder text ≡ Ok made → made ≡ resolved folder text
joined_is_resolved folder text made h = one_path _ _ _ made h

pub ruleset resolving_laws = (joined_is_resolved)

-- where a text says a path of its own, it says this one
pub parsed_is_path : (text made : List ℕ) → parsed text ≡ Ok made → made ≡ path_of (names_of text)
parsed_is_path text made h = one_path _ _ _ made h

pub ruleset parsing_laws = (parsed_is_path)
