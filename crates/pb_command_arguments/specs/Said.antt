-- Which arguments build scripts request for a compile (The Cargo Book, Build Scripts, Outputs of
-- the Build Script).
use Rattle.std.specs.Prelude.{ℕ, if◌then◌else◌, is_none, codes, List, [], ◌++◌, Option}
use Rattle.std.specs.List.{flat_map}
use Rattle.std.specs.Str.{bytes_eq}
use Rattle.pb_directive.specs.declared.directive.Directive.{Directive}
use Rattle.pb_directive.specs.declared.directive.Directive.TheVariants.{LinkSearch, LinkLib, Cfg, CheckCfg, LinkArg, LinkArgBins, LinkArgBin}
use Rattle.pb_unit.specs.declared.plan.Planned.{Planned}
use Rattle.pb_unit.specs.declared.unit.What.{What}
use Rattle.pb_unit.specs.declared.unit.What.TheVariants.{Lib, Bin, Script, Run}
use Rattle.pb_workspace_types.specs.declared.package.Library.{Library}
use Rattle.pb_workspace_types.specs.declared.package.Package.{Package}
use Rattle.pb_command_types.specs.declared.project.Project.{Project}
use Rattle.pb_command_types.specs.Targets.{said_at, own_said}
use Rattle.pb_command_arguments.specs.Words.{option, setting}

-- The arguments that one directive requests.

abbrev pub search_word : Directive → List (List ℕ)
search_word (LinkSearch folder) = option (codes "-L") folder
search_word _ = []

abbrev pub link_word : Directive → List (List ℕ)
link_word (LinkLib name) = option (codes "-l") name
link_word _ = []

abbrev pub condition_word : Directive → List (List ℕ)
condition_word (Cfg condition) = option (codes "--cfg") condition
condition_word _ = []

abbrev pub check_word : Directive → List (List ℕ)
check_word (CheckCfg condition) = option (codes "--check-cfg") condition
check_word _ = []

abbrev pub argument_word : Directive → List (List ℕ)
argument_word (LinkArg flag) = setting (codes "link-arg=") flag
argument_word _ = []

abbrev pub binaries_word : Directive → List (List ℕ)
binaries_word (LinkArgBins flag) = setting (codes "link-arg=") flag
binaries_word _ = []

abbrev pub binary_word : List ℕ → Directive → List (List ℕ)
binary_word name (LinkArgBin binary flag) = if bytes_eq binary name then setting (codes "link-arg=") flag else []
binary_word name _ = []

-- The arguments that all directives request.

-- the search folders that the run at an index requests, in printed order
abbrev pub searched_words : List (Option (List Directive)) → ℕ → List (List ℕ)
searched_words done index = flat_map search_word (said_at done index)

-- the search folders requested by the runs that the unit reaches, in plan order
abbrev pub search_words : Planned → List (Option (List Directive)) → List (List ℕ)
search_words unit done = flat_map (searched_words done) unit.reaches

-- the arguments for the conditions that are on, followed by the arguments for the expected
-- conditions
abbrev pub condition_words : List Directive → List (List ℕ)
condition_words said = flat_map condition_word said ++ flat_map check_word said

-- the linker flags of a binary: first the flags for all targets, then the flags for all binaries,
-- and then the flags for this binary
abbrev pub argument_words : List ℕ → List Directive → List (List ℕ)
argument_words name said = flat_map argument_word said ++ flat_map binaries_word said ++ flat_map (binary_word name) said

-- the arguments for the libraries that a binary links; if the binary's package has a library, there
-- are no such arguments
abbrev pub binary_link_words : Option Library → List Directive → List (List ℕ)
binary_link_words library said = if is_none library then flat_map link_word said else []

-- the arguments that the run of a unit's own package requests for the unit
abbrev pub own_words : What → Option Library → List Directive → List (List ℕ)
own_words Lib library said = flat_map link_word said ++ condition_words said
own_words (Bin name) library said = binary_link_words library said ++ condition_words said ++ argument_words name said
own_words Script library said = []
own_words Run library said = []

abbrev pub said_words : Project → Planned → List (Option (List Directive)) → Package → List (List ℕ)
said_words project unit done p = search_words unit done ++ own_words unit.unit.what p.library (own_said project unit done)
