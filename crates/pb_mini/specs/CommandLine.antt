-- What the arguments of a compile mean.
use Rattle.std.specs.Prelude.{ℕ, nat_eq, Bool, ◌||◌, if◌then◌else◌, codes, List, [], ◌∷◌, ◌++◌, Option, Some, None, Result, Ok, Err}
use Rattle.std.specs.List.{starts_with}
use Rattle.std.specs.Str.{bytes_eq}
use Rattle.pb_data.specs.UnlessOom.{◌>>=◌}
use Rattle.pb_place_types.specs.Paths.{is_relative, parsed}
use Rattle.pb_mini.specs.declared.command_line.Role.{Role}
use Rattle.pb_mini.specs.declared.command_line.Role.TheVariants.{CrateName, CrateType, OutDir, Source, Extern, Condition, Unused}
use Rattle.pb_mini.specs.declared.command_line.CrateType as kind
use Rattle.pb_mini.specs.declared.command_line.CrateType.TheVariants.{Bin, Lib}
use Rattle.pb_mini.specs.declared.command_line.Arguments.{Arguments}
use Rattle.pb_mini.specs.declared.command_line.Settled.{Settled}
use Rattle.pb_mini.specs.declared.command_line.CommandLine.{CommandLine}
use Rattle.pb_mini.specs.declared.command_line.CommandLineFault.{CommandLineFault}
use Rattle.pb_mini.specs.declared.command_line.CommandLineFault.TheVariants.{Bad}
use Rattle.pb_place_types.specs.declared.path.PathFault.{PathFault}

-- the argument is an option, and the next argument is the option's value
abbrev pub takes_value : List ℕ → Bool
takes_value word =
    bytes_eq word (codes "--crate-name") || bytes_eq word (codes "--crate-type") || bytes_eq word (codes "--out-dir")
    || bytes_eq word (codes "-C") || bytes_eq word (codes "--cfg") || bytes_eq word (codes "--check-cfg")
    || bytes_eq word (codes "--extern") || bytes_eq word (codes "-L") || bytes_eq word (codes "-l")

-- the role of an option's value
abbrev pub role_of : List ℕ → Role
role_of option =
    if bytes_eq option (codes "--crate-name") then CrateName
    else if bytes_eq option (codes "--crate-type") then CrateType
    else if bytes_eq option (codes "--out-dir") then OutDir
    else if bytes_eq option (codes "--extern") then Extern
    else if bytes_eq option (codes "--cfg") then Condition
    else Unused

-- the argument is a setting that contains the setting's value; such an argument is ignored
abbrev pub is_setting : List ℕ → Bool
is_setting word = starts_with nat_eq word (codes "--edition=") || starts_with nat_eq word (codes "--error-format=") || starts_with nat_eq word (codes "--emit=")

-- the role of an argument that is neither an option with a value nor the value of an option
abbrev pub role_alone : List ℕ → Role
role_alone word = if is_setting word then Unused else Source

abbrev pub no_arguments : Arguments
no_arguments = record { crate_names = []; crate_types = []; out_dirs = []; sources = []; externs = []; conditions = [] }

-- The values of the arguments, with one more value. The new value comes before the other values of
-- the same role.
abbrev pub with_value : Role → List ℕ → Arguments → Arguments
with_value CrateName value said = record said { crate_names = value ∷ said.crate_names }
with_value CrateType value said = record said { crate_types = value ∷ said.crate_types }
with_value OutDir value said = record said { out_dirs = value ∷ said.out_dirs }
with_value Source value said = record said { sources = value ∷ said.sources }
with_value Extern value said = record said { externs = value ∷ said.externs }
with_value Condition value said = record said { conditions = value ∷ said.conditions }
with_value Unused value said = said

-- The values of two lists of arguments. For each role, the values of the first list come before
-- those of the second. `after` joins in this way, too, but a fault of the second list stays a
-- fault.
abbrev pub joined : Arguments → Arguments → Arguments
joined a b = record {
  crate_names = a.crate_names ++ b.crate_names;
  crate_types = a.crate_types ++ b.crate_types;
  out_dirs = a.out_dirs ++ b.out_dirs;
  sources = a.sources ++ b.sources;
  externs = a.externs ++ b.externs;
  conditions = a.conditions ++ b.conditions;
}

abbrev pub after : Arguments → Result Arguments CommandLineFault → Result Arguments CommandLineFault
after said more = more >>= (λ rest. Ok (joined said rest))

-- The values of these arguments. If an option still needs a value, the first argument is this
-- value.
abbrev pub arguments_after : Option Role → List (List ℕ) → Result Arguments CommandLineFault
arguments_after None [] = Ok no_arguments
arguments_after (Some role) [] = Err Bad
arguments_after (Some role) (value ∷ words) = arguments_after None words >>= (λ rest. Ok (with_value role value rest))
arguments_after None (word ∷ words) =
    if takes_value word then arguments_after (Some (role_of word)) words
    else (arguments_after None words >>= (λ rest. Ok (with_value (role_alone word) word rest)))

-- the only value of a list; a list without a value or with several values is a fault
abbrev pub only : List (List ℕ) → Result (List ℕ) CommandLineFault
only [] = Err Bad
only (value ∷ []) = Ok value
only (value ∷ other ∷ more) = Err Bad

-- the first value of a list; an empty list is a fault
abbrev pub first : List (List ℕ) → Result (List ℕ) CommandLineFault
first [] = Err Bad
first (value ∷ more) = Ok value

abbrev pub crate_type_of : List ℕ → kind.CrateType
crate_type_of text = if bytes_eq text (codes "bin") then Bin else Lib

-- The name of the image in the output folder. `dep_info_name` is the name of the dep-info in this
-- folder.
abbrev pub image_name : kind.CrateType → List ℕ → List ℕ
image_name Bin name = name
image_name Lib name = codes "lib" ++ name ++ codes ".rlib"

abbrev pub dep_info_name : List ℕ → List ℕ
dep_info_name name = name ++ codes ".d"

-- the name of a file inside the output folder, which must be a relative path
abbrev pub file_named : List ℕ → Result (List ℕ) CommandLineFault
file_named name = if is_relative name then Ok name else Err Bad

-- the folder that a text spells, which must be an absolute path
abbrev pub folder_in : Result (List ℕ) PathFault → Result (List ℕ) CommandLineFault
folder_in (Ok path) = Ok path
folder_in (Err e) = Err Bad

abbrev pub folder_of : List ℕ → Result (List ℕ) CommandLineFault
folder_of text = folder_in (parsed text)

-- The values that a compile needs. The crate name, the output folder and the source must each occur
-- once. A crate type must occur at least once.
abbrev pub settled_by : Arguments → Result Settled CommandLineFault
settled_by said =
    only said.crate_names >>= (λ name.
    first said.crate_types >>= (λ type.
    only said.out_dirs >>= (λ folder.
    only said.sources >>= (λ source.
    file_named (image_name (crate_type_of type) name) >>= (λ image.
    file_named (dep_info_name name) >>= (λ dep_info.
    folder_of folder >>= (λ out_dir.
    Ok record {
      crate_type = crate_type_of type;
      crate_name = name;
      image = image;
      dep_info = dep_info;
      out_dir = out_dir;
      source = source;
    })))))))

-- the command line that the arguments mean: the values that a compile needs, the libraries and the
-- conditions
abbrev pub command_line_of : List (List ℕ) → Result CommandLine CommandLineFault
command_line_of words =
    arguments_after None words >>= (λ said.
    settled_by said >>= (λ settled.
    Ok record {
      crate_type = settled.crate_type;
      crate_name = settled.crate_name;
      image = settled.image;
      dep_info = settled.dep_info;
      out_dir = settled.out_dir;
      source = settled.source;
      externs = said.externs;
      conditions = said.conditions;
    }))
