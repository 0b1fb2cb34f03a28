-- The values that a compile needs, in two parts. Only private functions need these definitions.
use Rattle.std.specs.Prelude.{Result, Ok}
use Rattle.pb_data.specs.UnlessOom.{◌>>=◌}
use Rattle.pb_mini.specs.CommandLine.{crate_type_of, dep_info_name, file_named, first, folder_of, image_name, only}
use Rattle.pb_mini.specs.declared.command_line.Arguments.{Arguments}
use Rattle.pb_mini.specs.declared.command_line.CommandLineFault.{CommandLineFault}
use Rattle.pb_mini.specs.declared.command_line.Once.{Once}
use Rattle.pb_mini.specs.declared.command_line.Outputs.{Outputs}

-- The values that must occur once. `outputs_of` has the names of the files that a compile writes.
abbrev pub once_in : Arguments → Result Once CommandLineFault
once_in said =
    only said.crate_names >>= (λ name.
    first said.crate_types >>= (λ type.
    only said.out_dirs >>= (λ folder.
    only said.sources >>= (λ source.
    Ok record { crate_type = crate_type_of type; crate_name = name; folder = folder; source = source }))))

abbrev pub outputs_of : Once → Result Outputs CommandLineFault
outputs_of once =
    file_named (image_name once.crate_type once.crate_name) >>= (λ image.
    file_named (dep_info_name once.crate_name) >>= (λ dep_info.
    folder_of once.folder >>= (λ out_dir.
    Ok record { image = image; dep_info = dep_info; out_dir = out_dir })))
