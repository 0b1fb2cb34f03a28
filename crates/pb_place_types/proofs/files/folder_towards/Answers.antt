use Rattle.std.proofs.Common.{◌∙◌, ap, map, sym}
use Rattle.std.specs.Option.{option_copied}
use Rattle.pb_place_types.specs.Paths.{is_relative}
use Rattle.pb_place_types.specs.World.{first_folder}
use Rattle.pb_place_types.proofs.Towards.{begins, name_is_relative}
use Rattle.pb_place_types.proofs.files.folder_towards.Goals as goal

pub name-requires : goal.name-requires
name-requires c =
    let found = begins _ c.in-Some-first_folder.name.now (ap option_copied (sym c.in-Some-first_folder.is) ∙ c.first_folder.ensures ∙ ap (λ ps. first_folder (map (λ part. part.now) ps)) c.as_slice.ensures.value ∙ ap first_folder c.in_ok-parts.ensures) in
    name_is_relative c.as_str.result.now c.in-Some-first_folder.name.now found.0 (ap is_relative c.as_str.ensures.path ∙ c.as_str.ensures.relative) found.1
