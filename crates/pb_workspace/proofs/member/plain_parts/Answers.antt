use Rattle.pb_place_types.specs.Paths.{is_relative}
use Rattle.pb_workspace.proofs.NamesOfPaths.{one_of_all}
use Rattle.pb_workspace.proofs.member.plain_parts.Goals as goal

pub name-requires : goal.name-requires
name-requires c = one_of_all (λ name. name.now) is_relative c.args.names.now c.loop-name.name-index _ c.requires c.loop-name-test.true
