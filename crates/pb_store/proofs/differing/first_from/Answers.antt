use Rattle.std.proofs.Common.{rules}
use Rattle.pb_place_types.proofs.CallsInTurn.{some_none}
use Rattle.pb_store.proofs.LookingOver.{from_then, name_unlooked, part_unlooked}
use Rattle.pb_store.proofs.differing.first_from.Goals as goal

pub returns-in-Some-clause-looks : goal.returns-in-Some-clause-looks
returns-in-Some-clause-looks g c is_modelled = part_unlooked c.args.folder.now c.args.command.now (g.P.Place.at c.args.place.now).world c.args.kept.now c.in-Some.part _ c.in-Some.ensures

pub returns-in-Ok-Some-clause-looks : goal.returns-in-Ok-Some-clause-looks
returns-in-Ok-Some-clause-looks g c is_modelled = name_unlooked c.args.folder.now c.args.command.now (g.P.Place.at c.args.place.now).world c.args.kept.now c.as_slice.result.now c.as_slice-2.result.now c.in-Ok-Some.field-0 _ _ (search rules) (search rules) c.in-Ok-Some.field-0-is c.in-Ok-Some.ensures

pub returns-in-Err-clause-looks : goal.returns-in-Err-clause-looks
returns-in-Err-clause-looks g c is_modelled = some_none _ _

pub returns-clause-looks : goal.returns-clause-looks
returns-clause-looks g c is_modelled = from_then c.args.folder.now c.args.command.now (g.P.Place.at c.args.place.now).world c.args.kept.now _ _ _ (search rules) (c.first_around.ensures.looks is_modelled)
