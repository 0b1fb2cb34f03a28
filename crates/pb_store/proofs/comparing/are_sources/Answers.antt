use Rattle.std.proofs.Common.{rules}
use Rattle.pb_place_types.specs.World.{removed}
use Rattle.pb_store.proofs.Looking.{looks_told}
use Rattle.pb_place_types.specs.declared.call.Call.TheVariants as call
use Rattle.pb_store.proofs.LookingAt.{folder_made, folder_stops, folder_unlisted}
use Rattle.pb_store.proofs.comparing.are_sources.Goals as goal

pub returns-in_err-paths-clause-looks : goal.returns-in_err-paths-clause-looks
returns-in_err-paths-clause-looks g c is_modelled = looks_told c.from_residual.result c.in_err-paths.field-0.0 _ _ _ (search rules) (folder_unlisted (call.ListOutside c.args.folder.now c.args.target.now) c.args.folder.now (removed c.args.target.now (g.P.Place.at c.args.place.now).world) _ _ _ c.in_err-paths.ensures.looks)

pub returns-in-Ok-clause-looks : goal.returns-in-Ok-clause-looks
returns-in-Ok-clause-looks g c is_modelled = folder_made (call.ListOutside c.args.folder.now c.args.target.now) c.args.folder.now (removed c.args.target.now (g.P.Place.at c.args.place.now).world) c.as_slice.result.now _ _ _ (search rules) c.in_ok-paths.ensures.looks c.in-Ok.ensures.looks

pub returns-clause-looks : goal.returns-clause-looks
returns-clause-looks g c is_modelled = folder_stops (call.ListOutside c.args.folder.now c.args.target.now) c.args.folder.now (removed c.args.target.now (g.P.Place.at c.args.place.now).world) c.as_slice.result.now _ _ _ _ (search rules) c.in_ok-paths.ensures.looks c.in-Err.ensures.looks
