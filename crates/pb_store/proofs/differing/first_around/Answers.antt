use Rattle.std.proofs.Common.{rules, ℕ, Ok, Err}
use Rattle.pb_store.proofs.LookingOver.{around_ends, around_then, around_unread}
use Rattle.pb_store.proofs.differing.first_around.Goals as goal

pub returns-in-Ok-Some-clause-looks : goal.returns-in-Ok-Some-clause-looks
returns-in-Ok-Some-clause-looks g c is_modelled = around_ends c.args.folder.now c.args.command.now.target (g.P.Place.at c.args.place.now).world c.args.kept.now c.as_slice.result.now (search rules) _ c.in-Ok-Some.field-0 c.in-Ok-Some.name _ c.in-Ok-Some.field-0-is (c.in-Ok-Some.ensures.ok is_modelled) (c.in-Ok-Some.ensures.looks is_modelled)

pub returns-in-Err-clause-looks : goal.returns-in-Err-clause-looks
returns-in-Err-clause-looks g c is_modelled = around_unread c.args.folder.now c.args.command.now.target (g.P.Place.at c.args.place.now).world c.args.kept.now c.as_slice.result.now (search rules) _ c.in-Err.fault _ (c.in-Err.ensures.looks is_modelled)

pub returns-in-Ok-Some-first_need-clause-looks : goal.returns-in-Ok-Some-first_need-clause-looks
returns-in-Ok-Some-first_need-clause-looks g c is_modelled = around_then c.args.folder.now c.args.command.now.target (g.P.Place.at c.args.place.now).world c.args.kept.now c.as_slice.result.now (search rules) _ (Ok c.in-Ok-Some-first_need.field-0) c.in-Ok-None.field-0 (g.P.Place.at c.first_input.new.place).world _ _ (c.in-Ok-None.ensures.quiet.world) c.in-Ok-None.field-0-is (c.in-Ok-None.ensures.ok is_modelled) (c.in-Ok-None.ensures.looks is_modelled) (c.in-Ok-Some-first_need.ensures.looks is_modelled)

pub returns-in-Ok-None-first_need-clause-looks : goal.returns-in-Ok-None-first_need-clause-looks
returns-in-Ok-None-first_need-clause-looks g c is_modelled = around_then c.args.folder.now c.args.command.now.target (g.P.Place.at c.args.place.now).world c.args.kept.now c.as_slice.result.now (search rules) _ (Ok c.in-Ok-None-first_need.field-0) c.in-Ok-None.field-0 (g.P.Place.at c.first_input.new.place).world _ _ (c.in-Ok-None.ensures.quiet.world) c.in-Ok-None.field-0-is (c.in-Ok-None.ensures.ok is_modelled) (c.in-Ok-None.ensures.looks is_modelled) (c.in-Ok-None-first_need.ensures.looks is_modelled)

pub returns-in-Err-first_need-clause-looks : goal.returns-in-Err-first_need-clause-looks
returns-in-Err-first_need-clause-looks g c is_modelled = around_then c.args.folder.now c.args.command.now.target (g.P.Place.at c.args.place.now).world c.args.kept.now c.as_slice.result.now (search rules) _ {T = ℕ} (Err c.in-Err-first_need.fault) c.in-Ok-None.field-0 (g.P.Place.at c.first_input.new.place).world _ _ (c.in-Ok-None.ensures.quiet.world) c.in-Ok-None.field-0-is (c.in-Ok-None.ensures.ok is_modelled) (c.in-Ok-None.ensures.looks is_modelled) (c.in-Err-first_need.ensures.looks is_modelled)
