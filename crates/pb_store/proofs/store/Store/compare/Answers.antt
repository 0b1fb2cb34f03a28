use Rattle.std.proofs.Common.{arith, rules, subst, ℕ, Ok, Err}
use Rattle.std.proofs.lemmas.Grind.{common_steps}
use Rattle.pb_store.proofs.Firsts.{none_there, some_there}
use Rattle.pb_store.proofs.LookingOver.{at_none, at_then, at_unread}
use Rattle.pb_store.proofs.store.Store.compare.Goals as goal
use Rattle.pb_store.specs.Differences.{FirstOf}
use Rattle.pb_store_soundness.specs.Records.{records}

pub returns-in-Ok-None-clause-compares : goal.returns-in-Ok-None-clause-compares
returns-in-Ok-None-clause-compares g c is_modelled = record {
  first = none_there c.args.self.now.folder c.args.key.now (records c.args.self.now.folder (g.P.Place.at c.args.place.now).world) c.args.command.now (g.P.Place.at c.args.place.now).world c.in-Ok-None.field-0 (c.in-Ok-None.ensures.ok is_modelled) c.in-Ok-None.field-0-is;
  carries = first_of (search rules, grind (arith, common_steps));
}

pub returns-in-Ok-Some-first_from-clause-compares : goal.returns-in-Ok-Some-first_from-clause-compares
returns-in-Ok-Some-first_from-clause-compares g c is_modelled = record {
  first = subst (FirstOf c.args.self.now.folder (records c.args.self.now.folder (g.P.Place.at c.args.place.now).world) c.args.command.now (g.P.Place.at c.args.place.now).world ((records c.args.self.now.folder (g.P.Place.at c.args.place.now).world) c.args.key.now)) c.in-Ok-Some-first_from.field-0-is
      (some_there c.args.self.now.folder c.args.key.now (records c.args.self.now.folder (g.P.Place.at c.args.place.now).world) c.args.command.now (g.P.Place.at c.args.place.now).world c.in-Ok-Some.field-0 (c.in-Ok-Some.ensures.ok is_modelled) (g.P.Place.at c.record_at.new.place).world c.in-Ok-Some.kept c.in-Ok-Some-first_from.field-0
      c.in-Ok-Some.field-0-is c.in-Ok-Some.ensures.quiet.world (c.in-Ok-Some-first_from.ensures.ok (records c.args.self.now.folder (g.P.Place.at c.args.place.now).world) is_modelled (c.requires.numbers is_modelled)));
  carries = first_of (search rules, grind (arith, common_steps));
}

pub returns-in-Ok-None-first_from-clause-compares : goal.returns-in-Ok-None-first_from-clause-compares
returns-in-Ok-None-first_from-clause-compares g c is_modelled = record {
  first = subst (FirstOf c.args.self.now.folder (records c.args.self.now.folder (g.P.Place.at c.args.place.now).world) c.args.command.now (g.P.Place.at c.args.place.now).world ((records c.args.self.now.folder (g.P.Place.at c.args.place.now).world) c.args.key.now)) c.in-Ok-None-first_from.field-0-is
      (some_there c.args.self.now.folder c.args.key.now (records c.args.self.now.folder (g.P.Place.at c.args.place.now).world) c.args.command.now (g.P.Place.at c.args.place.now).world c.in-Ok-Some.field-0 (c.in-Ok-Some.ensures.ok is_modelled) (g.P.Place.at c.record_at.new.place).world c.in-Ok-Some.kept c.in-Ok-None-first_from.field-0
      c.in-Ok-Some.field-0-is c.in-Ok-Some.ensures.quiet.world (c.in-Ok-None-first_from.ensures.ok (records c.args.self.now.folder (g.P.Place.at c.args.place.now).world) is_modelled (c.requires.numbers is_modelled)));
  carries = first_of (search rules, grind (arith, common_steps));
}

pub returns-in-Ok-None-clause-looks : goal.returns-in-Ok-None-clause-looks
returns-in-Ok-None-clause-looks g c is_modelled = at_none c.args.self.now.folder c.args.key.now c.args.command.now (g.P.Place.at c.args.place.now).world _ c.in-Ok-None.field-0 _ (c.in-Ok-None.ensures.ok is_modelled) c.in-Ok-None.field-0-is c.in-Ok-None.ensures.looks

pub returns-in-Err-clause-looks : goal.returns-in-Err-clause-looks
returns-in-Err-clause-looks g c is_modelled = at_unread c.args.self.now.folder c.args.key.now c.args.command.now (g.P.Place.at c.args.place.now).world _ c.in-Err.fault _ c.in-Err.ensures.looks

pub returns-in-Ok-Some-first_from-clause-looks : goal.returns-in-Ok-Some-first_from-clause-looks
returns-in-Ok-Some-first_from-clause-looks g c is_modelled = at_then c.args.self.now.folder c.args.key.now c.args.command.now (g.P.Place.at c.args.place.now).world _ (Ok c.in-Ok-Some-first_from.field-0) c.in-Ok-Some.field-0 c.in-Ok-Some.kept (g.P.Place.at c.record_at.new.place).world _ _ (c.in-Ok-Some.ensures.ok is_modelled) c.in-Ok-Some.field-0-is (c.in-Ok-Some.ensures.quiet.world) c.in-Ok-Some.ensures.looks (c.in-Ok-Some-first_from.ensures.looks is_modelled)

pub returns-in-Ok-None-first_from-clause-looks : goal.returns-in-Ok-None-first_from-clause-looks
returns-in-Ok-None-first_from-clause-looks g c is_modelled = at_then c.args.self.now.folder c.args.key.now c.args.command.now (g.P.Place.at c.args.place.now).world _ (Ok c.in-Ok-None-first_from.field-0) c.in-Ok-Some.field-0 c.in-Ok-Some.kept (g.P.Place.at c.record_at.new.place).world _ _ (c.in-Ok-Some.ensures.ok is_modelled) c.in-Ok-Some.field-0-is (c.in-Ok-Some.ensures.quiet.world) c.in-Ok-Some.ensures.looks (c.in-Ok-None-first_from.ensures.looks is_modelled)

pub returns-in-Err-first_from-clause-looks : goal.returns-in-Err-first_from-clause-looks
returns-in-Err-first_from-clause-looks g c is_modelled = at_then c.args.self.now.folder c.args.key.now c.args.command.now (g.P.Place.at c.args.place.now).world _ {T = ℕ} (Err c.in-Err-first_from.fault) c.in-Ok-Some.field-0 c.in-Ok-Some.kept (g.P.Place.at c.record_at.new.place).world _ _ (c.in-Ok-Some.ensures.ok is_modelled) c.in-Ok-Some.field-0-is (c.in-Ok-Some.ensures.quiet.world) c.in-Ok-Some.ensures.looks (c.in-Err-first_from.ensures.looks is_modelled)
