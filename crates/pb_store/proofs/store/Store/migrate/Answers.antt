use Rattle.std.proofs.Common.{Ok, Err, Some, rules, subst}
use Rattle.pb_place_types.specs.World.{World}
use Rattle.pb_place_types.specs.declared.call.Call.TheVariants as call
use Rattle.pb_store_soundness.specs.Records.{record_path}
use Rattle.pb_store.proofs.Called.{read_unwritten}
use Rattle.pb_store.specs.Folder.{MigratesRecord}
use Rattle.pb_store.proofs.store.Store.migrate.Goals as goal

pub returns-in-Ok-clause-record : goal.returns-in-Ok-clause-record
returns-in-Ok-clause-record g c told =
    subst (λ (w : World). MigratesRecord g.P.Place.child c.args.key.now c.args.needs.now (Ok tt) c.args.self.now c.renumber.new.self w (g.P.Place.at c.renumber.new.place).world) c.in_ok-found.ensures.quiet.world
    (c.in-Ok.ensures.record told)

pub returns-in-Err-clause-record : goal.returns-in-Err-clause-record
returns-in-Err-clause-record g c told =
    subst (λ (w : World). MigratesRecord g.P.Place.child c.args.key.now c.args.needs.now (Err c.in-Err.fault) c.args.self.now c.renumber.new.self w (g.P.Place.at c.renumber.new.place).world) c.in_ok-found.ensures.quiet.world
    (c.in-Err.ensures.record told)

pub returns-in_err-found-clause-written : goal.returns-in_err-found-clause-written
returns-in_err-found-clause-written g c =
    let h = read_unwritten c.in_err-found.field-0.0 (g.P.Place.at c.record_at.new.place).counts.failing (Some (call.Write (record_path c.args.self.now.folder c.args.key.now))) c.in_err-found.ensures.quiet.takes.1.0 in
    search (rules, h)
