use Rattle.std.proofs.Common.{◌<◌, length, rules, arith}
use Rattle.pb_mini_program.specs.Writing.{kept}
use Rattle.pb_mini_program.proofs.Filing.{fails_at, past_more, put_more, stops_at, stops_before}
use Rattle.pb_mini_program.proofs.Stopping.{at_any, at_err}
use Rattle.pb_mini_program.proofs.program.write_files.Goals as goal

pub returns-in_err-path-clause-memory : goal.returns-in_err-path-clause-memory
returns-in_err-path-clause-memory g c =
    let old = c.args.place.now in
    let mid = c.loop-name.place in
    let on : c.loop-name.name-index < length c.args.files.now = omega arith in
    at_any _ c.from_residual.result
    (stops_before g.P.Place.is_modelled c.args.folder.now c.args.files.now c.loop-name.name-index c.loop-name-item.result (kept (g.P.Place.at old)) (kept (g.P.Place.at mid))
    on c.loop-name-item.is c.loop-name.invariant.called c.loop-name.invariant.written)

pub returns-in_err-write-clause-fault : goal.returns-in_err-write-clause-fault
returns-in_err-write-clause-fault g c =
    let old = c.args.place.now in
    let mid = c.loop-name.place in
    let new = c.write.new.self in
    let on : c.loop-name.name-index < length c.args.files.now = omega arith in
    at_err _ c.from_residual-in_err-write.result c.in_err-write.field-0.0 (search rules) (λ other.
    fails_at g.P.Place.is_modelled c.args.folder.now c.args.files.now c.loop-name.name-index c.loop-name-item.result c.in_ok-path.path c.as_slice.result.now c.in_err-write.field-0.0
    (kept (g.P.Place.at old)) (kept (g.P.Place.at mid)) (kept (g.P.Place.at new))
    on c.loop-name-item.is c.in_ok-path.ensures.path c.as_slice.ensures c.loop-name.invariant.called c.loop-name.invariant.written
    (c.in_err-write.ensures.changes.fault other) c.in_err-write.ensures.changes.counts c.in_err-write.ensures.err)

pub returns-in_err-write-clause-memory : goal.returns-in_err-write-clause-memory
returns-in_err-write-clause-memory g c =
    let old = c.args.place.now in
    let mid = c.loop-name.place in
    let new = c.write.new.self in
    let on : c.loop-name.name-index < length c.args.files.now = omega arith in
    at_err _ c.from_residual-in_err-write.result c.in_err-write.field-0.0 (search rules) (λ memory.
    stops_at g.P.Place.is_modelled c.args.folder.now c.args.files.now c.loop-name.name-index c.loop-name-item.result c.in_ok-path.path c.as_slice.result.now c.in_err-write.field-0.0
    (kept (g.P.Place.at old)) (kept (g.P.Place.at mid)) (kept (g.P.Place.at new))
    on c.loop-name-item.is c.in_ok-path.ensures.path c.as_slice.ensures c.loop-name.invariant.called c.loop-name.invariant.written
    memory c.in_err-write.ensures.changes.counts c.in_err-write.ensures.err)

pub loop-name-preserved : goal.loop-name-preserved
loop-name-preserved g c =
    let on : c.loop-name.name-index < length c.args.files.now = omega arith in
    record {
      written = λ told.
          put_more c.args.folder.now c.args.files.now c.loop-name.name-index c.loop-name-item.result c.in_ok-path.path c.as_slice.result.now (g.P.Place.at c.args.place.now).world (g.P.Place.at c.loop-name.place).world (g.P.Place.at c.write.new.self).world
          on c.loop-name-item.is c.in_ok-path.ensures.path c.as_slice.ensures (c.loop-name.invariant.written told) (c.in_ok-write.ensures.ok told);
      called = past_more c.args.folder.now c.args.files.now c.loop-name.name-index c.loop-name-item.result (g.P.Place.at c.args.place.now).counts (g.P.Place.at c.loop-name.place).counts (g.P.Place.at c.write.new.self).counts
          on c.loop-name-item.is c.loop-name.invariant.called c.in_ok-write.ensures.changes.counts;
    }
