use Rattle.std.proofs.Common.{rules, inl, inr, refl}
use Rattle.pb_mini_program.specs.Writing.{kept, outside}
use Rattle.pb_mini_program.proofs.Stopping.{at_err, file_fails, files_put, sink_fails, sink_takes}
use Rattle.pb_mini_program.proofs.program.carry_out.Goals as goal

pub returns-in_err-leave_files-clause-write : goal.returns-in_err-leave_files-clause-write
returns-in_err-leave_files-clause-write g c =
    let old = c.args.place.now in
    let new = c.leave_files.new.place in
    let out = c.args.out.now in
    let err = c.args.err.now in
    at_err _ c.from_residual-in_err-leave_files.result c.in_err-leave_files.field-0.0 (search rules) (λ write. (
      c.in_ok-reply.reply,
      c.in_ok-reply.ensures.reply,
      file_fails g.V.View.is_modelled g.P.Place.is_modelled c.args.words.now (g.V.View.shown c.args.view.now) c.in_ok-reply.reply c.as_slice.result.now
          (outside (g.P.Place.at old) (g.O.Out.heard out) (g.E.Out.heard err))
          (outside (g.P.Place.at new) (g.O.Out.heard out) (g.E.Out.heard err))
          c.in_ok-reply.ensures.reply c.as_slice.ensures refl refl (c.in_err-leave_files.ensures.write write),
    ))

pub returns-then-not-write_all-clause-write : goal.returns-then-not-write_all-clause-write
returns-then-not-write_all-clause-write g c write =
    let old = c.args.place.now in
    let new = c.leave_files.new.place in (
      c.in_ok-reply.reply,
      c.in_ok-reply.ensures.reply,
      inr (inl (
        files_put g.V.View.is_modelled g.P.Place.is_modelled c.args.words.now (g.V.View.shown c.args.view.now) c.in_ok-reply.reply c.as_slice.result.now
            (kept (g.P.Place.at old)) (kept (g.P.Place.at new)) c.in_ok-reply.ensures.reply c.as_slice.ensures c.in_ok-leave_files.ensures.whole,
        sink_fails c.as_slice-2.result.now c.in_ok-reply.reply.stdout (g.O.Out.heard c.args.out.now) (g.O.Out.heard c.write_all.new.out)
            c.as_slice-2.ensures (c.write_all.ensures.part (search rules)) (c.write_all.ensures.fault (search rules)),
        refl,
      )),
    )

pub returns-then-not-write_all-2-clause-write : goal.returns-then-not-write_all-2-clause-write
returns-then-not-write_all-2-clause-write g c write =
    let old = c.args.place.now in
    let new = c.leave_files.new.place in (
      c.in_ok-reply.reply,
      c.in_ok-reply.ensures.reply,
      inr (inr (
        files_put g.V.View.is_modelled g.P.Place.is_modelled c.args.words.now (g.V.View.shown c.args.view.now) c.in_ok-reply.reply c.as_slice.result.now
            (kept (g.P.Place.at old)) (kept (g.P.Place.at new)) c.in_ok-reply.ensures.reply c.as_slice.ensures c.in_ok-leave_files.ensures.whole,
        sink_takes c.as_slice-2.result.now c.in_ok-reply.reply.stdout (g.O.Out.heard c.args.out.now) (g.O.Out.heard c.write_all.new.out)
            c.as_slice-2.ensures (c.write_all.ensures.all (search rules)) (c.write_all.ensures.whole (search rules)),
        sink_fails c.as_slice-3.result.now c.in_ok-reply.reply.stderr (g.E.Out.heard c.args.err.now) (g.E.Out.heard c.write_all-2.new.out)
            c.as_slice-3.ensures (c.write_all-2.ensures.part (search rules)) (c.write_all-2.ensures.fault (search rules)),
      )),
    )
