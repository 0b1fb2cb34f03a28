use Rattle.std.proofs.Common.{◌∙◌, ap, rules, sym, inr, Some, None, refl}
use Rattle.pb_place_types.specs.World.{put_reply}
use Rattle.pb_mini_program.specs.Faults.{of_place}
use Rattle.pb_mini_program.specs.OutFolder.{out_folder}
use Rattle.pb_mini_program.specs.Writing.{kept}
use Rattle.pb_mini_program.proofs.Filing.{no_files}
use Rattle.pb_mini_program.proofs.OutDirs.{none_of}
use Rattle.pb_mini_program.proofs.Stopping.{at_err, found_is, is_memory, not_memory}
use Rattle.pb_mini_program.proofs.program.leave_files.Goals as goal

pub returns-then-is_empty-clause-files : goal.returns-then-is_empty-clause-files
returns-then-is_empty-clause-files g c = λ shown told is.
    let place = c.args.place.now in
    (no_files g.P.Place.is_modelled (out_folder c.args.words.now (g.V.View.shown c.args.view.now)) c.args.files.now (kept (g.P.Place.at place)) (sym c.is_empty.ensures ∙ c.if-is_empty.true)).1 told

pub returns-then-is_empty-clause-whole : goal.returns-then-is_empty-clause-whole
returns-then-is_empty-clause-whole g c =
    let place = c.args.place.now in
    let folder = out_folder c.args.words.now (g.V.View.shown c.args.view.now) in (
      folder,
      λ has shown. refl,
      no_files g.P.Place.is_modelled folder c.args.files.now (kept (g.P.Place.at place)) (sym c.is_empty.ensures ∙ c.if-is_empty.true),
    )

pub returns-in_ok-write_files-clause-files : goal.returns-in_ok-write_files-clause-files
returns-in_ok-write_files-clause-files g c = λ shown told has.
    c.in_ok-write_files.ensures.written told ∙ sym (ap (λ folder. put_reply folder c.args.files.now (g.P.Place.at c.args.place.now).world) (
    found_is c.args.words.now (g.V.View.shown c.args.view.now) c.in_ok-folder.field-0 c.args.files.now c.in_ok-folder.ensures.compile (c.in_ok-folder.ensures.run shown)
    (sym c.is_empty.ensures ∙ c.if-is_empty.false) has ∙ c.in-Some.is))

pub returns-in_ok-write_files-clause-whole : goal.returns-in_ok-write_files-clause-whole
returns-in_ok-write_files-clause-whole g c = (
  Some c.in-Some.folder,
  λ has shown. found_is c.args.words.now (g.V.View.shown c.args.view.now) c.in_ok-folder.field-0 c.args.files.now c.in_ok-folder.ensures.compile (c.in_ok-folder.ensures.run shown)
      (sym c.is_empty.ensures ∙ c.if-is_empty.false) has ∙ c.in-Some.is,
  (c.in_ok-write_files.ensures.whole, c.in_ok-write_files.ensures.written),
)

pub returns-in_default-clause-files : goal.returns-in_default-clause-files
returns-in_default-clause-files g c = λ shown told has.
    sym (ap (λ folder. put_reply folder c.args.files.now (g.P.Place.at c.args.place.now).world) (
    found_is c.args.words.now (g.V.View.shown c.args.view.now) c.in_ok-folder.field-0 c.args.files.now c.in_ok-folder.ensures.compile (c.in_ok-folder.ensures.run shown)
    (sym c.is_empty.ensures ∙ c.if-is_empty.false) has ∙ none_of c.in_ok-folder.field-0 c.in_default.not-Some))

pub returns-in_default-clause-whole : goal.returns-in_default-clause-whole
returns-in_default-clause-whole g c = (
  None,
  λ has shown. found_is c.args.words.now (g.V.View.shown c.args.view.now) c.in_ok-folder.field-0 c.args.files.now c.in_ok-folder.ensures.compile (c.in_ok-folder.ensures.run shown)
      (sym c.is_empty.ensures ∙ c.if-is_empty.false) has ∙ none_of c.in_ok-folder.field-0 c.in_default.not-Some,
  (refl, λ told. refl),
)

pub returns-in_err-write_files-clause-write : goal.returns-in_err-write_files-clause-write
returns-in_err-write_files-clause-write g c =
    at_err _ c.from_residual-in_err-write_files.result (of_place c.in_err-write_files.field-0.0) (search rules) (λ write. (
      c.in-Some.folder,
      λ has shown. found_is c.args.words.now (g.V.View.shown c.args.view.now) c.in_ok-folder.field-0 c.args.files.now c.in_ok-folder.ensures.compile (c.in_ok-folder.ensures.run shown)
          (sym c.is_empty.ensures ∙ c.if-is_empty.false) has ∙ c.in-Some.is,
      c.in_err-write_files.ensures.fault (not_memory c.in_err-write_files.field-0.0 write),
    ))

pub returns-in_err-write_files-clause-memory : goal.returns-in_err-write_files-clause-memory
returns-in_err-write_files-clause-memory g c =
    at_err _ c.from_residual-in_err-write_files.result (of_place c.in_err-write_files.field-0.0) (search rules) (λ memory. inr (
      c.in-Some.folder,
      λ has shown. found_is c.args.words.now (g.V.View.shown c.args.view.now) c.in_ok-folder.field-0 c.args.files.now c.in_ok-folder.ensures.compile (c.in_ok-folder.ensures.run shown)
          (sym c.is_empty.ensures ∙ c.if-is_empty.false) has ∙ c.in-Some.is,
      c.in_err-write_files.ensures.memory (is_memory c.in_err-write_files.field-0.0 memory),
    ))
