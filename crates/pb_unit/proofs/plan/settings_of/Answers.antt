use Rattle.std.proofs.Common.{length, refl}
use Rattle.std.proofs.lemmas.Option.{slice_get_read}
use Rattle.pb_unit.proofs.plan.settings_of.Goals as goal

pub returns : goal.returns
returns c =
    let at = slice_get_read c.as_slice.result.now (length c.as_slice.result.now) c.args.unit.now.package c.index-as_slice-unit.result refl (rw c.as_slice.ensures c.requires) c.index-as_slice-unit.is in
    (c.index-as_slice-unit.result, rw c.as_slice.ensures at at, rw (← c.role.ensures, ← c.as_slice-2.ensures.value) c.settings_along.ensures)
