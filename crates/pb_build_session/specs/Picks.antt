-- Which unit begins, among those that may begin. The names of the choices are our own.
use Rattle.std.specs.Prelude.{ℕ, if◌then◌else◌, codes, List, Ok, Err}
use Rattle.std.specs.Str.{bytes_eq}
use Rattle.pb_build_session.specs.Faults.{Read}
use Rattle.pb_build_session.specs.declared.pick.PickBy.{PickBy}
use Rattle.pb_build_session.specs.declared.pick.PickBy.TheVariants.{First, Last}
use Rattle.pb_build_session.specs.declared.fault.BadSession.TheVariants.{BadForm}

-- the choice that has this name
abbrev pub pick_named : List ℕ → Read PickBy
pick_named name =
    if bytes_eq name (codes "first") then Ok First
    else if bytes_eq name (codes "last") then Ok Last
    else Err BadForm
