-- How a step of a session can make a later start fail. The ways of failing are our own choice.
use Rattle.std.specs.Prelude.{ℕ, if◌then◌else◌, codes, List, Ok, Err}
use Rattle.std.specs.Str.{bytes_eq}
use Rattle.pb_place_types.specs.declared.place.StartFault.{StartFault}
use Rattle.pb_place_types.specs.declared.place.StartFault.TheVariants as start
use Rattle.pb_build_session.specs.Faults.{Read}
use Rattle.pb_build_session.specs.declared.death.Death.{Death}
use Rattle.pb_build_session.specs.declared.death.Death.TheVariants.{CannotStart, Died, Capture}
use Rattle.pb_build_session.specs.declared.fault.BadSession.TheVariants.{BadForm}

-- the way of failing that has this name
abbrev pub death_named : List ℕ → Read Death
death_named name =
    if bytes_eq name (codes "CannotStart") then Ok CannotStart
    else if bytes_eq name (codes "Died") then Ok Died
    else if bytes_eq name (codes "Capture") then Ok Capture
    else Err BadForm

-- the fault of a start that fails in this way; the fault has the same name as the way
abbrev pub fault_of : Death → StartFault
fault_of CannotStart = start.CannotStart
fault_of Died = start.Died
fault_of Capture = start.Capture
