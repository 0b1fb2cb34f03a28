-- How faults of the outside world become faults of the program.
use Rattle.pb_place_types.specs.declared.child.ViewFault.{ViewFault}
use Rattle.pb_place_types.specs.declared.child.ViewFault.TheVariants as view
use Rattle.pb_place_types.specs.declared.place.PlaceFault.{PlaceFault}
use Rattle.pb_place_types.specs.declared.place.PlaceFault.TheVariants as place
use Rattle.pb_mini_program.specs.declared.fault.Fault.{Fault}
use Rattle.pb_mini_program.specs.declared.fault.Fault.TheVariants.{Read, Write, OutOfMemory}

abbrev pub of_view : ViewFault → Fault
of_view view.Failed = Read
of_view view.OutOfMemory = OutOfMemory

abbrev pub of_place : PlaceFault → Fault
of_place place.OutOfMemory = OutOfMemory
of_place e = Write
