use Rattle.pb_unit_laws.proofs.Faulting.{packages_are_at_fault}
use Rattle.pb_unit_laws.proofs.packages_are_at_fault.Goals as goal

pub returns : goal.returns
returns c = packages_are_at_fault
