use Rattle.pb_command.proofs.Ordered.{by_name_then_path}
use Rattle.pb_command.proofs.laws.libraries_in_order.Goals as goal

pub returns : goal.returns
returns c = by_name_then_path
