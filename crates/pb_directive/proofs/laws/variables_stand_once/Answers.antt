use Rattle.pb_directive.proofs.JoinLemmas.{names_once}
use Rattle.pb_directive.proofs.laws.variables_stand_once.Goals as goal

pub returns : goal.returns
returns c bytes info is = (names_once bytes info is).1
