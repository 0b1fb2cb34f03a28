use Rattle.pb_store.proofs.Alike.{tests_decide_so}
use Rattle.pb_store.proofs.laws.tests_decide.Goals as goal

pub returns : goal.returns
returns c = tests_decide_so
