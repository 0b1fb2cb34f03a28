use Rattle.pb_data.proofs.TableLemmas.{names-table_of}
use Rattle.pb_directive.proofs.laws.passed_names_stand_once.Goals as goal

pub returns : goal.returns
returns c links directives = names-table_of _
