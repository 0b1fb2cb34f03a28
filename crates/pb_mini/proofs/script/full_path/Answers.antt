use Rattle.std.proofs.Common.{rules}
use Rattle.pb_mini.proofs.ScriptLemmas.{relative_path}
use Rattle.pb_mini.proofs.script.full_path.Goals as goal

pub returns-clause-text : goal.returns-clause-text
returns-clause-text g c is_modelled = relative_path c.args.pairs.now (g.V.View.shown c.args.view.now) c.args.path.now _ _ (search rules) c.in_ok-text-2.ensures (c.in_ok-folder.ensures.value is_modelled)
