use Rattle.std.proofs.Common.{◌≡◌, ◌++◌, drop}
use Rattle.std.specs.List.{flat_map}
use Rattle.pb_workspace.specs.Selected.{feature_words}
use Rattle.pb_workspace.proofs.selecting.features_of.Given as goal

abbrev pub invariant-loop-text : goal.invariant-loop-text
invariant-loop-text l = l.words ++ flat_map feature_words (drop l.text-index l.texts) ≡ flat_map feature_words l.texts
