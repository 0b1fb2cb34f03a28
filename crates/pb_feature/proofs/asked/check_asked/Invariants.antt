use Rattle.std.proofs.Common.{◌≡◌, true, All, take}
use Rattle.pb_feature.specs.Answered.{is_answered}
use Rattle.pb_feature.proofs.asked.check_asked.Given as goal

abbrev pub invariant-loop-text : goal.invariant-loop-text
invariant-loop-text l = All (λ text. is_answered l.packages l.selection.packages text ≡ true) (take l.text-index l.selection.features)
