use Rattle.std.proofs.Common.{◌≡◌, drop}
use Rattle.pb_feature.specs.Answered.{is_answered}
use Rattle.pb_feature.proofs.asked.is_answered.Given as goal

abbrev pub invariant-loop-pkg : goal.invariant-loop-pkg
invariant-loop-pkg l = is_answered l.packages (drop l.pkg-index l.pkgs) l.text ≡ is_answered l.packages l.pkgs l.text
