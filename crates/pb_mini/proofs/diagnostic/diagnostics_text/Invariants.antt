use Rattle.std.proofs.Common.{◌≡◌, ◌++◌, drop, string_bytes}
use Rattle.pb_mini.specs.Diagnostics.{diagnostics_text}
use Rattle.pb_mini.proofs.diagnostic.diagnostics_text.Given as goal

abbrev pub invariant-loop-diagnostic : goal.invariant-loop-diagnostic
invariant-loop-diagnostic l = string_bytes l.text ++ diagnostics_text (drop l.diagnostic-index l.diagnostics) ≡ diagnostics_text l.diagnostics
