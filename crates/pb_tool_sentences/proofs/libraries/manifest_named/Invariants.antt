use Rattle.std.proofs.Common.{◌≡◌, drop}
use Rattle.pb_tool_sentences.specs.Libraries.{manifest_named}
use Rattle.pb_tool_sentences.proofs.libraries.manifest_named.Given as goal

abbrev pub invariant-loop-package : goal.invariant-loop-package
invariant-loop-package l = manifest_named (drop l.package-index l.packages) l.name ≡ manifest_named l.packages l.name
