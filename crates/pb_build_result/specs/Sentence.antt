-- The sentence about a fault that ends a build.
use Rattle.std.specs.Prelude.{ℕ, codes, List, ◌++◌}
use Rattle.pb_build_result.specs.declared.fault.BuildFault.{BuildFault}
use Rattle.pb_build_result.specs.declared.fault.BuildFault.TheVariants as build
use Rattle.pb_build_result.specs.Failures.{device_sentence, start_sentence}
use Rattle.pb_build_result.specs.Refusals.{refusal_sentence}

-- why a build ends without a summary
abbrev pub build_sentence : BuildFault → List ℕ
build_sentence (build.Plan why) = refusal_sentence why
build_sentence build.Toolchain = codes "the compiler did not report its version and host"
build_sentence (build.Child unit fault) = codes "`" ++ unit ++ codes "` gave no answer: " ++ start_sentence fault
build_sentence (build.Device unit fault) = codes "a call for `" ++ unit ++ codes "` failed: " ++ device_sentence fault
build_sentence build.Sink = codes "the message lines cannot be written"
build_sentence build.OutOfMemory = codes "out of memory"
