use Rattle.std.proofs.Common.{◌≡◌, drop}
use Rattle.std.specs.Ordering.{nat_cmp}
use Rattle.std.specs.Cmp.Lexicographic.{slice_cmp}
use Rattle.std.specs.FinMap as finite
use Rattle.pb_tests_readers.proofs.mini.views.file_at.Given as goal

abbrev pub invariant-loop-file : goal.invariant-loop-file
invariant-loop-file l = finite.find (slice_cmp nat_cmp) l.path (drop l.file-index l.files) ≡ finite.find (slice_cmp nat_cmp) l.path l.files
