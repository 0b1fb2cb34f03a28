use Rattle.std.proofs.Common.{rules}
use Rattle.pb_tests_readers.proofs.FilesShown.{found-here, found-later}
use Rattle.pb_tests_readers.proofs.mini.views.file_at.Goals as goal

pub returns-then-eq : goal.returns-then-eq
returns-then-eq c = found-here c.args.path.now c.args.files.now c.loop-file.file-index c.file-item.result _ c.loop-file-test.true c.file-item.is (search rules) (search rules) c.loop-file.invariant

pub loop-file-preserved : goal.loop-file-preserved
loop-file-preserved c = found-later c.args.path.now c.args.files.now c.loop-file.file-index c.file-item.result c.loop-file-test.true c.file-item.is (search rules) c.loop-file.invariant
