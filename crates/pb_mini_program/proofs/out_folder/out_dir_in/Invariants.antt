use Rattle.std.proofs.Common.{◌≡◌, None, drop}
use Rattle.pb_mini_program.specs.OutFolder.{first_out_dir}
use Rattle.pb_mini_program.proofs.out_folder.out_dir_in.Given as goal

abbrev pub invariant-loop-word : goal.invariant-loop-word
invariant-loop-word l = record {
  found : first_out_dir l.waiting (drop l.word-index l.words) ≡ first_out_dir None l.words;
}
