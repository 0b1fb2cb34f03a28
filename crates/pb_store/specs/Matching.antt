-- How files are compared with the recorded files, one by one. Only private functions need these
-- definitions.
use Rattle.std.specs.Prelude.{ℕ, Bool, false, if◌then◌else◌, List}
use Rattle.pb_store.specs.Differences.{same_files}
use Rattle.pb_store.specs.declared.comparing.Matching.{Matching}

abbrev pub Files : Type 0
Files = List (List ℕ × List ℕ)

-- the result of the comparison: nothing has differed so far, and `files` are the recorded files
-- that are left to compare
abbrev pub matched : Matching → Files → Bool
matched matching files = if matching.same then same_files files matching.left.now else false
