use Rattle.std.proofs.Common.{◌≡◌, ◌++◌, drop, string_bytes}
use Rattle.pb_workspace_package.specs.Taken.{further_authors}
use Rattle.pb_workspace_package.proofs.taken.add_authors.Given as goal

abbrev pub invariant-loop-author : goal.invariant-loop-author
invariant-loop-author l = string_bytes l.text ++ further_authors (drop l.author-index l.authors) ≡ string_bytes l.fn.text ++ further_authors l.authors
