use Rattle.std.proofs.Common.{◌≡◌, ◌++◌, drop, Ok}
use Rattle.pb_data.specs.UnlessOom.{◌>>=◌}
use Rattle.pb_workspace_package.specs.Wanted.{wanted_of, each_wanted}
use Rattle.pb_workspace_package.proofs.wanted.each_wanted.Given as goal

abbrev pub invariant-loop-entry : goal.invariant-loop-entry
invariant-loop-entry l =
    (each_wanted (wanted_of l.at.root l.at.folder l.at.manifest l.given l.kind) (drop l.entry-index l.entries) >>= (λ rest. Ok (l.made ++ rest)))
    ≡ each_wanted (wanted_of l.at.root l.at.folder l.at.manifest l.given l.kind) l.entries
