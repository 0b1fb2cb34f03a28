-- Requirements, as `semver` reads them.
use Rattle.std.proofs.Common.{◌≡◌, ℕ, List, map, Ok, sym, ◌∙◌}
use Rattle.std.proofs.Math.Logic.{∥∥₁_elim}
use Rattle.std.specs.Coded.{coded_bool}
use base.Stored.{Coded-set}
use Rattle.semver.specs.Eval.{matches_all}
use Rattle.semver.specs.Identifiers.{comparator_view, parts_of}
use Rattle.semver.specs.Parse.{version_parts, req_of}
use Rattle.semver.specs.declared.Comparator.{Comparator}
use Rattle.semver.specs.declared.Version.{Version}
use Rattle.semver.proofs.EvalViews.{matches_all-views}
use Rattle.pb_manifest_types.specs.Versions.{meets, matches}

both : (requirement version : List ℕ) (cs : List Comparator) (v : Version) → req_of requirement ≡ Ok (map comparator_view cs) → version_parts version ≡ Ok (parts_of v)
    → matches_all cs v ≡ matches requirement version
unfolding matches
both requirement version cs v read numbers = matches_all-views cs v ∙ sym (λ i. meets (read i) (numbers i))

-- what `semver` decides on what it read is what the texts say
pub decided : (requirement version : List ℕ) (cs : List Comparator) (v : Version) → ∥ req_of requirement ≡ Ok (map comparator_view cs) ∥₁ → ∥ version_parts version ≡ Ok (parts_of v) ∥₁
    → matches_all cs v ≡ matches requirement version
decided requirement version cs v read numbers =
    ∥∥₁_elim read (Coded-set coded_bool _ _) (λ r. ∥∥₁_elim numbers (Coded-set coded_bool _ _) (λ n. both requirement version cs v r n))
