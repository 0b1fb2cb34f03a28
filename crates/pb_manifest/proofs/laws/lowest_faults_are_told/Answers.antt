use Rattle.std.proofs.Common.{refl}
use Rattle.pb_manifest_types.specs.Keys.{spelled}
use Rattle.pb_manifest.proofs.Firsts.{package_first, library_first, binary_first, dependency_first, shared_dependency_first, inherited_first, workspace_first}
use Rattle.pb_manifest.specs.Dependencies.{dependency_of, shared_dependency_of}
use Rattle.pb_manifest.specs.Features.{feature_of}
use Rattle.pb_manifest.specs.Profiles.{override_of, profile_of}
use Rattle.pb_manifest.proofs.Entries.{lowest_entry}
use Rattle.pb_manifest.proofs.laws.lowest_faults_are_told.Goals as goal

pub returns-clause-package_table : goal.returns-clause-package_table
unfolding spelled
returns-clause-package_table c = record { order = λ ms. refl; first = package_first }

pub returns-clause-library : goal.returns-clause-library
unfolding spelled
returns-clause-library c = record { order = λ ms. refl; first = library_first }

pub returns-clause-binary : goal.returns-clause-binary
unfolding spelled
returns-clause-binary c = record { order = λ ms. refl; first = binary_first }

pub returns-clause-dependency : goal.returns-clause-dependency
unfolding spelled
returns-clause-dependency c name = record { order = λ ms. refl; first = dependency_first name }

pub returns-clause-inherited : goal.returns-clause-inherited
unfolding spelled
returns-clause-inherited c = record { order = λ ms. refl; first = inherited_first }

pub returns-clause-workspace : goal.returns-clause-workspace
unfolding spelled
returns-clause-workspace c = record { order = λ ms. refl; first = workspace_first }

pub returns-clause-shared_dependency : goal.returns-clause-shared_dependency
unfolding spelled
returns-clause-shared_dependency c name = record { order = λ ms. refl; first = shared_dependency_first name }

pub returns-clause-dependencies : goal.returns-clause-dependencies
returns-clause-dependencies c k = lowest_entry (dependency_of k)

pub returns-clause-shared_dependencies : goal.returns-clause-shared_dependencies
returns-clause-shared_dependencies c = lowest_entry shared_dependency_of

pub returns-clause-features : goal.returns-clause-features
returns-clause-features c = lowest_entry feature_of

pub returns-clause-overrides : goal.returns-clause-overrides
returns-clause-overrides c = lowest_entry override_of

pub returns-clause-profiles : goal.returns-clause-profiles
returns-clause-profiles c = lowest_entry profile_of
