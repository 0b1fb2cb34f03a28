use Rattle.pb_manifest.proofs.Named.{same_without, package_looks, library_looks, binary_looks, dependency_looks, shared_dependency_looks, profile_looks, settings_look, workspace_looks, inherited_looks, document_looks}
use Rattle.pb_manifest.proofs.laws.unnamed_keys_change_nothing.Goals as goal

pub returns-clause-package : goal.returns-clause-package
returns-clause-package c name ms unnamed = package_looks _ _ (same_without name ms unnamed)

pub returns-clause-library : goal.returns-clause-library
returns-clause-library c name ms unnamed = library_looks _ _ (same_without name ms unnamed)

pub returns-clause-binary : goal.returns-clause-binary
returns-clause-binary c name ms unnamed = binary_looks _ _ (same_without name ms unnamed)

pub returns-clause-dependency : goal.returns-clause-dependency
returns-clause-dependency c key name ms unnamed = dependency_looks key _ _ (same_without name ms unnamed)

pub returns-clause-shared_dependency : goal.returns-clause-shared_dependency
returns-clause-shared_dependency c key name ms unnamed = shared_dependency_looks key _ _ (same_without name ms unnamed)

pub returns-clause-profile : goal.returns-clause-profile
returns-clause-profile c key name ms unnamed = profile_looks key _ _ (same_without name ms unnamed)

pub returns-clause-settings : goal.returns-clause-settings
returns-clause-settings c name ms unnamed = settings_look _ _ (same_without name ms unnamed)

pub returns-clause-workspace : goal.returns-clause-workspace
returns-clause-workspace c name ms unnamed = workspace_looks _ _ (same_without name ms unnamed)

pub returns-clause-inherited : goal.returns-clause-inherited
returns-clause-inherited c name ms unnamed = inherited_looks _ _ (same_without name ms unnamed)

pub returns-clause-document : goal.returns-clause-document
returns-clause-document c name ms unnamed = document_looks _ _ (same_without name ms unnamed)
