use Rattle.pb_manifest.proofs.Looks.{package_looks, library_looks, binary_looks, dependency_looks, shared_dependency_looks, profile_looks, settings_look, workspace_looks, inherited_looks, document_looks}
use Rattle.pb_manifest.proofs.laws.tables_look_at_their_own_keys.Goals as goal

pub returns-clause-package : goal.returns-clause-package
returns-clause-package c ms ns same = package_looks ms ns same

pub returns-clause-library : goal.returns-clause-library
returns-clause-library c ms ns same = library_looks ms ns same

pub returns-clause-binary : goal.returns-clause-binary
returns-clause-binary c ms ns same = binary_looks ms ns same

pub returns-clause-dependency : goal.returns-clause-dependency
returns-clause-dependency c key ms ns same = dependency_looks key ms ns same

pub returns-clause-shared_dependency : goal.returns-clause-shared_dependency
returns-clause-shared_dependency c key ms ns same = shared_dependency_looks key ms ns same

pub returns-clause-profile : goal.returns-clause-profile
returns-clause-profile c key ms ns same = profile_looks key ms ns same

pub returns-clause-settings : goal.returns-clause-settings
returns-clause-settings c ms ns same = settings_look ms ns same

pub returns-clause-workspace : goal.returns-clause-workspace
returns-clause-workspace c ms ns same = workspace_looks ms ns same

pub returns-clause-inherited : goal.returns-clause-inherited
returns-clause-inherited c ms ns same = inherited_looks ms ns same

pub returns-clause-document : goal.returns-clause-document
returns-clause-document c ms ns same = document_looks ms ns same
