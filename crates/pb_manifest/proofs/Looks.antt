-- The reading of each table looks at its own keys alone.
use Rattle.std.proofs.Common.{◌≡◌, List, [], ◌∷◌, map, refl}
use Rattle.toml.specs.Data.{Members}
use Rattle.pb_profile_keys.specs.Table.{keys}
use Rattle.pb_profile_keys.specs.declared.key.ProfileKey.{ProfileKey}
use Rattle.pb_manifest_types.specs.declared.key.Key.TheVariants as key
use Rattle.pb_manifest.specs.Binaries.{binary_keys}
use Rattle.pb_manifest.specs.Dependencies as dependency
use Rattle.pb_manifest.specs.Document.{document_of, targets_of, tables_of}
use Rattle.pb_manifest.specs.Library.{library_of}
use Rattle.pb_manifest.specs.OwnKeys.{SameAt, DependsOnlyOn, of_package, of_library, of_binary, of_dependency, of_settings, of_profile, of_workspace, of_inherited, of_document}
use Rattle.pb_manifest.specs.Package.{package_of}
use Rattle.pb_manifest.specs.Profiles.{settings_at, profile_keys, profile_of_table}
use Rattle.pb_manifest_types.specs.Values.{Text}
use Rattle.pb_manifest.specs.Workspace.{workspace_of, workspace_package_of}

pub package_looks : DependsOnlyOn of_package package_of
package_looks ms ns (a, (b, (c, (d, (e, (f, (g, (h, (i, (j, (k, (l, (m, (n, (o, end))))))))))))))) = simp (a, b, c, d, e, f, g, h, i, j, k, l, m, n, o)

pub library_looks : DependsOnlyOn of_library library_of
library_looks ms ns (a, (b, (c, (d, end)))) = simp (a, b, c, d)

pub binary_looks : DependsOnlyOn of_binary binary_keys
binary_looks ms ns (a, (b, (c, end))) = simp (a, b, c)

pub dependency_looks : (name : Text) → DependsOnlyOn of_dependency (dependency.dependency_keys name)
dependency_looks name ms ns (a, (b, (c, (d, (e, (f, (g, (h, (i, end))))))))) = simp (a, b, c, d, e, f, g, h, i)

pub shared_dependency_looks : (name : Text) → DependsOnlyOn of_dependency (dependency.shared_dependency_keys name)
shared_dependency_looks name ms ns (a, (b, (c, (d, (e, (f, (g, (h, (i, end))))))))) = simp (a, b, c, d, e, f, g, h, i)

settings_same : (ks : List ProfileKey) (ms ns : Members) → SameAt (map key.OfProfile ks) ms ns → settings_at ks ms ≡ settings_at ks ns
settings_same [] ms ns same = refl
settings_same (k ∷ ks) ms ns (here, rest) = simp (here, settings_same ks ms ns rest)

pub settings_look : DependsOnlyOn of_settings profile_keys
unfolding profile_keys
settings_look ms ns same = settings_same keys ms ns same

pub profile_looks : (name : Text) → DependsOnlyOn of_profile (profile_of_table name)
profile_looks name ms ns (a, (b, (c, rest))) = simp (a, b, c, settings_look ms ns rest)

pub workspace_looks : DependsOnlyOn of_workspace workspace_of
workspace_looks ms ns (a, (b, (c, (d, (e, (f, end)))))) = simp (a, b, c, d, e, f)

pub inherited_looks : DependsOnlyOn of_inherited workspace_package_of
inherited_looks ms ns (a, (b, (c, (d, (e, (f, (g, (h, (i, (j, end)))))))))) = simp (a, b, c, d, e, f, g, h, i, j)

pub document_looks : DependsOnlyOn of_document document_of
unfolding document_of targets_of tables_of
document_looks ms ns (a, (b, (c, (d, (e, (f, (g, (h, (i, (j, (k, (l, end)))))))))))) = simp (a, b, c, d, e, f, g, h, i, j, k, l)
