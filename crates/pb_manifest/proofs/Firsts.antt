-- A table tells the first fault of its keys.
use Rattle.std.proofs.Common.{◌≡◌, Option, Some, None, Ok, Err, Bool, true, false, ◌&&◌, not, refl, ◌∙◌}
use Rattle.std.specs.Option.{option_or}
use Rattle.toml.specs.Data.{Members}
use Rattle.pb_data.specs.UnlessOom.{◌>>=◌}
use Rattle.pb_manifest_types.specs.declared.fault.ManifestFault.{ManifestFault}
use Rattle.pb_manifest_types.specs.declared.key.Key.TheVariants as key
use Rattle.pb_manifest_types.specs.Values.{Text, Read}
use Rattle.pb_manifest.specs.Values.{has, takes_workspace, text_at, truth_at, path_at, listed_texts_at, inheritable_text_at, inheritable_texts_at, texts_at, paths_at}
use Rattle.pb_manifest.specs.Versions.{inherited_version_at, version_at, requirement_at}
use Rattle.pb_manifest.specs.Binaries.{binary_keys}
use Rattle.pb_manifest.specs.Dependencies as dependency
use Rattle.pb_manifest.specs.Library.{library_of, crate_types_at, crate_name_at, proc_macro_at}
use Rattle.pb_manifest.specs.Package as package_table
use Rattle.pb_manifest.specs.Package.{name_at, build_at, inherited_edition_at, inheritable_readme_at, resolver_at, edition_at, readme_at}
use Rattle.pb_manifest.specs.Dependencies.{shared_dependencies_at, refused_where, own_path, workspace_at}
use Rattle.pb_manifest.specs.Workspace.{listed_paths_at, workspace_package_at}
use Rattle.pb_manifest.specs.Workspace as workspace_table
use Rattle.pb_manifest.specs.FirstFaults.{told, first_fault, faults_of_package, faults_of_library, faults_of_binary, faults_of_dependency, faults_of_shared_dependency, faults_of_inherited, faults_of_workspace}

or_assoc : {A : Type 0} (a b c : Option A) → option_or (option_or a b) c ≡ option_or a (option_or b c)
or_assoc None b c = refl
or_assoc (Some x) b c = refl

or_none : {A : Type 0} (a : Option A) → option_or a None ≡ a
or_none None = refl
or_none (Some x) = refl

-- readings one after another, none of which looks at what another gave: the first fault
three : {A B C D : Type 0} (p : Read A) (q : Read B) (r : Read C) (f : A → B → C → D)
    → told (p >>= (λ a. q >>= (λ b. r >>= (λ c. Ok (f a b c))))) ≡ option_or (told p) (option_or (told q) (option_or (told r) None))
three (Err e) q r f = refl
three (Ok a) (Err e) r f = refl
three (Ok a) (Ok b) (Err e) f = refl
three (Ok a) (Ok b) (Ok c) f = refl

four : {A B C D E : Type 0} (p : Read A) (q : Read B) (r : Read C) (s : Read D) (f : A → B → C → D → E)
    → told (p >>= (λ a. q >>= (λ b. r >>= (λ c. s >>= (λ d. Ok (f a b c d)))))) ≡ option_or (told p) (option_or (told q) (option_or (told r) (option_or (told s) None)))
four (Err e) q r s f = refl
four (Ok a) q r s f = three q r s (f a)

five : {A B C D E F : Type 0} (p : Read A) (q : Read B) (r : Read C) (s : Read D) (t : Read E) (f : A → B → C → D → E → F)
    → told (p >>= (λ a. q >>= (λ b. r >>= (λ c. s >>= (λ d. t >>= (λ e. Ok (f a b c d e)))))))
    ≡ option_or (told p) (option_or (told q) (option_or (told r) (option_or (told s) (option_or (told t) None))))
five (Err e) q r s t f = refl
five (Ok a) q r s t f = four q r s t (f a)

six : {A B C D E F G : Type 0} (p : Read A) (q : Read B) (r : Read C) (s : Read D) (t : Read E) (u : Read F) (f : A → B → C → D → E → F → G)
    → told (p >>= (λ a. q >>= (λ b. r >>= (λ c. s >>= (λ d. t >>= (λ e. u >>= (λ g. Ok (f a b c d e g))))))))
    ≡ option_or (told p) (option_or (told q) (option_or (told r) (option_or (told s) (option_or (told t) (option_or (told u) None)))))
six (Err e) q r s t u f = refl
six (Ok a) q r s t u f = five q r s t u (f a)

-- groups of readings one after another
two_groups : {A B C : Type 0} (p : Read A) (q : Read B) (f : A → B → C) → told (p >>= (λ a. q >>= (λ b. Ok (f a b)))) ≡ option_or (told p) (told q)
two_groups (Err e) q f = refl
two_groups (Ok a) (Err e) f = refl
two_groups (Ok a) (Ok b) f = refl

three_groups : {A B C D : Type 0} (p : Read A) (q : Read B) (r : Read C) (f : A → B → C → D)
    → told (p >>= (λ a. q >>= (λ b. r >>= (λ c. Ok (f a b c))))) ≡ option_or (told p) (option_or (told q) (told r))
three_groups (Err e) q r f = refl
three_groups (Ok a) q r f = two_groups q r (f a)

pub library_first : (ms : Members) → told (library_of ms) ≡ first_fault (faults_of_library ms)
library_first ms = four (crate_types_at ms) (crate_name_at ms) (path_at key.Path ms) (proc_macro_at ms) _

pub binary_first : (ms : Members) → told (binary_keys ms) ≡ first_fault (faults_of_binary ms)
binary_first ms = three (name_at ms) (path_at key.Path ms) (listed_texts_at key.RequiredFeatures ms) _

package_firsts : (ms : Members) → told (package_table.first_keys ms)
    ≡ option_or (told (inheritable_texts_at key.Authors ms)) (option_or (told (truth_at key.Autobins ms)) (option_or (told (build_at ms)) (option_or (told (inheritable_text_at key.Description ms)) (option_or (told (inherited_edition_at ms)) None))))
package_firsts ms = five (inheritable_texts_at key.Authors ms) (truth_at key.Autobins ms) (build_at ms) (inheritable_text_at key.Description ms) (inherited_edition_at ms) _

package_middles : (ms : Members) → told (package_table.middle_keys ms)
    ≡ option_or (told (inheritable_text_at key.Homepage ms)) (option_or (told (inheritable_text_at key.License ms)) (option_or (told (inheritable_text_at key.LicenseFile ms)) (option_or (told (text_at key.Links ms)) (option_or (told (name_at ms)) None))))
package_middles ms = five (inheritable_text_at key.Homepage ms) (inheritable_text_at key.License ms) (inheritable_text_at key.LicenseFile ms) (text_at key.Links ms) (name_at ms) _

package_lasts : (ms : Members) → told (package_table.last_keys ms)
    ≡ option_or (told (inheritable_readme_at ms)) (option_or (told (inheritable_text_at key.Repository ms)) (option_or (told (resolver_at ms)) (option_or (told (inheritable_text_at key.RustVersion ms)) (option_or (told (inherited_version_at ms)) None))))
package_lasts ms = five (inheritable_readme_at ms) (inheritable_text_at key.Repository ms) (resolver_at ms) (inheritable_text_at key.RustVersion ms) (inherited_version_at ms) _

-- groups whose faults are known
joined : (x y x' y' : Option ManifestFault) → x ≡ x' → y ≡ y' → option_or x y ≡ option_or x' y'
joined x y x' y' is_x is_y = rw (is_x, is_y) refl

pub package_first : (ms : Members) → told (package_table.package_of ms) ≡ first_fault (faults_of_package ms)
package_first ms =
    three_groups (package_table.first_keys ms) (package_table.middle_keys ms) (package_table.last_keys ms) _
    ∙ (joined _ _ _ _ (package_firsts ms) (joined _ _ _ _ (package_middles ms) (package_lasts ms)) ∙ simp or_assoc)

inherited_firsts : (ms : Members) → told (workspace_table.first_keys ms)
    ≡ option_or (told (texts_at key.Authors ms)) (option_or (told (text_at key.Description ms)) (option_or (told (edition_at ms)) (option_or (told (text_at key.Homepage ms)) (option_or (told (text_at key.License ms)) None))))
inherited_firsts ms = five (texts_at key.Authors ms) (text_at key.Description ms) (edition_at ms) (text_at key.Homepage ms) (text_at key.License ms) _

inherited_lasts : (ms : Members) → told (workspace_table.last_keys ms)
    ≡ option_or (told (text_at key.LicenseFile ms)) (option_or (told (readme_at ms)) (option_or (told (text_at key.Repository ms)) (option_or (told (text_at key.RustVersion ms)) (option_or (told (version_at ms)) None))))
inherited_lasts ms = five (text_at key.LicenseFile ms) (readme_at ms) (text_at key.Repository ms) (text_at key.RustVersion ms) (version_at ms) _

pub inherited_first : (ms : Members) → told (workspace_table.workspace_package_of ms) ≡ first_fault (faults_of_inherited ms)
inherited_first ms = two_groups (workspace_table.first_keys ms) (workspace_table.last_keys ms) _ ∙ (joined _ _ _ _ (inherited_firsts ms) (inherited_lasts ms) ∙ simp or_assoc)

pub workspace_first : (ms : Members) → told (workspace_table.workspace_of ms) ≡ first_fault (faults_of_workspace ms)
workspace_first ms = six (paths_at key.DefaultMembers ms) (shared_dependencies_at ms) (listed_paths_at key.Exclude ms) (listed_paths_at key.Members ms) (workspace_package_at ms) (resolver_at ms) _

-- an entry's first five keys; `git` is told where it is not kept
dependency_firsts : (keeps : Bool) (ms : Members) → told (dependency.first_keys keeps ms)
    ≡ option_or (told (truth_at key.DefaultFeatures ms)) (option_or (told (listed_texts_at key.Features ms)) (option_or (told (refused_where (has key.Git ms && not keeps))) (option_or (told (truth_at key.Optional ms)) (option_or (told (text_at key.Package ms)) None))))
dependency_firsts keeps ms = five (truth_at key.DefaultFeatures ms) (listed_texts_at key.Features ms) (refused_where (has key.Git ms && not keeps)) (truth_at key.Optional ms) (text_at key.Package ms) _

-- a requirement and then the word `workspace`, whose answer is dropped
version_and_workspace_told : (ms : Members) → told (dependency.version_and_workspace ms) ≡ option_or (told (requirement_at ms)) (told (workspace_at ms))
version_and_workspace_told ms = two_groups (requirement_at ms) (workspace_at ms) (λ version inherited. version)

-- a path and what has to be said of it, and then a source and the rest
path_told : {A B C D E : Type 0} (p : Read A) (own : A → Read B) (q : Read C) (r : Read D) (f : B → C → D → E)
    → told (p >>= (λ a. own a >>= (λ b. q >>= (λ c. r >>= (λ d. Ok (f b c d)))))) ≡ option_or (told (p >>= own)) (option_or (told q) (told r))
path_told (Err e) own q r f = refl
path_told (Ok a) own q r f = three_groups (own a) q r f

dependency_lasts : (ms : Members) → told (dependency.last_keys ms)
    ≡ option_or (told (path_at key.Path ms >>= own_path (takes_workspace ms))) (option_or (told (refused_where (has key.Registry ms))) (option_or (told (requirement_at ms)) (told (workspace_at ms))))
dependency_lasts ms =
    path_told (path_at key.Path ms) (own_path (takes_workspace ms)) (refused_where (has key.Registry ms)) (dependency.version_and_workspace ms) _
    ∙ rw (version_and_workspace_told ms) refl

kept_or_not : (b : Bool) → (b && not false) ≡ b
kept_or_not true = refl
kept_or_not false = refl

own_firsts : (ms : Members) → told (dependency.first_keys false ms)
    ≡ option_or (told (truth_at key.DefaultFeatures ms)) (option_or (told (listed_texts_at key.Features ms)) (option_or (told (refused_where (has key.Git ms))) (option_or (told (truth_at key.Optional ms)) (option_or (told (text_at key.Package ms)) None))))
own_firsts ms = dependency_firsts false ms ∙ rw (kept_or_not (has key.Git ms)) refl

pub dependency_first : (name : Text) (ms : Members) → told (dependency.dependency_keys name ms) ≡ first_fault (faults_of_dependency ms)
dependency_first name ms =
    two_groups (dependency.first_keys false ms) (dependency.last_keys ms) _
    ∙ (joined _ _ _ _ (own_firsts ms) (dependency_lasts ms) ∙ simp (or_assoc, or_none))

-- an entry of the workspace's keeps `git`, so it tells nothing of it
kept_tells : (b : Bool) → told (refused_where (b && not true)) ≡ None
kept_tells true = refl
kept_tells false = refl

shared_firsts : (ms : Members) → told (dependency.first_keys true ms)
    ≡ option_or (told (truth_at key.DefaultFeatures ms)) (option_or (told (listed_texts_at key.Features ms)) (option_or (told (truth_at key.Optional ms)) (option_or (told (text_at key.Package ms)) None)))
shared_firsts ms = dependency_firsts true ms ∙ rw (kept_tells (has key.Git ms)) refl

shared_lasts : (ms : Members) → told (dependency.shared_keys ms) ≡ option_or (told (path_at key.Path ms)) (option_or (told (requirement_at ms)) (told (workspace_at ms)))
shared_lasts ms = two_groups (path_at key.Path ms) (dependency.version_and_workspace ms) _ ∙ rw (version_and_workspace_told ms) refl

pub shared_dependency_first : (name : Text) (ms : Members) → told (dependency.shared_dependency_keys name ms) ≡ first_fault (faults_of_shared_dependency ms)
shared_dependency_first name ms =
    two_groups (dependency.first_keys true ms) (dependency.shared_keys ms) _
    ∙ (joined _ _ _ _ (shared_firsts ms) (shared_lasts ms) ∙ simp (or_assoc, or_none))
