-- A key that no rule names never changes an answer.
use Rattle.std.proofs.Common.{◌≡◌, ◌≢◌, true, false, Bool, ap, sym, ◌∙◌, refl, if◌then◌else◌, Option, Some}
use Rattle.std.specs.declared.cmp.Ordering.{Ordering}
use Rattle.std.specs.declared.cmp.Ordering.TheVariants.{Less, Equal, Greater}
use Rattle.std.specs.Ordering.{nat_cmp, is_eq, match_ordering}
use Rattle.std.specs.Cmp.Lexicographic.{slice_cmp}
use Rattle.std.specs.FinMap.{slice_cmp-IsAntisymmetric, nat_cmp-IsAntisymmetric}
use Rattle.toml.specs.Data.{Data, Members, no_members, member, get_member, same_key}
use Rattle.pb_manifest_types.specs.Keys.{spelled}
use Rattle.pb_manifest_types.specs.Values.{Text, Read}
use Rattle.pb_manifest.specs.Values.{value_at}
use Rattle.pb_manifest.specs.Laws.{IsUnnamed, without}
use Rattle.pb_manifest.specs.Binaries.{binary_keys}
use Rattle.pb_manifest.specs.Dependencies as dependency
use Rattle.pb_manifest.specs.Document.{document_of, targets_of, tables_of}
use Rattle.pb_manifest.specs.Library.{library_of}
use Rattle.pb_manifest.specs.Package.{package_of}
use Rattle.pb_manifest.specs.Profiles.{profile_keys, profile_of_table}
use Rattle.pb_manifest.specs.Workspace as workspace
use Rattle.pb_manifest_types.specs.declared.key.Key.{Key}

equal_from_is : (o : Ordering) → is_eq o ≡ true → o ≡ Equal
equal_from_is Less h = cc
equal_from_is Equal h = refl
equal_from_is Greater h = cc

one_key : (k l : Text) → same_key k l ≡ true → k ≡ l
one_key k l h = slice_cmp-IsAntisymmetric nat_cmp-IsAntisymmetric k l (equal_from_is (slice_cmp nat_cmp k l) h)

passed : (o : Ordering) (found : Option Data) (d : Data) → o ≢ Equal → found ≡ match_ordering o found (Some d) found
passed Less found d h = refl
passed Equal found d h = absurd (h refl)
passed Greater found d h = refl

-- the entry for a key of other bytes is passed over
get_past : (k l : Text) (d : Data) (ms : Members) → k ≢ l → get_member k ms ≡ get_member k (member l d ms)
get_past k l d ms other = passed (slice_cmp nat_cmp k l) (get_member k ms) d (λ same. other (slice_cmp-IsAntisymmetric nat_cmp-IsAntisymmetric k l same))

pick : (k name l : Text) (d : Data) (rest ms : Members) → k ≢ name → get_member k rest ≡ get_member k ms
    → (b : Bool) → same_key name l ≡ b → get_member k (if b then rest else member l d rest) ≡ get_member k (member l d ms)
pick k name l d rest ms other more true is = more ∙ get_past k l d ms (λ same. other (same ∙ sym (one_key name l is)))
pick k name l d rest ms other more false is = ap (λ (found : Option Data). match_ordering (slice_cmp nat_cmp k l) found (Some d) found) more

-- a look-up of another key finds what it found
get_without : (k name : Text) (ms : Members) → k ≢ name → get_member k (without name ms) ≡ get_member k ms
unfolding without
get_without k name no_members other = refl
get_without k name (member l d ms) other = pick k name l d (without name ms) ms other (get_without k name ms other) (same_key name l) refl

-- the two tables say the same of every key that a rule names
pub record SameNamed (ms ns : Members) : Type 0 where
  pub at : (k : Key) → value_at k ms ≡ value_at k ns

pub same_without : (name : Text) (ms : Members) → IsUnnamed name → SameNamed (without name ms) ms
same_without name ms unnamed = record { at = λ k. get_without (spelled k) name ms (unnamed k) }

abbrev pub LooksAtNamed : {A : Type 0} → (Members → Read A) → Type 0
LooksAtNamed read = (ms ns : Members) → SameNamed ms ns → read ms ≡ read ns

pub package_looks : LooksAtNamed package_of
package_looks ms ns same = simp (same.at)

pub library_looks : LooksAtNamed library_of
library_looks ms ns same = simp (same.at)

pub binary_looks : LooksAtNamed binary_keys
binary_looks ms ns same = simp (same.at)

pub dependency_looks : (name : Text) → LooksAtNamed (dependency.dependency_keys name)
dependency_looks name ms ns same = simp (same.at)

pub shared_dependency_looks : (name : Text) → LooksAtNamed (dependency.shared_dependency_keys name)
shared_dependency_looks name ms ns same = simp (same.at)

pub settings_look : LooksAtNamed profile_keys
unfolding profile_keys
settings_look ms ns same = simp (same.at)

pub profile_looks : (name : Text) → LooksAtNamed (profile_of_table name)
profile_looks name ms ns same = simp (same.at, settings_look ms ns same)

pub workspace_looks : LooksAtNamed workspace.workspace_of
workspace_looks ms ns same = simp (same.at)

pub inherited_looks : LooksAtNamed workspace.workspace_package_of
inherited_looks ms ns same = simp (same.at)

pub document_looks : LooksAtNamed document_of
unfolding document_of targets_of tables_of
document_looks ms ns same = simp (same.at)
