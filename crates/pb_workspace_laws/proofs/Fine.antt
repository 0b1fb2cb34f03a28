-- What is so of the packages of a workspace that is not refused.
use Rattle.std.proofs.Common.{◌≡◌, ℕ, Bool, true, false, not, if◌then◌else◌, List, Option, Some, None, IfSome, refl}
use Rattle.std.specs.List.{list_any}
use Rattle.pb_manifest_types.specs.Versions.{matches}
use Rattle.pb_workspace_types.specs.declared.fault.LoadFault.TheVariants.{SameName, NameMismatch, VersionMismatch, LinksTwice, LinksWithoutScript, SameBinary}
use Rattle.pb_workspace.specs.Checks.{fault_of, has_same_names, some_leads, has_other_name, has_other_version, links_twice, links_without_script, matches_if}
use Rattle.pb_workspace_package.specs.declared.unresolved_package.UnresolvedPackage.{UnresolvedPackage}

-- nothing is wrong with any package
pub record AreFine (drafts : List UnresolvedPackage) : Type 0 where
  pub apart : has_same_names drafts ≡ false
  pub binaries : list_any (λ (d : UnresolvedPackage). d.has_same_binaries) drafts ≡ false
  pub names : some_leads has_other_name drafts ≡ false
  pub versions : some_leads has_other_version drafts ≡ false

pub fine_so : (drafts : List UnresolvedPackage) → fault_of drafts ≡ None → AreFine drafts
unfolding fault_of
fine_so drafts is =
    by (has_same_names drafts) (some_leads has_other_name drafts) (some_leads has_other_version drafts) (links_twice drafts) (list_any links_without_script drafts) (list_any (λ (d : UnresolvedPackage). d.has_same_binaries) drafts) refl refl refl refl is
  where
    by : (a b c x y z : Bool) → has_same_names drafts ≡ a → some_leads has_other_name drafts ≡ b → some_leads has_other_version drafts ≡ c → list_any (λ (d : UnresolvedPackage). d.has_same_binaries) drafts ≡ z
        → (if a then Some SameName else (if b then Some NameMismatch else (if c then Some VersionMismatch else (if x then Some LinksTwice else (if y then Some LinksWithoutScript else (if z then Some SameBinary else None)))))) ≡ None → AreFine drafts
    by true b c x y z one two three six h = cc
    by false true c x y z one two three six h = cc
    by false false true x y z one two three six h = cc
    by false false false true y z one two three six h = cc
    by false false false false true z one two three six h = cc
    by false false false false false true one two three six h = cc
    by false false false false false false one two three six h = record { apart = one; binaries = six; names = two; versions = three }

pub not_off : (b : Bool) → not b ≡ false → b ≡ true
not_off true h = refl
not_off false h = cc

pub matched : (version : Option (List ℕ)) (own : List ℕ) → matches_if version own ≡ true → IfSome version (λ requirement. matches requirement own ≡ true)
matched None own is = tt
matched (Some requirement) own is = is
