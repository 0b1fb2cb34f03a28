-- The indices that are chosen are indices of packages.
use Rattle.std.proofs.Common.{◌≡◌, ◌≤◌, ◌<◌, ℕ, ◌+◌, List, [], ◌∷◌, length, Bool, true, false, not, ◌==◌, if◌then◌else◌, Option, Some, None, IfSome, All, Ok, Err, subst, arith}
use Rattle.std.proofs.lemmas.List.Elements.{All-from_recursion, recursion_from_All}
use Rattle.std.specs.List.{AllByRecursion}
use Rattle.pb_workspace_types.specs.declared.fault.LoadFault.TheVariants.{NoSuchPackage}
use Rattle.pb_workspace_types.specs.declared.options.Options.{Options}
use Rattle.pb_workspace_types.specs.declared.options.Selection.{Selection}
use Rattle.pb_workspace_types.specs.declared.package.Package.{Package}
use Rattle.pb_workspace_types.specs.declared.workspace.DefaultMembers.{DefaultMembers}
use Rattle.pb_workspace_types.specs.declared.workspace.DefaultMembers.TheVariants.{Unwritten, Named, Unknown}
use Rattle.pb_workspace_types.specs.declared.workspace.Workspace.{Workspace}
use Rattle.pb_workspace.specs.Selected.{by_default, members_of, name_members, named_members, is_named_member, indices_from, root_or_members, selected, selected_packages, selection_of}
use Rattle.pb_workspace_types.specs.Settled.{IfNamed, IsSettled}
use Rattle.pb_workspace.proofs.FoldersPut.{opened}

pub places_below : (test : Package → Bool) (n count : ℕ) (ps : List Package) → n + length ps ≤ count → AllByRecursion (λ p. p < count) (indices_from test n ps)
places_below test n count [] fits = tt
places_below test n count (p ∷ ps) fits = by (test p) (places_below test (n + 1) count ps (omega arith))
  where
    by : (b : Bool) → AllByRecursion (λ q. q < count) (indices_from test (n + 1) ps) → AllByRecursion (λ q. q < count) (if b then n ∷ indices_from test (n + 1) ps else indices_from test (n + 1) ps)
    by true rest = (omega arith, rest)
    by false rest = rest

module _ (ws : Workspace) (settled : IsSettled ws) where
  abbrev Below : List ℕ → Type 0
  Below indices = AllByRecursion (λ p. p < length ws.packages) indices

  all_places : (test : Package → Bool) → Below (indices_from test 0 ws.packages)
  all_places test = places_below test 0 (length ws.packages) ws.packages (omega arith)

  named_below : (names : List (List ℕ)) (indices : List ℕ) → named_members names ws.packages ≡ Ok indices → Below indices
  named_below names indices is = by (name_members names ws.packages) is
    where
      by : (b : Bool) → (if b then Ok (indices_from (is_named_member names) 0 ws.packages) else Err NoSuchPackage) ≡ Ok indices → Below indices
      by true h = let same : indices_from (is_named_member names) 0 ws.packages ≡ indices = cc in subst Below same (all_places (is_named_member names))
      by false h = cc

  default_below : (indices : List ℕ) → by_default ws.default_members ws.root_package ws.packages ≡ Ok indices → Below indices
  default_below indices is = by ws.default_members ws.root_package settled.defaults settled.root is
    where
      root_below : (root : Option ℕ) → IfSome root (λ p. p < length ws.packages) → Below (root_or_members root ws.packages)
      root_below None there = all_places (λ p. p.is_member)
      root_below (Some index) there = (there, tt)

      by : (members : DefaultMembers) (root : Option ℕ) → IfNamed members (All (λ p. p < length ws.packages)) → IfSome root (λ p. p < length ws.packages) → by_default members root ws.packages ≡ Ok indices → Below indices
      by Unwritten root named there h = let same : root_or_members root ws.packages ≡ indices = cc in subst Below same (root_below root there)
      by (Named some) root named there h = let same : some ≡ indices = cc in subst Below same (recursion_from_All (λ p. p < length ws.packages) some named)
      by Unknown root named there h = cc

  packages_below : (all : Bool) (names : List (List ℕ)) (indices : List ℕ) → selected_packages ws all names ≡ Ok indices → Below indices
  packages_below true names indices is = let same : members_of ws.packages ≡ indices = cc in subst Below same (all_places (λ p. p.is_member))
  packages_below false names indices is = by (not (length names == 0)) is
    where
      by : (b : Bool) → (if b then named_members names ws.packages else by_default ws.default_members ws.root_package ws.packages) ≡ Ok indices → Below indices
      by true h = named_below names indices h
      by false h = default_below indices h

  pub selected_below : (o : Options) (selection : Selection) → selected ws o ≡ Ok selection → All (λ p. p < length ws.packages) selection.packages
  selected_below o selection is =
      let h = opened (selected_packages ws o.workspace o.packages) (λ indices. Ok (selection_of o indices)) selection is in
      let same : selection_of o h.0 ≡ selection = cc (h.2) in
      subst (λ (s : Selection). All (λ p. p < length ws.packages) s.packages) same (All-from_recursion _ h.0 (packages_below o.workspace o.packages h.0 h.1))
