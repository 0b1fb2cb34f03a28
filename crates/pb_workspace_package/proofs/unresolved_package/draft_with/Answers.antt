use Rattle.std.proofs.Common.{◌≡◌, ℕ, Bool, List, Ok, Option, Result, IfOk, map, sym, subst, ap, ◌∙◌}
use Rattle.std.specs.declared.alloc.AllocError.{AllocError}
use Rattle.pb_data.specs.UnlessOom.{◌>>=◌, UnlessOom}
use Rattle.pb_manifest_types.specs.declared.dependency.Dependency.{Dependency}
use Rattle.pb_manifest_types.specs.declared.target.Binary.{Binary}
use Rattle.pb_manifest_types.specs.declared.target.Library.{Library}
use Rattle.pb_place_types.specs.World.{World}
use Rattle.pb_workspace_types.specs.Settled.{IsAscending}
use Rattle.pb_workspace_types.specs.declared.fault.LoadFault.{LoadFault}
use Rattle.pb_workspace_types.specs.declared.fault.LoadFault.TheVariants.{OutOfMemory}
use Rattle.pb_workspace_package.specs.declared.unresolved_package.UnresolvedPackage.{UnresolvedPackage}
use Rattle.pb_workspace_package.specs.declared.unresolved_package.Lists.{Lists}
use Rattle.pb_workspace_package.specs.declared.unresolved_package.Tables.{Tables}
use Rattle.pb_workspace_package.specs.declared.keys.Keys.{Keys}
use Rattle.pb_workspace_package.specs.declared.listings.Listings.{Listings}
use Rattle.pb_workspace_package.specs.declared.settling.Given.{Given}
use Rattle.pb_workspace_package.specs.declared.settling.Targets.{Targets}
use Rattle.pb_workspace_package.specs.declared.wanted.PackageLocation.{PackageLocation}
use Rattle.pb_workspace_package.specs.Drafts.{lists_of, draft_from, draft_with}
use Rattle.pb_workspace_package.specs.Listings.{AreListingsOf}
use Rattle.pb_workspace_package.specs.Settling.{targets_of}
use Rattle.pb_workspace_package.proofs.unresolved_package.draft_with.Goals as goal

pub lists_of-lists-requires-clause-normal_order : goal.lists_of-lists-requires-clause-normal_order
lists_of-lists-requires-clause-normal_order c = subst (λ ds. IsAscending (map (λ (d : Dependency). d.key) ds)) (sym c.as_slice.ensures) c.requires.promised.4

pub lists_of-lists-requires-clause-build_order : goal.lists_of-lists-requires-clause-build_order
lists_of-lists-requires-clause-build_order c = subst (λ ds. IsAscending (map (λ (d : Dependency). d.key) ds)) (sym c.as_slice-2.ensures) c.requires.promised.5

abbrev First : Type 0
First = PackageLocation × Keys × Option Library × List Binary × List (List ℕ)

abbrev Second : Type 0
Second = PackageLocation × Keys × Lists × List (List ℕ)

-- the steps over plain values: they were kept by two calls, and given to the last
drafted : (sources : World) (at : PackageLocation) (member : Bool) (given : Given) (t : Tables) (keys : Keys) (listings : Listings) (made : UnresolvedPackage)
    (ds bs : List Dependency) (xs : List Binary) (at1 : PackageLocation) (keys1 : Keys) (library : Option Library) (binaries : List Binary) (development : List (List ℕ)) (lists : Lists)
    (at2 : PackageLocation) (keys2 : Keys) (lists2 : Lists) (development2 : List (List ℕ)) (targets : Targets)
    → ds ≡ t.dependencies → bs ≡ t.build_dependencies → xs ≡ t.binaries → lists_of at given ds bs t.features xs ≡ Ok lists
    → ◌≡◌ {A = First} (at1, keys1, library, binaries, development) (at, keys, t.library, t.binaries, t.dev_dependencies) → ◌≡◌ {A = Second} (at2, keys2, lists2, development2) (at1, keys1, lists, development)
    → AreListingsOf at.folder sources listings
    → (AreListingsOf at1.folder sources listings → targets ≡ targets_of at1.folder sources keys1.name keys1.autobins keys1.build library binaries)
    → made ≡ draft_from at2 member keys2 lists2 development2 targets → draft_with sources at member given t keys ≡ Ok made
unfolding draft_with
drafted sources at member given t keys listings made ds bs xs at1 keys1 library binaries development lists at2 keys2 lists2 development2 targets d b x told first second seen found is =
    let them = found (subst (λ (p : First). AreListingsOf p.0.folder sources listings) (sym first) seen) in
    let there : lists_of at given t.dependencies t.build_dependencies t.features t.binaries ≡ Ok lists = cc in
    let whole = is ∙ ap (λ (p : Second). draft_from p.0 member p.1 p.2 p.3 targets) second ∙ ap (λ (x : Targets). draft_from at1 member keys1 lists development x) them
    ∙ ap (λ (p : First). draft_from p.0 member p.1 lists p.4 (targets_of p.0.folder sources p.1.name p.1.autobins p.1.build p.2 p.3)) first in
    ap (λ (r : Result Lists LoadFault). r >>= (λ l. Ok (draft_from at member keys l t.dev_dependencies (targets_of at.folder sources keys.name keys.autobins keys.build t.library t.binaries)))) there ∙ ap Ok (sym whole)

pub returns-clause-told : goal.returns-clause-told
returns-clause-told c sources seen =
    let told = subst (λ (r : Result Lists LoadFault). UnlessOom OutOfMemory (λ x. x) r (lists_of c.args.at c.args.given.now c.as_slice.result.now c.as_slice-2.result.now c.args.tables.features c.as_slice-3.result.now))
    c.in_ok-at.ensures.both.1 c.lists_of-lists.ensures.told in
    let found = λ (here : AreListingsOf c.in_ok-at.at.folder sources c.args.listings.now). subst (λ (r : Result Targets AllocError). IfOk r (λ t. t ≡ targets_of c.in_ok-at.at.folder sources c.in_ok-at.keys.name c.in_ok-at.keys.autobins c.in_ok-at.keys.build c.in_ok-at.library c.in_ok-at.binaries))
    c.in_ok-at-2.ensures.both.1 (c.targets_of-targets.ensures.ok sources here) in
    drafted sources c.args.at c.args.is_member c.args.given.now c.args.tables c.args.keys c.args.listings.now c.draft_from.result c.as_slice.result.now c.as_slice-2.result.now c.as_slice-3.result.now
    c.in_ok-at.at c.in_ok-at.keys c.in_ok-at.library c.in_ok-at.binaries c.in_ok-at.development c.in_ok-at.lists c.in_ok-at-2.at c.in_ok-at-2.keys c.in_ok-at-2.lists c.in_ok-at-2.development c.in_ok-at-2.targets
    c.as_slice.ensures c.as_slice-2.ensures c.as_slice-3.ensures told c.in_ok-at.ensures.both.0 c.in_ok-at-2.ensures.both.0 seen found c.draft_from.ensures
