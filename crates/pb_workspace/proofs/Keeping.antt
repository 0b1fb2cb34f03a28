-- What is put together keeps its names and its order.
use Rattle.std.proofs.Common.{◌≡◌, IfSome, ◌≤◌, ◌<◌, ℕ, ◌+◌, List, [], ◌∷◌, ◌++◌, length, map, Bool, true, false, ◌||◌, Option, Some, None, All, Ok, cond, refl, sym, ap, ◌∙◌, subst, arith, if◌then◌else◌}
use Rattle.std.proofs.lemmas.List.{length-map}
use Rattle.std.proofs.lemmas.List.Elements.{All-from_recursion}
use Rattle.std.proofs.lemmas.List.Folds.{list_any-append}
use Rattle.std.proofs.lemmas.Map.Entries.{All-lookup}
use Rattle.std.specs.List.{AllByRecursion, IsDistinct, list_all}
use Rattle.std.specs.Map.{lookup}
use Rattle.std.specs.Option.{unwrap_or}
use Rattle.std.specs.BTreeMap.{is_at}
use Rattle.std.specs.Cmp.Lexicographic.{slice_cmp}
use Rattle.std.specs.Ordering.{nat_cmp}
use Rattle.std.specs.Str.{bytes_eq}
use Rattle.pb_data.specs.OrderedSet.{is_mentioned}
use Rattle.pb_data.proofs.MentionLemmas.{bytes_eq_comm}
use Rattle.pb_manifest_types.specs.Letters.{is_name}
use Rattle.pb_manifest_types.specs.declared.profile.Profile.{Profile}
use Rattle.pb_workspace_package.specs.declared.unresolved_package.UnresolvedPackage.{UnresolvedPackage}
use Rattle.pb_workspace_types.specs.declared.fault.LoadFault.{LoadFault}
use Rattle.pb_workspace_types.specs.declared.fault.LoadFault.TheVariants.{SameName}
use Rattle.pb_workspace.specs.declared.workspace_root.WorkspaceRoot.{WorkspaceRoot}
use Rattle.pb_workspace_types.specs.declared.package.Entry.{Entry}
use Rattle.pb_workspace_types.specs.declared.package.Package.{Package}
use Rattle.pb_workspace.specs.declared.rounds.LoadState.{LoadState}
use Rattle.pb_workspace_package.specs.declared.wanted.Wanted.{Wanted}
use Rattle.pb_workspace_types.specs.declared.workspace.DefaultMembers.TheVariants.{Named, Unknown}
use Rattle.pb_workspace_types.specs.declared.workspace.Workspace.{Workspace}
use Rattle.pb_workspace.specs.Selected.{indices_where}
use Rattle.pb_workspace.specs.Assembled.{assembled, default_members_of, entry_at, is_default, is_known, package_at}
use Rattle.pb_workspace.specs.ByFolder.{folders_of, value_of, values_of}
use Rattle.pb_workspace.specs.Checks.{fault_of, has_same_names}
use Rattle.pb_workspace_package.specs.Drafted.{IsDraft}
use Rattle.pb_workspace.specs.Readings.{IsStoredAt, IsReading}
use Rattle.pb_workspace.specs.Loaded.{unless, workspace_from}
use Rattle.pb_workspace.specs.Indices.{numbered, indices_of}
use Rattle.pb_workspace.specs.Rounds.{with_draft}
use Rattle.pb_workspace_types.specs.Settled.{IfNamed, IsAscending, IsPackage, IsSettled}
use Rattle.pb_workspace_package.specs.Settling.{comes_again}
use Rattle.pb_workspace_package.specs.Sorted.{with_entry}
use Rattle.pb_workspace.proofs.Chosen.{places_below}
use Rattle.pb_workspace_package.proofs.Puttings.{with_entry_all, with_entry_length, all_map, all_given, map_twice}

-- packages that are read
pub few_kept : (r made : LoadState) (folder : List ℕ) (d : UnresolvedPackage) → length r.found < 256 → made ≡ with_draft r folder d → length made.found ≤ 256
few_kept r made folder d few same = let h = with_entry_length r.found folder d in let found : made.found ≡ with_entry r.found folder d = ap (λ (x : LoadState). x.found) same in subst (λ es. length es ≤ 256) (sym found) (omega arith)

pub each_kept : (r made : LoadState) (folder : List ℕ) (d : UnresolvedPackage) → AllByRecursion IsStoredAt r.found → d.folder ≡ folder → IsDraft d → made ≡ with_draft r folder d → AllByRecursion IsStoredAt made.found
each_kept r made folder d all at good same = let found : made.found ≡ with_entry r.found folder d = ap (λ (x : LoadState). x.found) same in subst (AllByRecursion IsStoredAt) (sym found) (with_entry_all IsStoredAt r.found folder d all (at, good))

pub ruleset draft_laws = (few_kept, each_kept)

-- names of which none comes again
fresh : (before : List (List ℕ)) (name y : List ℕ) → is_mentioned (before ++ name ∷ []) y ≡ false → (is_mentioned before y ≡ false) × (bytes_eq name y ≡ false)
fresh before name y is = by (is_mentioned before y) (bytes_eq y name) refl refl (sym (list_any-append (bytes_eq y) before (name ∷ [])) ∙ is)
  where
    by : (a b : Bool) → is_mentioned before y ≡ a → bytes_eq y name ≡ b → (a || (b || false)) ≡ false → (is_mentioned before y ≡ false) × (bytes_eq name y ≡ false)
    by true b one two h = cc
    by false true one two h = cc
    by false false one two h = (one, bytes_eq_comm name y ∙ two)

pub none_again : (before names : List (List ℕ)) → comes_again before names ≡ false → AllByRecursion (λ y. is_mentioned before y ≡ false) names × IsDistinct bytes_eq names
unfolding IsDistinct
none_again before [] is = (tt, tt)
none_again before (name ∷ names) is = by (is_mentioned before name) refl is (none_again (before ++ name ∷ []) names)
  where
    by : (a : Bool) → is_mentioned before name ≡ a → (a || comes_again (if a then before else before ++ name ∷ []) names) ≡ false
        → (comes_again (before ++ name ∷ []) names ≡ false → AllByRecursion (λ y. is_mentioned (before ++ name ∷ []) y ≡ false) names × IsDistinct bytes_eq names)
        → ((is_mentioned before name ≡ false) × AllByRecursion (λ y. is_mentioned before y ≡ false) names) × (AllByRecursion (λ y. bytes_eq name y ≡ false) names × IsDistinct bytes_eq names)
    by true at h rest = cc
    by false at h rest = let more = rest h in
        ((at, all_given _ _ (λ y out. (fresh before name y out).0) names more.0), (all_given _ _ (λ y out. (fresh before name y out).1) names more.0, more.1))

-- indices of folders
abbrev Below : ℕ → List ℕ × ℕ → Type 0
Below count e = e.1 < count

numbered_below : (count : ℕ) (indices : List (List ℕ × ℕ)) (n : ℕ) (ds : List UnresolvedPackage) → AllByRecursion (Below count) indices → n + length ds ≤ count → AllByRecursion (Below count) (numbered indices n ds)
numbered_below count indices n [] all fits = all
numbered_below count indices n (d ∷ ds) all fits = numbered_below count (with_entry indices d.folder n) (n + 1) ds (with_entry_all (Below count) indices d.folder n all (omega arith)) (omega arith)

value_below : (count : ℕ) (test : List ℕ → Bool) (indices : List (List ℕ × ℕ)) → 0 < count → AllByRecursion (Below count) indices → unwrap_or (lookup test indices) 0 < count
value_below count test [] some all = some
value_below count test (e ∷ es) some all = by (test e.0) (value_below count test es some all.1)
  where
    by : (b : Bool) → unwrap_or (lookup test es) 0 < count → unwrap_or (cond b (Some e.1) (lookup test es)) 0 < count
    by true rest = all.0
    by false rest = rest

-- a package of a workspace
pub package_kept : (count : ℕ) (indices : List (List ℕ × ℕ)) (d : UnresolvedPackage) → 0 < count → AllByRecursion (Below count) indices → IsDraft d → IsPackage count (package_at indices d)
package_kept count indices d some below is = record {
  name = is.0;
  crate_name = is.1;
  binary_names = All-from_recursion _ d.binaries is.2.named;
  binaries = is.2.order;
  feature_names = All-from_recursion _ d.features is.3.named;
  features = is.3.order;
  leads = All-from_recursion _ _ (all_map (λ (entry : Entry). entry.to < count) (entry_at indices) d.wanted (each d.wanted));
  entry_keys = All-from_recursion _ _ (all_map (λ (entry : Entry). is_name entry.key ≡ true) (entry_at indices) d.wanted is.4);
}
  where
    each : (ws : List Wanted) → AllByRecursion (λ (w : Wanted). unwrap_or (value_of w.folder indices) 0 < count) ws
    each [] = tt
    each (w ∷ ws) = (value_below count (is_at (slice_cmp nat_cmp w.folder)) indices some below, each ws)

abbrev draft_of_entry : List ℕ × UnresolvedPackage → UnresolvedPackage
draft_of_entry e = e.1

own_folders : (es : List (List ℕ × UnresolvedPackage)) → AllByRecursion IsStoredAt es → map (λ e. e.1.folder) es ≡ map (λ e. e.0) es
own_folders [] all = refl
own_folders (e ∷ es) all = ap (λ p. p ∷ map (λ (x : List ℕ × UnresolvedPackage). x.1.folder) es) all.0.0 ∙ ap (λ ps. e.0 ∷ ps) (own_folders es all.1)

some_there : {A : Type 0} (P : A → Type 0) (xs : List A) → (0 < length xs → AllByRecursion P xs) → AllByRecursion P xs
some_there P [] made = tt
some_there P (x ∷ xs) made = made (omega arith)

defaults_below : (root : List ℕ) (packages : List Package) (texts : Option (List (List ℕ))) → IfNamed (default_members_of root packages texts) (All (λ index. index < length packages))
defaults_below root packages None = tt
defaults_below root packages (Some texts) = by (list_all (is_known root packages) texts)
  where
    by : (b : Bool) → IfNamed (if b then Named (indices_where (is_default root texts) packages) else Unknown) (All (λ index. index < length packages))
    by true = All-from_recursion _ _ (places_below (is_default root texts) 0 (length packages) packages (omega arith))
    by false = tt

pub assembled_settled : (target : List ℕ) (f : WorkspaceRoot) (profiles : List Profile) (es : List (List ℕ × UnresolvedPackage)) → length es ≤ 256 → AllByRecursion IsStoredAt es → IsAscending (folders_of es) → has_same_names (values_of es) ≡ false
    → IsSettled (assembled target f profiles (values_of es))
unfolding assembled
assembled_settled target f profiles es few all order names =
    let drafts : List UnresolvedPackage = values_of es in
    let indices = indices_of drafts in
    let long : length (map (package_at indices) drafts) ≡ length drafts = length-map drafts (package_at indices) in
    let same : length drafts ≡ length es = length-map es draft_of_entry in
    record {
      few = omega arith;
      folders = subst IsAscending (sym (map_twice (λ (p : Package). p.folder) (package_at indices) drafts ∙ map_twice (λ (d : UnresolvedPackage). d.folder) draft_of_entry es ∙ own_folders es all)) order;
      names = subst (IsDistinct bytes_eq) (sym (map_twice (λ (p : Package). p.name) (package_at indices) drafts)) (none_again [] (map (λ (d : UnresolvedPackage). d.name) drafts) names).1;
      packages = subst (λ n. All (IsPackage n) (map (package_at indices) drafts)) (sym long)
          (All-from_recursion _ _ (all_map (IsPackage (length drafts)) (package_at indices) drafts
          (some_there _ drafts (λ some. all_map (λ d. IsPackage (length drafts) (package_at indices d)) draft_of_entry es
          (all_given IsStoredAt _ (λ e put. package_kept (length drafts) indices e.1 some (numbered_below (length drafts) [] 0 drafts tt (omega arith)) put.1) es all)))));
      root = subst (λ n. IfSome (value_of f.root indices) (λ index. index < n)) (sym long)
          (All-lookup (λ index. index < length drafts) (is_at (slice_cmp nat_cmp f.root)) indices (All-from_recursion _ indices (numbered_below (length drafts) [] 0 drafts tt (omega arith))));
      defaults = defaults_below f.root (map (package_at indices) drafts) f.default_members;
    }

no_fault : (drafts : List UnresolvedPackage) → fault_of drafts ≡ None → has_same_names drafts ≡ false
unfolding fault_of
no_fault drafts is = by _ (has_same_names drafts) refl is
  where
    by : (X : Option LoadFault) (b : Bool) → has_same_names drafts ≡ b → (if b then Some SameName else X) ≡ None → has_same_names drafts ≡ false
    by X true at h = cc
    by X false at h = at

pub workspace_settled : (target : List ℕ) (f : WorkspaceRoot) (profiles : List Profile) (r : LoadState) (ws : Workspace) → IsReading r → IsAscending (folders_of r.found)
    → workspace_from target f profiles (values_of r.found) ≡ Ok ws → IsSettled ws
unfolding workspace_from
workspace_settled target f profiles r ws is order made = by (fault_of (values_of r.found)) refl made
  where
    by : (o : Option LoadFault) → fault_of (values_of r.found) ≡ o → unless o (assembled target f profiles (values_of r.found)) ≡ Ok ws → IsSettled ws
    by None at h = let same : assembled target f profiles (values_of r.found) ≡ ws = cc in subst IsSettled same (assembled_settled target f profiles r.found is.0 is.1 order (no_fault _ at))
    by (Some fault) at h = cc
