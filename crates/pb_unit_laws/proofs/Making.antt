-- What units make.
use Rattle.std.proofs.Common.{◌≡◌, ◌⊎◌, ◌∙◌, inl, inr, ℕ, Bool, true, false, cond, List, [], ◌∷◌, Contains, Some, map, refl, sym, ap, subst}
use Rattle.std.specs.List.{AllByRecursion}
use Rattle.std.specs.List.Sorted.{IsStrictlySortedBy}
use Rattle.std.specs.Str.{bytes_eq}
use Rattle.std.proofs.lemmas.Slice.Eq.{bytes_eq-Decides}
use Rattle.pb_graph.proofs.Membership.{none, cases}
use Rattle.pb_manifest_types.specs.Letters.{underscored}
use Rattle.pb_manifest_types.specs.declared.target.CrateType.{CrateType}
use Rattle.pb_workspace_types.specs.Settled.{IsAscending}
use Rattle.pb_workspace_types.specs.declared.package.Binary.{Binary}
use Rattle.pb_workspace_types.specs.declared.package.Package.{Package}
use Rattle.pb_command_types.specs.Targets.{binary_named, binary_source, crate_name, crate_types, dep_info_by, file_by, library_in, library_name, library_source, library_types, package_of, script_source, source_by}
use Rattle.pb_command_types.specs.declared.project.Project.{Project}
use Rattle.pb_unit.specs.declared.plan.Planned.{Planned}
use Rattle.pb_unit.specs.declared.unit.What.{What}
use Rattle.pb_unit.specs.declared.unit.What.TheVariants.{Lib}
use Rattle.pb_unit_laws.specs.Targets.{IsTarget, library, binary, script, Makes, UnitsMakeTargets, RunsMakeNone}
use Rattle.pb_unit_laws.proofs.Resolving.{Before, never}

-- a binary is found by its name
names_in : (bs : List Binary) (name : List ℕ) (b : Binary) → AllByRecursion (Before name) (map (λ (x : Binary). x.name) bs) → Contains bs b → Before name b.name
names_in [] name b all there = absurd (none b there)
names_in (x ∷ bs) name b all there = elim (cases x bs b there) [ inl here ↦ subst (λ (y : Binary). Before name y.name) here all.0 | inr later ↦ names_in bs name b all.1 later ]

is_found : (bs : List Binary) (b : Binary) → IsAscending (map (λ (x : Binary). x.name) bs) → Contains bs b → binary_named b.name bs ≡ Some b
unfolding IsStrictlySortedBy
is_found [] b up there = absurd (none b there)
is_found (x ∷ bs) b up there = by (bytes_eq b.name x.name) refl (cases x bs b there) (λ later. is_found bs b up.1 later)
  where
    by : (r : Bool) → bytes_eq b.name x.name ≡ r → (x ≡ b) ⊎ Contains bs b → (Contains bs b → binary_named b.name bs ≡ Some b) → cond r (Some x) (binary_named b.name bs) ≡ Some b
    by true is (inl here) rest = ap Some here
    by true is (inr later) rest = absurd (never b.name (subst (λ n. Before n b.name) (sym ((bytes_eq-Decides b.name x.name).0 is)) (names_in bs x.name b up.0 later)))
    by false is (inl here) rest = let same : bytes_eq b.name x.name ≡ true = ap (λ (y : Binary). bytes_eq b.name y.name) here ∙ (bytes_eq-Decides b.name b.name).1 refl in absurd (cc)
    by false is (inr later) rest = rest later

module _ (project : Project) (u : Planned) (p : Package) (there : package_of project u ≡ Some p) where
  -- of a unit of this package, by what its library and its name say
  made : (what : What) (crate : List ℕ) (types : List CrateType) (source file : List ℕ) → u.unit.what ≡ what → IsTarget p what crate types source file → IsAscending (map (λ (b : Binary). b.name) p.binaries) → Makes project u p crate types source file
  unfolding underscored
  made _ _ _ _ _ is (library l has) up = record {
    crate_is = ap (λ o. crate_name (library_in o) u.unit.what) there ∙ ap (crate_name p.library) is ∙ ap library_name has;
    types_are = ap (crate_types p.library) is ∙ ap library_types has;
    source_is = ap (source_by p) is ∙ ap library_source has;
    file_is = ap (λ o. file_by u.unit.what u.out (crate_name (library_in o) u.unit.what)) there ∙ ap (λ w. file_by w u.out (crate_name p.library w)) is ∙ ap (λ o. file_by Lib u.out (library_name o)) has;
    told = ap (λ o. dep_info_by u.unit.what u.out (crate_name (library_in o) u.unit.what)) there ∙ ap (λ w. dep_info_by w u.out (crate_name p.library w)) is ∙ ap (λ o. dep_info_by Lib u.out (library_name o)) has;
  }
  made _ _ _ _ _ is (binary b has) up = record {
    crate_is = ap (λ w. crate_name (library_in (package_of project u)) w) is;
    types_are = ap (crate_types p.library) is;
    source_is = ap (source_by p) is ∙ ap binary_source (is_found p.binaries b up has);
    file_is = ap (λ w. file_by w u.out (crate_name (library_in (package_of project u)) w)) is;
    told = ap (λ w. dep_info_by w u.out (crate_name (library_in (package_of project u)) w)) is;
  }
  made _ _ _ _ _ is (script source has) up = record {
    crate_is = ap (λ w. crate_name (library_in (package_of project u)) w) is;
    types_are = ap (crate_types p.library) is;
    source_is = ap (source_by p) is ∙ ap script_source has;
    file_is = ap (λ w. file_by w u.out (crate_name (library_in (package_of project u)) w)) is;
    told = ap (λ w. dep_info_by w u.out (crate_name (library_in (package_of project u)) w)) is;
  }

pub units_make : UnitsMakeTargets
units_make project u p crate types source file there up target = made project u p there u.unit.what crate types source file refl target up

pub runs_make : RunsMakeNone
runs_make project u is = (
  ap (λ w. file_by w u.out (crate_name (library_in (package_of project u)) w)) is,
  ap (λ w. dep_info_by w u.out (crate_name (library_in (package_of project u)) w)) is,
)
