-- The key of a planned unit says what the unit is.
use Rattle.std.proofs.Common.{◌≡◌, inl, inr, ◌==◌, ◌||◌, ◌<◌, ℕ, Bool, true, false, cond, List, [], ◌∷◌, ◌++◌, length, refl, sym, ap, ◌∙◌, append_assoc, Option, Some, None, slice_get}
use Rattle.std.proofs.lemmas.Option.{slice_get_within}
use Rattle.std.specs.List.{list_any}
use Rattle.pb_manifest_types.specs.Letters as letters
use Rattle.pb_place_types.specs.Paths.{below, stem, is_name}
use Rattle.pb_workspace_types.specs.Settled.{IsSettled, IsPackage}
use Rattle.pb_workspace_types.specs.declared.options.Selection.{Selection}
use Rattle.pb_workspace_types.specs.declared.package.Binary.{Binary}
use Rattle.pb_workspace_types.specs.declared.package.Package.{Package}
use Rattle.pb_workspace_types.specs.declared.workspace.Workspace.{Workspace}
use Rattle.pb_workspace_types.proofs.NamesInPaths.{no_dot}
use Rattle.pb_feature_types.specs.declared.features.Features.{Features}
use Rattle.pb_graph.proofs.Elements.{all_at, all_from_at, at_from_contains, contains_from_at, contains_map}
use Rattle.pb_unit.specs.declared.plan.Planned.{Planned}
use Rattle.pb_unit.specs.declared.unit.Unit.{Unit}
use Rattle.pb_unit.specs.declared.unit.What.{What}
use Rattle.pb_unit.specs.declared.unit.What.TheVariants.{Bin}
use Rattle.pb_unit.specs.Units.{name_at, side_name, what_name, key_of, has_library, Reaches, direct, onward, IsRoot, library, binary, IsPlanned}
use Rattle.pb_unit.specs.Plan.{profile_folder}
use Rattle.pb_unit.specs.Laws.{has_point, last_word, TellsWhat, KeysTellWhat}
use Rattle.pb_unit.proofs.Graphs.{IsThere, needs_there}
use Rattle.pb_unit.proofs.Keys.{IsNamedWell, key_named, name_is, what_clean}
use Rattle.pb_unit.proofs.Sixes.{is_fixed}

-- a point in the middle of a text
pointed : (front last : List ℕ) → has_point (front ++ 46 ∷ last) ≡ true
pointed [] last = refl
pointed (b ∷ front) last = by (b == 46) (pointed front last)
  where
    by : (x : Bool) → has_point (front ++ 46 ∷ last) ≡ true → x || has_point (front ++ 46 ∷ last) ≡ true
    by true is = refl
    by false is = is

-- what stands behind the last point
pub behind_point : (front last : List ℕ) → has_point last ≡ false → last_word (front ++ 46 ∷ last) ≡ last
unfolding last_word
behind_point [] last none = ap (λ b. cond b (last_word last) last) none
behind_point (b ∷ front) last none = ap (λ t. cond t (last_word (front ++ 46 ∷ last)) (cond (b == 46) (front ++ 46 ∷ last) (b ∷ front ++ 46 ∷ last))) (pointed front last) ∙ behind_point front last none

well_fixed : (w : What) → is_fixed w ≡ true → IsNamedWell w
well_fixed (Bin name) fixed = cc
well_fixed _ fixed = tt

module _ (ws : Workspace) (features : Features) (settled : IsSettled ws) where
  there_well : (u : Unit) → IsThere ws u → IsNamedWell u.what × (u.package < length ws.packages)
  there_well u there = (well_fixed u.what there.kind, there.owner)

  reached_well : (u v : Unit) → u.package < length ws.packages → Reaches ws features u v → IsNamedWell v.what × (v.package < length ws.packages)
  reached_well u v lt (direct _ _ need) = there_well v (needs_there ws settled features u v lt need)
  reached_well u v lt (onward _ w _ need more) = reached_well w v (needs_there ws settled features u w lt need).owner more

  root_well : (selection : Selection) (u : Unit) → IsRoot ws features selection u → u.package < length ws.packages → IsNamedWell u.what
  root_well selection u (library p selected asked there) lt = tt
  root_well selection u (binary p owner made selected at there asked on) lt =
      let (k, at_k) = at_from_contains owner.binaries made there in
      all_at (λ (x : Binary). letters.is_name x.name ≡ true) owner.binaries (all_at (IsPackage (length ws.packages)) ws.packages settled.packages p owner at).binary_names k made at_k

  root_there : (selection : Selection) (u : Unit) → IsRoot ws features selection u → u.package < length ws.packages
  root_there selection u (library p selected asked there) = by (slice_get ws.packages p) refl there
    where
      by : (o : Option Package) → slice_get ws.packages p ≡ o → has_library o ≡ true → p < length ws.packages
      by None at has = cc
      by (Some owner) at has = slice_get_within ws.packages p owner at
  root_there selection u (binary p owner made selected at there asked on) = slice_get_within ws.packages p owner at

  planned_well : (selection : Selection) (u : Unit) → IsPlanned ws features selection u → IsNamedWell u.what × (u.package < length ws.packages)
  planned_well selection u (inl root) = let lt = root_there selection u root in (root_well selection u root lt, lt)
  planned_well selection u (inr (r, root, reaches)) = reached_well r u (root_there selection r root) reaches

-- the key's last word, behind whatever stands before it
key_ends : (ws : Workspace) (u : Unit) (before : List ℕ) → IsNamedWell u.what → last_word (before ++ key_of ws u) ≡ what_name u.what
key_ends ws u before well =
    let none : has_point (what_name u.what) ≡ false = what_clean 46 u.what no_dot well refl refl refl refl in
    ap last_word (sym (append_assoc before (name_at ws u.package) (46 ∷ (side_name u.side ++ 46 ∷ what_name u.what)))
    ∙ sym (append_assoc (before ++ name_at ws u.package) (46 ∷ side_name u.side) (46 ∷ what_name u.what)))
    ∙ behind_point ((before ++ name_at ws u.package) ++ 46 ∷ side_name u.side) (what_name u.what) none

below_ends : (ws : Workspace) (u : Unit) (folder : List ℕ) → IsNamedWell u.what → last_word (below folder (key_of ws u)) ≡ what_name u.what
below_ends ws u folder well = ap last_word (sym (append_assoc (stem folder) (47 ∷ []) (key_of ws u))) ∙ key_ends ws u (stem folder ++ 47 ∷ []) well

pub keys_tell_what : KeysTellWhat
keys_tell_what ws features selection profile plan settled is = all_from_at TellsWhat plan.planned tells
  where
    tells : (k : ℕ) (p : Planned) → slice_get plan.planned k ≡ Some p → TellsWhat p
    tells k p at =
        let planned : IsPlanned ws features selection p.unit = (is.units p.unit).0 (contains_map (λ (q : Planned). q.unit) plan.planned p (contains_from_at plan.planned k p at)) in
        let (well, lt) = planned_well ws features settled selection p.unit planned in
        let key : p.key ≡ key_of ws p.unit = all_at (λ (q : Planned). q.key ≡ key_of ws q.unit) plan.planned is.keys k p at in
        let out : p.out ≡ below (profile_folder ws profile) p.key = all_at (λ (q : Planned). q.out ≡ below (profile_folder ws profile) q.key) plan.planned is.folders k p at in
        let (relative, flat, name) = key_named ws p.unit (name_is ws p.unit.package settled lt) well in
        record {
          name = ap is_name key ∙ name;
          flat = ap (list_any (λ b. b == 47)) key ∙ flat;
          key = ap last_word key ∙ key_ends ws p.unit [] well;
          out = ap last_word (out ∙ ap (below (profile_folder ws profile)) key) ∙ below_ends ws p.unit (profile_folder ws profile) well;
        }
