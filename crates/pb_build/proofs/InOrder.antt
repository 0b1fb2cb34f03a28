-- A plan comes in order: units after what they need and reach, each in a folder of its own in the target folder.
use Rattle.std.proofs.Common.{◌≡◌, ◌≢◌, ◌∙◌, ◌⊎◌, ◌<◌, ◌↔◌, ◌&&◌, ◌==◌, ◌-◌, ◌++◌, Bool, true, false, not, cond, codes, List, [], ◌∷◌, ℕ, zero, suc, drop, take, length, Option, Some, None, Ok, Err, Result, refl, sym, ap, subst, arith, slice_get, map, option_map, inl, inr}
use Rattle.std.proofs.lemmas.Option.{slice_get-map}
use Rattle.pb_graph.proofs.Elements.{all_at, pair_at, at_from_contains, contains_from_at}
use Rattle.pb_workspace_types.specs.declared.package.Package.{Package}
use Rattle.std.proofs.lemmas.Bool.{cases_Bool, false≢true}
use Rattle.std.specs.Prelude.{AllPairs, Contains}
use Rattle.std.specs.List.{AllByRecursion, list_any}
use Rattle.std.proofs.lemmas.List.{take-append-drop}
use Rattle.std.proofs.lemmas.Slice.Eq.{bytes_eq-Decides}
use Rattle.pb_command_arguments.specs.Externs.{folder_in, read_at, reads_of}
use Rattle.pb_run_flight.proofs.Lists.{contains_none, contains_head, contains_cases}
use Rattle.pb_workspace_types.specs.Settled.{IsSettled}
use Rattle.pb_run.proofs.Recorded.{flat_at, flat_of}
use Rattle.pb_store_soundness.specs.Records.{is_key, ends_as_record}
use Rattle.pb_unit.specs.Laws.{TellsWhat, last_word}
use Rattle.pb_unit.proofs.Telling.{behind_point, keys_tell_what}
use Rattle.pb_unit.specs.declared.unit.What.{What}
use Rattle.pb_unit.specs.declared.unit.What.TheVariants.{Lib, Bin, Script, Run}
use Rattle.pb_data.specs.UnlessOom.{◌>>=◌}
use Rattle.pb_place_types.specs.Paths.{below, is_below, is_at_or_below, is_path, is_relative}
use Rattle.pb_place_types.proofs.PathLemmas.{below_is_below, below_is_path}
use Rattle.pb_place_types.proofs.Within.{goes_below, below_then_at, at_below}
use Rattle.pb_profile.specs.Line.{Seen, folder_of, checked_line}
use Rattle.pb_profile.specs.declared.fault.ProfileFault.{ProfileFault}
use Rattle.pb_profile.specs.declared.fault.ProfileFault.TheVariants.{NoSuchProfile}
use Rattle.pb_workspace_types.specs.declared.workspace.Workspace.{Workspace}
use Rattle.pb_workspace_types.specs.declared.options.Selection.{Selection}
use Rattle.pb_feature_types.specs.declared.features.Features.{Features}
use Rattle.pb_unit.specs.Plan.{IsPlan, LieApart, ComesBefore, AreIndices, HasSettings, above, level_at, level_of, profile_folder}
use Rattle.pb_unit.specs.Units.{needs, Reaches, direct, onward, IsPlanned, key_of, name_at, what_name}
use Rattle.pb_unit.specs.declared.plan.Plan.{Plan}
use Rattle.pb_unit.specs.declared.plan.Planned.{Planned}
use Rattle.pb_unit.specs.declared.unit.Unit.{Unit}
use Rattle.pb_command_types.specs.declared.project.Project.{Project}
use Rattle.pb_run.specs.Invariants.{IsInOrder, IsReadByNeed}

-- an element of a list is at a place of it, and the other way round
level_below : (levels : List ℕ) (level : ℕ) → (i : ℕ) → slice_get levels i ≡ Some level → level < above levels
level_below [] level i at = cc
level_below (l ∷ levels) level zero at = let same : l ≡ level = cc in omega (arith, same)
level_below (l ∷ levels) level (suc i) at = let more : level < above levels = level_below levels level i at in omega (arith, more)

not_later : (units : List Planned) (i j : ℕ) (p q : Planned) → AllPairs ComesBefore units → slice_get units i ≡ Some p → slice_get units j ≡ Some q → q.level < p.level → j < i
not_later units i j p q ordered at there lower = elim (nat_cases i j) [
  | inl less ↦ elim ((pair_at ComesBefore units ordered i j p q less at there).order) [
    | inl level ↦ absurd (omega (arith, level, lower))
    | inr tied ↦ absurd (omega (arith, tied.0, lower))
  ]
  | inr rest ↦ elim rest [
    | inl same ↦
        let one : p ≡ q = injective (sym at ∙ ap (slice_get units) same ∙ there) in
        let level : p.level ≡ q.level = ap (λ (x : Planned). x.level) one in
        absurd (omega (arith, level, lower))
    | inr less ↦ less
  ]
]
  where
    injective : {A : Type 0} {x y : A} → Some x ≡ Some y → x ≡ y
    injective e = cc

    nat_cases : (a b : ℕ) → (a < b) ⊎ ((a ≡ b) ⊎ (b < a))
    nat_cases zero zero = inr (inl refl)
    nat_cases zero (suc b) = inl (omega arith)
    nat_cases (suc a) zero = inr (inr (omega arith))
    nat_cases (suc a) (suc b) = elim (nat_cases a b) [
      | inl less ↦ inl (omega (arith, less))
      | inr rest ↦ elim rest [ inl same ↦ inr (inl (ap suc same)) | inr more ↦ inr (inr (omega (arith, more))) ]
    ]

module _ (ws : Workspace) (features : Features) (selection : Selection) (profile : List ℕ) (plan : Plan) (is : IsPlan ws features selection profile plan) where
  abbrev units : List Planned
  units = plan.planned

  -- what a unit needs has a lower level
  need_lower : (i j : ℕ) (p q : Planned) → slice_get units i ≡ Some p → slice_get units j ≡ Some q → Contains (needs ws features p.unit) q.unit → q.level < p.level
  need_lower i j p q at there needed =
      let indices : AreIndices units (Contains (needs ws features p.unit)) p.needs = all_at (λ (x : Planned). AreIndices units (Contains (needs ws features x.unit)) x.needs) units is.needs i p at in
      let listed : Contains p.needs j = (indices.same j).1 (q, there, needed) in
      let (k, found) = at_from_contains p.needs j listed in
      let level : slice_get (map (level_at units) p.needs) k ≡ Some (level_at units j) = slice_get-map (level_at units) p.needs k ∙ ap (option_map (level_at units)) found in
      let lower : level_at units j < above (map (level_at units) p.needs) = level_below (map (level_at units) p.needs) (level_at units j) k level in
      let levels : p.level ≡ above (map (level_at units) p.needs) = all_at (λ (x : Planned). x.level ≡ above (map (level_at units) x.needs)) units is.levels i p at in
      let own : level_at units j ≡ q.level = ap level_of there in
      omega (arith, lower, levels, own)

  -- and so has what it reaches
  reach_lower : (u v : Unit) → Reaches ws features u v → (i j : ℕ) (p q : Planned) → slice_get units i ≡ Some p → slice_get units j ≡ Some q → p.unit ≡ u → q.unit ≡ v → q.level < p.level
  reach_lower u v (direct _ _ need) i j p q at there first last = need_lower i j p q at there (subst (λ (x : Unit). Contains (needs ws features x) q.unit) (sym first) (subst (λ (x : Unit). Contains (needs ws features u) x) (sym last) need))
  reach_lower u w (onward _ v _ need more) i j p q at there first last =
      let planned : IsPlanned ws features selection p.unit = (is.units p.unit).0 (contains_from_at (map (λ (x : Planned). x.unit) units) i p.unit (slice_get-map (λ (x : Planned). x.unit) units i ∙ ap (option_map (λ (x : Planned). x.unit)) at)) in
      let next : IsPlanned ws features selection v = go_on (subst (IsPlanned ws features selection) first planned) need in
      let (k, found) = at_from_contains (map (λ (x : Planned). x.unit) units) v ((is.units v).1 next) in
      let (r, here, its) = unit_there units k v found in
      let lower : r.level < p.level = need_lower i k p r at here (subst (λ (x : Unit). Contains (needs ws features x) r.unit) (sym first) (subst (Contains (needs ws features u)) (sym its) need)) in
      let further : q.level < r.level = reach_lower v w more k j r q here there its last in
      omega (arith, lower, further)
    where
      go_on : {a b : Unit} → IsPlanned ws features selection a → Contains (needs ws features a) b → IsPlanned ws features selection b
      go_on {a} {b} (inl root) need_b = inr (a, root, direct a b need_b)
      go_on {a} {b} (inr (r, root, reaches)) need_b = inr (r, root, reaches_on reaches need_b)
        where
          reaches_on : {x y z : Unit} → Reaches ws features x y → Contains (needs ws features y) z → Reaches ws features x z
          reaches_on {x} {y} {z} (direct _ _ n) m = onward x y z n (direct y z m)
          reaches_on {x} {y} {z} (onward _ t _ n rest) m = onward x t z n (reaches_on rest m)

      unit_there : (us : List Planned) (k : ℕ) (v : Unit) → slice_get (map (λ (x : Planned). x.unit) us) k ≡ Some v → (r : Planned) × (slice_get us k ≡ Some r) × (r.unit ≡ v)
      unit_there [] k v found = cc
      unit_there (r ∷ us) zero v found = (r, refl, let same : r.unit ≡ v = cc in same)
      unit_there (r ∷ us) (suc k) v found = unit_there us k v found

  all_before : (i : ℕ) (indices : List ℕ) → ((j : ℕ) → Contains indices j → j < i) → AllByRecursion (λ index. index < i) indices
  all_before i [] h = tt
  all_before i (j ∷ indices) h = (h j (contains_from_at (j ∷ indices) 0 j refl), all_before i indices (λ k inside. let (n, found) = at_from_contains indices k inside in h k (contains_from_at (j ∷ indices) (suc n) k found)))

  pub needs_before : (i : ℕ) (p : Planned) → slice_get units i ≡ Some p → AllByRecursion (λ index. index < i) p.needs
  needs_before i p at = all_before i p.needs (λ j inside.
      let indices = all_at (λ (x : Planned). AreIndices units (Contains (needs ws features x.unit)) x.needs) units is.needs i p at in
      let (q, there, needed) = (indices.same j).0 inside in
      not_later units i j p q is.order at there (need_lower i j p q at there needed))

  pub reaches_before : (i : ℕ) (p : Planned) → slice_get units i ≡ Some p → AllByRecursion (λ index. index < i) p.reaches
  reaches_before i p at = all_before i p.reaches (λ j inside.
      let indices = all_at (λ (x : Planned). AreIndices units (Reaches ws features x.unit) x.reaches) units is.reaches i p at in
      let (q, there, reached) = (indices.same j).0 inside in
      not_later units i j p q is.order at there (reach_lower p.unit q.unit reached i j p q at there refl refl))

  -- the folder of a unit lies in the target folder
  folder_relative : is_relative (folder_of profile) ≡ true
  folder_relative = relative_in (checked_line ws.profiles profile) (is_relative (folder_of profile)) refl is.profile_has
    where
      relative_in : (line : Result (List Seen) ProfileFault) (b : Bool) → is_relative (folder_of profile) ≡ b → (line >>= (λ l. cond b (Ok l) (Err NoSuchProfile))) ≡ Ok is.line → is_relative (folder_of profile) ≡ true
      relative_in line true own told = own
      relative_in (Ok l) false own told = cc
      relative_in (Err fault) false own told = cc

  pub out_inside : (i : ℕ) (p : Planned) → slice_get units i ≡ Some p → is_below ws.target p.out ≡ true
  out_inside i p at =
      let out : p.out ≡ below (profile_folder ws profile) p.key = all_at (λ (x : Planned). x.out ≡ below (profile_folder ws profile) x.key) units is.folders i p at in
      let key : p.key ≡ key_of ws p.unit = all_at (λ (x : Planned). x.key ≡ key_of ws x.unit) units is.keys i p at in
      let first : is_below ws.target (profile_folder ws profile) ≡ true = below_is_below ws.target (folder_of profile) (profile_folder ws profile) folder_relative refl in
      let second : is_below (profile_folder ws profile) (below (profile_folder ws profile) p.key) ≡ true = goes_below (profile_folder ws profile) p.key (λ none. no_key p.unit (sym key ∙ none)) in
      below_then_at ws.target (profile_folder ws profile) p.out first (sym (ap (is_at_or_below (profile_folder ws profile)) (sym out)) ∙ at_below (profile_folder ws profile) (below (profile_folder ws profile) p.key) second)
    where
      no_key : (u : Unit) → key_of ws u ≢ []
      no_key u none = some (name_at ws u.package) _ none
        where
          some : (name rest : List ℕ) → name ++ 46 ∷ rest ≢ []
          some [] rest e = cc
          some (b ∷ name) rest e = cc

  pub package_there : (i : ℕ) (p : Planned) → slice_get units i ≡ Some p → (o : Package) × (slice_get ws.packages p.unit.package ≡ Some o)
  package_there i p at = let has = all_at (HasSettings ws is.line) units is.settings i p at in (has.owner, has.package_at)

-- two units of a plan share no path
apart_at : (units : List Planned) → AllPairs LieApart units → (i j : ℕ) (u v : Planned) → slice_get units i ≡ Some u → slice_get units j ≡ Some v → i ≢ j → (q : List ℕ) → is_at_or_below u.out q ≡ true → is_at_or_below v.out q ≡ false
apart_at units apart i j u v at there other q inside = elim (sides i j other) [
  | inl less ↦ (pair_at LieApart units apart i j u v less at there).folders q inside
  | inr more ↦ elim (cases_Bool (is_at_or_below v.out q)) [
    | inl both ↦ absurd (false≢true (sym ((pair_at LieApart units apart j i v u more there at).folders q both) ∙ inside))
    | inr none ↦ none
  ]
]
  where
    sides : (a b : ℕ) → a ≢ b → (a < b) ⊎ (b < a)
    sides zero zero e = absurd (e refl)
    sides zero (suc b) e = inl (omega arith)
    sides (suc a) zero e = inr (omega arith)
    sides (suc a) (suc b) e = elim (sides a b (λ same. e (ap suc same))) [
      | inl less ↦ inl (omega (arith, less))
      | inr more ↦ inr (omega (arith, more))
    ]

-- a key is no name of a record: its last word is another
module _ (p : Planned) (tells : TellsWhat p) where
  not_record : (w : What) → what_name w ≢ codes "record"
  not_record Lib e = false≢true ((bytes_eq-Decides (codes "lib") (codes "record")).1 e)
  not_record (Bin name) e = false≢true ((bytes_eq-Decides (codes "bin-" ++ name) (codes "record")).1 e)
  not_record Script e = false≢true ((bytes_eq-Decides (codes "script") (codes "record")).1 e)
  not_record Run e = false≢true ((bytes_eq-Decides (codes "run") (codes "record")).1 e)

  other_name : ends_as_record p.key ≡ false
  other_name = elim (cases_Bool (ends_as_record p.key)) [
    | inl ends ↦
        let tail : drop (length p.key - 7) p.key ≡ codes ".record" = (bytes_eq-Decides (drop (length p.key - 7) p.key) (codes ".record")).0 ends in
        let whole : p.key ≡ take (length p.key - 7) p.key ++ 46 ∷ codes "record" = sym (take-append-drop (length p.key - 7) p.key) ∙ ap (λ t. take (length p.key - 7) p.key ++ t) tail in
        absurd (not_record p.unit.what (sym tells.key ∙ ap last_word whole ∙ behind_point (take (length p.key - 7) p.key) (codes "record") refl))
    | inr other ↦ other
  ]

  pub key_is : is_key p.key ≡ true
  unfolding is_key
  key_is = ap (λ b. b && (not (list_any (λ b. b == 47) p.key) && not (ends_as_record p.key))) tells.name ∙ ap (λ b. not b && not (ends_as_record p.key)) tells.flat ∙ ap not other_name

-- what a unit needs it reaches, and its reads are the folders of what it needs and what that reads
module _ (project : Project) (selection : Selection) (is : IsPlan project.workspace project.features selection project.profile project.plan) where
  abbrev planned : List Planned
  planned = project.plan.planned

  needed_at : (i : ℕ) (u : Planned) → slice_get planned i ≡ Some u → AreIndices planned (Contains (needs project.workspace project.features u.unit)) u.needs
  needed_at i u at = all_at (λ (x : Planned). AreIndices planned (Contains (needs project.workspace project.features x.unit)) x.needs) planned is.needs i u at

  reached_at : (i : ℕ) (u : Planned) → slice_get planned i ≡ Some u → AreIndices planned (Reaches project.workspace project.features u.unit) u.reaches
  reached_at i u at = all_at (λ (x : Planned). AreIndices planned (Reaches project.workspace project.features x.unit) x.reaches) planned is.reaches i u at

  pub needs_are_reached : (i : ℕ) (u : Planned) → slice_get planned i ≡ Some u → (index : ℕ) → Contains u.needs index → Contains u.reaches index
  needs_are_reached i u at index has =
      let (q, there, need) = ((needed_at i u at).same index).0 has in
      ((reached_at i u at).same index).1 (q, there, direct u.unit q.unit need)

  folder_of_unit : (o : Option Planned) (f : List ℕ) → Contains (folder_in o) f → (v : Planned) × (o ≡ Some v) × (f ≡ v.out)
  folder_of_unit None f has = absurd (contains_none f has)
  folder_of_unit (Some v) f has = (
    v,
    refl,
    elim (contains_cases v.out [] f has) [
      | inl same ↦ sym same
      | inr more ↦ absurd (contains_none f more)
    ],
  )

  read_by : (u v : Planned) (index : ℕ) → Contains u.reaches index → slice_get planned index ≡ Some v → Contains (reads_of project u) v.out
  read_by u v index among there = flat_of (read_at project) u.reaches index v.out among (subst (λ (o : Option Planned). Contains (folder_in o) v.out) (sym there) (contains_head v.out []))

  -- a unit that is reached is one that is needed, or one that such a one reaches
  by_need : (i : ℕ) (u v : Planned) (index : ℕ) (f : List ℕ) → slice_get planned i ≡ Some u → slice_get planned index ≡ Some v → f ≡ v.out → (a c : Unit) → Reaches project.workspace project.features a c → u.unit ≡ a → v.unit ≡ c → IsReadByNeed project u f
  by_need i u v index f at there same a c (direct _ _ need) first last = record {
    index = index;
    needed = ((needed_at i u at).same index).1 (v, there, subst (λ (x : Unit). Contains (needs project.workspace project.features x) v.unit) (sym first) (subst (Contains (needs project.workspace project.features a)) (sym last) need));
    need = v;
    there = there;
    own_or_read = inl same;
  }
  by_need i u v index f at there same a c (onward _ m _ need more) first last =
      let needed : Contains (needs project.workspace project.features u.unit) m = subst (λ (x : Unit). Contains (needs project.workspace project.features x) m) (sym first) need in
      let (k, x, here, its) = unit_at_index m ((is.units m).1 (is_planned i u at m needed)) in
      record {
        index = k;
        needed = ((needed_at i u at).same k).1 (x, here, subst (Contains (needs project.workspace project.features u.unit)) (sym its) needed);
        need = x;
        there = here;
        own_or_read = inr (subst (Contains (reads_of project x)) (sym same) (read_by x v index
            (((reached_at k x here).same index).1 (v, there, subst (λ (y : Unit). Reaches project.workspace project.features y v.unit) (sym its) (subst (Reaches project.workspace project.features m) (sym last) more))) there));
      }
    where
      unit_in : (us : List Planned) (k : ℕ) (w : Unit) → slice_get (map (λ (x : Planned). x.unit) us) k ≡ Some w → (r : Planned) × (slice_get us k ≡ Some r) × (r.unit ≡ w)
      unit_in [] k w found = cc
      unit_in (r ∷ us) zero w found = (r, refl, let one : r.unit ≡ w = cc in one)
      unit_in (r ∷ us) (suc k) w found = unit_in us k w found

      unit_at_index : (w : Unit) → Contains (map (λ (x : Planned). x.unit) planned) w → (k : ℕ) × (r : Planned) × (slice_get planned k ≡ Some r) × (r.unit ≡ w)
      unit_at_index w has = let (k, found) = at_from_contains (map (λ (x : Planned). x.unit) planned) w has in let (r, here, its) = unit_in planned k w found in (k, r, here, its)

      is_planned : (j : ℕ) (q : Planned) → slice_get planned j ≡ Some q → (w : Unit) → Contains (needs project.workspace project.features q.unit) w → IsPlanned project.workspace project.features selection w
      is_planned j q here w has =
          go_on ((is.units q.unit).0 (contains_from_at (map (λ (x : Planned). x.unit) planned) j q.unit (slice_get-map (λ (x : Planned). x.unit) planned j ∙ ap (option_map (λ (x : Planned). x.unit)) here))) has
        where
          reaches_on : {x y z : Unit} → Reaches project.workspace project.features x y → Contains (needs project.workspace project.features y) z → Reaches project.workspace project.features x z
          reaches_on {x} {y} {z} (direct _ _ n) l = onward x y z n (direct y z l)
          reaches_on {x} {y} {z} (onward _ t _ n rest) l = onward x t z n (reaches_on rest l)

          go_on : {x y : Unit} → IsPlanned project.workspace project.features selection x → Contains (needs project.workspace project.features x) y → IsPlanned project.workspace project.features selection y
          go_on {x} {y} (inl root) l = inr (x, root, direct x y l)
          go_on {x} {y} (inr (r, root, reaches)) l = inr (r, root, reaches_on reaches l)

  pub reads_by_need : (i : ℕ) (u : Planned) → slice_get planned i ≡ Some u → (f : List ℕ) → Contains (reads_of project u) f ↔ IsReadByNeed project u f
  reads_by_need i u at f = (to, from)
    where
      to : Contains (reads_of project u) f → IsReadByNeed project u f
      to has =
          let (index, among, inside) = flat_at (read_at project) u.reaches f has in
          let (v, there, same) = folder_of_unit (slice_get planned index) f inside in
          let (q, here, reaches) = ((reached_at i u at).same index).0 among in
          by_need i u v index f at there same u.unit q.unit reaches refl (ap (λ (x : Planned). x.unit) (the_same v q (sym there ∙ here)))
        where
          the_same : (x y : Planned) → Some x ≡ Some y → x ≡ y
          the_same x y e = cc

      from : IsReadByNeed project u f → Contains (reads_of project u) f
      from by = elim by.own_or_read [
        | inl own ↦ subst (Contains (reads_of project u)) (sym own) (read_by u by.need by.index (needs_are_reached i u at by.index by.needed) by.there)
        | inr read ↦ further read
      ]
        where
          further : Contains (reads_of project by.need) f → Contains (reads_of project u) f
          further read =
              let (index, among, inside) = flat_at (read_at project) by.need.reaches f read in
              let (v, there, same) = folder_of_unit (slice_get planned index) f inside in
              let (q, here, reaches) = ((reached_at by.index by.need by.there).same index).0 among in
              let (n, here', need) = ((needed_at i u at).same by.index).0 by.needed in
              subst (Contains (reads_of project u)) (sym same) (read_by u v index
              (((reached_at i u at).same index).1 (
                q,
                here,
                onward u.unit by.need.unit q.unit
                    (subst (λ (x : Planned). Contains (needs project.workspace project.features u.unit) x.unit) (the_same n by.need (sym here' ∙ by.there)) need) reaches,
              )) there)
            where
              the_same : (x y : Planned) → Some x ≡ Some y → x ≡ y
              the_same x y e = cc

pub in_order : (project : Project) (selection : Selection) (profile : List ℕ) → is_path project.workspace.target ≡ true → IsSettled project.workspace → profile ≡ project.profile
    → IsPlan project.workspace project.features selection profile project.plan → AllPairs LieApart project.plan.planned → IsInOrder project
in_order project selection profile path settled same planned_so apart =
    let is = subst (λ x. IsPlan project.workspace project.features selection x project.plan) same planned_so in
    let relative = folder_relative project.workspace project.features selection project.profile project.plan is in
    record {
      settled = settled;
      selection = selection;
      planned = is;
      folder = below_is_path project.workspace.target (folder_of project.profile) (profile_folder project.workspace project.profile) path relative refl;
      target = at_below project.workspace.target (profile_folder project.workspace project.profile) (below_is_below project.workspace.target (folder_of project.profile) (profile_folder project.workspace project.profile) relative refl);
      keys = λ i u at. key_is u (all_at TellsWhat project.plan.planned (keys_tell_what project.workspace project.features selection project.profile project.plan settled is) i u at);
      folders = λ i u at. all_at (λ (x : Planned). x.out ≡ below (profile_folder project.workspace project.profile) x.key) project.plan.planned is.folders i u at;
      needs_reached = needs_are_reached project selection is;
      reads_are = reads_by_need project selection is;
      packages = package_there project.workspace project.features selection project.profile project.plan is;
      inside = out_inside project.workspace project.features selection project.profile project.plan is;
      apart = apart_at project.plan.planned apart;
      needs = needs_before project.workspace project.features selection project.profile project.plan is;
      reaches = reaches_before project.workspace project.features selection project.profile project.plan is;
    }
