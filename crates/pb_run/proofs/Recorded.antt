-- Records while units begin and answer: whose folders and records are whose, and what another unit's halves leave.
use Rattle.std.proofs.Common.{◌≡◌, ◌≢◌, ◌⊎◌, ◌∙◌, ◌++◌, ◌&&◌, ◌||◌, ℕ, Bool, true, false, List, [], ◌∷◌, Option, Some, None, Contains, refl, sym, ap, subst, inl, inr}
use Rattle.std.proofs.lemmas.Bool.{cases_eq, false≢true}
use Rattle.std.specs.List.{list_all, flat_map}
use Rattle.pb_command_arguments.specs.Externs.{folder_in, read_at, reads_of}
use Rattle.pb_run_flight.proofs.Lists.{contains_none, contains_head, contains_tail, contains_cases}
use Rattle.pb_place_types.specs.Folders.{files_in}
use Rattle.pb_place_types.specs.Paths.{is_at_or_below}
use Rattle.pb_place_types.specs.World.{World, ChangesOnly, from_nothing, seen_by}
use Rattle.pb_place_types.specs.declared.command.Command.{Command}
use Rattle.pb_place_types.proofs.Folders.{sources_alike}
use Rattle.pb_place_types.proofs.PathLemmas.{and_left, and_right}
use Rattle.pb_place_types.proofs.Within.{at_itself, at_below, at_or_below_on, outside_within}
use Rattle.pb_command_types.specs.Targets.{unit_at}
use Rattle.pb_command_types.specs.declared.project.Project.{Project}
use Rattle.pb_run.specs.UnitSteps.{BuildContext, key_in, needed_keys, command_in}
use Rattle.pb_run.specs.Invariants.{IsInOrder, records_folder}
use Rattle.pb_run.proofs.Views.{IsFor, is_for, HasPackage}
use Rattle.pb_store_soundness.specs.Apart.{is_of, ReadsOthers}
use Rattle.pb_store_soundness.specs.Records.{RecordParser, is_key, out_of, record_path, record_at}
use Rattle.pb_store_soundness.proofs.Flying.{unit_files, unit_record, unit_seen}
use Rattle.pb_store_soundness.proofs.RecordPaths.{one_key, out_in, record_below}
use Rattle.pb_unit.specs.declared.plan.Planned.{Planned}

-- Elements.

pub all_at : {X : Type 0} (p : X → Bool) (xs : List X) (x : X) → list_all p xs ≡ true → Contains xs x → p x ≡ true
all_at p [] x all has = absurd (contains_none x has)
all_at p (y ∷ xs) x all has = elim (contains_cases y xs x has) [
  | inl same ↦ subst (λ z. p z ≡ true) same (and_left _ _ all)
  | inr more ↦ all_at p xs x (and_right _ _ all) more
]

pub all_of : {X : Type 0} (p : X → Bool) (xs : List X) → ((x : X) → Contains xs x → p x ≡ true) → list_all p xs ≡ true
all_of p [] each = refl
all_of p (y ∷ xs) each = ap (λ b. b && list_all p xs) (each y (contains_head y xs)) ∙ all_of p xs (λ x has. each x (contains_tail y xs x has))

pub append_cases : {X : Type 0} (xs ys : List X) (v : X) → Contains (xs ++ ys) v → Contains xs v ⊎ Contains ys v
append_cases [] ys v has = inr has
append_cases (x ∷ xs) ys v has = elim (contains_cases x (xs ++ ys) v has) [
  | inl same ↦ inl (subst (Contains (x ∷ xs)) same (contains_head x xs))
  | inr more ↦ elim (append_cases xs ys v more) [
    | inl left ↦ inl (contains_tail x xs v left)
    | inr right ↦ inr right
  ]
]

pub append_left : {X : Type 0} (xs ys : List X) (v : X) → Contains xs v → Contains (xs ++ ys) v
append_left [] ys v has = absurd (contains_none v has)
append_left (x ∷ xs) ys v has = elim (contains_cases x xs v has) [
  | inl same ↦ subst (Contains (x ∷ (xs ++ ys))) same (contains_head x (xs ++ ys))
  | inr more ↦ contains_tail x (xs ++ ys) v (append_left xs ys v more)
]

pub append_right : {X : Type 0} (xs ys : List X) (v : X) → Contains ys v → Contains (xs ++ ys) v
append_right [] ys v has = has
append_right (x ∷ xs) ys v has = contains_tail x (xs ++ ys) v (append_right xs ys v has)

pub flat_at : {X Y : Type 0} (f : X → List Y) (xs : List X) (y : Y) → Contains (flat_map f xs) y → (x : X) × Contains xs x × Contains (f x) y
flat_at f [] y has = absurd (contains_none y has)
flat_at f (x ∷ xs) y has = elim (append_cases (f x) (flat_map f xs) y has) [
  | inl here ↦ (x, contains_head x xs, here)
  | inr more ↦ let (z, there, inside) = flat_at f xs y more in (z, contains_tail x xs z there, inside)
]

pub flat_of : {X Y : Type 0} (f : X → List Y) (xs : List X) (x : X) (y : Y) → Contains xs x → Contains (f x) y → Contains (flat_map f xs) y
flat_of f [] x y has inside = absurd (contains_none x has)
flat_of f (z ∷ xs) x y has inside = elim (contains_cases z xs x has) [
  | inl same ↦ append_left (f z) (flat_map f xs) y (subst (λ v. Contains (f v) y) (sym same) inside)
  | inr more ↦ append_right (f z) (flat_map f xs) y (flat_of f xs x y more inside)
]

one_of : {X : Type 0} (x v : X) → Contains (x ∷ []) v → x ≡ v
one_of x v has = elim (contains_cases x [] v has) [
  | inl same ↦ same
  | inr more ↦ absurd (contains_none v more)
]

-- a unit at one of some indices
pub record AtOne (project : Project) (indices : List ℕ) (unit : Planned) : Type 0 where
  pub index : ℕ
  pub among : Contains indices index
  pub there : unit_at project index ≡ Some unit

-- Units of a project, and whose folder is whose.

module _ (project : Project) (order : IsInOrder project) where
  abbrev pub F : List ℕ
  F = records_folder project

  folder_of_unit : (o : Option Planned) (f : List ℕ) → Contains (folder_in o) f → (v : Planned) × (o ≡ Some v) × (f ≡ v.out)
  folder_of_unit None f has = absurd (contains_none f has)
  folder_of_unit (Some v) f has = (v, refl, sym (one_of v.out f has))

  key_of_unit : (o : Option Planned) (k : List ℕ) → Contains (key_in o) k → (v : Planned) × (o ≡ Some v) × (k ≡ v.key)
  key_of_unit None k has = absurd (contains_none k has)
  key_of_unit (Some v) k has = (v, refl, sym (one_of v.key k has))

  -- a folder that a unit reads is that of a unit that it reaches
  pub read_reached : (u : Planned) (f : List ℕ) → Contains (reads_of project u) f → (v : Planned) × AtOne project u.reaches v × (f ≡ v.out)
  read_reached u f has =
      let (index, among, inside) = flat_at (read_at project) u.reaches f has in
      let (v, there, same) = folder_of_unit (unit_at project index) f inside in
      (v, record { index = index; among = among; there = there }, same)

  -- and the other way about
  pub reached_read : (u v : Planned) (index : ℕ) → Contains u.reaches index → unit_at project index ≡ Some v → Contains (reads_of project u) v.out
  reached_read u v index among there =
      flat_of (read_at project) u.reaches index v.out among (subst (λ (o : Option Planned). Contains (folder_in o) v.out) (sym there) (contains_head v.out []))

  pub key_needed : (u : Planned) (k : List ℕ) → Contains (needed_keys project u) k → (v : Planned) × AtOne project u.needs v × (k ≡ v.key)
  key_needed u k has =
      let (index, among, inside) = flat_at (λ index. key_in (unit_at project index)) u.needs k has in
      let (v, there, same) = key_of_unit (unit_at project index) k inside in
      (v, record { index = index; among = among; there = there }, same)

  pub needed_key : (u v : Planned) (index : ℕ) → Contains u.needs index → unit_at project index ≡ Some v → Contains (needed_keys project u) v.key
  needed_key u v index among there =
      flat_of (λ index. key_in (unit_at project index)) u.needs index v.key among (subst (λ (o : Option Planned). Contains (key_in o) v.key) (sym there) (contains_head v.key []))

  -- the folder of a key is that of a unit with this key
  pub key_by_folder : (v : Planned) (index : ℕ) (k : List ℕ) → unit_at project index ≡ Some v → out_of F k ≡ v.out → k ≡ v.key
  key_by_folder v index k there same = one_key F k v.key (same ∙ order.folders index v there)

  -- units at two indices have two keys
  pub keys_differ : (i j : ℕ) (u v : Planned) → unit_at project i ≡ Some u → unit_at project j ≡ Some v → i ≢ j → u.key ≢ v.key
  keys_differ i j u v at_i at_j apart same =
      let out : v.out ≡ u.out = order.folders j v at_j ∙ ap (out_of F) (sym same) ∙ sym (order.folders i u at_i) in
      false≢true (sym (order.apart i j u v at_i at_j apart u.out (at_itself u.out u.out refl)) ∙ at_itself v.out u.out out)

  pub indices_same : (i j : ℕ) (u v : Planned) → unit_at project i ≡ Some u → unit_at project j ≡ Some v → u.key ≡ v.key → i ≡ j
  indices_same i j u v at_i at_j same = elim (cases_eq i j) [
    | inl e ↦ e
    | inr apart ↦ absurd (keys_differ i j u v at_i at_j apart same)
  ]

  -- what a unit's command is for
  pub command_for : (b : BuildContext) (index : ℕ) (u : Planned) (c : Command) → b.project ≡ project → unit_at project index ≡ Some u → c ≡ command_in b index u → IsFor project u c
  command_for b index u c of_project there is =
      subst (λ (p : Project). IsFor p u c) of_project
      (subst (λ (d : Command). IsFor b.project u d) (sym is) (is_for b.setup b.project u _ (subst (λ (p : Project). HasPackage p u) (sym of_project) (order.packages index u there))))

  -- A change of one unit's paths.

  module _ (index : ℕ) (u : Planned) (there : unit_at project index ≡ Some u) (w w' : World) (only : ChangesOnly (is_of F u.key) w w') where
    is_keyed : is_key u.key ≡ true
    is_keyed = order.keys index u there

    -- the sources stay
    pub sources_still : from_nothing project.workspace.target w' ≡ from_nothing project.workspace.target w
    sources_still = sources_alike project.workspace.target w w' (λ q outside. only.files q (neither _ _
        (outside_within project.workspace.target (out_of F u.key) q (at_or_below_on project.workspace.target F (out_of F u.key) order.target (at_below F (out_of F u.key) (out_in F u.key is_keyed))) outside)
        (outside_within project.workspace.target (record_path F u.key) q (at_or_below_on project.workspace.target F (record_path F u.key) order.target (at_below F (record_path F u.key) (record_below F u.key is_keyed))) outside))) only.variables
      where
        neither : (a b : Bool) → a ≡ false → b ≡ false → a || b ≡ false
        neither a b p q = ap (λ x. x || b) p ∙ q

    -- the files and the record of another unit stay
    pub files_still : (other : ℕ) (v : Planned) → unit_at project other ≡ Some v → other ≢ index → files_in v.out w'.files ≡ files_in v.out w.files
    files_still other v at apart =
        subst (λ f. files_in f w'.files ≡ files_in f w.files) (sym (order.folders other v at))
        (unit_files F u.key w w' order.folder is_keyed only v.key (order.keys other v at) (keys_differ other index v u at there apart))

    pub record_still : (read : RecordParser) (other : ℕ) (v : Planned) → unit_at project other ≡ Some v → other ≢ index → record_at read F w'.files v.key ≡ record_at read F w.files v.key
    record_still read other v at apart = unit_record F u.key w w' order.folder is_keyed only read v.key (keys_differ other index v u at there apart)

    -- it is not read by a unit that does not reach it
    pub reads_others : (v : Planned) (c : Command) → c.reads ≡ reads_of project v → ((p : ℕ) → Contains v.reaches p → p ≢ index) → ReadsOthers F u.key c
    reads_others v c is far f has =
        let (x, at, same) = read_reached v f (subst (λ (l : List (List ℕ)). Contains l f) is has) in
        (x.key, order.keys at.index x at.there, keys_differ at.index index x u at.there there (far at.index at.among), same ∙ order.folders at.index x at.there)

    pub seen_still : (v : Planned) (c : Command) → IsFor project v c → ((p : ℕ) → Contains v.reaches p → p ≢ index) → seen_by c w' ≡ seen_by c w
    seen_still v c for far =
        unit_seen F u.key w w' order.folder is_keyed only c (subst (λ t. is_at_or_below t F ≡ true) (sym for.target) order.target) (reads_others v c for.reads far)
