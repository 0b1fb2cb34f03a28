-- What a removal does, in three steps: it finds the target folder, lists what the profiles' folders
-- contain, and removes what is chosen.
use Rattle.std.specs.Prelude.{◌≡◌, ◌≢◌, ℕ, ◌==◌, ◌&&◌, Bool, true, false, not, if◌then◌else◌, unwrap_or, codes, length, List, [], ◌∷◌, ◌++◌, Option, Some, None, Result, Ok, Err, IfOk, IfErr, OnOk, OnErr, IsTrue}
use Rattle.std.specs.FinMap as finite
use Rattle.std.specs.Str.{bytes_eq}
use Rattle.pb_place_types.specs.Counts.{Counts}
use Rattle.pb_place_types.specs.Paths.{below, folder_of, is_at_or_below, is_relative, joined}
use Rattle.pb_place_types.specs.World.{World, Map, listed, removed}
use Rattle.pb_place_types.specs.declared.path.PathFault.{PathFault}
use Rattle.pb_profile.specs.Line.{folder_of as profile_folder}
use Rattle.pb_workspace_types.specs.declared.options.Options.{Options}
use Rattle.pb_tool_clean.specs.Calls.{Moment, Looked, Looks, NamesCall, Removes, files_of, folders_of, profiles_of, removed_each, CutsEach, NoneFailed, tag_in}
use Rattle.pb_tool_clean.specs.Names.{folders_among, is_among, records_among}
use Rattle.pb_tool_clean.specs.declared.choice.Choice.{Choice}
use Rattle.pb_tool_clean.specs.declared.fault.CleanFault.{CleanFault}
use Rattle.pb_tool_clean.specs.declared.fault.CleanFault.TheVariants.{Nothing, NoSuchProfile, OutOfMemory}
use Rattle.pb_tool_clean.specs.declared.fault.Wanted.{Wanted}
use Rattle.pb_tool_clean.specs.declared.fault.Wanted.TheVariants as wanted
use Rattle.pb_tool_clean.specs.declared.looking.Listed.{Listed}

-- The target folder, as a build finds it.

-- the text of a variable; an empty text counts as no text
abbrev pub set_text : Option (List ℕ) → Option (List ℕ)
set_text None = None
set_text (Some text) = if length text == 0 then None else Some text

abbrev pub path_or : List ℕ → Result (List ℕ) PathFault → List ℕ
path_or other (Ok path) = path
path_or other (Err fault) = other

-- The path that a text spells; a relative text starts at the root. If there is no text, or the text
-- has byte 0, the result is the path `other`.
abbrev pub told_or : List ℕ → List ℕ → Option (List ℕ) → List ℕ
told_or root other None = other
told_or root other (Some text) = path_or other (joined root text)

-- the folder of `--target-dir`, or else the folder of `CARGO_TARGET_DIR`, or else `target` in the
-- folder of the manifest
abbrev pub target_of : Options → Map → List ℕ
target_of options variables =
    let root = folder_of options.manifest in
    told_or root (told_or root (below root (codes "target")) (set_text (finite.get variables (codes "CARGO_TARGET_DIR")))) options.target_dir

-- What is in the folders of the profiles.

abbrev pub listed_in : List ℕ → World → Listed
listed_in target w = record { files = files_of (profiles_of target w) w; folders = folders_of (profiles_of target w) w }

-- What is removed.

-- all paths that are chosen: first the paths of records, and then the paths of units' folders
abbrev pub chosen_of : Choice → Listed → List (List ℕ)
chosen_of choice listed = records_among choice listed.files ++ folders_among choice listed.folders

-- Exactly what is at or below these paths is removed. A failure ends the removal at one of these
-- paths.
pub record RemovesEach (is_modelled : Bool) (paths : List (List ℕ)) (result : Result (Unit {0}) CleanFault) (old new : Moment) : Type 0 where
  pub removes : Removes (is_among paths) result old new
  pub gone : IsTrue is_modelled → OnOk result (new.world ≡ removed_each paths old.world)
  pub cut : IsTrue is_modelled → OnErr result (CutsEach paths old.world new.world)

-- there is no file, or the tag is the only file
abbrev pub is_tag_alone : List ℕ → List (List ℕ) → Bool
is_tag_alone tag [] = true
is_tag_alone tag (path ∷ []) = bytes_eq path tag
is_tag_alone tag (path ∷ next ∷ paths) = false

-- nothing was listed
abbrev pub is_bare : Listed → Bool
is_bare listed = are_none listed.files listed.folders
  where
    are_none : List (List ℕ) → List (List ℕ) → Bool
    are_none [] [] = true
    are_none files folders = false

-- Nothing is left in the target folder but the tag: nothing is in the profiles' folders, and no
-- file but the tag is in the target folder. On a machine, only the list of what the profiles'
-- folders contain shows a folder without files, or another target folder.
abbrev pub is_emptied : List ℕ → World → Bool
is_emptied target w = is_bare (listed_in target w) && is_tag_alone (tag_in target) (listed target w)

-- if nothing is left in the target folder but the tag, the whole folder is removed; otherwise
-- nothing is removed
pub record RemovesRest (is_modelled : Bool) (target : List ℕ) (result : Result (Unit {0}) CleanFault) (old new : Moment) : Type 0 where
  pub removes : Removes (is_at_or_below target) result old new
  pub kept : IsTrue is_modelled → is_emptied target old.world ≡ false → new.world ≡ old.world
  pub gone : IsTrue is_modelled → is_emptied target old.world ≡ true → OnOk result (new.world ≡ removed target old.world)

-- everything is chosen: neither a package nor a profile is named
abbrev pub is_whole : Choice → Bool
is_whole choice = whole_of choice.packages choice.profile
  where
    whole_of : List (List ℕ) → Option (List ℕ) → Bool
    whole_of [] None = true
    whole_of packages profile = false

-- What follows after the chosen part was removed. A fault ends the removal. Otherwise, if
-- everything was chosen, the rest is removed.
abbrev pub GoesOn : Bool → Bool → List ℕ → Result (Unit {0}) CleanFault → Result (Unit {0}) CleanFault → Moment → Moment → Type 0
GoesOn is_modelled true target (Ok done) result old new = RemovesRest is_modelled target result old new
GoesOn is_modelled false target (Ok done) result old new = (result ≡ Ok done) × (new ≡ old)
GoesOn is_modelled whole target (Err fault) result old new = (result ≡ Err fault) × (new ≡ old)

-- the chosen part of the list is removed, and then the rest, if everything was chosen
pub record Cleans (is_modelled : Bool) (choice : Choice) (listed : Listed) (result : Result (Unit {0}) CleanFault) (old new : Moment) : Type 0 where
  pub first : Result (Unit {0}) CleanFault
  pub mid : Moment
  pub removes : RemovesEach is_modelled (chosen_of choice listed) first old mid
  pub goes_on : GoesOn is_modelled (is_whole choice) choice.target first result mid new

-- the chosen part of the list is removed; a fault of the listing ends the removal
abbrev pub CleansListed : Bool → Choice → Result Listed CleanFault → Result (Unit {0}) CleanFault → Moment → Moment → Type 0
CleansListed is_modelled choice (Ok listed) result old new = Cleans is_modelled choice listed result old new
CleansListed is_modelled choice (Err fault) result old new = (result ≡ Err fault) × (new ≡ old)

-- the content of the profiles' folders was listed, and then the chosen part of this content was
-- removed
pub record CleansNow (is_modelled : Bool) (choice : Choice) (result : Result (Unit {0}) CleanFault) (old new : Moment) : Type 0 where
  pub listed : Result Listed CleanFault
  pub mid : Moment
  pub looks : Looks listed old mid
  pub is : IsTrue is_modelled → IfOk listed (λ l. l ≡ listed_in choice.target old.world)
  pub cleans : CleansListed is_modelled choice listed result mid new

-- What is found before anything is removed.

-- the choice of everything in a target folder
abbrev pub all_of : List ℕ → Choice
all_of target = record { target = target; packages = []; profile = None }

-- the same choice, but for all packages
abbrev pub of_all_packages : Choice → Choice
of_all_packages choice = record choice { packages = [] }

-- the folder to which a choice refers: the folder of the named profile, or the target folder if no
-- profile is named
abbrev pub looked_in : Choice → List ℕ
looked_in choice = unwrap_or choice.profile choice.target

-- What is missing, if the list contains nothing of the choice.
-- - `All`: the list has no record and no unit's folder.
-- - `OfProfile`: the list has records or units' folders, but none of the chosen profile.
-- - `OfPackages`: the list has some of the chosen profile, but none of the chosen packages.
abbrev pub ReportsMissing : Choice → Listed → Option Wanted → Type 0
ReportsMissing choice listed (Some wanted.All) = chosen_of (all_of choice.target) listed ≡ []
ReportsMissing choice listed (Some wanted.OfProfile) =
    (chosen_of (all_of choice.target) listed ≢ []) × (chosen_of (of_all_packages choice) listed ≡ [])
ReportsMissing choice listed (Some wanted.OfPackages) =
    (chosen_of (of_all_packages choice) listed ≢ []) × (chosen_of choice listed ≡ [])
ReportsMissing choice listed None = chosen_of choice listed ≢ []

-- the folder that a refusal names, given what is missing
abbrev pub folder_for : Wanted → Choice → List ℕ
folder_for wanted.All choice = choice.target
folder_for some choice = looked_in choice

-- if the list contains something of the choice, the choice stays as it is; otherwise the choice is
-- refused
abbrev pub RequiresListed : Choice → Listed → Result Choice CleanFault → Type 0
RequiresListed choice listed (Ok judged) = (judged ≡ choice) × ReportsMissing choice listed None
RequiresListed choice listed (Err (Nothing some folder)) = ReportsMissing choice listed (Some some) × (folder ≡ folder_for some choice)
RequiresListed choice listed (Err OutOfMemory) = Unit {0}
RequiresListed choice listed (Err fault) = ⊥

-- The folder of the named profile. The profile's folder must have a name. If all profiles are
-- chosen, there is no folder.
abbrev pub IsProfile : List ℕ → List ℕ → Bool → Option (List ℕ) → Type 0
IsProfile target name false profile = profile ≡ None
IsProfile target name true profile = (is_relative (profile_folder name) ≡ true) × (profile ≡ Some (below target (profile_folder name)))

-- a profile is named, and its folder would have no name
abbrev pub HasNoFolder : Options → Bool → Type 0
HasNoFolder options one_profile = (one_profile ≡ true) × (is_relative (profile_folder options.profile) ≡ false)

-- A choice is refused because the folder of the chosen profile would have no name. Memory may also
-- run out.
abbrev pub RefusesChoice : Options → Bool → CleanFault → Type 0
RefusesChoice options one_profile NoSuchProfile = HasNoFolder options one_profile
RefusesChoice options one_profile OutOfMemory = Unit {0}
RefusesChoice options one_profile fault = ⊥

-- the choice is the one that these options express
pub record Chooses (is_modelled : Bool) (options : Options) (one_profile : Bool) (w : World) (choice : Choice) : Type 0 where
  pub packages : choice.packages ≡ options.packages
  pub profile : IsProfile choice.target options.profile one_profile choice.profile
  pub target : IsTrue is_modelled → choice.target ≡ target_of options w.variables

-- Why nothing is removed. Either there is nothing that the options choose, or the folder of the
-- profile would have no name, or a call failed.
abbrev pub Refuses : Bool → Options → Bool → World → Counts → Counts → CleanFault → Type 0
Refuses is_modelled options one_profile w old new (Nothing some folder) =
    (choice : Choice) × Chooses is_modelled options one_profile w choice × (folder ≡ folder_for some choice)
    × (IsTrue is_modelled → ReportsMissing choice (listed_in choice.target w) (Some some)) × NoneFailed old new
Refuses is_modelled options one_profile w old new NoSuchProfile = HasNoFolder options one_profile × NoneFailed old new
Refuses is_modelled options one_profile w old new fault = NamesCall old new fault

-- Either the choice of the options was found and there is something to remove, or the choice is
-- refused. Nothing has changed.
pub record Finds (is_modelled : Bool) (options : Options) (one_profile : Bool) (result : Result Choice CleanFault) (old new : Moment) : Type 0 where
  pub looked : Looked old new
  pub chooses : IfOk result (Chooses is_modelled options one_profile old.world)
  pub some : IsTrue is_modelled → IfOk result (λ choice. ReportsMissing choice (listed_in choice.target old.world) None)
  pub ok : OnOk result (NoneFailed old.counts new.counts)
  pub refuses : IfErr result (Refuses is_modelled options one_profile old.world old.counts new.counts)
