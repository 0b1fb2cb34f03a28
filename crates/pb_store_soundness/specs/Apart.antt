-- What other units may do while a unit's child is in flight.
use Rattle.std.specs.Prelude.{◌≡◌, ◌≢◌, ◌||◌, ℕ, Bool, true, List, Contains}
use Rattle.pb_place_types.specs.Folders.{files_in}
use Rattle.pb_place_types.specs.Paths.{is_path, is_at_or_below}
use Rattle.pb_place_types.specs.World.{World, ChangesOnly, seen_by}
use Rattle.pb_place_types.specs.declared.command.Command.{Command}
use Rattle.pb_store_soundness.specs.Records.{RecordParser, is_key, out_of, record_path, record_at}

-- a path belongs to a unit if the path is at or below the unit's output folder or the path of the
-- unit's record
abbrev pub is_of : List ℕ → List ℕ → List ℕ → Bool
is_of folder key q = is_at_or_below (out_of folder key) q || is_at_or_below (record_path folder key) q

-- the command reads only output folders of other units
abbrev pub ReadsOthers : List ℕ → List ℕ → Command → Type 0
ReadsOthers folder key c = (f : List ℕ) → Contains c.reads f → (v : List ℕ) × (is_key v ≡ true) × (v ≢ key) × (f ≡ out_of folder v)

-- A change at the paths of one unit leaves the records and files of all other units unchanged. If a
-- command reads only folders of other units, the command's view is unchanged, too.
abbrev pub OthersLaw : Type 0
OthersLaw = (read : RecordParser) (folder key : List ℕ) (c : Command) (old new : World) → is_path folder ≡ true → is_key key ≡ true → is_at_or_below c.target folder ≡ true → ReadsOthers folder key c → ChangesOnly (is_of folder key) old new
    → (seen_by c new ≡ seen_by c old) × ((l : List ℕ) → l ≢ key → (record_at read folder new.files l ≡ record_at read folder old.files l)) × ((l : List ℕ) → is_key l ≡ true → l ≢ key → files_in (out_of folder l) new.files ≡ files_in (out_of folder l) old.files)
