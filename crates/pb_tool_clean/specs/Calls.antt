-- How the calls of a removal change a place, and how a fault names its call.
use Rattle.std.specs.Prelude.{◌≡◌, ◌⊎◌, ℕ, Bool, List, [], ◌∷◌, ◌++◌, Some, Result, IfErr, OnOk, IsTrue, codes}
use Rattle.pb_place_types.specs.At.{At}
use Rattle.pb_place_types.specs.Counts.{Counts, named_in, up}
use Rattle.pb_place_types.specs.Paths.{below, is_at_or_below}
use Rattle.pb_place_types.specs.World.{World, ChangesOnly, PartlyRemoved, listed_directly, listed_folders, removed}
use Rattle.pb_place_types.specs.declared.place.Failure.TheVariants.{Called}
use Rattle.pb_place_types.specs.declared.place.PlaceFault.{PlaceFault}
use Rattle.pb_place_types.specs.declared.place.PlaceFault.TheVariants as place
use Rattle.pb_tool_clean.specs.Names.{is_among}
use Rattle.pb_tool_clean.specs.declared.fault.CleanFault.{CleanFault}
use Rattle.pb_tool_clean.specs.declared.fault.CleanFault.TheVariants.{Call, OutOfMemory, Nothing, NoSuchProfile}

-- the parts of a place that removals use, at one moment
pub record Moment : Type 0 where
  pub world : World
  pub counts : Counts
  pub most : ℕ

abbrev pub moment_of : At → Moment
moment_of a = record { world = a.world; counts = a.counts; most = a.most }

-- the fault of a call with this name or path; out of memory stays out of memory
abbrev pub fault_of : List ℕ → PlaceFault → CleanFault
fault_of name place.OutOfMemory = OutOfMemory
fault_of name fault = Call name fault

-- no call failed
abbrev pub NoneFailed : Counts → Counts → Type 0
NoneFailed old new = new.failures ≡ old.failures

-- One call failed, and no call came after it. The fault has the name or path of this call, and the
-- reason of its failure. If memory ran out, no call failed.
abbrev pub NamesCall : Counts → Counts → CleanFault → Type 0
NamesCall old new (Call name fault) = (named_in new ≡ name) × (new.last ≡ Some (Called fault)) × (new.failures ≡ up old.failures) × (new.late ≡ 0)
NamesCall old new OutOfMemory = NoneFailed old new
NamesCall old new (Nothing wanted folder) = ⊥
NamesCall old new NoSuchProfile = ⊥

-- Nothing has changed but the counters of calls and of failures. No file and no variable has
-- changed, and no child was started.
pub record Looked (old new : Moment) : Type 0 where
  pub world : new.world ≡ old.world
  pub starts : new.counts.starts ≡ old.counts.starts
  pub most : new.most ≡ old.most

-- Nothing has changed but the counters of calls and of failures. After a success no call has
-- failed, and a fault names the failed call.
pub record Looks {T : Type 0} (result : Result T CleanFault) (old new : Moment) : Type 0 where
  pub looked : Looked old new
  pub ok : OnOk result (NoneFailed old.counts new.counts)
  pub fault : IfErr result (NamesCall old.counts new.counts)

-- files have changed only at these paths, and no child was started
pub record Changed (may : List ℕ → Bool) (old new : Moment) : Type 0 where
  pub only : ChangesOnly may old.world new.world
  pub starts : new.counts.starts ≡ old.counts.starts
  pub most : new.most ≡ old.most

-- Files have changed only at these paths. After a success no call has failed, and a fault names the
-- failed call.
pub record Removes {T : Type 0} (may : List ℕ → Bool) (result : Result T CleanFault) (old new : Moment) : Type 0 where
  pub changed : Changed may old new
  pub ok : OnOk result (NoneFailed old.counts new.counts)
  pub fault : IfErr result (NamesCall old.counts new.counts)

-- the path of the tag in a folder; the tag is a file
abbrev pub tag_in : List ℕ → List ℕ
tag_in folder = below folder (codes "CACHEDIR.TAG")

-- The files directly in these folders. `folders_of` are the folders directly in these folders.
abbrev pub files_of : List (List ℕ) → World → List (List ℕ)
files_of [] w = []
files_of (folder ∷ folders) w = listed_directly folder w ++ files_of folders w

abbrev pub folders_of : List (List ℕ) → World → List (List ℕ)
folders_of [] w = []
folders_of (folder ∷ folders) w = listed_folders folder (removed (tag_in folder) w) ++ folders_of folders w

-- the folders of all profiles, which are the folders directly in the target folder
abbrev pub profiles_of : List ℕ → World → List (List ℕ)
profiles_of target w = listed_folders target (removed (tag_in target) w)

-- the world without what is at or below these paths
abbrev pub removed_each : List (List ℕ) → World → World
removed_each [] w = w
removed_each (path ∷ paths) w = removed_each paths (removed path w)

-- A removal at this path failed. Each file at or below the path is unchanged or gone, and nothing
-- else has changed.
abbrev pub Cut : List ℕ → World → World → Type 0
Cut path w new = (new ≡ w) ⊎ PartlyRemoved path w new

-- Removals, one after another, ended early. The removal at one path failed. The files at the
-- earlier paths are gone, and the files at the later paths are unchanged.
abbrev pub CutsEach : List (List ℕ) → World → World → Type 0
CutsEach [] w new = new ≡ w
CutsEach (path ∷ paths) w new = Cut path w new ⊎ CutsEach paths (removed path w) new
