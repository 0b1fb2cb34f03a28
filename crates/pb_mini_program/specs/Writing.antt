-- What the program writes of a reply: first the files, then the output, then standard error.
-- Nothing is written after a failed write.
use Rattle.std.specs.Prelude.{◌≡◌, ◌⊎◌, ℕ, Bool, List, [], ◌∷◌, ◌++◌, Option, Some, None, IsTrue}
use Rattle.std.specs.Io.KnownBytes.{Appends}
use Rattle.pb_place_types.specs.At.{At}
use Rattle.pb_place_types.specs.CallsInTurn.{past_calls}
use Rattle.pb_place_types.specs.declared.call.Call.{Call}
use Rattle.pb_place_types.specs.declared.call.Call.TheVariants as call
use Rattle.pb_place_types.specs.Counts.{Counts, up, past_place_fault}
use Rattle.pb_place_types.specs.Paths.{below}
use Rattle.pb_place_types.specs.Sinks.{SinkState, TakesPart}
use Rattle.pb_place_types.specs.World.{World, Torn, put_reply}
use Rattle.pb_place_types.specs.declared.child.Reply.{Reply}
use Rattle.pb_place_types.specs.declared.place.PlaceFault.TheVariants as place
use Rattle.pb_mini.specs.Answer.{answered}
use Rattle.pb_mini_program.specs.OutFolder.{out_folder}

-- all of these bytes were written
abbrev pub Writes : List ℕ → SinkState → SinkState → Type 0
Writes bytes old new = Appends old.taken new.taken bytes × (new.faults ≡ old.faults)

-- the sink failed while these bytes were written: the sink took a prefix of the bytes, but not all
-- bytes
abbrev pub SinkFailsAt : List ℕ → SinkState → SinkState → Type 0
SinkFailsAt bytes old new = TakesPart bytes old.taken new.taken × (new.faults ≡ up old.faults)

-- the world of a place, and its counters
pub record Kept : Type 0 where
  pub world : World
  pub counts : Counts

abbrev pub kept : At → Kept
kept at = record { world = at.world; counts = at.counts }

-- the calls that write these files into a folder, one by one
abbrev pub writes_in : List ℕ → List (List ℕ × List ℕ) → List Call
writes_in folder [] = []
writes_in folder (file ∷ files) = call.Write (below folder file.0) ∷ writes_in folder files

-- the counters after these files were put into a folder, by one call for each file; without a
-- folder no call is made
abbrev pub past_puts : Option (List ℕ) → List (List ℕ × List ℕ) → Counts → Counts
past_puts None files c = c
past_puts (Some folder) files c = past_calls (writes_in folder files) c

-- The files were put into the folder, by one call for each file, and no call failed. Without a
-- folder no call was made.
abbrev pub PutsIn : Bool → Option (List ℕ) → List (List ℕ × List ℕ) → Kept → Kept → Type 0
PutsIn is_modelled folder files old new = (new.counts ≡ past_puts folder files old.counts) × (IsTrue is_modelled → new.world ≡ put_reply folder files old.world)

-- The files of `done` were put into the folder. The next file is unchanged, is gone, or contains a
-- prefix of the bytes that were to be written.
abbrev pub PutsUpTo : List ℕ → List (List ℕ × List ℕ) → List ℕ × List ℕ → World → World → Type 0
PutsUpTo folder done file old new = Torn (below folder file.0) file.1 (put_reply (Some folder) done old) new

-- The write of one of the files failed, and no call came after this write. All files that precede
-- this file in the list were put into the folder.
abbrev pub FailsToPut : Bool → List ℕ → List (List ℕ × List ℕ) → Kept → Kept → Type 0
FailsToPut is_modelled folder files old new =
    (done : List (List ℕ × List ℕ)) × (file : List ℕ × List ℕ) × (left : List (List ℕ × List ℕ)) × (files ≡ done ++ file ∷ left)
    × (new.counts ≡ past_place_fault (call.Write (below folder file.0)) place.Write (past_calls (writes_in folder done) old.counts)) × (IsTrue is_modelled → PutsUpTo folder done file old.world new.world)

-- Memory ran out before or during the write of one of the files, and no call failed. All files that
-- precede this file in the list were put into the folder.
abbrev pub StopsPutting : Bool → List ℕ → List (List ℕ × List ℕ) → Kept → Kept → Type 0
StopsPutting is_modelled folder files old new =
    (done : List (List ℕ × List ℕ)) × (file : List ℕ × List ℕ) × (left : List (List ℕ × List ℕ)) × (files ≡ done ++ file ∷ left)
    × (PutsIn is_modelled (Some folder) done old new
    ⊎ ((new.counts ≡ past_calls (writes_in folder (done ++ file ∷ [])) old.counts) × (IsTrue is_modelled → PutsUpTo folder done file old.world new.world)))

-- The reply over a view. If the view reports the files and variables that it shows, the reply is
-- the small compiler's reply to these arguments.

abbrev pub IsReply : Bool → List (List ℕ) → World → Reply → Type 0
IsReply shows words shown reply = IsTrue shows → reply ≡ answered words [] shown

-- if the view reports what it shows, the reply's files go into this folder; without a folder they
-- go nowhere
abbrev pub IsFolder : Bool → List (List ℕ) → World → Option (List ℕ) → Type 0
IsFolder shows words shown folder = IsTrue shows → out_folder words shown ≡ folder

-- if these files are the files of the reply, they go into this folder; without a folder they go
-- nowhere
abbrev pub IsFolderOf : Bool → List (List ℕ) → World → List (List ℕ × List ℕ) → Option (List ℕ) → Type 0
IsFolderOf shows words shown files folder = files ≡ (answered words [] shown).files → IsFolder shows words shown folder

-- all files of the reply were put into the folder of the request
abbrev pub Puts : Bool → Bool → List (List ℕ) → World → Reply → Kept → Kept → Type 0
Puts shows is_modelled words shown reply old new = (folder : Option (List ℕ)) × IsFolder shows words shown folder × PutsIn is_modelled folder reply.files old new

-- a place and the two sinks of a program
pub record Outside : Type 0 where
  pub kept : Kept
  pub out : SinkState
  pub err : SinkState

abbrev pub outside : At → SinkState → SinkState → Outside
outside at out err = record { kept = kept at; out = out; err = err }

-- the whole reply was written: the files, the output, and standard error
abbrev pub WritesAll : Bool → Bool → List (List ℕ) → World → Reply → Outside → Outside → Type 0
WritesAll shows is_modelled words shown reply old new = Puts shows is_modelled words shown reply old.kept new.kept × Writes reply.stdout old.out new.out × Writes reply.stderr old.err new.err

-- A write failed. The failed write was the write of a file, of the output after all files, or of
-- standard error after the whole output.
abbrev pub WriteFails : Bool → Bool → List (List ℕ) → World → Reply → Outside → Outside → Type 0
WriteFails shows is_modelled words shown reply old new =
    ((folder : List ℕ) × IsFolder shows words shown (Some folder) × FailsToPut is_modelled folder reply.files old.kept new.kept × (new.out ≡ old.out) × (new.err ≡ old.err))
    ⊎ ((Puts shows is_modelled words shown reply old.kept new.kept × SinkFailsAt reply.stdout old.out new.out × (new.err ≡ old.err))
    ⊎ (Puts shows is_modelled words shown reply old.kept new.kept × Writes reply.stdout old.out new.out × SinkFailsAt reply.stderr old.err new.err))

-- Memory ran out before the first file was put into the folder, or at one of the files. No call
-- failed, and nothing was written to a sink.
abbrev pub MemoryEnds : Bool → Bool → List (List ℕ) → World → Outside → Outside → Type 0
MemoryEnds shows is_modelled words shown old new =
    (new ≡ old)
    ⊎ ((reply : Reply) × (folder : List ℕ) × IsReply shows words shown reply × IsFolder shows words shown (Some folder)
    × StopsPutting is_modelled folder reply.files old.kept new.kept × (new.out ≡ old.out) × (new.err ≡ old.err))
