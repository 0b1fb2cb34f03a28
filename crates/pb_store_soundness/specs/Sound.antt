-- When a record is true, and when a profile's folder is sound.
use Rattle.std.specs.Prelude.{◌≡◌, ◌<◌, ◌↔◌, ℕ, List, map, Some, Contains, pos}
use Rattle.std.specs.FinMap as finite
use Rattle.pb_place_types.specs.Folders.{files_in}
use Rattle.pb_place_types.specs.World.{World, Map, Answers, put_files}
use Rattle.pb_place_types.specs.declared.child.Reply.{Reply}
use Rattle.pb_record.specs.Commands.{command_of}
use Rattle.pb_record.specs.declared.record.Needed.{Needed}
use Rattle.pb_record.specs.declared.record.Needed.TheVariants.{Copies, Numbers}
use Rattle.pb_record.specs.declared.record.Record.{Record}
use Rattle.pb_store_soundness.specs.Inputs.{Judge, Agrees, SameBelow, contents, name_of, reply_in}
use Rattle.pb_store_soundness.specs.Records.{RecordParser, out_of, record_at}
use Rattle.pb_store_soundness.specs.Grounded.{RecordMap, Grounded, Reaches}

-- the files that this reply puts into an output folder that was empty
abbrev pub replied_files : List ℕ → Reply → Map
replied_files out r = files_in out (put_files out r.files finite.empty)

-- the reply is good, has the record's two streams and input names, and writes exactly the files
-- `made`
pub record Backs (judge : Judge) (r : Record) (out : List ℕ) (made : Map) (reply : Reply) : Type 0 where
  pub good : judge (command_of r.asked) reply ≡ Some (map name_of r.inputs)
  pub status : reply.status ≡ pos 0
  pub stdout : reply.stdout ≡ r.stdout
  pub stderr : reply.stderr ≡ r.stderr
  pub files : replied_files out reply ≡ made

-- each unit in `copies` has exactly the files that the copy contains
abbrev pub HoldsCopies : List ℕ → List (List ℕ × List (List ℕ × List ℕ)) → Map → Type 0
HoldsCopies folder copies m = (need : List ℕ) (files : List (List ℕ × List ℕ)) → Contains copies (need, files) → contents (out_of folder need) m ≡ files

-- A true record of format 1. If the record has a copy of a unit's files, the record's command reads
-- the unit's folder. In each world that agrees with the inputs and the copies, the child's reply
-- would be the recorded reply.
pub record TrueCopies (judge : Judge) (child : Answers) (folder : List ℕ) (made : Map) (r : Record) (out : List ℕ) (copies : List (List ℕ × List (List ℕ × List ℕ))) : Type 0 where
  pub read : (need : List ℕ) (files : List (List ℕ × List ℕ)) → Contains copies (need, files) → Contains r.asked.reads (out_of folder need)
  pub gives : (x : World) → Agrees r.asked.target r.inputs x → HoldsCopies folder copies x.files → Backs judge r out made (reply_in child (command_of r.asked) x)

-- A record rests on the present files. The record's command reads exactly the folders of the units
-- that the record's unit reaches. In each world that agrees with the inputs and has the present
-- files below these folders, the child's reply would be the recorded reply.
pub record Rests (judge : Judge) (child : Answers) (folder : List ℕ) (at : RecordMap) (files : Map) (key : List ℕ) (r : Record) : Type 0 where
  pub reads : (f : List ℕ) → Contains r.asked.reads f ↔ ((v : List ℕ) × Reaches at key v × (f ≡ out_of folder v))
  pub gives : (x : World) → Agrees r.asked.target r.inputs x → SameBelow r.asked.reads files x.files → Backs judge r (out_of folder key) (files_in (out_of folder key) files) (reply_in child (command_of r.asked) x)

-- A true record of format 2. The record's command reads the folder of each unit that the record
-- names. The number of each of these units is less than the record's own number. If the record is
-- grounded, it rests on the present files.
pub record TrueNumbers (judge : Judge) (child : Answers) (folder : List ℕ) (at : RecordMap) (files : Map) (key : List ℕ) (r : Record) (number : ℕ) (needs : List (List ℕ × ℕ)) : Type 0 where
  pub read : (need : List ℕ) (n : ℕ) → Contains needs (need, n) → Contains r.asked.reads (out_of folder need)
  pub less : (need : List ℕ) (n : ℕ) → Contains needs (need, n) → n < number
  pub rests : Grounded at key number → Rests judge child folder at files key r

abbrev pub TrueBy : Judge → Answers → List ℕ → RecordMap → Map → List ℕ → Record → Needed → Type 0
TrueBy judge child folder at files key r (Copies copies) = TrueCopies judge child folder (files_in (out_of folder key) files) r (out_of folder key) copies
TrueBy judge child folder at files key r (Numbers number needs) = TrueNumbers judge child folder at files key r number needs

-- the record, taken as the record of this key, is true
pub record IsTrueRecord (judge : Judge) (child : Answers) (folder : List ℕ) (at : RecordMap) (files : Map) (key : List ℕ) (r : Record) : Type 0 where
  pub says : TrueBy judge child folder at files key r r.needed

-- each record that counts in a profile's folder is true
pub record Sound (read : RecordParser) (judge : Judge) (child : Answers) (folder : List ℕ) (files : Map) : Type 0 where
  pub each : (key : List ℕ) (r : Record) → record_at read folder files key ≡ Some r → IsTrueRecord judge child folder (record_at read folder files) files key r
