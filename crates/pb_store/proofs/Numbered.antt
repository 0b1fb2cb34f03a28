-- What a record says of numbers, as the record has it.
use Rattle.std.proofs.Common.{◌≡◌, ◌&&◌, ℕ, List, Option, Some, None, cond, refl, ap}
use Rattle.std.specs.Prelude.{option_map}
use Rattle.std.specs.Str.{bytes_eq}
use Rattle.pb_data.specs.Table.{with_entry}
use Rattle.pb_record.specs.Numbers.{numbered_in, numbers_of}
use Rattle.pb_record.specs.declared.record.Needed.{Needed}
use Rattle.pb_record.specs.declared.record.Needed.TheVariants.{Copies, Numbers}
use Rattle.pb_record.specs.declared.record.Record.{Record}
use Rattle.pb_store_soundness.specs.Records.{is_key, number_in, record_path}
use Rattle.pb_store.specs.Folder.{greatest_if, greatest_named}
use Rattle.pb_store.specs.Presence.{greatest_said, greatest_told, noted, noted_told, own_said}

greatest_by : (needed : Needed) → greatest_said (numbered_in needed) ≡ greatest_named needed
greatest_by (Copies copies) = refl
greatest_by (Numbers own needs) = refl

pub greatest_is : (kept : Option Record) → greatest_told (option_map numbers_of kept) ≡ greatest_if kept
greatest_is None = refl
greatest_is (Some r) = greatest_by r.needed

own_by : (needed : Needed) → own_said (numbered_in needed) ≡ number_in needed
own_by (Copies copies) = refl
own_by (Numbers own needs) = refl

pub noted_is : (folder path : List ℕ) (kept : Option Record) (numbers : List (List ℕ × Option ℕ)) → noted_told folder path (option_map numbers_of kept) numbers ≡ noted folder path kept numbers
noted_is folder path None numbers = refl
noted_is folder path (Some r) numbers = ap (λ own. cond (is_key r.key && bytes_eq (record_path folder r.key) path) (with_entry numbers r.key own) numbers) (own_by r.needed)

pub ruleset number_laws = (greatest_is, noted_is)
