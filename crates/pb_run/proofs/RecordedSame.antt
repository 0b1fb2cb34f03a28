-- Nothing differs from a record once it was kept, or was given again.
use Rattle.std.proofs.Common.{◌≡◌, ◌≢◌, ◌∙◌, ℕ, List, [], ◌∷◌, Option, Some, None, Contains, map, sym, ap, refl}
use Rattle.std.specs.FinMap as finite
use Rattle.pb_place_types.specs.World.{World, Map, from_nothing}
use Rattle.pb_place_types.specs.declared.command.Command.{Command}
use Rattle.pb_record.specs.declared.record.InputName.{InputName}
use Rattle.pb_record.specs.declared.record.InputName.TheVariants.{Path, Variable}
use Rattle.pb_record.specs.Commands.{command_of, of_parts}
use Rattle.pb_record.specs.declared.record.Needed.{Needed}
use Rattle.pb_record.specs.declared.record.Needed.TheVariants.{Copies, Numbers}
use Rattle.pb_record.specs.declared.record.Record.{Record}
use Rattle.pb_store_soundness.specs.Grounded.{RecordMap}
use Rattle.pb_store_soundness.specs.Inputs.{Agrees, input_in, name_of, path_input}
use Rattle.pb_store_soundness.specs.Records.{number_in, number_of}
use Rattle.pb_store_soundness.specs.Reuse.{NeededNow, number_if}
use Rattle.pb_store_soundness.proofs.Becoming.{none_some}

-- what was asked for a command that writes into a folder is that command
pub command_back : (c : Command) (out : List ℕ) → c.out ≡ Some out → command_of (of_parts c out) ≡ c
command_back c out there = ap (λ (o : Option (List ℕ)). record c { out = o }) (sym there)

-- inputs that were read have their present values
path_name : (path : List ℕ) (m : Map) (found : Option (List ℕ)) → name_of (path_input path m found) ≡ Path path
path_name path m None = refl
path_name path m (Some bytes) = refl

name_back : (target : List ℕ) (w : World) (name : InputName) → name_of (input_in target w name) ≡ name
name_back target w (Path path) = path_name path (from_nothing target w).files (finite.get (from_nothing target w).files path)
name_back target w (Variable name) = refl

pub present_agree : (target : List ℕ) (w : World) (names : List InputName) → Agrees target (map (input_in target w) names) w
present_agree target w [] = tt
present_agree target w (name ∷ names) = (ap (input_in target w) (name_back target w name), present_agree target w names)

-- units that were named by the numbers of their records have them now, where the only record that changed had none
pub named_now : (folder : List ℕ) (old new : RecordMap) (files : Map) (key : List ℕ) (number : ℕ) (pairs : List (List ℕ × ℕ)) → ((l : List ℕ) → l ≢ key → new l ≡ old l)
    → ((s : Record) (n : ℕ) → old key ≡ Some s → number_of s ≡ Some n → ⊥) → ((need : List ℕ) (n : ℕ) → Contains pairs (need, n) → (s : Record) × (old need ≡ Some s) × (number_of s ≡ Some n))
    → NeededNow folder new files (Numbers number pairs)
named_now folder old new files key number pairs others none stand = λ need n has.
    let (s, stands, numbered_s) = stand need n has in
    ap number_if (others need (λ e. none s n (ap old (sym e) ∙ stands) numbered_s) ∙ stands) ∙ numbered_s

-- units that a record of format 2 names have their numbers, where all records stand as they stood
pub needed_alike : (folder : List ℕ) (old new : RecordMap) (files files' : Map) (needed : Needed) (n : ℕ) → number_in needed ≡ Some n → ((l : List ℕ) → new l ≡ old l) → NeededNow folder old files needed → NeededNow folder new files' needed
needed_alike folder old new files files' (Copies copies) n is alike now = absurd (none_some n is)
needed_alike folder old new files files' (Numbers number needs) n is alike now = λ need m has. ap number_if (alike need) ∙ now need m has
