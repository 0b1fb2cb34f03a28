-- What the JSON values in a session mean.
use Rattle.std.specs.Prelude.{ℕ, List, Option, Some, None, Ok, Err, option_and_then}
use Rattle.serde_json.specs.Data.{Data, Items, no_items, item, Members, no_members, member}
use Rattle.serde_json.specs.Find.{as_str, as_array, as_number, as_u64}
use Rattle.pb_data.specs.UnlessOom.{◌>>=◌, lifted, some_or}
use Rattle.pb_place_types.specs.Paths.{parsed}
use Rattle.pb_build_session.specs.Faults.{Read, of_path_fault}
use Rattle.pb_build_session.specs.declared.fault.BadSession.TheVariants.{BadForm}

abbrev pub text_of : Data → Read (List ℕ)
text_of d = some_or BadForm (as_str d)

-- The number of a JSON numeral. The numeral must have digits only, without a sign, a point or an
-- exponent, and the number must be below 2 ^ 64.
abbrev pub number_of : Data → Read ℕ
number_of d = some_or BadForm (option_and_then as_u64 (as_number d))

-- the path that a text spells
abbrev pub path_in : List ℕ → Read (List ℕ)
path_in text = lifted of_path_fault (parsed text)

abbrev pub path_of : Data → Read (List ℕ)
path_of d = text_of d >>= path_in

abbrev pub array_of : Data → Read Items
array_of d = some_or BadForm (as_array d)

-- the two texts of a list that has exactly two values
abbrev pub pair_in : Items → Read (List ℕ × List ℕ)
pair_in no_items = Err BadForm
pair_in (item a no_items) = Err BadForm
pair_in (item a (item b no_items)) = text_of a >>= (λ x. text_of b >>= (λ y. Ok (x, y)))
pair_in (item a (item b (item c ds))) = Err BadForm

abbrev pub pair_of : Data → Read (List ℕ × List ℕ)
pair_of d = array_of d >>= pair_in

-- the only member of an object, if the object has exactly one member
abbrev pub only_member : Members → Option (List ℕ × Data)
only_member no_members = None
only_member (member name d no_members) = Some (name, d)
only_member (member name d (member other e ms)) = None
