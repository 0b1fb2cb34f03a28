-- The options of a build in a session, which are an object. The keys of this object are our own
-- choice.
use Rattle.std.specs.Prelude.{ℕ, Bool, true, false, ◌&&◌, ◌||◌, if◌then◌else◌, codes, List, [], ◌∷◌, Option, Some, None, Ok, Err}
use Rattle.std.specs.Str.{bytes_eq}
use Rattle.serde_json.specs.Data.{Data, Items, no_items, item, Members, no_members, member}
use Rattle.serde_json.specs.Find.{get, as_object, as_bool}
use Rattle.pb_data.specs.UnlessOom.{◌>>=◌, some_or}
use Rattle.pb_build_session.specs.Faults.{Read}
use Rattle.pb_build_session.specs.Values.{text_of, number_of, path_in, path_of, array_of}
use Rattle.pb_build_session.specs.Picks.{pick_named}
use Rattle.pb_build_session.specs.declared.pick.PickBy.{PickBy}
use Rattle.pb_build_session.specs.declared.pick.PickBy.TheVariants.{First}
use Rattle.pb_build_session.specs.declared.fault.BadSession.TheVariants.{BadForm}
use Rattle.pb_workspace_types.specs.declared.options.Options.{Options}

-- the options of a build may have a key with this name
abbrev pub is_known : List ℕ → Bool
is_known name =
    bytes_eq name (codes "manifest") || bytes_eq name (codes "packages") || bytes_eq name (codes "workspace") || bytes_eq name (codes "features") || bytes_eq name (codes "all_features")
    || bytes_eq name (codes "no_default_features") || bytes_eq name (codes "profile") || bytes_eq name (codes "lib") || bytes_eq name (codes "bins") || bytes_eq name (codes "bin")
    || bytes_eq name (codes "pick") || bytes_eq name (codes "jobs")

-- all keys are known
abbrev pub are_known : Members → Bool
are_known no_members = true
are_known (member name d ms) = is_known name && are_known ms

-- the texts in a list of values, if all values are texts
abbrev pub texts_in : Items → Read (List (List ℕ))
texts_in no_items = Ok []
texts_in (item d ds) = text_of d >>= (λ text. texts_in ds >>= (λ texts. Ok (text ∷ texts)))

abbrev pub texts_of : Data → Read (List (List ℕ))
texts_of d = array_of d >>= texts_in

abbrev pub truth_of : Data → Read Bool
truth_of d = some_or BadForm (as_bool d)

-- The value of a key, if the key is there, or else a default. The default is no texts, false, a
-- given text or number, or the manifest `/w/Cargo.toml`.
abbrev pub texts_or_none : Option Data → Read (List (List ℕ))
texts_or_none None = Ok []
texts_or_none (Some d) = texts_of d

abbrev pub truth_or_false : Option Data → Read Bool
truth_or_false None = Ok false
truth_or_false (Some d) = truth_of d

abbrev pub text_or : List ℕ → Option Data → Read (List ℕ)
text_or default None = Ok default
text_or default (Some d) = text_of d

abbrev pub number_or : ℕ → Option Data → Read ℕ
number_or default None = Ok default
number_or default (Some d) = number_of d

abbrev pub default_manifest : List ℕ
default_manifest = codes "/w/Cargo.toml"

abbrev pub manifest_or_default : Option Data → Read (List ℕ)
manifest_or_default None = path_in default_manifest
manifest_or_default (Some d) = path_of d

abbrev pub texts_at : List ℕ → Data → Read (List (List ℕ))
texts_at key d = texts_or_none (get key d)

abbrev pub truth_at : List ℕ → Data → Read Bool
truth_at key d = truth_or_false (get key d)

-- The options in an object. The default profile is `dev`, and by default one unit is in flight at a
-- time. The builder is called `cargo`, and `mini --run` runs the build scripts.
abbrev pub options_in : Data → Read Options
options_in d =
    manifest_or_default (get (codes "manifest") d) >>= (λ manifest.
    texts_at (codes "packages") d >>= (λ packages.
    truth_at (codes "workspace") d >>= (λ workspace.
    texts_at (codes "features") d >>= (λ features.
    truth_at (codes "all_features") d >>= (λ all_features.
    truth_at (codes "no_default_features") d >>= (λ no_default_features.
    text_or (codes "dev") (get (codes "profile") d) >>= (λ profile.
    truth_at (codes "lib") d >>= (λ lib.
    truth_at (codes "bins") d >>= (λ bins.
    texts_at (codes "bin") d >>= (λ bin.
    number_or 1 (get (codes "jobs") d) >>= (λ jobs.
    Ok record {
      manifest = manifest;
      packages = packages;
      workspace = workspace;
      features = features;
      all_features = all_features;
      no_default_features = no_default_features;
      profile = profile;
      lib = lib;
      bins = bins;
      bin = bin;
      target_dir = None;
      runner = codes "mini" ∷ codes "--run" ∷ [];
      tool = codes "cargo";
      jobs = jobs;
    })))))))))))

-- the options of a build, which must be an object with known keys only
abbrev pub options_of : Data → Read Options
options_of d = some_or BadForm (as_object d) >>= (λ ms. if are_known ms then options_in d else Err BadForm)

abbrev pub pick_of : Data → Read PickBy
pick_of d = text_of d >>= pick_named

-- How the unit that begins is chosen. If no choice is requested, it is the first of the units that
-- may begin.
abbrev pub pick_or_first : Option Data → Read PickBy
pick_or_first None = Ok First
pick_or_first (Some d) = pick_of d
