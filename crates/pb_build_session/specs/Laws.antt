-- Laws about session files: the order of steps, and the defaults of a build.
use Rattle.std.specs.Prelude.{◌≡◌, codes, List, [], ◌∷◌, ◌++◌, None, false, Ok}
use Rattle.serde_json.specs.Data.{Data, object, no_members}
use Rattle.serde_json.specs.View.{items_of}
use Rattle.pb_data.specs.UnlessOom.{◌>>=◌}
use Rattle.pb_build_session.specs.Faults.{Read}
use Rattle.pb_build_session.specs.Sessions.{build_of, steps_of}
use Rattle.pb_build_session.specs.declared.pick.PickBy.TheVariants.{First}
use Rattle.pb_build_session.specs.declared.step.SessionStep.{SessionStep}
use Rattle.pb_build_session.specs.declared.step.SessionStep.TheVariants.{Build}

-- the steps of the first list, followed by the steps of the second list, or the reason why one of
-- the two lists is bad
abbrev pub both : Read (List SessionStep) → Read (List SessionStep) → Read (List SessionStep)
both first second = first >>= (λ a. second >>= (λ b. Ok (a ++ b)))

-- if two lists of values are joined, the steps are those of the first list, followed by those of
-- the second
abbrev pub StepsJoin : Type 0
StepsJoin = (ds es : List Data) → steps_of (items_of (ds ++ es)) ≡ both (steps_of (items_of ds)) (steps_of (items_of es))

-- A build without options has the manifest `/w/Cargo.toml` and the profile `dev`. Without options a
-- build selects no packages, features or targets by name. At most one unit is in flight. The unit
-- that begins is the first, in plan order, of those that may begin.
abbrev pub OptionsHaveDefaults : Type 0
OptionsHaveDefaults = build_of (object no_members) ≡ Ok (Build (record {
  manifest = codes "/w/Cargo.toml";
  packages = [];
  workspace = false;
  features = [];
  all_features = false;
  no_default_features = false;
  profile = codes "dev";
  lib = false;
  bins = false;
  bin = [];
  target_dir = None;
  runner = codes "mini" ∷ codes "--run" ∷ [];
  tool = codes "cargo";
  jobs = 1;
}) First)
