-- Two views of two worlds: where the inputs have the same values, and the folders that a command may read hold the same, the same is seen.
use Rattle.std.proofs.Common.{◌≡◌, ◌||◌, ℕ, Bool, true, false, not, cond, List, [], ◌∷◌, Option, Some, None, Result, Ok, Err, refl, sym, ap, subst, ◌∙◌}
use Rattle.std.specs.FinMap as finite
use Rattle.std.specs.List.{AllByRecursion, list_any}
use Rattle.pb_place_types.specs.Paths.{is_below, is_at_or_below}
use Rattle.pb_place_types.specs.World.{World, Map, is_shown, seen_by, from_nothing}
use Rattle.pb_place_types.specs.declared.command.Command.{Command}
use Rattle.pb_place_types.proofs.Folders.{get-sources, get-seen}
use Rattle.pb_record.specs.declared.record.Input.TheVariants.{Value}
use Rattle.pb_store_soundness.specs.Inputs.{path_input, input_in, SameBelow, reply_in}
use Rattle.pb_command_types.specs.Targets.{package_of, dep_info_of}
use Rattle.pb_command_types.specs.declared.checked_reply.CheckedReply.{CheckedReply}
use Rattle.pb_record.specs.declared.record.InputName.{InputName}
use Rattle.pb_record.specs.declared.record.InputName.TheVariants.{Path, Variable}
use Rattle.pb_command_types.specs.declared.fault.UnitFault.{UnitFault}
use Rattle.pb_command_reply.specs.Answers.{answered_of}
use Rattle.pb_command.specs.Command.{command_of}
use Rattle.pb_command.specs.Judge.{ended_by, replied_files, file_at, inputs_if}
use Rattle.pb_command.proofs.Judged.{judges_as_answered}
use Rattle.pb_mini.specs.Honesty.{SameFile}
use Rattle.pb_mini_laws.specs.Honest.{small_compiler, SmallCompilerIsHonest}
use Rattle.pb_mini_laws.proofs.Agreeing.{SameInput, SameAround}
use Rattle.pb_mini_laws.proofs.Running.{by_owner}

-- one value at a path: the same file, or no file in both
same_value : (path : List ℕ) (m n : Map) (x y : Option (List ℕ)) → path_input path n y ≡ path_input path m x → y ≡ x
same_value path m n None None is = refl
same_value path m n None (Some b) is = absurd (cc)
same_value path m n (Some a) None is = absurd (cc)
same_value path m n (Some a) (Some b) is = cc

same_text : (name : List ℕ) (x y : Option (List ℕ)) → Value name y ≡ Value name x → y ≡ x
same_text name x y is = cc

module _ (c : Command) (v w : World) (below : SameBelow c.reads v.files w.files) where
  seen_same : (path : List ℕ) → (is_shown c path ≡ true → SameFile v w path) → SameFile (seen_by c v) (seen_by c w) path
  seen_same path same = get-seen c w path ∙ by (is_shown c path) refl ∙ sym (get-seen c v path)
    where
      by : (r : Bool) → is_shown c path ≡ r → cond r (finite.get w.files path) None ≡ cond r (finite.get v.files path) None
      by true shown = same shown
      by false hidden = refl

  -- in the target folder what is shown lies below a folder that the command may read
  in_target : (path : List ℕ) → is_at_or_below c.target path ≡ true → SameFile (seen_by c v) (seen_by c w) path
  unfolding is_shown
  in_target path inside = seen_same path (λ shown. below path (sym (ap (λ r. not r || list_any (λ folder. is_below folder path) c.reads) inside) ∙ shown))

  around : SameAround c (seen_by c v) (seen_by c w)
  around = record { target = in_target; below = λ path is. seen_same path (λ shown. below path is) }

  -- an input of the same value
  same_input : (name : InputName) → input_in c.target w name ≡ input_in c.target v name → SameInput (seen_by c v) (seen_by c w) name
  same_input (Variable name) is = same_text name _ _ is
  same_input (Path path) is = by (is_at_or_below c.target path) refl
    where
      sources : finite.get (from_nothing c.target w).files path ≡ finite.get (from_nothing c.target v).files path
      sources = same_value path (from_nothing c.target v).files (from_nothing c.target w).files (finite.get (from_nothing c.target v).files path) (finite.get (from_nothing c.target w).files path) is

      by : (r : Bool) → is_at_or_below c.target path ≡ r → SameFile (seen_by c v) (seen_by c w) path
      by true inside = in_target path inside
      by false outside =
          seen_same path (λ shown.
          sym (get-sources c.target w path ∙ ap (λ r. cond r None (finite.get w.files path)) outside)
          ∙ sources
          ∙ (get-sources c.target v path ∙ ap (λ r. cond r None (finite.get v.files path)) outside))

  same_inputs : (names : List InputName) → AllByRecursion (λ name. input_in c.target w name ≡ input_in c.target v name) names → AllByRecursion (SameInput (seen_by c v) (seen_by c w)) names
  same_inputs [] all = tt
  same_inputs (name ∷ names) all = (same_input name all.0, same_inputs names all.1)

-- what was found in a good reply
found : (r : Result CheckedReply UnitFault) (names : List InputName) → inputs_if r ≡ Some names → (a : CheckedReply) × (r ≡ Ok a) × (names ≡ a.inputs)
found (Ok a) names is = (a, refl, cc)
found (Err e) names is = absurd (cc)

pub small_compiler_is_honest : SmallCompilerIsHonest
small_compiler_is_honest setup project u done v small is_of tell w names good same below =
    let c = command_of setup project u done in
    let reply = reply_in small_compiler c v in
    let (a, answered, are) = found (answered_of project u c (ended_by reply) (file_at (dep_info_of project u) (replied_files u.out reply))) names
    (sym (judges_as_answered setup project u done is_of.selection is_of.index reply is_of.settled is_of.planned is_of.there) ∙ good) in
    by_owner setup project u done (seen_by c v) small is_of (package_of project u) refl tell (seen_by c w) a answered
    (subst (AllByRecursion (SameInput (seen_by c v) (seen_by c w))) are (same_inputs c v w below names same)) (around c v w below)
