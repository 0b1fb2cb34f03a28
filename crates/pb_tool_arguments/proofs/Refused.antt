-- Why words ask for nothing.
use Rattle.std.proofs.Common.{◌≡◌, ◌∙◌, ap, List, true, false, codes, IfErr, Option, Some, Result, Ok, Err, refl, sym, subst, inl, inr}
use Rattle.clap.specs.Faults.{fault_of, is_simple_and_free}
use Rattle.clap.specs.Kinds.{HasKind, IsAmong}
use Rattle.clap.specs.Simple.{App, subcommand_of}
use Rattle.clap.specs.Values.{kind_of}
use Rattle.clap.specs.Walk.{Row, Text}
use Rattle.clap.specs.declared.error.Error.{Error}
use Rattle.clap.proofs.OnLiterals.{clap_on_literals}
use Rattle.pb_place_types.specs.Paths.{joined}
use Rattle.pb_place_types.specs.declared.path.PathFault.{PathFault}
use Rattle.pb_tool_arguments.specs.Asking.{AsksWrongly, BuildsWrongly, PlansWrongly, HasBadJobs, HasTwoProfiles, IsForm, IsProfile, IsTaken, Unasks, bad_build, bad_clean, bad_file, bad_jobs, bad_manifest, bad_options, bad_plan, file_of, is_help, jobs_told, manifest_of, path_told, profiles_told, two_profiles}
use Rattle.pb_tool_arguments.specs.Description.{AreChoices, Choices, program}
use Rattle.pb_tool_arguments.specs.Private.{ToldWrong, TellsKind, RefusedBy}
use Rattle.pb_tool_arguments.specs.declared.invocation.ArgumentsError.{ArgumentsError}
use Rattle.pb_tool_arguments.specs.declared.invocation.ArgumentsError.TheVariants.{Help, Wrong, OutOfMemory}
use Rattle.pb_tool_arguments.specs.declared.invocation.PlanForm.{PlanForm}

-- no option of the program has a rule on another, so `clap` tells which kinds of fault its words have
pub program_is_free : (choices : Choices) → is_simple_and_free (program choices) ≡ true
unfolding clap_on_literals
program_is_free choices = refl

-- an error of one of these kinds
pub refused_by : (words : List Text) (choices : Choices) (app : App) (e : Error) (unasked : ArgumentsError) → AreChoices choices → app ≡ program choices → HasKind (fault_of app words) e → TellsKind (kind_of e) unasked → RefusedBy words unasked
refused_by words choices app e (Help text) json is (inl none) tells = let no : false ≡ true = sym (ap is_help none) ∙ tells in cc
refused_by words choices app e (Help text) json is (inr among) tells = (choices, json, (kind_of e, tells, subst (λ a. IsAmong (kind_of e) (fault_of a words)) is among))
refused_by words choices app e (Wrong text) json is (inl none) tells = absurd (tells.1 none)
refused_by words choices app e (Wrong text) json is (inr among) tells = (choices, json, (kind_of e, tells.0, subst (λ a. IsAmong (kind_of e) (fault_of a words)) is among))
refused_by words choices app e OutOfMemory json is has tells = tt

-- what is wrong with the values of a build
pub wrong_manifest : (folder value : Text) (rows : List Row) (unasked : ArgumentsError) → value ≡ manifest_of rows
    → ToldWrong (λ told. (fault : PathFault) × (joined folder value ≡ Err fault) × (told ≡ path_told)) unasked → ToldWrong (BuildsWrongly folder rows) unasked
wrong_manifest folder value rows (Help text) is told = absurd told
wrong_manifest folder value rows (Wrong text) is (fault, bad, told) = bad_manifest fault (subst (λ v. joined folder v ≡ Err fault) is bad) told
wrong_manifest folder value rows OutOfMemory is told = tt

pub wrong_profile : (folder value path : Text) (rows : List Row) (unasked : ArgumentsError) → value ≡ manifest_of rows → joined folder value ≡ Ok path
    → ToldWrong (λ told. HasTwoProfiles rows × (told ≡ profiles_told)) unasked → ToldWrong (BuildsWrongly folder rows) unasked
wrong_profile folder value path rows (Help text) is good told = absurd told
wrong_profile folder value path rows (Wrong text) is good (both, told) = two_profiles path (subst (λ v. joined folder v ≡ Ok path) is good) both told
wrong_profile folder value path rows OutOfMemory is good told = tt

pub wrong_jobs : (folder value path profile : Text) (rows : List Row) (unasked : ArgumentsError) → value ≡ manifest_of rows → joined folder value ≡ Ok path → IsProfile rows profile
    → ToldWrong (λ told. HasBadJobs rows × (told ≡ jobs_told)) unasked → ToldWrong (BuildsWrongly folder rows) unasked
wrong_jobs folder value path profile rows (Help text) is good one told = absurd told
wrong_jobs folder value path profile rows (Wrong text) is good one (bad, told) = bad_jobs path profile (subst (λ v. joined folder v ≡ Ok path) is good) one bad told
wrong_jobs folder value path profile rows OutOfMemory is good one told = tt

-- what is told of the error that is known
pub told_by : {T : Type 0} (r : Result T ArgumentsError) (e : ArgumentsError) (why : Text → Type 0) → r ≡ Err e → ToldWrong why e → IfErr r (ToldWrong why)
told_by r e why is told = subst (λ x. IfErr x (ToldWrong why)) (sym is) told

-- what is wrong with a build, a plan, a removal or a session
pub wrong_build : (folder : Text) (given : Option (Text × List Row)) (rows : List Row) (unasked : ArgumentsError) → given ≡ Some (codes "build", rows)
    → ToldWrong (BuildsWrongly folder rows) unasked → ToldWrong (AsksWrongly folder given) unasked
wrong_build folder given rows (Help text) is told = absurd told
wrong_build folder given rows (Wrong text) is told = bad_build rows is told
wrong_build folder given rows OutOfMemory is told = tt

pub wrong_options : (folder : Text) (rows : List Row) (form : PlanForm) (unasked : ArgumentsError) → IsForm rows form → ToldWrong (BuildsWrongly folder rows) unasked → ToldWrong (PlansWrongly folder rows) unasked
wrong_options folder rows form (Help text) one told = absurd told
wrong_options folder rows form (Wrong text) one told = bad_options form one told
wrong_options folder rows form OutOfMemory one told = tt

pub wrong_plan : (folder : Text) (given : Option (Text × List Row)) (rows : List Row) (unasked : ArgumentsError) → given ≡ Some (codes "plan", rows)
    → ToldWrong (PlansWrongly folder rows) unasked → ToldWrong (AsksWrongly folder given) unasked
wrong_plan folder given rows (Help text) is told = absurd told
wrong_plan folder given rows (Wrong text) is told = bad_plan rows is told
wrong_plan folder given rows OutOfMemory is told = tt

pub wrong_clean : (folder : Text) (given : Option (Text × List Row)) (rows : List Row) (unasked : ArgumentsError) → given ≡ Some (codes "clean", rows)
    → ToldWrong (BuildsWrongly folder rows) unasked → ToldWrong (AsksWrongly folder given) unasked
wrong_clean folder given rows (Help text) is told = absurd told
wrong_clean folder given rows (Wrong text) is told = bad_clean rows is told
wrong_clean folder given rows OutOfMemory is told = tt

pub wrong_session : (folder : Text) (given : Option (Text × List Row)) (rows : List Row) (unasked : ArgumentsError) → given ≡ Some (codes "session", rows)
    → ToldWrong (λ told. (fault : PathFault) × (joined folder (file_of rows) ≡ Err fault) × (told ≡ path_told)) unasked → ToldWrong (AsksWrongly folder given) unasked
wrong_session folder given rows (Help text) is told = absurd told
wrong_session folder given rows (Wrong text) is (fault, bad, told) = bad_file rows fault is bad told
wrong_session folder given rows OutOfMemory is told = tt

-- what is wrong with what was given, of words that are taken
pub wrong_words : (words : List Text) (folder : Text) (choices : Choices) (given : Option (Text × List Row)) (unasked : ArgumentsError) → AreChoices choices → IsTaken choices words → given ≡ subcommand_of (program choices) words
    → ToldWrong (AsksWrongly folder given) unasked → Unasks words folder unasked
wrong_words words folder choices given (Help text) json taken is told = absurd told
wrong_words words folder choices given (Wrong text) json taken is told = (choices, json, inr (taken, subst (λ g. AsksWrongly folder g text) is told))
wrong_words words folder choices given OutOfMemory json taken is told = tt

-- words that are not taken
pub refused_words : (words : List Text) (folder : Text) (unasked : ArgumentsError) → RefusedBy words unasked → Unasks words folder unasked
refused_words words folder (Help text) refused = refused
refused_words words folder (Wrong text) (choices, json, refused) = (choices, json, inl refused)
refused_words words folder OutOfMemory refused = tt
