-- What `find` promises of a choice that was judged.
use Rattle.std.proofs.Common.{◌≡◌, Bool, Some, None, Result, Ok, Err, IsTrue, sym, subst}
use Rattle.pb_workspace_types.specs.declared.options.Options.{Options}
use Rattle.pb_tool_clean.specs.Calls.{Looked, Moment, NoneFailed}
use Rattle.pb_tool_clean.specs.Cleaning.{Chooses, Finds, ReportsMissing, RequiresListed, listed_in}
use Rattle.pb_tool_clean.specs.declared.choice.Choice.{Choice}
use Rattle.pb_tool_clean.specs.declared.fault.CleanFault.{CleanFault}
use Rattle.pb_tool_clean.specs.declared.fault.CleanFault.TheVariants.{Call, Nothing, NoSuchProfile, OutOfMemory}
use Rattle.pb_tool_clean.specs.declared.looking.Listed.{Listed}

pub judged_finds : (is_modelled : Bool) (options : Options) (one_profile : Bool) (old new : Moment) (choice : Choice) (listed : Listed) (result : Result Choice CleanFault)
    → Looked old new → NoneFailed old.counts new.counts → Chooses is_modelled options one_profile old.world choice
    → (IsTrue is_modelled → listed ≡ listed_in choice.target old.world)
    → RequiresListed choice listed result → Finds is_modelled options one_profile result old new
judged_finds is_modelled options one_profile old new choice listed (Ok judged) looked none chooses lists judges = record {
  looked = looked;
  chooses = subst (Chooses is_modelled options one_profile old.world) (sym judges.0) chooses;
  some = λ told. subst (λ (c : Choice). ReportsMissing c (listed_in c.target old.world) None) (sym judges.0) (subst (λ (l : Listed). ReportsMissing choice l None) (lists told) judges.1);
  ok = none;
  refuses = tt;
}
judged_finds is_modelled options one_profile old new choice listed (Err (Nothing some folder)) looked none chooses lists judges = record {
  looked = looked;
  chooses = tt;
  some = λ told. tt;
  ok = tt;
  refuses = (choice, chooses, judges.1, (λ told. subst (λ (l : Listed). ReportsMissing choice l (Some some)) (lists told) judges.0), none);
}
judged_finds is_modelled options one_profile old new choice listed (Err NoSuchProfile) looked none chooses lists judges = absurd judges
judged_finds is_modelled options one_profile old new choice listed (Err (Call name fault)) looked none chooses lists judges = absurd judges
judged_finds is_modelled options one_profile old new choice listed (Err OutOfMemory) looked none chooses lists judges = record {
  looked = looked;
  chooses = tt;
  some = λ told. tt;
  ok = tt;
  refuses = none;
}
