use Rattle.pb_workspace_laws.proofs.Leading.{paths_are_spelled, texts_lead_between}
use Rattle.pb_workspace_laws.proofs.Meaning.{parts_match_names, texts_mean_folders}
use Rattle.pb_workspace_laws.proofs.folders_are_meant.Goals as goal

pub returns : goal.returns
returns c = record { meant = texts_mean_folders; parts = parts_match_names; between = texts_lead_between; spelled = paths_are_spelled }
