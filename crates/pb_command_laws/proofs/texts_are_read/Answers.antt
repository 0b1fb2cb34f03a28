use Rattle.pb_command_laws.proofs.Texts.{infos_are_read, outputs_are_read}
use Rattle.pb_command_laws.proofs.Trimming.{lines_are_trimmed}
use Rattle.pb_command_laws.proofs.texts_are_read.Goals as goal

pub returns : goal.returns
returns c = record { outputs = outputs_are_read; infos = infos_are_read; trimmed = lines_are_trimmed }
