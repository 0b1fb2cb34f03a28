use Rattle.pb_mini_laws.proofs.Viewing.{small_compiler_is_honest}
use Rattle.pb_mini_laws.proofs.small_compiler_is_honest.Goals as goal

pub returns : goal.returns
returns c = small_compiler_is_honest
