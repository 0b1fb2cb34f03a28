use Rattle.pb_build_laws.proofs.Surrounding.{environments_are_these, hosts_come_first, toolchains_are_said}
use Rattle.pb_build_laws.proofs.environments_are_these.Goals as goal

pub returns : goal.returns
returns c = record { environments = environments_are_these; toolchains = toolchains_are_said; hosts = hosts_come_first }
