use Rattle.pb_build.proofs.LookingAt.{looks_at_sources, gives_from_nothing}
use Rattle.pb_build.proofs.laws.builds_look_at_sources.Goals as goal

pub returns-clause-sources : goal.returns-clause-sources
returns-clause-sources c = looks_at_sources

pub returns-clause-nothing : goal.returns-clause-nothing
returns-clause-nothing c = gives_from_nothing
