use Rattle.std.proofs.Common.{◌∙◌, sym, ap}
use Rattle.std.specs.Option.{option_copied}
use Rattle.pb_place_types.proofs.Towards.{last_found, none_last}
use Rattle.pb_place_types.proofs.files.is_last.Goals as goal

pub returns-in-Some : goal.returns-in-Some
returns-in-Some c = c.eq.ensures ∙ last_found c.args.path.now c.in-Some.last.now c.args.paths.now (ap option_copied (sym c.in-Some.is) ∙ c.last.ensures.value)

pub returns-in-None : goal.returns-in-None
returns-in-None c = none_last c.args.path.now c.args.paths.now (ap option_copied (sym c.in-None.is) ∙ c.last.ensures.value)
