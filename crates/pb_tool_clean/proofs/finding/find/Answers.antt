use Rattle.std.proofs.Common.{◌∙◌, ap}
use Rattle.pb_place_types.specs.World.{World}
use Rattle.pb_tool_clean.specs.Calls.{moment_of}
use Rattle.pb_tool_clean.specs.Cleaning.{listed_in}
use Rattle.pb_tool_clean.proofs.Found.{judged_finds}
use Rattle.pb_tool_clean.proofs.finding.find.Goals as goal

pub returns-in-Ok-look : goal.returns-in-Ok-look
returns-in-Ok-look g c =
    let first = c.in-Ok.ensures.looks in
    let second = c.in-Ok-look.ensures.looks in
    let choice = c.in-Ok-choice_in.choice in
    judged_finds g.P.Place.is_modelled c.args.options.now c.args.one_profile
    (moment_of (g.P.Place.at c.args.place.now)) (moment_of (g.P.Place.at c.look.new.place))
    choice c.in-Ok-look.listed c.require_listed.result
    record {
      world = second.looked.world ∙ first.looked.world;
      starts = second.looked.starts ∙ first.looked.starts;
      most = second.looked.most ∙ first.looked.most;
    }
    (second.ok ∙ first.ok)
    record {
      packages = c.in-Ok-choice_in.ensures.packages;
      profile = c.in-Ok-choice_in.ensures.profile;
      target = λ told. c.in-Ok-choice_in.ensures.target ∙ c.in-Ok.ensures.ok told;
    }
    (λ told. c.in-Ok-look.ensures.ok told ∙ ap (λ (w : World). listed_in choice.target w) first.looked.world)
    c.require_listed.ensures
