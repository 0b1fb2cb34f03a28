use Rattle.std.proofs.Common.{◌∙◌}
use Rattle.pb_place.proofs.Quiet.{quiet_behind, unfailed_behind}
use Rattle.pb_place.proofs.unfailing.UnfailingPlace.finish.Goals as goal

pub invariant_of-self : goal.invariant_of-self
invariant_of-self g c = (
  quiet_behind c.self.inside.inside c.finish.new.self c.args.ticket c.self.invariant.0 c.finish.ensures.ends.fuse c.finish.ensures.ends.deaths c.finish.ensures.ends.flying,
  unfailed_behind c.self.inside.inside c.finish.new.self c.args.ticket c.finish.result c.self.invariant.0 c.finish.ensures.fails c.finish.ensures.counts ∙ c.self.invariant.1,
)
