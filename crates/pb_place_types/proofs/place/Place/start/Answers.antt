use Rattle.std.proofs.Common.{◌≡◌, ◌∙◌, Some, ap, rules}
use Rattle.std.specs.Prelude.{IfSome}
use Rattle.pb_place_types.specs.Children.{is_flying, child_at, child_spawned, LandsAs}
use Rattle.pb_place_types.specs.Counts.{Counts, counted_finish}
use Rattle.pb_place_types.specs.World.{ChangesOnlyInSome, Ends}
use Rattle.pb_place_types.specs.declared.child_in_flight.ChildInFlight.{ChildInFlight}
use Rattle.pb_place_types.proofs.InFlight.{last_flies, last_at, last_gone, same_number}
use Rattle.pb_place_types.proofs.Starts.{started_ends, some_join, each_ok, of_some, counted_both}
use Rattle.pb_place_types.proofs.place.Place.start.Goals as goal

pub finish-requires : goal.finish-requires
finish-requires g c = record { flies = ap (λ (k : Counts). is_flying c.in_ok-ticket.ticket k.starts.flying) c.in_ok-ticket.ensures.spawns.counts ∙ last_flies _ _ _ (same_number c.in_ok-ticket.ticket) }

pub returns-clause-ok : goal.returns-clause-ok
returns-clause-ok g c told =
    let t = c.in_ok-ticket.ticket in
    let w = (g.Self.Place.at c.args.self.now).world in
    let v = (g.Self.Place.at c.spawn.new.self).world in
    let u = (g.Self.Place.at c.finish.new.self).world in
    let spawned = child_spawned (g.Self.Place.child c.args.command.now) c.args.command.now w t in
    let found : child_at t (g.Self.Place.at c.spawn.new.self).counts.starts.flying ≡ Some spawned =
    ap (λ (k : Counts). child_at t k.starts.flying) c.in_ok-ticket.ensures.spawns.counts ∙ last_at t (g.Self.Place.at c.args.self.now).counts.starts.flying spawned c.in_ok-ticket.ensures.spawns.fresh (same_number t) in
    each_ok
    (λ ended. IfSome (child_at t (g.Self.Place.at c.spawn.new.self).counts.starts.flying) (λ f. LandsAs f v ended u))
    (λ ended. Ends (g.Self.Place.child c.args.command.now) c.args.command.now w ended u)
    c.finish.result
    (λ ended lands. started_ends (g.Self.Place.child c.args.command.now) c.args.command.now w v u t ended (c.in_ok-ticket.ensures.spawns.only) (of_some (λ f. LandsAs f v ended u) _ spawned found lands))
    (c.finish.ensures.ok told c.in_ok-ticket.ensures.spawns.stands)

pub returns-clause-starts : goal.returns-clause-starts
returns-clause-starts g c =
    let t = c.in_ok-ticket.ticket in
    let w = (g.Self.Place.at c.args.self.now).world in
    let v = (g.Self.Place.at c.spawn.new.self).world in
    let u = (g.Self.Place.at c.finish.new.self).world in
    let spawned = child_spawned (g.Self.Place.child c.args.command.now) c.args.command.now w t in
    let found : child_at t (g.Self.Place.at c.spawn.new.self).counts.starts.flying ≡ Some spawned =
    ap (λ (k : Counts). child_at t k.starts.flying) c.in_ok-ticket.ensures.spawns.counts ∙ last_at t (g.Self.Place.at c.args.self.now).counts.starts.flying spawned c.in_ok-ticket.ensures.spawns.fresh (same_number t) in record {
      only = some_join c.args.command.now.out w v u (c.in_ok-ticket.ensures.spawns.only) (of_some (λ (f : ChildInFlight). ChangesOnlyInSome f.command.out v u) _ spawned found c.finish.ensures.finishes.only);
      counts =
          c.finish.ensures.finishes.counts ∙ ap (λ (k : Counts). counted_finish c.in_ok-ticket.ticket c.finish.result k) c.in_ok-ticket.ensures.spawns.counts
          ∙ counted_both c.finish.result c.in_ok-ticket.ticket (child_spawned (g.Self.Place.child c.args.command.now) c.args.command.now (g.Self.Place.at c.args.self.now).world) (g.Self.Place.at c.args.self.now).counts
          (last_gone _ _ _ c.in_ok-ticket.ensures.spawns.fresh (same_number c.in_ok-ticket.ticket));
      most = search rules;
      most_else = search rules;
    }
