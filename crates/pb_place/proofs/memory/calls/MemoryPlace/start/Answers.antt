use Rattle.std.proofs.Common.{◌≡◌, ◌∙◌, Option, Some, ap, subst, rules}
use Rattle.std.specs.Prelude.{◌≢◌, IfSome, Err}
use Rattle.pb_place_types.specs.Children.{is_flying, child_at, child_spawned, LandsAs}
use Rattle.pb_place_types.specs.Counts.{Counts, counted_finish}
use Rattle.pb_place_types.specs.World.{ChangesOnlyInSome, Ends}
use Rattle.pb_place_types.specs.declared.child_in_flight.ChildInFlight.{ChildInFlight}
use Rattle.pb_place_types.specs.declared.place.StartFault.{StartFault}
use Rattle.pb_place_types.specs.declared.place.StartFault.TheVariants as start
use Rattle.pb_place_types.proofs.InFlight.{last_flies, last_at, last_gone, same_number}
use Rattle.pb_place_types.proofs.Starts.{started_ends, some_join, each_ok, of_some, counted_both}
use Rattle.pb_place.specs.InFlight.{children_in}
use Rattle.pb_place.specs.Memory.{counts_in, fate_at, fate_in, fate_of}
use Rattle.pb_place.proofs.Starts.{last_entry, fated_start, not_the_end}
use Rattle.pb_place.proofs.memory.calls.MemoryPlace.start.Goals as goal

pub finish-requires : goal.finish-requires
finish-requires g c = record { flies = ap (λ (k : Counts). is_flying c.in_ok-ticket.ticket k.starts.flying) c.in_ok-ticket.ensures.counts ∙ last_flies _ _ _ (same_number c.in_ok-ticket.ticket) }

pub returns-clause-ok : goal.returns-clause-ok
returns-clause-ok g c =
    let t = c.in_ok-ticket.ticket in
    let w = c.args.self.now.world in
    let v = c.spawn.new.self.world in
    let u = c.finish.new.self.world in
    let spawned = child_spawned (g.C.Child.answers c.args.command.now) c.args.command.now w t in
    let found : child_at t (children_in c.spawn.new.self.flying) ≡ Some spawned =
    ap (λ (k : Counts). child_at t k.starts.flying) c.in_ok-ticket.ensures.counts ∙ last_at t (children_in c.args.self.now.flying) spawned c.in_ok-ticket.ensures.spawns.fresh (same_number t) in
    each_ok
    (λ ended. IfSome (child_at t (children_in c.spawn.new.self.flying)) (λ f. LandsAs f v ended u))
    (λ ended. Ends (g.C.Child.answers c.args.command.now) c.args.command.now w ended u)
    c.finish.result
    (λ ended lands. started_ends (g.C.Child.answers c.args.command.now) c.args.command.now w v u t ended c.in_ok-ticket.ensures.spawns.only (of_some (λ f. LandsAs f v ended u) _ spawned found lands))
    c.finish.ensures.ends.lands

pub returns-clause-answers : goal.returns-clause-answers
returns-clause-answers g c =
    let t = c.in_ok-ticket.ticket in
    let entry = last_entry t c.args.self.now.flying c.spawn.new.self.flying _ c.in_ok-ticket.ensures.spawns.flying c.in_ok-ticket.ensures.spawns.fresh (same_number t) in
    let fate : fate_at t c.spawn.new.self.flying ≡ fate_of c.args.command.now.out c.args.self.now.deaths = ap fate_in entry.0 in record {
      fails_now = search rules;
      spawn_fails = search rules;
      dies = search rules;
      exit_fails = λ no_spawn no_end.
          let fuse = not_the_end c.args.self.now.fuse c.spawn.new.self.fuse c.in_ok-ticket.ensures.spawns.fuse no_end in
          fated_start _ c.finish.result _ (subst (λ (o : Option StartFault). IfSome o (λ e. e ≢ start.CannotStart → c.finish.result ≡ Err e)) fate (c.finish.ensures.answers.exit_fails fuse));
      quiet = λ no_spawn no_end none.
          let fuse = not_the_end c.args.self.now.fuse c.spawn.new.self.fuse c.in_ok-ticket.ensures.spawns.fuse no_end in
          c.finish.ensures.answers.quiet fuse (fate ∙ none);
    }

pub returns-clause-starts : goal.returns-clause-starts
returns-clause-starts g c =
    let t = c.in_ok-ticket.ticket in
    let v = c.spawn.new.self.world in
    let u = c.finish.new.self.world in
    let spawned = child_spawned (g.C.Child.answers c.args.command.now) c.args.command.now c.args.self.now.world t in
    let entry = last_entry t c.args.self.now.flying c.spawn.new.self.flying _ c.in_ok-ticket.ensures.spawns.flying c.in_ok-ticket.ensures.spawns.fresh (same_number t) in
    let found : child_at t (children_in c.spawn.new.self.flying) ≡ Some spawned =
    ap (λ (k : Counts). child_at t k.starts.flying) c.in_ok-ticket.ensures.counts ∙ last_at t (children_in c.args.self.now.flying) spawned c.in_ok-ticket.ensures.spawns.fresh (same_number t) in record {
      nothing = search rules;
      half = search rules;
      only = some_join c.args.command.now.out c.args.self.now.world v u c.in_ok-ticket.ensures.spawns.only (of_some (λ (f : ChildInFlight). ChangesOnlyInSome f.command.out v u) _ spawned found c.finish.ensures.ends.only);
      flying = c.finish.ensures.ends.flying ∙ entry.1;
      used = search rules;
    }

pub returns-clause-counts : goal.returns-clause-counts
returns-clause-counts g c =
    c.finish.ensures.counts ∙ ap (λ (k : Counts). counted_finish c.in_ok-ticket.ticket c.finish.result k) c.in_ok-ticket.ensures.counts
    ∙ counted_both c.finish.result c.in_ok-ticket.ticket (child_spawned (g.C.Child.answers c.args.command.now) c.args.command.now c.args.self.now.world) (counts_in c.args.self.now)
    (last_gone _ _ _ c.in_ok-ticket.ensures.spawns.fresh (same_number c.in_ok-ticket.ticket))
