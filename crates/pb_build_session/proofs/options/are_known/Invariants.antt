use Rattle.std.proofs.Common.{◌≡◌}
use Rattle.serde_json.specs.View.{members_view}
use Rattle.pb_build_session.specs.Options.{are_known}
use Rattle.pb_build_session.proofs.options.are_known.Given as goal

abbrev pub invariant-loop-name : goal.invariant-loop-name
invariant-loop-name l = are_known (members_view l.name-iterator) ≡ are_known (members_view l.map.entries)
