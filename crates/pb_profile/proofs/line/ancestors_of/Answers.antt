use Rattle.std.proofs.Common.{◌≡◌, map, ◌+◌, ◌<◌, length, Ok, Some, None, sym, ◌∙◌, ap, arith}
use Rattle.std.proofs.lemmas.List.{map-append}
use Rattle.std.specs.Option.{option_map}
use Rattle.pb_profile.specs.Line.{seen, above}
use Rattle.pb_profile.proofs.Walks.{ends_badly, ends_well, goes_on}
use Rattle.pb_profile.proofs.line.ancestors_of.Goals as goal

pub returns-in-Err : goal.returns-in-Err
returns-in-Err c =
    let lt : c.upward.counter < length c.args.profiles.now + 2 = omega arith in
    λ _. ends_badly (length c.args.profiles.now + 2) c.upward.counter lt c.args.profiles.now (seen c.upward.ancestor) (map seen c.upward.line.items) _ c.upward.invariant _ (sym c.in-Err.ensures)

pub returns-in-Ok-None : goal.returns-in-Ok-None
returns-in-Ok-None c =
    let lt : c.upward.counter < length c.args.profiles.now + 2 = omega arith in
    let last : above c.args.profiles.now (seen c.upward.ancestor) ≡ Ok None = sym c.in-Ok-None.ensures ∙ ap (λ o. Ok (option_map seen o)) c.in-Ok-None.field-0-is in
    let whole = ends_well (length c.args.profiles.now + 2) c.upward.counter lt c.args.profiles.now (seen c.upward.ancestor) (map seen c.upward.line.items) _ c.upward.invariant last in
    rw (c.in_ok-push-in-Ok-None.ensures.items, map-append) whole

pub upward-preserved : goal.upward-preserved
upward-preserved c =
    let lt : c.upward.counter < length c.args.profiles.now + 2 = omega arith in
    let next : above c.args.profiles.now (seen c.upward.ancestor) ≡ Ok (Some (seen c.in-Ok-Some.next)) = sym c.in-Ok-Some.ensures ∙ ap (λ o. Ok (option_map seen o)) c.in-Ok-Some.field-0-is in
    let whole = goes_on (length c.args.profiles.now + 2) c.upward.counter lt c.args.profiles.now (seen c.upward.ancestor) (map seen c.upward.line.items) _ c.upward.invariant _ next in
    rw (c.in_ok-push-in-Ok-Some.ensures.items, map-append) whole
