use Rattle.pb_data.proofs.Looking.{looked_past, looked_within}
use Rattle.pb_feature.proofs.checks.is_lesser_at.Goals as goal

pub returns-in-Some-Some : goal.returns-in-Some-Some
returns-in-Some-Some c =
    let one = looked_within c.args.packages.now c.args.pkg c.in-Some-Some.one.now c.in-Some-Some.ensures.lookup.0 c.in-Some-Some.ensures.lookup.1 in
    let other = looked_within c.args.packages.now c.in-Some.first.pkg c.in-Some-Some.other.now c.in-Some-Some.ensures'.lookup.0 c.in-Some-Some.ensures'.lookup.1 in
    rw (c.in-Some.is, one, other) c.is_lesser.ensures

pub returns-in_default-2 : goal.returns-in_default-2
returns-in_default-2 c =
    let one = looked_within c.args.packages.now c.args.pkg c.in_default-2.field-0-0.now c.in_default-2.ensures.lookup.0 c.in_default-2.ensures.lookup.1 in
    rw (c.in-Some.is, one, looked_past c.args.packages.now c.in-Some.first.pkg c.in_default-2.ensures'.lookup.0)

pub returns-in_default-2-2 : goal.returns-in_default-2-2
returns-in_default-2-2 c = rw (c.in-Some.is, looked_past c.args.packages.now c.args.pkg c.in_default-2.ensures.lookup.0)
