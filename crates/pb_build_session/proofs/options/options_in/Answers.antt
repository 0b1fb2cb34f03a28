use Rattle.std.proofs.Common.{rules, sym}
use Rattle.serde_json.specs.View.{view}
use Rattle.pb_build_session.proofs.Parts.{of_parts, with_next_gives}
use Rattle.pb_build_session.proofs.options.options_in.Goals as goal

pub returns-in_err-two : goal.returns-in_err-two
returns-in_err-two c =
    let two = with_next_gives _ _ _ _ c.featured_in-featured.ensures c.with_next.ensures.whole in
    rw (sym (of_parts (view c.args.value.now))) (search (rules, two))

pub returns-in_err-three : goal.returns-in_err-three
returns-in_err-three c =
    let two = with_next_gives _ _ _ _ c.featured_in-featured.ensures c.with_next.ensures.whole in
    let three = with_next_gives _ _ _ _ c.targeted_in-targeted.ensures c.with_next-2.ensures.whole in
    rw (sym (of_parts (view c.args.value.now))) (search (rules, two, three))

pub returns : goal.returns
returns c =
    let two = with_next_gives _ _ _ _ c.featured_in-featured.ensures c.with_next.ensures.whole in
    let three = with_next_gives _ _ _ _ c.targeted_in-targeted.ensures c.with_next-2.ensures.whole in
    rw (sym (of_parts (view c.args.value.now))) (search (rules, two, three))
