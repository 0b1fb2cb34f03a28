use Rattle.std.proofs.Common.{lit<, map, length, sym, ◌∙◌}
use Rattle.std.proofs.lemmas.Iterator.Consumers.{YieldsList-at, YieldsList-turn, YieldsList-end}
use Rattle.std.proofs.lemmas.Iterator.Splits.{YieldsList-from_str_split}
use Rattle.pb_place_types.proofs.TakenApart.{names_end, name_fails}
use Rattle.pb_place_types.proofs.relative.is_relative.Goals as goal

pub returns-then-not-is_name : goal.returns-then-not-is_name
returns-then-not-is_name c =
    let parts = YieldsList-at c.into_iter-part-iterator.ensures.into_iter_gives (YieldsList-from_str_split 47 c.args.text.now (lit< tt) c.split-part-items.ensures.text c.split-part-items.ensures.has_more c.split-part-items.ensures.pattern) in
    let turn = YieldsList-turn parts c.loop-part.yielded _ c.loop-part.yielded_by _ _ c.in-Some.part c.in-Some.is c.next.ensures.steps in
    name_fails c.args.text.now (length c.loop-part.yielded) c.in-Some.part.now turn.0 turn.1 (sym c.is_name.ensures ∙ c.if-not-is_name.true)

pub returns : goal.returns
returns c =
    let parts = YieldsList-at c.into_iter-part-iterator.ensures.into_iter_gives (YieldsList-from_str_split 47 c.args.text.now (lit< tt) c.split-part-items.ensures.text c.split-part-items.ensures.has_more c.split-part-items.ensures.pattern) in
    let end = YieldsList-end parts c.loop-part.yielded _ c.loop-part.yielded_by _ _ c.in-None.is c.next.ensures.steps in
    names_end c.args.text.now (map (λ part. part.now) c.loop-part.yielded) end.0 c.loop-part.invariant
