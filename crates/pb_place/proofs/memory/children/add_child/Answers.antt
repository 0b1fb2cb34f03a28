use Rattle.std.proofs.Common.{◌≡◌, ◌∙◌, ◌+◌, ◌++◌, ◌∷◌, [], ap, sym, length, arith}
use Rattle.std.proofs.lemmas.Grind.{common_steps}
use Rattle.pb_place.specs.InFlight.{children_in}
use Rattle.pb_place.proofs.InFlight.{children_push, children_len, one_more}
use Rattle.pb_place.proofs.memory.children.add_child.Goals as goal

pub returns-clause-most : goal.returns-clause-most
returns-clause-most c =
    let pushed : children_in c.push.new.self.items ≡ children_in c.args.flying.now.items ++ c.args.one.child ∷ [] = children_push c.args.flying.now.items c.push.new.self.items c.args.one c.in_ok-push.ensures.items in
    let long : length (children_in c.args.flying.now.items) + 1 ≡ length c.push.new.self.items = sym (one_more (children_in c.args.flying.now.items) c.args.one.child) ∙ ap length (sym pushed) ∙ children_len c.push.new.self.items in
    grind (arith, common_steps)
