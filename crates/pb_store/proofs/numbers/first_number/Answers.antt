use Rattle.std.proofs.Common.{rules, refl, List, ℕ}
use Rattle.pb_store.specs.Folder.{IsHeld}
use Rattle.pb_store.proofs.Firsts.{one_fails, one_holds}
use Rattle.pb_store.proofs.numbers.first_number.Goals as goal

pub returns-in-Ok : goal.returns-in-Ok
returns-in-Ok c =
    one_fails (λ (u : Unit {0}). IsHeld c.args.numbers.now) (λ (need : List ℕ × ℕ). need.0) tt tt c.args.needs.now c.loop-need.need-index c.need-item.result c.loop-need-test.true c.need-item.is refl _ c.in-Ok.key
    c.loop-need.invariant c.is_held.ensures c.if-not-is_held.true (search rules)

pub loop-need-preserved : goal.loop-need-preserved
loop-need-preserved c =
    one_holds (λ (u : Unit {0}). IsHeld c.args.numbers.now) (λ (need : List ℕ × ℕ). need.0) tt tt c.args.needs.now c.loop-need.need-index c.need-item.result c.loop-need-test.true c.need-item.is refl _
    c.loop-need.invariant c.is_held.ensures c.if-not-is_held.false
