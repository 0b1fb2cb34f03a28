use Rattle.std.proofs.Common.{subst}
use Rattle.pb_graph.specs.Closure.{is_on}
use Rattle.pb_graph.specs.Index.{IsWalked}
use Rattle.pb_graph.proofs.Indexing.{given_walked, given_within, head_read}
use Rattle.pb_graph.proofs.table.IndexedRules.put_given.Goals as goal

walked : (c : goal.In_ok-put_linked) → IsWalked (is_on c.args.known.now) c.args.self.now.index.now.links.items c.index-head.result.now c.put_linked.new.given.items
walked c = subst (λ links. IsWalked (is_on c.args.known.now) links c.index-head.result.now c.put_linked.new.given.items) c.as_slice.ensures.value c.in_ok-put_linked.ensures

pub returns-clause-within : goal.returns-clause-within
returns-clause-within c = given_within _ _ _ _ _ c.requires.fit.linked (walked c)

pub returns-clause-given : goal.returns-clause-given
returns-clause-given c = given_walked _ _ _ _ _ _ _ _ c.requires.fit c.requires.thing (head_read _ _ _ _ c.requires.known c.requires.thing c.index-head.ensures) (walked c)
