use Rattle.std.proofs.Common.{OnOk, OnErr, sym, subst}
use Rattle.pb_build_session.specs.declared.step.SessionStep.{SessionStep}
use Rattle.pb_build.specs.Session.{Carries, Loses, point}
use Rattle.pb_build.proofs.sessions.take_step.Goals as goal

pub returns-in-Build-clause-taken : goal.returns-in-Build-clause-taken
returns-in-Build-clause-taken g c =
    let memory = c.add_build.new.memory in
    let out = c.add_build.new.out in
    let before = point c.args.memory.now (g.O.Out.heard c.args.out.now) c.args.answers.now in
    let after = point memory (g.O.Out.heard out) c.add_build.new.answers in
    subst (λ (s : SessionStep). OnOk c.add_build.result (Carries g.C.Child.answers s before after)) (sym c.in-Build.is) c.add_build.ensures.taken

pub returns-in-Build-clause-lost : goal.returns-in-Build-clause-lost
returns-in-Build-clause-lost g c =
    let memory = c.add_build.new.memory in
    let out = c.add_build.new.out in
    let before = point c.args.memory.now (g.O.Out.heard c.args.out.now) c.args.answers.now in
    let left = point memory (g.O.Out.heard out) c.add_build.new.answers in
    subst (λ (s : SessionStep). OnErr c.add_build.result (Loses g.C.Child.answers s before left)) (sym c.in-Build.is) c.add_build.ensures.lost
