use Rattle.std.proofs.Common.{[], ◌∷◌, ◌++◌, refl, ap}
use Rattle.pb_place.specs.Memory.{at_in, Held, counts_in}
use Rattle.pb_build_turns.specs.Executor.{moment}
use Rattle.pb_build.specs.Session.{point}
use Rattle.pb_place_types.proofs.Failing.{on_err}
use Rattle.pb_build.proofs.sessions.add_build.Goals as goal

pub returns-clause-taken : goal.returns-clause-taken
returns-clause-taken g c =
    let built = c.build_by-result in
    let heard = (g.O.Out.heard built.new.out) in record {
      answer = built.result;
      ended = moment (at_in built.new.memory) heard;
      picked = built.ensures.picked;
      kept = built.ensures.kept;
      headline = built.ensures.headline;
      paths = c.files_have_paths.ensures refl;
      unfailing = built.ensures.unfailing;
      behind = ap (λ (m : Held). moment (at_in m) heard) c.fuse.ensures;
      answers = c.in_ok-push.ensures.ok;
      fuse = ap (λ (m : Held). m.fuse) c.fuse.ensures;
    }

pub returns-in_err-push-clause-lost : goal.returns-in_err-push-clause-lost
returns-in_err-push-clause-lost g c =
    let built = c.build_by-result in
    let heard = (g.O.Out.heard built.new.out) in
    let answers = c.args.answers.now ++ built.result ∷ [] in
    on_err c.from_residual.result (
      point c.fuse.new.self heard answers,
      record {
        answer = built.result;
        ended = moment (at_in built.new.memory) heard;
        picked = built.ensures.picked;
        kept = built.ensures.kept;
        headline = built.ensures.headline;
        paths = c.files_have_paths.ensures refl;
        unfailing = built.ensures.unfailing;
        behind = ap (λ (m : Held). moment (at_in m) heard) c.fuse.ensures;
        answers = refl;
        fuse = ap (λ (m : Held). m.fuse) c.fuse.ensures;
      },
      ap (point c.fuse.new.self heard) c.in_err-push.ensures.err,
    )
