use Rattle.std.proofs.Common.{◌≡◌, ◌∙◌, true, false, sym}
use Rattle.pb_build.proofs.Flightless.{no_entries}
use Rattle.pb_build.proofs.sessions.build_by.Goals as goal

pub returns-then-is_unfailing-clause-unfailing : goal.returns-then-is_unfailing-clause-unfailing
returns-then-is_unfailing-clause-unfailing g c = λ fuse deaths failures. c.built_unfailing.ensures.unfailed

pub returns-else-is_unfailing-clause-unfailing : goal.returns-else-is_unfailing-clause-unfailing
returns-else-is_unfailing-clause-unfailing g c = λ fuse deaths failures. absurd (clash (sym c.if-is_unfailing.false ∙ c.is_unfailing.ensures.told fuse deaths (no_entries _ c.requires.none) failures))
  where
    clash : false ≡ true → ⊥
    clash e = cc
