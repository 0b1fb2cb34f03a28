use Rattle.std.proofs.Common.{◌∙◌, sym}
use Rattle.std.specs.Fmt.{decimal}
use Rattle.pb_command_environment.proofs.Versions.{numbers_text}
use Rattle.pb_command_environment.proofs.pairs.version_texts.Goals as goal

pub returns-clause-major : goal.returns-clause-major
returns-clause-major c = c.in_ok-major.ensures.ok ∙ sym (numbers_text (λ p. decimal p.0) c.args.version.now _ c.number-number.ensures)

pub returns-clause-minor : goal.returns-clause-minor
returns-clause-minor c = c.in_ok-minor.ensures.ok ∙ sym (numbers_text (λ p. decimal p.1) c.args.version.now _ c.number-number.ensures)

pub returns-clause-patch : goal.returns-clause-patch
returns-clause-patch c = c.in_ok-patch.ensures.ok ∙ sym (numbers_text (λ p. decimal p.2) c.args.version.now _ c.number-number.ensures)

pub returns-clause-pre : goal.returns-clause-pre
returns-clause-pre c = c.in_ok-pre.ensures.ok ∙ c.as_str.ensures ∙ sym (numbers_text (λ p. p.3) c.args.version.now _ c.number-number.ensures)
