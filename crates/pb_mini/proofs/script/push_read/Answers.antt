use Rattle.std.proofs.Common.{codes, refl, ap, ◌∙◌}
use Rattle.pb_mini.specs.Script.{first_line}
use Rattle.pb_mini.proofs.ScriptLemmas.{read_pushed, read_alone}
use Rattle.pb_mini.proofs.script.push_read.Goals as goal

pub returns-in_ok-push_keyed-in-Some : goal.returns-in_ok-push_keyed-in-Some
returns-in_ok-push_keyed-in-Some c =
    read_pushed c.args.buffer.now _ _ (codes "cargo::rerun-if-changed=") (codes "cargo::rustc-env=READ=") c.args.path.now _ _ _ c.args.text.now _
    c.in_ok-push_keyed.ensures c.as_bytes.ensures.value c.in_ok-push_keyed-in-Some.ensures c.as_bytes-in-Some.ensures.value (c.first_line-line.ensures ∙ ap first_line c.as_str.ensures) c.in-Some.is (λ u. refl)

pub returns-in-None : goal.returns-in-None
returns-in-None c =
    read_alone c.args.buffer.now _ (codes "cargo::rerun-if-changed=") c.args.path.now _ c.args.text.now c.in_ok-push_keyed.ensures c.as_bytes.ensures.value c.in-None.is
