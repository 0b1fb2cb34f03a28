use Rattle.std.proofs.Common.{codes}
use Rattle.pb_mini.proofs.ScriptLemmas.{shown_pushed}
use Rattle.pb_mini.proofs.script.push_shown.Goals as goal

pub returns : goal.returns
returns c =
    shown_pushed c.args.buffer.now _ _ _ _ (codes "cargo::rerun-if-env-changed=") (codes "cargo::rustc-env=SHOW_") c.args.name.now c.args.value.now _ _ _
    c.in_ok-push_keyed.ensures c.as_bytes.ensures.value c.in_ok-push.ensures c.in_ok-push-2.ensures c.as_bytes-2.ensures.value c.in_ok-push_keyed-2.ensures c.as_bytes-3.ensures.value
