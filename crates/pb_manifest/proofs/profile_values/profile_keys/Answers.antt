use Rattle.std.proofs.Common.{◌≡◌, ◌<◌, ◌+◌, rules, length, take, drop, Ok, Err, sym, ap, ◌∙◌, arith}
use Rattle.std.proofs.lemmas.List.{length-set}
use Rattle.toml.specs.View.{table_view}
use Rattle.pb_profile_keys.specs.Keys.{Said}
use Rattle.pb_profile_keys.specs.Table.{keys}
use Rattle.pb_manifest_types.specs.declared.key.Key.TheVariants as key
use Rattle.pb_manifest.specs.Profiles.{setting_in, settings_at, profile_keys, profile_value}
use Rattle.pb_manifest.proofs.Settings.{behind, none_yet, read_on, read_badly, all_read}
use Rattle.pb_manifest.proofs.profile_values.profile_keys.Goals as goal

pub loop-i-preserved : goal.loop-i-preserved
loop-i-preserved c =
    let lt : c.loop-i.i < length c.loop-i.keys = omega arith in
    let read : profile_value (setting_in c.at.result) (key.OfProfile c.at.result) (table_view c.args.table.now) ≡ Ok c.in_ok-value.value = sym c.setting_at.ensures ∙ c.in_ok-value.was in (
      ap (λ (vs : Said). length vs) c.set.ensures ∙ length-set c.loop-i.keys c.loop-i.i c.in_ok-value.value ∙ c.loop-i.invariant.0,
      c.loop-i.invariant.1
          ∙ read_on keys (table_view c.args.table.now) c.loop-i.i c.at.result c.at.ensures c.loop-i.keys c.in_ok-value.value lt read
          ∙ ap (λ (vs : Said). behind (take (c.loop-i.i + 1) vs) (settings_at (drop (c.loop-i.i + 1) keys) (table_view c.args.table.now))) (sym c.set.ensures),
    )

pub returns : goal.returns
unfolding profile_keys
returns c =
    let end : c.loop-i.i ≡ length keys = omega arith in
    all_read keys (table_view c.args.table.now) c.loop-i.i c.loop-i.keys c.loop-i.invariant.0 end c.loop-i.invariant.1

pub loop-i-init : goal.loop-i-init
loop-i-init c = (ap (λ (vs : Said). length vs) c.none-keys.ensures, none_yet (settings_at keys (table_view c.args.table.now)))

pub returns-in_err-value : goal.returns-in_err-value
unfolding profile_keys
returns-in_err-value c =
    let bad : profile_value (setting_in c.at.result) (key.OfProfile c.at.result) (table_view c.args.table.now) ≡ Err c.in_err-value.field-0.0 = sym c.setting_at.ensures ∙ c.in_err-value.was in
    let is : c.from_residual.result ≡ Err c.in_err-value.field-0.0 = search rules in
    is ∙ sym (c.loop-i.invariant.1 ∙ read_badly keys (table_view c.args.table.now) c.loop-i.i c.at.result c.at.ensures c.loop-i.keys c.in_err-value.field-0.0 bad)
