use Rattle.std.proofs.Common.{◌≡◌, ◌<◌, length, map, arith, ◌∙◌}
use Rattle.std.proofs.lemmas.List.{length-set}
use Rattle.pb_profile_keys.specs.Table.{keys}
use Rattle.pb_profile.specs.Line.{seen}
use Rattle.pb_profile.specs.Settings.{setting_of}
use Rattle.pb_profile.proofs.Located.{mapped_on, all_mapped}
use Rattle.pb_profile.proofs.settings.settings_along.Goals as goal

pub loop-i-preserved : goal.loop-i-preserved
loop-i-preserved c =
    let lt : c.loop-i.i < length c.loop-i.values = omega arith in (
      length-set c.loop-i.values c.loop-i.i c.setting_of.result ∙ c.loop-i.invariant.0,
      mapped_on (setting_of c.args.owner.now c.args.role (map seen c.args.line.now)) keys c.loop-i.values c.loop-i.i c.at.result c.setting_of.result c.at.ensures lt c.setting_of.ensures c.loop-i.invariant.1,
    )

pub returns : goal.returns
returns c =
    let end : c.loop-i.i ≡ length keys = omega arith in
    all_mapped (setting_of c.args.owner.now c.args.role (map seen c.args.line.now)) keys c.loop-i.values c.loop-i.i c.loop-i.invariant.0 end c.loop-i.invariant.1
