use Rattle.std.proofs.Common.{◌≡◌, ◌∙◌, Bool, true, false, Option, Some, None, sym, ap, if◌then◌else◌}
use Rattle.pb_feature.specs.declared.fault.FeatureFault.{FeatureFault}
use Rattle.pb_feature.specs.declared.fault.FeatureFault.TheVariants.{NotOptional}
use Rattle.pb_feature.specs.Faults.{is_entry, is_optional_entry, absent_fault}
use Rattle.pb_feature.proofs.Finding.{entry_indices, optional_indices}
use Rattle.pb_feature.proofs.items.optional_fault.Goals as goal

abbrev told : Bool → Bool → Option FeatureFault → Option FeatureFault
told entry optional absent = if entry then (if optional then None else Some NotOptional) else absent

no_entry : (entry optional : Bool) (absent : Option FeatureFault) → entry ≡ false → absent ≡ told entry optional absent
no_entry entry optional absent is = sym (ap (λ b. told b optional absent) is)

an_entry : (entry optional found : Bool) (absent : Option FeatureFault) → entry ≡ true → optional ≡ found → told true found absent ≡ told entry optional absent
an_entry entry optional found absent is same = sym (ap (λ b. told b optional absent) is ∙ ap (λ b. told true b absent) same)

pub returns-then-not-is_either : goal.returns-then-not-is_either
returns-then-not-is_either c =
    let at : is_entry c.args.owner.now c.args.name.now ≡ false =
    entry_indices c.args.name.now c.args.owner.now.entries c.index_of-normal.result c.index_of-build.result c.index_of-normal.ensures.index c.index_of-build.ensures.index
    ∙ sym c.is_either.ensures ∙ c.if-not-is_either.true in
    c.absent_fault.ensures ∙ no_entry (is_entry c.args.owner.now c.args.name.now) (is_optional_entry c.args.owner.now c.args.name.now) (absent_fault c.args.owner.now c.args.name.now) at

pub returns-then-is_either_optional : goal.returns-then-is_either_optional
returns-then-is_either_optional c =
    let at : is_entry c.args.owner.now c.args.name.now ≡ true =
    entry_indices c.args.name.now c.args.owner.now.entries c.index_of-normal.result c.index_of-build.result c.index_of-normal.ensures.index c.index_of-build.ensures.index
    ∙ sym c.is_either.ensures ∙ c.if-not-is_either.false in
    let is : is_optional_entry c.args.owner.now c.args.name.now ≡ true =
    optional_indices c.args.name.now c.args.owner.now.entries c.index_of-normal.ensures.order c.index_of-normal.result c.index_of-build.result c.index_of-normal.ensures.index c.index_of-build.ensures.index
    ∙ sym c.is_either_optional.ensures ∙ c.if-is_either_optional.true in
    an_entry (is_entry c.args.owner.now c.args.name.now) (is_optional_entry c.args.owner.now c.args.name.now) true (absent_fault c.args.owner.now c.args.name.now) at is

pub returns-else-is_either_optional : goal.returns-else-is_either_optional
returns-else-is_either_optional c =
    let at : is_entry c.args.owner.now c.args.name.now ≡ true =
    entry_indices c.args.name.now c.args.owner.now.entries c.index_of-normal.result c.index_of-build.result c.index_of-normal.ensures.index c.index_of-build.ensures.index
    ∙ sym c.is_either.ensures ∙ c.if-not-is_either.false in
    let is : is_optional_entry c.args.owner.now c.args.name.now ≡ false =
    optional_indices c.args.name.now c.args.owner.now.entries c.index_of-normal.ensures.order c.index_of-normal.result c.index_of-build.result c.index_of-normal.ensures.index c.index_of-build.ensures.index
    ∙ sym c.is_either_optional.ensures ∙ c.if-is_either_optional.false in
    an_entry (is_entry c.args.owner.now c.args.name.now) (is_optional_entry c.args.owner.now c.args.name.now) false (absent_fault c.args.owner.now c.args.name.now) at is
