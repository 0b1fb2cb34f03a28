use Rattle.std.proofs.Common.{◌≡◌, ◌∙◌, ◌/◌, ap, subst, length, true}
use Rattle.std.specs.FinMap.{keys, retain_keys}
use Rattle.std.specs.List.{list_all}
use Rattle.pb_place_types.specs.World.{Map, PartlyRemovedAt}
use Rattle.pb_place_types.specs.Paths.{is_path, is_at_or_below}
use Rattle.pb_place_types.specs.Copies.{half_removed}
use Rattle.pb_place_types.specs.Maps.{files_of}
use Rattle.pb_place_types.proofs.MapLemmas.{keys-filter}
use Rattle.pb_place_types.proofs.Copies.{half_gone, half_removed_by, all_inside_of}
use Rattle.pb_place_types.proofs.files.FileMap.remove_half.Goals as goal

pub invariant_of-self : goal.invariant_of-self
invariant_of-self c = c.remove_names.ensures.keys is_path c.self.invariant

pub returns-clause-ok : goal.returns-clause-ok
returns-clause-ok c =
    let same : c.as_slice-names.result.now ≡ keys (retain_keys (files_of c.self.inside.inside) (is_at_or_below c.args.path.now)) =
    c.as_slice-names.ensures.value ∙ c.in_ok-names.ensures.part ∙ keys-filter (is_at_or_below c.args.path.now) c.self.inside.inside.entries c.in_ok-names.ensures.ordered in
    half_removed_by c.args.path.now c.as_slice-names.result.now (files_of c.self.inside.inside) (files_of c.remove_names.new.files) same c.remove_names.ensures.gone
    ∙ ap (half_removed c.args.path.now) c.self.view_is

pub returns-clause-partly : goal.returns-clause-partly
returns-clause-partly c =
    let all : list_all (is_at_or_below c.args.path.now) c.as_slice-names.result.now ≡ true = ap (list_all (is_at_or_below c.args.path.now)) c.as_slice-names.ensures.value ∙ all_inside_of c.args.path.now c.self.inside.inside.entries _ c.in_ok-names.ensures.part in
    subst (λ (old : Map). PartlyRemovedAt c.args.path.now old (files_of c.remove_names.new.files)) c.self.view_is
    (half_gone c.args.path.now c.as_slice-names.result.now (length c.as_slice-names.result.now / 2) (files_of c.self.inside.inside) (files_of c.remove_names.new.files) all c.remove_names.ensures.gone)
