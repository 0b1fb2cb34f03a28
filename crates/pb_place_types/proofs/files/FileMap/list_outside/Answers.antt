use Rattle.std.proofs.Common.{◌∙◌, ap, not}
use Rattle.std.specs.List.{list_all}
use Rattle.std.specs.Ordering.{nat_cmp}
use Rattle.std.specs.Cmp.Lexicographic.{slice_cmp}
use Rattle.std.specs.FinMap.{keys, retain_keys, from_entries}
use Rattle.pb_place_types.specs.Paths.{is_path, is_below, is_at_or_below}
use Rattle.pb_place_types.specs.World.{Map}
use Rattle.pb_place_types.proofs.MapLemmas.{all_keys}
use Rattle.pb_place_types.proofs.Copies.{all_filter, names_kept}
use Rattle.pb_place_types.proofs.files.FileMap.list_outside.Goals as goal

pub paths_of-requires : goal.paths_of-requires
paths_of-requires c =
    ap (list_all is_path) c.in_ok-names-2.ensures
    ∙ all_filter is_path (λ q. not (is_at_or_below c.args.left_out.now q)) _ (ap (list_all is_path) c.in_ok-names.ensures.part ∙ all_keys is_path (is_below c.as_str.result.now) c.self.inside.inside.entries c.self.invariant)

pub returns : goal.returns
returns c =
    c.in_ok-paths_of.ensures ∙ c.in_ok-names-2.ensures
    ∙ names_kept (is_below c.as_str.result.now) (λ q. not (is_at_or_below c.args.left_out.now q)) c.self.inside.inside.entries c.in_ok-names.names.items c.in_ok-names.ensures.part c.in_ok-names.ensures.ordered
    ∙ ap (λ p. keys (retain_keys (retain_keys (from_entries {R = slice_cmp nat_cmp} c.self.inside.inside.entries) (λ q. not (is_at_or_below c.args.left_out.now q))) (is_below p))) c.as_str.ensures.text
    ∙ ap (λ (m : Map). keys (retain_keys (retain_keys m (λ q. not (is_at_or_below c.args.left_out.now q))) (is_below c.args.folder.now))) c.self.view_is
