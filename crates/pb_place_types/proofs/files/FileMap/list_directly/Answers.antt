use Rattle.std.proofs.Common.{◌==◌, ◌+◌, ◌∙◌, ◌&&◌, ap, not, length, drop}
use Rattle.std.specs.List.{list_all, list_any}
use Rattle.std.specs.Ordering.{nat_cmp}
use Rattle.std.specs.Cmp.Lexicographic.{slice_cmp}
use Rattle.std.specs.FinMap.{keys, retain_keys, from_entries}
use Rattle.pb_place_types.specs.Paths.{is_path, is_below, stem}
use Rattle.pb_place_types.specs.World.{Map, is_directly_in}
use Rattle.pb_place_types.proofs.MapLemmas.{all_keys}
use Rattle.pb_place_types.proofs.Copies.{all_filter, names_twice_kept}
use Rattle.pb_place_types.proofs.files.FileMap.list_directly.Goals as goal

pub paths_of-requires : goal.paths_of-requires
paths_of-requires c =
    ap (list_all is_path) c.in_ok-names-2.ensures
    ∙ all_filter is_path (λ q. not (list_any (λ b. b == 47) (drop (length (stem c.args.folder.now) + 1) q))) _ (ap (list_all is_path) c.in_ok-names.ensures.part ∙ all_keys is_path (is_below c.as_str.result.now) c.self.inside.inside.entries c.self.invariant)

pub returns : goal.returns
returns c =
    c.in_ok-paths_of.ensures ∙ c.in_ok-names-2.ensures
    ∙ names_twice_kept (is_below c.as_str.result.now) (λ q. not (list_any (λ b. b == 47) (drop (length (stem c.args.folder.now) + 1) q))) c.self.inside.inside.entries c.in_ok-names.names.items c.in_ok-names.ensures.part c.in_ok-names.ensures.ordered
    ∙ ap (λ p. keys (retain_keys (from_entries {R = slice_cmp nat_cmp} c.self.inside.inside.entries) (λ q. is_below p q && not (list_any (λ b. b == 47) (drop (length (stem c.args.folder.now) + 1) q))))) c.as_str.ensures.text
    ∙ ap (λ (m : Map). keys (retain_keys m (is_directly_in c.args.folder.now))) c.self.view_is
