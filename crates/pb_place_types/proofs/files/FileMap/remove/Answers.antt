use Rattle.std.proofs.Common.{◌∙◌, ap, sym, not}
use Rattle.std.specs.BTreeMap.{is_at}
use Rattle.std.specs.Ordering.{nat_cmp}
use Rattle.std.specs.Cmp.Lexicographic.{slice_cmp}
use Rattle.std.specs.List.{list_all}
use Rattle.std.specs.FinMap.{retain_keys, from_entries}
use Rattle.pb_place_types.specs.Paths.{is_path, is_at_or_below}
use Rattle.pb_place_types.proofs.MapLemmas.{removed_tree, all-remove_entry}
use Rattle.pb_place_types.proofs.files.FileMap.remove.Goals as goal

pub invariant_of-self : goal.invariant_of-self
invariant_of-self c =
    ap (list_all (λ e. is_path e.0)) c.remove.ensures.entries
    ∙ all-remove_entry is_path (is_at (slice_cmp nat_cmp c.as_text.result.now)) c.remove_names.new.files.entries (c.remove_names.ensures.keys is_path c.self.invariant)

pub returns-clause-ok : goal.returns-clause-ok
returns-clause-ok c =
    removed_tree c.self.inside.inside.entries c.remove_names.new.files.entries c.remove.new.self.entries c.as_str.result.now c.as_text.result.now c.as_slice.result.now
    (c.as_text.ensures ∙ sym c.as_str.ensures.text) (c.as_slice.ensures.value ∙ c.in_ok-names.ensures.keys) c.remove_names.ensures.gone c.remove.ensures.updates.0
    ∙ ap (λ p. retain_keys (from_entries {R = slice_cmp nat_cmp} c.self.inside.inside.entries) (λ q. not (is_at_or_below p q))) c.as_str.ensures.text
    ∙ ap (λ m. retain_keys m (λ q. not (is_at_or_below c.args.path.now q))) c.self.view_is
