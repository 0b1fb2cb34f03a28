use Rattle.std.proofs.Common.{◌∙◌, ap, not}
use Rattle.std.specs.Ordering.{nat_cmp}
use Rattle.std.specs.Cmp.Lexicographic.{slice_cmp}
use Rattle.std.specs.FinMap.{retain_keys, from_entries}
use Rattle.pb_place_types.specs.Paths.{is_path, is_below}
use Rattle.pb_place_types.proofs.MapLemmas.{removed_below}
use Rattle.pb_place_types.proofs.files.FileMap.remove_below.Goals as goal

pub invariant_of-self : goal.invariant_of-self
invariant_of-self c = c.remove_names.ensures.keys is_path c.self.invariant

pub returns-clause-ok : goal.returns-clause-ok
returns-clause-ok c =
    removed_below c.self.inside.inside.entries c.remove_names.new.files.entries c.as_str.result.now c.as_slice.result.now
    (c.as_slice.ensures.value ∙ c.in_ok-names.ensures.keys) c.remove_names.ensures.gone
    ∙ ap (λ p. retain_keys (from_entries {R = slice_cmp nat_cmp} c.self.inside.inside.entries) (λ q. not (is_below p q))) c.as_str.ensures.text
    ∙ ap (λ m. retain_keys m (λ q. not (is_below c.args.folder.now q))) c.self.view_is
