use Rattle.std.proofs.Common.{◌∙◌, ap, ◌++◌, ◌∷◌, []}
use Rattle.std.specs.Ordering.{nat_cmp}
use Rattle.std.specs.Cmp.Lexicographic.{slice_cmp}
use Rattle.std.specs.Map.{keys_of}
use Rattle.pb_place_types.specs.Paths.{stem, is_below}
use Rattle.pb_place_types.proofs.MapLemmas.{between_is_below, bounds_rise, keys-filter}
use Rattle.pb_place_types.proofs.files.names_below.Goals as goal

pub names_between-requires : goal.names_between-requires
names_between-requires c = ap (λ l. slice_cmp nat_cmp l c.in_ok-high.high) c.in_ok-low.ensures ∙ ap (λ h. slice_cmp nat_cmp (stem c.args.folder.now ++ 47 ∷ []) h) c.in_ok-high.ensures ∙ bounds_rise (stem c.args.folder.now)

pub returns-clause-part : goal.returns-clause-part
returns-clause-part c = c.in_ok-names.ensures.between ∙ ap keys_of (between_is_below c.args.folder.now _ _ c.args.files.now.entries c.in_ok-low.ensures c.in_ok-high.ensures)

pub returns-clause-keys : goal.returns-clause-keys
returns-clause-keys c =
    c.in_ok-names.ensures.between ∙ ap keys_of (between_is_below c.args.folder.now _ _ c.args.files.now.entries c.in_ok-low.ensures c.in_ok-high.ensures)
    ∙ keys-filter (is_below c.args.folder.now) c.args.files.now.entries c.in_ok-names.ensures.ordered
