use Rattle.std.proofs.Common.{ap, ◌∙◌}
use Rattle.std.specs.List.{list_all}
use Rattle.pb_place_types.specs.Paths.{is_path}
use Rattle.pb_place_types.proofs.MapLemmas.{all-insert_entry}
use Rattle.pb_place_types.proofs.files.FileMap.insert.Goals as goal

pub invariant_of-self-2 : goal.invariant_of-self-2
invariant_of-self-2 c =
    ap (list_all (λ e. is_path e.0)) c.in_ok-_old.ensures.entries
    ∙ all-insert_entry is_path c.self.inside.inside.entries c.in_ok-key.key c.in_ok-value.value (ap is_path (c.in_ok-key.ensures ∙ c.as_str.ensures.text) ∙ c.as_str.ensures.normal) c.self.invariant
