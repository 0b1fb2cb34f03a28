use Rattle.pb_place_types.proofs.Within.{below_goes_on, at_or_below, at_or_below_on, below_then_at, at_then_below, one_folder, not_below_itself, share_no_path, root_is_above, names_lie_apart}
use Rattle.pb_place_types.proofs.laws.folders_nest.Goals as goal

pub returns : goal.returns
returns c = record {
  goes_on = below_goes_on;
  at = at_or_below;
  further = at_or_below_on;
  strict = below_then_at;
  then_strict = at_then_below;
  one = one_folder;
  apart = not_below_itself;
  disjoint = share_no_path;
  root = root_is_above;
  names = names_lie_apart;
}
