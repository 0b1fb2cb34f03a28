use Rattle.pb_place_types.proofs.Failing.{torn_spares_others, torn_leaves, torn_spares_variables, partly_spares_others, partly_makes_nothing, partly_spares_variables, start_spares_others, start_spares_variables}
use Rattle.pb_place_types.proofs.laws.failing_calls_spare.Goals as goal

pub returns : goal.returns
returns c = record {
  torn = torn_spares_others;
  leaves = torn_leaves;
  torn_variables = torn_spares_variables;
  partly = partly_spares_others;
  nothing_new = partly_makes_nothing;
  partly_variables = partly_spares_variables;
  started = start_spares_others;
  started_variables = start_spares_variables;
}
