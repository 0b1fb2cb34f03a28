-- What a build reports about its units after they have ended.
use Rattle.std.specs.Prelude.{◌≡◌, ◌↔◌, ℕ, List, [], Option, Some, None, filter_map, is_none, map, option_map, slice_get}
use Rattle.std.specs.List.{zip}
use Rattle.std.specs.Option.{option_flatten, option_map_or}
use Rattle.pb_build_result.specs.declared.bad_unit.BadUnit.{BadUnit}
use Rattle.pb_build_result.specs.declared.summary.Summary.{Summary}
use Rattle.pb_run_flight.specs.Events.{Event, started_by}
use Rattle.pb_command_types.specs.Targets.{unit_at}
use Rattle.pb_command_types.specs.declared.project.Project.{Project}
use Rattle.pb_run.specs.Outcome.{directives_in}
use Rattle.pb_store.specs.declared.difference.Difference.{Difference}
use Rattle.pb_build_turns.specs.Rows.{Reasons, Row, fault_in, summary_of}
use Rattle.pb_unit.specs.declared.plan.Planned.{Planned}

-- the key of the first bad unit, the reason why this unit is bad, and what the unit's child printed
abbrev pub first_bad_unit : List Row → Option (List ℕ × BadUnit)
first_bad_unit rows = slice_get (filter_map (λ (row : Row). option_map (λ bad. (row.unit.key, bad)) (fault_in row.outcome)) rows) 0

-- the key of the unit, if the unit has begun and nothing differed from the unit's record
abbrev pub kept_in : (Planned × Option (Option Difference)) → Option (List ℕ)
kept_in (u, Some None) = Some u.key
kept_in (u, reason) = None

-- the summary is that of the build with these events, reasons and rows
pub record IsSummary (project : Project) (es : List (Event BadUnit)) (reasons : Reasons) (rows : List Row) (summary : Summary) : Type 0 where
  -- the summary is a success if no unit is bad
  pub success : summary.success ≡ is_none (first_bad_unit rows)
  -- the summary has the key and the fault of the first bad unit
  pub bad : summary.bad ≡ option_map (λ bad. (bad.0, bad.1.fault)) (first_bad_unit rows)
  -- the summary has what the child of the first bad unit printed
  pub said : summary.said ≡ option_map_or (λ bad. bad.1.said) (first_bad_unit rows) []
  -- the summary has the keys of the units for which a child was started, in the order of these
  -- starts
  pub started : summary.started ≡ map (λ (u : Planned). u.key) (filter_map (unit_at project) (started_by es))
  -- the summary has the first difference of each started unit
  pub differences : summary.differences ≡ filter_map (λ index. option_flatten (option_flatten (slice_get reasons index))) (started_by es)
  -- the summary has the keys, in plan order, of the units that began without a difference from
  -- their records
  pub kept : summary.kept ≡ filter_map kept_in (zip project.plan.planned reasons)
  -- the summary has the directives of each run, with the run's key
  pub directives : summary.directives ≡ filter_map (λ (row : Row). option_map (λ directives. (row.unit.key, directives)) (directives_in row.outcome)) rows

-- A summary equals `summary_of` if and only if `IsSummary` is true of the summary.
abbrev pub SummariesSay : Type 0
SummariesSay = (project : Project) (es : List (Event BadUnit)) (reasons : Reasons) (rows : List Row) (summary : Summary) → (summary ≡ summary_of project es reasons rows) ↔ IsSummary project es reasons rows summary
