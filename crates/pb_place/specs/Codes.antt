-- How the logic stores the contents of places. No promise names these definitions.
use Rattle.std.specs.Prelude.{refl}
use Rattle.std.specs.Coded.{Coded, code_by, coded×, coded_ℕ, coded_ℤ, coded_list, coded_option}
use Rattle.pb_place_types.specs.World.{World}
use Rattle.pb_place_types.specs.Counts.{Counts, Starts}
use Rattle.pb_place_types.specs.Maps.{map_code}
use Rattle.pb_place.specs.Private.{text_code, call_code, failure_code}
use Rattle.pb_place_types.specs.declared.command.Command.{Command}
use Rattle.pb_place_types.specs.declared.command.Ended.{Ended}
use Rattle.pb_place_types.specs.declared.child_in_flight.ChildInFlight.{ChildInFlight}

abbrev pub command_code : Coded Command
command_code = code_by _ (coded× text_code (coded× (coded_list text_code) (coded× text_code (coded× (coded_list (coded× text_code text_code)) (coded× (coded_option text_code) (coded× text_code (coded× text_code (coded_list text_code))))))))
    (λ c. (c.program, (c.words, (c.folder, (c.pairs, (c.out, (c.target, (c.toolchain, c.reads))))))))
    (λ t. record { program = t.0; words = t.1.0; folder = t.1.1.0; pairs = t.1.1.1.0; out = t.1.1.1.1.0; target = t.1.1.1.1.1.0; toolchain = t.1.1.1.1.1.1.0; reads = t.1.1.1.1.1.1.1 }) (λ _. refl)

abbrev pub ended_code : Coded Ended
ended_code = code_by _ (coded× coded_ℤ (coded× text_code text_code)) (λ e. (e.status, (e.stdout, e.stderr))) (λ t. record { status = t.0; stdout = t.1.0; stderr = t.1.1 }) (λ _. refl)

abbrev pub child_code : Coded ChildInFlight
child_code = code_by _ (coded× coded_ℕ (coded× command_code (coded× ended_code (coded× (coded_list (coded× text_code text_code)) map_code))))
    (λ f. (f.ticket, (f.command, (f.ended, (f.files, f.before))))) (λ t. record { ticket = t.0; command = t.1.0; ended = t.1.1.0; files = t.1.1.1.0; before = t.1.1.1.1 }) (λ _. refl)

abbrev pub world_code : Coded World
world_code = code_by _ (coded× map_code map_code) (λ w. (w.files, w.variables)) (λ t. record { files = t.0; variables = t.1 }) (λ _. refl)

abbrev pub starts_code : Coded Starts
starts_code = code_by _ (coded× coded_ℕ (coded× (coded_list child_code) coded_ℕ)) (λ s. (s.count, (s.flying, s.settings))) (λ t. record { count = t.0; flying = t.1.0; settings = t.1.1 }) (λ _. refl)

abbrev pub counts_code : Coded Counts
counts_code = code_by _ (coded× coded_ℕ (coded× coded_ℕ (coded× starts_code (coded× coded_ℕ (coded× (coded_option failure_code) (coded_option call_code))))))
    (λ c. (c.calls, (c.failures, (c.starts, (c.late, (c.last, c.failing))))))
    (λ t. record { calls = t.0; failures = t.1.0; starts = t.1.1.0; late = t.1.1.1.0; last = t.1.1.1.1.0; failing = t.1.1.1.1.1 }) (λ _. refl)
