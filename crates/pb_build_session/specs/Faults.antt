-- What reading a session returns: a value, or the reason why the session is bad.
use Rattle.std.specs.Prelude.{Result}
use Rattle.pb_data.specs.UnlessOom as answers
use Rattle.pb_place_types.specs.declared.path.PathFault.{PathFault}
use Rattle.pb_place_types.specs.declared.path.PathFault.TheVariants as path
use Rattle.pb_build_session.specs.declared.fault.BadSession.{BadSession}
use Rattle.pb_build_session.specs.declared.fault.BadSession.TheVariants.{BadForm, OutOfMemory}

abbrev pub Read : Type 0 → Type 0
Read A = Result A BadSession

-- the result is exactly this answer, unless memory ran out
abbrev pub UnlessOom : {A : Type 0} → Read A → Read A → Type 0
UnlessOom result answer = answers.UnlessOom OutOfMemory (λ x. x) result answer

-- the result shows exactly this answer, unless memory ran out
abbrev pub GivesAs : {T A : Type 0} → (T → A) → Read T → Read A → Type 0
GivesAs shows result answer = answers.UnlessOom OutOfMemory shows result answer

-- the reason why a session is bad if one of its texts is not a path
abbrev pub of_path_fault : PathFault → BadSession
of_path_fault path.OutOfMemory = OutOfMemory
of_path_fault path.NotAbsolute = BadForm
of_path_fault path.BadByte = BadForm
