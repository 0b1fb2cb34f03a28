-- Diagnostics, and how they are written.
use Rattle.std.specs.Prelude.{ℕ, Bool, true, false, codes, List, [], ◌∷◌, ◌++◌}
use Rattle.std.specs.List.{list_any}
use Rattle.std.specs.Fmt.{decimal}
use Rattle.pb_json.specs.Json.{json_string}
use Rattle.pb_mini.specs.declared.diagnostic.Level.{Level}
use Rattle.pb_mini.specs.declared.diagnostic.Level.TheVariants.{Warning, Error}
use Rattle.pb_mini.specs.declared.diagnostic.Diagnostic.{Diagnostic}

abbrev pub level_name : Level → List ℕ
level_name Warning = codes "warning"
level_name Error = codes "error"

-- the line `{"level":LEVEL,"message":MESSAGE,"line":NUMBER}` for a diagnostic
abbrev pub diagnostic_text : Diagnostic → List ℕ
diagnostic_text d =
    codes "{\"level\":\"" ++ level_name d.level ++ codes "\",\"message\":" ++ json_string d.message ++ codes ",\"line\":" ++ decimal d.line ++ codes "}\n"

abbrev pub diagnostics_text : List Diagnostic → List ℕ
diagnostics_text [] = []
diagnostics_text (d ∷ ds) = diagnostic_text d ++ diagnostics_text ds

abbrev pub is_error : Level → Bool
is_error Warning = false
is_error Error = true

abbrev pub has_error : List Diagnostic → Bool
has_error ds = list_any (λ d. is_error d.level) ds
