-- What reading a part of a manifest returns: the value, or the first fault.
use Rattle.std.specs.Prelude.{ℕ, List, Result}
use Rattle.pb_data.specs.UnlessOom as answers
use Rattle.pb_manifest_types.specs.declared.fault.ManifestFault.{ManifestFault}
use Rattle.pb_manifest_types.specs.declared.fault.ManifestFault.TheVariants.{OutOfMemory}

-- a text is the list of its UTF-8 bytes
abbrev pub Text : Type 0
Text = List ℕ

-- the value that was read, or the fault that prevented the reading
abbrev pub Read : Type 0 → Type 0
Read A = Result A ManifestFault

-- the result is exactly this answer, unless memory ran out
abbrev pub UnlessOom : {A : Type 0} → Read A → Read A → Type 0
UnlessOom result answer = answers.UnlessOom OutOfMemory (λ x. x) result answer
