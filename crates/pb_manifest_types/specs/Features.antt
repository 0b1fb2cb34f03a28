-- How a text is split at a byte. The items of features are split in this way (The Cargo Book,
-- Features).
use Rattle.std.specs.Prelude.{ℕ, ◌==◌, if◌then◌else◌, Option, Some, None, length}
use Rattle.std.specs.List.{before_first, after_first, position_or_len}
use Rattle.pb_manifest_types.specs.Values.{Text}

-- the texts before and after the first occurrence of a byte, if the byte occurs
unfoldable pub parted : ℕ → Text → Option (Text × Text)
parted mark text =
    if position_or_len (λ b. b == mark) text == length text then None
    else Some (before_first (λ b. b == mark) text, after_first (λ b. b == mark) text)
