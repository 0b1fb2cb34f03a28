-- Which letters names may have (The Cargo Book, Manifest Format and Features).
use Rattle.std.specs.Prelude.{ℕ, List, [], ◌∷◌, Bool, false, not, ◌&&◌, ◌||◌, ◌==◌, nat_le, length, map, if◌then◌else◌}
use Rattle.std.specs.List.{list_all, list_any}
use Rattle.pb_data.specs.Ascii.{plus, dash, dot, underscore}

-- the byte is an ASCII letter or digit
abbrev pub is_alphanumeric : ℕ → Bool
is_alphanumeric b = (nat_le 97 b && nat_le b 122) || (nat_le 65 b && nat_le b 90) || (nat_le 48 b && nat_le b 57)

-- the byte may be in a package's name: it is a letter, a digit, `-` or `_`
unfoldable pub is_name_byte : ℕ → Bool
is_name_byte b = is_alphanumeric b || b == dash || b == underscore

-- the text is not empty, and has only bytes that may be in a package's name
unfoldable pub is_name : List ℕ → Bool
is_name text = not (length text == 0) && list_all is_name_byte text

-- the byte may be in a crate's name: it is a letter, a digit or `_`
unfoldable pub is_crate_name_byte : ℕ → Bool
is_crate_name_byte b = is_alphanumeric b || b == underscore

-- the text is not empty, and has only bytes that may be in a crate's name
unfoldable pub is_crate_name : List ℕ → Bool
is_crate_name text = not (length text == 0) && list_all is_crate_name_byte text

-- the byte may be in a feature's name after the first byte: the byte is a letter, a digit, `_`,
-- `-`, `+` or `.`
unfoldable pub is_feature_byte : ℕ → Bool
is_feature_byte b = is_alphanumeric b || b == underscore || b == dash || b == plus || b == dot

-- The text may be a feature's name. Its first byte is a letter, a digit or `_`. `is_feature_byte`
-- is true of all other bytes.
unfoldable pub is_feature_name : List ℕ → Bool
is_feature_name [] = false
is_feature_name (b ∷ bs) = is_crate_name_byte b && list_all is_feature_byte bs

-- the text contains byte 0
unfoldable pub has_zero : List ℕ → Bool
has_zero text = list_any (λ b. b == 0) text

-- `_` if the byte is `-`, and otherwise the byte itself
abbrev pub underscored_byte : ℕ → ℕ
underscored_byte b = if b == dash then underscore else b

-- a package's name as the name of its library: `_` replaces each `-`
unfoldable pub underscored : List ℕ → List ℕ
underscored name = map underscored_byte name
