-- Bytes that are a text.
use Rattle.std.proofs.Common.{◌≡◌, ℕ, List, false, inl, inr}
use Rattle.std.specs.Str.{is_utf8, IsUtf8}
use Rattle.std.proofs.lemmas.Str.{IsUtf8-from_is_utf8, is_utf8-from_IsUtf8}
use Rattle.std.proofs.lemmas.Bool.{cases_Bool}

pub no_text : (bytes : List ℕ) → ¬ (IsUtf8 bytes) → is_utf8 bytes ≡ false
no_text bytes not_text = elim (cases_Bool (is_utf8 bytes)) [ inl is ↦ absurd (not_text (IsUtf8-from_is_utf8 bytes is)) | inr other ↦ other ]

pub ruleset text_laws = (no_text, is_utf8-from_IsUtf8)
