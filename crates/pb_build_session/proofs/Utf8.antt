-- When bytes are a text.
use Rattle.std.proofs.lemmas.Str.{is_utf8-from_IsUtf8, IsUtf8-from_is_utf8}

pub ruleset utf8_laws = (is_utf8-from_IsUtf8, IsUtf8-from_is_utf8)
