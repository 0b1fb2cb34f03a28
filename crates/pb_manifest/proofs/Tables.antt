-- What a look-up in a table finds, and when bytes are a text.
use Rattle.std.proofs.lemmas.Str.{is_utf8-from_IsUtf8, IsUtf8-from_is_utf8}
use Rattle.toml.proofs.Views.{table_get}

pub ruleset found_laws = (table_get)

pub ruleset utf8_laws = (is_utf8-from_IsUtf8, IsUtf8-from_is_utf8)
