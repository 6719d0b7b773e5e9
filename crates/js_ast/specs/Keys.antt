-- The names that keys give their properties.
use Rattle.std.specs.Prelude.{ℕ, List}
use Rattle.std.specs.Fmt.{signed_decimal}
use Rattle.js_ast.specs.Trees.{Key, name_key, string_key, number_key}

-- the name that a key gives its property
abbrev pub key_text : Key → List ℕ
key_text (name_key text) = text
key_text (string_key text v) = v
key_text (number_key n) = signed_decimal n
