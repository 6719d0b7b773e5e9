-- What stands ahead in a string, read from left to right (ECMA-262 7.8.4). The laws of `proofs/StringReadingLaws` tie it to the parts of a string.
use Rattle.std.specs.Prelude.{ℕ, ◌+◌, List, [], ◌∷◌, Bool, not, ◌==◌, ◌&&◌, Option, Some, None, if◌then◌else◌}
use Rattle.std.specs.Char.{is_digit}
use Rattle.js_scan.specs.declared.strings.Ahead.{Ahead}
use Rattle.js_scan.specs.declared.strings.Ahead.TheVariants.{Value, Nothing, Quote, LineEnd, BadEscape}
use Rattle.js_scan.specs.Units.{is_line_terminator, begins_with, begins_with_digit}
use Rattle.js_scan.specs.Strings.{escaped_character}
use Rattle.js_scan.specs.Hexadecimal.{hexadecimal_value}

-- an escape by a number, of so many units
abbrev pub by_number : ℕ → Option ℕ → Ahead
by_number n (Some unit) = Value unit n
by_number n None = BadEscape

-- `\x` or `\u`, by the units behind that letter: HexEscapeSequence and UnicodeEscapeSequence
unfoldable pub hexadecimal_escape : ℕ → List ℕ → Ahead
hexadecimal_escape count us = by_number (2 + count) (hexadecimal_value count us)

-- `\` and a digit, by that digit and the units behind it: only `\0` is an escape, and only before no digit
unfoldable pub digit_escape : ℕ → List ℕ → Ahead
digit_escape u us = if u == 48 && not (begins_with_digit us) then Value 0 2 else BadEscape

-- a LineContinuation, by the line terminator and the units behind it
unfoldable pub line_continuation : ℕ → List ℕ → Ahead
line_continuation u us = if u == 13 && begins_with 10 us then Nothing 3 else Nothing 2

-- `\`, by the units behind it
unfoldable pub escape : List ℕ → Ahead
escape [] = LineEnd
escape (u ∷ us) = if u == 120 then hexadecimal_escape 2 us else (if u == 117 then hexadecimal_escape 4 us else (if is_digit u 10 then digit_escape u us else
    (if is_line_terminator u then line_continuation u us else Value (escaped_character u) 2)))

-- what stands at the front of the rest of a string
unfoldable pub look_ahead : ℕ → List ℕ → Ahead
look_ahead quote [] = LineEnd
look_ahead quote (u ∷ us) = if u == 92 then escape us else (if u == quote then Quote else (if is_line_terminator u then LineEnd else Value u 1))
