-- The lines and columns of a text.
use Rattle.std.specs.Prelude.{ℕ, ◌+◌, List, Bool, not, ◌&&◌, ◌||◌, ◌==◌, length, slice_index}
use Rattle.std.specs.List.{range_with_len, count_by, after_last}
use Rattle.flow_text.specs.declared.places.Place.{Place}

-- the unit at i ends a line (ECMA-262 7.3): LF, U+2028, U+2029, or a CR that no LF follows
unfoldable pub ends_line : List ℕ → ℕ → Bool
ends_line text i = let unit = slice_index text i in unit == 10 || unit == 8232 || unit == 8233 || (unit == 13 && not (slice_index text (i + 1) == 10))

-- 1 and the number of units before `at` that end a line
unfoldable pub line_of : List ℕ → ℕ → ℕ
line_of text at = 1 + count_by (ends_line text) (range_with_len 0 at)

-- 1 and the number of units before `at`, after the last of them that ends a line
unfoldable pub column_of : List ℕ → ℕ → ℕ
column_of text at = 1 + length (after_last (ends_line text) (range_with_len 0 at))

-- the line and the column at `at`
unfoldable pub place_of : List ℕ → ℕ → Place
place_of text at = record { line = line_of text at; column = column_of text at }
