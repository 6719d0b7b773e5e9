-- How a name is read, unit by unit.
use Rattle.std.specs.Prelude.{◌≡◌, ℕ, List, [], ◌∷◌, ◌++◌, Bool, ◌&&◌, ◌==◌, length, drop, Option, Some, None, if◌then◌else◌}
use Rattle.std.specs.Option.{option_map}
use Rattle.js_scan.specs.Units.{is_identifier_start, is_identifier_part}
use Rattle.js_scan.specs.Hexadecimal.{hexadecimal_value}
use Rattle.js_scan.specs.Names.{NamePart, IsName, spelled_name, name_value, has_escape}

-- the unit that an escape stands for, of which these follow the `\`
unfoldable pub escaped_unit : List ℕ → Option ℕ
escaped_unit [] = None
escaped_unit (u ∷ us) = if u == 117 then hexadecimal_value 4 us else None

-- the unit that stands first, as itself or by an escape, and how many units spell it
unfoldable pub unit_at : List ℕ → Option (ℕ × ℕ)
unit_at [] = None
unit_at (u ∷ us) = if u == 92 then option_map (λ v. (v, 6)) (escaped_unit us) else Some (u, 1)

-- that unit, where it passes
unfoldable pub passing : (ℕ → Bool) → Option (ℕ × ℕ) → Option (ℕ × ℕ)
passing test None = None
passing test (Some found) = if test found.0 then Some found else None

-- the first unit of a name
unfoldable pub start_at : List ℕ → Option (ℕ × ℕ)
start_at units = passing is_identifier_start (unit_at units)

-- a unit behind the first
unfoldable pub part_at : List ℕ → Option (ℕ × ℕ)
part_at units = passing is_identifier_part (unit_at units)

-- a name of so many units stands at the front, and this is what it stands for
pub record ReadsName (us : List ℕ) (text : List ℕ) (n : ℕ) (escaped : Bool) : Type 0 where
  pub parts : List NamePart
  pub is : IsName parts
  pub whole : us ≡ spelled_name parts ++ drop n us
  pub length_is : length (spelled_name parts) ≡ n
  pub text_is : text ≡ name_value parts
  pub escaped_is : escaped ≡ has_escape parts
