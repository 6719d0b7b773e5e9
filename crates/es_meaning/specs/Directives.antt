-- Upgrade directives: expression statements that are one string literal whose value begins with `flow `. In ECMAScript they do nothing. What each says:
-- of which jump it speaks, and the names of the origins that it joins to what such a jump depends on. A script is refused where one has not its form.
use Rattle.std.specs.Prelude.{ℕ, Bool, true, false, ◌==◌, List, [], ◌∷◌, Option, Some, None, codes, nat_eq, if◌then◌else◌}
use Rattle.std.specs.List.{slice_split, starts_with}
use Rattle.std.specs.Str.{bytes_eq}
use Rattle.flow_lists.specs.Lists.{names_in}
use Rattle.js_ast.specs.Trees.{Expr, string}
use Rattle.es_meaning.specs.Environments.{Leaving, thrown, returned, left_by}

pub record Upgrade : Type 0 where
  pub leaving : Leaving
  pub names : List (List ℕ)

-- `exc`, `ret`, `break` or `continue`, with its label or none
abbrev pub leaving_of : List ℕ → Option (List ℕ) → Leaving
leaving_of what label =
    if bytes_eq what (codes "exc") then thrown else
    if bytes_eq what (codes "ret") then returned else
    left_by (bytes_eq what (codes "continue")) label

-- the label behind its `@`
abbrev pub behind_mark : List ℕ → List ℕ
behind_mark [] = []
behind_mark (unit ∷ label) = label

-- its words: `flow`, the jump, a label or none, and a list of origins
abbrev pub upgrade_by : List (List ℕ) → Option Upgrade
upgrade_by (flow ∷ what ∷ list ∷ []) = Some (record { leaving = leaving_of what None; names = names_in list })
upgrade_by (flow ∷ what ∷ label ∷ list ∷ []) = Some (record { leaving = leaving_of what (Some (behind_mark label)); names = names_in list })
upgrade_by _ = None

abbrev pub upgrade_if : Bool → List ℕ → Option Upgrade
upgrade_if true units = upgrade_by (slice_split (λ unit. unit == 32) units)
upgrade_if false units = None

-- the directive that an expression is as a statement: the literal stands in no parentheses
unfoldable pub upgrade_of : Expr → Option Upgrade
upgrade_of (string at text units) = upgrade_if (starts_with nat_eq units (codes "flow ")) units
upgrade_of _ = None
