-- Nodes that may repeat the key of an earlier one, and what is told of them by an order in which those of one key stand side by side.
use Rattle.std.specs.Prelude.{◌+◌, ◌-◌, ℕ, List, [], ◌∷◌, ◌++◌, length, map, get_or, slice_index, Bool, false, not, nat_lt, ◌==◌, ◌&&◌, ◌||◌}
use Rattle.std.specs.List.{list_any, filter}
use Rattle.std.specs.Str.{bytes_eq}
use Rattle.std.specs.Ordering.{is_lt}
use Rattle.js_faults.specs.declared.fault.EarlyError.{EarlyError}
use Rattle.js_faults.specs.declared.fault.EarlyErrorKind.{EarlyErrorKind}
use Rattle.js_ast.specs.Keys.{key_text}
use Rattle.js_ast.specs.Orders.{rank}
use Rattle.js_ast.specs.Trees.{Ident, Property}
use Rattle.js_faults.specs.Early.{fault_if, of_bound, key_of, place_of_property, is_getter, is_setter}

-- what is looked at of a node: its place, its key, and whether it is a getter or a setter
pub record Entry : Type 0 where
  pub at : ℕ
  pub key : List ℕ
  pub getter : Bool
  pub setter : Bool

-- a parameter
abbrev pub name_entry : Ident → Entry
name_entry i = record { at = i.at; key = i.text; getter = false; setter = false }

-- a property
abbrev pub property_entry : Property → Entry
property_entry p = record { at = place_of_property p; key = key_text (key_of p); getter = is_getter p; setter = is_setter p }

-- names that are bound, each on its own
abbrev pub of_each : List Ident → List EarlyError
of_each [] = []
of_each (i ∷ is) = of_bound i ++ of_each is

-- what is read behind the last one
abbrev pub no_entry : Entry
no_entry = record { at = 0; key = []; getter = false; setter = false }

-- the one at a place of the list
abbrev pub nth : List Entry → ℕ → Entry
nth es i = get_or es i no_entry

-- two of one key
abbrev pub one_key : Entry → Entry → Bool
one_key e f = bytes_eq e.key f.key

-- a getter and a setter
abbrev pub are_parts : Entry → Entry → Bool
are_parts e f = (e.getter && f.setter) || (e.setter && f.getter)

-- e may not stand behind f, which has its key: they are no getter and setter, or a third one has the key
abbrev pub conflicts : List Entry → Entry → Entry → Bool
conflicts all e f = one_key e f && (not (are_parts e f) || not (length (filter (one_key e) all) == 2))

-- what is told of those that stand behind earlier ones, of all
unfoldable pub of_repeats : EarlyErrorKind → List Entry → List Entry → List Entry → List EarlyError
of_repeats kind all earlier [] = []
of_repeats kind all earlier (e ∷ es) = fault_if (list_any (conflicts all e) earlier) e.at kind ++ of_repeats kind all (earlier ++ e ∷ []) es

-- their keys
abbrev pub keys_of : List Entry → List (List ℕ)
keys_of es = map (λ e. e.key) es

-- the node at a place is the first, or it ranks behind the one in front of it
abbrev pub rises_at : List (List ℕ) → List ℕ → ℕ → Bool
rises_at keys order p = (p == 0) || is_lt (rank keys (slice_index order (p - 1)) (slice_index order p))

-- two places of an order have one key
abbrev pub same_at : List Entry → List ℕ → ℕ → ℕ → Bool
same_at es order p q = one_key (nth es (slice_index order p)) (nth es (slice_index order q))

-- a neighbour but the one in front of a place has its key
abbrev pub has_third : List Entry → List ℕ → ℕ → Bool
has_third es order p = (nat_lt 1 p && same_at es order p (p - 2)) || (nat_lt (p + 1) (length order) && same_at es order p (p + 1))

-- what stands at a place of an order may not stand behind an earlier one, as its neighbours show
abbrev pub clashes_at : List Entry → List ℕ → ℕ → Bool
clashes_at es order p = nat_lt 0 p && (same_at es order p (p - 1) && (not (are_parts (nth es (slice_index order p)) (nth es (slice_index order (p - 1)))) || has_third es order p))

-- what is told at a place of an order
abbrev pub told_in_order : EarlyErrorKind → List Entry → List ℕ → ℕ → List EarlyError
told_in_order kind es order p = fault_if (clashes_at es order p) (nth es (slice_index order p)).at kind
