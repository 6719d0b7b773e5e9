-- Orders of nodes by their keys, in which those of one key stand side by side.
use Rattle.std.specs.Prelude.{◌≡◌, ◌<◌, ◌-◌, ℕ, List, [], length, map, get_or, slice_index}
use Rattle.std.specs.Cmp.Lexicographic.{slice_cmp}
use Rattle.std.specs.Ordering.{ordering_then, nat_cmp}
use Rattle.std.specs.declared.cmp.Ordering.{Ordering}
use Rattle.std.specs.declared.cmp.Ordering.TheVariants.{Less}
use Rattle.js_ast.specs.declared.node_list.NodeList.{NodeList}
use Rattle.js_ast.specs.Nodes.{nodes_of, order_of}

-- how the nodes at two places stand: by the key, and those of one key from the left
abbrev pub rank : List (List ℕ) → ℕ → ℕ → Ordering
rank keys i j = ordering_then (slice_cmp nat_cmp (get_or keys i []) (get_or keys j [])) (nat_cmp i j)

-- the places of the nodes with these keys, each of them once, in that order
pub record IsOrder (keys : List (List ℕ)) (order : List ℕ) : Type 0 where
  pub all : length order ≡ length keys
  pub within : (p : ℕ) → p < length order → slice_index order p < length keys
  pub rises : (p : ℕ) → 0 < p → p < length order → rank keys (slice_index order (p - 1)) (slice_index order p) ≡ Less

-- a list of nodes keeps their order by this key
abbrev pub KeepsOrder : {T : Type 0} → (T → List ℕ) → NodeList T → Type 0
KeepsOrder key l = IsOrder (map key (nodes_of l)) (order_of l)
