-- Array literals, and the conversions of a value for the `length` of an array, as a machine has them.
use Rattle.std.specs.Prelude.{◌≡◌, ℕ, suc, ◌+◌, List, [], ◌∷◌, ◌++◌, drop, Option, Some, None}
use Rattle.flow_policy.specs.Policies.{Tables}
use Rattle.flow_policy.specs.Inputs.{Given}
use Rattle.js_ast.specs.declared.trees.Item as node
use Rattle.js_ast.specs.declared.node_list.NodeList.{NodeList}
use Rattle.js_ast.specs.Functions.{FunctionCode}
use Rattle.js_ast.specs.Nodes.{nodes_of}
use Rattle.js_ast.specs.Trees.{Expr, Items, no_items, hole, item}
use Rattle.js_ast.specs.Views.{view_expr, view_items}
use Rattle.js_values.specs.declared.value.Labelled.{Labelled}
use Rattle.es_meaning.specs.BuiltIns.{BuiltIns}
use Rattle.es_meaning.specs.Evaluation.{items_of}
use Rattle.flow_meaning.specs.Scopes.{Val, State}
use Rattle.flow_meaning.specs.Planned.{Plan, planned, asking}
use Rattle.run_state.specs.declared.outcome.SetLength.{SetLength}
use Rattle.continuations.specs.declared.arrays.Found.{Found}
use Rattle.continuations.specs.declared.arrays.Found.TheVariants as found
use Rattle.continuations.specs.declared.continuation.Continuation.{Continuation}
use Rattle.continuations.specs.declared.continuation.Continuation.TheVariants as continuation
use Rattle.continuations.specs.declared.continuation.Control.{Control}
use Rattle.continuations.specs.declared.continuation.Control.TheVariants as control
use Rattle.continuations.specs.Kept.{Kept, scopes_of, waiting, kept_operands, operands_of}
use Rattle.continuations.specs.Pending.{array_act}
use Rattle.continuations.specs.Settings.{Setting, entrance}

-- the first item that is no hole, with its number from one on
abbrev pub first_item : ℕ → Items → Option (ℕ × Expr)
first_item n no_items = None
first_item n (hole items) = first_item (suc n) items
first_item n (item e items) = Some (n, e)

-- that of a literal, from one on
abbrev pub item_from : ℕ → List node.Item → Option (ℕ × Expr)
item_from at items = first_item at (view_items (drop at items))

-- the first item that is no hole, by what stands in front of the others
abbrev pub first_of : Found → ℕ → Items → Option (ℕ × Expr)
first_of found.End n rest = None
first_of found.Hole n rest = first_item (suc n) rest
first_of (found.Value x) n rest = Some (n, view_expr x.now)

-- this stands at a place of a literal
abbrev pub IsFound : Found → NodeList node.Item → ℕ → Type 0
IsFound f list place = (n : ℕ) → first_item n (view_items (drop place (nodes_of list))) ≡ first_of f n (view_items (drop (place + 1) (nodes_of list)))

-- what is to do of a literal from an item on, behind the values of those before it
abbrev pub items_from : NodeList node.Item → ℕ → Tables → Given → BuiltIns → List FunctionCode → List Val → Setting → State → Plan
items_from list at tables inputs set functions vs e =
    items_of (planned tables inputs set functions) (entrance tables inputs set functions) (asking tables inputs set functions) (array_act tables inputs set functions (view_items (nodes_of list))) vs (view_items (drop at (nodes_of list))) e.env.place

-- the value above the array is converted next, and this work waits for it with the array and another value. The scopes that are pending stay, and the built-ins that wait
pub record Counts {T : Type 0} (w : Continuation) (array beside v : Labelled T) (old new : Kept T) (next : Control) : Type 0 where
  pub moves : next ≡ control.ConvertBeside
  pub tasks : new.tasks ≡ old.tasks ++ (w, array ∷ beside ∷ []) ∷ []
  pub loose : new.loose ≡ array ∷ v ∷ []
  pub scopes : scopes_of new.tasks ≡ scopes_of old.tasks
  pub natives : waiting new.tasks ≡ waiting old.tasks
  pub operands : operands_of new ≡ (kept_operands old.tasks ++ array ∷ beside ∷ []) ++ array ∷ v ∷ []

-- a value is converted for the first time, and waits with the array; and for the second time, where what it came to first waits
abbrev pub counts_from : {T : Type 0} → SetLength → Labelled T → Labelled T → Kept T → Kept T → Control → Type 0
counts_from how array v = Counts (continuation.LengthOnce how) array v v

abbrev pub counts_twice : {T : Type 0} → SetLength → Labelled T → Labelled T → Labelled T → Kept T → Kept T → Control → Type 0
counts_twice how array v first = Counts (continuation.LengthTwice how) array first v
