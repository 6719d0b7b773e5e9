-- The parts of an object literal, as a machine has them.
use Rattle.std.specs.Prelude.{◌≡◌, ℕ, ◌+◌, List, drop}
use Rattle.flow_policy.specs.Policies.{Tables}
use Rattle.flow_policy.specs.Inputs.{Given}
use Rattle.js_ast.specs.declared.trees.Property as node
use Rattle.js_ast.specs.declared.node_list.NodeList.{NodeList}
use Rattle.js_ast.specs.Functions.{FunctionCode}
use Rattle.js_ast.specs.Nodes.{nodes_of}
use Rattle.js_ast.specs.Trees.{Properties}
use Rattle.js_ast.specs.Views.{view_expr, view_function, view_properties}
use Rattle.es_meaning.specs.BuiltIns.{BuiltIns}
use Rattle.es_meaning.specs.Operations.{Value, Act, object_of}
use Rattle.es_meaning.specs.Evaluation.{parts_of, properties, more_values}
use Rattle.flow_meaning.specs.Scopes.{Val, State}
use Rattle.flow_meaning.specs.Planned.{Plan, planned, asking}
use Rattle.continuations.specs.declared.objects.Part.{Part}
use Rattle.continuations.specs.declared.objects.Part.TheVariants as part
use Rattle.continuations.specs.Settings.{Setting, entrance}

-- the object that a literal makes, of the values of all its parts
abbrev pub literal_act : NodeList node.Property → Act
literal_act list = object_of (parts_of (view_properties (nodes_of list)))

-- what is to do of a literal from a part on, behind the values of those before it
abbrev pub literal_from : NodeList node.Property → ℕ → Tables → Given → BuiltIns → List FunctionCode → List Val → Setting → State → Plan
literal_from list count tables inputs set functions vs e =
    properties (planned tables inputs set functions) (entrance tables inputs set functions) (asking tables inputs set functions) (literal_act list) vs (view_properties (drop count (nodes_of list))) e.env.place

module _ (tables : Tables) (inputs : Given) (set : BuiltIns) (functions : List FunctionCode) where
  -- a part, and behind it others: no part is left, a value is evaluated, or a function is made
  abbrev pub part_plan : Part → Act → List Val → Properties → ℕ → State → Plan
  part_plan part.None act vs others i = (planned tables inputs set functions).act act vs
  part_plan (part.Value x) act vs others i = (planned tables inputs set functions).bind Value Value ((asking tables inputs set functions).expr (view_expr x.now) i)
      (more_values (planned tables inputs set functions) (entrance tables inputs set functions) (asking tables inputs set functions) act vs others i)
  part_plan (part.Function f) act vs others i = (planned tables inputs set functions).bind Value Value ((planned tables inputs set functions).function (view_function f.now) i)
      (more_values (planned tables inputs set functions) (entrance tables inputs set functions) (asking tables inputs set functions) act vs others i)

-- this part of a literal stands behind so many others
abbrev pub IsPart : Part → NodeList node.Property → ℕ → Type 0
IsPart p list count = (tables : Tables) (inputs : Given) (set : BuiltIns) (functions : List FunctionCode) (act : Act) (vs : List Val) (i : ℕ) (s : State)
    → properties (planned tables inputs set functions) (entrance tables inputs set functions) (asking tables inputs set functions) act vs (view_properties (drop count (nodes_of list))) i s
    ≡ part_plan tables inputs set functions p act vs (view_properties (drop (count + 1) (nodes_of list))) i s
