-- Early errors: what ECMA-262 refuses of a tree before it is run (5.1, clause 16 and annex C), node by node.
use Rattle.std.specs.Prelude.{ℕ, List, [], ◌∷◌, ◌++◌, length, Bool, true, false, not, ◌==◌, ◌&&◌, ◌||◌, Option, Some, None, codes, if◌then◌else◌}
use Rattle.std.specs.List.{list_any, filter}
use Rattle.std.specs.Str.{bytes_eq}
use Rattle.js_ast.specs.declared.operators.UnaryOperator.{UnaryOperator}
use Rattle.js_ast.specs.declared.operators.UnaryOperator.TheVariants as unary_operator
use Rattle.js_ast.specs.Keys.{key_text}
use Rattle.js_ast.specs.Trees.{Ident, Key, Expr, name, paren, object, postfix, unary, assign, Properties, no_properties, more_properties, Property, value, getter, setter, Declarations, one_declaration, more_declarations, First, first_expr, first_var, Target, target_expr, target_var, Statement, var, expression, for, for_in, continue, break, return, labelled, try_catch, try_both, Function, function_of}
use Rattle.js_faults.specs.declared.fault.EarlyError.{EarlyError}
use Rattle.js_faults.specs.declared.fault.EarlyErrorKind.{EarlyErrorKind}
use Rattle.js_faults.specs.declared.fault.EarlyErrorKind.TheVariants as kind
use Rattle.js_faults.specs.Scopes.{Scope, names_statement, names_loop}
use Rattle.js_faults.specs.Directives.{parts_in, directive_of}
use Rattle.js_faults.specs.Faults.{Own}

-- a fault, where something holds
abbrev pub fault_if : Bool → ℕ → EarlyErrorKind → List EarlyError
fault_if true at k = record { at = at; kind = k } ∷ []
fault_if false at k = []

-- ---- names

-- `eval` and `arguments` are neither assigned nor bound (ECMA-262 11.13.1, 11.4.4, 11.3.1, 12.2.1, 12.14.1, 13.1)
abbrev pub is_eval_or_arguments : List ℕ → Bool
is_eval_or_arguments text = bytes_eq text (codes "eval") || bytes_eq text (codes "arguments")

-- the words that are reserved in strict code alone (ECMA-262 7.6.1.2)
abbrev pub strict_words : List (List ℕ)
strict_words = codes "implements" ∷ codes "interface" ∷ codes "let" ∷ codes "package" ∷ codes "private" ∷ codes "protected" ∷ codes "public" ∷ codes "static" ∷ codes "yield" ∷ []

-- one of them
unfoldable pub is_strict_word : List ℕ → Bool
is_strict_word text = list_any (λ word. bytes_eq text word) strict_words

-- a name that stands for a value, or a label
abbrev pub of_name : ℕ → List ℕ → List EarlyError
of_name at text = fault_if (is_strict_word text) at kind.StrictWord

-- a name that is bound: a variable, a function, a parameter, or what is caught
unfoldable pub of_bound : Ident → List EarlyError
of_bound i = fault_if (is_eval_or_arguments i.text) i.at kind.EvalArguments ++ of_name i.at i.text

-- the same of a function's name, which may be missing
unfoldable pub of_bound_maybe : Option Ident → List EarlyError
of_bound_maybe None = []
of_bound_maybe (Some i) = of_bound i

-- one of the names is this one: so a parameter repeats an earlier one (ECMA-262 13.1)
abbrev pub has_text : List ℕ → List Ident → Bool
has_text text is = list_any (λ i. bytes_eq i.text text) is

-- all parameters, behind earlier ones
unfoldable pub of_parameters : List Ident → List Ident → List EarlyError
of_parameters earlier [] = []
of_parameters earlier (i ∷ is) = of_bound i ++ (fault_if (has_text i.text earlier) i.at kind.RepeatedParameter ++ of_parameters (earlier ++ i ∷ []) is)

-- a function, without its body: its name and its parameters
unfoldable pub of_function : Function → List EarlyError
of_function (function_of at ident params body) = of_bound_maybe ident ++ of_parameters [] params

-- what is assigned to, also in parentheses
unfoldable pub of_assigned : Expr → List EarlyError
of_assigned (name at text) = fault_if (is_eval_or_arguments text) at kind.EvalArguments
of_assigned (paren at e) = of_assigned e
of_assigned _ = []

-- the operand of `delete` (ECMA-262 11.4.1), also in parentheses
unfoldable pub of_deleted : Expr → List EarlyError
of_deleted (name at text) = record { at = at; kind = kind.DeleteName } ∷ []
of_deleted (paren at e) = of_deleted e
of_deleted _ = []

-- ---- properties (ECMA-262 11.1.5)

-- the key of a property
abbrev pub key_of : Property → Key
key_of (value at k e) = k
key_of (getter at k f) = k
key_of (setter at k f) = k

-- its place
abbrev pub place_of_property : Property → ℕ
place_of_property (value at k e) = at
place_of_property (getter at k f) = at
place_of_property (setter at k f) = at

-- a property that is read by a function
abbrev pub is_getter : Property → Bool
is_getter (getter at k f) = true
is_getter _ = false

-- a property that is written by a function
abbrev pub is_setter : Property → Bool
is_setter (setter at k f) = true
is_setter _ = false

-- two properties of one key
abbrev pub same_key : Property → Property → Bool
same_key p q = bytes_eq (key_text (key_of p)) (key_text (key_of q))

-- a getter and a setter
abbrev pub is_pair : Property → Property → Bool
is_pair p q = (is_getter p && is_setter q) || (is_setter p && is_getter q)

-- properties in their order
abbrev pub property_list : Properties → List Property
property_list no_properties = []
property_list (more_properties p ps) = p ∷ property_list ps

-- the property may not stand behind this one of its key: they are no getter and setter, or a third one has the key
abbrev pub clashes : List Property → Property → Property → Bool
clashes all p q = same_key p q && (not (is_pair p q) || not (length (filter (same_key p) all) == 2))

-- properties behind earlier ones, of all that stand in the literal
unfoldable pub of_repeated : List Property → List Property → List Property → List EarlyError
of_repeated all earlier [] = []
of_repeated all earlier (p ∷ ps) = fault_if (list_any (clashes all p) earlier) (place_of_property p) kind.RepeatedProperty ++ of_repeated all (earlier ++ p ∷ []) ps

-- the properties of a literal
unfoldable pub of_properties : List Property → List EarlyError
of_properties ps = of_repeated ps [] ps

-- ---- expressions

-- `delete`, `++` and `--`
abbrev pub of_unary : UnaryOperator → Expr → List EarlyError
of_unary unary_operator.Delete e = of_deleted e
of_unary unary_operator.Increment e = of_assigned e
of_unary unary_operator.Decrement e = of_assigned e
of_unary _ e = []

-- an expression, without its parts
unfoldable pub of_expr : Expr → List EarlyError
of_expr (name at text) = of_name at text
of_expr (object at props final) = of_properties (property_list props)
of_expr (postfix at e o) = of_assigned e
of_expr (unary at o e) = of_unary o e
of_expr (assign at l o r) = of_assigned l
of_expr _ = []

-- ---- jumps (ECMA-262 12.7, 12.8, 12.9)

-- a `break` has a statement to leave: without a label a loop or a `switch`
abbrev pub may_break : Option (List ℕ) → Scope → Bool
may_break None s = s.in_loop || s.in_switch
may_break (Some label) s = names_statement label s

-- a `continue` has a loop to go on with
abbrev pub may_continue : Option (List ℕ) → Scope → Bool
may_continue None s = s.in_loop
may_continue (Some label) s = names_loop label s

-- the text of a label, or none
abbrev pub label_text : Option Ident → Option (List ℕ)
label_text None = None
label_text (Some i) = Some i.text

-- a jump that a directive names
abbrev pub may_jump : List ℕ → Option (List ℕ) → Scope → Bool
may_jump what label s =
    if bytes_eq what (codes "break") then may_break label s else
    if bytes_eq what (codes "continue") then may_continue label s else
    if bytes_eq what (codes "ret") then s.in_function else true

-- the label behind its `@`
abbrev pub behind_mark : List ℕ → List ℕ
behind_mark [] = []
behind_mark (u ∷ text) = text

-- the label of a directive, or none
abbrev pub marked_label : Option (List ℕ) → Option (List ℕ)
marked_label None = None
marked_label (Some label) = Some (behind_mark label)

-- the parts of a directive that has its form
abbrev pub parts_may_jump : Option (List ℕ × (Option (List ℕ) × List ℕ)) → Scope → Bool
parts_may_jump (Some (what, (label, list))) s = may_jump what (marked_label label) s
parts_may_jump None s = true

-- a statement that is no directive, or whose jump has a statement or function to leave
unfoldable pub directive_may_jump : Option (List ℕ) → Scope → Bool
directive_may_jump (Some units) s = parts_may_jump (parts_in units) s
directive_may_jump None s = true

-- ---- statements

-- the variables that are declared
unfoldable pub of_declarations : Declarations → List EarlyError
of_declarations (one_declaration ident init) = of_bound ident
of_declarations (more_declarations ident init ds) = of_bound ident ++ of_declarations ds

-- those of a `for` header
abbrev pub of_first : First → List EarlyError
of_first (first_expr e) = []
of_first (first_var ds) = of_declarations ds

-- what a `for` with `in` assigns to
abbrev pub of_target : Target → List EarlyError
of_target (target_expr e) = of_assigned e
of_target (target_var i) = of_bound i

-- a statement, without its parts
unfoldable pub of_statement : Scope → Statement → List EarlyError
of_statement s (var at ds semi) = of_declarations ds
of_statement s (for at first test step body) = of_first first
of_statement s (for_in at target e body) = of_target target
of_statement s (continue at label semi) = fault_if (not (may_continue (label_text label) s)) at kind.Jump
of_statement s (break at label semi) = fault_if (not (may_break (label_text label) s)) at kind.Jump
of_statement s (return at e semi) = fault_if (not s.in_function) at kind.Jump
of_statement s (labelled at text body) = fault_if (names_statement text s) at kind.RepeatedLabel ++ of_name at text
of_statement s (try_catch at b ident handler) = of_bound ident
of_statement s (try_both at b ident handler final) = of_bound ident
of_statement s (expression at e semi) = fault_if (not (directive_may_jump (directive_of (expression at e semi)) s)) at kind.Jump
of_statement s _ = []

-- ---- all of it

abbrev pub early : Own EarlyError
early = record { expr = of_expr; function = of_function; statement = of_statement }
