-- The machine's words for parts of a script, as the meaning has them.
use Rattle.std.specs.Prelude.{ℕ, zero, suc, List, [], ◌∷◌, Option, Some, None, Bool, true, false}
use Rattle.std.specs.Borrow.{Bor}
use Rattle.js_ast.specs.declared.trees.Expr as code
use Rattle.js_ast.specs.declared.operators.BinaryOperator.{BinaryOperator}
use Rattle.js_ast.specs.declared.operators.BinaryOperator.TheVariants as binary_operator
use Rattle.js_ast.specs.declared.operators.PostfixOperator.{PostfixOperator}
use Rattle.js_ast.specs.declared.operators.PostfixOperator.TheVariants as postfix_operator
use Rattle.js_ast.specs.Trees.{MaybeExpr, absent, present, Statement, Statements, no_statements, more_statements, do_while, while, for, labelled, try_catch, try_finally, try_both}
use Rattle.js_ast.specs.Views.{view_expr, view_exprs, view_stmt}
use Rattle.es_meaning.specs.Operations as meaning
use Rattle.es_meaning.specs.Operations.{assigned, updated_by, prefixed, postfixed, asked, valued, deleted, given_text, called}
use Rattle.es_meaning.specs.Evaluation as evaluation
use Rattle.continuations.specs.declared.continuation.Use.{Use}
use Rattle.continuations.specs.declared.continuation.Use.TheVariants.{Assigned, Updated, Prefixed, Postfixed, Asked, Valued, Deleted, GivenText, Called}
use Rattle.continuations.specs.declared.continuation.Target.{Target}
use Rattle.continuations.specs.declared.continuation.Target.TheVariants.{Name, Property}
use Rattle.origin_labels.specs.Label.{Label, bottom}
use Rattle.es_meaning.specs.Operators.{leaves_numbers, leaves_strings}
use Rattle.es_meaning.specs.Plain.{argument_or, key_text, undefined, leaves_channels, leaves_origins, leaves_wrappers}
use Rattle.flow_meaning.specs.Erased.{unlabelled}
use Rattle.es_meaning.specs.Outcomes.{throws, returns, leaves}
use Rattle.flow_meaning.specs.Scopes.{Val, Came, ended, caught}
use Rattle.flow_meaning.specs.Scopes as scopes
use Rattle.flow_meaning.specs.Tracked.{Reference, of_name}
use Rattle.run_state.specs.declared.outcome.Place.{Place}
use Rattle.run_state.specs.declared.outcome.Place.TheVariants as place
use Rattle.run_state.specs.Names.{place_of, property_of}
use Rattle.continuations.specs.declared.continuation.Round.{Round}
use Rattle.continuations.specs.declared.continuation.Calling.{Calling}
use Rattle.continuations.specs.declared.continuation.Calling.TheVariants.{Calls, Constructs}
use Rattle.continuations.specs.declared.continuation.Jump.{Jump}
use Rattle.continuations.specs.declared.continuation.Jump.TheVariants.{Throws, Returns, Leaves}
use Rattle.continuations.specs.declared.continuation.Reason.{Reason}
use Rattle.continuations.specs.declared.continuation.Reason.TheVariants as reason

-- one of several values
abbrev pub nth : ℕ → List Val → Val
nth n vs = argument_or (unlabelled undefined) n vs

-- what is done with a reference, with the operand that the use has
abbrev pub use_of : Use → List Val → meaning.Use
use_of (Assigned e) vs = assigned (view_expr e.now)
use_of (Updated o e) vs = updated_by o (view_expr e.now)
use_of (Prefixed o) vs = prefixed o
use_of (Postfixed o) vs = postfixed o
use_of Asked vs = asked
use_of Valued vs = valued
use_of Deleted vs = deleted
use_of GivenText vs = given_text (key_text (nth 0 vs).value)
use_of (Called es) vs = called (view_exprs es.now)

-- a reference, with the operands that it keeps: the walk to a name that stands is of no more use
abbrev pub walk_to : Place → List Val → Label
walk_to place.Nowhere vs = (nth 0 vs).label
walk_to _ vs = bottom

abbrev pub target_of : Target → List Val → Reference
target_of (Name x p) vs = of_name x.now (place_of p) (walk_to p vs)
target_of Property vs = property_of (nth 0 vs) (nth 1 vs)

abbrev pub maybe_of : Option (Bor code.Expr) → MaybeExpr
maybe_of None = absent
maybe_of (Some e) = present (view_expr e.now)

-- what a turn of a loop evaluates. A statement that is no loop is its own body
abbrev pub body_of : Statement → Statement
body_of (do_while at s c semi) = s
body_of (while at c s) = s
body_of (for at first test update s) = s
body_of s = s

abbrev pub update_of : Statement → MaybeExpr
update_of (for at first test update s) = update
update_of _ = absent

abbrev pub test_of : Statement → MaybeExpr
test_of (do_while at s c semi) = present c
test_of (while at c s) = present c
test_of (for at first test update s) = test
test_of _ = absent

-- ---- labels in front of a statement

-- what stands behind so many of them, and they, the innermost first, in front of others
abbrev pub behind_labels : ℕ → Statement → Statement
behind_labels zero s = s
behind_labels (suc n) (labelled at text s) = behind_labels n s
behind_labels (suc n) s = s

abbrev pub passed_labels : ℕ → List (List ℕ) → Statement → List (List ℕ)
passed_labels zero labels s = labels
passed_labels (suc n) labels (labelled at text s) = passed_labels n (text ∷ labels) s
passed_labels (suc n) labels s = labels

-- the statement behind one label
abbrev pub body_behind : Statement → Option Statement
body_behind (labelled at text s) = Some s
body_behind s = None

-- the same of all of them
unfoldable pub inner_of : Statement → Statement
inner_of (labelled at text s) = inner_of s
inner_of s = s

unfoldable pub all_labels : List (List ℕ) → Statement → List (List ℕ)
all_labels labels (labelled at text s) = all_labels (text ∷ labels) s
all_labels labels s = labels

-- the labels by which the loop or the `switch` is left that stands behind them
abbrev pub labels_at : Statement → List (Option (List ℕ))
labels_at s = evaluation.labels_of (all_labels [] s)

-- ---- turns

abbrev pub turn_of : List (List ℕ) → Statement → meaning.Round
turn_of labels s = evaluation.round_of labels (body_of s) (update_of s) (test_of s)

-- the turn of the loop that a round is of
abbrev pub round_of : Round → meaning.Round
round_of r = turn_of (all_labels [] (view_stmt r.of.now)) (inner_of (view_stmt r.of.now))

-- what is done with arguments, below which some values lie
abbrev pub calling_of : Calling → List Val → meaning.Calling Val
calling_of Calls vs = meaning.calls (nth 1 vs) (nth 0 vs)
calling_of Constructs vs = meaning.constructs (nth 0 vs)

-- the name by which a run leaves, which may be a text among the values
abbrev pub name_of : Reason → List Val → List ℕ
name_of reason.Number vs = leaves_numbers
name_of reason.String vs = leaves_strings
name_of reason.Channel vs = leaves_channels
name_of reason.Origin vs = leaves_origins
name_of reason.Wrapper vs = leaves_wrappers
name_of reason.Named vs = key_text (nth 0 vs).value

-- a jump with its value, and one that waits, or none
abbrev pub jump_of : Jump → Val → scopes.Jump
jump_of Throws v = record { exit = throws; to = 0; value = v }
jump_of (Returns to) v = record { exit = returns; to = to; value = v }
jump_of (Leaves n to) v = record { exit = leaves n; to = to; value = v }

abbrev pub waiting_of : Option Jump → List Val → Came (Unit {0})
waiting_of None vs = ended tt
waiting_of (Some j) vs = caught (jump_of j (nth 0 vs))

-- statements behind the first ones
abbrev pub statements_from : ℕ → Statements → Statements
statements_from zero ss = ss
statements_from (suc n) no_statements = no_statements
statements_from (suc n) (more_statements s ss) = statements_from n ss

-- a `try` statement has a handler, or something that it does last
abbrev pub handles : Statement → Bool
handles (try_catch at b ident handler) = true
handles (try_both at b ident handler last) = true
handles _ = false

abbrev pub finishes : Statement → Bool
finishes (try_finally at b last) = true
finishes (try_both at b ident handler last) = true
finishes _ = false

-- the operators that evaluate both operands
abbrev pub evaluates_both : BinaryOperator → Bool
evaluates_both binary_operator.And = false
evaluates_both binary_operator.Or = false
evaluates_both binary_operator.Instanceof = false
evaluates_both _ = true

-- the operator by which a number is changed by one
abbrev pub step_of : PostfixOperator → BinaryOperator
step_of postfix_operator.Increment = binary_operator.Add
step_of postfix_operator.Decrement = binary_operator.Subtract
