-- An expression of each kind is marked where its parts are, in their order.
use Rattle.std.proofs.Common.{refl, ap, ◌∙◌, ◌≡◌, ◌++◌, ℕ, Bool, List, Option, Some, None}
use Rattle.std.specs.Box.{with_value}
use Rattle.js_ast.specs.declared.trees.Expr.{Expr, roll-Expr}
use Rattle.js_ast.specs.declared.trees.ExprKind.{ExprKind}
use Rattle.js_ast.specs.declared.trees.ExprKind as expr
use Rattle.js_ast.specs.Nodes.{nodes_of}
use Rattle.js_ast.specs.Trees.{paren, array, object, function, member, index, new_with, new_bare, call, postfix, unary, binary, conditional, assign, comma}
use Rattle.js_ast.specs.Views.{view_expr, view_exprs, view_items, view_properties, view_function}
use Rattle.js_ast.proofs.ViewLaws.{held_exprs, held_items, held_properties}
use Rattle.js_ast.specs.Functions.{functions_of_expr, functions_of_exprs}
use Rattle.js_ast.specs.Held.{held_in_expr, held_in_exprs, held_in_items, held_in_properties, held_in_function}
use Rattle.js_ast.proofs.HeldLaws.{lent_exprs, lent_items, lent_properties}
use Rattle.js_functions.specs.Marks.{MarkedExpr, MarkedExprs, MarkedItems, MarkedProperties, MarkedFunction}
use Rattle.js_functions.proofs.Arms.{both_marks, both_count, expr_seen}

pub paren_marked : {s : Bool} {n b : ℕ} (old : Expr) (inner : _) (inner' : _) (kind : ExprKind) → old.kind.value ≡ expr.Paren inner → kind ≡ expr.Paren inner' → MarkedExpr s n inner inner' b → MarkedExpr s n old (roll-Expr (record { at = old.at; kind = with_value old.kind kind })) b
paren_marked {s} {n} {b} old inner inner' kind is new x1 = expr_seen old (expr.Paren inner) (expr.Paren inner') kind (paren old.at (view_expr inner)) (paren old.at (view_expr inner')) (held_in_expr inner') is new (refl) (refl) (refl) (ap (λ v. paren old.at v) x1.kept) (x1.marks) (x1.count)

pub array_marked : {s : Bool} {n b : ℕ} (old : Expr) (items : _) (final : _) (items' : _) (kind : ExprKind) → old.kind.value ≡ expr.Array items final → kind ≡ expr.Array items' final → MarkedItems s n (nodes_of items) (nodes_of items') b → MarkedExpr s n old (roll-Expr (record { at = old.at; kind = with_value old.kind kind })) b
array_marked {s} {n} {b} old items final items' kind is new x1 = expr_seen old (expr.Array items final) (expr.Array items' final) kind (array old.at (view_items (nodes_of items)) final) (array old.at (view_items (nodes_of items')) final) (held_in_items (nodes_of items')) is new (rw (held_items items) refl) (rw (held_items items') refl) (rw (lent_items items') refl) (ap (λ v. array old.at v final) x1.kept) (x1.marks) (x1.count)

pub object_marked : {s : Bool} {n b : ℕ} (old : Expr) (properties : _) (final : _) (properties' : _) (kind : ExprKind) → old.kind.value ≡ expr.Object properties final → kind ≡ expr.Object properties' final → MarkedProperties s n (nodes_of properties) (nodes_of properties') b → MarkedExpr s n old (roll-Expr (record { at = old.at; kind = with_value old.kind kind })) b
object_marked {s} {n} {b} old properties final properties' kind is new x1 = expr_seen old (expr.Object properties final) (expr.Object properties' final) kind (object old.at (view_properties (nodes_of properties)) final) (object old.at (view_properties (nodes_of properties')) final) (held_in_properties (nodes_of properties')) is new (rw (held_properties properties) refl) (rw (held_properties properties') refl) (rw (lent_properties properties') refl) (ap (λ v. object old.at v final) x1.kept) (x1.marks) (x1.count)

pub function_marked : {s : Bool} {n b : ℕ} (old : Expr) (f : _) (f' : _) (kind : ExprKind) → old.kind.value ≡ expr.Function f → kind ≡ expr.Function f' → MarkedFunction s n f f' b → MarkedExpr s n old (roll-Expr (record { at = old.at; kind = with_value old.kind kind })) b
function_marked {s} {n} {b} old f f' kind is new x1 = expr_seen old (expr.Function f) (expr.Function f') kind (function old.at (view_function f)) (function old.at (view_function f')) (held_in_function f') is new (refl) (refl) (refl) (ap (λ v. function old.at v) x1.kept) (x1.marks) (x1.count)

pub member_marked : {s : Bool} {n b : ℕ} (old : Expr) (base : _) (name : _) (base' : _) (kind : ExprKind) → old.kind.value ≡ expr.Member base name → kind ≡ expr.Member base' name → MarkedExpr s n base base' b → MarkedExpr s n old (roll-Expr (record { at = old.at; kind = with_value old.kind kind })) b
member_marked {s} {n} {b} old base name base' kind is new x1 = expr_seen old (expr.Member base name) (expr.Member base' name) kind (member old.at (view_expr base) name) (member old.at (view_expr base') name) (held_in_expr base') is new (refl) (refl) (refl) (ap (λ v. member old.at v name) x1.kept) (x1.marks) (x1.count)

pub index_marked : {s : Bool} {n m1 b : ℕ} (old : Expr) (base : _) (key : _) (base' : _) (key' : _) (kind : ExprKind) → old.kind.value ≡ expr.Index base key → kind ≡ expr.Index base' key' → MarkedExpr s n base base' m1 → MarkedExpr s m1 key key' b → MarkedExpr s n old (roll-Expr (record { at = old.at; kind = with_value old.kind kind })) b
index_marked {s} {n} {m1} {b} old base key base' key' kind is new x1 x2 = expr_seen old (expr.Index base key) (expr.Index base' key') kind (index old.at (view_expr base) (view_expr key)) (index old.at (view_expr base') (view_expr key')) ((held_in_expr base') ++ (held_in_expr key')) is new (refl) (refl) (refl) (ap (λ v. index old.at v (view_expr key')) x1.kept ∙ ap (λ v. index old.at (view_expr base) v) x2.kept) (both_marks n m1 (functions_of_expr s (view_expr base)) (functions_of_expr s (view_expr key)) (held_in_expr base') (held_in_expr key') x1.marks x1.count (x2.marks)) (both_count n m1 b (functions_of_expr s (view_expr base)) (functions_of_expr s (view_expr key)) x1.count (x2.count))

pub new_bare_marked : {s : Bool} {n b : ℕ} (old : Expr) (callee : _) (callee' : _) (kind : ExprKind) → old.kind.value ≡ expr.New callee None → kind ≡ expr.New callee' None → MarkedExpr s n callee callee' b → MarkedExpr s n old (roll-Expr (record { at = old.at; kind = with_value old.kind kind })) b
new_bare_marked {s} {n} {b} old callee callee' kind is new x1 = expr_seen old (expr.New callee None) (expr.New callee' None) kind (new_bare old.at (view_expr callee)) (new_bare old.at (view_expr callee')) (held_in_expr callee') is new (refl) (refl) (refl) (ap (λ v. new_bare old.at v) x1.kept) (x1.marks) (x1.count)

pub new_with_marked : {s : Bool} {n m1 b : ℕ} (old : Expr) (callee : _) (args : _) (callee' : _) (args' : _) (kind : ExprKind) → old.kind.value ≡ expr.New callee (Some args) → kind ≡ expr.New callee' (Some args') → MarkedExpr s n callee callee' m1 → MarkedExprs s m1 (nodes_of args) (nodes_of args') b → MarkedExpr s n old (roll-Expr (record { at = old.at; kind = with_value old.kind kind })) b
new_with_marked {s} {n} {m1} {b} old callee args callee' args' kind is new x1 x2 = expr_seen old (expr.New callee (Some args)) (expr.New callee' (Some args')) kind (new_with old.at (view_expr callee) (view_exprs (nodes_of args))) (new_with old.at (view_expr callee') (view_exprs (nodes_of args'))) ((held_in_expr callee') ++ (held_in_exprs (nodes_of args'))) is new (rw (held_exprs args) refl) (rw (held_exprs args') refl) (rw (lent_exprs args') refl) (ap (λ v. new_with old.at v (view_exprs (nodes_of args'))) x1.kept ∙ ap (λ v. new_with old.at (view_expr callee) v) x2.kept) (both_marks n m1 (functions_of_expr s (view_expr callee)) (functions_of_exprs s (view_exprs (nodes_of args))) (held_in_expr callee') (held_in_exprs (nodes_of args')) x1.marks x1.count (x2.marks)) (both_count n m1 b (functions_of_expr s (view_expr callee)) (functions_of_exprs s (view_exprs (nodes_of args))) x1.count (x2.count))

pub call_marked : {s : Bool} {n m1 b : ℕ} (old : Expr) (callee : _) (args : _) (callee' : _) (args' : _) (kind : ExprKind) → old.kind.value ≡ expr.Call callee args → kind ≡ expr.Call callee' args' → MarkedExpr s n callee callee' m1 → MarkedExprs s m1 (nodes_of args) (nodes_of args') b → MarkedExpr s n old (roll-Expr (record { at = old.at; kind = with_value old.kind kind })) b
call_marked {s} {n} {m1} {b} old callee args callee' args' kind is new x1 x2 = expr_seen old (expr.Call callee args) (expr.Call callee' args') kind (call old.at (view_expr callee) (view_exprs (nodes_of args))) (call old.at (view_expr callee') (view_exprs (nodes_of args'))) ((held_in_expr callee') ++ (held_in_exprs (nodes_of args'))) is new (rw (held_exprs args) refl) (rw (held_exprs args') refl) (rw (lent_exprs args') refl) (ap (λ v. call old.at v (view_exprs (nodes_of args'))) x1.kept ∙ ap (λ v. call old.at (view_expr callee) v) x2.kept) (both_marks n m1 (functions_of_expr s (view_expr callee)) (functions_of_exprs s (view_exprs (nodes_of args))) (held_in_expr callee') (held_in_exprs (nodes_of args')) x1.marks x1.count (x2.marks)) (both_count n m1 b (functions_of_expr s (view_expr callee)) (functions_of_exprs s (view_exprs (nodes_of args))) x1.count (x2.count))

pub postfix_marked : {s : Bool} {n b : ℕ} (old : Expr) (operand : _) (operator : _) (operand' : _) (kind : ExprKind) → old.kind.value ≡ expr.Postfix operand operator → kind ≡ expr.Postfix operand' operator → MarkedExpr s n operand operand' b → MarkedExpr s n old (roll-Expr (record { at = old.at; kind = with_value old.kind kind })) b
postfix_marked {s} {n} {b} old operand operator operand' kind is new x1 = expr_seen old (expr.Postfix operand operator) (expr.Postfix operand' operator) kind (postfix old.at (view_expr operand) operator) (postfix old.at (view_expr operand') operator) (held_in_expr operand') is new (refl) (refl) (refl) (ap (λ v. postfix old.at v operator) x1.kept) (x1.marks) (x1.count)

pub unary_marked : {s : Bool} {n b : ℕ} (old : Expr) (operator : _) (operand : _) (operand' : _) (kind : ExprKind) → old.kind.value ≡ expr.Unary operator operand → kind ≡ expr.Unary operator operand' → MarkedExpr s n operand operand' b → MarkedExpr s n old (roll-Expr (record { at = old.at; kind = with_value old.kind kind })) b
unary_marked {s} {n} {b} old operator operand operand' kind is new x1 = expr_seen old (expr.Unary operator operand) (expr.Unary operator operand') kind (unary old.at operator (view_expr operand)) (unary old.at operator (view_expr operand')) (held_in_expr operand') is new (refl) (refl) (refl) (ap (λ v. unary old.at operator v) x1.kept) (x1.marks) (x1.count)

pub binary_marked : {s : Bool} {n m1 b : ℕ} (old : Expr) (left : _) (operator : _) (right : _) (left' : _) (right' : _) (kind : ExprKind) → old.kind.value ≡ expr.Binary left operator right → kind ≡ expr.Binary left' operator right' → MarkedExpr s n left left' m1 → MarkedExpr s m1 right right' b → MarkedExpr s n old (roll-Expr (record { at = old.at; kind = with_value old.kind kind })) b
binary_marked {s} {n} {m1} {b} old left operator right left' right' kind is new x1 x2 = expr_seen old (expr.Binary left operator right) (expr.Binary left' operator right') kind (binary old.at (view_expr left) operator (view_expr right)) (binary old.at (view_expr left') operator (view_expr right')) ((held_in_expr left') ++ (held_in_expr right')) is new (refl) (refl) (refl) (ap (λ v. binary old.at v operator (view_expr right')) x1.kept ∙ ap (λ v. binary old.at (view_expr left) operator v) x2.kept) (both_marks n m1 (functions_of_expr s (view_expr left)) (functions_of_expr s (view_expr right)) (held_in_expr left') (held_in_expr right') x1.marks x1.count (x2.marks)) (both_count n m1 b (functions_of_expr s (view_expr left)) (functions_of_expr s (view_expr right)) x1.count (x2.count))

pub conditional_marked : {s : Bool} {n m1 m2 b : ℕ} (old : Expr) (test : _) (one : _) (other : _) (test' : _) (one' : _) (other' : _) (kind : ExprKind) → old.kind.value ≡ expr.Conditional test one other → kind ≡ expr.Conditional test' one' other' → MarkedExpr s n test test' m1 → MarkedExpr s m1 one one' m2 → MarkedExpr s m2 other other' b → MarkedExpr s n old (roll-Expr (record { at = old.at; kind = with_value old.kind kind })) b
conditional_marked {s} {n} {m1} {m2} {b} old test one other test' one' other' kind is new x1 x2 x3 = expr_seen old (expr.Conditional test one other) (expr.Conditional test' one' other') kind (conditional old.at (view_expr test) (view_expr one) (view_expr other)) (conditional old.at (view_expr test') (view_expr one') (view_expr other')) ((held_in_expr test') ++ ((held_in_expr one') ++ (held_in_expr other'))) is new (refl) (refl) (refl) (ap (λ v. conditional old.at v (view_expr one') (view_expr other')) x1.kept ∙ ap (λ v. conditional old.at (view_expr test) v (view_expr other')) x2.kept ∙ ap (λ v. conditional old.at (view_expr test) (view_expr one) v) x3.kept) (both_marks n m1 (functions_of_expr s (view_expr test)) ((functions_of_expr s (view_expr one)) ++ (functions_of_expr s (view_expr other))) (held_in_expr test') ((held_in_expr one') ++ (held_in_expr other')) x1.marks x1.count (both_marks m1 m2 (functions_of_expr s (view_expr one)) (functions_of_expr s (view_expr other)) (held_in_expr one') (held_in_expr other') x2.marks x2.count (x3.marks))) (both_count n m1 b (functions_of_expr s (view_expr test)) ((functions_of_expr s (view_expr one)) ++ (functions_of_expr s (view_expr other))) x1.count (both_count m1 m2 b (functions_of_expr s (view_expr one)) (functions_of_expr s (view_expr other)) x2.count (x3.count)))

pub assign_marked : {s : Bool} {n m1 b : ℕ} (old : Expr) (target : _) (operator : _) (value : _) (target' : _) (value' : _) (kind : ExprKind) → old.kind.value ≡ expr.Assign target operator value → kind ≡ expr.Assign target' operator value' → MarkedExpr s n target target' m1 → MarkedExpr s m1 value value' b → MarkedExpr s n old (roll-Expr (record { at = old.at; kind = with_value old.kind kind })) b
assign_marked {s} {n} {m1} {b} old target operator value target' value' kind is new x1 x2 = expr_seen old (expr.Assign target operator value) (expr.Assign target' operator value') kind (assign old.at (view_expr target) operator (view_expr value)) (assign old.at (view_expr target') operator (view_expr value')) ((held_in_expr target') ++ (held_in_expr value')) is new (refl) (refl) (refl) (ap (λ v. assign old.at v operator (view_expr value')) x1.kept ∙ ap (λ v. assign old.at (view_expr target) operator v) x2.kept) (both_marks n m1 (functions_of_expr s (view_expr target)) (functions_of_expr s (view_expr value)) (held_in_expr target') (held_in_expr value') x1.marks x1.count (x2.marks)) (both_count n m1 b (functions_of_expr s (view_expr target)) (functions_of_expr s (view_expr value)) x1.count (x2.count))

pub comma_marked : {s : Bool} {n m1 b : ℕ} (old : Expr) (left : _) (right : _) (left' : _) (right' : _) (kind : ExprKind) → old.kind.value ≡ expr.Comma left right → kind ≡ expr.Comma left' right' → MarkedExpr s n left left' m1 → MarkedExpr s m1 right right' b → MarkedExpr s n old (roll-Expr (record { at = old.at; kind = with_value old.kind kind })) b
comma_marked {s} {n} {m1} {b} old left right left' right' kind is new x1 x2 = expr_seen old (expr.Comma left right) (expr.Comma left' right') kind (comma old.at (view_expr left) (view_expr right)) (comma old.at (view_expr left') (view_expr right')) ((held_in_expr left') ++ (held_in_expr right')) is new (refl) (refl) (refl) (ap (λ v. comma old.at v (view_expr right')) x1.kept ∙ ap (λ v. comma old.at (view_expr left) v) x2.kept) (both_marks n m1 (functions_of_expr s (view_expr left)) (functions_of_expr s (view_expr right)) (held_in_expr left') (held_in_expr right') x1.marks x1.count (x2.marks)) (both_count n m1 b (functions_of_expr s (view_expr left)) (functions_of_expr s (view_expr right)) x1.count (x2.count))
