-- What marking the parts of a node makes of the node.
use Rattle.std.proofs.Common.{refl, sym, ap, ◌∙◌, ◌≡◌, ℕ, Bool, List, [], ◌∷◌, ◌++◌, Ok, Err, IfOk, Result}
use Rattle.std.specs.Box.{with_value}
use Rattle.js_ast.specs.Functions.{FunctionCode, numbered, after}
use Rattle.js_ast.specs.declared.trees.Expr.{Expr, roll-Expr}
use Rattle.js_ast.specs.declared.trees.ExprKind.{ExprKind}
use Rattle.js_ast.specs.declared.trees.ExprKind.TheViews.{out-ExprKind, out-StmtKind}
use Rattle.js_ast.specs.declared.trees.Stmt.{Stmt, roll-Stmt}
use Rattle.js_ast.specs.declared.trees.StmtKind.{StmtKind}
use Rattle.js_ast.specs.Trees as trees
use Rattle.js_ast.specs.Views.{view_expr_kind, view_stmt_kind}
use Rattle.js_ast.specs.Held.{held_in_expr_kind, held_in_stmt_kind}
use Rattle.js_ast.specs.Functions.{functions_of_expr, functions_of_statement}
use Rattle.js_functions.specs.Marks.{MarkedExpr, MarkedStatement}
use Rattle.js_functions.proofs.Numbered.{after_none, after_append, numbered_append}

-- what holds of what is answered, if anything is
pub answered : {A E : Type 0} {P Q : A → Type 0} (r : Result A E) → ((x : A) → P x → Q x) → IfOk r P → IfOk r Q
answered (Ok x) f p = f x p
answered (Err e) f p = tt

-- marks and a count of two parts
pub both_marks : (n m : ℕ) (xs ys : List FunctionCode) (ms ks : List (ℕ × FunctionCode)) → ms ≡ numbered n xs → m ≡ after n xs → ks ≡ numbered m ys → ms ++ ks ≡ numbered n (xs ++ ys)
both_marks n m xs ys ms ks one count two = ap (λ cs. cs ++ ks) one ∙ ap (λ cs. numbered n xs ++ cs) (two ∙ ap (λ k. numbered k ys) count) ∙ sym (numbered_append n xs ys)

pub both_count : (n m b : ℕ) (xs ys : List FunctionCode) → m ≡ after n xs → b ≡ after m ys → b ≡ after n (xs ++ ys)
both_count n m b xs ys one two = two ∙ ap (λ k. after k ys) one ∙ sym (after_append n xs ys)

-- a node, by what it is before and behind
pub expr_seen : {s : Bool} {n b : ℕ} (old : Expr) (k l kind : ExprKind) (v w : trees.Expr) (ms : List (ℕ × FunctionCode)) → old.kind.value ≡ k → kind ≡ l
    → view_expr_kind old.at k ≡ v → view_expr_kind old.at l ≡ w → held_in_expr_kind l ≡ ms → w ≡ v → ms ≡ numbered n (functions_of_expr s v) → b ≡ after n (functions_of_expr s v)
    → MarkedExpr s n old (roll-Expr (record { at = old.at; kind = with_value old.kind kind })) b
unfolding out-ExprKind denote.Hole.Carrier.out
expr_seen {s} {n} {b} old k l kind v w ms is new sees seen held kept marks count =
    let before : view_expr_kind old.at old.kind.value ≡ v = ap (view_expr_kind old.at) is ∙ sees in
    record {
      kept = ap (view_expr_kind old.at) new ∙ seen ∙ kept ∙ sym before;
      marks = ap held_in_expr_kind new ∙ held ∙ marks ∙ sym (ap (λ v. numbered n (functions_of_expr s v)) before);
      count = count ∙ sym (ap (λ v. after n (functions_of_expr s v)) before);
    }

pub statement_seen : {s : Bool} {n b : ℕ} (old : Stmt) (k l kind : StmtKind) (v w : trees.Statement) (ms : List (ℕ × FunctionCode)) → old.kind.value ≡ k → kind ≡ l
    → view_stmt_kind old.at k ≡ v → view_stmt_kind old.at l ≡ w → held_in_stmt_kind l ≡ ms → w ≡ v → ms ≡ numbered n (functions_of_statement s v) → b ≡ after n (functions_of_statement s v)
    → MarkedStatement s n old (roll-Stmt (record { at = old.at; kind = with_value old.kind kind })) b
unfolding out-StmtKind denote.Hole.Carrier.out
statement_seen {s} {n} {b} old k l kind v w ms is new sees seen held kept marks count =
    let before : view_stmt_kind old.at old.kind.value ≡ v = ap (view_stmt_kind old.at) is ∙ sees in
    record {
      kept = ap (view_stmt_kind old.at) new ∙ seen ∙ kept ∙ sym before;
      marks = ap held_in_stmt_kind new ∙ held ∙ marks ∙ sym (ap (λ v. numbered n (functions_of_statement s v)) before);
      count = count ∙ sym (ap (λ v. after n (functions_of_statement s v)) before);
    }

-- a node that holds no function stays as it is
pub expr_without : {s : Bool} {n : ℕ} (old : Expr) (kind : ExprKind) → old.kind.value ≡ kind → held_in_expr_kind kind ≡ [] → functions_of_expr s (view_expr_kind old.at kind) ≡ []
    → MarkedExpr s n old (roll-Expr (record { at = old.at; kind = with_value old.kind kind })) n
expr_without {s} {n} old kind is held none =
    expr_seen old kind kind kind (view_expr_kind old.at kind) (view_expr_kind old.at kind) [] is refl refl refl held refl (sym (ap (numbered n) none)) (sym (ap (after n) none ∙ after_none n))

pub statement_without : {s : Bool} {n : ℕ} (old : Stmt) (kind : StmtKind) → old.kind.value ≡ kind → held_in_stmt_kind kind ≡ [] → functions_of_statement s (view_stmt_kind old.at kind) ≡ []
    → MarkedStatement s n old (roll-Stmt (record { at = old.at; kind = with_value old.kind kind })) n
statement_without {s} {n} old kind is held none =
    statement_seen old kind kind kind (view_stmt_kind old.at kind) (view_stmt_kind old.at kind) [] is refl refl refl held refl (sym (ap (numbered n) none)) (sym (ap (after n) none ∙ after_none n))
