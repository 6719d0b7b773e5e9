-- And so is a statement of each kind.
use Rattle.std.proofs.Common.{refl, ap, ◌∙◌, ◌≡◌, ◌++◌, ℕ, Bool, List, Option, Some, None}
use Rattle.std.specs.Box.{with_value}
use Rattle.js_ast.specs.declared.trees.Stmt.{Stmt, roll-Stmt}
use Rattle.js_ast.specs.declared.trees.StmtKind.{StmtKind}
use Rattle.js_ast.specs.declared.trees.StmtKind as stmt
use Rattle.js_ast.specs.Nodes.{nodes_of}
use Rattle.js_ast.specs.Trees.{block_of, block, var, expression, if_then, if_else, do_while, while, for, for_in, return, throw, switch, labelled, try_catch, try_finally, try_both, function_declaration}
use Rattle.js_ast.specs.Views.{view_expr, view_maybe_expr, view_function, view_declarations, view_first, view_target, view_clauses, view_block, view_stmt, view_stmts, view_semi, view_ident}
use Rattle.js_ast.proofs.ViewLaws.{held_expr, held_clauses, held_stmts}
use Rattle.js_ast.specs.Functions.{functions_of_expr, functions_of_maybe, functions_of_first, functions_of_target, functions_of_clauses, functions_of_block, functions_of_statement}
use Rattle.js_ast.specs.Held.{held_in_expr, held_in_maybe_expr, held_in_function, held_in_declarations, held_in_first, held_in_target, held_in_clauses, held_in_block, held_in_stmt, held_in_stmts}
use Rattle.js_ast.proofs.HeldLaws.{lent_expr, lent_clauses, lent_stmts}
use Rattle.js_functions.specs.Marks.{MarkedExpr, MarkedMaybe, MarkedFunction, MarkedDeclarations, MarkedFirst, MarkedTarget, MarkedClauses, MarkedBlock, MarkedStatement, MarkedStatements}
use Rattle.js_functions.proofs.Arms.{both_marks, both_count, statement_seen}

pub block_marked : {s : Bool} {n b : ℕ} (old : Stmt) (body : _) (body' : _) (kind : StmtKind) → old.kind.value ≡ stmt.Block body → kind ≡ stmt.Block body' → MarkedStatements s n (nodes_of body) (nodes_of body') b → MarkedStatement s n old (roll-Stmt (record { at = old.at; kind = with_value old.kind kind })) b
block_marked {s} {n} {b} old body body' kind is new x1 = statement_seen old (stmt.Block body) (stmt.Block body') kind (block (block_of old.at (view_stmts (nodes_of body)))) (block (block_of old.at (view_stmts (nodes_of body')))) (held_in_stmts (nodes_of body')) is new (rw (held_stmts body) refl) (rw (held_stmts body') refl) (rw (lent_stmts body') refl) (ap (λ v. block (block_of old.at v)) x1.kept) (x1.marks) (x1.count)

pub var_marked : {s : Bool} {n b : ℕ} (old : Stmt) (declared : _) (semi : _) (declared' : _) (kind : StmtKind) → old.kind.value ≡ stmt.Var declared semi → kind ≡ stmt.Var declared' semi → MarkedDeclarations s n declared declared' b → MarkedStatement s n old (roll-Stmt (record { at = old.at; kind = with_value old.kind kind })) b
var_marked {s} {n} {b} old declared semi declared' kind is new x1 = statement_seen old (stmt.Var declared semi) (stmt.Var declared' semi) kind (var old.at (view_declarations declared) (view_semi semi)) (var old.at (view_declarations declared') (view_semi semi)) (held_in_declarations declared') is new (refl) (refl) (refl) (ap (λ v. var old.at v (view_semi semi)) x1.kept) (x1.marks) (x1.count)

pub expression_marked : {s : Bool} {n b : ℕ} (old : Stmt) (e : _) (semi : _) (e' : _) (kind : StmtKind) → old.kind.value ≡ stmt.Expr e semi → kind ≡ stmt.Expr e' semi → MarkedExpr s n e e' b → MarkedStatement s n old (roll-Stmt (record { at = old.at; kind = with_value old.kind kind })) b
expression_marked {s} {n} {b} old e semi e' kind is new x1 = statement_seen old (stmt.Expr e semi) (stmt.Expr e' semi) kind (expression old.at (view_expr e) (view_semi semi)) (expression old.at (view_expr e') (view_semi semi)) (held_in_expr e') is new (refl) (refl) (refl) (ap (λ v. expression old.at v (view_semi semi)) x1.kept) (x1.marks) (x1.count)

pub if_then_marked : {s : Bool} {n m1 b : ℕ} (old : Stmt) (test : _) (one : _) (test' : _) (one' : _) (kind : StmtKind) → old.kind.value ≡ stmt.If test one None → kind ≡ stmt.If test' one' None → MarkedExpr s n test test' m1 → MarkedStatement s m1 one one' b → MarkedStatement s n old (roll-Stmt (record { at = old.at; kind = with_value old.kind kind })) b
if_then_marked {s} {n} {m1} {b} old test one test' one' kind is new x1 x2 = statement_seen old (stmt.If test one None) (stmt.If test' one' None) kind (if_then old.at (view_expr test) (view_stmt one)) (if_then old.at (view_expr test') (view_stmt one')) ((held_in_expr test') ++ (held_in_stmt one')) is new (refl) (refl) (refl) (ap (λ v. if_then old.at v (view_stmt one')) x1.kept ∙ ap (λ v. if_then old.at (view_expr test) v) x2.kept) (both_marks n m1 (functions_of_expr s (view_expr test)) (functions_of_statement s (view_stmt one)) (held_in_expr test') (held_in_stmt one') x1.marks x1.count (x2.marks)) (both_count n m1 b (functions_of_expr s (view_expr test)) (functions_of_statement s (view_stmt one)) x1.count (x2.count))

pub if_else_marked : {s : Bool} {n m1 m2 b : ℕ} (old : Stmt) (test : _) (one : _) (other : _) (test' : _) (one' : _) (other' : _) (kind : StmtKind) → old.kind.value ≡ stmt.If test one (Some other) → kind ≡ stmt.If test' one' (Some other') → MarkedExpr s n test test' m1 → MarkedStatement s m1 one one' m2 → MarkedStatement s m2 other other' b → MarkedStatement s n old (roll-Stmt (record { at = old.at; kind = with_value old.kind kind })) b
if_else_marked {s} {n} {m1} {m2} {b} old test one other test' one' other' kind is new x1 x2 x3 = statement_seen old (stmt.If test one (Some other)) (stmt.If test' one' (Some other')) kind (if_else old.at (view_expr test) (view_stmt one) (view_stmt other)) (if_else old.at (view_expr test') (view_stmt one') (view_stmt other')) ((held_in_expr test') ++ ((held_in_stmt one') ++ (held_in_stmt other'))) is new (refl) (refl) (refl) (ap (λ v. if_else old.at v (view_stmt one') (view_stmt other')) x1.kept ∙ ap (λ v. if_else old.at (view_expr test) v (view_stmt other')) x2.kept ∙ ap (λ v. if_else old.at (view_expr test) (view_stmt one) v) x3.kept) (both_marks n m1 (functions_of_expr s (view_expr test)) ((functions_of_statement s (view_stmt one)) ++ (functions_of_statement s (view_stmt other))) (held_in_expr test') ((held_in_stmt one') ++ (held_in_stmt other')) x1.marks x1.count (both_marks m1 m2 (functions_of_statement s (view_stmt one)) (functions_of_statement s (view_stmt other)) (held_in_stmt one') (held_in_stmt other') x2.marks x2.count (x3.marks))) (both_count n m1 b (functions_of_expr s (view_expr test)) ((functions_of_statement s (view_stmt one)) ++ (functions_of_statement s (view_stmt other))) x1.count (both_count m1 m2 b (functions_of_statement s (view_stmt one)) (functions_of_statement s (view_stmt other)) x2.count (x3.count)))

pub do_while_marked : {s : Bool} {n m1 b : ℕ} (old : Stmt) (body : _) (test : _) (semi : _) (body' : _) (test' : _) (kind : StmtKind) → old.kind.value ≡ stmt.DoWhile body test semi → kind ≡ stmt.DoWhile body' test' semi → MarkedStatement s n body body' m1 → MarkedExpr s m1 test test' b → MarkedStatement s n old (roll-Stmt (record { at = old.at; kind = with_value old.kind kind })) b
do_while_marked {s} {n} {m1} {b} old body test semi body' test' kind is new x1 x2 = statement_seen old (stmt.DoWhile body test semi) (stmt.DoWhile body' test' semi) kind (do_while old.at (view_stmt body) (view_expr test) (view_semi semi)) (do_while old.at (view_stmt body') (view_expr test') (view_semi semi)) ((held_in_stmt body') ++ (held_in_expr test')) is new (refl) (refl) (refl) (ap (λ v. do_while old.at v (view_expr test') (view_semi semi)) x1.kept ∙ ap (λ v. do_while old.at (view_stmt body) v (view_semi semi)) x2.kept) (both_marks n m1 (functions_of_statement s (view_stmt body)) (functions_of_expr s (view_expr test)) (held_in_stmt body') (held_in_expr test') x1.marks x1.count (x2.marks)) (both_count n m1 b (functions_of_statement s (view_stmt body)) (functions_of_expr s (view_expr test)) x1.count (x2.count))

pub while_marked : {s : Bool} {n m1 b : ℕ} (old : Stmt) (test : _) (body : _) (test' : _) (body' : _) (kind : StmtKind) → old.kind.value ≡ stmt.While test body → kind ≡ stmt.While test' body' → MarkedExpr s n test test' m1 → MarkedStatement s m1 body body' b → MarkedStatement s n old (roll-Stmt (record { at = old.at; kind = with_value old.kind kind })) b
while_marked {s} {n} {m1} {b} old test body test' body' kind is new x1 x2 = statement_seen old (stmt.While test body) (stmt.While test' body') kind (while old.at (view_expr test) (view_stmt body)) (while old.at (view_expr test') (view_stmt body')) ((held_in_expr test') ++ (held_in_stmt body')) is new (refl) (refl) (refl) (ap (λ v. while old.at v (view_stmt body')) x1.kept ∙ ap (λ v. while old.at (view_expr test) v) x2.kept) (both_marks n m1 (functions_of_expr s (view_expr test)) (functions_of_statement s (view_stmt body)) (held_in_expr test') (held_in_stmt body') x1.marks x1.count (x2.marks)) (both_count n m1 b (functions_of_expr s (view_expr test)) (functions_of_statement s (view_stmt body)) x1.count (x2.count))

pub for_marked : {s : Bool} {n m1 m2 m3 b : ℕ} (old : Stmt) (first : _) (test : _) (update : _) (body : _) (first' : _) (test' : _) (update' : _) (body' : _) (kind : StmtKind) → old.kind.value ≡ stmt.For first test update body → kind ≡ stmt.For first' test' update' body' → MarkedFirst s n first first' m1 → MarkedMaybe s m1 test test' m2 → MarkedMaybe s m2 update update' m3 → MarkedStatement s m3 body body' b → MarkedStatement s n old (roll-Stmt (record { at = old.at; kind = with_value old.kind kind })) b
for_marked {s} {n} {m1} {m2} {m3} {b} old first test update body first' test' update' body' kind is new x1 x2 x3 x4 = statement_seen old (stmt.For first test update body) (stmt.For first' test' update' body') kind (for old.at (view_first first) (view_maybe_expr test) (view_maybe_expr update) (view_stmt body)) (for old.at (view_first first') (view_maybe_expr test') (view_maybe_expr update') (view_stmt body')) ((held_in_first first') ++ ((held_in_maybe_expr test') ++ ((held_in_maybe_expr update') ++ (held_in_stmt body')))) is new (rw (held_expr test, held_expr update) refl) (rw (held_expr test', held_expr update') refl) (rw (lent_expr test', lent_expr update') refl) (ap (λ v. for old.at v (view_maybe_expr test') (view_maybe_expr update') (view_stmt body')) x1.kept ∙ ap (λ v. for old.at (view_first first) v (view_maybe_expr update') (view_stmt body')) x2.kept ∙ ap (λ v. for old.at (view_first first) (view_maybe_expr test) v (view_stmt body')) x3.kept ∙ ap (λ v. for old.at (view_first first) (view_maybe_expr test) (view_maybe_expr update) v) x4.kept) (both_marks n m1 (functions_of_first s (view_first first)) ((functions_of_maybe s (view_maybe_expr test)) ++ ((functions_of_maybe s (view_maybe_expr update)) ++ (functions_of_statement s (view_stmt body)))) (held_in_first first') ((held_in_maybe_expr test') ++ ((held_in_maybe_expr update') ++ (held_in_stmt body'))) x1.marks x1.count (both_marks m1 m2 (functions_of_maybe s (view_maybe_expr test)) ((functions_of_maybe s (view_maybe_expr update)) ++ (functions_of_statement s (view_stmt body))) (held_in_maybe_expr test') ((held_in_maybe_expr update') ++ (held_in_stmt body')) x2.marks x2.count (both_marks m2 m3 (functions_of_maybe s (view_maybe_expr update)) (functions_of_statement s (view_stmt body)) (held_in_maybe_expr update') (held_in_stmt body') x3.marks x3.count (x4.marks)))) (both_count n m1 b (functions_of_first s (view_first first)) ((functions_of_maybe s (view_maybe_expr test)) ++ ((functions_of_maybe s (view_maybe_expr update)) ++ (functions_of_statement s (view_stmt body)))) x1.count (both_count m1 m2 b (functions_of_maybe s (view_maybe_expr test)) ((functions_of_maybe s (view_maybe_expr update)) ++ (functions_of_statement s (view_stmt body))) x2.count (both_count m2 m3 b (functions_of_maybe s (view_maybe_expr update)) (functions_of_statement s (view_stmt body)) x3.count (x4.count))))

pub for_in_marked : {s : Bool} {n m1 m2 b : ℕ} (old : Stmt) (target : _) (object : _) (body : _) (target' : _) (object' : _) (body' : _) (kind : StmtKind) → old.kind.value ≡ stmt.ForIn target object body → kind ≡ stmt.ForIn target' object' body' → MarkedTarget s n target target' m1 → MarkedExpr s m1 object object' m2 → MarkedStatement s m2 body body' b → MarkedStatement s n old (roll-Stmt (record { at = old.at; kind = with_value old.kind kind })) b
for_in_marked {s} {n} {m1} {m2} {b} old target object body target' object' body' kind is new x1 x2 x3 = statement_seen old (stmt.ForIn target object body) (stmt.ForIn target' object' body') kind (for_in old.at (view_target target) (view_expr object) (view_stmt body)) (for_in old.at (view_target target') (view_expr object') (view_stmt body')) ((held_in_target target') ++ ((held_in_expr object') ++ (held_in_stmt body'))) is new (refl) (refl) (refl) (ap (λ v. for_in old.at v (view_expr object') (view_stmt body')) x1.kept ∙ ap (λ v. for_in old.at (view_target target) v (view_stmt body')) x2.kept ∙ ap (λ v. for_in old.at (view_target target) (view_expr object) v) x3.kept) (both_marks n m1 (functions_of_target s (view_target target)) ((functions_of_expr s (view_expr object)) ++ (functions_of_statement s (view_stmt body))) (held_in_target target') ((held_in_expr object') ++ (held_in_stmt body')) x1.marks x1.count (both_marks m1 m2 (functions_of_expr s (view_expr object)) (functions_of_statement s (view_stmt body)) (held_in_expr object') (held_in_stmt body') x2.marks x2.count (x3.marks))) (both_count n m1 b (functions_of_target s (view_target target)) ((functions_of_expr s (view_expr object)) ++ (functions_of_statement s (view_stmt body))) x1.count (both_count m1 m2 b (functions_of_expr s (view_expr object)) (functions_of_statement s (view_stmt body)) x2.count (x3.count)))

pub return_marked : {s : Bool} {n b : ℕ} (old : Stmt) (value : _) (semi : _) (value' : _) (kind : StmtKind) → old.kind.value ≡ stmt.Return value semi → kind ≡ stmt.Return value' semi → MarkedMaybe s n value value' b → MarkedStatement s n old (roll-Stmt (record { at = old.at; kind = with_value old.kind kind })) b
return_marked {s} {n} {b} old value semi value' kind is new x1 = statement_seen old (stmt.Return value semi) (stmt.Return value' semi) kind (return old.at (view_maybe_expr value) (view_semi semi)) (return old.at (view_maybe_expr value') (view_semi semi)) (held_in_maybe_expr value') is new (rw (held_expr value) refl) (rw (held_expr value') refl) (rw (lent_expr value') refl) (ap (λ v. return old.at v (view_semi semi)) x1.kept) (x1.marks) (x1.count)

pub throw_marked : {s : Bool} {n b : ℕ} (old : Stmt) (value : _) (semi : _) (value' : _) (kind : StmtKind) → old.kind.value ≡ stmt.Throw value semi → kind ≡ stmt.Throw value' semi → MarkedExpr s n value value' b → MarkedStatement s n old (roll-Stmt (record { at = old.at; kind = with_value old.kind kind })) b
throw_marked {s} {n} {b} old value semi value' kind is new x1 = statement_seen old (stmt.Throw value semi) (stmt.Throw value' semi) kind (throw old.at (view_expr value) (view_semi semi)) (throw old.at (view_expr value') (view_semi semi)) (held_in_expr value') is new (refl) (refl) (refl) (ap (λ v. throw old.at v (view_semi semi)) x1.kept) (x1.marks) (x1.count)

pub switch_marked : {s : Bool} {n m1 b : ℕ} (old : Stmt) (value : _) (clauses : _) (value' : _) (clauses' : _) (kind : StmtKind) → old.kind.value ≡ stmt.Switch value clauses → kind ≡ stmt.Switch value' clauses' → MarkedExpr s n value value' m1 → MarkedClauses s m1 (nodes_of clauses) (nodes_of clauses') b → MarkedStatement s n old (roll-Stmt (record { at = old.at; kind = with_value old.kind kind })) b
switch_marked {s} {n} {m1} {b} old value clauses value' clauses' kind is new x1 x2 = statement_seen old (stmt.Switch value clauses) (stmt.Switch value' clauses') kind (switch old.at (view_expr value) (view_clauses (nodes_of clauses))) (switch old.at (view_expr value') (view_clauses (nodes_of clauses'))) ((held_in_expr value') ++ (held_in_clauses (nodes_of clauses'))) is new (rw (held_clauses clauses) refl) (rw (held_clauses clauses') refl) (rw (lent_clauses clauses') refl) (ap (λ v. switch old.at v (view_clauses (nodes_of clauses'))) x1.kept ∙ ap (λ v. switch old.at (view_expr value) v) x2.kept) (both_marks n m1 (functions_of_expr s (view_expr value)) (functions_of_clauses s (view_clauses (nodes_of clauses))) (held_in_expr value') (held_in_clauses (nodes_of clauses')) x1.marks x1.count (x2.marks)) (both_count n m1 b (functions_of_expr s (view_expr value)) (functions_of_clauses s (view_clauses (nodes_of clauses))) x1.count (x2.count))

pub labelled_marked : {s : Bool} {n b : ℕ} (old : Stmt) (label : _) (body : _) (body' : _) (kind : StmtKind) → old.kind.value ≡ stmt.Labelled label body → kind ≡ stmt.Labelled label body' → MarkedStatement s n body body' b → MarkedStatement s n old (roll-Stmt (record { at = old.at; kind = with_value old.kind kind })) b
labelled_marked {s} {n} {b} old label body body' kind is new x1 = statement_seen old (stmt.Labelled label body) (stmt.Labelled label body') kind (labelled old.at label (view_stmt body)) (labelled old.at label (view_stmt body')) (held_in_stmt body') is new (refl) (refl) (refl) (ap (λ v. labelled old.at label v) x1.kept) (x1.marks) (x1.count)

pub try_catch_marked : {s : Bool} {n m1 b : ℕ} (old : Stmt) (body : _) (param : _) (handler : _) (body' : _) (handler' : _) (kind : StmtKind) → old.kind.value ≡ stmt.TryCatch body param handler → kind ≡ stmt.TryCatch body' param handler' → MarkedBlock s n body body' m1 → MarkedBlock s m1 handler handler' b → MarkedStatement s n old (roll-Stmt (record { at = old.at; kind = with_value old.kind kind })) b
try_catch_marked {s} {n} {m1} {b} old body param handler body' handler' kind is new x1 x2 = statement_seen old (stmt.TryCatch body param handler) (stmt.TryCatch body' param handler') kind (try_catch old.at (view_block body) (view_ident param) (view_block handler)) (try_catch old.at (view_block body') (view_ident param) (view_block handler')) ((held_in_block body') ++ (held_in_block handler')) is new (refl) (refl) (refl) (ap (λ v. try_catch old.at v (view_ident param) (view_block handler')) x1.kept ∙ ap (λ v. try_catch old.at (view_block body) (view_ident param) v) x2.kept) (both_marks n m1 (functions_of_block s (view_block body)) (functions_of_block s (view_block handler)) (held_in_block body') (held_in_block handler') x1.marks x1.count (x2.marks)) (both_count n m1 b (functions_of_block s (view_block body)) (functions_of_block s (view_block handler)) x1.count (x2.count))

pub try_finally_marked : {s : Bool} {n m1 b : ℕ} (old : Stmt) (body : _) (last : _) (body' : _) (last' : _) (kind : StmtKind) → old.kind.value ≡ stmt.TryFinally body last → kind ≡ stmt.TryFinally body' last' → MarkedBlock s n body body' m1 → MarkedBlock s m1 last last' b → MarkedStatement s n old (roll-Stmt (record { at = old.at; kind = with_value old.kind kind })) b
try_finally_marked {s} {n} {m1} {b} old body last body' last' kind is new x1 x2 = statement_seen old (stmt.TryFinally body last) (stmt.TryFinally body' last') kind (try_finally old.at (view_block body) (view_block last)) (try_finally old.at (view_block body') (view_block last')) ((held_in_block body') ++ (held_in_block last')) is new (refl) (refl) (refl) (ap (λ v. try_finally old.at v (view_block last')) x1.kept ∙ ap (λ v. try_finally old.at (view_block body) v) x2.kept) (both_marks n m1 (functions_of_block s (view_block body)) (functions_of_block s (view_block last)) (held_in_block body') (held_in_block last') x1.marks x1.count (x2.marks)) (both_count n m1 b (functions_of_block s (view_block body)) (functions_of_block s (view_block last)) x1.count (x2.count))

pub try_both_marked : {s : Bool} {n m1 m2 b : ℕ} (old : Stmt) (body : _) (param : _) (handler : _) (last : _) (body' : _) (handler' : _) (last' : _) (kind : StmtKind) → old.kind.value ≡ stmt.TryBoth body param handler last → kind ≡ stmt.TryBoth body' param handler' last' → MarkedBlock s n body body' m1 → MarkedBlock s m1 handler handler' m2 → MarkedBlock s m2 last last' b → MarkedStatement s n old (roll-Stmt (record { at = old.at; kind = with_value old.kind kind })) b
try_both_marked {s} {n} {m1} {m2} {b} old body param handler last body' handler' last' kind is new x1 x2 x3 = statement_seen old (stmt.TryBoth body param handler last) (stmt.TryBoth body' param handler' last') kind (try_both old.at (view_block body) (view_ident param) (view_block handler) (view_block last)) (try_both old.at (view_block body') (view_ident param) (view_block handler') (view_block last')) ((held_in_block body') ++ ((held_in_block handler') ++ (held_in_block last'))) is new (refl) (refl) (refl) (ap (λ v. try_both old.at v (view_ident param) (view_block handler') (view_block last')) x1.kept ∙ ap (λ v. try_both old.at (view_block body) (view_ident param) v (view_block last')) x2.kept ∙ ap (λ v. try_both old.at (view_block body) (view_ident param) (view_block handler) v) x3.kept) (both_marks n m1 (functions_of_block s (view_block body)) ((functions_of_block s (view_block handler)) ++ (functions_of_block s (view_block last))) (held_in_block body') ((held_in_block handler') ++ (held_in_block last')) x1.marks x1.count (both_marks m1 m2 (functions_of_block s (view_block handler)) (functions_of_block s (view_block last)) (held_in_block handler') (held_in_block last') x2.marks x2.count (x3.marks))) (both_count n m1 b (functions_of_block s (view_block body)) ((functions_of_block s (view_block handler)) ++ (functions_of_block s (view_block last))) x1.count (both_count m1 m2 b (functions_of_block s (view_block handler)) (functions_of_block s (view_block last)) x2.count (x3.count)))

pub declared_function_marked : {s : Bool} {n b : ℕ} (old : Stmt) (f : _) (f' : _) (kind : StmtKind) → old.kind.value ≡ stmt.Function f → kind ≡ stmt.Function f' → MarkedFunction s n f f' b → MarkedStatement s n old (roll-Stmt (record { at = old.at; kind = with_value old.kind kind })) b
declared_function_marked {s} {n} {b} old f f' kind is new x1 = statement_seen old (stmt.Function f) (stmt.Function f') kind (function_declaration old.at (view_function f)) (function_declaration old.at (view_function f')) (held_in_function f') is new (refl) (refl) (refl) (ap (λ v. function_declaration old.at v) x1.kept) (x1.marks) (x1.count)
