-- What is told of a tree that tokens spell stands where some of these begin: if each begins at most at a number, it stands there at most.
use Rattle.std.proofs.Common.{◌≡◌, ℕ, ◌≤◌, Bool, true, false, not, List, [], ◌∷◌, ◌++◌, append_assoc, append-nil, Option, Some, None, refl, sym, ap, ◌∙◌, subst, arith}
use Rattle.std.specs.List.{All, list_any}
use Rattle.std.proofs.lemmas.List.Elements.{All-nil, All-cons, All-append, All-head, All-tail, All-rest}
use Rattle.js_ast.specs.declared.token.Token.{Token}
use Rattle.js_ast.specs.declared.operators.UnaryOperator.{UnaryOperator}
use Rattle.js_ast.specs.declared.operators.UnaryOperator.TheVariants as unary_operator
use Rattle.js_ast.specs.Words.{Word}
use Rattle.js_ast.specs.Trees.{Ident, Key, name_key, string_key, number_key, Semi, written, elided, Expr, name, number, string, this, null, boolean, paren, array, object, function, member, index, new_with, new_bare, call, postfix, unary, binary, conditional, assign, comma, Exprs, no_exprs, more_exprs, MaybeExpr, absent, present, Items, no_items, hole, item, Property, value, getter, setter, Properties, no_properties, more_properties, Declarations, one_declaration, more_declarations, First, first_expr, first_var, Target, target_expr, target_var, Clauses, no_clauses, case, default, Block, block_of, Statement, block, var, empty, expression, if_then, if_else, do_while, while, for, for_in, continue, break, return, throw, switch, labelled, try_catch, try_finally, try_both, debugger, function_declaration, Statements, no_statements, more_statements, Function, function_of}
use Rattle.js_ast.specs.Grammar.{Part, ◌⨾◌, nothing, place_of, At, OnLine, Takes, TakesName, ReadsIdent, MaybeIdent, MaybeLabel, ReadsIdents, ReadsKey, FinalComma, Ends, StartsExpression, last_initialiser, Reads, ReadsExprs, ReadsMaybe, ReadsItems, ReadsProperty, ReadsProperties, ReadsInitialiser, ReadsDeclarations, ReadsFirst, ReadsTarget, ReadsClauses, ReadsBlock, ReadsStatement, ReadsStatements, ReadsFunction}
use Rattle.js_faults.specs.declared.directives.BadDirective.{BadDirective}
use Rattle.js_faults.specs.declared.fault.EarlyError.{EarlyError}
use Rattle.js_faults.specs.declared.fault.EarlyErrorKind.{EarlyErrorKind}
use Rattle.js_faults.specs.declared.fault.EarlyErrorKind.TheVariants as kind
use Rattle.js_faults.specs.Scopes.{Scope, in_body, looped, switched, labelled_by, outermost, names_statement}
use Rattle.js_faults.specs.Directives.{has_form, directive_in, bad_if, of_directive, without_form, directives, by_place}
use Rattle.js_faults.specs.Early.{fault_if, is_eval_or_arguments, is_strict_word, has_text, clashes, may_break, may_continue, label_text, directive_may_jump, of_bound, of_bound_maybe, of_parameters, of_assigned, of_deleted, property_list, place_of_property, of_repeated, of_properties, of_unary, of_expr, of_declarations, of_first, of_target, of_statement, of_function, early}
use Rattle.js_faults.specs.Faults.{Own, Order, in_expr, in_exprs, in_maybe, in_items, in_property, in_properties, in_function, in_declarations, in_first, in_target, in_clauses, in_block, in_statement, in_statements, precedes, earlier_by, first_by, by_kind, first_of}

-- each token begins there at the latest, and each fault stands there
abbrev pub BeginBy : ℕ → List Token → Type 0
BeginBy n ts = All (λ (t : Token). t.from ≤ n) ts

pub record AreBy {F : Type 0} (order : Order F) (n : ℕ) (fs : List F) : Type 0 where
  pub all : All (λ (f : F). order.at f ≤ n) fs

-- what is told of a part of the grammar stands by the number where its tokens begin by it
pub record Tells {F : Type 0} (order : Order F) (n : ℕ) (p : Part) (fs : List F) : Type 0 where
  pub told : (ts rest : List Token) → p ts rest → BeginBy n ts → AreBy order n fs

-- and the tokens behind it begin by it too
pub record Walks {F : Type 0} (order : Order F) (n : ℕ) (p : Part) (fs : List F) : Type 0 where
  pub walked : (ts rest : List Token) → p ts rest → BeginBy n ts → AreBy order n fs × BeginBy n rest

module _ {n : ℕ} where
  -- the place of the first token
  by_place_of : (at : ℕ) (ts : List Token) → at ≡ place_of ts → BeginBy n ts → at ≤ n
  by_place_of at [] e by = omega arith
  by_place_of at (t ∷ ts) e by = subst (λ k. k ≤ n) (sym e) (All-head (λ (t : Token). t.from ≤ n) t ts by)

module _ {F : Type 0} {order : Order F} {n : ℕ} where
  -- ---- faults by the number

  by_none : AreBy order n []
  by_none = record { all = All-nil (λ (f : F). order.at f ≤ n) }

  by_one : (f : F) → order.at f ≤ n → AreBy order n (f ∷ [])
  by_one f le = record { all = All-cons (λ (f : F). order.at f ≤ n) f [] le (All-nil (λ (f : F). order.at f ≤ n)) }

  by_both : {fs gs : List F} → AreBy order n fs → AreBy order n gs → AreBy order n (fs ++ gs)
  by_both {fs} {gs} a b = record { all = All-append (λ (f : F). order.at f ≤ n) fs gs a.all b.all }

  -- ---- parts, and what stands behind them

  token : {w : Word} → Walks order n (Takes w) []
  token {w} = record { walked = λ ts rest h by. (by_none, All-rest (λ (t : Token). t.from ≤ n) h.0 rest ts h.1 by) }

  any_name : {text : List ℕ} → Walks order n (TakesName text) []
  any_name {text} = record { walked = λ ts rest h by. (by_none, All-rest (λ (t : Token). t.from ≤ n) h.0 rest ts h.1 by) }

  no_token : Walks order n nothing []
  no_token = record { walked = λ ts rest h by. (by_none, subst (BeginBy n) h by) }

  both : {p q : Part} {fs gs : List F} → Walks order n p fs → Walks order n q gs → Walks order n (p ⨾ q) (fs ++ gs)
  both f g = record { walked = λ ts rest h by. let a = f.walked ts h.0 h.1 by in let b = g.walked h.0 rest h.2 a.1 in (by_both a.0 b.0, b.1) }

  -- where nothing is told of the first part, or of the second
  then : {p q : Part} {gs : List F} → Walks order n p [] → Walks order n q gs → Walks order n (p ⨾ q) gs
  then f g = record { walked = λ ts rest h by. g.walked h.0 rest h.2 (f.walked ts h.0 h.1 by).1 }

  ahead : {p q : Part} {fs : List F} → Walks order n p fs → Walks order n q [] → Walks order n (p ⨾ q) fs
  ahead f g = record { walked = λ ts rest h by. let a = f.walked ts h.0 h.1 by in (a.0, (g.walked h.0 rest h.2 a.1).1) }

  between : {v w : Word} {p : Part} {fs : List F} → Walks order n p fs → Walks order n (Takes v ⨾ (p ⨾ Takes w)) fs
  between f = then token (ahead f token)

  at_place : {at : ℕ} {p : Part} {fs : List F} → Walks order n p fs → Walks order n (At at p) fs
  at_place {at} f = record { walked = λ ts rest h by. f.walked ts rest h.1 by }

  on_line : {p : Part} {fs : List F} → Walks order n p fs → Walks order n (OnLine p) fs
  on_line f = record { walked = λ ts rest h by. f.walked ts rest h.1 by }

  starts : {p : Part} {fs : List F} → Walks order n p fs → Walks order n (StartsExpression p) fs
  starts f = record { walked = λ ts rest h by. f.walked ts rest h.1 by }

  -- nothing more is told, and what is told is put together otherwise
  last : {p : Part} {fs : List F} → Walks order n p fs → Walks order n p (fs ++ [])
  last {p} {fs} f = subst (Walks order n p) (sym (append-nil fs)) f

  grouped : {p : Part} {fs gs : List F} → fs ≡ gs → Walks order n p fs → Walks order n p gs
  grouped {p} e f = subst (Walks order n p) e f

  -- ---- what is told of a part, whatever stands behind it

  silent : {p : Part} → Tells order n p []
  silent = record { told = λ ts rest h by. by_none }

  tells : {p : Part} {fs : List F} → Walks order n p fs → Tells order n p fs
  tells f = record { told = λ ts rest h by. (f.walked ts rest h by).0 }

  behind : {p q : Part} {gs : List F} → Walks order n p [] → Tells order n q gs → Tells order n (p ⨾ q) gs
  behind f g = record { told = λ ts rest h by. g.told h.0 rest h.2 (f.walked ts h.0 h.1 by).1 }

  in_front : {p q : Part} {fs : List F} → Tells order n p fs → Tells order n (p ⨾ q) fs
  in_front f = record { told = λ ts rest h by. f.told ts h.0 h.1 by }

  inside : {at : ℕ} {p : Part} {fs : List F} → Tells order n p fs → Tells order n (At at p) fs
  inside {at} f = record { told = λ ts rest h by. f.told ts rest h.1 by }

  -- at the place where it begins
  here : {at : ℕ} {p : Part} {fs : List F} → (at ≤ n → AreBy order n fs) → Tells order n (At at p) fs
  here {at} f = record { told = λ ts rest h by. f (by_place_of at ts h.0 by) }

  -- a node that has no parts, and one with its parts
  alone : {p : Part} {fs : List F} → Tells order n p fs → Walks order n p [] → Walks order n p fs
  alone f g = record { walked = λ ts rest h by. (f.told ts rest h by, (g.walked ts rest h by).1) }

  node : {p : Part} {fs gs : List F} → Tells order n p fs → Walks order n p gs → Walks order n p (fs ++ gs)
  node f g = record { walked = λ ts rest h by. let a = g.walked ts rest h by in (by_both (f.told ts rest h by) a.0, a.1) }

  -- ---- names, keys and ends

  ident : (i : Ident) → Walks order n (ReadsIdent i) []
  ident i = at_place token

  maybe_ident : (i : Option Ident) → Walks order n (MaybeIdent i) []
  maybe_ident None = no_token
  maybe_ident (Some i) = ident i

  label : (i : Option Ident) → Walks order n (MaybeLabel i) []
  label None = no_token
  label (Some i) = on_line (ident i)

  idents : (is : List Ident) → Walks order n (ReadsIdents is) []
  idents [] = no_token
  idents (i ∷ []) = ident i
  idents (i ∷ j ∷ is) = then (ident i) (then token (idents (j ∷ is)))

  key : (k : Key) → Walks order n (ReadsKey k) []
  key (name_key text) = any_name
  key (string_key text v) = token
  key (number_key i) = token

  final_comma : (final : Bool) → Walks order n (FinalComma final) []
  final_comma true = token
  final_comma false = no_token

  end : (before : Option Expr) (semi : Semi) → Walks order n (Ends before semi) []
  end before written = token
  end before elided = record { walked = λ ts rest h by. (by_none, subst (BeginBy n) h.0 by) }

-- ---- nodes and their parts, where what is told of nodes on their own stands by the number

module _ {F : Type 0} (own : Own F) (order : Order F) (n : ℕ) (own_e : (e : Expr) → Tells order n (Reads e) (own.expr e)) (own_f : (f : Function) → Tells order n (ReadsFunction f) (own.function f))
    (own_s : (s : Scope) (t : Statement) → Tells order n (ReadsStatement t) (own.statement s t)) where
  mutual
    pub expr : (e : Expr) → Walks order n (Reads e) (in_expr own e)
    expr (name at text) = alone (own_e (name at text)) (at_place token)
    expr (number at i) = alone (own_e (number at i)) (at_place token)
    expr (string at text v) = alone (own_e (string at text v)) (at_place token)
    expr (this at) = alone (own_e (this at)) (at_place token)
    expr (null at) = alone (own_e (null at)) (at_place token)
    expr (boolean at b) = alone (own_e (boolean at b)) (at_place token)
    expr (paren at e) = node (own_e (paren at e)) (at_place (between (expr e)))
    expr (array at is final) = node (own_e (array at is final)) (at_place (between (items is final)))
    expr (object at ps final) = node (own_e (object at ps final)) (at_place (between (properties ps final)))
    expr (function at f) = node (own_e (function at f)) (at_place (then token (function_walk f)))
    expr (member at e text) = node (own_e (member at e text)) (at_place (ahead (expr e) (then token any_name)))
    expr (index at e i) = node (own_e (index at e i)) (at_place (both (expr e) (between (expr i))))
    expr (new_with at e args) = node (own_e (new_with at e args)) (at_place (then token (both (expr e) (between (exprs args)))))
    expr (new_bare at e) = node (own_e (new_bare at e)) (at_place (then token (expr e)))
    expr (call at e args) = node (own_e (call at e args)) (at_place (both (expr e) (between (exprs args))))
    expr (postfix at e o) = node (own_e (postfix at e o)) (at_place (ahead (expr e) (on_line token)))
    expr (unary at o e) = node (own_e (unary at o e)) (at_place (then token (expr e)))
    expr (binary at l o r) = node (own_e (binary at l o r)) (at_place (both (expr l) (then token (expr r))))
    expr (conditional at e a b) = node (own_e (conditional at e a b)) (at_place (both (expr e) (then token (both (expr a) (then token (expr b))))))
    expr (assign at l o r) = node (own_e (assign at l o r)) (at_place (both (expr l) (then token (expr r))))
    expr (comma at l r) = node (own_e (comma at l r)) (at_place (both (expr l) (then token (expr r))))

    exprs : (es : Exprs) → Walks order n (ReadsExprs es) (in_exprs own es)
    exprs no_exprs = no_token
    exprs (more_exprs e no_exprs) = last (expr e)
    exprs (more_exprs e (more_exprs f es)) = both (expr e) (then token (exprs (more_exprs f es)))

    maybe : (e : MaybeExpr) → Walks order n (ReadsMaybe e) (in_maybe own e)
    maybe absent = no_token
    maybe (present e) = expr e

    items : (is : Items) (final : Bool) → Walks order n (ReadsItems is final) (in_items own is)
    items no_items final = no_token
    items (hole is) final = then token (items is final)
    items (item e no_items) final = both (expr e) (final_comma final)
    items (item e (hole is)) final = both (expr e) (then token (items (hole is) final))
    items (item e (item f is)) final = both (expr e) (then token (items (item f is) final))

    pub property : (p : Property) → Walks order n (ReadsProperty p) (in_property own p)
    property (value at k e) = at_place (then (key k) (then token (expr e)))
    property (getter at k f) = at_place (then token (then (key k) (function_walk f)))
    property (setter at k f) = at_place (then token (then (key k) (function_walk f)))

    function_walk : (f : Function) → Walks order n (ReadsFunction f) (in_function own f)
    function_walk (function_of at i params body) = node (own_f (function_of at i params body)) (then (maybe_ident i) (then (between (idents params)) (between (statements in_body body))))

    properties : (ps : Properties) (final : Bool) → Walks order n (ReadsProperties ps final) (in_properties own ps)
    properties no_properties final = no_token
    properties (more_properties p no_properties) final = both (property p) (final_comma final)
    properties (more_properties p (more_properties q ps)) final = both (property p) (then token (properties (more_properties q ps) final))

    pub initialiser : (e : MaybeExpr) → Walks order n (ReadsInitialiser e) (in_maybe own e)
    initialiser absent = no_token
    initialiser (present e) = then token (expr e)

    declarations : (ds : Declarations) → Walks order n (ReadsDeclarations ds) (in_declarations own ds)
    declarations (one_declaration i init) = then (ident i) (initialiser init)
    declarations (more_declarations i init ds) = both (then (ident i) (initialiser init)) (then token (declarations ds))

    first : (f : First) → Walks order n (ReadsFirst f) (in_first own f)
    first (first_expr e) = maybe e
    first (first_var ds) = then token (declarations ds)

    target : (t : Target) → Walks order n (ReadsTarget t) (in_target own t)
    target (target_expr e) = expr e
    target (target_var i) = then token (ident i)

    clauses : (s : Scope) (cs : Clauses) → Walks order n (ReadsClauses cs) (in_clauses own s cs)
    clauses s no_clauses = no_token
    clauses s (case e body cs) = grouped (append_assoc (in_expr own e) (in_statements own s body) (in_clauses own s cs)) (both (then token (both (expr e) (then token (statements s body)))) (clauses s cs))
    clauses s (default body cs) = both (then token (then token (statements s body))) (clauses s cs)

    pub in_braces : (s : Scope) (b : Block) → Walks order n (ReadsBlock b) (in_block own s b)
    in_braces s (block_of at body) = at_place (between (statements s body))

    statement : (s : Scope) (t : Statement) → Walks order n (ReadsStatement t) (in_statement own s t)
    statement s (block b) = node (own_s s (block b)) (in_braces s b)
    statement s (var at ds semi) = node (own_s s (var at ds semi)) (at_place (then token (ahead (declarations ds) (end (last_initialiser ds) semi))))
    statement s (empty at) = alone (own_s s (empty at)) (at_place token)
    statement s (expression at e semi) = node (own_s s (expression at e semi)) (starts (at_place (ahead (expr e) (end (Some e) semi))))
    statement s (if_then at e t) = node (own_s s (if_then at e t)) (at_place (then token (both (between (expr e)) (statement s t))))
    statement s (if_else at e t u) = node (own_s s (if_else at e t u)) (at_place (then token (both (between (expr e)) (both (statement s t) (then token (statement s u))))))
    statement s (do_while at t e semi) = node (own_s s (do_while at t e semi)) (at_place (then token (both (statement (looped s) t) (then token (ahead (between (expr e)) (end None semi))))))
    statement s (while at e t) = node (own_s s (while at e t)) (at_place (then token (both (between (expr e)) (statement (looped s) t))))
    statement s (for at f test step t) =
        let regrouped = append_assoc (in_first own f) (in_maybe own test ++ in_maybe own step) (in_statement own (looped s) t) ∙ ap (λ (more : List F). in_first own f ++ more) (append_assoc (in_maybe own test) (in_maybe own step) (in_statement own (looped s) t)) in
        node (own_s s (for at f test step t)) (at_place (then token (grouped regrouped (both (between (both (first f) (then token (both (maybe test) (then token (maybe step)))))) (statement (looped s) t)))))
    statement s (for_in at u e t) =
        node (own_s s (for_in at u e t)) (at_place (then token (grouped (append_assoc (in_target own u) (in_expr own e) (in_statement own (looped s) t)) (both (between (both (target u) (then token (expr e)))) (statement (looped s) t)))))
    statement s (continue at l semi) = alone (own_s s (continue at l semi)) (at_place (then token (then (label l) (end None semi))))
    statement s (break at l semi) = alone (own_s s (break at l semi)) (at_place (then token (then (label l) (end None semi))))
    statement s (return at absent semi) = node (own_s s (return at absent semi)) (at_place (then token (end None semi)))
    statement s (return at (present e) semi) = node (own_s s (return at (present e) semi)) (at_place (then token (ahead (on_line (expr e)) (end (Some e) semi))))
    statement s (throw at e semi) = node (own_s s (throw at e semi)) (at_place (then token (ahead (on_line (expr e)) (end (Some e) semi))))
    statement s (switch at e cs) = node (own_s s (switch at e cs)) (at_place (then token (both (between (expr e)) (between (clauses (switched s) cs)))))
    statement s (labelled at text t) = node (own_s s (labelled at text t)) (at_place (then token (then token (statement (labelled_by text t s) t))))
    statement s (try_catch at b i handler) =
        node (own_s s (try_catch at b i handler)) (at_place (then token (both (in_braces s b) (then token (then (between (ident i)) (in_braces s handler))))))
    statement s (try_finally at b final) = node (own_s s (try_finally at b final)) (at_place (then token (both (in_braces s b) (then token (in_braces s final)))))
    statement s (try_both at b i handler final) =
        node (own_s s (try_both at b i handler final)) (at_place (then token (both (in_braces s b) (both (then token (then (between (ident i)) (in_braces s handler))) (then token (in_braces s final))))))
    statement s (debugger at semi) = alone (own_s s (debugger at semi)) (at_place (then token (end None semi)))
    statement s (function_declaration at f) = node (own_s s (function_declaration at f)) (at_place (then token (function_walk f)))

    pub statements : (s : Scope) (ss : Statements) → Walks order n (ReadsStatements ss) (in_statements own s ss)
    statements s no_statements = no_token
    statements s (more_statements t ts) = both (statement s t) (statements s ts)

-- ---- directives without their form

-- a walk passes over a part
skips : {F G : Type 0} {order : Order F} {other : Order G} {n : ℕ} {p : Part} {fs : List F} → Walks order n p fs → Walks other n p []
skips f = record { walked = λ ts rest h by. (by_none, (f.walked ts rest h by).1) }

module _ {n : ℕ} where
  by_form : (b : Bool) (at : ℕ) → at ≤ n → AreBy by_place n (bad_if b at)
  by_form true at le = by_one (record { at = at }) le
  by_form false at le = by_none

  of_literal : (at : ℕ) (o : Option (List ℕ)) → at ≤ n → AreBy by_place n (of_directive at o)
  of_literal at None le = by_none
  of_literal at (Some units) le = by_form (not (has_form units)) at le

  no_form : (s : Scope) (t : Statement) → Tells by_place n (ReadsStatement t) (directives.statement s t)
  unfolding without_form
  no_form s (expression at e semi) = record { told = λ ts rest h by. of_literal at (directive_in e) (by_place_of at ts h.1.0 by) }
  no_form s _ = silent

  expr_directives : (e : Expr) → Walks by_place n (Reads e) (in_expr directives e)
  expr_directives e = expr directives by_place n (λ e. silent) (λ f. silent) no_form e

  statements_directives : (s : Scope) (ss : Statements) → Walks by_place n (ReadsStatements ss) (in_statements directives s ss)
  statements_directives s ss = statements directives by_place n (λ e. silent) (λ f. silent) no_form s ss

  -- the same walk passes over a node
  skip_expr : (e : Expr) → Walks by_kind n (Reads e) []
  skip_expr e = skips (expr_directives e)

  skip_initialiser : (e : MaybeExpr) → Walks by_kind n (ReadsInitialiser e) []
  skip_initialiser e = skips (initialiser directives by_place n (λ e. silent) (λ f. silent) no_form e)

  skip_property : (p : Property) → Walks by_kind n (ReadsProperty p) []
  skip_property p = skips (property directives by_place n (λ e. silent) (λ f. silent) no_form p)

  skip_block : (b : Block) → Walks by_kind n (ReadsBlock b) []
  skip_block b = skips (in_braces directives by_place n (λ e. silent) (λ f. silent) no_form outermost b)

  -- ---- early errors of nodes on their own

  by_test : (b : Bool) (at : ℕ) (k : EarlyErrorKind) → at ≤ n → AreBy by_kind n (fault_if b at k)
  by_test true at k le = by_one (record { at = at; kind = k }) le
  by_test false at k le = by_none

  bound_by : (i : Ident) → i.at ≤ n → AreBy by_kind n (of_bound i)
  unfolding of_bound
  bound_by i le = by_both (by_test (is_eval_or_arguments i.text) i.at kind.EvalArguments le) (by_test (is_strict_word i.text) i.at kind.StrictWord le)

  bound : (i : Ident) → Walks by_kind n (ReadsIdent i) (of_bound i)
  bound i = alone (here (bound_by i)) (ident i)

  bound_maybe : (i : Option Ident) → Walks by_kind n (MaybeIdent i) (of_bound_maybe i)
  unfolding of_bound_maybe
  bound_maybe None = no_token
  bound_maybe (Some i) = bound i

  parameter : (before : List Ident) (i : Ident) → Walks by_kind n (ReadsIdent i) (of_bound i ++ fault_if (has_text i.text before) i.at kind.RepeatedParameter)
  parameter before i = node (here (bound_by i)) (alone (here (by_test (has_text i.text before) i.at kind.RepeatedParameter)) (ident i))

  parameters : (before is : List Ident) → Walks by_kind n (ReadsIdents is) (of_parameters before is)
  unfolding of_parameters
  parameters before [] = no_token
  parameters before (i ∷ []) = grouped (append_assoc (of_bound i) (fault_if (has_text i.text before) i.at kind.RepeatedParameter) []) (last (parameter before i))
  parameters before (i ∷ j ∷ is) =
      grouped (append_assoc (of_bound i) (fault_if (has_text i.text before) i.at kind.RepeatedParameter) (of_parameters (before ++ i ∷ []) (j ∷ is))) (both (parameter before i) (then token (parameters (before ++ i ∷ []) (j ∷ is))))

  assigned : (e : Expr) → Walks by_kind n (Reads e) (of_assigned e)
  unfolding of_assigned
  assigned (name at text) = alone (here (by_test (is_eval_or_arguments text) at kind.EvalArguments)) (at_place token)
  assigned (paren at e) = at_place (between (assigned e))
  assigned e = skip_expr e

  deleted : (e : Expr) → Walks by_kind n (Reads e) (of_deleted e)
  unfolding of_deleted
  deleted (name at text) = alone (here (by_test true at kind.DeleteName)) (at_place token)
  deleted (paren at e) = at_place (between (deleted e))
  deleted e = skip_expr e

  by_operator : (o : UnaryOperator) (e : Expr) → Walks by_kind n (Reads e) (of_unary o e)
  by_operator unary_operator.Delete e = deleted e
  by_operator unary_operator.Increment e = assigned e
  by_operator unary_operator.Decrement e = assigned e
  by_operator _ e = skip_expr e

  at_property : (b : Bool) (p : Property) → Walks by_kind n (ReadsProperty p) (fault_if b (place_of_property p) kind.RepeatedProperty)
  at_property b (value at k e) = alone (here (by_test b at kind.RepeatedProperty)) (skip_property (value at k e))
  at_property b (getter at k f) = alone (here (by_test b at kind.RepeatedProperty)) (skip_property (getter at k f))
  at_property b (setter at k f) = alone (here (by_test b at kind.RepeatedProperty)) (skip_property (setter at k f))

  repeated : (all before : List Property) (ps : Properties) (final : Bool) → Walks by_kind n (ReadsProperties ps final) (of_repeated all before (property_list ps))
  unfolding of_repeated
  repeated all before no_properties final = no_token
  repeated all before (more_properties p no_properties) final = both (at_property (list_any (clashes all p) before) p) (final_comma final)
  repeated all before (more_properties p (more_properties q ps)) final =
      both (at_property (list_any (clashes all p) before) p) (then token (repeated all (before ++ p ∷ []) (more_properties q ps) final))

  expr_alone : (e : Expr) → Tells by_kind n (Reads e) (early.expr e)
  unfolding of_expr of_properties
  expr_alone (name at text) = here (by_test (is_strict_word text) at kind.StrictWord)
  expr_alone (object at ps final) = tells (at_place (between (repeated (property_list ps) [] ps final)))
  expr_alone (postfix at e o) = tells (at_place (ahead (assigned e) (on_line token)))
  expr_alone (unary at o e) = tells (at_place (then token (by_operator o e)))
  expr_alone (assign at l o r) = inside (in_front (tells (assigned l)))
  expr_alone _ = silent

  function_alone : (f : Function) → Tells by_kind n (ReadsFunction f) (early.function f)
  unfolding of_function
  function_alone (function_of at i params body) = record {
    told = λ ts rest h by.
        let a = (bound_maybe i).walked ts h.0 h.1 by in by_both a.0 ((tells (between (parameters [] params))).told h.0 h.2.0 h.2.1 a.1);
  }

  declared : (ds : Declarations) → Walks by_kind n (ReadsDeclarations ds) (of_declarations ds)
  unfolding of_declarations
  declared (one_declaration i init) = ahead (bound i) (skip_initialiser init)
  declared (more_declarations i init ds) = both (ahead (bound i) (skip_initialiser init)) (then token (declared ds))

  first_alone : (f : First) → Tells by_kind n (ReadsFirst f) (of_first f)
  first_alone (first_expr e) = silent
  first_alone (first_var ds) = behind token (tells (declared ds))

  target_alone : (t : Target) → Tells by_kind n (ReadsTarget t) (of_target t)
  target_alone (target_expr e) = tells (assigned e)
  target_alone (target_var i) = behind token (tells (bound i))

  statement_alone : (s : Scope) (t : Statement) → Tells by_kind n (ReadsStatement t) (early.statement s t)
  unfolding of_statement
  statement_alone s (var at ds semi) = inside (behind token (in_front (tells (declared ds))))
  statement_alone s (for at f test step body) = inside (behind token (in_front (behind token (in_front (in_front (first_alone f))))))
  statement_alone s (for_in at t e body) = inside (behind token (in_front (behind token (in_front (in_front (target_alone t))))))
  statement_alone s (continue at l semi) = here (by_test (not (may_continue (label_text l) s)) at kind.Jump)
  statement_alone s (break at l semi) = here (by_test (not (may_break (label_text l) s)) at kind.Jump)
  statement_alone s (return at absent semi) = here (by_test (not s.in_function) at kind.Jump)
  statement_alone s (return at (present e) semi) = here (by_test (not s.in_function) at kind.Jump)
  statement_alone s (labelled at text body) = here (λ le. by_both (by_test (names_statement text s) at kind.RepeatedLabel le) (by_test (is_strict_word text) at kind.StrictWord le))
  statement_alone s (try_catch at b i handler) = inside (behind token (behind (skip_block b) (behind token (in_front (behind token (in_front (tells (bound i))))))))
  statement_alone s (try_both at b i handler final) = inside (behind token (behind (skip_block b) (in_front (behind token (in_front (behind token (in_front (tells (bound i)))))))))
  statement_alone s (expression at e semi) = record { told = λ ts rest h by. by_test (not (directive_may_jump (directive_in e) s)) at kind.Jump (by_place_of at ts h.1.0 by) }
  statement_alone s _ = silent

-- ---- what is told

module _ {F : Type 0} (order : Order F) (n : ℕ) where
  -- of two the one that is told
  told_by : (f : F) (o : Option F) → order.at f ≤ n → ((g : F) → o ≡ Some g → order.at g ≤ n) → (g : F) → earlier_by order (Some f) o ≡ Some g → order.at g ≤ n
  told_by f None le others g e = let same : f ≡ g = cc in subst (λ (x : F). order.at x ≤ n) same le
  told_by f (Some h) le others g e = by (precedes order h f) refl
    where
      by : (b : Bool) → precedes order h f ≡ b → order.at g ≤ n
      by true t = let same : h ≡ g = (let k = rw t at e in cc) in others g (let k : Some h ≡ Some g = cc in k)
      by false t = let same : f ≡ g = (let k = rw t at e in cc) in subst (λ (x : F). order.at x ≤ n) same le

  all_by : (fs : List F) → All (λ (f : F). order.at f ≤ n) fs → (g : F) → first_by order fs ≡ Some g → order.at g ≤ n
  all_by [] are g e = cc
  all_by (f ∷ fs) are g e = told_by f (first_by order fs) (All-head (λ (f : F). order.at f ≤ n) f fs are) (all_by fs (All-tail (λ (f : F). order.at f ≤ n) f fs are)) g e

module _ (n : ℕ) (ts rest : List Token) (by : BeginBy n ts) where
  pub directive_in_expr : (e : Expr) → Reads e ts rest → (d : BadDirective) → first_by by_place (in_expr directives e) ≡ Some d → d.at ≤ n
  directive_in_expr e h = all_by by_place n (in_expr directives e) ((expr_directives e).walked ts rest h by).0.all

  pub directive_in_statements : (ss : Statements) → ReadsStatements ss ts rest → (d : BadDirective) → first_by by_place (in_statements directives outermost ss) ≡ Some d → d.at ≤ n
  directive_in_statements ss h = all_by by_place n (in_statements directives outermost ss) ((statements_directives outermost ss).walked ts rest h by).0.all

  pub early_in_statements : (ss : Statements) → ReadsStatements ss ts rest → (f : EarlyError) → first_of (in_statements early outermost ss) ≡ Some f → f.at ≤ n
  early_in_statements ss h = all_by by_kind n (in_statements early outermost ss) ((statements early by_kind n expr_alone function_alone statement_alone outermost ss).walked ts rest h by).0.all
