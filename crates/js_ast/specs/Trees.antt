-- The trees of a script, as the grammar sees them. Each node has the place of its first token, which is the first of its fields.
use Rattle.std.specs.Prelude.{ℕ, List, Bool, Option, ℤ}
use Rattle.js_ast.specs.declared.operators.UnaryOperator.{UnaryOperator}
use Rattle.js_ast.specs.declared.operators.PostfixOperator.{PostfixOperator}
use Rattle.js_ast.specs.declared.operators.BinaryOperator.{BinaryOperator}
use Rattle.js_ast.specs.declared.operators.AssignOperator.{AssignOperator}

-- a name where it is bound, or a statement's label
pub record Ident : Type 0 where
  pub at : ℕ
  pub text : List ℕ

-- the key of a property: an identifier name, a string by its token's text and its value, or a number
pub data Key : Type 0 where
  name_key : List ℕ → Key
  string_key : List ℕ → List ℕ → Key
  number_key : ℤ → Key

-- how a statement ends: by a semicolon, or where none is written
pub data Semi : Type 0 where
  written : Semi
  elided : Semi

mutual
  -- expressions (ECMA-262 11)
  pub data Expr : Type 0 where
    name : ℕ → List ℕ → Expr
    number : ℕ → ℤ → Expr
    -- its token's text and its value
    string : ℕ → List ℕ → List ℕ → Expr
    this : ℕ → Expr
    null : ℕ → Expr
    boolean : ℕ → Bool → Expr
    paren : ℕ → Expr → Expr
    -- the items, and whether a comma stands behind a last expression
    array : ℕ → Items → Bool → Expr
    object : ℕ → Properties → Bool → Expr
    function : ℕ → Function → Expr
    member : ℕ → Expr → List ℕ → Expr
    index : ℕ → Expr → Expr → Expr
    new_with : ℕ → Expr → Exprs → Expr
    new_bare : ℕ → Expr → Expr
    call : ℕ → Expr → Exprs → Expr
    postfix : ℕ → Expr → PostfixOperator → Expr
    unary : ℕ → UnaryOperator → Expr → Expr
    binary : ℕ → Expr → BinaryOperator → Expr → Expr
    conditional : ℕ → Expr → Expr → Expr → Expr
    assign : ℕ → Expr → AssignOperator → Expr → Expr
    comma : ℕ → Expr → Expr → Expr

  -- arguments
  pub data Exprs : Type 0 where
    no_exprs : Exprs
    more_exprs : Expr → Exprs → Exprs

  -- an expression that may be missing
  pub data MaybeExpr : Type 0 where
    absent : MaybeExpr
    present : Expr → MaybeExpr

  -- items of an array: expressions and holes
  pub data Items : Type 0 where
    no_items : Items
    hole : Items → Items
    item : Expr → Items → Items

  -- a property of an object, with the place of its first token
  pub data Property : Type 0 where
    value : ℕ → Key → Expr → Property
    getter : ℕ → Key → Function → Property
    setter : ℕ → Key → Function → Property

  pub data Properties : Type 0 where
    no_properties : Properties
    more_properties : Property → Properties → Properties

  -- a function, wherever it stands: a name or none, the parameters and the body (ECMA-262 13)
  pub data Function : Type 0 where
    function_of : ℕ → Option Ident → List Ident → Statements → Function

  -- variables, each with its initialiser or none
  pub data Declarations : Type 0 where
    one_declaration : Ident → MaybeExpr → Declarations
    more_declarations : Ident → MaybeExpr → Declarations → Declarations

  -- the first part of a `for` header
  pub data First : Type 0 where
    first_expr : MaybeExpr → First
    first_var : Declarations → First

  -- what a `for in` assigns to: an expression, or the variable that it declares
  pub data Target : Type 0 where
    target_expr : Expr → Target
    target_var : Ident → Target

  -- clauses of a `switch`
  pub data Clauses : Type 0 where
    no_clauses : Clauses
    case : Expr → Statements → Clauses → Clauses
    default : Statements → Clauses → Clauses

  -- statements between braces, as a node of their own
  pub data Block : Type 0 where
    block_of : ℕ → Statements → Block

  -- statements (ECMA-262 12, 13)
  pub data Statement : Type 0 where
    block : Block → Statement
    var : ℕ → Declarations → Semi → Statement
    empty : ℕ → Statement
    expression : ℕ → Expr → Semi → Statement
    if_then : ℕ → Expr → Statement → Statement
    if_else : ℕ → Expr → Statement → Statement → Statement
    do_while : ℕ → Statement → Expr → Semi → Statement
    while : ℕ → Expr → Statement → Statement
    for : ℕ → First → MaybeExpr → MaybeExpr → Statement → Statement
    for_in : ℕ → Target → Expr → Statement → Statement
    continue : ℕ → Option Ident → Semi → Statement
    break : ℕ → Option Ident → Semi → Statement
    return : ℕ → MaybeExpr → Semi → Statement
    throw : ℕ → Expr → Semi → Statement
    switch : ℕ → Expr → Clauses → Statement
    labelled : ℕ → List ℕ → Statement → Statement
    try_catch : ℕ → Block → Ident → Block → Statement
    try_finally : ℕ → Block → Block → Statement
    try_both : ℕ → Block → Ident → Block → Block → Statement
    debugger : ℕ → Semi → Statement
    function_declaration : ℕ → Function → Statement

  pub data Statements : Type 0 where
    no_statements : Statements
    more_statements : Statement → Statements → Statements

-- the place of an expression
abbrev pub at_of : Expr → ℕ
at_of (name at text) = at
at_of (number at n) = at
at_of (string at text v) = at
at_of (this at) = at
at_of (null at) = at
at_of (boolean at b) = at
at_of (paren at e) = at
at_of (array at items final) = at
at_of (object at props final) = at
at_of (function at f) = at
at_of (member at e text) = at
at_of (index at e i) = at
at_of (new_with at e args) = at
at_of (new_bare at e) = at
at_of (call at e args) = at
at_of (postfix at e o) = at
at_of (unary at o e) = at
at_of (binary at l o r) = at
at_of (conditional at c a b) = at
at_of (assign at l o r) = at
at_of (comma at l r) = at

-- the name of a function
abbrev pub name_of : Function → Option Ident
name_of (function_of at ident params body) = ident

-- its parameters
abbrev pub params_of : Function → List Ident
params_of (function_of at ident params body) = params

-- its body
abbrev pub body_of : Function → Statements
body_of (function_of at ident params body) = body
