-- The trees of small scripts, in few words. They stand without places, but for their functions.
use Rattle.std.specs.Prelude.{List, None, Some, [], codes, false, map, pos, ℕ, ◌∷◌}
use Rattle.js_ast.specs.Trees.{Block, Expr, Exprs, Function, Ident, Properties, Statement, Statements, absent, assign, binary, block, block_of, break, call, continue, expression, function, function_declaration, function_of, getter, if_then, index, member, more_exprs, more_properties, more_statements, name, name_key, new_with, no_exprs, no_statements, number, object, one_declaration, present, return, setter, string, throw, try_catch, try_finally, unary, value, var, written}
use Rattle.js_ast.specs.declared.operators.AssignOperator.TheVariants as assign_operator
use Rattle.js_ast.specs.declared.operators.BinaryOperator.{BinaryOperator}
use Rattle.js_ast.specs.declared.operators.BinaryOperator.TheVariants as binary_operator
use Rattle.js_ast.specs.declared.operators.UnaryOperator.TheVariants as unary_operator

abbrev pub ident : List ℕ → Ident
ident x = record { at = 0; text = x }

abbrev pub named : List ℕ → Expr
named x = name 0 x

abbrev pub text : List ℕ → Expr
text t = string 0 t t

abbrev pub num : ℕ → Expr
num n = number 0 (pos n)

abbrev pub minus : Expr → Expr
minus e = unary 0 unary_operator.Minus e

abbrev pub op : Expr → BinaryOperator → Expr → Expr
op l o r = binary 0 l o r

abbrev pub plus : Expr → Expr → Expr
plus l r = op l binary_operator.Add r

abbrev pub with_comma : Expr → Expr → Expr
with_comma l r = plus (plus l (text (codes ","))) r

abbrev pub sets : List ℕ → Expr → Expr
sets x e = assign 0 (named x) assign_operator.Assign e

abbrev pub adds : List ℕ → Expr → Expr
adds x e = assign 0 (named x) assign_operator.Add e

abbrev pub has_value : List ℕ → Expr → Properties → Properties
has_value key e ps = more_properties (value 0 (name_key key) e) ps

abbrev pub list : List Statement → Statements
list [] = no_statements
list (s ∷ ss) = more_statements s (list ss)

-- a getter and a setter, as functions at a place
abbrev pub gets : ℕ → List ℕ → List Statement → Properties → Properties
gets place key body ps = more_properties (getter 0 (name_key key) (function_of place None [] (list body))) ps

abbrev pub sets_by : ℕ → List ℕ → List ℕ → List Statement → Properties → Properties
sets_by place key param body ps = more_properties (setter 0 (name_key key) (function_of place None (ident param ∷ []) (list body))) ps

abbrev pub literal : Properties → Expr
literal ps = object 0 ps false

abbrev pub dot : Expr → List ℕ → Expr
dot e key = member 0 e key

abbrev pub at : Expr → Expr → Expr
at e key = index 0 e key

abbrev pub puts : Expr → Expr → Expr
puts target e = assign 0 target assign_operator.Assign e

abbrev pub deletes : Expr → Expr
deletes e = unary 0 unary_operator.Delete e

abbrev pub is_in : Expr → Expr → Expr
is_in key e = op key binary_operator.In e

abbrev pub type_of : Expr → Expr
type_of e = unary 0 unary_operator.Typeof e

abbrev pub prototype_of : Expr → Expr
prototype_of e = dot e (codes "prototype")

-- ---- statements

abbrev pub does : Expr → Statement
does e = expression 0 e written

abbrev pub var_is : List ℕ → Expr → Statement
var_is x e = var 0 (one_declaration (ident x) (present e)) written

abbrev pub var_bare : List ℕ → Statement
var_bare x = var 0 (one_declaration (ident x) absent) written

-- ---- functions, each at a place of its own

-- a function at a place, without a name and with one
abbrev pub bare_function : ℕ → List (List ℕ) → List Statement → Function
bare_function place params body = function_of place None (map ident params) (list body)

abbrev pub named_function : ℕ → List ℕ → List (List ℕ) → List Statement → Function
named_function place own params body = function_of place (Some (ident own)) (map ident params) (list body)

abbrev pub declares : Function → Statement
declares f = function_declaration 0 f

abbrev pub makes : Function → Expr
makes f = function 0 f

-- a property that is a function without parameters
abbrev pub method : ℕ → List ℕ → List Statement → Properties → Properties
method place key body ps = has_value key (makes (bare_function place [] body)) ps

abbrev pub arguments_of : List Expr → Exprs
arguments_of [] = no_exprs
arguments_of (e ∷ es) = more_exprs e (arguments_of es)

abbrev pub calls : Expr → List Expr → Expr
calls f es = call 0 f (arguments_of es)

abbrev pub constructs : Expr → List Expr → Expr
constructs f es = new_with 0 f (arguments_of es)

abbrev pub returns : Expr → Statement
returns e = return 0 (present e) written

-- ---- calls of the five functions of channels

abbrev pub reads : List ℕ → Expr
reads c = calls (named (codes "read")) (text c ∷ [])

abbrev pub prints_on : List ℕ → Expr → Expr
prints_on c e = calls (named (codes "print")) (text c ∷ e ∷ [])

abbrev pub labels : Expr → List ℕ → Expr
labels e o = calls (named (codes "lbl")) (e ∷ text o ∷ [])

-- upgs(e, "A"); and upge(e, key, "A")
abbrev pub raises_structure : Expr → Statement
raises_structure e = does (calls (named (codes "upgs")) (e ∷ text (codes "A") ∷ []))

abbrev pub raises_existence : Expr → List ℕ → Expr
raises_existence e key = calls (named (codes "upge")) (e ∷ text key ∷ text (codes "A") ∷ [])

abbrev pub prints : List ℕ → Expr → Statement
prints c e = does (prints_on c e)

abbrev pub shows : Expr → List Statement
shows e = prints (codes "pub") e ∷ []

-- ---- jumps

abbrev pub in_block : List Statement → Block
in_block body = block_of 0 (list body)

abbrev pub in_braces : List Statement → Statement
in_braces body = block (in_block body)

abbrev pub throws : Expr → Statement
throws e = throw 0 e written

abbrev pub breaks : Statement
breaks = break 0 None written

abbrev pub breaks_to : List ℕ → Statement
breaks_to label = break 0 (Some (ident label)) written

abbrev pub continues : Statement
continues = continue 0 None written

abbrev pub continues_to : List ℕ → Statement
continues_to label = continue 0 (Some (ident label)) written

-- try { body } catch (e) { handler }, and with a last part
abbrev pub tries : List Statement → List Statement → Statement
tries body handler = try_catch 0 (in_block body) (ident (codes "e")) (in_block handler)

abbrev pub tries_and : List Statement → List Statement → Statement
tries_and body last = try_finally 0 (in_block body) (in_block last)

-- a statement that is a text
abbrev pub directive : List ℕ → Statement
directive t = does (text t)

-- ---- names that many scripts use, and what they are

abbrev pub o : Expr
o = named (codes "o")

abbrev pub f : Expr
f = named (codes "f")

abbrev pub g : Expr
g = named (codes "g")

abbrev pub s : Expr
s = named (codes "s")

abbrev pub e : Expr
e = named (codes "e")

-- function f(params) { body }
abbrev pub f_is : List (List ℕ) → List Statement → Statement
f_is params body = declares (named_function 1 (codes "f") params body)

abbrev pub g_is : List Statement → Statement
g_is body = declares (named_function 2 (codes "g") [] body)

-- read("pin") == "1", and a statement under that test
abbrev pub is_one : Expr
is_one = op (reads (codes "pin")) binary_operator.Equal (text (codes "1"))

abbrev pub where_one : Statement → Statement
where_one s = if_then 0 is_one s

-- lbl(e, "A")
abbrev pub hidden : Expr → Expr
hidden e = labels e (codes "A")
