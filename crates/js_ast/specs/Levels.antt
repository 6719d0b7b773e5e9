-- The tables of the grammar: operators with their words and levels, the level of an expression, and what may be assigned to.
use Rattle.std.specs.Prelude.{ℕ, min, Bool, true, false}
use Rattle.js_ast.specs.declared.operators.UnaryOperator.{UnaryOperator}
use Rattle.js_ast.specs.declared.operators.UnaryOperator.TheVariants as unary_operator
use Rattle.js_ast.specs.declared.operators.PostfixOperator.{PostfixOperator}
use Rattle.js_ast.specs.declared.operators.PostfixOperator.TheVariants as postfix_operator
use Rattle.js_ast.specs.declared.operators.BinaryOperator.{BinaryOperator}
use Rattle.js_ast.specs.declared.operators.BinaryOperator.TheVariants as binary_operator
use Rattle.js_ast.specs.declared.operators.AssignOperator.{AssignOperator}
use Rattle.js_ast.specs.declared.operators.AssignOperator.TheVariants as assign_operator
use Rattle.js_ast.specs.declared.words.Keyword.TheVariants as key
use Rattle.js_ast.specs.declared.words.Sign.TheVariants as sign
use Rattle.js_ast.specs.Words.{Word, a_key, a_sign}
use Rattle.js_ast.specs.Trees.{Expr, name, number, string, this, null, boolean, paren, array, object, function, member, index, new_with, new_bare, call, postfix, unary, binary, conditional, assign, comma}

abbrev pub unary_word : UnaryOperator → Word
unary_word unary_operator.Delete = a_key key.Delete
unary_word unary_operator.Void = a_key key.Void
unary_word unary_operator.Typeof = a_key key.Typeof
unary_word unary_operator.Plus = a_sign sign.Plus
unary_word unary_operator.Minus = a_sign sign.Minus
unary_word unary_operator.BitNot = a_sign sign.Tilde
unary_word unary_operator.Not = a_sign sign.Not
unary_word unary_operator.Increment = a_sign sign.PlusPlus
unary_word unary_operator.Decrement = a_sign sign.MinusMinus

-- `++` and `--` change their operand
abbrev pub is_step : UnaryOperator → Bool
is_step unary_operator.Increment = true
is_step unary_operator.Decrement = true
is_step _ = false

abbrev pub postfix_word : PostfixOperator → Word
postfix_word postfix_operator.Increment = a_sign sign.PlusPlus
postfix_word postfix_operator.Decrement = a_sign sign.MinusMinus

abbrev pub binary_word : BinaryOperator → Word
binary_word binary_operator.Multiply = a_sign sign.Star
binary_word binary_operator.Divide = a_sign sign.Slash
binary_word binary_operator.Remainder = a_sign sign.Percent
binary_word binary_operator.Add = a_sign sign.Plus
binary_word binary_operator.Subtract = a_sign sign.Minus
binary_word binary_operator.ShiftLeft = a_sign sign.ShiftLeft
binary_word binary_operator.ShiftRight = a_sign sign.ShiftRight
binary_word binary_operator.ShiftRightZero = a_sign sign.ShiftRightZero
binary_word binary_operator.Less = a_sign sign.Less
binary_word binary_operator.Greater = a_sign sign.Greater
binary_word binary_operator.LessEqual = a_sign sign.LessEqual
binary_word binary_operator.GreaterEqual = a_sign sign.GreaterEqual
binary_word binary_operator.Instanceof = a_key key.Instanceof
binary_word binary_operator.In = a_key key.In
binary_word binary_operator.Equal = a_sign sign.Equal
binary_word binary_operator.NotEqual = a_sign sign.NotEqual
binary_word binary_operator.StrictEqual = a_sign sign.StrictEqual
binary_word binary_operator.StrictNotEqual = a_sign sign.StrictNotEqual
binary_word binary_operator.BitAnd = a_sign sign.And
binary_word binary_operator.BitXor = a_sign sign.Xor
binary_word binary_operator.BitOr = a_sign sign.Or
binary_word binary_operator.And = a_sign sign.AndAnd
binary_word binary_operator.Or = a_sign sign.OrOr

-- the level of an operator (ECMA-262 11.5 to 11.11)
abbrev pub binding : BinaryOperator → ℕ
binding binary_operator.Multiply = 12
binding binary_operator.Divide = 12
binding binary_operator.Remainder = 12
binding binary_operator.Add = 11
binding binary_operator.Subtract = 11
binding binary_operator.ShiftLeft = 10
binding binary_operator.ShiftRight = 10
binding binary_operator.ShiftRightZero = 10
binding binary_operator.Less = 9
binding binary_operator.Greater = 9
binding binary_operator.LessEqual = 9
binding binary_operator.GreaterEqual = 9
binding binary_operator.Instanceof = 9
binding binary_operator.In = 9
binding binary_operator.Equal = 8
binding binary_operator.NotEqual = 8
binding binary_operator.StrictEqual = 8
binding binary_operator.StrictNotEqual = 8
binding binary_operator.BitAnd = 7
binding binary_operator.BitXor = 6
binding binary_operator.BitOr = 5
binding binary_operator.And = 4
binding binary_operator.Or = 3

abbrev pub is_in : BinaryOperator → Bool
is_in binary_operator.In = true
is_in _ = false

abbrev pub assign_word : AssignOperator → Word
assign_word assign_operator.Assign = a_sign sign.Assign
assign_word assign_operator.Multiply = a_sign sign.StarAssign
assign_word assign_operator.Divide = a_sign sign.SlashAssign
assign_word assign_operator.Remainder = a_sign sign.PercentAssign
assign_word assign_operator.Add = a_sign sign.PlusAssign
assign_word assign_operator.Subtract = a_sign sign.MinusAssign
assign_word assign_operator.ShiftLeft = a_sign sign.ShiftLeftAssign
assign_word assign_operator.ShiftRight = a_sign sign.ShiftRightAssign
assign_word assign_operator.ShiftRightZero = a_sign sign.ShiftRightZeroAssign
assign_word assign_operator.BitAnd = a_sign sign.AndAssign
assign_word assign_operator.BitXor = a_sign sign.XorAssign
assign_word assign_operator.BitOr = a_sign sign.OrAssign

-- The level of an expression: 17 for a primary one, 16 and 15 for members, `new` and calls, down to 0 for the comma. A member has 16, or 15
-- where its base has 15.
abbrev pub level : Expr → ℕ
level (name at text) = 17
level (number at n) = 17
level (string at text value) = 17
level (this at) = 17
level (null at) = 17
level (boolean at b) = 17
level (paren at e) = 17
level (array at items final) = 17
level (object at props final) = 17
level (function at f) = 17
level (member at e text) = min 16 (level e)
level (index at e i) = min 16 (level e)
level (new_with at e args) = 16
level (new_bare at e) = 15
level (call at e args) = 15
level (postfix at e o) = 14
level (unary at o e) = 13
level (binary at l o r) = binding o
level (conditional at c a b) = 2
level (assign at l o r) = 1
level (comma at l r) = 0

abbrev pub is_bare_new : Expr → Bool
is_bare_new (new_bare at e) = true
is_bare_new _ = false

-- what may be assigned to: a name, a member, an element, or such in parentheses
abbrev pub is_target : Expr → Bool
is_target (name at text) = true
is_target (member at e text) = true
is_target (index at e i) = true
is_target (paren at e) = is_target e
is_target _ = false

-- the right edge is an operator behind its operand
abbrev pub ends_postfix : Expr → Bool
ends_postfix (postfix at e o) = true
ends_postfix (unary at o e) = ends_postfix e
ends_postfix (binary at l o r) = ends_postfix r
ends_postfix (conditional at c a b) = ends_postfix b
ends_postfix (assign at l o r) = ends_postfix r
ends_postfix (comma at l r) = ends_postfix r
ends_postfix _ = false
