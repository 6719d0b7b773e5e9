-- Where a list of tokens is refused, and why: at the first token with which the tokens begin no valid tree within the depth.
use Rattle.std.specs.Prelude.{◌≡◌, ℕ, ◌≤◌, ◌<◌, ◌⊎◌, ◌↔◌, Bool, true, false, List, [], ◌∷◌, ◌++◌, Ok, Err}
use Rattle.js_ast.specs.declared.token.Token.{Token}
use Rattle.js_ast.specs.declared.words.Keyword.TheVariants as key
use Rattle.js_ast.specs.Words.{a_key, word_of}
use Rattle.js_ast.specs.Trees.{Expr, Statements}
use Rattle.js_ast.specs.Validity.{no_in, Valid, ValidStatements, ValidProgram}
use Rattle.js_ast.specs.Grammar.{closes, Spells, ReadsStatements, SpellsProgram}
use Rattle.js_ast.specs.Depth.{depth, depth_statements}
use Rattle.js_list_parser.specs.Reading.{Fault, syntax, with_statement, nesting, refused, Read}

-- ---- what tokens are read as

-- A kind of tree, a nonterminal of the grammar (ECMA-262 5.1). Begins: the tokens begin the spelling of a valid one whose depth is below the number.
-- Is: the tokens that were taken are the spelling of this valid one, whose depth is below the number, and it ends before the others.
pub record Nonterminal (T : Type 0) : Type 1 where
  pub Begins : ℕ → List Token → Type 0
  pub Is : ℕ → T → List Token → List Token → Type 0

-- the same of any depth
abbrev pub BeginsAny : {T : Type 0} → Nonterminal T → List Token → Type 0
BeginsAny kind taken = (limit : ℕ) × kind.Begins limit taken

abbrev pub IsAny : {T : Type 0} → Nonterminal T → List Token → List Token → Type 0
IsAny {T} kind taken others = (limit : ℕ) × (tree : T) × kind.Is limit tree taken others

-- tokens begin the spelling of a program
pub record BeginsProgram (limit : ℕ) (taken : List Token) : Type 0 where
  pub program : Statements
  pub more : List Token
  pub valid : ValidProgram program
  pub shallow : depth_statements program < limit
  pub spells : SpellsProgram program (taken ++ more)

-- a program ends with the tokens
pub record IsWholeProgram (limit : ℕ) (program : Statements) (taken others : List Token) : Type 0 where
  pub valid : ValidProgram program
  pub shallow : depth_statements program < limit
  pub spells : SpellsProgram program taken
  pub all : others ≡ []

abbrev pub a_program : Nonterminal Statements
a_program = record { Begins = BeginsProgram; Is = IsWholeProgram }

-- the statements of a program or a body end with the tokens, or before a `}` that closes none of them
pub record IsList (limit : ℕ) (list : Statements) (taken others : List Token) : Type 0 where
  pub valid : ValidStatements true list
  pub shallow : depth_statements list < limit
  pub reads : ReadsStatements list (taken ++ others) others
  pub closed : closes others ≡ true

-- such statements begin as a program does
abbrev pub a_list : Nonterminal Statements
a_list = record { Begins = BeginsProgram; Is = IsList }

-- tokens begin the spelling of an expression, in which `in` is an operator outside brackets or isn't
pub record BeginsExpression (free : Bool) (limit : ℕ) (taken : List Token) : Type 0 where
  pub tree : Expr
  pub more : List Token
  pub valid : Valid tree
  pub without_in : free ≡ false → no_in tree ≡ true
  pub shallow : depth tree < limit
  pub spells : Spells tree (taken ++ more)

-- no expression, of any depth, goes on with the next token
abbrev pub IsLongest : Bool → List Token → List Token → Type 0
IsLongest free taken [] = Unit {0}
IsLongest free taken (x ∷ others) = (limit : ℕ) → BeginsExpression free limit (taken ++ x ∷ []) → ⊥

-- the longest tokens that begin an expression are one
pub record IsLongestExpression (free : Bool) (limit : ℕ) (tree : Expr) (taken others : List Token) : Type 0 where
  pub valid : Valid tree
  pub without_in : free ≡ false → no_in tree ≡ true
  pub shallow : depth tree < limit
  pub spells : Spells tree taken
  pub longest : IsLongest free taken others

abbrev pub an_expression : Bool → Nonterminal Expr
an_expression free = record { Begins = BeginsExpression free; Is = IsLongestExpression free }

-- ---- why they are refused

-- a word `debugger` that could stand in place of a `with`: on the same line as what is before it, or not
abbrev pub InPlaceOf : Token → Token → Type 0
InPlaceOf x t = (word_of t ≡ a_key key.Debugger) × (t.newline ≡ x.newline)

-- why the tokens that were taken don't go on with the others
abbrev pub Why : {T : Type 0} → Nonterminal T → ℕ → Fault → List Token → List Token → Type 0
-- they are all, and no whole tree
Why kind limit syntax taken [] = IsAny kind taken [] → ⊥
-- they are no whole tree, and begin none with the next token; where that is `with` they don't with `debugger` either: no statement may stand there
Why kind limit syntax taken (x ∷ others) =
    (IsAny kind taken (x ∷ others) → ⊥) × (BeginsAny kind (taken ++ x ∷ []) → ⊥) × (word_of x ≡ a_key key.With → (t : Token) → InPlaceOf x t → BeginsAny kind (taken ++ t ∷ []) → ⊥)
-- the next token is a `with` where a statement may stand, as `debugger` shows
Why kind limit with_statement taken [] = ⊥
Why kind limit with_statement taken (x ∷ others) =
    (IsAny kind taken (x ∷ others) → ⊥) × (BeginsAny kind (taken ++ x ∷ []) → ⊥) × (word_of x ≡ a_key key.With) × ((t : Token) × InPlaceOf x t × BeginsAny kind (taken ++ t ∷ []))
-- with the next token they begin a tree, and none within the depth
Why kind limit nesting taken [] = ⊥
Why kind limit nesting taken (x ∷ others) = BeginsAny kind (taken ++ x ∷ []) × (kind.Begins limit (taken ++ x ∷ []) → ⊥)

-- the tokens that were taken begin a tree within the depth, and for this fault they go no further
pub record IsRefused {T : Type 0} (kind : Nonterminal T) (limit : ℕ) (fault : Fault) (tokens others : List Token) : Type 0 where
  pub taken : List Token
  pub parts : tokens ≡ taken ++ others
  pub begins : kind.Begins limit taken
  pub why : Why kind limit fault taken others

-- ---- what a parser on lists promises

-- it reads a tree exactly where the tokens are one
abbrev pub FindsExactly : {T : Type 0} → Nonterminal T → (ℕ → List Token → Read T) → Type 0
FindsExactly {T} kind read = (limit : ℕ) (tree : T) (taken others : List Token) → (read limit (taken ++ others) ≡ Ok (tree, others)) ↔ kind.Is limit tree taken others

-- and refuses tokens exactly where they are refused
abbrev pub RefusesExactly : {T : Type 0} → Nonterminal T → (ℕ → List Token → Read T) → Type 0
RefusesExactly kind read = (limit : ℕ) (tokens others : List Token) (fault : Fault) → 1 ≤ limit → (read limit tokens ≡ Err (refused fault others)) ↔ IsRefused kind limit fault tokens others

-- ---- what the definitions promise

-- tokens are one tree at most, which ends at one place
abbrev pub OneFound : {T : Type 0} → Nonterminal T → Type 0
OneFound {T} kind = (limit : ℕ) (p q : T) (a b y z : List Token) → a ++ y ≡ b ++ z → kind.Is limit p a y → kind.Is limit q b z → (p ≡ q) × (a ≡ b) × (y ≡ z)

-- they are refused at one place at most, for one fault
abbrev pub OneRefusal : {T : Type 0} → Nonterminal T → Type 0
OneRefusal kind = (limit : ℕ) (tokens a b : List Token) (f g : Fault) → IsRefused kind limit f tokens a → IsRefused kind limit g tokens b → (f ≡ g) × (a ≡ b)

-- a tree begins the tokens
abbrev pub IsFound : {T : Type 0} → Nonterminal T → ℕ → List Token → Type 0
IsFound {T} kind limit tokens = (tree : T) × (taken : List Token) × (others : List Token) × (tokens ≡ taken ++ others) × kind.Is limit tree taken others

-- they are refused somewhere
abbrev pub IsRefusedSomewhere : {T : Type 0} → Nonterminal T → ℕ → List Token → Type 0
IsRefusedSomewhere kind limit tokens = (fault : Fault) × (others : List Token) × IsRefused kind limit fault tokens others

-- one or the other, and not both
abbrev pub FoundOrRefused : {T : Type 0} → Nonterminal T → Type 0
FoundOrRefused kind = (limit : ℕ) (tokens : List Token) → 1 ≤ limit → (IsFound kind limit tokens ⊎ IsRefusedSomewhere kind limit tokens) × (IsFound kind limit tokens → IsRefusedSomewhere kind limit tokens → ⊥)
