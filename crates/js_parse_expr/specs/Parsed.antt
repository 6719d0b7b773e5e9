-- What a parser answers, of whatever kind of tree: the tree that the tokens are from a place on, or why they are none.
use Rattle.std.specs.Prelude.{◌≡◌, ℕ, ◌+◌, List, [], ◌∷◌, ◌++◌, length, drop, Option, Some, None}
use Rattle.js_ast.specs.declared.token.Token.{Token}
use Rattle.js_list_parser.specs.Reading.{Fault, syntax, with_statement, nesting}
use Rattle.js_list_parser.specs.Refusals.{Nonterminal, IsRefused}
use Rattle.js_faults.specs.declared.directives.BadDirective.{BadDirective}
use Rattle.js_parse_expr.specs.declared.fault.ParseFault.{ParseFault}
use Rattle.js_parse_expr.specs.declared.fault.ParseFault.TheVariants as fault

-- the tokens from one to another are this tree, which is valid and of a depth below the number
pub record IsTreeAt {T : Type 0} (kind : Nonterminal T) (limit : ℕ) (tokens : List Token) (from : ℕ) (tree : T) (to : ℕ) : Type 0 where
  pub taken : List Token
  pub others : List Token
  pub parts : drop from tokens ≡ taken ++ others
  pub place : to ≡ from + length taken
  pub is : kind.Is limit tree taken others

-- and each upgrade directive in it has the form of one: the first that hasn't is given for each tree
pub record IsParsed {T : Type 0} (kind : Nonterminal T) (bad_directive : T → Option BadDirective) (limit : ℕ) (tokens : List Token) (from : ℕ) (tree : T) (to : ℕ) : Type 0 where
  pub tree_at : IsTreeAt kind limit tokens from tree to
  pub formed : bad_directive tree ≡ None

-- the place of the first token, or of the end of the source
abbrev pub place_or : ℕ → List Token → ℕ
place_or end [] = end
place_or end (t ∷ ts) = t.from

-- tokens that begin a tree within the depth, and are none
pub record IsRefusedAt {T : Type 0} (kind : Nonterminal T) (limit : ℕ) (tokens : List Token) (end at : ℕ) (why : Fault) : Type 0 where
  pub others : List Token
  pub refused : IsRefused kind limit why tokens others
  pub place : at ≡ place_or end others

-- a tree but for the form of a directive
pub record HasBadDirective {T : Type 0} (kind : Nonterminal T) (bad_directive : T → Option BadDirective) (limit : ℕ) (tokens : List Token) (from at : ℕ) : Type 0 where
  pub tree : T
  pub to : ℕ
  pub tree_at : IsTreeAt kind limit tokens from tree to
  pub directive : BadDirective
  pub first : bad_directive tree ≡ Some directive
  pub place : at ≡ directive.at

-- why no tree begins so; that memory ran out says nothing of the tokens
abbrev pub IsReadFault : {T : Type 0} → Nonterminal T → ℕ → List Token → ℕ → ParseFault → Type 0
IsReadFault kind limit tokens end (fault.Syntax at) = IsRefusedAt kind limit tokens end at syntax
IsReadFault kind limit tokens end (fault.With at) = IsRefusedAt kind limit tokens end at with_statement
IsReadFault kind limit tokens end (fault.Nesting at) = IsRefusedAt kind limit tokens end at nesting
IsReadFault kind limit tokens end (fault.Directive at) = ⊥
IsReadFault kind limit tokens end fault.OutOfMemory = ⊥

-- why the tokens from a place on are none
abbrev pub IsFault : {T : Type 0} → Nonterminal T → (T → Option BadDirective) → ℕ → List Token → ℕ → ℕ → ParseFault → Type 0
IsFault kind bad_directive limit tokens from end (fault.Directive at) = HasBadDirective kind bad_directive limit tokens from at
IsFault kind bad_directive limit tokens from end f = IsReadFault kind limit (drop from tokens) end f

-- how a fault of the parser on lists is told
abbrev pub told : Fault → ℕ → ParseFault
told syntax at = fault.Syntax at
told with_statement at = fault.With at
told nesting at = fault.Nesting at

-- where a fault is
abbrev pub fault_at : ParseFault → ℕ
fault_at (fault.Syntax at) = at
fault_at (fault.With at) = at
fault_at (fault.Nesting at) = at
fault_at (fault.Directive at) = at
fault_at fault.OutOfMemory = 0
