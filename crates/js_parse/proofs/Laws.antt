-- A program is what the tokens are from the first to the last, so that what is known of parts holds of programs.
use Rattle.std.proofs.Common.{arith, refl, sym, ap, ◌∙◌, subst, ◌≡◌, ◌≤◌, ◌⊎◌, inl, inr, ℕ, List, [], ◌++◌, append-nil, length, Some, Result, Ok, Err, IfOk, IfErr}
use Rattle.std.specs.List.{All}
use Rattle.std.specs.Result.{MatchResult}
use Rattle.js_ast.specs.declared.token.Token.{Token}
use Rattle.js_ast.specs.declared.trees.Program.{Program}
use Rattle.js_ast.specs.Trees.{Statements}
use Rattle.js_ast.specs.Grammar.{SpellsProgram}
use Rattle.js_ast.specs.Views.{view_program}
use Rattle.js_list_parser.specs.Reading.{Fault, refused}
use Rattle.js_list_parser.specs.Parsing.{program_at}
use Rattle.js_list_parser.specs.Refusals.{a_program}
use Rattle.js_list_parser.proofs.Sound.{parses_exactly}
use Rattle.js_faults.specs.declared.directives.BadDirective.{BadDirective}
use Rattle.js_parse_expr.specs.declared.fault.ParseFault.{ParseFault}
use Rattle.js_parse_expr.specs.declared.fault.ParseFault.TheVariants as fault
use Rattle.js_parse_expr.specs.Parsed.{IsTreeAt, IsParsed, place_or, IsReadFault, told, fault_at}
use Rattle.js_parse_expr.specs.Parts.{bad_directive}
use Rattle.js_parse_expr.proofs.PartLaws.{of_programs, directive_of_program}
use Rattle.js_parse_expr.proofs.ParsedLaws as laws
use Rattle.js_parse.specs.Programs.{IsTree, IsProgram, IsFault}

-- ---- programs as parts

tree_from : (tokens : List Token) (p : Statements) → IsTree tokens p → IsTreeAt a_program 201 tokens 0 p (length tokens)
tree_from tokens p t = record {
  taken = tokens;
  others = [];
  parts = sym (append-nil tokens);
  place = omega arith;
  is = record { valid = t.valid; shallow = (let d = t.shallow in omega (arith, d)); spells = t.spelled; all = refl };
}

pub tree_of : (tokens : List Token) (p : Statements) (to : ℕ) → IsTreeAt a_program 201 tokens 0 p to → IsTree tokens p
tree_of tokens p to t =
    let w = t.is in
    let all : tokens ≡ t.taken = t.parts ∙ ap (λ (v : List Token). t.taken ++ v) w.all ∙ append-nil t.taken in
    record { valid = w.valid; shallow = (let d = w.shallow in omega (arith, d)); spelled = subst (SpellsProgram p) (sym all) w.spells }

program_from : (tokens : List Token) (p : Statements) → IsProgram tokens p → IsParsed a_program bad_directive 201 tokens 0 p (length tokens)
program_from tokens p h = record { tree_at = tree_from tokens p h.tree; formed = h.formed }

program_of : (tokens : List Token) (p : Statements) (to : ℕ) → IsParsed a_program bad_directive 201 tokens 0 p to → IsProgram tokens p
program_of tokens p to h = record { tree = tree_of tokens p to h.tree_at; formed = h.formed }

-- ---- one program, or one fault

pub one_program : (tokens : List Token) (p q : Statements) → IsProgram tokens p → IsProgram tokens q → p ≡ q
one_program tokens p q h k = (laws.one_tree a_program program_at of_programs bad_directive 201 tokens 0 p q (length tokens) (length tokens) (program_from tokens p h) (program_from tokens q k)).0

pub one_fault : (tokens : List Token) (end : ℕ) (f g : ParseFault) → IsFault tokens end f → IsFault tokens end g → f ≡ g
one_fault tokens end = laws.one_fault a_program program_at of_programs bad_directive 201 tokens 0 end

pub never_both : (tokens : List Token) (end : ℕ) (p : Statements) (f : ParseFault) → IsProgram tokens p → IsFault tokens end f → ⊥
never_both tokens end p f h k = laws.never_both a_program program_at of_programs bad_directive 201 tokens 0 end p (length tokens) f (program_from tokens p h) k

pub one_at_least : (tokens : List Token) (end : ℕ) → ((p : Statements) × IsProgram tokens p) ⊎ ((f : ParseFault) × IsFault tokens end f)
one_at_least tokens end = elim (laws.one_at_least a_program program_at of_programs bad_directive 201 tokens 0 end (omega arith)) [
  | inl h ↦ inl (h.0, program_of tokens h.0 h.1 h.2)
  | inr h ↦ inr h
]

-- ---- how the code answers

-- what the parser on lists reads is a tree
pub tree_read : (tokens : List Token) (program : Statements) → program_at 201 tokens ≡ Ok (program, []) → IsTree tokens program
tree_read tokens program e = let h = (parses_exactly 201 tokens program).0 e in record { valid = h.0; shallow = (let d = h.1 in omega (arith, d)); spelled = h.2 }

-- what it refuses is a fault
pub fault_read : (tokens : List Token) (end : ℕ) (f : Fault) (others : List Token) → program_at 201 tokens ≡ Err (refused f others) → IsReadFault a_program 201 tokens end (told f (place_or end others))
fault_read tokens end f others e = laws.fault_read a_program program_at of_programs 201 (omega arith) tokens end f others e

-- a tree with a bad directive has a fault
pub directive_fault : (tokens : List Token) (end : ℕ) (program : Statements) (directive : BadDirective) → IsTree tokens program → Some directive ≡ bad_directive program → IsFault tokens end (fault.Directive directive.at)
directive_fault tokens end program directive t e = record { tree = program; to = length tokens; tree_at = tree_from tokens program t; directive = directive; first = sym e; place = refl }

-- where the tokens begin in the source, so is the fault
pub fault_within : (tokens : List Token) (end : ℕ) (r : Result Program ParseFault) → IfErr r (λ f. (f ≡ fault.OutOfMemory) ⊎ IsFault tokens end f) → All (λ (t : Token). t.from ≤ end) tokens → IfErr r (λ f. fault_at f ≤ end)
fault_within tokens end r h all = laws.answer_within a_program program_at of_programs bad_directive 201 tokens 0 end (directive_of_program 201 end) all r h

-- a program is answered where there is one
pub only_program : (tokens : List Token) (end : ℕ) (r : Result Program ParseFault) → IfOk r (λ p. IsProgram tokens (view_program p)) → IfErr r (λ f. (f ≡ fault.OutOfMemory) ⊎ IsFault tokens end f)
    → (p : Statements) → IsProgram tokens p → MatchResult r (λ found. view_program found ≡ p) (λ f. f ≡ fault.OutOfMemory)
only_program tokens end (Ok found) is none p h = one_program tokens (view_program found) p is h
only_program tokens end (Err f) is (inl e) p h = e
only_program tokens end (Err f) is (inr k) p h = absurd (never_both tokens end p f h k)

-- and a fault where there is one
pub only_fault : (tokens : List Token) (end : ℕ) (r : Result Program ParseFault) → IfOk r (λ p. IsProgram tokens (view_program p)) → IfErr r (λ f. (f ≡ fault.OutOfMemory) ⊎ IsFault tokens end f)
    → (f : ParseFault) → IsFault tokens end f → MatchResult r (λ p. ⊥) (λ found. (found ≡ f) ⊎ (found ≡ fault.OutOfMemory))
only_fault tokens end (Ok found) is none f h = never_both tokens end (view_program found) f is h
only_fault tokens end (Err g) is (inl e) f h = inr e
only_fault tokens end (Err g) is (inr k) f h = inl (one_fault tokens end g f k h)
