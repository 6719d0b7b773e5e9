-- The bytes of a script file: their text, its tokens, and the program that these spell, or why there is none.
use Rattle.std.specs.Prelude.{◌≡◌, ℕ, List, length, nat_lt, Option, Some, None, Result, Ok, Err, if◌then◌else◌}
use Rattle.flow_text.specs.Utf8.{text_of_utf8}
use Rattle.flow_text.specs.Places.{place_of}
use Rattle.flow_text.specs.declared.places.Place.{Place}
use Rattle.js_ast.specs.declared.token.Token.{Token}
use Rattle.js_ast.specs.Trees.{Statements}
use Rattle.js_scan.specs.declared.fault.ScanFault.{ScanFault}
use Rattle.js_scan.specs.declared.fault.ScanFault.TheVariants as scan_fault
use Rattle.js_scan.specs.Tokens.{IsTokens, IsFault, fault_at}
use Rattle.js_faults.specs.declared.fault.EarlyError.{EarlyError}
use Rattle.js_faults.specs.declared.fault.EarlyErrorKind.{EarlyErrorKind}
use Rattle.js_faults.specs.declared.fault.EarlyErrorKind.TheVariants as fault_kind
use Rattle.js_parse_expr.specs.declared.fault.ParseFault.{ParseFault}
use Rattle.js_parse_expr.specs.declared.fault.ParseFault.TheVariants as parse_fault
use Rattle.js_parse_expr.specs.Parsed.{fault_at as parse_fault_at}
use Rattle.js_parse.specs.Programs.{IsProgram, IsFault as IsNoProgram}
use Rattle.js_early.specs.EarlyErrors.{early_error}
use Rattle.run_files.specs.declared.refusals.SourceKind.{SourceKind}
use Rattle.run_files.specs.declared.refusals.SourceKind.TheVariants as kind

-- the most bytes of a source
abbrev pub source_limit : ℕ
source_limit = 1048576

-- why a file is no program: it is too long; it isn't UTF-8 behind so many bytes; or it has a fault of this kind at
-- this place
pub data SourceFault : Type 0 where
  long_source : SourceFault
  source_utf8 : ℕ → SourceFault
  bad_source : SourceKind → Place → SourceFault

abbrev pub read_source : Result (List ℕ) ℕ → Result (List ℕ) SourceFault
read_source (Ok text) = Ok text
read_source (Err at) = Err (source_utf8 at)

-- the text of a source
unfoldable pub source_text : List ℕ → Result (List ℕ) SourceFault
source_text bytes = if nat_lt source_limit (length bytes) then Err long_source else read_source (text_of_utf8 bytes)

-- the bytes are a source with these tokens
pub record HasTokens (bytes : List ℕ) (tokens : List Token) : Type 0 where
  pub text : List ℕ
  pub decoded : source_text bytes ≡ Ok text
  pub scanned : IsTokens text tokens

-- the bytes are this program, which has no early error
pub record HasProgram (bytes : List ℕ) (program : Statements) : Type 0 where
  pub tokens : List Token
  pub has_tokens : HasTokens bytes tokens
  pub parsed : IsProgram tokens program
  pub faultless : early_error program ≡ None

-- how a fault of the scanner is called
abbrev pub scan_kind : ScanFault → Option SourceKind
scan_kind (scan_fault.BadToken at) = Some kind.BadToken
scan_kind (scan_fault.Unterminated at) = Some kind.Unterminated
scan_kind (scan_fault.RegExpLiteral at) = Some kind.RegExpLiteral
scan_kind (scan_fault.NumberLiteral at) = Some kind.NumberLiteral
scan_kind scan_fault.OutOfMemory = None

-- how a fault of the parser is called
abbrev pub parse_kind : ParseFault → Option SourceKind
parse_kind (parse_fault.Syntax at) = Some kind.Syntax
parse_kind (parse_fault.With at) = Some kind.With
parse_kind (parse_fault.Nesting at) = Some kind.Nesting
parse_kind (parse_fault.Directive at) = Some kind.Directive
parse_kind parse_fault.OutOfMemory = None

-- how an early error is called
abbrev pub early_kind : EarlyErrorKind → SourceKind
early_kind fault_kind.EvalArguments = kind.EvalArguments
early_kind fault_kind.RepeatedParameter = kind.RepeatedParameter
early_kind fault_kind.RepeatedProperty = kind.RepeatedProperty
early_kind fault_kind.DeleteName = kind.DeleteName
early_kind fault_kind.Jump = kind.Jump
early_kind fault_kind.RepeatedLabel = kind.RepeatedLabel
early_kind fault_kind.StrictWord = kind.StrictWord

-- the bytes are no program without an early error, for this fault: they have no text; their text has no tokens; their tokens are no program; or
-- their program has an early error
pub data RefusesProgram (bytes : List ℕ) (fault : SourceFault) : Type 0 where
  has_no_text : source_text bytes ≡ Err fault → RefusesProgram bytes fault
  has_no_tokens : (text : List ℕ) (f : ScanFault) (k : SourceKind) → source_text bytes ≡ Ok text → IsFault text f → scan_kind f ≡ Some k
      → fault ≡ bad_source k (place_of text (fault_at f)) → RefusesProgram bytes fault
  is_no_program : (tokens : List Token) (has : HasTokens bytes tokens) (f : ParseFault) (k : SourceKind) → IsNoProgram tokens (length has.text) f → parse_kind f ≡ Some k
      → fault ≡ bad_source k (place_of has.text (parse_fault_at f)) → RefusesProgram bytes fault
  has_early_error : (tokens : List Token) (has : HasTokens bytes tokens) (program : Statements) (f : EarlyError) → IsProgram tokens program → early_error program ≡ Some f
      → fault ≡ bad_source (early_kind f.kind) (place_of has.text f.at) → RefusesProgram bytes fault
