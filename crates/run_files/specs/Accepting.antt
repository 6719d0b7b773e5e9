-- What the code's parts answer on the way from files to a task.
use Rattle.std.specs.Prelude.{◌≡◌, ℕ, ◌≤◌, List, Option, Some, None, Result, Ok, Err, IfSome, Vec, length}
use Rattle.std.specs.Global.{Global}
use Rattle.flow_io.specs.Files.{Files, file_at}
use Rattle.flow_text.specs.declared.places.Place.{Place}
use Rattle.flow_text.specs.Places.{place_of}
use Rattle.origin_labels.specs.Label.{Label}
use Rattle.js_ast.specs.declared.token.Token.{Token}
use Rattle.js_ast.specs.declared.trees.Program.{Program}
use Rattle.js_ast.specs.Trees.{Statements}
use Rattle.js_ast.specs.Views.{view_program}
use Rattle.js_scan.specs.declared.fault.ScanFault.{ScanFault}
use Rattle.js_scan.specs.Tokens.{IsTokens, IsFault, fault_at}
use Rattle.js_faults.specs.declared.fault.EarlyError.{EarlyError}
use Rattle.js_parse_expr.specs.declared.fault.ParseFault.{ParseFault}
use Rattle.js_parse_expr.specs.declared.fault.ParseFault.TheVariants as parse_fault
use Rattle.js_parse_expr.specs.Parsed.{fault_at as parse_fault_at}
use Rattle.js_parse.specs.Programs.{IsProgram, IsFault as IsNoProgram}
use Rattle.js_early.specs.EarlyErrors.{early_error}
use Rattle.flow_policy.specs.Policies.{Tables}
use Rattle.flow_policy.specs.Inputs.{Given, IsGivenTo}
use Rattle.run_files.specs.declared.sources.Source.{Source}
use Rattle.run_files.specs.declared.refusals.SourceKind.{SourceKind}
use Rattle.run_files.specs.declared.refusals.Refusal.{Refusal}
use Rattle.run_files.specs.declared.refusals.Refusal.TheVariants as refusal
use Rattle.run_files.specs.Sources.{SourceFault, long_source, source_utf8, bad_source, source_limit, source_text, HasProgram, RefusesProgram, scan_kind, parse_kind, early_kind}
use Rattle.run_files.specs.Tasks.{Request, Task, Judged, HasScript, HasNoProgram, observer_in, IsJudged}
use Rattle.run_files.specs.Seen.{seen_refusal}

-- what is said of the files, where the store tells them
abbrev pub OfFiles : Option Files → (Files → Type 0) → Type 0
OfFiles contents Says = IfSome contents Says

-- ---- the bytes of a source

-- the bytes of a source are this text, or are refused
abbrev pub TakesText : List ℕ → Result (List ℕ) Refusal → Type 0
TakesText bytes (Ok text) = source_text bytes ≡ Ok text
TakesText bytes (Err (refusal.SourceUtf8 at)) = source_text bytes ≡ Err (source_utf8 at)
TakesText bytes (Err refusal.OutOfMemory) = Unit {0}
TakesText bytes (Err _) = ⊥

-- the text of a source has a fault of this kind at this place
abbrev pub IsBadText : List ℕ → SourceKind → Place → Type 0
IsBadText text kind place = (fault : ScanFault) × IsFault text fault × (scan_kind fault ≡ Some kind) × (place ≡ place_of text (fault_at fault))

-- the text of a source has these tokens, or is refused
abbrev pub TakesTokens : List ℕ → Result (Vec Token Global) Refusal → Type 0
TakesTokens text (Ok tokens) = IsTokens text tokens.items
TakesTokens text (Err (refusal.BadSource kind place)) = IsBadText text kind place
TakesTokens text (Err refusal.OutOfMemory) = Unit {0}
TakesTokens text (Err _) = ⊥

-- a fault of the tokens of a text, unless memory ran out
abbrev pub IsParseFault : List Token → ℕ → ParseFault → Type 0
IsParseFault tokens end parse_fault.OutOfMemory = Unit {0}
IsParseFault tokens end fault = IsNoProgram tokens end fault

-- the tokens of a text are no program, for a fault of this kind at this place
abbrev pub AreBadTokens : List ℕ → List Token → SourceKind → Place → Type 0
AreBadTokens text tokens kind place = (fault : ParseFault) × IsNoProgram tokens (length text) fault × (parse_kind fault ≡ Some kind) × (place ≡ place_of text (parse_fault_at fault))

-- the tokens of a text are this program, or are refused
abbrev pub TakesTree : List ℕ → List Token → Result Program Refusal → Type 0
TakesTree text tokens (Ok program) = IsProgram tokens (view_program program)
TakesTree text tokens (Err (refusal.BadSource kind place)) = AreBadTokens text tokens kind place
TakesTree text tokens (Err refusal.OutOfMemory) = Unit {0}
TakesTree text tokens (Err _) = ⊥

-- the program of a text has an early error of this kind at this place
abbrev pub IsBadProgram : List ℕ → Statements → SourceKind → Place → Type 0
IsBadProgram text program kind place = (fault : EarlyError) × (early_error program ≡ Some fault) × (kind ≡ early_kind fault.kind) × (place ≡ place_of text fault.at)

-- the program of a text has no early error, or is refused
abbrev pub TakesEarly : List ℕ → Statements → Result (Unit {0}) Refusal → Type 0
TakesEarly text program (Ok _) = early_error program ≡ None
TakesEarly text program (Err (refusal.BadSource kind place)) = IsBadProgram text program kind place
TakesEarly text program (Err _) = ⊥

-- the bytes of a source are this text and this program
abbrev pub IsSourceOf : List ℕ → Source → Type 0
IsSourceOf bytes source = (has : HasProgram bytes (view_program source.program)) × (has.has_tokens.text ≡ source.text)

-- the bytes of a source are what is wanted, or are refused
abbrev pub Takes : {X : Type 0} → (X → Type 0) → (SourceFault → Type 0) → Result X Refusal → Type 0
Takes Is Refuses (Ok x) = Is x
Takes Is Refuses (Err (refusal.SourceUtf8 at)) = Refuses (source_utf8 at)
Takes Is Refuses (Err (refusal.BadSource kind place)) = Refuses (bad_source kind place)
Takes Is Refuses (Err refusal.OutOfMemory) = Unit {0}
Takes Is Refuses (Err _) = ⊥

abbrev pub TakesSource : List ℕ → Result Source Refusal → Type 0
TakesSource bytes result = Takes (IsSourceOf bytes) (RefusesProgram bytes) result

abbrev pub TakesProgram : List ℕ → Result (Unit {0}) Refusal → Type 0
TakesProgram bytes result = Takes (λ _. (program : Statements) × HasProgram bytes program) (RefusesProgram bytes) result

abbrev pub TakesScript : List ℕ → Result Statements Refusal → Type 0
TakesScript bytes result = Takes (HasProgram bytes) (RefusesProgram bytes) result

-- ---- files

-- these are the bytes of a source, or it is too long
abbrev pub ReadsSource : Option Files → List ℕ → Result (Vec ℕ Global) Refusal → Type 0
ReadsSource contents path (Ok bytes) = (length bytes.items ≤ source_limit) × OfFiles contents (λ files. file_at files path ≡ Some bytes.items)
ReadsSource contents path (Err refusal.LongSource) = OfFiles contents (λ files. (bytes : List ℕ) × (file_at files path ≡ Some bytes) × (source_text bytes ≡ Err long_source))
ReadsSource contents path (Err refusal.ReadFault) = Unit {0}
ReadsSource contents path (Err refusal.OutOfMemory) = Unit {0}
ReadsSource contents path (Err _) = ⊥

-- a source is there and is what is wanted, or is refused
abbrev pub AcceptsSource : {X : Type 0} → (X → Files → Type 0) → (SourceFault → Files → Type 0) → Option Files → Result X Refusal → Type 0
AcceptsSource Is Refuses contents (Ok x) = OfFiles contents (Is x)
AcceptsSource Is Refuses contents (Err refusal.LongSource) = OfFiles contents (Refuses long_source)
AcceptsSource Is Refuses contents (Err (refusal.SourceUtf8 at)) = OfFiles contents (Refuses (source_utf8 at))
AcceptsSource Is Refuses contents (Err (refusal.BadSource kind place)) = OfFiles contents (Refuses (bad_source kind place))
AcceptsSource Is Refuses contents (Err refusal.ReadFault) = Unit {0}
AcceptsSource Is Refuses contents (Err refusal.OutOfMemory) = Unit {0}
AcceptsSource Is Refuses contents (Err _) = ⊥

abbrev pub AcceptsProgram : Option Files → List ℕ → Result (Unit {0}) Refusal → Type 0
AcceptsProgram contents path result = AcceptsSource (λ _ files. (program : Statements) × HasScript files path program) (λ fault files. HasNoProgram files path fault) contents result

abbrev pub AcceptsScript : Option Files → List ℕ → Result Statements Refusal → Type 0
AcceptsScript contents path result = AcceptsSource (λ program files. HasScript files path program) (λ fault files. HasNoProgram files path fault) contents result

-- a step of the work over the files comes to this
abbrev pub Steps : {X : Type 0} → Option Files → (Files → Judged X) → Result X Refusal → Type 0
Steps contents step (Ok x) = OfFiles contents (λ files. step files ≡ Some (Ok x))
Steps contents step (Err r) = IfSome (seen_refusal r) (λ fault. OfFiles contents (λ files. step files ≡ Some (Err fault)))

-- the step that reads no file comes to this
abbrev pub Observes : Tables → Option (List ℕ) → Result (Option Label) Refusal → Type 0
Observes tables list (Ok observer) = observer_in tables list ≡ Some (Ok observer)
Observes tables list (Err r) = IfSome (seen_refusal r) (λ fault. observer_in tables list ≡ Some (Err fault))

-- the files of a request state this task, or are refused for the fault of this refusal
abbrev pub Accepts : Request → Option Files → Result Task Refusal → Type 0
Accepts request contents (Ok task) = OfFiles contents (λ files. IsJudged request files (Ok task))
Accepts request contents (Err r) = IfSome (seen_refusal r) (λ fault. OfFiles contents (λ files. IsJudged request files (Err fault)))

-- an input has lines for each input channel of the policy, if it is there
abbrev pub IsGivenIfThere : Tables → Option Given → Type 0
IsGivenIfThere tables second = IfSome second (λ given. IsGivenTo tables given)

-- the answer isn't a read fault
abbrev pub IsRead : {X : Type 0} → Result X Refusal → Type 0
IsRead result = ¬ (result ≡ Err refusal.ReadFault)
