-- Laws of the files of a run.
use Rattle.std.specs.Prelude.{◌≡◌, ℕ, ◌⊎◌, List, Result}
use Rattle.flow_io.specs.Files.{Files}
use Rattle.js_ast.specs.Trees.{Statements}
use Rattle.run_files.specs.Sources.{SourceFault, HasProgram, RefusesProgram}
use Rattle.run_files.specs.Tasks.{Request, Task, Fault, IsJudged, ReachesAbsent}

-- bytes are one program at most
abbrev pub IsProgramOnce : Type 0
IsProgramOnce = (first second : Statements) (bytes : List ℕ) → HasProgram bytes first → HasProgram bytes second → first ≡ second

-- bytes are a program or are refused for one fault, and not both
abbrev pub IsProgramOrRefused : Type 0
IsProgramOrRefused = (bytes : List ℕ) → (((program : Statements) × HasProgram bytes program) ⊎ ((fault : SourceFault) × RefusesProgram bytes fault))
    × ((program : Statements) (fault : SourceFault) → HasProgram bytes program → RefusesProgram bytes fault → ⊥)
    × ((first second : SourceFault) → RefusesProgram bytes first → RefusesProgram bytes second → first ≡ second)

-- the files of a request have one judgement at most
abbrev pub IsJudgedOnce : Type 0
IsJudgedOnce = (request : Request) (files : Files) (first second : Result Task Fault) → IsJudged request files first → IsJudged request files second → first ≡ second

-- they have one, or the work reaches an absent file, and not both
abbrev pub IsJudgedOrAbsent : Type 0
IsJudgedOrAbsent = (request : Request) (files : Files) → (((judged : Result Task Fault) × IsJudged request files judged) ⊎ ReachesAbsent request files)
    × ((judged : Result Task Fault) → IsJudged request files judged → ReachesAbsent request files → ⊥)
