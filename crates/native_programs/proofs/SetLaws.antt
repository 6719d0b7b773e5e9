-- From the equations of a set to its law.
use Rattle.std.proofs.Common.{◌≡◌, ℕ, zero, suc, ◌<◌, Bool, List, [], ◌∷◌, length, get_or, Option, refl, sym, ◌∙◌, ap, arith}
use Rattle.native_protocol.specs.declared.request.Answer.{Answer}
use Rattle.native_protocol.specs.declared.request.Answer.TheVariants as answer
use Rattle.native_protocol.specs.Running.{behind}
use Rattle.native_protocol.specs.Sets.{SeenEntry}
use Rattle.native_protocol.specs.Steps.{Steps, leaves}
use Rattle.native_programs.proofs.ProgramLaws.{call_follows}
use Rattle.native_programs.specs.declared.line.Line.{Line}
use Rattle.native_programs.specs.Programs.{program_begin, program_asks, program_after, program_steps}

-- the clause of each built-in, beside how it is called
abbrev pub clauses_by : {B : Type 0} → (B → SeenEntry → ℕ → Bool → Steps) → List B → List SeenEntry → List (ℕ → Bool → Steps)
clauses_by clause_of (b ∷ bs) (e ∷ es) = clause_of b e ∷ clauses_by clause_of bs es
clauses_by clause_of [] es = []
clauses_by clause_of (b ∷ bs) [] = []

-- no steps
abbrev pub no_clause : ℕ → Bool → Steps
no_clause argc construct = leaves []

clause_at : {B : Type 0} (clause_of : B → SeenEntry → ℕ → Bool → Steps) (b : B) (e : SeenEntry) (bs : List B) (es : List SeenEntry) (which : ℕ) → which < length es → length bs ≡ length es → get_or (clauses_by clause_of bs es) which no_clause ≡ clause_of (get_or bs which b) (get_or es which e)
clause_at clause_of b e [] [] which less same = absurd (omega arith)
clause_at clause_of b e [] (y ∷ ys) which less same = absurd (omega arith)
clause_at clause_of b e (x ∷ xs) [] which less same = absurd (omega arith)
clause_at clause_of b e (x ∷ xs) (y ∷ ys) zero less same = refl
clause_at clause_of b e (x ∷ xs) (y ∷ ys) (suc which) less same = clause_at clause_of b e xs ys which (omega arith) (omega arith)

-- a set follows its clauses where the lines of each built-in mean its clause (or it leaves), and the table of built-ins has the clauses of the rows
pub set_follows : {B : Type 0} (lines_of : B → Option (List Line)) (clause_of : B → SeenEntry → ℕ → Bool → Steps) (b : B) (e : SeenEntry) (bs : List B) (es : List SeenEntry) (clauses : List (ℕ → Bool → Steps))
    → ((x : B) (y : SeenEntry) (argc : ℕ) (construct : Bool) → program_steps (lines_of x) y argc construct ≡ clause_of x y argc construct)
    → clauses_by clause_of bs es ≡ clauses → length bs ≡ length es
    → (which argc : ℕ) (construct : Bool) (answers : List Answer) → which < length es
    → program_asks (behind program_after (program_begin (lines_of (get_or bs which b)) (get_or es which e) argc construct) (answer.Begin ∷ answers)) ≡ get_or clauses which no_clause argc construct answers
set_follows lines_of clause_of b e bs es clauses means_clause alike same which argc construct answers less =
    call_follows (lines_of (get_or bs which b)) (get_or es which e) argc construct answers
    ∙ ap (λ (f : Steps). f answers) (means_clause (get_or bs which b) (get_or es which e) argc construct)
    ∙ ap (λ (f : ℕ → Bool → Steps). f argc construct answers) (sym (clause_at clause_of b e bs es which less same))
    ∙ ap (λ (fs : List (ℕ → Bool → Steps)). get_or fs which no_clause argc construct answers) alike
