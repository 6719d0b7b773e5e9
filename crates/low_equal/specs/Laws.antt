-- What an observer can tell of runs.
use Rattle.std.specs.Prelude.{◌≡◌, ℕ, true, List, Option, ◌⊎◌}
use Rattle.origin_labels.specs.Label.{Label}
use Rattle.flow_policy.specs.Policies.{Tables}
use Rattle.flow_policy.specs.Inputs.{Given}
use Rattle.flow_policy.specs.Observed as policy
use Rattle.js_ast.specs.declared.operators.UnaryOperator.{UnaryOperator}
use Rattle.js_ast.specs.declared.operators.BinaryOperator.{BinaryOperator}
use Rattle.js_ast.specs.Trees.{Ident, Expr, Exprs, MaybeExpr, Items, Properties, Target, Clauses, Block, Statement, Statements}
use Rattle.js_ast.specs.Functions.{FunctionCode}
use Rattle.es_meaning.specs.Directives.{Upgrade}
use Rattle.es_meaning.specs.Outcomes.{Ending, done, threw, halted}
use Rattle.es_meaning.specs.Environments.{Env, Leaving}
use Rattle.native_protocol.specs.declared.hint.Hint.{Hint}
use Rattle.native_protocol.specs.declared.registers.Reg.{Reg}
use Rattle.native_protocol.specs.declared.request.Seen.{Seen}
use Rattle.native_protocol.specs.Steps.{Steps}
use Rattle.js_values.specs.declared.value.Value.{Value}
use Rattle.es_meaning.specs.BuiltIns.{BuiltIns}
use Rattle.es_meaning.specs.Operations.{Calling, Act, Ops, Use, Round, Visit, Rec}
use Rattle.es_meaning.specs.Evaluation as part
use Rattle.es_meaning.specs.Evaluation.{eval}
use Rattle.flow_meaning.specs.Scopes.{Val, LabelledLine, Halt, Jump, jump}
use Rattle.flow_meaning.specs.Tracked.{Reference, Access, Putting, Defining, Enters, entered_access, entered_putting, entered_defining, is_instance, labelled, timed, tracked_run}
use Rattle.low_equal.specs.Observed.{seen_lines, labelled_lines, Front}
use Rattle.low_equal.specs.LowEqual.{Pairing, Agree, AllAgree}
use Rattle.low_equal.specs.Runs.{Confined, Lockstep}

-- ---- the parts of a script, up to a depth of evaluation, for any set of built-ins, and how what is called is entered with them

module _ (set : BuiltIns) (tables : Tables) (inputs : Given) (functions : List FunctionCode) (n : ℕ) where
  abbrev pub reading : Ops
  reading = labelled tables inputs set functions

  abbrev pub parts : Rec reading
  parts = eval (timed tables inputs set functions) set n

  abbrev pub enters : Enters
  enters = part.entering reading parts set

  -- ---- confinement: of each part, and of each thing that is done with the value of a part

  pub record IsConfined (observer : Label) : Type 0 where
    pub expr : (e : Expr) (i : ℕ) → Confined observer tables (parts.expr e i)
    pub use_of : (use_as : Use) (e : Expr) (i : ℕ) → Confined observer tables (parts.use_of use_as e i)
    pub stmt : (s : Statement) (e : Env ℕ) → Confined observer tables (parts.stmt s e)
    pub named : (labels : List (List ℕ)) (s : Statement) (e : Env ℕ) → Confined observer tables (parts.named labels s e)
    pub turn : (round : Round) (e : Env ℕ) → Confined observer tables (parts.turn round e)
    pub visit : (visit : Visit Val) (e : Env ℕ) → Confined observer tables (parts.visit visit e)
    -- a jump
    pub jump : (cause : Label) (j : Jump) → Confined observer tables {X = Unit {0}} (jump cause j)
    -- what is done with values
    pub discard : (v : Val) → Confined observer tables (part.discard reading v)
    pub give : (v : Val) → Confined observer tables (part.give reading v tt)
    pub unary_done : (o : UnaryOperator) (v : Val) → Confined observer tables (part.unary_done reading o v)
    pub unary_value : (o : UnaryOperator) (v : Val) → Confined observer tables (part.unary_value reading enters o v)
    pub binary_done : (o : BinaryOperator) (v u : Val) → Confined observer tables (part.binary_done reading o v u)
    pub compared_left : (o : BinaryOperator) (u v : Val) → Confined observer tables (part.compared_left reading enters o u v)
    pub primitive_left : (hint : Hint) (o : BinaryOperator) (u v : Val) → Confined observer tables (part.primitive_left reading enters hint o u v)
    pub number_left : (o : BinaryOperator) (u v : Val) → Confined observer tables (part.number_left reading enters o u v)
    pub has_left : (u v : Val) → Confined observer tables (part.has_left reading u v)
    pub has_right : (v u : Val) → Confined observer tables (part.has_right reading enters v u)
    pub binary_values : (o : BinaryOperator) (v u : Val) → Confined observer tables (part.binary_values reading enters o v u)
    pub assign_to : (r : Reference) (v : Val) → Confined observer tables (part.assign_to reading enters r v)
    pub assign_giving : (r : Reference) (a v : Val) → Confined observer tables (part.assign_giving reading enters r a v)
    pub postfix_by : (o : BinaryOperator) (r : Reference) (v : Val) → Confined observer tables (part.postfix_by reading enters o r v)
    pub postfix_number : (o : BinaryOperator) (r : Reference) (v : Val) → Confined observer tables (part.postfix_number reading enters o r v)
    pub postfix_value : (o : BinaryOperator) (r : Reference) (v : Val) → Confined observer tables (part.postfix_value reading enters o r v)
    pub prefix_by : (o : BinaryOperator) (r : Reference) (v : Val) → Confined observer tables (part.prefix_by reading enters o r v)
    pub prefix_number : (o : BinaryOperator) (r : Reference) (v : Val) → Confined observer tables (part.prefix_number reading enters o r v)
    pub prefix_value : (o : BinaryOperator) (r : Reference) (v : Val) → Confined observer tables (part.prefix_value reading enters o r v)
    -- what is done in the middle of expressions
    pub binary_right : (o : BinaryOperator) (r : Expr) (i : ℕ) (v : Val) → Confined observer tables (part.binary_right reading enters parts o r i v)
    pub and_right : (r : Expr) (i : ℕ) (v : Val) → Confined observer tables (part.and_right reading enters parts r i v)
    pub or_right : (r : Expr) (i : ℕ) (v : Val) → Confined observer tables (part.or_right reading enters parts r i v)
    pub choose_expr : (a b : Expr) (i : ℕ) (v : Val) → Confined observer tables (part.choose_expr reading enters parts a b i v)
    pub comma_right : (r : Expr) (i : ℕ) (v : Val) → Confined observer tables (part.comma_right reading enters parts r i v)
    pub compound_done : (o : BinaryOperator) (r : Reference) (a v : Val) → Confined observer tables (part.compound_done reading enters parts o r a v)
    pub compound_right : (o : BinaryOperator) (e : Expr) (i : ℕ) (r : Reference) (a : Val) → Confined observer tables (part.compound_right reading enters parts o e i r a)
    pub used : (use_as : Use) (i : ℕ) (r : Reference) → Confined observer tables (part.used reading enters parts use_as i r)
    pub read_value : (r : Reference) → Confined observer tables (part.read_value reading enters parts r)
    pub with_key : (use_as : Use) (i : ℕ) (b k : Val) → Confined observer tables (part.with_key reading enters parts use_as i b k)
    pub with_base : (use_as : Use) (i : ℕ) (k b : Val) → Confined observer tables (part.with_base reading enters parts use_as i k b)
    pub index_key : (use_as : Use) (i : ℕ) (b k : Val) → Confined observer tables (part.index_key reading enters parts use_as i b k)
    pub index_base : (use_as : Use) (e : Expr) (i : ℕ) (b : Val) → Confined observer tables (part.index_base reading enters parts use_as e i b)
    pub member_base : (use_as : Use) (text : List ℕ) (i : ℕ) (b : Val) → Confined observer tables (part.member_base reading enters parts use_as text i b)
    pub more_items : (act : Act) (vs : List Val) (items : Items) (i : ℕ) (v : Val) → Confined observer tables (part.more_items reading enters parts act vs items i v)
    pub more_values : (act : Act) (vs : List Val) (ps : Properties) (i : ℕ) (v : Val) → Confined observer tables (part.more_values reading enters parts act vs ps i v)
    pub more_arguments : (f : Calling Val) (vs : List Val) (es : Exprs) (i : ℕ) (v : Val) → Confined observer tables (part.more_arguments reading enters parts f vs es i v)
    pub call_reference : (r : Reference) (es : Exprs) (i : ℕ) (f : Val) → Confined observer tables (part.call_reference reading enters parts r es i f)
    pub call_value : (es : Exprs) (i : ℕ) (f : Val) → Confined observer tables (part.call_value reading enters parts es i f)
    pub construct_value : (es : Exprs) (i : ℕ) (f : Val) → Confined observer tables (part.construct_value reading enters parts es i f)
    pub instance_right : (r : Expr) (i : ℕ) (v : Val) → Confined observer tables (part.instance_right reading enters parts r i v)
    pub instance_done : (v f : Val) → Confined observer tables (part.instance_done reading enters parts v f)
    -- and of statements
    pub more_variables : (r : Reference) (ds : List (Ident × MaybeExpr)) (i : ℕ) (v : Val) → Confined observer tables (part.more_variables reading enters parts r ds i v)
    pub turn_test : (round : Round) (e : Env ℕ) (v : Val) → Confined observer tables (part.turn_test reading enters parts round e v)
    pub updated : (round : Round) (e : Env ℕ) (v : Val) → Confined observer tables (part.updated reading enters parts round e v)
    pub turned_round : (round : Round) (e : Env ℕ) → Confined observer tables (part.turned_round reading enters parts round e tt)
    pub looped : (round : Round) (e : Env ℕ) → Confined observer tables (part.looped reading enters parts round e tt)
    pub looped_value : (round : Round) (e : Env ℕ) (v : Val) → Confined observer tables (part.looped_value reading enters parts round e v)
    pub visited : (visit : Visit Val) (e : Env ℕ) → Confined observer tables (part.visited reading enters parts visit e tt)
    pub visit_body : (s : Statement) (e : Env ℕ) (v : Val) → Confined observer tables (part.visit_body reading enters parts s e v)
    pub enumerated : (labels : List (Option (List ℕ))) (target : Target) (s : Statement) (e : Env ℕ) (v : Val) → Confined observer tables (part.enumerated reading enters parts labels target s e v)
    pub falls : (cs : Clauses) (e : Env ℕ) → Confined observer tables (part.falls reading enters parts cs e)
    pub case_compared : (v : Val) (ss : Statements) (all cs : Clauses) (e : Env ℕ) (u : Val) → Confined observer tables (part.case_compared reading enters parts v ss cs e (part.cases reading enters parts v all cs e) u)
    pub cases : (v : Val) (all cs : Clauses) (e : Env ℕ) → Confined observer tables (part.cases reading enters parts v all cs e)
    pub switched : (labels : List (List ℕ)) (cs : Clauses) (e : Env ℕ) (v : Val) → Confined observer tables (part.switched reading enters parts labels cs e v)
    pub jump_with : (leaving : Leaving) (e : Env ℕ) (v : Val) → Confined observer tables (part.jump_with reading enters parts leaving e v)
    pub behind_expression : (upgrade : Option Upgrade) (e : Env ℕ) (v : Val) → Confined observer tables (part.behind_expression reading enters parts upgrade e v)
    pub handled : (ident : Ident) (b : Block) (e : Env ℕ) (v : Val) → Confined observer tables (part.handled reading enters parts ident b e v)
    pub choose_stmt : (s : Statement) (e : Env ℕ) (v : Val) → Confined observer tables (part.choose_stmt reading enters parts s e v)
    pub choose_stmts : (s t : Statement) (e : Env ℕ) (v : Val) → Confined observer tables (part.choose_stmts reading enters parts s t e v)
    pub statements : (ss : Statements) (e : Env ℕ) → Confined observer tables (part.statements reading parts ss e)
    -- and of built-ins: a request, and what is done behind one or behind a part of one
    pub native : (steps : Steps) (vs : List Val) → Confined observer tables (parts.native steps vs)
    pub answered : (steps : Steps) (vs : List Val) (v : Val) → Confined observer tables (part.answered reading enters parts steps vs v)
    pub answered_in : (steps : Steps) (vs : List Val) (to : Reg) (v : Val) → Confined observer tables (part.answered_in reading enters parts steps vs to v)
    pub answered_by : (steps : Steps) (vs : List Val) (seen : Seen) → Confined observer tables (part.answered_by reading enters parts steps vs seen)
    pub got_from : (steps : Steps) (vs : List Val) (key : List ℕ) (to : Reg) (b : Val) → Confined observer tables (part.got_from reading enters parts steps vs key to b)
    pub had_by : (steps : Steps) (vs : List Val) (key : List ℕ) (to : Reg) (b : Val) → Confined observer tables (part.had_by reading enters parts steps vs key to b)
    pub put_behind : (steps : Steps) (vs : List Val) → Confined observer tables (part.put_behind reading enters parts steps vs tt)
    pub put_in : (steps : Steps) (vs : List Val) (key : List ℕ) (v b : Val) → Confined observer tables (part.put_in reading enters parts steps vs key v b)
    pub deleted_from : (steps : Steps) (vs : List Val) (key : List ℕ) (to : Reg) (b : Val) → Confined observer tables (part.deleted_from reading enters parts steps vs key to b)
    pub own_setter_read : (steps : Steps) (vs : List Val) (to : Reg) (v : Val) → Confined observer tables (part.own_setter_read reading enters parts steps vs to v)
    pub own_getter_read : (steps : Steps) (vs : List Val) (b : Val) (key : List ℕ) (g s : Reg) (v : Val) → Confined observer tables (part.own_getter_read reading enters parts steps vs b key g s v)
    pub own_value_read : (steps : Steps) (vs : List Val) (b : Val) (key : List ℕ) (to g s : Reg) (v : Val) → Confined observer tables (part.own_value_read reading enters parts steps vs b key to g s v)
    pub own_marks_read : (steps : Steps) (vs : List Val) (b : Val) (key : List ℕ) (marks to g s : Reg) (v : Val) → Confined observer tables (part.own_marks_read reading enters parts steps vs b key marks to g s v)
    -- what a read, a put or a definition comes to is entered, and `instanceof` behind the read of `prototype`
    pub entered_access : (a : Access) → Confined observer tables (entered_access functions enters a)
    pub entered_putting : (v : Val) (p : Putting) → Confined observer tables (entered_putting functions enters v p)
    pub entered_defining : (v : Val) (d : Defining) → Confined observer tables (entered_defining enters v d)
    pub is_instance : (label : Label) (o : ℕ) (v : Value) → Confined observer tables (is_instance label o v)

abbrev pub IsConfining : Type 0
IsConfining = (set : BuiltIns) (observer : Label) (tables : Tables) (inputs : Given) (functions : List FunctionCode) (n : ℕ) → IsConfined set tables inputs functions n observer

-- ---- lockstep: of each part, in records that are paired, with the same depths and labels round it

pub record EnvsAgree (β : Pairing) (e d : Env ℕ) : Type 0 where
  pub place : β.records e.place d.place ≡ true
  pub call : e.call ≡ d.call
  pub around : e.around ≡ d.around

-- turns of a `for in` over values that agree
pub record VisitsAgree (observer : Label) (β : Pairing) (v u : Visit Val) : Type 0 where
  pub labels : v.labels ≡ u.labels
  pub target : v.target ≡ u.target
  pub body : v.body ≡ u.body
  pub object : Agree observer β v.object u.object
  pub key : v.key ≡ u.key
  pub others : v.others ≡ u.others

abbrev pub Nothing : Pairing → Unit {0} → Unit {0} → Type 0
Nothing β a b = Unit {0}

module _ (set : BuiltIns) (tables : Tables) (first second : Given) (functions : List FunctionCode) (n : ℕ) where
  -- the parts in both runs, and how what is called is entered with them
  abbrev pub one : Rec (reading set tables first functions n)
  one = parts set tables first functions n

  abbrev pub other : Rec (reading set tables second functions n)
  other = parts set tables second functions n

  abbrev pub into_one : Enters
  into_one = enters set tables first functions n

  abbrev pub into_other : Enters
  into_other = enters set tables second functions n

  abbrev pub reads_one : Ops
  reads_one = reading set tables first functions n

  abbrev pub reads_other : Ops
  reads_other = reading set tables second functions n

  pub record InLockstep (observer : Label) : Type 0 where
    pub expr : (e : Expr) (β : Pairing) (i j : ℕ) → β.records i j ≡ true → Lockstep observer tables (Agree observer) β (one.expr e i) (other.expr e j)
    pub use_of : (use_as : Use) (e : Expr) (β : Pairing) (i j : ℕ) → β.records i j ≡ true → Lockstep observer tables (Agree observer) β (one.use_of use_as e i) (other.use_of use_as e j)
    pub stmt : (s : Statement) (β : Pairing) (e d : Env ℕ) → EnvsAgree β e d → Lockstep observer tables Nothing β (one.stmt s e) (other.stmt s d)
    pub named : (labels : List (List ℕ)) (s : Statement) (β : Pairing) (e d : Env ℕ) → EnvsAgree β e d → Lockstep observer tables Nothing β (one.named labels s e) (other.named labels s d)
    pub turn : (round : Round) (β : Pairing) (e d : Env ℕ) → EnvsAgree β e d → Lockstep observer tables Nothing β (one.turn round e) (other.turn round d)
    pub visit : (v u : Visit Val) (β : Pairing) → VisitsAgree observer β v u → (e d : Env ℕ) → EnvsAgree β e d → Lockstep observer tables Nothing β (one.visit v e) (other.visit u d)
    -- a request of a built-in, and what is done behind one or behind a part of one, with values in the registers that agree
    pub native : (steps : Steps) (β : Pairing) (vs us : List Val) → AllAgree observer β vs us → Lockstep observer tables (Agree observer) β (one.native steps vs) (other.native steps us)
    pub answered : (steps : Steps) (β : Pairing) (vs us : List Val) → AllAgree observer β vs us → (v u : Val) → Lockstep observer tables (Agree observer) β (part.answered reads_one into_one one steps vs v) (part.answered reads_other into_other other steps us u)
    pub answered_in : (steps : Steps) (to : Reg) (β : Pairing) (vs us : List Val) → AllAgree observer β vs us → (v u : Val) → Agree observer β v u
        → Lockstep observer tables (Agree observer) β (part.answered_in reads_one into_one one steps vs to v) (part.answered_in reads_other into_other other steps us to u)
    pub answered_by : (steps : Steps) (seen : Seen) (β : Pairing) (vs us : List Val) → AllAgree observer β vs us
        → Lockstep observer tables (Agree observer) β (part.answered_by reads_one into_one one steps vs seen) (part.answered_by reads_other into_other other steps us seen)
    pub got_from : (steps : Steps) (key : List ℕ) (to : Reg) (β : Pairing) (vs us : List Val) → AllAgree observer β vs us → (b c : Val) → Agree observer β b c
        → Lockstep observer tables (Agree observer) β (part.got_from reads_one into_one one steps vs key to b) (part.got_from reads_other into_other other steps us key to c)
    pub had_by : (steps : Steps) (key : List ℕ) (to : Reg) (β : Pairing) (vs us : List Val) → AllAgree observer β vs us → (b c : Val) → Agree observer β b c
        → Lockstep observer tables (Agree observer) β (part.had_by reads_one into_one one steps vs key to b) (part.had_by reads_other into_other other steps us key to c)
    pub put_behind : (steps : Steps) (β : Pairing) (vs us : List Val) → AllAgree observer β vs us
        → Lockstep observer tables (Agree observer) β (part.put_behind reads_one into_one one steps vs tt) (part.put_behind reads_other into_other other steps us tt)
    pub put_in : (steps : Steps) (key : List ℕ) (β : Pairing) (vs us : List Val) → AllAgree observer β vs us → (v u b c : Val) → Agree observer β v u → Agree observer β b c
        → Lockstep observer tables (Agree observer) β (part.put_in reads_one into_one one steps vs key v b) (part.put_in reads_other into_other other steps us key u c)
    pub deleted_from : (steps : Steps) (key : List ℕ) (to : Reg) (β : Pairing) (vs us : List Val) → AllAgree observer β vs us → (b c : Val) → Agree observer β b c
        → Lockstep observer tables (Agree observer) β (part.deleted_from reads_one into_one one steps vs key to b) (part.deleted_from reads_other into_other other steps us key to c)
    pub own_setter_read : (steps : Steps) (to : Reg) (β : Pairing) (vs us : List Val) → AllAgree observer β vs us → (v u : Val) → Agree observer β v u
        → Lockstep observer tables (Agree observer) β (part.own_setter_read reads_one into_one one steps vs to v) (part.own_setter_read reads_other into_other other steps us to u)
    pub own_getter_read : (steps : Steps) (key : List ℕ) (g s : Reg) (β : Pairing) (vs us : List Val) → AllAgree observer β vs us → (b c v u : Val) → Agree observer β b c → Agree observer β v u
        → Lockstep observer tables (Agree observer) β (part.own_getter_read reads_one into_one one steps vs b key g s v) (part.own_getter_read reads_other into_other other steps us c key g s u)
    pub own_value_read : (steps : Steps) (key : List ℕ) (to g s : Reg) (β : Pairing) (vs us : List Val) → AllAgree observer β vs us → (b c v u : Val) → Agree observer β b c → Agree observer β v u
        → Lockstep observer tables (Agree observer) β (part.own_value_read reads_one into_one one steps vs b key to g s v) (part.own_value_read reads_other into_other other steps us c key to g s u)
    pub own_marks_read : (steps : Steps) (key : List ℕ) (marks to g s : Reg) (β : Pairing) (vs us : List Val) → AllAgree observer β vs us → (b c v u : Val) → Agree observer β b c → Agree observer β v u
        → Lockstep observer tables (Agree observer) β (part.own_marks_read reads_one into_one one steps vs b key marks to g s v) (part.own_marks_read reads_other into_other other steps us c key marks to g s u)

abbrev pub IsLockstep : Type 0
IsLockstep = (set : BuiltIns) (observer : Label) (tables : Tables) (first second : Given) (functions : List FunctionCode) (n : ℕ) → policy.Agree observer tables first second
    → InLockstep set tables first second functions n observer

-- ---- whole runs

-- a run is finished: it reached its end, or an exception left it
abbrev pub IsFinishedBy : Ending Halt → Type 0
IsFinishedBy done = Unit {0}
IsFinishedBy (threw shown) = Unit {0}
IsFinishedBy (halted halt) = ⊥

abbrev pub OneIsFront : {A : Type 0} → List A → List A → Type 0
OneIsFront xs ys = Front xs ys ⊎ Front ys xs

-- two runs of one script on inputs that agree for an observer. Their turns may differ
pub record IsIsolated (set : BuiltIns) (observer : Label) (tables : Tables) (first second : Given) (program : Statements) (turns others : ℕ) : Type 0 where
  -- isolation: where both are finished they write the same lines on the channels that it sees
  pub on_channels : IsFinishedBy (tracked_run set tables first program turns).ending → IsFinishedBy (tracked_run set tables second program others).ending
      → seen_lines observer tables (tracked_run set tables first program turns).lines ≡ seen_lines observer tables (tracked_run set tables second program others).lines
  -- and the same lines with recorded labels that it sees, whatever the labels of their channels are
  pub by_labels : IsFinishedBy (tracked_run set tables first program turns).ending → IsFinishedBy (tracked_run set tables second program others).ending
      → labelled_lines observer (tracked_run set tables first program turns).lines ≡ labelled_lines observer (tracked_run set tables second program others).lines
  -- however they end, and wherever they are cut off, what it sees of one is how what it sees of the other begins
  pub fronts : (ls ms : List LabelledLine) → Front ls (tracked_run set tables first program turns).lines → Front ms (tracked_run set tables second program others).lines
      → OneIsFront (seen_lines observer tables ls) (seen_lines observer tables ms)

abbrev pub IsIsolating : Type 0
IsIsolating = (set : BuiltIns) (observer : Label) (tables : Tables) (first second : Given) (program : Statements) (turns others : ℕ)
    → policy.Agree observer tables first second → IsIsolated set observer tables first second program turns others
