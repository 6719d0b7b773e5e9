-- The ends of calls, jumps, `try`, and how a call begins, of a labelled computation are those of the unlabelled one.
use Rattle.std.proofs.Common.{◌≡◌, ℕ, suc, pos, Bool, true, false, ◌||◌, ◌&&◌, nat_lt, List, [], ◌∷◌, ◌++◌, map, length, take, ◌-◌, Option, Some, None, codes, refl, sym, ◌∙◌, ap, ap₂, subst, true≢false, arith}
use Rattle.std.specs.Option.{option_map}
use Rattle.std.proofs.lemmas.Bool.{lt-ltb, le-ltb}
use Rattle.std.proofs.lemmas.List.{take_at}
use Rattle.origin_labels.specs.Label.{Label, bottom, within}
use Rattle.flow_frames.specs.declared.kind.Kind.TheVariants as kind
use Rattle.flow_frames.specs.declared.faults.Rule.{Rule}
use Rattle.flow_frames.specs.declared.faults.Rule.TheVariants.{W10}
use Rattle.flow_frames.specs.Frames.{context, Frame}
use Rattle.flow_frames.specs.Changes.{changed_at}
use Rattle.js_number.specs.declared.primitive.Primitive.TheVariants.{Num}
use Rattle.js_number.specs.declared.num.Num.TheVariants.{Int}
use Rattle.js_values.specs.declared.value.Value.{Value}
use Rattle.js_values.specs.declared.value.Value.TheVariants as value
use Rattle.js_values.specs.declared.property.Body.TheVariants.{Data}
use Rattle.js_values.specs.declared.property.Slot.{Slot}
use Rattle.js_values.specs.Arrays.{element_key}
use Rattle.js_values.specs.Objects.{Rows, Property, PlainObject, Object}
use Rattle.js_values.specs.Records.{Binding, Bindings, Record, found}
use Rattle.js_ast.specs.Trees.{Ident, Function, name_of, params_of, body_of}
use Rattle.js_ast.specs.Functions.{FunctionCode}
use Rattle.es_meaning.specs.Outcomes as es
use Rattle.es_meaning.specs.Outcomes.{Exit, Outcome, Goes, Jumps, Ends, ret, and_then, ◌>>=◌}
use Rattle.es_meaning.specs.Operations.{One}
use Rattle.es_meaning.specs.Operations.{Value as a_value}
use Rattle.es_meaning.specs.Environments.{Leaving}
use Rattle.es_meaning.specs.Declared.{declared_functions, declared_statements}
use Rattle.es_meaning.specs.Naming.{arguments_name, names_in_statements}
use Rattle.es_meaning.specs.Functions.{env_id, function_objects, objects_of, references_of, behind_functions, closes_over, own_name, elements_down, arguments_rows, accessor_rows, unless_bound, binds, bound_by, kept_by, with_parameters, with_functions, with_arguments, with_variables, name_text, Entry, entry_bindings, entry_record, made_if}
use Rattle.es_meaning.specs.Functions as functions_of
use Rattle.es_meaning.specs.Objects.{made_by_script, defined}
use Rattle.es_meaning.specs.Start.{id, built_in}
use Rattle.es_meaning.specs.Plain as plain
use Rattle.es_meaning.specs.Plain.{State, P, choose, undefined, is_return, is_throw, ended_call, ended_construction, handled_throw, finished}
use Rattle.flow_meaning.specs.Erased.{erased_rows, erased_object, erased_heap, erased_bindings, erased_record, erased_records, labelled_by, labelled_values, made_objects, unlabelled}
use Rattle.flow_meaning.specs.Scopes as scopes
use Rattle.flow_meaning.specs.Scopes.{Val, Halt, L, joined, Came, ended, caught, Left, popped, stay, scope, pushed_on, answer, construction, quiet, quieted_in, react, resume, finish, tried, raise_frame, frame_of}
use Rattle.flow_meaning.specs.Requested.{data_slot, arguments_object}
use Rattle.flow_meaning.specs.Tracked as tracked
use Rattle.low_equal.specs.Erasure.{erased_lines}
use Rattle.low_equal.proofs.Erased.{erased_jump, erased, Extends, goes_extends, jumps_extends, extends_more, extends_bind, Mark, calls, tries, catches, aim, first, Shaped, choose_true, choose_false, length_shaped, first_most, pushed_shaped, raised_shaped, Yields, goes, jumps, ends, stops, Lift, goes_to, ret_lifts, yields_bind, under_yields, jump_yields, choose_lifts, Pops, went, stayed, passed, halts, breaks, not_aimed, popped_pops, scope_pops, passing_yields, not_caught, actives, activity, length_actives}
use Rattle.low_equal.proofs.ErasedHeaps.{defined_erased, length_erased, appended_erased, rows_appended, rows_made, objects_made, values_of, values_length}
use Rattle.low_equal.proofs.ErasedActs.{found_erased, rebound_erased, erased_binding}

-- ---- the end of a call

-- what stops at it is a return
aimed_call : (j : Exit) → catches j calls ≡ true → is_return j ≡ true
aimed_call j e = by_case (is_return j) e
  where
    by_case : (b : Bool) → (b || false) ≡ true → b ≡ true
    by_case true q = refl
    by_case false q = q

-- it prints nothing
pub call_extends : (lines : List plain.Line) (p : Outcome es.Halt plain.Jump (Unit {0}) State) → Extends lines p → Extends lines (ended_call p)
unfolding ended_call
call_extends lines (Goes a s) x = record { rest = x.rest; lines_are = x.lines_are }
call_extends lines (Jumps j s) x = by_case (is_return j.exit)
  where
    by_case : (b : Bool) → Extends {X = Value} lines (choose b (Goes j.value s) (Jumps j s))
    by_case true = record { rest = x.rest; lines_are = x.lines_are }
    by_case false = record { rest = x.rest; lines_are = x.lines_are }
call_extends lines (Ends halt s) x = record { rest = x.rest; lines_are = x.lines_are }

-- the end of the frame is that of the call
call_yields : {w : List Mark} {o : Outcome Halt scopes.Jump (Left (Unit {0})) scopes.State} {p : Outcome es.Halt plain.Jump (Unit {0}) State} → Pops One calls w o p → Yields a_value w (and_then o (λ c. ret (answer c))) (ended_call p)
unfolding ended_call
call_yields (went r) = goes r
call_yields {w} (stayed {label = label} {j = j} {s = s} c r) = subst (Yields a_value w (Goes (joined label j.value) s)) (sym (choose_true (is_return j.exit) _ _ (aimed_call j.exit c))) (goes r)
call_yields {w} (passed {j = j} {s = s} c r e) = subst (Yields a_value w (Jumps j s)) (sym (choose_false (is_return j.exit) _ _ (not_aimed j.exit calls c))) (jumps r e)
call_yields halts = ends
call_yields (breaks {p = p} broken x) = stops broken (call_extends _ p x)

pub call_lifts : {w : List Mark} (label : Label) (f : ℕ → L (Unit {0})) (g : P (Unit {0})) → Lift One (calls ∷ w) (f (suc (length w))) g → Lift a_value w (scope kind.Call label f >>= λ c. ret (answer c)) (λ s. ended_call (g s))
call_lifts label f g h = record { yields = λ s r. call_yields (scope_pops calls kind.Call label refl f g h s r); extends = λ s. call_extends s.lines (g s) (h.extends s) }

-- and of a construction
pub made_extends : (fresh : ℕ) (lines : List plain.Line) (p : Outcome es.Halt plain.Jump Value State) → Extends lines p → Extends lines (ended_construction fresh p)
unfolding ended_construction
made_extends fresh lines (Goes a s) x = record { rest = x.rest; lines_are = x.lines_are }
made_extends fresh lines (Jumps j s) x = record { rest = x.rest; lines_are = x.lines_are }
made_extends fresh lines (Ends halt s) x = record { rest = x.rest; lines_are = x.lines_are }

pub made_yields : (fresh : ℕ) {w : List Mark} {o : Outcome Halt scopes.Jump (Left (Unit {0})) scopes.State} {p : Outcome es.Halt plain.Jump (Unit {0}) State} → Pops One calls w o p
    → Yields a_value w (and_then o (λ c. ret (construction fresh c))) (ended_construction fresh (ended_call p))
unfolding ended_call ended_construction
made_yields fresh (went r) = goes r
made_yields fresh {w} (stayed {label = label} {j = j} {s = s} c r) =
    subst (λ q. Yields a_value w (Goes (construction fresh (record { label = label; how = caught j })) s) (ended_construction fresh q)) (sym (choose_true (is_return j.exit) _ _ (aimed_call j.exit c))) (goes r)
made_yields fresh {w} (passed {j = j} {s = s} c r e) = subst (λ q. Yields a_value w (Jumps j s) (ended_construction fresh q)) (sym (choose_false (is_return j.exit) _ _ (not_aimed j.exit calls c))) (jumps r e)
made_yields fresh halts = ends
made_yields fresh (breaks {p = p} broken x) = stops broken (made_extends fresh _ (ended_call p) (call_extends _ p x))

-- ---- `try`

-- the frame is there, active or not; or a jump went on, where nothing is done last
data Mid (finishes : Bool) (w : List Mark) : Outcome Halt scopes.Jump (Came (Unit {0})) scopes.State → Outcome es.Halt plain.Jump (Unit {0}) State → Type 0 where
  mid_ended : {b : Bool} {s : scopes.State} → Shaped (tries b ∷ w) s.frames → Mid finishes w (Goes (ended tt) s) (Goes tt (erased s))
  mid_caught : {b : Bool} {j : scopes.Jump} {s : scopes.State} → Shaped (tries b ∷ w) s.frames → j.to ≡ aim j.exit w → Mid finishes w (Goes (caught j) s) (Jumps (erased_jump j) (erased s))
  mid_passed : {j : scopes.Jump} {s : scopes.State} → finishes ≡ false → Shaped (first j.exit w) s.frames → j.to ≡ aim j.exit w → Mid finishes w (Jumps j s) (Jumps (erased_jump j) (erased s))
  mid_halts : {halt : es.Halt} {s : scopes.State} → Mid finishes w (Ends (scopes.as_plain halt) s) (Ends halt (erased s))
  mid_stops : {rule : Rule} {need have : Label} {s : scopes.State} {p : Outcome es.Halt plain.Jump (Unit {0}) State} → within need have ≡ false → Extends (erased_lines s.lines) p → Mid finishes w (Ends (scopes.stopped rule need have) s) p

-- the innermost frame catches no longer
quiet_activity : (f : Frame) (frames : List Frame) → activity (changed_at (λ g. record g { active = false }) (f ∷ frames) (length frames)) ≡ take (length frames) (activity (f ∷ frames)) ++ false ∷ []
unfolding changed_at
quiet_activity f [] = refl
quiet_activity f (g ∷ frames) = ap (λ bs. f.active ∷ bs) (quiet_activity g frames)

quiet_frames : (w : List Mark) (b : Bool) (frames : List Frame) → Shaped (tries b ∷ w) frames → Shaped (tries false ∷ w) (changed_at (λ g. record g { active = false }) frames (length frames - 1))
quiet_frames w b [] r = absurd (let h : 0 ≡ suc (suc (length w)) = length_shaped r in omega arith)
quiet_frames w b (f ∷ frames) r =
    let count : suc (length frames) ≡ suc (suc (length w)) = length_shaped r in
    let place : length (f ∷ frames) - 1 ≡ length frames = omega arith in
    let many : length frames ≡ suc (length w) = omega arith in
    subst (λ n. Shaped (tries false ∷ w) (changed_at (λ g. record g { active = false }) (f ∷ frames) n)) (sym place)
    (record { shape = quiet_activity f frames ∙ ap (λ bs. bs ++ false ∷ []) (ap₂ take many r.shape ∙ take_at (actives w) (b ∷ []) (suc (length w)) (length_actives w)) })

-- a jump stays at an active frame, and goes on past one that isn't
stay_mid : (finishes b : Bool) {w : List Mark} {o : Outcome Halt scopes.Jump (Unit {0}) scopes.State} {p : Outcome es.Halt plain.Jump (Unit {0}) State} → (b ≡ false → finishes ≡ false) → Yields One (tries b ∷ w) o p
    → Mid finishes w (stay (suc (length w)) o) p
unfolding stay
stay_mid finishes b h (goes r) = mid_ended r
stay_mid finishes true {w} h (jumps {j = j} {s = s} r e) =
    subst (λ q. Mid finishes w q (Jumps (erased_jump j) (erased s))) (sym (choose_true (nat_lt (suc (length w)) (length s.frames)) _ _ (lt-ltb (suc (length w)) (length s.frames) (let k = length_shaped r in omega arith)))) (mid_caught r e)
stay_mid finishes false {w} h (jumps {j = j} {s = s} r e) =
    subst (λ q. Mid finishes w q (Jumps (erased_jump j) (erased s)))
    (sym (choose_false (nat_lt (suc (length w)) (length s.frames)) _ _ (le-ltb (suc (length w)) (length s.frames) (let k = length_shaped r in let q = first_most j.exit w in omega arith)))) (mid_passed (h refl) r e)
stay_mid finishes b h ends = mid_halts
stay_mid finishes b h (stops broken x) = mid_stops broken x

-- what is thrown is handled
handled_extends : (handles : Bool) (g : Value → P (Unit {0})) → ((v : Value) (s : State) → Extends s.lines (g v s)) → (lines : List plain.Line) (p : Outcome es.Halt plain.Jump (Unit {0}) State) → Extends lines p → Extends lines (handled_throw handles g p)
unfolding handled_throw
handled_extends handles g h lines (Goes a s) x = record { rest = x.rest; lines_are = x.lines_are }
handled_extends handles g h lines (Jumps j s) x = by_case (handles && is_throw j.exit)
  where
    by_case : (b : Bool) → Extends lines (choose b (g j.value s) (Jumps j s))
    by_case true = extends_more lines s.lines x.rest (g j.value s) x.lines_are (h j.value s)
    by_case false = record { rest = x.rest; lines_are = x.lines_are }
handled_extends handles g h lines (Ends halt s) x = record { rest = x.rest; lines_are = x.lines_are }

react_mid : (handles finishes : Bool) {w : List Mark} {o : Outcome Halt scopes.Jump (Unit {0}) scopes.State} {p : Outcome es.Halt plain.Jump (Unit {0}) State} (f : Val → L (Unit {0})) (g : Value → P (Unit {0}))
    → ((b : Bool) (v : Val) → Lift One (tries b ∷ w) (f v) (g v.value)) → Yields One (tries true ∷ w) o p → Mid finishes w (and_then (stay (suc (length w)) o) (react handles finishes f (suc (length w)))) (handled_throw handles g p)
unfolding stay react handled_throw quiet
react_mid handles finishes f g h (goes r) = mid_ended r
react_mid handles finishes {w} f g h (jumps {j = j} {s = s} r e) =
    subst (λ q. Mid finishes w (and_then q (react handles finishes f (suc (length w)))) (handled_throw handles g (Jumps (erased_jump j) (erased s))))
    (sym (choose_true (nat_lt (suc (length w)) (length s.frames)) _ _ (lt-ltb (suc (length w)) (length s.frames) (let k = length_shaped r in omega arith)))) (by_case (handles && is_throw j.exit) finishes)
  where
    by_case : (b finishes : Bool) → Mid finishes w (choose b (choose finishes (ret tt) quiet >>= λ u s. stay (suc (length w)) (f j.value s)) (ret (caught j)) s) (choose b (g j.value.value (erased s)) (Jumps (erased_jump j) (erased s)))
    by_case true true = stay_mid true true (λ q. absurd (true≢false q)) ((h true j.value).yields s r)
    by_case true false = stay_mid false false (λ q. refl) ((h false j.value).yields (quieted_in s) (quiet_frames w true s.frames r))
    by_case false finishes = mid_caught r e
react_mid handles finishes f g h ends = mid_halts
react_mid handles finishes f g h (stops {p = p} broken x) = mid_stops broken (handled_extends handles g (λ v s. (h true (unlabelled v)).extends s) _ p x)

-- what is done last, and a jump that waited
finished_extends : (m : P (Unit {0})) → ((s : State) → Extends s.lines (m s)) → (lines : List plain.Line) (p : Outcome es.Halt plain.Jump (Unit {0}) State) → Extends lines p → Extends lines (finished m p)
unfolding finished
finished_extends m h lines (Goes a s) x = extends_more lines s.lines x.rest (m s) x.lines_are (h s)
finished_extends m h lines (Jumps j s) x = extends_more lines s.lines x.rest (and_then (m s) (λ u t. Jumps j t)) x.lines_are (extends_bind s.lines (m s) (λ u t. Jumps j t) (h s) (λ u t. jumps_extends j t))
finished_extends m h lines (Ends halt s) x = record { rest = x.rest; lines_are = x.lines_are }

nothing_waits : {w : List Mark} {o : Outcome Halt scopes.Jump (Unit {0}) scopes.State} {p : Outcome es.Halt plain.Jump (Unit {0}) State} → Yields One w o p → Yields One w (and_then o (resume (ended tt))) p
unfolding resume
nothing_waits (goes r) = goes r
nothing_waits (jumps r e) = jumps r e
nothing_waits ends = ends
nothing_waits (stops broken x) = stops broken x

waiting_lifts : {w : List Mark} (j : scopes.Jump) → j.to ≡ aim j.exit w → Lift One w (resume (caught j) tt) (λ s. Jumps (erased_jump j) s)
unfolding resume
waiting_lifts j e = record { yields = λ s r. jump_yields bottom j s e r; extends = λ s. jumps_extends (erased_jump j) s }

finish_yields : (finishes : Bool) {w : List Mark} {o : Outcome Halt scopes.Jump (Came (Unit {0})) scopes.State} {p : Outcome es.Halt plain.Jump (Unit {0}) State} {m : L (Unit {0})} {n : P (Unit {0})} → Lift One (tries false ∷ w) m n → Mid finishes w o p
    → Yields One (tries false ∷ w) (and_then o (finish finishes m)) (finished (choose finishes n (ret tt)) p)
unfolding finish finished quiet
finish_yields finishes {w} {m = m} {n = n} l (mid_ended {b = b} {s = s} r) = nothing_waits ((choose_lifts finishes l (ret_lifts One (tries false ∷ w) tt tt refl)).yields (quieted_in s) (quiet_frames w b s.frames r))
finish_yields finishes {w} {m = m} {n = n} l (mid_caught {b = b} {j = j} {s = s} r e) =
    yields_bind (resume (caught j)) (λ u t. Jumps (erased_jump j) t) ((choose_lifts finishes l (ret_lifts One (tries false ∷ w) tt tt refl)).yields (quieted_in s) (quiet_frames w b s.frames r)) (λ u. waiting_lifts j e) (λ u t. jumps_extends (erased_jump j) t)
finish_yields finishes {w} {n = n} l (mid_passed {j = j} {s = s} q r e) = subst (λ b. Yields One (tries false ∷ w) (Jumps j s) (finished (choose b n (ret tt)) (Jumps (erased_jump j) (erased s)))) (sym q) (jumps r e)
finish_yields finishes l mid_halts = ends
finish_yields finishes {w} {n = n} l (mid_stops {p = p} broken x) = stops broken (finished_extends (choose finishes n (ret tt)) (choose_lifts finishes l (ret_lifts One (tries false ∷ w) tt tt refl)).extends _ p x)

pub attempt_lifts : {w : List Mark} (handles finishes : Bool) {m k : L (Unit {0})} {n j : P (Unit {0})} (f : Val → L (Unit {0})) (g : Value → P (Unit {0})) → Lift One (tries true ∷ w) m n → ((b : Bool) (v : Val) → Lift One (tries b ∷ w) (f v) (g v.value))
    → Lift One (tries false ∷ w) k j → Lift One w (scopes.attempt handles finishes m f k) (plain.attempt handles finishes n g j)
unfolding plain.attempt
attempt_lifts {w} handles finishes {m} {k} {n} {j} f g l h q = record {
  yields = λ s r. passing_yields (λ c. tt) (λ label a. refl) (λ j. not_caught)
      (subst (λ depth. Pops One (tries false) w (popped depth (tried handles finishes m f k depth (pushed_on kind.Try bottom s))) (plain.attempt handles finishes n g j (erased s))) (sym (length_shaped r))
      (popped_pops (finish_yields finishes q (react_mid handles finishes f g h (l.yields (pushed_on kind.Try bottom s) (pushed_shaped (tries true) kind.Try bottom refl r))))));
  extends = λ s. finished_extends (choose finishes j (ret tt)) (choose_lifts finishes q (ret_lifts One (tries false ∷ w) tt tt refl)).extends s.lines (handled_throw handles g (n s)) (handled_extends handles g (λ v s. (h true (unlabelled v)).extends s) s.lines (n s) (l.extends s));
}

-- ---- jumps and directives

pub jumps_lifts : {w : List Mark} (exit : Exit) (to : ℕ) (v : Val) → to ≡ aim exit w → Lift One w (tracked.jumps_to (Some (exit, to)) v) (plain.jumps_to (Some (exit, tt)) v.value)
unfolding tracked.jumps_to plain.jumps_to
jumps_lifts exit to v e = record { yields = λ s r. jump_yields bottom (record { exit = exit; to = to; value = v }) s e r; extends = λ s. jumps_extends _ s }

pub no_jump_lifts : {w : List Mark} (v : Val) → Lift One w (tracked.jumps_to None v) (plain.jumps_to None v.value)
unfolding tracked.jumps_to plain.jumps_to
no_jump_lifts v = record { yields = λ s r. goes r; extends = λ s. goes_extends tt s }

-- a directive raises a frame, which is nothing without labels
raises_yields : {w : List Mark} (leaving : Leaving) (to : Option (Exit × ℕ)) (label : Label) (s : scopes.State) → Shaped w s.frames → Yields One w (tracked.raises leaving to label s) (Goes tt (erased s))
unfolding tracked.raises raise_frame
raises_yields leaving None label s r = goes r
raises_yields leaving (Some to) label s r = under_yields W10 _ _ _ s (goes (raised_shaped (frame_of leaving to.1 s.frames) label r)) (goes_extends tt (erased s))

pub raises_lifts : {w : List Mark} (leaving : Leaving) (to : Option (Exit × ℕ)) (label : Label) → Lift One w (tracked.raises leaving to label) (ret tt)
raises_lifts leaving to label = record { yields = λ s r. raises_yields leaving to label s r; extends = λ s. goes_extends tt s }

-- ---- records: what a call binds

-- as many records
pub records_length : (records : List (Record Val)) → length (erased_records records) ≡ length records
records_length [] = refl
records_length (r ∷ records) = ap suc (records_length records)

-- further records
pub records_appended : (records more : List (Record Val)) → erased_records (records ++ more) ≡ erased_records records ++ erased_records more
records_appended [] more = refl
records_appended (r ∷ records) more = ap (λ rs. erased_record r ∷ rs) (records_appended records more)

-- further bindings
bindings_appended : (bindings more : Bindings Val) → erased_bindings (bindings ++ more) ≡ erased_bindings bindings ++ erased_bindings more
bindings_appended [] more = refl
bindings_appended (b ∷ bindings) more = ap (λ bs. erased_binding b ∷ bs) (bindings_appended bindings more)

bound_by_erased : (o : Option (Binding Val)) (name : List ℕ) (v : Val) (bindings : Bindings Val) → erased_bindings (bound_by o name v bindings) ≡ bound_by (option_map erased_binding o) name v.value (erased_bindings bindings)
bound_by_erased None name v bindings = bindings_appended bindings (binds true name v)
bound_by_erased (Some b) name v bindings = sym (rebound_erased name v bindings)

bound_erased : (name : List ℕ) (v : Val) (bindings : Bindings Val) → erased_bindings (bound_by (found name bindings) name v bindings) ≡ bound_by (found name (erased_bindings bindings)) name v.value (erased_bindings bindings)
bound_erased name v bindings = bound_by_erased (found name bindings) name v bindings ∙ ap (λ o. bound_by o name v.value (erased_bindings bindings)) (sym (found_erased name bindings))

kept_by_erased : (o : Option (Binding Val)) (name : List ℕ) (v : Val) (bindings : Bindings Val) → erased_bindings (kept_by o name v bindings) ≡ kept_by (option_map erased_binding o) name v.value (erased_bindings bindings)
kept_by_erased None name v bindings = bindings_appended bindings (binds true name v)
kept_by_erased (Some b) name v bindings = refl

kept_erased : (name : List ℕ) (v : Val) (bindings : Bindings Val) → erased_bindings (kept_by (found name bindings) name v bindings) ≡ kept_by (found name (erased_bindings bindings)) name v.value (erased_bindings bindings)
kept_erased name v bindings = kept_by_erased (found name bindings) name v bindings ∙ ap (λ o. kept_by o name v.value (erased_bindings bindings)) (sym (found_erased name bindings))

parameters_erased : (missing : Val) (ps : List Ident) (vs : List Val) (bindings : Bindings Val) → erased_bindings (with_parameters missing ps vs bindings) ≡ with_parameters missing.value ps (values_of vs) (erased_bindings bindings)
parameters_erased missing [] vs bindings = refl
parameters_erased missing (p ∷ ps) [] bindings = parameters_erased missing ps [] _ ∙ ap (with_parameters missing.value ps []) (bound_erased p.text missing bindings)
parameters_erased missing (p ∷ ps) (v ∷ vs) bindings = parameters_erased missing ps vs _ ∙ ap (with_parameters missing.value ps (values_of vs)) (bound_erased p.text v bindings)

functions_erased : (fs : List Function) (vs : List Val) (bindings : Bindings Val) → erased_bindings (with_functions fs vs bindings) ≡ with_functions fs (values_of vs) (erased_bindings bindings)
functions_erased [] vs bindings = refl
functions_erased (f ∷ fs) [] bindings = refl
functions_erased (f ∷ fs) (v ∷ vs) bindings = functions_erased fs vs _ ∙ ap (with_functions fs (values_of vs)) (bound_erased (name_text (name_of f)) v bindings)

unless_erased : (o : Option (Binding Val)) (v : Val) (bindings : Bindings Val) → erased_bindings (unless_bound o v bindings) ≡ unless_bound (option_map erased_binding o) v.value (erased_bindings bindings)
unless_erased None v bindings = bindings_appended bindings (binds false arguments_name v)
unless_erased (Some b) v bindings = refl

arguments_bound : (b : Bool) (v : Val) (bindings : Bindings Val) → erased_bindings (with_arguments b v bindings) ≡ with_arguments b v.value (erased_bindings bindings)
arguments_bound true v bindings = unless_erased (found arguments_name bindings) v bindings ∙ ap (λ o. unless_bound o v.value (erased_bindings bindings)) (sym (found_erased arguments_name bindings))
arguments_bound false v bindings = refl

variables_erased : (missing : Val) (names : List (List ℕ)) (bindings : Bindings Val) → erased_bindings (with_variables missing names bindings) ≡ with_variables missing.value names (erased_bindings bindings)
variables_erased missing [] bindings = refl
variables_erased missing (name ∷ names) bindings = variables_erased missing names _ ∙ ap (with_variables missing.value names) (kept_erased name missing bindings)

abbrev erased_entry : Entry Val → Entry Value
erased_entry entry = record { this = entry.this.value; function = entry.function.value; args = values_of entry.args; missing = entry.missing.value; functions = values_of entry.functions; arguments = entry.arguments.value }

entry_erased : (f : Function) (entry : Entry Val) → erased_bindings (entry_bindings f entry) ≡ entry_bindings f (erased_entry entry)
unfolding entry_bindings
entry_erased f entry =
    variables_erased entry.missing (declared_statements (body_of f)) _
    ∙ ap (with_variables entry.missing.value (declared_statements (body_of f))) (arguments_bound (names_in_statements (body_of f)) entry.arguments _
    ∙ ap (with_arguments (names_in_statements (body_of f)) entry.arguments.value) (functions_erased (declared_functions (body_of f)) entry.functions _
    ∙ ap (with_functions (declared_functions (body_of f)) (values_of entry.functions)) (parameters_erased entry.missing (params_of f) entry.args _)))

record_erased_entry : (f : Function) (place : ℕ) (entry : Entry Val) → erased_record (entry_record f place entry) ≡ entry_record f place (erased_entry entry)
record_erased_entry f place entry = ap (λ (bs : Bindings Value). record { outer = Some (env_id place); bindings = bs }) (entry_erased f entry)

-- labels that are joined to values, or given to them, are no part of them
joined_values : (label : Label) (vs : List Val) → values_of (map (joined label) vs) ≡ values_of vs
joined_values label [] = refl
joined_values label (v ∷ vs) = ap (λ us. v.value ∷ us) (joined_values label vs)

pub labelled_are : (label : Label) (vs : List Value) → values_of (labelled_values label vs) ≡ vs
labelled_are label [] = refl
labelled_are label (v ∷ vs) = ap (λ us. v ∷ us) (labelled_are label vs)

-- ---- the `arguments` object

abbrev element : Value → Property
element v = functions_of.property_with v made_by_script

elements_erased : (label : Label) (rows : Rows (Slot Label)) (n : ℕ) (vs : List Val) → erased_rows (elements_down rows n (map (data_slot label) vs)) ≡ elements_down (erased_rows rows) n (map element (values_of vs))
elements_erased label rows n [] = refl
elements_erased label rows n (v ∷ vs) = defined_erased (element_key n) (data_slot label v) (elements_down rows (suc n) (map (data_slot label) vs)) ∙ ap (defined (element_key n) (element v.value)) (elements_erased label rows (suc n) vs)

abbrev length_property : ℕ → Property
length_property n = functions_of.property_with (value.Primitive (Num (Int (pos n)))) built_in

arguments_erased : (number place : ℕ) (vs : List Val) (label : Label) → erased_object (arguments_object number place vs label) ≡ functions_of.arguments_object number place (values_of vs)
arguments_erased number place vs label = ap (λ (rows : Rows Property). record (functions_of.arguments_object number place []) { rows = rows })
    (rows_appended (arguments_rows (record { body = Data (value.Primitive (Num (Int (pos (length vs))))); label = label; existence = label; marks = built_in }) (map (data_slot label) vs)) _
    ∙ ap₂ (λ (rows more : Rows Property). rows ++ more)
    (elements_erased label ((codes "length", record { body = Data (value.Primitive (Num (Int (pos (length vs))))); label = label; existence = label; marks = built_in }) ∷ []) 0 vs ∙ ap (λ n. arguments_rows (length_property n) (map element (values_of vs))) (sym (values_length vs)))
    (rows_made label accessor_rows))

made_if_erased : (b : Bool) (p : Object Label) (q : PlainObject) → erased_object p ≡ q → erased_heap (made_if b p) ≡ made_if b q
made_if_erased true p q e = ap (λ (x : PlainObject). x ∷ []) e
made_if_erased false p q e = refl

-- ---- a call begins

-- without labels, where so many objects and records were made before
abbrev begins : List FunctionCode → ℕ → Function → ℕ → Value → List Value → ℕ → ℕ → State → State
begins functions number f place base args o here s = record s {
  heap = s.heap ++ (objects_of functions o here (declared_functions (body_of f)) ++ made_if (names_in_statements (body_of f)) (functions_of.arguments_object number here args));
  records = s.records ++ entry_record f place (record {
    this = base;
    function = value.Primitive (Num (Int (pos number)));
    args = args;
    missing = undefined;
    functions = references_of o (declared_functions (body_of f));
    arguments = value.Object (id (behind_functions o (declared_functions (body_of f))));
  }) ∷ [];
}

begins_erased : (functions : List FunctionCode) (number : ℕ) (f : Function) (place : ℕ) (base : Val) (vs : List Val) (s : scopes.State)
    → erased (tracked.with_call functions number f place base vs s) ≡ begins functions number f place base.value (values_of vs) (length s.heap) (length s.records) (erased s)
unfolding tracked.with_call
begins_erased functions number f place base vs s =
    let here = context s.frames in
    let declared = declared_functions (body_of f) in
    ap₂ (λ (h : List PlainObject) (rs : List (Record Value)). record (erased s) { heap = h; records = rs })
    (appended_erased s.heap _ ∙ ap (λ (h : List PlainObject). erased_heap s.heap ++ h) (appended_erased (made_objects here (objects_of functions (length s.heap) (length s.records) declared)) _
    ∙ ap₂ (λ (h g : List PlainObject). h ++ g) (objects_made here _) (made_if_erased (names_in_statements (body_of f)) _ _ (arguments_erased number (length s.records) vs here))))
    (records_appended s.records _ ∙ ap (λ (r : Record Value). erased_records s.records ++ r ∷ []) (record_erased_entry f place _
    ∙ ap₂ (λ (args fs : List Value). entry_record f place (record {
      this = base.value;
      function = value.Primitive (Num (Int (pos number)));
      args = args;
      missing = undefined;
      functions = fs;
      arguments = value.Object (id (behind_functions (length s.heap) declared));
    })) (joined_values here vs) (labelled_are here _)))

pub with_call_erased : (functions : List FunctionCode) (number : ℕ) (f : Function) (place : ℕ) (base : Val) (vs : List Val) (s : scopes.State)
    → erased (tracked.with_call functions number f place base vs s) ≡ plain.with_call functions number f place base.value (values_of vs) (erased s)
unfolding plain.with_call
with_call_erased functions number f place base vs s =
    begins_erased functions number f place base vs s ∙ ap₂ (λ o here. begins functions number f place base.value (values_of vs) o here (erased s)) (sym (length_erased s.heap)) (sym (records_length s.records))

-- ---- a function is made

own_name_erased : (name : Option Ident) (place : ℕ) (v : Val) → erased_records (own_name name place v) ≡ own_name name place v.value
own_name_erased None place v = refl
own_name_erased (Some ident) place v = refl

-- without labels, where so many objects and records were made before
abbrev makes : List FunctionCode → Function → ℕ → ℕ → ℕ → State → State
makes functions f place o here s = record s { heap = s.heap ++ function_objects functions o (closes_over (name_of f) place here) f; records = s.records ++ own_name (name_of f) place (value.Object (id o)) }

pub function_lifts : (functions : List FunctionCode) {w : List Mark} (f : Function) (place : ℕ) → Lift a_value w (tracked.make_function functions f place) (plain.make_function functions f place)
unfolding tracked.make_function plain.make_function
function_lifts functions {w} f place = record {
  yields = λ s r. goes_to r (ap (λ n. value.Object (id n)) (sym (length_erased s.heap)))
      (ap₂ (λ (h : List PlainObject) (rs : List (Record Value)). record (erased s) { heap = h; records = rs })
      (appended_erased s.heap _ ∙ ap (λ (h : List PlainObject). erased_heap s.heap ++ h) (objects_made (context s.frames) _))
      (records_appended s.records _ ∙ ap (λ (rs : List (Record Value)). erased_records s.records ++ rs) (own_name_erased (name_of f) place (labelled_by (context s.frames) (value.Object (id (length s.heap))))))
      ∙ ap₂ (λ o here. makes functions f place o here (erased s)) (sym (length_erased s.heap)) (sym (records_length s.records)));
  extends = λ s. goes_extends _ (makes functions f place (length s.heap) (length s.records) s);
}
