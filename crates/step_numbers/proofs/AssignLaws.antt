-- Names that were given numbers.
use Rattle.std.proofs.Common.{refl, sym, ap, ap₂, subst, ◌∙◌, ◌≡◌, ◌≤◌, ◌-◌, ℕ, suc, ℤ, pos, Bool, true, false, List, length, [], Option, Some, None, IsSome, Ok, arith}
use Rattle.std.specs.List.{slice_get}
use Rattle.origin_labels.specs.Label.{Label, IsLabel, bottom, union}
use Rattle.origin_labels.proofs.LabelLaws.{union-bottom}
use Rattle.origin_labels.specs.Stores.{IsKept}
use Rattle.flow_policy.specs.Policies.{Tables, no_tables}
use Rattle.flow_policy.specs.Inputs as inputs
use Rattle.js_ast.specs.Functions.{FunctionCode}
use Rattle.native_protocol.specs.declared.request.Seen.TheVariants as seen_as
use Rattle.native_protocol.specs.Steps.{throws_type_error}
use Rattle.es_meaning.specs.BuiltIns.{BuiltIns}
use Rattle.flow_frames.specs.Frames.{context}
use Rattle.flow_frames.specs.Held as held
use Rattle.js_ast.specs.declared.operators.AssignOperator.{AssignOperator}
use Rattle.js_ast.specs.declared.operators.AssignOperator.TheVariants as assign_operator
use Rattle.js_ast.specs.Trees as trees
use Rattle.js_ast.specs.Trees.{Expr, Semi, Statement}
use Rattle.js_ast.specs.declared.operators.BinaryOperator.{BinaryOperator}
use Rattle.js_ast.specs.declared.operators.PostfixOperator.{PostfixOperator}
use Rattle.js_ast.specs.declared.operators.PostfixOperator.TheVariants as postfix_operator
use Rattle.js_ast.specs.declared.operators.UnaryOperator.TheVariants as unary_operator
use Rattle.js_number.specs.declared.primitive.Primitive.{Primitive}
use Rattle.js_number.specs.declared.primitive.Primitive.TheVariants.{Str}
use Rattle.js_values.specs.declared.value.Value as values
use Rattle.js_values.specs.declared.value.Value.TheVariants as value
use Rattle.js_values.specs.declared.value.Labelled.{Labelled}
use Rattle.js_values.specs.Readings.{HasHeap, HasRecords, read_heap, read_records, read_value}
use Rattle.js_values.specs.Objects.{Object}
use Rattle.js_values.specs.Records.{Record, bound_in}
use Rattle.env_records.specs.Acts.{assign, done}
use Rattle.env_records.specs.Answers.{Comes}
use Rattle.es_meaning.specs.Directives.{Upgrade, upgrade_of}
use Rattle.es_meaning.specs.Environments.{Env}
use Rattle.es_meaning.specs.Evaluation.{assign_giving, assign_to, assigned_by, compound_done, compound_right, behind_expression, expr_step, give, operator_of, postfix_by, postfix_number, postfix_value, stmt_step, use_step, used}
use Rattle.es_meaning.specs.Operators.{binary_of, unary_of}
use Rattle.es_meaning.specs.Plain.{in_record, undefined}
use Rattle.es_meaning.specs.Operations.{One, Use, Value, assigned, postfixed, updated_by}
use Rattle.es_meaning.specs.Outcomes.{Outcome, Goes}
use Rattle.flow_meaning.specs.Scopes.{Halt, Jump, State, Val}
use Rattle.flow_meaning.specs.Erased.{unlabelled}
use Rattle.flow_meaning.specs.Tracked.{Reference, accessed, given, has_value, is_put, put_named, put_value, resolved, seen}
use Rattle.flow_meaning.specs.Planned.{Ask, Give, a_stmt, a_use, an_expr, and_go, and_plan, as_plan, asking, completed, convert_by, enter_access, enter_putting, gave, meaning, perform, plan, planned, with_outcome, with_result}
use Rattle.flow_meaning.proofs.Depth.{is_performed}
use Rattle.flow_meaning.proofs.Performing.{perform_asked}
use Rattle.run_state.specs.declared.world.World.{World}
use Rattle.run_state.specs.Worlds.{Belongs, state_of}
use Rattle.run_state.proofs.ActLaws.{Belongs-later, Grows-refl}
use Rattle.property_access.proofs.ObjectLaws.{Belongs-heap, with_heap}
use Rattle.property_access.proofs.PutLaws.{Belongs-records, put_done, with_records}
use Rattle.js_values.proofs.ReadingLaws.{IsReading-earlier}
use Rattle.step_values.specs.Converted.{converts}
use Rattle.continuations.specs.Shapes.{step_of}
use Rattle.continuations.specs.Settings.{entrance}
use Rattle.step_numbers.specs.Assigned.{Finishes, Gives, Puts, PutsAt, Rebinds}
use Rattle.step_numbers.specs.Evaluated.{integer, Evaluates, labelled_number}
use Rattle.step_numbers.specs.Named.{IsNamed}
use Rattle.step_numbers.proofs.EvaluationLaws.{asked_gave, later, one_left, operated_plan}

-- ---- plans

module _ (tables : Tables) (inputs : inputs.Given) (set : BuiltIns) (functions : List FunctionCode) where
  -- what an expression with `++` or `--` behind it asks for, and what a use of a name is
  asks_postfix : (place : ℕ) (e : Expr) (operator : PostfixOperator) (at : ℕ) (s : State) → plan tables inputs set functions (an_expr (trees.postfix place e operator) at) s ≡ Ask (a_use (postfixed (step_of operator)) e at) s Give
  unfolding plan expr_step
  asks_postfix place e postfix_operator.Increment at s = refl
  asks_postfix place e postfix_operator.Decrement at s = refl

  asks_use : (how : Use) (there : ℕ) (text : List ℕ) (at : ℕ) (s : State) → plan tables inputs set functions (a_use how (trees.name there text) at) s ≡ used (planned tables inputs set functions) (entrance tables inputs set functions) (asking tables inputs set functions) how at (resolved s.records s.heap at text) s
  unfolding plan use_step
  asks_use how there text at s = refl

  -- a reference is given a value, which is what the assignment gives, or another
  assigned_plan : (n : Reference) (v : Val) (t u : State) → put_value n v t ≡ Goes is_put u → assign_to (planned tables inputs set functions) (entrance tables inputs set functions) n v t ≡ Give (gave v) u
  unfolding assign_to give enter_putting
  assigned_plan n v t u puts = ap (λ o. and_plan (with_outcome o (enter_putting functions (entrance tables inputs set functions) v)) (with_result One (give (planned tables inputs set functions) v))) puts

  giving_plan : (n : Reference) (r v : Val) (t u : State) → put_value n v t ≡ Goes is_put u → assign_giving (planned tables inputs set functions) (entrance tables inputs set functions) n r v t ≡ Give (gave r) u
  unfolding assign_giving give enter_putting
  giving_plan n r v t u puts = ap (λ o. and_plan (with_outcome o (enter_putting functions (entrance tables inputs set functions) v)) (with_result One (give (planned tables inputs set functions) r))) puts

  -- a name is given what an expression comes to
  assign_plan : (place there at : ℕ) (text : List ℕ) (r : Expr) (s t u : State) (v : Val) (n : ℕ) → meaning tables inputs set functions (an_expr r at) (record s { turns = n }) ≡ Goes v t → put_value (resolved s.records s.heap at text) v t ≡ Goes is_put u
      → meaning tables inputs set functions (an_expr (trees.assign place (trees.name there text) assign_operator.Assign r) at) (record s { turns = suc (suc n) }) ≡ Goes v u
  unfolding plan expr_step use_step used perform completed
  assign_plan place there at text r s t u v n comes puts =
      let M = meaning tables inputs set functions in
      let name : Reference = resolved s.records s.heap at text in
      is_performed.some_left tables inputs set functions (an_expr (trees.assign place (trees.name there text) assign_operator.Assign r) at) s (suc n)
      ∙ perform_asked M (a_use (assigned r) (trees.name there text) at) (record s { turns = suc n })
      ∙ is_performed.some_left tables inputs set functions (a_use (assigned r) (trees.name there text) at) s n
      ∙ asked_gave tables inputs set functions (an_expr r at) (assign_to (planned tables inputs set functions) (entrance tables inputs set functions) name) (record s { turns = n }) t v comes
      ∙ ap (perform M) (assigned_plan name v t u puts)

  -- what a compound assignment asks for
  asks_compound : (place : ℕ) (e r : Expr) (operator : AssignOperator) (o : BinaryOperator) (at : ℕ) (s : State) → operator_of operator ≡ Some o → plan tables inputs set functions (an_expr (trees.assign place e operator r) at) s ≡ Ask (a_use (updated_by o r) e at) s Give
  unfolding plan expr_step
  asks_compound place e r operator o at s is = ap (λ x. Ask (a_use (assigned_by x r) e at) s Give) is

  -- a name is given what an operator makes of its value and that of an expression
  compound_plan : (place there at : ℕ) (text : List ℕ) (r : Expr) (operator : AssignOperator) (o : BinaryOperator) (s t u : State) (v w : Val) (p : Primitive) (n : ℕ) → operator_of operator ≡ Some o → IsLabel v.label → IsLabel w.label → converts o v.value w.value ≡ false
      → accessed (resolved s.records s.heap at text) (record s { turns = n }) ≡ Goes (has_value v) (record s { turns = n }) → meaning tables inputs set functions (an_expr r at) (record s { turns = n }) ≡ Goes w t → binary_of o v.value w.value ≡ Ok p
      → put_value (resolved s.records s.heap at text) (record { value = value.Primitive p; label = union v.label w.label }) t ≡ Goes is_put u
      → meaning tables inputs set functions (an_expr (trees.assign place (trees.name there text) operator r) at) (record s { turns = suc (suc n) }) ≡ Goes (record { value = value.Primitive p; label = union v.label w.label }) u
  unfolding used compound_right compound_done enter_access perform completed
  compound_plan place there at text r operator o s t u v w p n is left right plain gets comes gives puts =
      let M = meaning tables inputs set functions in
      let x : Val = record { value = value.Primitive p; label = union v.label w.label } in
      let name : Reference = resolved s.records s.heap at text in
      let now : State = record s { turns = n } in
      is_performed.some_left tables inputs set functions (an_expr (trees.assign place (trees.name there text) operator r) at) s (suc n)
      ∙ ap (perform M) (asks_compound place (trees.name there text) r operator o at (record s { turns = suc n }) is)
      ∙ perform_asked M (a_use (updated_by o r) (trees.name there text) at) (record s { turns = suc n })
      ∙ is_performed.some_left tables inputs set functions (a_use (updated_by o r) (trees.name there text) at) s n
      ∙ ap (perform M) (asks_use (updated_by o r) there text at now)
      ∙ ap (λ q. perform M (and_plan (with_outcome q (enter_access functions (entrance tables inputs set functions))) (with_result Value (compound_right (planned tables inputs set functions) (entrance tables inputs set functions) (asking tables inputs set functions) o r at name)))) gets
      ∙ asked_gave tables inputs set functions (an_expr r at) (compound_done (planned tables inputs set functions) (entrance tables inputs set functions) (asking tables inputs set functions) o name v) now t w comes
      ∙ ap (λ q. perform M (and_plan q (with_result Value (assign_to (planned tables inputs set functions) (entrance tables inputs set functions) name)))) (operated_plan tables inputs set functions o v w p t left right plain gives)
      ∙ ap (perform M) (assigned_plan name x t u puts)

  -- a name's number with one more or less is given to it, and the number is what is given
  postfix_counts : (o : BinaryOperator) (n : Reference) (a c : ℤ) (l : Label) (s : State) → unary_of unary_operator.Plus (seen_as.Prim (integer a)) ≡ Ok (integer a) → binary_of o (value.Primitive (integer a)) (value.Primitive (integer (pos 1))) ≡ Ok (integer c)
      → postfix_value (planned tables inputs set functions) (entrance tables inputs set functions) o n (record { value = value.Primitive (integer a); label = l }) s ≡ assign_giving (planned tables inputs set functions) (entrance tables inputs set functions) n (record { value = value.Primitive (integer a); label = l }) (record { value = value.Primitive (integer c); label = union l bottom }) s
  unfolding postfix_value postfix_number postfix_by convert_by given seen
  postfix_counts o n a c l s plus counts =
      let v : Val = record { value = value.Primitive (integer a); label = l } in
      ap (λ r. and_plan (as_plan Value (given l r s)) (with_result Value (postfix_by (planned tables inputs set functions) (entrance tables inputs set functions) o n))) plus
      ∙ ap (λ r. and_plan (as_plan Value (given (union l bottom) r s)) (with_result Value (assign_giving (planned tables inputs set functions) (entrance tables inputs set functions) n v))) counts

  postfix_plan : (place there at : ℕ) (text : List ℕ) (operator : PostfixOperator) (s u : State) (a c : ℤ) (l : Label) (n : ℕ) → IsLabel l
      → unary_of unary_operator.Plus (seen_as.Prim (integer a)) ≡ Ok (integer a) → binary_of (step_of operator) (value.Primitive (integer a)) (value.Primitive (integer (pos 1))) ≡ Ok (integer c)
      → accessed (resolved s.records s.heap at text) (record s { turns = n }) ≡ Goes (has_value (record { value = value.Primitive (integer a); label = l })) (record s { turns = n })
      → put_value (resolved s.records s.heap at text) (record { value = value.Primitive (integer c); label = l }) (record s { turns = n }) ≡ Goes is_put u
      → meaning tables inputs set functions (an_expr (trees.postfix place (trees.name there text) operator) at) (record s { turns = suc (suc n) }) ≡ Goes (record { value = value.Primitive (integer a); label = l }) u
  unfolding used enter_access perform completed
  postfix_plan place there at text operator s u a c l n is_label plus counts gets puts =
      let M = meaning tables inputs set functions in
      let o = step_of operator in
      let v : Val = record { value = value.Primitive (integer a); label = l } in
      let name : Reference = resolved s.records s.heap at text in
      let now : State = record s { turns = n } in
      is_performed.some_left tables inputs set functions (an_expr (trees.postfix place (trees.name there text) operator) at) s (suc n)
      ∙ ap (perform M) (asks_postfix place (trees.name there text) operator at (record s { turns = suc n }))
      ∙ perform_asked M (a_use (postfixed o) (trees.name there text) at) (record s { turns = suc n })
      ∙ is_performed.some_left tables inputs set functions (a_use (postfixed o) (trees.name there text) at) s n
      ∙ ap (perform M) (asks_use (postfixed o) there text at now)
      ∙ ap (λ x. perform M (and_plan (with_outcome x (enter_access functions (entrance tables inputs set functions))) (with_result Value (postfix_value (planned tables inputs set functions) (entrance tables inputs set functions) o name)))) gets
      ∙ ap (perform M) (postfix_counts o name a c l now plus counts)
      ∙ ap (λ k. perform M (assign_giving (planned tables inputs set functions) (entrance tables inputs set functions) name v (record { value = value.Primitive (integer c); label = k }) now)) (union-bottom l is_label)
      ∙ ap (perform M) (giving_plan name v (record { value = value.Primitive (integer c); label = l }) now u puts)

  -- a text gives itself
  text_plan : (place : ℕ) (text units : List ℕ) (at n : ℕ) (s : State) → meaning tables inputs set functions (an_expr (trees.string place text units) at) (record s { turns = suc n }) ≡ Goes (record { value = value.Primitive (Str units); label = bottom }) (record s { turns = n })
  unfolding plan expr_step perform completed
  text_plan place text units at n s = is_performed.some_left tables inputs set functions (an_expr (trees.string place text units) at) s n

  -- an expression statement is its expression, if it is no directive
  finish_plan : (place : ℕ) (e : Expr) (semi : Semi) (env : Env ℕ) (s u : State) (v : Val) (n : ℕ) → upgrade_of e ≡ None → meaning tables inputs set functions (an_expr e env.place) (record s { turns = n }) ≡ Goes v u
      → meaning tables inputs set functions (a_stmt (trees.expression place e semi) env) (record s { turns = suc n }) ≡ Goes (unlabelled undefined) u
  unfolding plan stmt_step behind_expression perform completed and_go
  finish_plan place e semi env s u v n alone comes =
      let M = meaning tables inputs set functions in
      is_performed.some_left tables inputs set functions (a_stmt (trees.expression place e semi) env) s n
      ∙ ap (λ o. and_go o (λ c t. perform M (with_result Value (behind_expression (planned tables inputs set functions) (entrance tables inputs set functions) (asking tables inputs set functions) (upgrade_of e) env) c t))) comes
      ∙ ap (λ (d : Option Upgrade). perform M (behind_expression (planned tables inputs set functions) (entrance tables inputs set functions) (asking tables inputs set functions) d env v u)) alone

-- ---- names

module _ {S T : Type 0} (made : S → T → Type 0) (meaning_of : S → T → Label) (room : S → ℕ) (firm : S → Bool) (earlier store : S) (kept : IsKept made meaning_of room firm earlier store) where
  -- nothing changed
  pub rebinds_none : ((store : S) (label : T) → made store label → IsLabel (meaning_of store label)) → (w : World T) → Belongs made meaning_of earlier w → Rebinds made meaning_of store w w
  rebinds_none rising w belongs = record { belongs = Belongs-later made meaning_of room firm earlier store kept rising w belongs; frames = refl; grows = Grows-refl w }

  -- other records, as many as before
  pub rebinds_records : ((store : S) (label : T) → made store label → IsLabel (meaning_of store label)) → (w : World T) → Belongs made meaning_of earlier w → (records : List (Record (Labelled T))) → HasRecords (made store) records → length records ≡ length w.records
      → Rebinds made meaning_of store w (with_records records w)
  rebinds_records rising w belongs records has same = record {
    belongs = Belongs-records made meaning_of room firm earlier store kept w belongs rising records has;
    frames = refl;
    grows = record { heap = omega arith; records = omega (arith, same); positions = refl };
  }

  -- another heap, of as many objects
  pub rebinds_heap : ((store : S) (label : T) → made store label → IsLabel (meaning_of store label)) → (w : World T) → Belongs made meaning_of earlier w → (heap : List (Object T)) → HasHeap (made store) heap → length heap ≡ length w.heap → Rebinds made meaning_of store w (with_heap heap w)
  rebinds_heap rising w belongs heap has same = record {
    belongs = Belongs-heap made meaning_of room firm earlier store kept rising w belongs heap has same;
    frames = refl;
    grows = record { heap = omega (arith, same); records = omega arith; positions = refl };
  }

  -- a name of a record was given a value
  pub puts_there : (w : World T) → Belongs made meaning_of earlier w → (label : T) → made earlier label → meaning_of earlier label ≡ context (held.seen meaning_of earlier w.frames.frames) → (i : ℕ) (name : List ℕ) (v : Labelled T) → IsSome (bound_in name (slice_get w.records i))
      → (records : List (Record (Labelled T))) → Comes made meaning_of store (λ reading. assign i name (reading label) (read_value reading v)) w.records (λ reading. done (read_records reading records))
      → PutsAt made meaning_of store (in_record i) name v w (with_records records w)
  unfolding put_named
  puts_there w belongs label has is i name v bound records comes = record {
    goes = λ reading told turns walk read. (put_done made meaning_of room firm earlier store kept w belongs label has is i name label v bound records comes).says reading read told turns;
  }

  -- what was assigned is what the assignment gives
  pub assigned_gives : (place there at : ℕ) (old new : World T) (turns : ℕ) (target r : Expr) (text : List ℕ) (v : Labelled T) (left : ℕ) → target ≡ trees.name there text → 2 ≤ turns → Evaluates made meaning_of earlier r at old (turns - 2) v left
      → Puts made meaning_of store at text v old new → Gives made meaning_of store (trees.assign place target assign_operator.Assign r) at old new turns v left
  assigned_gives place there at old new turns target r text v left is enough evaluates puts =
      let evaluated = later made meaning_of room firm earlier store r at old (turns - 2) v left kept evaluates in
      let n = turns - 2 in
      let two : turns ≡ suc (suc n) = omega (arith, enough) in
      record {
        comes = λ tables inputs set functions reading told read.
            ap (λ x. meaning tables inputs set functions (an_expr (trees.assign place x assign_operator.Assign r) at) (state_of reading old told turns)) is
            ∙ ap (λ m. meaning tables inputs set functions (an_expr (trees.assign place (trees.name there text) assign_operator.Assign r) at) (state_of reading old told m)) two
            ∙ assign_plan tables inputs set functions place there at text r (state_of reading old told n) (state_of reading old told left) (state_of reading new told left) (read_value reading v) n (evaluated.comes tables inputs set functions reading told read) (puts.goes reading told left read);
        labelled = evaluated.labelled;
        fewer = let fewer = evaluated.fewer in omega (arith, fewer, enough);
      }

  -- a name's number that was changed by one is what the expression gives
  pub counted_gives : (rising : (store : S) (label : T) → made store label → IsLabel (meaning_of store label)) (place there at : ℕ) (old new : World T) (turns left : ℕ) (target : Expr) (operator : PostfixOperator) (text : List ℕ) (a c : ℤ) (label : T) → target ≡ trees.name there text → 2 ≤ turns
      → IsNamed made meaning_of earlier at text old (labelled_number a label) → left ≡ turns - 2
      → unary_of unary_operator.Plus (seen_as.Prim (integer a)) ≡ Ok (integer a) → binary_of (step_of operator) (value.Primitive (integer a)) (value.Primitive (integer (pos 1))) ≡ Ok (integer c)
      → Puts made meaning_of store at text (labelled_number c label) old new → Gives made meaning_of store (trees.postfix place target operator) at old new turns (labelled_number a label) left
  counted_gives rising place there at old new turns left target operator text a c label is enough named none plus counts puts =
      let n = turns - 2 in
      let two : turns ≡ suc (suc n) = omega (arith, enough) in
      let later_held = (kept.labels label named.labelled).0 in
      record {
        comes = λ tables inputs set functions reading told read.
            let is_label : IsLabel (reading label) = subst IsLabel (sym (read.agrees label later_held)) (rising store label later_held) in
            ap (λ x. meaning tables inputs set functions (an_expr (trees.postfix place x operator) at) (state_of reading old told turns)) is
            ∙ ap (λ m. meaning tables inputs set functions (an_expr (trees.postfix place (trees.name there text) operator) at) (state_of reading old told m)) two
            ∙ postfix_plan tables inputs set functions place there at text operator (state_of reading old told n) (state_of reading new told n) a c (reading label) n is_label plus counts
            (named.comes reading told n (IsReading-earlier made meaning_of room firm earlier store reading kept read)) (puts.goes reading told n read)
            ∙ ap (λ m. Goes (read_value reading (labelled_number a label)) (state_of reading new told m)) (sym none);
        labelled = later_held;
        fewer = omega (arith, none, enough);
      }

module _ {S T : Type 0} (made : S → T → Type 0) (meaning_of : S → T → Label) (rising : (store : S) (label : T) → made store label → IsLabel (meaning_of store label)) (room : S → ℕ) (firm : S → Bool) (earlier middle joined store : S) (before : IsKept made meaning_of room firm earlier middle) (between : IsKept made meaning_of room firm middle joined) (behind : IsKept made meaning_of room firm joined store) where
  -- what a compound assignment assigned is what it gives
  pub updated_gives : (place there at : ℕ) (old new : World T) (turns : ℕ) (target r : Expr) (operator : AssignOperator) (o : BinaryOperator) (text : List ℕ) (v w : Labelled T) (p : Primitive) (label : T) (left given : ℕ) → target ≡ trees.name there text → 2 ≤ turns → operator_of operator ≡ Some o → converts o v.value w.value ≡ false
      → IsNamed made meaning_of earlier at text old v → Evaluates made meaning_of middle r at old (turns - 2) w left → binary_of o v.value w.value ≡ Ok p → given ≡ left
      → made joined label → meaning_of joined label ≡ union (meaning_of middle v.label) (meaning_of middle w.label) → Puts made meaning_of store at text (record { value = value.Primitive p; label = label }) old new
      → Gives made meaning_of store (trees.assign place target operator r) at old new turns (record { value = value.Primitive p; label = label }) given
  updated_gives place there at old new turns target r operator o text v w p label left given is enough by plain named evaluates gives same made_label means puts =
      let n = turns - 2 in
      let two : turns ≡ suc (suc n) = omega (arith, enough) in
      let held : made middle v.label = (before.labels v.label named.labelled).0 in
      record {
        comes = λ tables inputs set functions reading told read.
            let read_joined = IsReading-earlier made meaning_of room firm joined store reading behind read in
            let read_middle = IsReading-earlier made meaning_of room firm middle joined reading between read_joined in
            let read_earlier = IsReading-earlier made meaning_of room firm earlier middle reading before read_middle in
            let union_is : union (reading v.label) (reading w.label) ≡ reading label = ap₂ union (read_middle.agrees v.label held) (read_middle.agrees w.label evaluates.labelled) ∙ sym means ∙ sym (read_joined.agrees label made_label) in
            ap (λ x. meaning tables inputs set functions (an_expr (trees.assign place x operator r) at) (state_of reading old told turns)) is
            ∙ ap (λ m. meaning tables inputs set functions (an_expr (trees.assign place (trees.name there text) operator r) at) (state_of reading old told m)) two
            ∙ compound_plan tables inputs set functions place there at text r operator o (state_of reading old told n) (state_of reading old told left) (state_of reading new told left) (read_value reading v) (read_value reading w) p n by
            (subst IsLabel (sym (read_middle.agrees v.label held)) (rising middle v.label held)) (subst IsLabel (sym (read_middle.agrees w.label evaluates.labelled)) (rising middle w.label evaluates.labelled)) plain
            (named.comes reading told n read_earlier) (evaluates.comes tables inputs set functions reading told read_middle) gives
            (ap (λ k. put_value (resolved (read_records reading old.records) (read_heap reading old.heap) at text) (record { value = value.Primitive p; label = k }) (state_of reading old told left)) union_is ∙ puts.goes reading told left read)
            ∙ ap (λ k. Goes (record { value = value.Primitive p; label = k }) (state_of reading new told left)) union_is
            ∙ ap (λ m. Goes (record { value = value.Primitive p; label = reading label }) (state_of reading new told m)) (sym same);
        labelled = (behind.labels label made_label).0;
        fewer = let fewer = evaluates.fewer in omega (arith, fewer, enough, same);
      }

-- ---- statements

-- no built-ins
abbrev no_set : BuiltIns
no_set = record { entries = []; begins = λ which argc construct. throws_type_error }

-- whether a text is given
abbrev is_text : values.Value → Bool
is_text (value.Primitive (Str units)) = true
is_text _ = false

abbrev gives_text : Outcome Halt Jump Val State → Bool
gives_text (Goes v s) = is_text v.value
gives_text _ = false

module _ {S T : Type 0} (made : S → T → Type 0) (meaning_of : S → T → Label) where
  -- what gives a number is no directive
  no_directive : (store : S) (at : ℕ) (e : Expr) (old new : World T) (turns : ℕ) (number : ℤ) (label : T) (left : ℕ) → Gives made meaning_of store e at old new turns (labelled_number number label) left → upgrade_of e ≡ None
  unfolding upgrade_of
  no_directive store at (trees.string place text units) old new turns number label left gives =
      let reading = meaning_of store in
      let fewer = gives.fewer in
      let one : turns ≡ suc (turns - 1) = omega (arith, fewer) in
      let text_given = text_plan no_tables [] no_set [] place text units at (turns - 1) (state_of reading old [] 0) in
      let number_given = gives.comes no_tables [] no_set [] reading [] (record { agrees = λ l m. refl }) in
      let differ : true ≡ false = ap gives_text (sym text_given ∙ ap (λ k. meaning no_tables [] no_set [] (an_expr (trees.string place text units) at) (state_of reading old [] k)) (sym one) ∙ number_given) in
      cc differ
  no_directive store at _ old new turns number label left gives = refl

  -- an expression statement comes to its end
  pub finishes : (store : S) (place at : ℕ) (stmt : Statement) (e : Expr) (semi : Semi) (old new : World T) (turns : ℕ) (number : ℤ) (label : T) (left : ℕ) → stmt ≡ trees.expression place e semi → (turns ≡ 0 → ⊥)
      → Gives made meaning_of store e at old new (turns - 1) (labelled_number number label) left → Finishes made meaning_of store stmt at old new turns left
  finishes store place at stmt e semi old new turns number label left is some gives =
      let n = turns - 1 in
      let below = one_left turns some in
      let one : turns ≡ suc n = omega (arith, below) in
      record {
        comes = λ tables inputs set functions env reading told here read.
            ap (λ x. meaning tables inputs set functions (a_stmt x env) (state_of reading old told turns)) is
            ∙ ap (λ m. meaning tables inputs set functions (a_stmt (trees.expression place e semi) env) (state_of reading old told m)) one
            ∙ finish_plan tables inputs set functions place e semi env (state_of reading old told n) (state_of reading new told left) (read_value reading (labelled_number number label)) n (no_directive store at e old new n number label left gives)
            (ap (λ i. meaning tables inputs set functions (an_expr e i) (state_of reading old told n)) here ∙ gives.comes tables inputs set functions reading told read);
        fewer = let fewer = gives.fewer in omega (arith, fewer, below);
      }
