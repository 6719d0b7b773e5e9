-- What is done with references, as plans.
use Rattle.std.proofs.Common.{refl, sym, ap, ap₂, ◌∙◌, ◌≡◌, ℕ, Bool, List, [], ◌∷◌, pos}
use Rattle.js_number.specs.declared.num.Num.TheVariants.{Int}
use Rattle.js_number.specs.declared.primitive.Primitive.TheVariants.{Num, Str}
use Rattle.js_values.specs.declared.value.Value.TheVariants as value
use Rattle.origin_labels.specs.Label.{Label, bottom}
use Rattle.flow_policy.specs.Policies.{Tables, no_tables}
use Rattle.flow_policy.specs.Inputs.{Given}
use Rattle.js_ast.specs.Functions.{FunctionCode}
use Rattle.js_ast.specs.declared.operators.BinaryOperator.{BinaryOperator}
use Rattle.js_ast.specs.declared.operators.UnaryOperator.TheVariants as unary_operator
use Rattle.js_ast.specs.Trees.{Expr, Exprs, Ident, MaybeExpr}
use Rattle.native_protocol.specs.declared.hint.Hint.TheVariants as hint
use Rattle.native_protocol.specs.declared.request.ErrorKind.TheVariants as error
use Rattle.es_meaning.specs.BuiltIns.{BuiltIns}
use Rattle.es_meaning.specs.Operations.{One, Value, Ops, Rec, Use, base_needed, assigned, updated_by, asked, valued, deleted, given_text, called, throws_error}
use Rattle.es_meaning.specs.Operators.{is_object}
use Rattle.es_meaning.specs.Evaluation.{give, assign_to, assign_giving, binary_values, compound_done, compound_right, more_variables, variables, used, read_value, prefix_by, prefix_number, prefix_value, postfix_by, postfix_number, postfix_value, unary_done, unary_value, call_reference, index_key, member_base, with_base, with_key}
use Rattle.flow_meaning.specs.Scopes.{Val, State}
use Rattle.flow_meaning.specs.Planned.{gave, Enters, Give, Ask, an_expr, and_plan, with_result, planned, asking, enter_access, enter_putting, convert_by, end_putting, with_outcome}
use Rattle.std.specs.Borrow.{Bor}
use Rattle.js_ast.specs.declared.trees.Declaration.{Declaration}
use Rattle.js_ast.specs.Views.{view_other_declarations}
use Rattle.flow_meaning.specs.Tracked.{is_put, Reference, accessed, accessed_for_typeof, act, base_of, of_property, put_value, remove, throw_error}
use Rattle.es_meaning.specs.Plain.{key_text}
use Rattle.continuations.specs.declared.continuation.Counting.{Counting}
use Rattle.continuations.specs.declared.continuation.Counting.TheVariants as counting
use Rattle.continuations.specs.declared.continuation.Target.{Target}
use Rattle.continuations.specs.declared.continuation.Continuation.TheVariants as continuation
use Rattle.continuations.specs.Moving.{following}
use Rattle.continuations.specs.Pending.{after, called_on}
use Rattle.continuations.specs.Settings.{Setting, entrance}
use Rattle.continuations.specs.Shapes.{target_of}
use Rattle.step_references.specs.Keeping.{counted_by}
use Rattle.step_references.specs.Variables.{behind_putting}
use Rattle.step_references.proofs.Kept.{TakesAlike}
use Rattle.step_references.proofs.Plans.{followed, outcome_follows, outcome_passes, given_follows}

module _ (tables : Tables) (inputs : Given) (set : BuiltIns) (functions : List FunctionCode) where
  abbrev O : Ops
  O = planned tables inputs set functions

  abbrev E : Enters
  E = entrance tables inputs set functions

  abbrev R : Rec O
  R = asking tables inputs set functions

  -- ---- what is given to a reference is given to one that takes values alike

  module _ (n m : Reference) (alike : TakesAlike n m) where
    pub assigns : assign_to O E n ≡ assign_to O E m
    unfolding assign_to
    assigns = λ i v s. and_plan (with_outcome (alike v s i) (enter_putting functions E v)) (with_result One (give O v))

    pub gives_alike : (old : Val) → assign_giving O E n old ≡ assign_giving O E m old
    unfolding assign_giving
    gives_alike old = λ i v s. and_plan (with_outcome (alike v s i) (enter_putting functions E v)) (with_result One (give O old))

    compounds : (o : BinaryOperator) (old : Val) → compound_done O E R o n old ≡ compound_done O E R o m old
    unfolding compound_done
    compounds o old = λ i v s. and_plan (binary_values O E o old v s) (with_result Value (assigns i))

    compounds_right : (o : BinaryOperator) (r : Expr) (i : ℕ) → compound_right O E R o r i n ≡ compound_right O E R o r i m
    unfolding compound_right
    compounds_right o r i = λ j old s. and_plan (Ask (an_expr r i) s Give) (with_result Value (compounds o old j))

    prefixes_by : (o : BinaryOperator) → prefix_by O E o n ≡ prefix_by O E o m
    unfolding prefix_by
    prefixes_by o = λ i v s. (O.bind Value Value (O.binary o v (O.literal (Num (Int (pos 1))))) (assigns i)) s

    prefixes_number : (o : BinaryOperator) → prefix_number O E o n ≡ prefix_number O E o m
    unfolding prefix_number
    prefixes_number o = λ i v s. (O.bind Value Value (O.unary unary_operator.Plus v) (prefixes_by o i)) s

    prefixes : (o : BinaryOperator) → prefix_value O E o n ≡ prefix_value O E o m
    unfolding prefix_value
    prefixes o = λ i v s. (O.bind Value Value (O.primitive hint.Number v E) (prefixes_number o i)) s

    postfixes_by : (o : BinaryOperator) → postfix_by O E o n ≡ postfix_by O E o m
    unfolding postfix_by
    postfixes_by o = λ i v s. (O.bind Value Value (O.binary o v (O.literal (Num (Int (pos 1))))) (gives_alike v i)) s

    postfixes_number : (o : BinaryOperator) → postfix_number O E o n ≡ postfix_number O E o m
    unfolding postfix_number
    postfixes_number o = λ i v s. (O.bind Value Value (O.unary unary_operator.Plus v) (postfixes_by o i)) s

    postfixes : (o : BinaryOperator) → postfix_value O E o n ≡ postfix_value O E o m
    unfolding postfix_value
    postfixes o = λ i v s. (O.bind Value Value (O.primitive hint.Number v E) (postfixes_number o i)) s

    -- ---- what is evaluated or read is then given to the reference

    pub used_assigned : (r : Expr) (i : ℕ) (s : State) → and_plan (Ask (an_expr r i) s Give) (with_result Value (assign_to O E n)) ≡ used O E R (assigned r) i m s
    unfolding used
    used_assigned r i s = ap (λ g. and_plan (Ask (an_expr r i) s Give) (with_result Value g)) assigns

    pub used_updated : (o : BinaryOperator) (r : Expr) (i : ℕ) (s : State) → and_plan (following (accessed m s) (enter_access functions E)) (with_result Value (compound_right O E R o r i n)) ≡ used O E R (updated_by o r) i m s
    unfolding used
    used_updated o r i s = ap₂ (λ p g. and_plan p (with_result Value g)) (sym (outcome_follows (accessed m s) (enter_access functions E))) (compounds_right o r i)

    more : (ds : List (Ident × MaybeExpr)) (i : ℕ) → more_variables O E R n ds i ≡ more_variables O E R m ds i
    unfolding more_variables
    more ds i = λ j v s. and_plan (with_outcome (alike v s j) (enter_putting functions E v)) (with_result One (λ u. variables O E R ds i))

    pub initialised_alike : (r : Expr) (ds : List (Ident × MaybeExpr)) (i : ℕ) (s : State) → and_plan (Ask (an_expr r i) s Give) (with_result Value (more_variables O E R n ds i)) ≡ O.bind Value One (R.expr r i) (more_variables O E R m ds i) s
    initialised_alike r ds i s = ap (λ g. and_plan (Ask (an_expr r i) s Give) (with_result Value g)) (more ds i)

  pub used_counted : (t : Target) (vs : List Val) (m : Reference) → TakesAlike (target_of t vs) m → (how : Counting) (o : BinaryOperator) (i : ℕ) (f : Setting) (s : State)
      → and_plan (following (accessed m s) (enter_access functions E)) (after tables inputs set functions (continuation.Counted how o t) vs f) ≡ used O E R (counted_by how o) i m s
  unfolding used
  used_counted t vs m alike counting.Prefix o i f s = ap₂ (λ p g. and_plan p (with_result Value g)) (sym (outcome_follows (accessed m s) (enter_access functions E))) (prefixes (target_of t vs) m alike o)
  used_counted t vs m alike counting.Postfix o i f s = ap₂ (λ p g. and_plan p (with_result Value g)) (sym (outcome_follows (accessed m s) (enter_access functions E))) (postfixes (target_of t vs) m alike o)

  -- ---- uses of a value

  pub used_asked : (n : Reference) (i : ℕ) (s : State) → and_plan (following (accessed_for_typeof n s) (enter_access functions E)) (with_result Value (unary_value O E unary_operator.Typeof)) ≡ used O E R asked i n s
  unfolding used unary_value unary_done
  used_asked n i s = ap (λ p. and_plan p (with_result Value (λ v. O.unary unary_operator.Typeof v))) (sym (outcome_follows (accessed_for_typeof n s) (enter_access functions E)))

  pub used_called : (n : Reference) (es : Exprs) (own : Val) (f : Setting) (s : State) → own ≡ base_of n → and_plan (following (accessed n s) (enter_access functions E)) (with_result Value (called_on tables inputs set functions own es f.env)) ≡ used O E R (called es) f.env.place n s
  unfolding used call_reference
  used_called n es own f s is = ap₂ (λ p b. and_plan p (with_result Value (called_on tables inputs set functions b es f.env))) (sym (outcome_follows (accessed n s) (enter_access functions E))) is

  pub used_valued : (n : Reference) (i : ℕ) (s : State) → O.get_value n E s ≡ used O E R valued i n s
  unfolding used read_value
  used_valued n i s = refl

  pub used_deleted : (n : Reference) (i : ℕ) (s : State) → following (remove n s) (λ v t. Give (gave v) t) ≡ used O E R deleted i n s
  unfolding used
  used_deleted n i s = sym (given_follows (remove n s))

  -- what is no reference can't be used as one
  pub refused_as : (l : Label) (s : State) → l ≡ bottom → following (throw_error {X = Val} error.ReferenceError l s) (λ v t. Give (gave v) t) ≡ O.act (throws_error error.ReferenceError) [] s
  unfolding act
  refused_as l s none = ap (λ (m : Label). following (throw_error {X = Val} error.ReferenceError m s) (λ v t. Give (gave v) t)) none ∙ sym (given_follows (throw_error {X = Val} error.ReferenceError bottom s))

  pub read_as : (n : Reference) (s : State) → following (accessed n s) (enter_access functions E) ≡ O.get_value n E s
  read_as n s = sym (outcome_follows (accessed n s) (enter_access functions E))

  pub assign_as : (n : Reference) (v : Val) (s : State) → following (put_value n v s) (λ p t. and_plan (enter_putting functions E v p t) (with_result One (give O v))) ≡ assign_to O E n v s
  unfolding assign_to
  assign_as n v s = sym (outcome_passes One (put_value n v s) (enter_putting functions E v) (give O v))

  pub giving_as : (n : Reference) (old v : Val) (s : State) → following (put_value n v s) (λ p t. and_plan (enter_putting functions E v p t) (with_result One (give O old))) ≡ assign_giving O E n old v s
  unfolding assign_giving
  giving_as n old v s = sym (outcome_passes One (put_value n v s) (enter_putting functions E v) (give O old))

  pub more_as : (n : Reference) (ds : List (Ident × MaybeExpr)) (i : ℕ) (v : Val) (s : State) → following (put_value n v s) (behind_putting tables inputs set functions ds i v) ≡ more_variables O E R n ds i v s
  unfolding more_variables
  more_as n ds i v s = sym (outcome_passes One (put_value n v s) (enter_putting functions E v) (λ u. variables O E R ds i))

  -- ---- properties

  -- the base has to be able to have properties, which depends on no table
  pub index_as : (how : Use) (i : ℕ) (b k : Val) (s : State) → following (act no_tables [] base_needed (b ∷ []) s) (with_base O E R how i k) ≡ index_key O E R how i b k s
  unfolding index_key act
  index_as how i b k s = sym (followed Value (act tables inputs base_needed (b ∷ []) s) (with_base O E R how i k))

  -- a key that is converted is one that is a primitive value
  convert_with : (test : Bool) (how : Use) (i : ℕ) (b k : Val) (s : State) → test ≡ Bool.false → and_plan (convert_by test E hint.String k.label k k s) (with_result Value (with_key O E R how i b)) ≡ used O E R how i (of_property b (key_text k.value) k.label) s
  unfolding convert_by with_key
  convert_with Bool.true how i b k s is = absurd cc is
  convert_with Bool.false how i b k s is = refl

  pub based_as : (how : Use) (i : ℕ) (b k : Val) (s : State) → is_object k.value ≡ Bool.false → with_base O E R how i k b s ≡ used O E R how i (of_property b (key_text k.value) k.label) s
  unfolding with_base
  based_as how i b k s is = convert_with (is_object k.value) how i b k s is

  pub keyed_as : (how : Use) (i : ℕ) (b k : Val) (s : State) → with_key O E R how i b k s ≡ used O E R how i (of_property b (key_text k.value) k.label) s
  unfolding with_key
  keyed_as how i b k s = refl

  -- a name is a key without an origin
  pub member_as : (how : Use) (name text : List ℕ) (i : ℕ) (b : Val) (l : Label) (s : State) → text ≡ name → l ≡ bottom → index_key O E R how i b (record { value = value.Primitive (Str text); label = l }) s ≡ member_base O E R how name i b s
  unfolding member_base
  member_as how name text i b l s is none = ap₂ (λ (u : List ℕ) (m : Label). index_key O E R how i b (record { value = value.Primitive (Str u); label = m }) s) is none

  -- a text without an origin is given
  pub given_as : (n : Reference) (text : List ℕ) (l : Label) (i : ℕ) (s : State) → l ≡ bottom → assign_to O E n (record { value = value.Primitive (Str text); label = l }) s ≡ used O E R (given_text text) i n s
  unfolding used
  given_as n text l i s none = ap (λ (m : Label). assign_to O E n (record { value = value.Primitive (Str text); label = m }) s) none

  pub named_as : (n : Reference) (s : State) → O.get_value n E s ≡ read_value O E R n s
  unfolding read_value
  named_as n s = refl

  -- a key is converted, and then it is used
  pub keys_wait : {how use_as : Use} {b base : Val} (i : ℕ) (k : Val) (s : State) → how ≡ use_as → b ≡ base → and_plan (O.primitive hint.String k E s) (with_result Value (with_key O E R how i b)) ≡ with_base O E R use_as i k base s
  unfolding with_base
  keys_wait i k s same is = ap₂ (λ u c. and_plan (O.primitive hint.String k E s) (with_result Value (with_key O E R u i c))) same is

  -- behind a put of a variable's value
  pub put_on : (ds : List (Ident × MaybeExpr)) (i : ℕ) (v : Val) (s : State) → variables O E R ds i s ≡ behind_putting tables inputs set functions ds i v is_put s
  unfolding enter_putting
  put_on ds i v s = refl

  pub behind_setter_on : (ds : Bor (List Declaration)) (f : Setting) (v : Val) (s : State) → variables O E R (view_other_declarations ds.now) f.env.place s ≡ after tables inputs set functions (continuation.VariablesBehind ds) [] f (gave v) s
  unfolding end_putting
  behind_setter_on ds f v s = refl
