-- If two records of operations are linked, so are their evaluators: one proof for all readings of a script. What is done with the value of a part
-- has a lemma of its own, since work that is pending in a machine is that.
use Rattle.std.proofs.Common.{◌≡◌, ℕ, suc, ◌-◌, Bool, true, false, List, [], ◌∷◌, ◌++◌, length, pos, Option, Some, None, refl, ap, subst}
use Rattle.js_number.specs.declared.num.Num.TheVariants.{Int}
use Rattle.js_number.specs.declared.primitive.Primitive.{Primitive}
use Rattle.js_number.specs.declared.primitive.Primitive.TheVariants.{Undefined, Null, Num, Str}
use Rattle.js_number.specs.declared.primitive.Primitive.TheVariants as prims
use Rattle.js_ast.specs.declared.operators.UnaryOperator.{UnaryOperator}
use Rattle.js_ast.specs.declared.operators.UnaryOperator.TheVariants as unary_operator
use Rattle.js_ast.specs.declared.operators.PostfixOperator.TheVariants as postfix_operator
use Rattle.js_ast.specs.declared.operators.BinaryOperator.{BinaryOperator}
use Rattle.js_ast.specs.declared.operators.BinaryOperator.TheVariants as binary_operator
use Rattle.js_ast.specs.Trees.{Ident, Expr, name, number, string, this, null, boolean, paren, array, object, function, member, index, new_with, new_bare, call, postfix, unary, binary, conditional, assign, comma, Exprs, no_exprs, more_exprs, MaybeExpr, absent, present, Items, no_items, hole, item, value, getter, setter, Properties, no_properties, more_properties, Target, target_expr, target_var, First, first_expr, first_var, Clauses, no_clauses, case, default, Function, Block, block_of, Statement, block, var, empty, expression, if_then, if_else, do_while, while, for, for_in, continue, break, return, throw, switch, labelled, try_catch, try_finally, try_both, debugger, function_declaration, Statements, no_statements, more_statements}
use Rattle.native_protocol.specs.declared.hint.Hint.{Hint}
use Rattle.native_protocol.specs.declared.hint.Hint.TheVariants as hint
use Rattle.native_protocol.specs.declared.request.ErrorKind.TheVariants as error
use Rattle.native_protocol.specs.declared.request.GivenMarks.{GivenMarks}
use Rattle.native_protocol.specs.declared.request.Seen.{Seen}
use Rattle.native_protocol.specs.Steps.{Steps, conversion as conversion_steps}
use Rattle.es_meaning.specs.Environments.{Env, Leaving, thrown, returned, left_by}
use Rattle.es_meaning.specs.Directives.{Upgrade, upgrade_of}
use Rattle.es_meaning.specs.BuiltIns.{BuiltIns, begins_in}
use Rattle.es_meaning.specs.Operations.{Ty, One, Value, Res, Act, Shape, object_of, array_of, base_needed, object_needed, has_key, throws_error, Entering, Ops, Use, assigned, updated_by, prefixed, postfixed, asked, valued, deleted, given_text, called, Calling, calls, constructs, Round, Visit, Rec}
use Rattle.es_meaning.specs.Evaluation.{is_name, is_reference, parts_of, places_of, count_of, operator_of, assigned_by, Conversion, unconverted, compared, numbers, keyed, primitives, conversion_of, takes_number, discard, give, unary_done, binary_done, compared_left, primitive_left, number_left, has_left, has_right, binary_by, binary_values, unary_by, unary_value, assign_to, assign_giving, postfix_by, prefix_by, postfix_number, prefix_number, postfix_value, prefix_value, binary_right, and_right, or_right, choose_expr, comma_right, compound_done, compound_right, used, with_key, with_base, index_key, index_base, member_base, use_step, read_value, items_of, more_items, properties, more_values, statements, more_statements_behind, entering, call_with, arguments, more_arguments, call_reference, call_value, construct_value, callee_step, instance_done, instance_right, labels_of, carries_labels, text_of_label, typeof_step, delete_step, unary_step, binary_step, expr_step, variable_list, variables, more_variables, turn_test, tested_by, tested, updated, turned_by, turned_round, turn_step, loop, looped, looped_value, first_step, still_there, visits, visited, visit_body, target_step, visit_turn, visit_step, with_keys, enumerated, falls, falls_on, from_default, case_chosen, case_compared, cases, in_switch, switched, jump_with, return_step, upgraded, behind_expression, choose_stmt, choose_stmts, block_step, handled, unhandled, label_step, named_step, stmt_step}

-- related results
abbrev pub Rel : {W V V' : Type 0} → (W → V → V' → Type 0) → (t : Ty) → W → Res V t → Res V' t → Type 0
Rel R One w a b = Unit {0}
Rel R Value w a b = R w a b

-- related lists
pub data Rels {V V' : Type 0} (R : V → V' → Type 0) : List V → List V' → Type 0 where
  nils : Rels R [] []
  conses : {a : V} {b : V'} {vs : List V} {us : List V'} → R a b → Rels R vs us → Rels R (a ∷ vs) (b ∷ us)

-- which are of one length
rels_length : {V V' : Type 0} {R : V → V' → Type 0} {vs : List V} {us : List V'} → Rels R vs us → length vs ≡ length us
rels_length nils = refl
rels_length (conses r rs) = ap suc (rels_length rs)

-- how what is called is entered, in any world: nothing of the world of the call is handed on
pub record EnteringLinked {V V' H H' : Type 0} {M M' : Ty → Type 0} (W : Type 0) (RV : W → V → V' → Type 0) (RE : W → Env H → Env H' → Type 0) (Lift : (t : Ty) → W → M t → M' t → Type 0)
    (E : Entering V H M) (D : Entering V' H' M') : Type 0 where
  pub body : (w : W) (ss : Statements) (e : Env H) (d : Env H') → RE w e d → Lift One w (E.body ss e) (D.body ss d)
  pub built_in : (w : W) (which : ℕ) (construct : Bool) (vs : List V) (us : List V') → Rels (RV w) vs us → Lift Value w (E.built_in which construct vs) (D.built_in which construct us)
  pub conversion : (w : W) (kind : Hint) (v : V) (v' : V') → RV w v v' → Lift Value w (E.conversion kind v) (D.conversion kind v')

-- worlds, what is related in them, related computations, and a law for each operation
pub record Link (A B : Ops) : Type 1 where
  pub W : Type 0
  pub Le : W → W → Type 0
  -- values, references, numbers of records, and environments
  pub RV : W → A.V → B.V → Type 0
  pub RN : W → A.N → B.N → Type 0
  pub RP : W → ℕ → ℕ → Type 0
  pub RE : W → Env A.H → Env B.H → Type 0
  pub Lift : (t : Ty) → W → A.M t → B.M t → Type 0
  -- the world inside a loop or a turn, from the one outside: of values nothing changes
  pub Inside : W → W → Type 0
  pub inside_v : {w w' : W} {a : A.V} {b : B.V} → Inside w w' → RV w a b → RV w' a b
  pub le_refl : (w : W) → Le w w
  pub le_trans : {u v w : W} → Le u v → Le v w → Le u w
  pub more_v : {w w' : W} {a : A.V} {b : B.V} → Le w w' → RV w a b → RV w' a b
  pub more_n : {w w' : W} {n : A.N} {n' : B.N} → Le w w' → RN w n n' → RN w' n n'
  pub more_p : {w w' : W} {i j : ℕ} → Le w w' → RP w i j → RP w' i j
  pub more_e : {w w' : W} {e : Env A.H} {d : Env B.H} → Le w w' → RE w e d → RE w' e d
  pub place_of : {w : W} {e : Env A.H} {d : Env B.H} → RE w e d → RP w e.place d.place
  -- computations that follow each other
  pub ret_one : (w : W) → Lift One w (A.ret One tt) (B.ret One tt)
  pub ret_value : {w : W} {a : A.V} {b : B.V} → RV w a b → Lift Value w (A.ret Value a) (B.ret Value b)
  pub bind : (t u : Ty) {w : W} {m : A.M t} {n : B.M t} (f : Res A.V t → A.M u) (g : Res B.V t → B.M u)
      → Lift t w m n → ((w' : W) → Le w w' → (a : Res A.V t) (b : Res B.V t) → Rel RV t w' a b → Lift u w' (f a) (g b)) → Lift u w (A.bind t u m f) (B.bind t u n g)
  -- values
  pub literal : (w : W) (v : Primitive) → RV w (A.literal v) (B.literal v)
  -- acts
  pub unary : {w : W} (o : UnaryOperator) {v : A.V} {v' : B.V} → RV w v v' → Lift Value w (A.unary o v) (B.unary o v')
  pub binary : {w : W} (o : BinaryOperator) {v u : A.V} {v' u' : B.V} → RV w v v' → RV w u u' → Lift Value w (A.binary o v u) (B.binary o v' u')
  pub primitive : {w : W} (kind : Hint) {v : A.V} {v' : B.V} {E : Entering A.V A.H A.M} {D : Entering B.V B.H B.M} → RV w v v' → EnteringLinked W RV RE Lift E D → Lift Value w (A.primitive kind v E) (B.primitive kind v' D)
  pub comparable : {w : W} {v u : A.V} {v' u' : B.V} {E : Entering A.V A.H A.M} {D : Entering B.V B.H B.M} → RV w v v' → RV w u u' → EnteringLinked W RV RE Lift E D → Lift Value w (A.comparable v u E) (B.comparable v' u' D)
  pub act : {w : W} (f : Act) {vs : List A.V} {us : List B.V} → Rels (RV w) vs us → Lift Value w (A.act f vs) (B.act f us)
  pub look : {w : W} {v : A.V} {v' : B.V} (k : Seen → A.M Value) (k' : Seen → B.M Value) → RV w v v'
      → ((w' : W) → Le w w' → (seen : Seen) → Lift Value w' (k seen) (k' seen)) → Lift Value w (A.look v k) (B.look v' k')
  pub function : {w : W} (f : Function) {i j : ℕ} → RP w i j → Lift Value w (A.function f i) (B.function f j)
  pub jump : {w : W} (leaving : Leaving) {e : Env A.H} {d : Env B.H} {v : A.V} {v' : B.V} → RE w e d → RV w v v' → Lift One w (A.jump leaving e v) (B.jump leaving d v')
  pub raise : {w : W} (leaving : Leaving) {e : Env A.H} {d : Env B.H} (names : List (List ℕ)) → RE w e d → Lift One w (A.raise leaving e names) (B.raise leaving d names)
  pub throw : {w : W} {v : A.V} {v' : B.V} → RV w v v' → Lift Value w (A.throw v) (B.throw v')
  pub leave : (t : Ty) (w : W) (name : List ℕ) → Lift t w (A.leave t name) (B.leave t name)
  -- references
  pub resolve : (t : Ty) {w : W} {i j : ℕ} (x : List ℕ) (k : A.N → A.M t) (k' : B.N → B.M t) → RP w i j
      → ((w' : W) → Le w w' → (n : A.N) (n' : B.N) → RN w' n n' → Lift t w' (k n) (k' n')) → Lift t w (A.resolve t i x k) (B.resolve t j x k')
  pub get_value : {w : W} {n : A.N} {n' : B.N} {E : Entering A.V A.H A.M} {D : Entering B.V B.H B.M} → RN w n n' → EnteringLinked W RV RE Lift E D → Lift Value w (A.get_value n E) (B.get_value n' D)
  pub typeof_value : {w : W} {n : A.N} {n' : B.N} {E : Entering A.V A.H A.M} {D : Entering B.V B.H B.M} → RN w n n' → EnteringLinked W RV RE Lift E D → Lift Value w (A.typeof_value n E) (B.typeof_value n' D)
  pub put_value : {w : W} {n : A.N} {n' : B.N} {v : A.V} {v' : B.V} {E : Entering A.V A.H A.M} {D : Entering B.V B.H B.M} → RN w n n' → RV w v v' → EnteringLinked W RV RE Lift E D → Lift One w (A.put_value n v E) (B.put_value n' v' D)
  pub property : {w : W} {v u : A.V} {v' u' : B.V} → RV w v v' → RV w u u' → RN w (A.property v u) (B.property v' u')
  pub remove : {w : W} {n : A.N} {n' : B.N} → RN w n n' → Lift Value w (A.remove n) (B.remove n')
  pub define : {w : W} (key : List ℕ) (marks : GivenMarks) (shape : Shape) {base v g set : A.V} {base' v' g' set' : B.V} {E : Entering A.V A.H A.M} {D : Entering B.V B.H B.M} → RV w base base' → RV w v v' → RV w g g' → RV w set set' → EnteringLinked W RV RE Lift E D
      → Lift Value w (A.define key marks shape base v g set E) (B.define key marks shape base' v' g' set' D)
  pub this_of : {w : W} {n : A.N} {n' : B.N} → RN w n n' → RV w (A.this_of n) (B.this_of n')
  pub instance : {w : W} {v f : A.V} {v' f' : B.V} {E : Entering A.V A.H A.M} {D : Entering B.V B.H B.M} → RV w v v' → RV w f f' → EnteringLinked W RV RE Lift E D → Lift Value w (A.instance v f E) (B.instance v' f' D)
  -- scopes
  pub fork : (t : Ty) {w : W} {v : A.V} {v' : B.V} {m n : A.M t} {m' n' : B.M t} → RV w v v'
      → ((w' : W) → Le w w' → Lift t w' m m') → ((w' : W) → Le w w' → Lift t w' n n') → Lift t w (A.fork t v m n) (B.fork t v' m' n')
  pub round : {w : W} (turn : Bool) (labels : List (Option (List ℕ))) {e : Env A.H} {d : Env B.H} (k : Env A.H → A.M One) (k' : Env B.H → B.M One) → RE w e d
      → ((w' : W) → Inside w w' → (e' : Env A.H) (d' : Env B.H) → RE w' e' d' → Lift One w' (k e') (k' d')) → Lift One w (A.round turn labels e k) (B.round turn labels d k')
  pub again : {w : W} {v : A.V} {v' : B.V} {m n : A.M One} {m' n' : B.M One} → RV w v v' → Lift One w m m' → Lift One w n n' → Lift One w (A.again v m n) (B.again v' m' n')
  pub keys : {w : W} {v : A.V} {v' : B.V} (k : List (List ℕ) → A.M One) (k' : List (List ℕ) → B.M One) → RV w v v'
      → ((w' : W) → Le w w' → (keys : List (List ℕ)) → Lift One w' (k keys) (k' keys)) → Lift One w (A.keys v k) (B.keys v' k')
  pub declare : {w : W} (name : List ℕ) {v : A.V} {v' : B.V} {e : Env A.H} {d : Env B.H} (k : Env A.H → A.M One) (k' : Env B.H → B.M One) → RV w v v' → RE w e d
      → ((w' : W) → Le w w' → (e' : Env A.H) (d' : Env B.H) → RE w' e' d' → Lift One w' (k e') (k' d')) → Lift One w (A.declare name v e k) (B.declare name v' d k')
  pub call : {w : W} {f this : A.V} {f' this' : B.V} {vs : List A.V} {us : List B.V} {E : Entering A.V A.H A.M} {D : Entering B.V B.H B.M} → RV w f f' → RV w this this' → Rels (RV w) vs us → EnteringLinked W RV RE Lift E D → Lift Value w (A.call f this vs E) (B.call f' this' us D)
  pub construct : {w : W} {f : A.V} {f' : B.V} {vs : List A.V} {us : List B.V} {E : Entering A.V A.H A.M} {D : Entering B.V B.H B.M} → RV w f f' → Rels (RV w) vs us → EnteringLinked W RV RE Lift E D → Lift Value w (A.construct f vs E) (B.construct f' us D)
  pub attempt : {w : W} (handles finishes : Bool) {m n : A.M One} {m' n' : B.M One} (h : A.V → A.M One) (h' : B.V → B.M One)
      → ((w' : W) → Le w w' → Lift One w' m m') → ((w' : W) → Le w w' → (v : A.V) (v' : B.V) → RV w' v v' → Lift One w' (h v) (h' v')) → ((w' : W) → Le w w' → Lift One w' n n')
      → Lift One w (A.attempt handles finishes m h n) (B.attempt handles finishes m' h' n')

-- turns of a `for in` over related values
pub data Visits {V V' : Type 0} (R : V → V' → Type 0) : Visit V → Visit V' → Type 0 where
  visits_of : {labels : List (Option (List ℕ))} {target : Target} {body : Statement} {a : V} {b : V'} {key : List ℕ} {others : List (List ℕ)} → R a b
      → Visits R (record { labels = labels; target = target; body = body; object = a; key = key; others = others }) (record { labels = labels; target = target; body = body; object = b; key = key; others = others })

-- calls of related values
pub data Callings {V V' : Type 0} (R : V → V' → Type 0) : Calling V → Calling V' → Type 0 where
  both_call : {f this : V} {f' this' : V'} → R f f' → R this this' → Callings R (calls f this) (calls f' this')
  both_construct : {f : V} {f' : V'} → R f f' → Callings R (constructs f) (constructs f')

module _ (A B : Ops) (K : Link A B) where
  -- linked meanings of parts
  pub record Linked (R : Rec A) (Q : Rec B) : Type 0 where
    pub expr : (e : Expr) (w : K.W) (i j : ℕ) → K.RP w i j → K.Lift Value w (R.expr e i) (Q.expr e j)
    pub use_of : (use_as : Use) (e : Expr) (w : K.W) (i j : ℕ) → K.RP w i j → K.Lift Value w (R.use_of use_as e i) (Q.use_of use_as e j)
    pub stmt : (s : Statement) (w : K.W) (e : Env A.H) (d : Env B.H) → K.RE w e d → K.Lift One w (R.stmt s e) (Q.stmt s d)
    pub named : (labels : List (List ℕ)) (s : Statement) (w : K.W) (e : Env A.H) (d : Env B.H) → K.RE w e d → K.Lift One w (R.named labels s e) (Q.named labels s d)
    pub turn : (round : Round) (w : K.W) (e : Env A.H) (d : Env B.H) → K.RE w e d → K.Lift One w (R.turn round e) (Q.turn round d)
    pub native : (steps : Steps) (w : K.W) (vs : List A.V) (us : List B.V) → Rels (K.RV w) vs us → K.Lift Value w (R.native steps vs) (Q.native steps us)
    pub visit : (w : K.W) (v : Visit A.V) (u : Visit B.V) → Visits (K.RV w) v u → (e : Env A.H) (d : Env B.H) → K.RE w e d → K.Lift One w (R.visit v e) (Q.visit u d)

  pub more_rels : {w w' : K.W} {vs : List A.V} {us : List B.V} → K.Le w w' → Rels (K.RV w) vs us → Rels (K.RV w') vs us
  more_rels l nils = nils
  more_rels l (conses r q) = conses (K.more_v l r) (more_rels l q)

  pub more_visits : {w w' : K.W} {v : Visit A.V} {u : Visit B.V} → K.Le w w' → Visits (K.RV w) v u → Visits (K.RV w') v u
  more_visits l (visits_of r) = visits_of (K.more_v l r)

  inside_visits : {w w' : K.W} {v : Visit A.V} {u : Visit B.V} → K.Inside w w' → Visits (K.RV w) v u → Visits (K.RV w') v u
  inside_visits l (visits_of r) = visits_of (K.inside_v l r)

  more_callings : {w w' : K.W} {f : Calling A.V} {g : Calling B.V} → K.Le w w' → Callings (K.RV w) f g → Callings (K.RV w') f g
  more_callings l (both_call r q) = both_call (K.more_v l r) (K.more_v l q)
  more_callings l (both_construct r) = both_construct (K.more_v l r)

  one_more : {w : K.W} {vs : List A.V} {us : List B.V} {v : A.V} {u : B.V} → Rels (K.RV w) vs us → K.RV w v u → Rels (K.RV w) (vs ++ v ∷ []) (us ++ u ∷ [])
  one_more nils r = conses r nils
  one_more (conses p q) r = conses p (one_more q r)

  -- ---- what is done with values

  pub discard_linked : {w : K.W} {v : A.V} {v' : B.V} → K.RV w v v' → K.Lift One w (discard A v) (discard B v')
  unfolding discard
  discard_linked {w = w} r = K.ret_one w

  pub give_linked : {w : K.W} {v : A.V} {v' : B.V} → K.RV w v v' → K.Lift Value w (give A v tt) (give B v' tt)
  unfolding give
  give_linked r = K.ret_value r

  pub unary_done_linked : (o : UnaryOperator) {w : K.W} {v : A.V} {v' : B.V} → K.RV w v v' → K.Lift Value w (unary_done A o v) (unary_done B o v')
  unfolding unary_done
  unary_done_linked o r = K.unary o r

  pub binary_done_linked : (o : BinaryOperator) {w : K.W} {v u : A.V} {v' u' : B.V} → K.RV w v v' → K.RV w u u' → K.Lift Value w (binary_done A o v u) (binary_done B o v' u')
  unfolding binary_done
  binary_done_linked o rv ru = K.binary o rv ru

  pub has_left_linked : {w : K.W} {u v : A.V} {u' v' : B.V} → K.RV w u u' → K.RV w v v' → K.Lift Value w (has_left A u v) (has_left B u' v')
  unfolding has_left
  has_left_linked ru rv = K.act has_key (conses rv (conses ru nils))

  module _ (R : Rec A) (Q : Rec B) (h : Linked R Q) where
    -- ---- functions

    pub statements_linked : (ss : Statements) {w : K.W} {e : Env A.H} {d : Env B.H} → K.RE w e d → K.Lift One w (statements A R ss e) (statements B Q ss d)
    unfolding statements
    statements_linked no_statements {w = w} r = K.ret_one w
    statements_linked (more_statements s ss) r = K.bind One One _ _ (h.stmt s _ _ _ r) λ w1 l1 u u' ru. statements_linked ss (K.more_e l1 r)

    pub behind_linked : (ss : Statements) {w : K.W} {e : Env A.H} {d : Env B.H} → K.RE w e d → K.Lift One w (more_statements_behind A R ss e tt) (more_statements_behind B Q ss d tt)
    unfolding more_statements_behind
    behind_linked ss r = statements_linked ss r

    -- what is called is entered
    pub entering_linked : (set : BuiltIns) → EnteringLinked K.W K.RV K.RE K.Lift (entering A R set) (entering B Q set)
    entering_linked set = record {
      body = λ w ss e d r. statements_linked ss r;
      built_in = λ w which construct vs us rs. subst (λ n. K.Lift Value w (R.native (begins_in set which (length vs - 2) construct) vs) (Q.native (begins_in set which (n - 2) construct) us)) (rels_length rs) (h.native _ w vs us rs);
      conversion = λ w kind v v' r. h.native (conversion_steps kind) w _ _ (conses r nils);
    }

  module _ (E : Entering A.V A.H A.M) (D : Entering B.V B.H B.M) (enters : EnteringLinked K.W K.RV K.RE K.Lift E D) where
    -- ---- operators

    pub compared_left_linked : (o : BinaryOperator) {w : K.W} {u v : A.V} {u' v' : B.V} → K.RV w u u' → K.RV w v v' → K.Lift Value w (compared_left A E o u v) (compared_left B D o u' v')
    unfolding compared_left
    compared_left_linked o ru rv = K.bind Value Value _ _ (K.comparable ru rv enters) λ w1 l1 a b r. binary_done_linked o (K.more_v l1 rv) r

    pub primitive_left_linked : (kind : Hint) (o : BinaryOperator) {w : K.W} {u v : A.V} {u' v' : B.V} → K.RV w u u' → K.RV w v v' → K.Lift Value w (primitive_left A E kind o u v) (primitive_left B D kind o u' v')
    unfolding primitive_left
    primitive_left_linked kind o ru rv = K.bind Value Value _ _ (K.primitive kind ru enters) λ w1 l1 a b r. binary_done_linked o (K.more_v l1 rv) r

    pub number_left_linked : (o : BinaryOperator) {w : K.W} {u v : A.V} {u' v' : B.V} → K.RV w u u' → K.RV w v v' → K.Lift Value w (number_left A E o u v) (number_left B D o u' v')
    unfolding number_left
    number_left_linked o ru rv = K.bind Value Value _ _ (K.unary unary_operator.Plus rv) λ w1 l1 a b r. primitive_left_linked hint.Number o (K.more_v l1 ru) r

    pub has_right_linked : {w : K.W} {u v : A.V} {u' v' : B.V} → K.RV w v v' → K.RV w u u' → K.Lift Value w (has_right A E v u) (has_right B D v' u')
    unfolding has_right
    has_right_linked rv ru = K.bind Value Value _ _ (K.primitive hint.String rv enters) λ w1 l1 a b r. has_left_linked (K.more_v l1 ru) r

    binary_by_linked : (c : Conversion) (o : BinaryOperator) {w : K.W} {v u : A.V} {v' u' : B.V} → K.RV w v v' → K.RV w u u' → K.Lift Value w (binary_by A E c o v u) (binary_by B D c o v' u')
    binary_by_linked unconverted o rv ru = K.binary o rv ru
    binary_by_linked compared o rv ru = K.bind Value Value _ _ (K.comparable rv ru enters) λ w1 l1 a b r. compared_left_linked o (K.more_v l1 ru) r
    binary_by_linked (primitives kind) o rv ru = K.bind Value Value _ _ (K.primitive kind rv enters) λ w1 l1 a b r. primitive_left_linked kind o (K.more_v l1 ru) r
    binary_by_linked numbers o rv ru = K.bind Value Value _ _ (K.primitive hint.Number rv enters) λ w1 l1 a b r. number_left_linked o (K.more_v l1 ru) r
    binary_by_linked keyed o rv ru = K.bind Value Value _ _ (K.act object_needed (conses ru nils)) λ w1 l1 a b r. has_right_linked (K.more_v l1 rv) r

    pub binary_values_linked : (o : BinaryOperator) {w : K.W} {v u : A.V} {v' u' : B.V} → K.RV w v v' → K.RV w u u' → K.Lift Value w (binary_values A E o v u) (binary_values B D o v' u')
    unfolding binary_values
    binary_values_linked o rv ru = binary_by_linked (conversion_of o) o rv ru

    unary_by_linked : (b : Bool) (o : UnaryOperator) {w : K.W} {v : A.V} {v' : B.V} → K.RV w v v' → K.Lift Value w (unary_by A E b o v) (unary_by B D b o v')
    unary_by_linked true o rv = K.bind Value Value _ _ (K.primitive hint.Number rv enters) λ w1 l1 a b r. unary_done_linked o r
    unary_by_linked false o rv = K.unary o rv

    pub unary_value_linked : (o : UnaryOperator) {w : K.W} {v : A.V} {v' : B.V} → K.RV w v v' → K.Lift Value w (unary_value A E o v) (unary_value B D o v')
    unfolding unary_value
    unary_value_linked o rv = unary_by_linked (takes_number o) o rv

    pub assign_to_linked : {w : K.W} {n : A.N} {n' : B.N} {v : A.V} {v' : B.V} → K.RN w n n' → K.RV w v v' → K.Lift Value w (assign_to A E n v) (assign_to B D n' v')
    unfolding assign_to
    assign_to_linked rn rv = K.bind One Value _ _ (K.put_value rn rv enters) λ w1 l1 u u' ru. give_linked (K.more_v l1 rv)

    pub assign_giving_linked : {w : K.W} {n : A.N} {n' : B.N} {a v : A.V} {a' v' : B.V} → K.RN w n n' → K.RV w a a' → K.RV w v v' → K.Lift Value w (assign_giving A E n a v) (assign_giving B D n' a' v')
    unfolding assign_giving
    assign_giving_linked rn ra rv = K.bind One Value _ _ (K.put_value rn rv enters) λ w1 l1 u u' ru. give_linked (K.more_v l1 ra)

    pub postfix_by_linked : (o : BinaryOperator) {w : K.W} {n : A.N} {n' : B.N} {v : A.V} {v' : B.V} → K.RN w n n' → K.RV w v v' → K.Lift Value w (postfix_by A E o n v) (postfix_by B D o n' v')
    unfolding postfix_by
    postfix_by_linked o {w = w} rn rv = K.bind Value Value _ _ (K.binary o rv (K.literal w (Num (Int (pos 1))))) λ w1 l1 a b r. assign_giving_linked (K.more_n l1 rn) (K.more_v l1 rv) r

    pub postfix_number_linked : (o : BinaryOperator) {w : K.W} {n : A.N} {n' : B.N} {v : A.V} {v' : B.V} → K.RN w n n' → K.RV w v v' → K.Lift Value w (postfix_number A E o n v) (postfix_number B D o n' v')
    unfolding postfix_number
    postfix_number_linked o rn rv = K.bind Value Value _ _ (K.unary unary_operator.Plus rv) λ w1 l1 a b r. postfix_by_linked o (K.more_n l1 rn) r

    pub postfix_value_linked : (o : BinaryOperator) {w : K.W} {n : A.N} {n' : B.N} {v : A.V} {v' : B.V} → K.RN w n n' → K.RV w v v' → K.Lift Value w (postfix_value A E o n v) (postfix_value B D o n' v')
    unfolding postfix_value
    postfix_value_linked o rn rv = K.bind Value Value _ _ (K.primitive hint.Number rv enters) λ w1 l1 a b r. postfix_number_linked o (K.more_n l1 rn) r

    pub prefix_by_linked : (o : BinaryOperator) {w : K.W} {n : A.N} {n' : B.N} {v : A.V} {v' : B.V} → K.RN w n n' → K.RV w v v' → K.Lift Value w (prefix_by A E o n v) (prefix_by B D o n' v')
    unfolding prefix_by
    prefix_by_linked o {w = w} rn rv = K.bind Value Value _ _ (K.binary o rv (K.literal w (Num (Int (pos 1))))) λ w1 l1 a b r. assign_to_linked (K.more_n l1 rn) r

    pub prefix_number_linked : (o : BinaryOperator) {w : K.W} {n : A.N} {n' : B.N} {v : A.V} {v' : B.V} → K.RN w n n' → K.RV w v v' → K.Lift Value w (prefix_number A E o n v) (prefix_number B D o n' v')
    unfolding prefix_number
    prefix_number_linked o rn rv = K.bind Value Value _ _ (K.unary unary_operator.Plus rv) λ w1 l1 a b r. prefix_by_linked o (K.more_n l1 rn) r

    pub prefix_value_linked : (o : BinaryOperator) {w : K.W} {n : A.N} {n' : B.N} {v : A.V} {v' : B.V} → K.RN w n n' → K.RV w v v' → K.Lift Value w (prefix_value A E o n v) (prefix_value B D o n' v')
    unfolding prefix_value
    prefix_value_linked o rn rv = K.bind Value Value _ _ (K.primitive hint.Number rv enters) λ w1 l1 a b r. prefix_number_linked o (K.more_n l1 rn) r

    module _ (R : Rec A) (Q : Rec B) (h : Linked R Q) where
      -- ---- expressions

      pub binary_right_linked : (o : BinaryOperator) (r : Expr) {w : K.W} {i j : ℕ} {v : A.V} {v' : B.V} → K.RP w i j → K.RV w v v' → K.Lift Value w (binary_right A E R o r i v) (binary_right B D Q o r j v')
      unfolding binary_right
      binary_right_linked o r p rv = K.bind Value Value _ _ (h.expr r _ _ _ p) λ w1 l1 u u' ru. binary_values_linked o (K.more_v l1 rv) ru

      pub and_right_linked : (r : Expr) {w : K.W} {i j : ℕ} {v : A.V} {v' : B.V} → K.RP w i j → K.RV w v v' → K.Lift Value w (and_right A E R r i v) (and_right B D Q r j v')
      unfolding and_right
      and_right_linked r p rv = K.fork Value rv (λ w1 l1. h.expr r w1 _ _ (K.more_p l1 p)) (λ w1 l1. K.ret_value (K.more_v l1 rv))

      pub or_right_linked : (r : Expr) {w : K.W} {i j : ℕ} {v : A.V} {v' : B.V} → K.RP w i j → K.RV w v v' → K.Lift Value w (or_right A E R r i v) (or_right B D Q r j v')
      unfolding or_right
      or_right_linked r p rv = K.fork Value rv (λ w1 l1. K.ret_value (K.more_v l1 rv)) (λ w1 l1. h.expr r w1 _ _ (K.more_p l1 p))

      pub choose_expr_linked : (a b : Expr) {w : K.W} {i j : ℕ} {v : A.V} {v' : B.V} → K.RP w i j → K.RV w v v' → K.Lift Value w (choose_expr A E R a b i v) (choose_expr B D Q a b j v')
      unfolding choose_expr
      choose_expr_linked a b p rv = K.fork Value rv (λ w1 l1. h.expr a w1 _ _ (K.more_p l1 p)) (λ w1 l1. h.expr b w1 _ _ (K.more_p l1 p))

      pub comma_right_linked : (r : Expr) {w : K.W} {i j : ℕ} {v : A.V} {v' : B.V} → K.RP w i j → K.RV w v v' → K.Lift Value w (comma_right A E R r i v) (comma_right B D Q r j v')
      unfolding comma_right
      comma_right_linked r p rv = h.expr r _ _ _ p

      pub compound_done_linked : (o : BinaryOperator) {w : K.W} {n : A.N} {n' : B.N} {a v : A.V} {a' v' : B.V} → K.RN w n n' → K.RV w a a' → K.RV w v v' → K.Lift Value w (compound_done A E R o n a v) (compound_done B D Q o n' a' v')
      unfolding compound_done
      compound_done_linked o rn ra rv = K.bind Value Value _ _ (binary_values_linked o ra rv) λ w1 l1 b b' rb. assign_to_linked (K.more_n l1 rn) rb

      pub compound_right_linked : (o : BinaryOperator) (r : Expr) {w : K.W} {i j : ℕ} {n : A.N} {n' : B.N} {a : A.V} {a' : B.V} → K.RP w i j → K.RN w n n' → K.RV w a a' → K.Lift Value w (compound_right A E R o r i n a) (compound_right B D Q o r j n' a')
      unfolding compound_right
      compound_right_linked o r p rn ra = K.bind Value Value _ _ (h.expr r _ _ _ p) λ w1 l1 v v' rv. compound_done_linked o (K.more_n l1 rn) (K.more_v l1 ra) rv

      pub read_value_linked : {w : K.W} {n : A.N} {n' : B.N} → K.RN w n n' → K.Lift Value w (read_value A E R n) (read_value B D Q n')
      unfolding read_value
      read_value_linked rn = K.get_value rn enters

      call_with_linked : {f : Calling A.V} {g : Calling B.V} {w : K.W} {vs : List A.V} {us : List B.V} → Callings (K.RV w) f g → Rels (K.RV w) vs us → K.Lift Value w (call_with A E R f vs) (call_with B D Q g us)
      unfolding call_with
      call_with_linked (both_call rf rt) rs = K.call rf rt rs enters
      call_with_linked (both_construct rf) rs = K.construct rf rs enters

      pub arguments_linked : (es : Exprs) {f : Calling A.V} {g : Calling B.V} {w : K.W} {i j : ℕ} {vs : List A.V} {us : List B.V} → Callings (K.RV w) f g → K.RP w i j → Rels (K.RV w) vs us
          → K.Lift Value w (arguments A E R f vs es i) (arguments B D Q g us es j)
      unfolding arguments
      arguments_linked no_exprs r p rs = call_with_linked r rs
      arguments_linked (more_exprs e es) r p rs = K.bind Value Value _ _ (h.expr e _ _ _ p) λ w1 l1 v v' rv. arguments_linked es (more_callings l1 r) (K.more_p l1 p) (one_more (more_rels l1 rs) rv)

      pub more_arguments_linked : (es : Exprs) {f : Calling A.V} {g : Calling B.V} {w : K.W} {i j : ℕ} {vs : List A.V} {us : List B.V} {v : A.V} {v' : B.V} → Callings (K.RV w) f g → K.RP w i j → Rels (K.RV w) vs us → K.RV w v v'
          → K.Lift Value w (more_arguments A E R f vs es i v) (more_arguments B D Q g us es j v')
      unfolding more_arguments
      more_arguments_linked es r p rs rv = arguments_linked es r p (one_more rs rv)

      pub call_reference_linked : (es : Exprs) {w : K.W} {i j : ℕ} {n : A.N} {n' : B.N} {f : A.V} {f' : B.V} → K.RP w i j → K.RN w n n' → K.RV w f f' → K.Lift Value w (call_reference A E R n es i f) (call_reference B D Q n' es j f')
      unfolding call_reference
      call_reference_linked es p rn rf = arguments_linked es (both_call rf (K.this_of rn)) p nils

      pub call_value_linked : (es : Exprs) {w : K.W} {i j : ℕ} {f : A.V} {f' : B.V} → K.RP w i j → K.RV w f f' → K.Lift Value w (call_value A E R es i f) (call_value B D Q es j f')
      unfolding call_value
      call_value_linked es {w = w} p rf = arguments_linked es (both_call rf (K.literal w Undefined)) p nils

      pub construct_value_linked : (es : Exprs) {w : K.W} {i j : ℕ} {f : A.V} {f' : B.V} → K.RP w i j → K.RV w f f' → K.Lift Value w (construct_value A E R es i f) (construct_value B D Q es j f')
      unfolding construct_value
      construct_value_linked es p rf = arguments_linked es (both_construct rf) p nils

      pub instance_done_linked : {w : K.W} {v f : A.V} {v' f' : B.V} → K.RV w v v' → K.RV w f f' → K.Lift Value w (instance_done A E R v f) (instance_done B D Q v' f')
      unfolding instance_done
      instance_done_linked rv rf = K.instance rv rf enters

      pub instance_right_linked : (r : Expr) {w : K.W} {i j : ℕ} {v : A.V} {v' : B.V} → K.RP w i j → K.RV w v v' → K.Lift Value w (instance_right A E R r i v) (instance_right B D Q r j v')
      unfolding instance_right
      instance_right_linked r p rv = K.bind Value Value _ _ (h.expr r _ _ _ p) λ w1 l1 f f' rf. instance_done_linked (K.more_v l1 rv) rf

      pub used_linked : (use_as : Use) {w : K.W} {i j : ℕ} {n : A.N} {n' : B.N} → K.RP w i j → K.RN w n n' → K.Lift Value w (used A E R use_as i n) (used B D Q use_as j n')
      unfolding used
      used_linked (assigned r) p rn = K.bind Value Value _ _ (h.expr r _ _ _ p) λ w1 l1 v v' rv. assign_to_linked (K.more_n l1 rn) rv
      used_linked (updated_by o r) p rn = K.bind Value Value _ _ (K.get_value rn enters) λ w1 l1 v v' rv. compound_right_linked o r (K.more_p l1 p) (K.more_n l1 rn) rv
      used_linked (prefixed o) p rn = K.bind Value Value _ _ (K.get_value rn enters) λ w1 l1 v v' rv. prefix_value_linked o (K.more_n l1 rn) rv
      used_linked (postfixed o) p rn = K.bind Value Value _ _ (K.get_value rn enters) λ w1 l1 v v' rv. postfix_value_linked o (K.more_n l1 rn) rv
      used_linked asked p rn = K.bind Value Value _ _ (K.typeof_value rn enters) λ w1 l1 v v' rv. unary_done_linked unary_operator.Typeof rv
      used_linked valued p rn = read_value_linked rn
      used_linked deleted p rn = K.remove rn
      used_linked (given_text text) {w = w} p rn = assign_to_linked rn (K.literal w (Str text))
      used_linked (called es) p rn = K.bind Value Value _ _ (K.get_value rn enters) λ w1 l1 v v' rv. call_reference_linked es (K.more_p l1 p) (K.more_n l1 rn) rv

      pub with_key_linked : (use_as : Use) {w : K.W} {i j : ℕ} {b k : A.V} {b' k' : B.V} → K.RP w i j → K.RV w b b' → K.RV w k k' → K.Lift Value w (with_key A E R use_as i b k) (with_key B D Q use_as j b' k')
      unfolding with_key
      with_key_linked use_as p rb rk = used_linked use_as p (K.property rb rk)

      pub with_base_linked : (use_as : Use) {w : K.W} {i j : ℕ} {k b : A.V} {k' b' : B.V} → K.RP w i j → K.RV w k k' → K.RV w b b' → K.Lift Value w (with_base A E R use_as i k b) (with_base B D Q use_as j k' b')
      unfolding with_base
      with_base_linked use_as p rk rb = K.bind Value Value _ _ (K.primitive hint.String rk enters) λ w1 l1 a a' r. with_key_linked use_as (K.more_p l1 p) (K.more_v l1 rb) r

      pub index_key_linked : (use_as : Use) {w : K.W} {i j : ℕ} {b k : A.V} {b' k' : B.V} → K.RP w i j → K.RV w b b' → K.RV w k k' → K.Lift Value w (index_key A E R use_as i b k) (index_key B D Q use_as j b' k')
      unfolding index_key
      index_key_linked use_as p rb rk = K.bind Value Value _ _ (K.act base_needed (conses rb nils)) λ w1 l1 a a' r. with_base_linked use_as (K.more_p l1 p) (K.more_v l1 rk) r

      pub index_base_linked : (use_as : Use) (n : Expr) {w : K.W} {i j : ℕ} {b : A.V} {b' : B.V} → K.RP w i j → K.RV w b b' → K.Lift Value w (index_base A E R use_as n i b) (index_base B D Q use_as n j b')
      unfolding index_base
      index_base_linked use_as n p rb = K.bind Value Value _ _ (h.expr n _ _ _ p) λ w1 l1 k k' rk. index_key_linked use_as (K.more_p l1 p) (K.more_v l1 rb) rk

      pub member_base_linked : (use_as : Use) (text : List ℕ) {w : K.W} {i j : ℕ} {b : A.V} {b' : B.V} → K.RP w i j → K.RV w b b' → K.Lift Value w (member_base A E R use_as text i b) (member_base B D Q use_as text j b')
      unfolding member_base
      member_base_linked use_as text {w = w} p rb = index_key_linked use_as p rb (K.literal w (Str text))

      pub use_linked : (use_as : Use) (e : Expr) (w : K.W) (i j : ℕ) → K.RP w i j → K.Lift Value w (use_step A E R use_as e i) (use_step B D Q use_as e j)
      unfolding use_step
      use_linked use_as (name at text) w i j p = K.resolve Value text _ _ p λ w1 l1 n n' rn. used_linked use_as (K.more_p l1 p) rn
      use_linked use_as (paren at e) w i j p = h.use_of use_as e w i j p
      use_linked use_as (number there n) w i j p = K.act (throws_error error.ReferenceError) nils
      use_linked use_as (string there text v) w i j p = K.act (throws_error error.ReferenceError) nils
      use_linked use_as (this there) w i j p = K.act (throws_error error.ReferenceError) nils
      use_linked use_as (null there) w i j p = K.act (throws_error error.ReferenceError) nils
      use_linked use_as (boolean there b) w i j p = K.act (throws_error error.ReferenceError) nils
      use_linked use_as (array there is final) w i j p = K.act (throws_error error.ReferenceError) nils
      use_linked use_as (object there ps final) w i j p = K.act (throws_error error.ReferenceError) nils
      use_linked use_as (function there f) w i j p = K.act (throws_error error.ReferenceError) nils
      use_linked use_as (member there e text) w i j p = K.bind Value Value _ _ (h.expr e w i j p) λ w1 l1 b b' rb. member_base_linked use_as text (K.more_p l1 p) rb
      use_linked use_as (index there e n) w i j p = K.bind Value Value _ _ (h.expr e w i j p) λ w1 l1 b b' rb. index_base_linked use_as n (K.more_p l1 p) rb
      use_linked use_as (new_with there e fs) w i j p = K.act (throws_error error.ReferenceError) nils
      use_linked use_as (new_bare there e) w i j p = K.act (throws_error error.ReferenceError) nils
      use_linked use_as (call there e fs) w i j p = K.act (throws_error error.ReferenceError) nils
      use_linked use_as (postfix there e o) w i j p = K.act (throws_error error.ReferenceError) nils
      use_linked use_as (unary there o e) w i j p = K.act (throws_error error.ReferenceError) nils
      use_linked use_as (binary there l o r) w i j p = K.act (throws_error error.ReferenceError) nils
      use_linked use_as (conditional there c a b) w i j p = K.act (throws_error error.ReferenceError) nils
      use_linked use_as (assign there l o r) w i j p = K.act (throws_error error.ReferenceError) nils
      use_linked use_as (comma there l r) w i j p = K.act (throws_error error.ReferenceError) nils

      callee_linked : (b : Bool) (e : Expr) (es : Exprs) (w : K.W) (i j : ℕ) → K.RP w i j → K.Lift Value w (callee_step A E R b e es i) (callee_step B D Q b e es j)
      callee_linked true e es w i j p = h.use_of (called es) e w i j p
      callee_linked false e es w i j p = K.bind Value Value _ _ (h.expr e w i j p) λ w1 l1 f f' rf. call_value_linked es (K.more_p l1 p) rf

      items_linked : (act : Act) (items : Items) {w : K.W} {i j : ℕ} {vs : List A.V} {us : List B.V} → K.RP w i j → Rels (K.RV w) vs us → K.Lift Value w (items_of A E R act vs items i) (items_of B D Q act us items j)
      unfolding items_of
      items_linked act no_items p rs = K.act act rs
      items_linked act (hole items) p rs = items_linked act items p rs
      items_linked act (item e items) p rs = K.bind Value Value _ _ (h.expr e _ _ _ p) λ w1 l1 v v' rv. items_linked act items (K.more_p l1 p) (one_more (more_rels l1 rs) rv)

      pub more_items_linked : (act : Act) (items : Items) {w : K.W} {i j : ℕ} {vs : List A.V} {us : List B.V} {v : A.V} {v' : B.V} → K.RP w i j → Rels (K.RV w) vs us → K.RV w v v'
          → K.Lift Value w (more_items A E R act vs items i v) (more_items B D Q act us items j v')
      unfolding more_items
      more_items_linked act items p rs rv = items_linked act items p (one_more rs rv)

      properties_linked : (act : Act) (ps : Properties) {w : K.W} {i j : ℕ} {vs : List A.V} {us : List B.V} → K.RP w i j → Rels (K.RV w) vs us → K.Lift Value w (properties A E R act vs ps i) (properties B D Q act us ps j)
      unfolding properties
      properties_linked act no_properties p rs = K.act act rs
      properties_linked act (more_properties (value at key e) ps) p rs = K.bind Value Value _ _ (h.expr e _ _ _ p) λ w1 l1 v v' rv. properties_linked act ps (K.more_p l1 p) (one_more (more_rels l1 rs) rv)
      properties_linked act (more_properties (getter at key f) ps) p rs = K.bind Value Value _ _ (K.function f p) λ w1 l1 v v' rv. properties_linked act ps (K.more_p l1 p) (one_more (more_rels l1 rs) rv)
      properties_linked act (more_properties (setter at key f) ps) p rs = K.bind Value Value _ _ (K.function f p) λ w1 l1 v v' rv. properties_linked act ps (K.more_p l1 p) (one_more (more_rels l1 rs) rv)

      pub more_values_linked : (act : Act) (ps : Properties) {w : K.W} {i j : ℕ} {vs : List A.V} {us : List B.V} {v : A.V} {v' : B.V} → K.RP w i j → Rels (K.RV w) vs us → K.RV w v v'
          → K.Lift Value w (more_values A E R act vs ps i v) (more_values B D Q act us ps j v')
      unfolding more_values
      more_values_linked act ps p rs rv = properties_linked act ps p (one_more rs rv)

      unary_linked : (o : UnaryOperator) (e : Expr) (w : K.W) (i j : ℕ) → K.RP w i j → K.Lift Value w (A.bind Value Value (R.expr e i) (unary_value A E o)) (B.bind Value Value (Q.expr e j) (unary_value B D o))
      unary_linked o e w i j p = K.bind Value Value _ _ (h.expr e w i j p) λ w1 l1 v v' rv. unary_value_linked o rv

      typeof_linked : (b : Bool) (e : Expr) (w : K.W) (i j : ℕ) → K.RP w i j → K.Lift Value w (typeof_step A E R b e i) (typeof_step B D Q b e j)
      typeof_linked false e w i j p = unary_linked unary_operator.Typeof e w i j p
      typeof_linked true e w i j p = h.use_of asked e w i j p

      delete_linked : (b : Bool) (e : Expr) (w : K.W) (i j : ℕ) → K.RP w i j → K.Lift Value w (delete_step A E R b e i) (delete_step B D Q b e j)
      delete_linked false e w i j p = unary_linked unary_operator.Delete e w i j p
      delete_linked true e w i j p = h.use_of deleted e w i j p

      unary_step_linked : (o : UnaryOperator) (e : Expr) (w : K.W) (i j : ℕ) → K.RP w i j → K.Lift Value w (unary_step A E R o e i) (unary_step B D Q o e j)
      unfolding unary_step
      unary_step_linked unary_operator.Delete e w i j p = delete_linked (is_reference e) e w i j p
      unary_step_linked unary_operator.Typeof e w i j p = typeof_linked (is_name e) e w i j p
      unary_step_linked unary_operator.Increment e w i j p = h.use_of (prefixed binary_operator.Add) e w i j p
      unary_step_linked unary_operator.Decrement e w i j p = h.use_of (prefixed binary_operator.Subtract) e w i j p
      unary_step_linked unary_operator.Void e w i j p = unary_linked unary_operator.Void e w i j p
      unary_step_linked unary_operator.Plus e w i j p = unary_linked unary_operator.Plus e w i j p
      unary_step_linked unary_operator.Minus e w i j p = unary_linked unary_operator.Minus e w i j p
      unary_step_linked unary_operator.BitNot e w i j p = unary_linked unary_operator.BitNot e w i j p
      unary_step_linked unary_operator.Not e w i j p = unary_linked unary_operator.Not e w i j p

      binary_linked : (l : Expr) (o : BinaryOperator) (r : Expr) (w : K.W) (i j : ℕ) → K.RP w i j → K.Lift Value w (A.bind Value Value (R.expr l i) (binary_right A E R o r i)) (B.bind Value Value (Q.expr l j) (binary_right B D Q o r j))
      binary_linked l o r w i j p = K.bind Value Value _ _ (h.expr l w i j p) λ w1 l1 v v' rv. binary_right_linked o r (K.more_p l1 p) rv

      binary_step_linked : (l : Expr) (o : BinaryOperator) (r : Expr) (w : K.W) (i j : ℕ) → K.RP w i j → K.Lift Value w (binary_step A E R l o r i) (binary_step B D Q l o r j)
      unfolding binary_step
      binary_step_linked l binary_operator.And r w i j p = K.bind Value Value _ _ (h.expr l w i j p) λ w1 l1 v v' rv. and_right_linked r (K.more_p l1 p) rv
      binary_step_linked l binary_operator.Or r w i j p = K.bind Value Value _ _ (h.expr l w i j p) λ w1 l1 v v' rv. or_right_linked r (K.more_p l1 p) rv
      binary_step_linked l binary_operator.In r w i j p = binary_linked l binary_operator.In r w i j p
      binary_step_linked l binary_operator.Instanceof r w i j p = K.bind Value Value _ _ (h.expr l w i j p) λ w1 l1 v v' rv. instance_right_linked r (K.more_p l1 p) rv
      binary_step_linked l binary_operator.Multiply r w i j p = binary_linked l binary_operator.Multiply r w i j p
      binary_step_linked l binary_operator.Divide r w i j p = binary_linked l binary_operator.Divide r w i j p
      binary_step_linked l binary_operator.Remainder r w i j p = binary_linked l binary_operator.Remainder r w i j p
      binary_step_linked l binary_operator.Add r w i j p = binary_linked l binary_operator.Add r w i j p
      binary_step_linked l binary_operator.Subtract r w i j p = binary_linked l binary_operator.Subtract r w i j p
      binary_step_linked l binary_operator.ShiftLeft r w i j p = binary_linked l binary_operator.ShiftLeft r w i j p
      binary_step_linked l binary_operator.ShiftRight r w i j p = binary_linked l binary_operator.ShiftRight r w i j p
      binary_step_linked l binary_operator.ShiftRightZero r w i j p = binary_linked l binary_operator.ShiftRightZero r w i j p
      binary_step_linked l binary_operator.Less r w i j p = binary_linked l binary_operator.Less r w i j p
      binary_step_linked l binary_operator.Greater r w i j p = binary_linked l binary_operator.Greater r w i j p
      binary_step_linked l binary_operator.LessEqual r w i j p = binary_linked l binary_operator.LessEqual r w i j p
      binary_step_linked l binary_operator.GreaterEqual r w i j p = binary_linked l binary_operator.GreaterEqual r w i j p
      binary_step_linked l binary_operator.Equal r w i j p = binary_linked l binary_operator.Equal r w i j p
      binary_step_linked l binary_operator.NotEqual r w i j p = binary_linked l binary_operator.NotEqual r w i j p
      binary_step_linked l binary_operator.StrictEqual r w i j p = binary_linked l binary_operator.StrictEqual r w i j p
      binary_step_linked l binary_operator.StrictNotEqual r w i j p = binary_linked l binary_operator.StrictNotEqual r w i j p
      binary_step_linked l binary_operator.BitAnd r w i j p = binary_linked l binary_operator.BitAnd r w i j p
      binary_step_linked l binary_operator.BitXor r w i j p = binary_linked l binary_operator.BitXor r w i j p
      binary_step_linked l binary_operator.BitOr r w i j p = binary_linked l binary_operator.BitOr r w i j p

      pub expr_linked : (e : Expr) (w : K.W) (i j : ℕ) → K.RP w i j → K.Lift Value w (expr_step A E R e i) (expr_step B D Q e j)
      unfolding expr_step
      expr_linked (name at text) w i j p = K.resolve Value text _ _ p λ w1 l1 n n' rn. read_value_linked rn
      expr_linked (number at n) w i j p = K.ret_value (K.literal w (Num (Int n)))
      expr_linked (string at text v) w i j p = K.ret_value (K.literal w (Str v))
      expr_linked (this at) w i j p = K.resolve Value _ _ _ p λ w1 l1 n n' rn. read_value_linked rn
      expr_linked (null at) w i j p = K.ret_value (K.literal w Null)
      expr_linked (boolean at b) w i j p = K.ret_value (K.literal w (prims.Bool b))
      expr_linked (paren at e) w i j p = h.expr e w i j p
      expr_linked (array at items final) w i j p = items_linked (array_of (places_of 0 items) (count_of items)) items p nils
      expr_linked (object at ps final) w i j p = properties_linked (object_of (parts_of ps)) ps p nils
      expr_linked (function at f) w i j p = K.function f p
      expr_linked (member at e text) w i j p = K.bind Value Value _ _ (h.expr e w i j p) λ w1 l1 b b' rb. member_base_linked valued text (K.more_p l1 p) rb
      expr_linked (index at e n) w i j p = K.bind Value Value _ _ (h.expr e w i j p) λ w1 l1 b b' rb. index_base_linked valued n (K.more_p l1 p) rb
      expr_linked (new_with at e es) w i j p = K.bind Value Value _ _ (h.expr e w i j p) λ w1 l1 f f' rf. construct_value_linked es (K.more_p l1 p) rf
      expr_linked (new_bare at e) w i j p = K.bind Value Value _ _ (h.expr e w i j p) λ w1 l1 f f' rf. construct_value_linked no_exprs (K.more_p l1 p) rf
      expr_linked (call at e es) w i j p = callee_linked (is_reference e) e es w i j p
      expr_linked (postfix at e postfix_operator.Increment) w i j p = h.use_of (postfixed binary_operator.Add) e w i j p
      expr_linked (postfix at e postfix_operator.Decrement) w i j p = h.use_of (postfixed binary_operator.Subtract) e w i j p
      expr_linked (unary at o e) w i j p = unary_step_linked o e w i j p
      expr_linked (binary at l o r) w i j p = binary_step_linked l o r w i j p
      expr_linked (conditional at c a b) w i j p = K.bind Value Value _ _ (h.expr c w i j p) λ w1 l1 v v' rv. choose_expr_linked a b (K.more_p l1 p) rv
      expr_linked (assign at l o r) w i j p = h.use_of (assigned_by (operator_of o) r) l w i j p
      expr_linked (comma at l r) w i j p = K.bind Value Value _ _ (h.expr l w i j p) λ w1 l1 v v' rv. comma_right_linked r (K.more_p l1 p) rv

      -- ---- statements

      variables_linked : (ds : List (Ident × MaybeExpr)) (w : K.W) (i j : ℕ) → K.RP w i j → K.Lift One w (variables A E R ds i) (variables B D Q ds j)
      unfolding variables
      variables_linked [] w i j p = K.ret_one w
      variables_linked ((ident, absent) ∷ ds) w i j p = variables_linked ds w i j p
      variables_linked ((ident, present e) ∷ ds) w i j p =
          K.resolve One ident.text _ _ p λ w1 l1 n n' rn.
          K.bind Value One _ _ (h.expr e w1 i j (K.more_p l1 p)) λ w2 l2 v v' rv.
          K.bind One One _ _ (K.put_value (K.more_n l2 rn) rv enters) λ w3 l3 u u' ru.
          variables_linked ds w3 i j (K.more_p l3 (K.more_p l2 (K.more_p l1 p)))

      pub more_variables_linked : (ds : List (Ident × MaybeExpr)) {w : K.W} {i j : ℕ} {n : A.N} {n' : B.N} {v : A.V} {v' : B.V} → K.RP w i j → K.RN w n n' → K.RV w v v' → K.Lift One w (more_variables A E R n ds i v) (more_variables B D Q n' ds j v')
      unfolding more_variables
      more_variables_linked ds p rn rv = K.bind One One _ _ (K.put_value rn rv enters) λ w1 l1 u u' ru. variables_linked ds w1 _ _ (K.more_p l1 p)

      pub turn_test_linked : (round : Round) {w : K.W} {e : Env A.H} {d : Env B.H} {v : A.V} {v' : B.V} → K.RE w e d → K.RV w v v' → K.Lift One w (turn_test A E R round e v) (turn_test B D Q round d v')
      unfolding turn_test
      turn_test_linked round {w = w} r rv = K.again rv (h.turn round w _ _ r) (K.ret_one w)

      tested_by_linked : (test : MaybeExpr) (round : Round) {w : K.W} {e : Env A.H} {d : Env B.H} → K.RE w e d → K.Lift One w (tested_by A E R test round e) (tested_by B D Q test round d)
      tested_by_linked absent round r = h.turn round _ _ _ r
      tested_by_linked (present c) round r = K.bind Value One _ _ (h.expr c _ _ _ (K.place_of r)) λ w1 l1 v v' rv. turn_test_linked round (K.more_e l1 r) rv

      pub tested_linked : (round : Round) {w : K.W} {e : Env A.H} {d : Env B.H} → K.RE w e d → K.Lift One w (tested A E R round e) (tested B D Q round d)
      unfolding tested
      tested_linked round r = tested_by_linked round.test round r

      pub updated_linked : (round : Round) {w : K.W} {e : Env A.H} {d : Env B.H} (v : A.V) (v' : B.V) → K.RE w e d → K.Lift One w (updated A E R round e v) (updated B D Q round d v')
      unfolding updated
      updated_linked round v v' r = tested_linked round r

      turned_by_linked : (update : MaybeExpr) (round : Round) {w : K.W} {e : Env A.H} {d : Env B.H} → K.RE w e d → K.Lift One w (turned_by A E R update round e) (turned_by B D Q update round d)
      turned_by_linked absent round r = tested_linked round r
      turned_by_linked (present c) round r = K.bind Value One _ _ (h.expr c _ _ _ (K.place_of r)) λ w1 l1 v v' rv. updated_linked round v v' (K.more_e l1 r)

      pub turned_round_linked : (round : Round) {w : K.W} {e : Env A.H} {d : Env B.H} → K.RE w e d → K.Lift One w (turned_round A E R round e tt) (turned_round B D Q round d tt)
      unfolding turned_round
      turned_round_linked round r = turned_by_linked round.update round r

      pub turn_linked : (round : Round) (w : K.W) (e : Env A.H) (d : Env B.H) → K.RE w e d → K.Lift One w (turn_step A E R round e) (turn_step B D Q round d)
      unfolding turn_step
      turn_linked round w e d r = K.bind One One _ _ (K.round true round.labels _ _ r λ w1 l1 e' d' r'. h.stmt round.body w1 e' d' r') λ w1 l1 u u' ru. turned_round_linked round (K.more_e l1 r)

      pub loop_linked : (round : Round) {w : K.W} {e : Env A.H} {d : Env B.H} → K.RE w e d → K.Lift One w (loop A E R round e) (loop B D Q round d)
      unfolding loop
      loop_linked round r = K.round false round.labels _ _ r λ w1 l1 e' d' r'. tested_linked round r'

      pub looped_linked : (round : Round) {w : K.W} {e : Env A.H} {d : Env B.H} → K.RE w e d → K.Lift One w (looped A E R round e tt) (looped B D Q round d tt)
      unfolding looped
      looped_linked round r = loop_linked round r

      pub looped_value_linked : (round : Round) {w : K.W} {e : Env A.H} {d : Env B.H} (v : A.V) (v' : B.V) → K.RE w e d → K.Lift One w (looped_value A E R round e v) (looped_value B D Q round d v')
      unfolding looped_value
      looped_value_linked round v v' r = loop_linked round r

      first_linked : (first : First) (round : Round) {w : K.W} {e : Env A.H} {d : Env B.H} → K.RE w e d → K.Lift One w (first_step A E R first round e) (first_step B D Q first round d)
      unfolding first_step
      first_linked (first_expr absent) round r = loop_linked round r
      first_linked (first_expr (present c)) round r = K.bind Value One _ _ (h.expr c _ _ _ (K.place_of r)) λ w1 l1 v v' rv. looped_value_linked round v v' (K.more_e l1 r)
      first_linked (first_var ds) round r = K.bind One One _ _ (variables_linked (variable_list ds) _ _ _ (K.place_of r)) λ w1 l1 u u' ru. looped_linked round (K.more_e l1 r)

      still_there_linked : {w : K.W} {visit : Visit A.V} {visit' : Visit B.V} {e : Env A.H} {d : Env B.H} {rest : A.M One} {rest' : B.M One} {v : A.V} {v' : B.V} → Visits (K.RV w) visit visit' → K.RE w e d
          → K.Lift One w rest rest' → K.RV w v v' → K.Lift One w (still_there A E R visit e rest v) (still_there B D Q visit' d rest' v')
      unfolding still_there
      still_there_linked {w = w} rs r l rv = K.again rv (h.visit w _ _ rs _ _ r) l

      visits_linked : (labels : List (Option (List ℕ))) (target : Target) (s : Statement) (keys : List (List ℕ)) {w : K.W} {o : A.V} {o' : B.V} {e : Env A.H} {d : Env B.H} → K.RV w o o' → K.RE w e d
          → K.Lift One w (visits A E R labels target s o keys e) (visits B D Q labels target s o' keys d)
      unfolding visits
      visits_linked labels target s [] {w = w} ro r = K.ret_one w
      visits_linked labels target s (key ∷ others) {w = w} ro r = K.bind Value One _ _ (K.act has_key (conses (K.literal w (Str key)) (conses ro nils))) λ w1 l1 v v' rv.
          still_there_linked (visits_of (K.more_v l1 ro)) (K.more_e l1 r) (visits_linked labels target s others (K.more_v l1 ro) (K.more_e l1 r)) rv

      pub visited_linked : {w : K.W} {v : Visit A.V} {v' : Visit B.V} {e : Env A.H} {d : Env B.H} → Visits (K.RV w) v v' → K.RE w e d → K.Lift One w (visited A E R v e tt) (visited B D Q v' d tt)
      unfolding visited
      visited_linked (visits_of {labels = labels} {target = target} {body = body} {others = others} ro) r = visits_linked labels target body others ro r

      pub visit_body_linked : (s : Statement) {w : K.W} {e : Env A.H} {d : Env B.H} (v : A.V) (v' : B.V) → K.RE w e d → K.Lift One w (visit_body A E R s e v) (visit_body B D Q s d v')
      unfolding visit_body
      visit_body_linked s v v' r = h.stmt s _ _ _ r

      target_linked : (target : Target) (text : List ℕ) {w : K.W} {i j : ℕ} → K.RP w i j → K.Lift Value w (target_step A E R target text i) (target_step B D Q target text j)
      unfolding target_step
      target_linked (target_expr e) text p = h.use_of (given_text text) e _ _ _ p
      target_linked (target_var ident) text p = K.resolve Value ident.text _ _ p λ w1 l1 n n' rn. used_linked (given_text text) (K.more_p l1 p) rn

      visit_turn_linked : {w : K.W} {v : Visit A.V} {v' : Visit B.V} {e : Env A.H} {d : Env B.H} → Visits (K.RV w) v v' → K.RE w e d → K.Lift One w (visit_turn A E R v e) (visit_turn B D Q v' d)
      unfolding visit_turn
      visit_turn_linked (visits_of {target = target} {body = body} {key = key} ro) r = K.bind Value One _ _ (target_linked target key (K.place_of r)) λ w1 l1 u u' ru. visit_body_linked body u u' (K.more_e l1 r)

      pub visit_linked : (w : K.W) (v : Visit A.V) (u : Visit B.V) → Visits (K.RV w) v u → (e : Env A.H) (d : Env B.H) → K.RE w e d → K.Lift One w (visit_step A E R v e) (visit_step B D Q u d)
      unfolding visit_step
      visit_linked w _ _ (visits_of {labels = labels} {target = target} {body = body} {key = key} {others = others} ro) e d r =
          K.bind One One _ _ (K.round true labels _ _ r λ w1 l1 e' d' r'. visit_turn_linked (visits_of {labels = labels} {target = target} {body = body} {key = key} {others = others} (K.inside_v l1 ro)) r')
          λ w1 l1 a b rab. visited_linked (visits_of {labels = labels} {target = target} {body = body} {key = key} {others = others} (K.more_v l1 ro)) (K.more_e l1 r)

      with_keys_linked : (labels : List (Option (List ℕ))) (target : Target) (s : Statement) {w : K.W} {o : A.V} {o' : B.V} {e : Env A.H} {d : Env B.H} → K.RV w o o' → K.RE w e d → K.Lift One w (with_keys A E R labels target s o e) (with_keys B D Q labels target s o' d)
      unfolding with_keys
      with_keys_linked labels target s ro r = K.keys _ _ ro λ w1 l1 keys. visits_linked labels target s keys (K.more_v l1 ro) (K.more_e l1 r)

      pub enumerated_linked : (labels : List (Option (List ℕ))) (target : Target) (s : Statement) {w : K.W} {e : Env A.H} {d : Env B.H} {o : A.V} {o' : B.V} → K.RE w e d → K.RV w o o' → K.Lift One w (enumerated A E R labels target s e o) (enumerated B D Q labels target s d o')
      unfolding enumerated
      enumerated_linked labels target s r ro = K.round false labels _ _ r λ w1 l1 e' d' r'. with_keys_linked labels target s (K.inside_v l1 ro) r'

      pub falls_linked : (cs : Clauses) {w : K.W} {e : Env A.H} {d : Env B.H} → K.RE w e d → K.Lift One w (falls A E R cs e) (falls B D Q cs d)
      unfolding falls
      falls_linked no_clauses {w = w} r = K.ret_one w
      falls_linked (case c ss cs) r = K.bind One One _ _ (statements_linked R Q h ss r) λ w1 l1 u u' ru. falls_linked cs (K.more_e l1 r)
      falls_linked (default ss cs) r = K.bind One One _ _ (statements_linked R Q h ss r) λ w1 l1 u u' ru. falls_linked cs (K.more_e l1 r)

      pub falls_on_linked : (cs : Clauses) {w : K.W} {e : Env A.H} {d : Env B.H} → K.RE w e d → K.Lift One w (falls_on A E R cs e tt) (falls_on B D Q cs d tt)
      unfolding falls_on
      falls_on_linked cs r = falls_linked cs r

      default_linked : (cs : Clauses) {w : K.W} {e : Env A.H} {d : Env B.H} → K.RE w e d → K.Lift One w (from_default A E R cs e) (from_default B D Q cs d)
      default_linked no_clauses {w = w} r = K.ret_one w
      default_linked (case c ss cs) r = default_linked cs r
      default_linked (default ss cs) r = falls_linked (default ss cs) r

      pub case_chosen_linked : (ss : Statements) (cs : Clauses) {w : K.W} {e : Env A.H} {d : Env B.H} {m : A.M One} {n : B.M One} {v : A.V} {v' : B.V} → K.RE w e d → K.Lift One w m n → K.RV w v v'
          → K.Lift One w (case_chosen A E R ss cs e m v) (case_chosen B D Q ss cs d n v')
      unfolding case_chosen
      case_chosen_linked ss cs r l rv = K.again rv (K.bind One One _ _ (statements_linked R Q h ss r) λ w1 l1 u u' ru. falls_on_linked cs (K.more_e l1 r)) l

      pub case_compared_linked : (ss : Statements) (cs : Clauses) {w : K.W} {e : Env A.H} {d : Env B.H} {m : A.M One} {n : B.M One} {v u : A.V} {v' u' : B.V} → K.RE w e d → ((w' : K.W) → K.Le w w' → K.Lift One w' m n) → K.RV w v v' → K.RV w u u'
          → K.Lift One w (case_compared A E R v ss cs e m u) (case_compared B D Q v' ss cs d n u')
      unfolding case_compared
      case_compared_linked ss cs r l rv ru = K.bind Value One _ _ (K.binary binary_operator.StrictEqual rv ru) λ w1 l1 b b' rb. case_chosen_linked ss cs (K.more_e l1 r) (l w1 l1) rb

      pub cases_linked : (all cs : Clauses) {w : K.W} {e : Env A.H} {d : Env B.H} {v : A.V} {v' : B.V} → K.RE w e d → K.RV w v v' → K.Lift One w (cases A E R v all cs e) (cases B D Q v' all cs d)
      unfolding cases
      cases_linked all no_clauses r rv = default_linked all r
      cases_linked all (case c ss cs) r rv = K.bind Value One _ _ (h.expr c _ _ _ (K.place_of r)) λ w1 l1 u u' ru.
          case_compared_linked ss cs (K.more_e l1 r) (λ w2 l2. cases_linked all cs (K.more_e l2 (K.more_e l1 r)) (K.more_v l2 (K.more_v l1 rv))) (K.more_v l1 rv) ru
      cases_linked all (default ss cs) r rv = cases_linked all cs r rv

      in_switch_linked : (cs : Clauses) {w : K.W} {e : Env A.H} {d : Env B.H} {v : A.V} {v' : B.V} → K.RE w e d → K.RV w v v' → K.Lift One w (in_switch A E R v cs e) (in_switch B D Q v' cs d)
      unfolding in_switch
      in_switch_linked cs r rv = K.again rv (cases_linked cs cs r rv) (cases_linked cs cs r rv)

      pub switched_linked : (labels : List (List ℕ)) (cs : Clauses) {w : K.W} {e : Env A.H} {d : Env B.H} {v : A.V} {v' : B.V} → K.RE w e d → K.RV w v v' → K.Lift One w (switched A E R labels cs e v) (switched B D Q labels cs d v')
      unfolding switched
      switched_linked labels cs r rv = K.round false (labels_of labels) _ _ r λ w1 l1 e' d' r'. in_switch_linked cs r' (K.inside_v l1 rv)

      pub jump_with_linked : (leaving : Leaving) {w : K.W} {e : Env A.H} {d : Env B.H} {v : A.V} {v' : B.V} → K.RE w e d → K.RV w v v' → K.Lift One w (jump_with A E R leaving e v) (jump_with B D Q leaving d v')
      unfolding jump_with
      jump_with_linked leaving r rv = K.jump leaving r rv

      return_linked : (c : MaybeExpr) {w : K.W} {e : Env A.H} {d : Env B.H} → K.RE w e d → K.Lift One w (return_step A E R c e) (return_step B D Q c d)
      return_linked absent {w = w} r = K.jump returned r (K.literal w Undefined)
      return_linked (present c) r = K.bind Value One _ _ (h.expr c _ _ _ (K.place_of r)) λ w1 l1 v v' rv. jump_with_linked returned (K.more_e l1 r) rv

      upgraded_linked : (upgrade : Option Upgrade) {w : K.W} {e : Env A.H} {d : Env B.H} → K.RE w e d → K.Lift One w (upgraded A E R upgrade e) (upgraded B D Q upgrade d)
      upgraded_linked None {w = w} r = K.ret_one w
      upgraded_linked (Some upgrade) r = K.raise upgrade.leaving upgrade.names r

      pub behind_expression_linked : (upgrade : Option Upgrade) {w : K.W} {e : Env A.H} {d : Env B.H} → K.RE w e d → (v : A.V) (v' : B.V) → K.Lift One w (behind_expression A E R upgrade e v) (behind_expression B D Q upgrade d v')
      unfolding behind_expression
      behind_expression_linked upgrade r v v' = upgraded_linked upgrade r

      pub choose_stmt_linked : (s : Statement) {w : K.W} {e : Env A.H} {d : Env B.H} {v : A.V} {v' : B.V} → K.RE w e d → K.RV w v v' → K.Lift One w (choose_stmt A E R s e v) (choose_stmt B D Q s d v')
      unfolding choose_stmt
      choose_stmt_linked s r rv = K.fork One rv (λ w1 l1. h.stmt s w1 _ _ (K.more_e l1 r)) (λ w1 l1. K.ret_one w1)

      pub choose_stmts_linked : (s t : Statement) {w : K.W} {e : Env A.H} {d : Env B.H} {v : A.V} {v' : B.V} → K.RE w e d → K.RV w v v' → K.Lift One w (choose_stmts A E R s t e v) (choose_stmts B D Q s t d v')
      unfolding choose_stmts
      choose_stmts_linked s t r rv = K.fork One rv (λ w1 l1. h.stmt s w1 _ _ (K.more_e l1 r)) (λ w1 l1. h.stmt t w1 _ _ (K.more_e l1 r))

      block_linked : (b : Block) {w : K.W} {e : Env A.H} {d : Env B.H} → K.RE w e d → K.Lift One w (block_step A E R b e) (block_step B D Q b d)
      block_linked (block_of at ss) r = statements_linked R Q h ss r

      pub handled_linked : (ident : Ident) (b : Block) {w : K.W} {e : Env A.H} {d : Env B.H} {v : A.V} {v' : B.V} → K.RE w e d → K.RV w v v' → K.Lift One w (handled A E R ident b e v) (handled B D Q ident b d v')
      unfolding handled
      handled_linked ident b r rv = K.declare ident.text _ _ rv r λ w1 l1 e' d' r'. h.stmt (block b) w1 e' d' r'

      unhandled_linked : {w : K.W} {v : A.V} {v' : B.V} → K.RV w v v' → K.Lift One w (unhandled A E R v) (unhandled B D Q v')
      unfolding unhandled
      unhandled_linked {w = w} rv = K.ret_one w

      label_linked : (b : Bool) (labels : List (List ℕ)) (text : List ℕ) (s : Statement) (w : K.W) (e : Env A.H) (d : Env B.H) → K.RE w e d → K.Lift One w (label_step A E R b labels text s e) (label_step B D Q b labels text s d)
      label_linked true labels text s w e d r = h.named (text ∷ labels) s w e d r
      label_linked false labels text s w e d r = K.round false (Some text ∷ []) _ _ r λ w1 l1 e' d' r'. h.stmt s w1 e' d' r'

      pub named_linked : (labels : List (List ℕ)) (s : Statement) (w : K.W) (e : Env A.H) (d : Env B.H) → K.RE w e d → K.Lift One w (named_step A E R labels s e) (named_step B D Q labels s d)
      unfolding named_step
      named_linked labels (do_while at s c semi) w e d r = K.round false (labels_of labels) _ _ r λ w1 l1 e' d' r'. h.turn _ w1 e' d' r'
      named_linked labels (while at c s) w e d r = loop_linked _ r
      named_linked labels (for at first test update s) w e d r = first_linked first _ r
      named_linked labels (for_in at target c s) w e d r = K.bind Value One _ _ (h.expr c w _ _ (K.place_of r)) λ w1 l1 v v' rv. enumerated_linked (labels_of labels) target s (K.more_e l1 r) rv
      named_linked labels (switch at c cs) w e d r = K.bind Value One _ _ (h.expr c w _ _ (K.place_of r)) λ w1 l1 v v' rv. switched_linked labels cs (K.more_e l1 r) rv
      named_linked labels (labelled at text s) w e d r = label_linked (carries_labels s) labels text s w e d r
      named_linked labels (block b) w e d r = K.ret_one w
      named_linked labels (var at ds semi) w e d r = K.ret_one w
      named_linked labels (empty at) w e d r = K.ret_one w
      named_linked labels (expression at c semi) w e d r = K.ret_one w
      named_linked labels (if_then at c s) w e d r = K.ret_one w
      named_linked labels (if_else at c s t) w e d r = K.ret_one w
      named_linked labels (continue at label semi) w e d r = K.ret_one w
      named_linked labels (break at label semi) w e d r = K.ret_one w
      named_linked labels (return at c semi) w e d r = K.ret_one w
      named_linked labels (throw at c semi) w e d r = K.ret_one w
      named_linked labels (try_catch at b ident handler) w e d r = K.ret_one w
      named_linked labels (try_finally at b last) w e d r = K.ret_one w
      named_linked labels (try_both at b ident handler last) w e d r = K.ret_one w
      named_linked labels (debugger at semi) w e d r = K.ret_one w
      named_linked labels (function_declaration at f) w e d r = K.ret_one w

      pub stmt_linked : (s : Statement) (w : K.W) (e : Env A.H) (d : Env B.H) → K.RE w e d → K.Lift One w (stmt_step A E R s e) (stmt_step B D Q s d)
      unfolding stmt_step
      stmt_linked (block b) w e d r = block_linked b r
      stmt_linked (var at ds semi) w e d r = variables_linked (variable_list ds) w _ _ (K.place_of r)
      stmt_linked (empty at) w e d r = K.ret_one w
      stmt_linked (expression at c semi) w e d r = K.bind Value One _ _ (h.expr c w _ _ (K.place_of r)) λ w1 l1 v v' rv. behind_expression_linked (upgrade_of c) (K.more_e l1 r) v v'
      stmt_linked (if_then at c s) w e d r = K.bind Value One _ _ (h.expr c w _ _ (K.place_of r)) λ w1 l1 v v' rv. choose_stmt_linked s (K.more_e l1 r) rv
      stmt_linked (if_else at c s t) w e d r = K.bind Value One _ _ (h.expr c w _ _ (K.place_of r)) λ w1 l1 v v' rv. choose_stmts_linked s t (K.more_e l1 r) rv
      stmt_linked (do_while at s c semi) w e d r = named_linked [] (do_while at s c semi) w e d r
      stmt_linked (while at c s) w e d r = named_linked [] (while at c s) w e d r
      stmt_linked (for at first test update s) w e d r = named_linked [] (for at first test update s) w e d r
      stmt_linked (for_in at target c s) w e d r = named_linked [] (for_in at target c s) w e d r
      stmt_linked (switch at c cs) w e d r = named_linked [] (switch at c cs) w e d r
      stmt_linked (labelled at text s) w e d r = named_linked [] (labelled at text s) w e d r
      stmt_linked (continue at label semi) w e d r = K.jump (left_by true (text_of_label label)) r (K.literal w Undefined)
      stmt_linked (break at label semi) w e d r = K.jump (left_by false (text_of_label label)) r (K.literal w Undefined)
      stmt_linked (return at c semi) w e d r = return_linked c r
      stmt_linked (throw at c semi) w e d r = K.bind Value One _ _ (h.expr c w _ _ (K.place_of r)) λ w1 l1 v v' rv. jump_with_linked thrown (K.more_e l1 r) rv
      stmt_linked (try_catch at b ident handler) w e d r = K.attempt true false _ _ (λ w1 l1. h.stmt (block b) w1 _ _ (K.more_e l1 r)) (λ w1 l1 v v' rv. handled_linked ident handler (K.more_e l1 r) rv) (λ w1 l1. K.ret_one w1)
      stmt_linked (try_finally at b last) w e d r = K.attempt false true _ _ (λ w1 l1. h.stmt (block b) w1 _ _ (K.more_e l1 r)) (λ w1 l1 v v' rv. unhandled_linked rv) (λ w1 l1. h.stmt (block last) w1 _ _ (K.more_e l1 r))
      stmt_linked (try_both at b ident handler last) w e d r = K.attempt true true _ _ (λ w1 l1. h.stmt (block b) w1 _ _ (K.more_e l1 r)) (λ w1 l1 v v' rv. handled_linked ident handler (K.more_e l1 r) rv) (λ w1 l1. h.stmt (block last) w1 _ _ (K.more_e l1 r))
      stmt_linked (debugger at semi) w e d r = K.ret_one w
      stmt_linked (function_declaration at f) w e d r = K.ret_one w
