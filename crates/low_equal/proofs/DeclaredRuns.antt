-- A labelled run speaks of declared origins alone: its operations, linked with themselves, keep a state of such labels.
use Rattle.std.proofs.Common.{◌≡◌, ℕ, ◌<◌, Bool, List, [], ◌∷◌, length, map, Option, Some, None, refl, subst}
use Rattle.std.specs.List.{All, position}
use Rattle.std.proofs.lemmas.List.Elements.{All-from_recursion, recursion_from_All}
use Rattle.std.proofs.lemmas.List.Quantifiers.{position-Some}
use Rattle.origin_labels.specs.Label.{Label, bottom, union, label_of}
use Rattle.origin_labels.specs.Names.{same_name}
use Rattle.flow_policy.specs.declared.policy.Channel.{Channel}
use Rattle.flow_policy.specs.Policies.{Tables, IsChannel, AreChannels}
use Rattle.flow_policy.specs.Inputs.{Given}
use Rattle.js_number.specs.declared.primitive.Primitive.TheVariants as prims
use Rattle.js_values.specs.declared.value.Value.{Value}
use Rattle.js_values.specs.declared.value.Value.TheVariants as value
use Rattle.js_values.specs.Records.{lookup}
use Rattle.js_ast.specs.Trees.{Statements}
use Rattle.js_ast.specs.Functions.{FunctionCode, functions_of}
use Rattle.native_protocol.specs.declared.request.Seen.{Seen}
use Rattle.es_meaning.specs.BuiltIns.{BuiltIns}
use Rattle.es_meaning.specs.Outcomes as es
use Rattle.es_meaning.specs.Outcomes.{left, out_of_turns, Outcome, Exit, throws, ◌>>=◌}
use Rattle.es_meaning.specs.Environments.{Env, Leaving, aimed}
use Rattle.es_meaning.specs.Operations.{Ty, One, Res}
use Rattle.es_meaning.specs.Operations.{Value as a_value}
use Rattle.es_meaning.specs.Operators.{unary_of, binary_of}
use Rattle.es_meaning.specs.Evaluation.{program_step}
use Rattle.es_meaning.specs.Start.{global_object}
use Rattle.es_meaning.specs.Plain.{and_origin, origin_of, origins_of, first_heap, outermost_env, may_declare}
use Rattle.es_meaning.proofs.Link.{Rel, Rels, nils, conses, EnteringLinked, Link}
use Rattle.es_meaning.proofs.RequestLinks.{program_linked}
use Rattle.flow_meaning.specs.Scopes.{Val, LabelledLine, Halt, as_plain, stopped, State, Jump, L, raise, jump}
use Rattle.flow_meaning.specs.Tracked.{seen, Reference, resolved, key_list, Enters, labelled, timed, start, run_of, tracked_run, named_origins, raised_by}
use Rattle.low_equal.specs.Declared.{IsDeclared, EndsDeclared, RunsDeclared, SpeaksOfDeclared}
use Rattle.low_equal.proofs.DeclaredLabels as labels
use Rattle.low_equal.proofs.DeclaredLabels.{Each, IfThere, own_bottom, own_union, own_label_of}
use Rattle.low_equal.proofs.DeclaredHeaps.{own_made}
use Rattle.low_equal.proofs.DeclaredStates as states
use Rattle.low_equal.proofs.DeclaredStates.{bind_keeping, ret_keeping, halts_keeping, jump_keeps, raise_keeping, fork_keeping, round_keeping, again_keeping, attempt_keeping, goes, jumps, ends_in}
use Rattle.low_equal.proofs.DeclaredActs as acts
use Rattle.low_equal.proofs.DeclaredActs.{given_keeping, own_walk_to, own_base, own_walk_from, remove_keeps, own_list, list_keeps, spend_keeps}
use Rattle.low_equal.proofs.DeclaredRequests.{act_keeping}
use Rattle.low_equal.proofs.DeclaredCalls.{function_keeping, jumps_keeping, raises_keeping, declare_keeping}
use Rattle.low_equal.proofs.DeclaredEntering.{OwnEnters, primitive_keeping, comparable_keeping, get_keeping, typeof_keeping, put_keeping, define_keeping, instance_keeping, value_keeping, construct_keeping}

module _ (count : ℕ) where
  abbrev Own : Label → Type 0
  Own label = labels.Own count label

  abbrev OwnState : State → Type 0
  OwnState s = states.OwnState count s

  abbrev OwnHalt : Halt → Type 0
  OwnHalt halt = states.OwnHalt count halt

  abbrev Keeps : {X : Type 0} → (X → Type 0) → Outcome Halt Jump X State → Type 0
  Keeps Q o = states.Keeps count Q o

  abbrev Keeping : {X : Type 0} → (X → Type 0) → L X → Type 0
  Keeping Q m = states.Keeping count Q m

  abbrev OwnVal : Val → Type 0
  OwnVal v = labels.Own count v.label

  abbrev OwnResult : (t : Ty) → Res Val t → Type 0
  OwnResult t a = states.OwnResult count t a

  abbrev OwnReference : Reference → Type 0
  OwnReference n = acts.OwnReference count n

  -- ---- looks and throws

  look_keeping : (v : Val) (k : Seen → L Val) → OwnVal v → ((seen : Seen) → Keeping OwnVal (k seen)) → Keeping OwnVal (raise v.label >>= λ u s. k (seen s.heap v.value) s)
  look_keeping v k q h = bind_keeping count (OwnResult One) OwnVal _ (raise_keeping count v.label q) (λ u r. record { keeps = λ s p. (h (seen s.heap v.value)).keeps s p })

  throw_keeping : (v : Val) → OwnVal v → Keeping OwnVal (jump bottom (record { exit = throws; to = 0; value = v }))
  throw_keeping v q = record { keeps = λ s h. jump_keeps count OwnVal bottom _ s (own_bottom count) q h }

  -- ---- what is entered, of the first of two alone

  -- values, and the same values
  pairs : (vs : List Val) → Each OwnVal vs → Rels (λ (v : Val) (u : Val). OwnVal v) vs vs
  pairs [] h = nils
  pairs (v ∷ vs) h = conses h.0 (pairs vs h.1)

  enters_of : {E D : Enters} → EnteringLinked (Unit {0}) (λ w (v : Val) (u : Val). OwnVal v) (λ w (e : Env ℕ) (d : Env ℕ). Unit {0}) (λ t w (m : L (Res Val t)) (n : L (Res Val t)). Keeping (OwnResult t) m) E D → OwnEnters count E
  enters_of h = record {
    body = λ ss e. h.body tt ss e e tt;
    built_in = λ which construct vs q. h.built_in tt which construct vs vs (pairs vs q);
    conversion = λ kind v q. h.conversion tt kind v v q;
  }

  module _ (tables : Tables) (inputs : Given) (few : length tables.origins ≡ count) (ins : Each (λ c. Own c.label) tables.inputs) (outs : Each (λ c. Own c.label) tables.outputs) where
    -- origins that are found are declared
    own_place : (o : Option ℕ) (name : List ℕ) → position (λ x. same_name x name) tables.origins ≡ o → IfThere (λ k. k < count) o
    own_place None name e = tt
    own_place (Some k) name e = subst (λ m. k < m) few (position-Some (λ x. same_name x name) tables.origins k [] e).0

    -- that a value names
    own_origin : (v : Value) → IfThere (λ k. k < count) (origin_of tables.origins v)
    own_origin (value.Object o) = tt
    own_origin (value.Primitive prims.Undefined) = tt
    own_origin (value.Primitive prims.Null) = tt
    own_origin (value.Primitive (prims.Bool b)) = tt
    own_origin (value.Primitive (prims.Num n)) = tt
    own_origin (value.Primitive (prims.Str name)) = own_place (position (λ x. same_name x name) tables.origins) name refl

    -- one more of them
    and_own : (o : Option ℕ) (os : Option (List ℕ)) → IfThere (λ k. k < count) o → IfThere (λ ks. Each (λ k. k < count) ks) os → IfThere (λ ks. Each (λ k. k < count) ks) (and_origin o os)
    and_own (Some o) (Some os) p q = (p, q)
    and_own (Some o) None p q = tt
    and_own None os p q = tt

    -- and those that values name
    own_origins : (vs : List Value) → IfThere (λ ks. Each (λ k. k < count) ks) (origins_of tables.origins vs)
    own_origins [] = tt
    own_origins (v ∷ vs) = and_own (origin_of tables.origins v) (origins_of tables.origins vs) (own_origin v) (own_origins vs)

    -- an upgrade directive
    raised_keeping : (leaving : Leaving) (to : Option (Exit × ℕ)) (os : Option (List ℕ)) → IfThere (λ ks. Each (λ k. k < count) ks) os → Keeping (OwnResult One) (raised_by tables inputs leaving to os)
    unfolding raised_by
    raised_keeping leaving to None q = halts_keeping count (OwnResult One) _
    raised_keeping leaving to (Some os) q = raises_keeping count leaving to (label_of os) (own_label_of count os q)

    -- ---- the link of the operations with themselves: what is said of the first of two alone

    -- arguments
    firsts : {vs us : List Val} → Rels (λ v u. OwnVal v) vs us → Each OwnVal vs
    firsts nils = tt
    firsts (conses p r) = (p, firsts r)

    -- a result
    result_of : (t : Ty) (w : Unit {0}) (a : Res Val t) → OwnResult t a → Rel {W = Unit {0}} (λ w (v : Val) (u : Val). OwnVal v) t w a a
    result_of One w a q = tt
    result_of a_value w a q = q

    -- the operations
    declaring : (set : BuiltIns) (functions : List FunctionCode) → Link (labelled tables inputs set functions) (labelled tables inputs set functions)
    declaring set functions = record {
      W = Unit {0};
      Le = λ v w. Unit {0};
      RV = λ w v u. OwnVal v;
      RN = λ w n m. OwnReference n;
      RP = λ w i j. Unit {0};
      RE = λ w e d. Unit {0};
      Lift = λ t w m n. Keeping (OwnResult t) m;
      Inside = λ v w. Unit {0};
      inside_v = λ p r. r;
      le_refl = λ w. tt;
      le_trans = λ p q. tt;
      more_v = λ p r. r;
      more_n = λ p r. r;
      more_p = λ p r. r;
      more_e = λ p r. r;
      place_of = λ r. tt;
      ret_one = λ w. ret_keeping count (OwnResult One) tt tt;
      ret_value = λ {a = a} r. ret_keeping count OwnVal a r;
      bind = λ t u {w = w} f g l h. bind_keeping count (OwnResult t) (OwnResult u) f l (λ a q. h w tt a a (result_of t w a q));
      literal = λ w v. own_bottom count;
      unary = λ o {v = v} r. record { keeps = λ s h. (given_keeping count v.label (unary_of o (seen s.heap v.value)) r).keeps s h };
      binary = λ o {v = v} {u = u} r q. given_keeping count (union v.label u.label) (binary_of o v.value u.value) (own_union count v.label u.label r q);
      primitive = λ kind {v = v} {E = E} r h. primitive_keeping count functions E (enters_of h) kind v r;
      comparable = λ {v = v} {u = u} {E = E} r q h. comparable_keeping count functions E (enters_of h) v u r q;
      act = λ a {vs = vs} rs. act_keeping count tables inputs few ins outs a vs (firsts rs);
      look = λ {w = w} {v = v} k k' r h. look_keeping v k r (λ seen. h w tt seen);
      function = λ f {i = i} p. function_keeping count functions f i;
      jump = λ leaving {e = e} {v = v} r q. jumps_keeping count (aimed 0 leaving e) v q;
      raise = λ leaving {e = e} names r. raised_keeping leaving (aimed 0 leaving e) (named_origins tables inputs names) (own_origins (map (λ name. value.Primitive (prims.Str name)) names));
      throw = λ {v = v} r. throw_keeping v r;
      leave = λ t w name. halts_keeping count (OwnResult t) (left name);
      resolve = λ t {w = w} {i = i} x f g p h. record {
        keeps = λ s k. (h w tt (resolved s.records s.heap i x) (resolved s.records s.heap i x) (own_walk_from count (lookup x s.records i) _ (own_walk_to count x global_object.0 s k).walk)).keeps s k;
      };
      get_value = λ {n = n} {E = E} r h. get_keeping count functions E (enters_of h) n r;
      typeof_value = λ {n = n} {E = E} r h. typeof_keeping count functions E (enters_of h) n r;
      put_value = λ {n = n} {v = v} {E = E} r q h. put_keeping count functions E (enters_of h) n v r q;
      property = λ r q. (r, q);
      remove = λ {n = n} r. record { keeps = λ s k. remove_keeps count n s r k };
      this_of = λ {n = n} r. own_base count n r;
      instance = λ {v = v} {f = f} {E = E} r q h. instance_keeping count functions E (enters_of h) f.value v f.label r q;
      define = λ key marks shape {base = b} {v = v} {g = g} {set = q} {E = E} rb rv rg rq h. define_keeping count functions E (enters_of h) key marks shape b v g q rb rv rg rq;
      fork = λ t {w = w} {v = v} r h k. fork_keeping count t v r (h w tt) (k w tt);
      round = λ {w = w} turn labels {e = e} f g r h. round_keeping count turn labels e f (λ d. h w tt d d tt);
      again = λ {v = v} r h k. again_keeping count v r h k;
      keys = λ {w = w} {v = v} f g r h. record { keeps = λ s k. list_keeps count (key_list s.heap v.value) v.label f s (own_list count s.heap v.value k.heap) r (λ keys. h w tt keys) k };
      declare = λ {w = w} name {v = v} {e = e} f g r q h. declare_keeping count name v e f r (λ d. h w tt d d tt);
      call = λ {f = f} {this = this} {vs = vs} {E = E} p q rs h. value_keeping count functions E (enters_of h) f.value f.label this vs p q (firsts rs);
      construct = λ {f = f} {vs = vs} {E = E} p rs h. construct_keeping count functions E (enters_of h) set f.value f.label vs p (firsts rs);
      attempt = λ {w = w} handles finishes f g h k l. attempt_keeping count handles finishes f (h w tt) (λ v q. k w tt v v q) (l w tt);
    }

    -- a program
    program_keeping : (set : BuiltIns) (functions : List FunctionCode) (n : ℕ) (may_declare : Bool) (program : Statements) → Keeping (OwnResult One) (program_step (timed tables inputs set functions) set n may_declare program (outermost_env 0))
    unfolding declaring
    program_keeping set functions n may_declare program = program_linked (timed tables inputs set functions) (timed tables inputs set functions) (declaring set functions) (λ w. record { keeps = λ s h. spend_keeps count s.turns s h }) set
        (λ t w. halts_keeping count (OwnResult t) out_of_turns) n may_declare program {w = tt} {e = outermost_env 0} {d = outermost_env 0} tt

  -- ---- the start

  -- a run starts with no origin
  start_own : (set : BuiltIns) (tables : Tables) (inputs : Given) (program : Statements) (turns : ℕ) → OwnState (start tables inputs set program turns)
  start_own set tables inputs program turns = record { frames = ((own_bottom count), tt); heap = own_made count bottom (first_heap set program) (own_bottom count); records = (((own_bottom count), tt), tt); lines = tt }

  -- ---- runs

  -- a label
  declared_label : (label : Label) → Own label → IsDeclared count label
  declared_label label h = All-from_recursion (λ origin. origin < count) label h.below

  -- those of lines
  declared_lines : (lines : List LabelledLine) → Each (λ l. Own l.label) lines → All (λ l. IsDeclared count l.label) lines
  declared_lines lines h = All-from_recursion (λ l. IsDeclared count l.label) lines (each lines h)
    where
      each : (lines : List LabelledLine) → Each (λ l. Own l.label) lines → Each (λ l. IsDeclared count l.label) lines
      each [] h = tt
      each (l ∷ lines) h = (declared_label l.label h.0, each lines h.1)

  -- those of a stop
  declared_halt : (halt : Halt) → OwnHalt halt → EndsDeclared count (es.halted halt)
  declared_halt (as_plain halt) h = tt
  declared_halt (stopped rule need have) h = (declared_label need h.0, declared_label have h.1)

  -- those of a run
  run_declared : {o : Outcome Halt Jump (Unit {0}) State} → Keeps (OwnResult One) o → RunsDeclared count (run_of o)
  run_declared (goes {s = s} q h) = record { lines = declared_lines s.lines h.lines; ending = tt }
  run_declared (jumps {s = s} q h) = record { lines = declared_lines s.lines h.lines; ending = tt }
  run_declared (ends_in {halt = halt} {s = s} q h) = record { lines = declared_lines s.lines h.lines; ending = declared_halt halt q }

  -- those of a policy's channels are declared
  own_channels : (channels : List Channel) → AreChannels count channels → Each (λ c. Own c.label) channels
  own_channels channels h = each channels (recursion_from_All _ channels h.each)
    where
      each : (channels : List Channel) → Each (IsChannel count) channels → Each (λ c. Own c.label) channels
      each [] h = tt
      each (c ∷ channels) h = (record { below = recursion_from_All (λ origin. origin < count) c.label h.0.declared }, each channels h.1)

-- each run over a policy
pub speaks_of_declared : SpeaksOfDeclared
unfolding tracked_run
speaks_of_declared set tables inputs program turns policy =
    let count = length tables.origins in
    let program_keeps = program_keeping count tables inputs refl (own_channels count tables.inputs policy.inputs) (own_channels count tables.outputs policy.outputs) set (functions_of program) turns (may_declare set program) program in
    run_declared count (program_keeps.keeps (start tables inputs set program turns) (start_own count set tables inputs program turns))
