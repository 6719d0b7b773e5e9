-- Calls: what is called, with what two calls begin, and calls of which nothing is seen.
use Rattle.std.proofs.Common.{◌≡◌, ℕ, List, [], ◌∷◌, ◌++◌, length, Bool, true, false, Option, Some, None, slice_get, refl, sym, ap, subst}
use Rattle.origin_labels.specs.Label.{Label, union}
use Rattle.flow_policy.specs.Policies.{Tables}
use Rattle.flow_frames.specs.declared.kind.Kind.TheVariants as kind
use Rattle.native_protocol.specs.declared.hint.Hint.{Hint}
use Rattle.native_protocol.specs.declared.request.ErrorKind.TheVariants as kinds
use Rattle.js_values.specs.declared.value.Value.{Value}
use Rattle.js_values.specs.declared.value.Value.TheVariants as value
use Rattle.js_values.specs.declared.inner.Class.{Class}
use Rattle.js_values.specs.declared.inner.Inner.{Inner}
use Rattle.js_values.specs.Objects.{Object}
use Rattle.js_values.specs.Records.{Binding, Bindings}
use Rattle.js_ast.specs.Trees.{Ident, Function, Statements, name_of, params_of, body_of}
use Rattle.js_ast.specs.Functions.{FunctionCode}
use Rattle.es_meaning.specs.BuiltIns.{BuiltIns}
use Rattle.es_meaning.specs.Holders.{constructs_in}
use Rattle.es_meaning.specs.Outcomes.{ret, ◌>>=◌}
use Rattle.es_meaning.specs.Environments.{Env, called_env}
use Rattle.es_meaning.specs.Functions.{Callee, not_callable, empty_callee, of_script, of_built_in, script_callee, is_function, callee_if, callee_of, unless_bound, binds, bound_by, kept_by, with_parameters, with_functions, with_arguments, with_variables, name_text, Entry, entry_bindings, this_name, function_name}
use Rattle.es_meaning.specs.Declared.{declared_functions, declared_statements}
use Rattle.es_meaning.specs.Naming.{arguments_name, names_in_statements}
use Rattle.es_meaning.specs.Plain.{undefined, choose}
use Rattle.es_meaning.specs.Start.{id}
use Rattle.es_meaning.proofs.Link.{Rels, nils, conses}
use Rattle.flow_meaning.specs.Erased.{erased_inner, unlabelled}
use Rattle.flow_meaning.specs.Scopes.{Val, State, Left, L, scope, settled_value, answer, construction}
use Rattle.flow_meaning.specs.Requested.{Aim, aim_of}
use Rattle.flow_meaning.specs.Tracked.{throw_error, callee_in, callee_at, with_call, Enters, entered, called_value, call_by, call_aimed, call_value, prototype_of, with_fresh, constructed, construct_built_in, construct_by, construct_aimed, construct_value}
use Rattle.low_equal.specs.Observed.{Hides}
use Rattle.low_equal.specs.LowEqual.{Pairing, Extends, InnersAgree, plains, scripts, natives, bounds, Agree, BindingsAgree, no_bindings, bindings, HeapsAgree}
use Rattle.low_equal.specs.Runs.{Same, Confined, Lockstep}
use Rattle.low_equal.specs.Laws.{EnvsAgree, Nothing}
use Rattle.low_equal.proofs.Labels.{hides_first, hides_second}
use Rattle.low_equal.proofs.Agreement.{two}
use Rattle.low_equal.proofs.Entries.{record_left}
use Rattle.low_equal.proofs.Heaps.{new_left}
use Rattle.low_equal.proofs.Makes.{news_left}
use Rattle.low_equal.proofs.Scopes.{FoundAgree, missing, there, found_agree, rebound_both}
use Rattle.low_equal.proofs.Lines.{lines_refl, positions_refl}
use Rattle.low_equal.proofs.States.{low_heap}
use Rattle.low_equal.proofs.Steps.{still_after, conf_ret, conf_bind, conf_scope}
use Rattle.low_equal.proofs.Acts.{conf_throw}
use Rattle.low_equal.proofs.Mute.{Mum, HiddenVal, mum_ret, mum_at, mum_bind, mum_scope, mum_settled, mum_answered}
use Rattle.low_equal.proofs.References.{conf_at}

-- ---- what is called is entered

-- with what is confined
pub record EntersConfined (observer : Label) (tables : Tables) (E : Enters) : Type 0 where
  pub body : (ss : Statements) (e : Env ℕ) → Confined observer tables (E.body ss e)
  pub built_in : (which : ℕ) (construct : Bool) (vs : List Val) → Confined observer tables (E.built_in which construct vs)
  pub conversion : (h : Hint) (v : Val) → Confined observer tables (E.conversion h v)

-- and in two runs with what goes in step
pub record EntersInStep (observer : Label) (tables : Tables) (E D : Enters) : Type 0 where
  pub body : (β : Pairing) (ss : Statements) (e d : Env ℕ) → EnvsAgree β e d → Lockstep observer tables Nothing β (E.body ss e) (D.body ss d)
  pub built_in : (β : Pairing) (which : ℕ) (construct : Bool) (vs us : List Val) → Rels (Agree observer β) vs us → Lockstep observer tables (Agree observer) β (E.built_in which construct vs) (D.built_in which construct us)
  pub conversion : (β : Pairing) (h : Hint) (v u : Val) → Agree observer β v u → Lockstep observer tables (Agree observer) β (E.conversion h v) (D.conversion h u)

-- ---- what is called

-- both can't be called, both give undefined, both are one built-in, or both are one function that closes over paired records
pub data CalleesAgree (β : Pairing) : Callee → Callee → Type 0 where
  no_calls : CalleesAgree β not_callable not_callable
  empties : CalleesAgree β empty_callee empty_callee
  one_built_in : {which : ℕ} → CalleesAgree β (of_built_in which) (of_built_in which)
  one_function : {number : ℕ} {f : Function} {i j : ℕ} → β.records i j ≡ true → CalleesAgree β (of_script number f i) (of_script number f j)

pub callees_more : {β γ : Pairing} {c d : Callee} → Extends β γ → CalleesAgree β c d → CalleesAgree γ c d
callees_more e no_calls = no_calls
callees_more e empties = empties
callees_more e one_built_in = one_built_in
callees_more e (one_function p) = one_function (e.records _ _ p)

module _ (observer : Label) (β : Pairing) (functions : List FunctionCode) where
  numbered : (number : ℕ) {i j : ℕ} → β.records i j ≡ true → CalleesAgree β (script_callee (slice_get functions number) number i) (script_callee (slice_get functions number) number j)
  numbered number {i} {j} p = go (slice_get functions number)
    where
      go : (o : Option FunctionCode) → CalleesAgree β (script_callee o number i) (script_callee o number j)
      go None = no_calls
      go (Some code) = one_function p

  if_callees : (b : Bool) {x y : Inner Label} → InnersAgree observer β x y → CalleesAgree β (callee_if b functions (erased_inner x)) (callee_if b functions (erased_inner y))
  if_callees false a = no_calls
  if_callees true plains = empties
  if_callees true (scripts {n = n} p) = numbered n p
  if_callees true natives = one_built_in
  if_callees true (bounds a b c) = no_calls

  of_callees : {c d : Class} {x y : Inner Label} → c ≡ d → InnersAgree observer β x y → CalleesAgree β (callee_of functions c (erased_inner x)) (callee_of functions d (erased_inner y))
  unfolding callee_of
  of_callees {c} {d} {x} {y} e a = subst (λ k. CalleesAgree β (callee_if (is_function c) functions (erased_inner x)) (callee_if (is_function k) functions (erased_inner y))) e (if_callees (is_function c) a)

  pub callees_agree : {h g : List (Object Label)} {o q : ℕ} → HeapsAgree observer β h g → β.objects o q ≡ true → CalleesAgree β (callee_at functions h o) (callee_at functions g q)
  unfolding callee_at
  callees_agree {h = h} {g = g} {o = o} {q = q} r p =
      let t = two (r.paired o q p) in
      subst (λ x. CalleesAgree β x (callee_in functions (slice_get g q))) (sym (ap (λ (x : Option (Object Label)). callee_in functions x) t.is_one))
      (subst (λ x. CalleesAgree β (callee_in functions (Some t.one)) x) (sym (ap (λ (x : Option (Object Label)). callee_in functions x) t.is_other)) (of_callees t.related.class t.related.inner))

-- ---- the bindings of a call

module _ (observer : Label) (β : Pairing) where
  abbrev Bound : Bindings Val → Bindings Val → Type 0
  Bound bs cs = BindingsAgree observer β bs cs

  with_both : {bs cs ds es : Bindings Val} → Bound bs cs → Bound ds es → Bound (bs ++ ds) (cs ++ es)
  with_both no_bindings q = q
  with_both (bindings a r) q = bindings a (with_both r q)

  named_both : (mutable : Bool) (name : List ℕ) {v u : Val} → Agree observer β v u → Bound (binds mutable name v) (binds mutable name u)
  named_both mutable name a = bindings a no_bindings

  bound_both : (name : List ℕ) {o p : Option (Binding Val)} {v u : Val} {bs cs : Bindings Val} → FoundAgree observer β o p → Agree observer β v u → Bound bs cs → Bound (bound_by o name v bs) (bound_by p name u cs)
  bound_both name missing a r = with_both r (named_both true name a)
  bound_both name (there x) a r = rebound_both observer β name a r

  kept_both : (name : List ℕ) {o p : Option (Binding Val)} {v u : Val} {bs cs : Bindings Val} → FoundAgree observer β o p → Agree observer β v u → Bound bs cs → Bound (kept_by o name v bs) (kept_by p name u cs)
  kept_both name missing a r = with_both r (named_both true name a)
  kept_both name (there x) a r = r

  parameters_both : (ps : List Ident) {m n : Val} {vs us : List Val} {bs cs : Bindings Val} → Agree observer β m n → Rels (Agree observer β) vs us → Bound bs cs → Bound (with_parameters m ps vs bs) (with_parameters n ps us cs)
  parameters_both [] a l r = r
  parameters_both (p ∷ ps) a nils r = parameters_both ps a nils (bound_both p.text (found_agree observer β p.text r) a r)
  parameters_both (p ∷ ps) a (conses b l) r = parameters_both ps a l (bound_both p.text (found_agree observer β p.text r) b r)

  functions_both : (fs : List Function) {vs us : List Val} {bs cs : Bindings Val} → Rels (Agree observer β) vs us → Bound bs cs → Bound (with_functions fs vs bs) (with_functions fs us cs)
  functions_both [] nils r = r
  functions_both [] (conses a l) r = r
  functions_both (f ∷ fs) nils r = r
  functions_both (f ∷ fs) (conses a l) r = functions_both fs l (bound_both (name_text (name_of f)) (found_agree observer β (name_text (name_of f)) r) a r)

  unless_both : {o p : Option (Binding Val)} {v u : Val} {bs cs : Bindings Val} → FoundAgree observer β o p → Agree observer β v u → Bound bs cs → Bound (unless_bound o v bs) (unless_bound p u cs)
  unless_both missing a r = with_both r (named_both false arguments_name a)
  unless_both (there x) a r = r

  arguments_both : (b : Bool) {v u : Val} {bs cs : Bindings Val} → (b ≡ true → Agree observer β v u) → Bound bs cs → Bound (with_arguments b v bs) (with_arguments b u cs)
  arguments_both true {v} {u} {bs} {cs} a r = unless_both (found_agree observer β arguments_name r) (a refl) r
  arguments_both false a r = r

  variables_both : (names : List (List ℕ)) {m n : Val} {bs cs : Bindings Val} → Agree observer β m n → Bound bs cs → Bound (with_variables m names bs) (with_variables n names cs)
  variables_both [] a r = r
  variables_both (name ∷ names) a r = variables_both names a (kept_both name (found_agree observer β name r) a r)

  -- the values with which two calls begin
  pub record EntriesAgree (f : Function) (e d : Entry Val) : Type 0 where
    pub this : Agree observer β e.this d.this
    pub function : Agree observer β e.function d.function
    pub args : Rels (Agree observer β) e.args d.args
    pub missing : Agree observer β e.missing d.missing
    pub functions : Rels (Agree observer β) e.functions d.functions
    pub arguments : names_in_statements (body_of f) ≡ true → Agree observer β e.arguments d.arguments

  pub entry_both : (f : Function) {e d : Entry Val} → EntriesAgree f e d → Bound (entry_bindings f e) (entry_bindings f d)
  unfolding entry_bindings
  entry_both f a = variables_both (declared_statements (body_of f)) a.missing (arguments_both (names_in_statements (body_of f)) a.arguments (functions_both (declared_functions (body_of f)) a.functions (parameters_both (params_of f) a.missing a.args (with_both (named_both false this_name a.this) (named_both false function_name a.function)))))

module _ (observer : Label) (tables : Tables) where
  pub conf_choose : {X : Type 0} {m n : L X} (b : Bool) → Confined observer tables m → Confined observer tables n → Confined observer tables (choose b m n)
  conf_choose true c d = c
  conf_choose false c d = d

-- ---- each alone

module _ (observer : Label) (tables : Tables) (functions : List FunctionCode) where
  -- that a call begins can't be told where nothing of it is paired
  same_call : (number : ℕ) (f : Function) (place : ℕ) (this : Val) (args : List Val) (s : State) → Same observer tables s (with_call functions number f place this args s)
  unfolding with_call
  same_call number f place this args s = record {
    looks = λ β u r. record { some = r.some; counts = r.counts; frames = r.frames; heap = news_left observer _ r.heap; records = record_left observer _ r.records; positions = r.positions; lines = r.lines };
    frames = refl;
  }

  abbrev Hid : Val → Type 0
  Hid v = HiddenVal observer tables v

  abbrev LeftHidden : Left (Unit {0}) → Type 0
  LeftHidden c = Hides observer c.label

  module _ {E : Enters} (c : EntersConfined observer tables E) where
    conf_script : (number : ℕ) (f : Function) (place : ℕ) (label : Label) (this : Val) (args : List Val) (depth : ℕ) → Confined observer tables (entered functions (of_script number f place) label this args E depth)
    unfolding entered with_call
    conf_script number f place label this args depth = record {
      still = λ s p. still_after observer tables (entered functions (of_script number f place) label this args E depth s) (same_call number f place this args s) (lines_refl observer tables s.lines) (positions_refl observer tables s.positions)
          ((c.body (body_of f) (called_env (length s.records) depth)).still (with_call functions number f place this args s) p);
      fits = λ s. (c.body (body_of f) (called_env (length s.records) depth)).fits (with_call functions number f place this args s);
      adds = λ s. (c.body (body_of f) (called_env (length s.records) depth)).adds (with_call functions number f place this args s);
    }

    pub conf_entered : (k : Callee) (label : Label) (this : Val) (args : List Val) (depth : ℕ) → Confined observer tables (entered functions k label this args E depth)
    unfolding entered
    conf_entered not_callable label this args depth = conf_at observer tables (λ s. throw_error kinds.TypeError label) (λ s. conf_throw observer tables {X = Unit {0}} kinds.TypeError label)
    conf_entered empty_callee label this args depth = conf_ret observer tables tt
    conf_entered (of_built_in which) label this args depth = conf_at observer tables (λ s. throw_error kinds.TypeError label) (λ s. conf_throw observer tables {X = Unit {0}} kinds.TypeError label)
    conf_entered (of_script number f place) label this args depth = record {
      still = λ s. (conf_script number f place label this args depth).still s;
      fits = λ s. (conf_script number f place label this args depth).fits s;
      adds = λ s. (conf_script number f place label this args depth).adds s;
    }

    -- ---- calls

    abbrev by_script : Callee → Label → Val → List Val → L Val
    by_script k label this args = scope kind.Call label (λ depth. entered functions k label this args E depth) >>= λ x. ret (answer x)

    abbrev by_built_in : ℕ → Label → ℕ → Val → List Val → L Val
    by_built_in which label o this args = scope kind.Native label (λ depth. E.built_in which false (this ∷ called_value label o ∷ args)) >>= λ x. ret (settled_value x)

    conf_by_script : (k : Callee) (label : Label) (this : Val) (args : List Val) → Confined observer tables (by_script k label this args)
    conf_by_script k label this args = conf_bind observer tables (λ x. ret (answer x)) (conf_scope observer tables kind.Call label (λ d. conf_entered k label this args d)) (λ x. conf_ret observer tables (answer x))

    conf_call_by : (k : Callee) (label : Label) (o : ℕ) (this : Val) (args : List Val) → Confined observer tables (call_by functions k label o this args E)
    unfolding call_by
    conf_call_by not_callable label o this args = conf_by_script not_callable label this args
    conf_call_by empty_callee label o this args = conf_by_script empty_callee label this args
    conf_call_by (of_script number f place) label o this args = conf_by_script (of_script number f place) label this args
    conf_call_by (of_built_in which) label o this args =
        conf_bind observer tables (λ x. ret (settled_value x)) (conf_scope observer tables kind.Native label (λ d. c.built_in which false (this ∷ called_value label o ∷ args))) (λ x. conf_ret observer tables (settled_value x))

    conf_call_aimed : (label : Label) (aim : Aim) (this : Val) (args : List Val) → Confined observer tables (call_aimed functions label aim this args E)
    unfolding call_aimed
    conf_call_aimed label aim this args = conf_at observer tables (λ s. call_by functions (callee_at functions s.heap aim.target.function) (union label aim.label) aim.target.function _ _ E) (λ s. conf_call_by _ _ _ _ _)

    pub conf_call_value : (label : Label) (f : Value) (this : Val) (args : List Val) → Confined observer tables (call_value functions label f this args E)
    unfolding call_value
    conf_call_value label (value.Primitive p) this args = conf_at observer tables (λ s. call_by functions not_callable label 0 this args E) (λ s. conf_call_by not_callable label 0 this args)
    conf_call_value label (value.Object o) this args = conf_at observer tables (λ s. call_aimed functions label (aim_of s.heap o.0) this args E) (λ s. conf_call_aimed label (aim_of s.heap o.0) this args)

    -- under a hidden label, whatever is called

    pub mum_call_by : (k : Callee) (label : Label) (o : ℕ) (this : Val) (args : List Val) → Hides observer label → Mum observer tables Hid (call_by functions k label o this args E)
    unfolding call_by
    mum_call_by not_callable label o this args h = mum_answered observer tables kind.Call label h (λ d. conf_entered not_callable label this args d)
    mum_call_by empty_callee label o this args h = mum_answered observer tables kind.Call label h (λ d. conf_entered empty_callee label this args d)
    mum_call_by (of_script number f place) label o this args h = mum_answered observer tables kind.Call label h (λ d. conf_entered (of_script number f place) label this args d)
    mum_call_by (of_built_in which) label o this args h = mum_settled observer tables kind.Native label h (λ d. c.built_in which false (this ∷ called_value label o ∷ args))

    pub mum_call_aimed : (label : Label) (aim : Aim) (this : Val) (args : List Val) → Hides observer (union label aim.label) → Mum observer tables Hid (call_aimed functions label aim this args E)
    unfolding call_aimed
    mum_call_aimed label aim this args h = mum_at observer tables Hid (λ s. call_by functions (callee_at functions s.heap aim.target.function) (union label aim.label) aim.target.function _ _ E) (λ s. mum_call_by _ _ _ _ _ h)

    pub mum_call_value : (label : Label) (f : Value) (this : Val) (args : List Val) → Hides observer label → Mum observer tables Hid (call_value functions label f this args E)
    unfolding call_value
    mum_call_value label (value.Primitive p) this args h = mum_at observer tables Hid (λ s. call_by functions not_callable label 0 this args E) (λ s. mum_call_by not_callable label 0 this args h)
    mum_call_value label (value.Object o) this args h = mum_at observer tables Hid (λ s. call_aimed functions label (aim_of s.heap o.0) this args E)
        (λ s. mum_call_aimed label (aim_of s.heap o.0) this args (hides_first observer label (aim_of s.heap o.0).label h))

    -- ---- constructions

    pub conf_constructed : (k : Callee) (label : Label) (o : ℕ) (args : List Val) (depth : ℕ) → Confined observer tables (constructed functions k label o args E depth)
    unfolding constructed
    conf_constructed not_callable label o args depth = conf_at observer tables (λ s. throw_error kinds.TypeError label) (λ s. conf_throw observer tables {X = Unit {0}} kinds.TypeError label)
    conf_constructed empty_callee label o args depth = conf_at observer tables (λ s. throw_error kinds.TypeError label) (λ s. conf_throw observer tables {X = Unit {0}} kinds.TypeError label)
    conf_constructed (of_built_in which) label o args depth = conf_at observer tables (λ s. throw_error kinds.TypeError label) (λ s. conf_throw observer tables {X = Unit {0}} kinds.TypeError label)
    conf_constructed (of_script number code place) label o args depth = record {
      still = λ s p. let t = with_fresh (prototype_of s.heap o) s in let this = unlabelled (value.Object (id (length s.heap))) in
          still_after observer tables (entered functions (of_script number code place) label this args E depth t) (record { looks = λ β u r. low_heap observer tables r (new_left observer _ r.heap) r.records; frames = refl })
          (lines_refl observer tables s.lines) (positions_refl observer tables s.positions) ((conf_entered (of_script number code place) label this args depth).still t p);
      fits = λ s. (conf_entered (of_script number code place) label _ args depth).fits (with_fresh (prototype_of s.heap o) s);
      adds = λ s. (conf_entered (of_script number code place) label _ args depth).adds (with_fresh (prototype_of s.heap o) s);
    }

    module _ (set : BuiltIns) where
      pub conf_construct_built_in : (which : ℕ) (label : Label) (o : ℕ) (args : List Val) → Confined observer tables (construct_built_in set which label o args E)
      unfolding construct_built_in
      conf_construct_built_in which label o args = conf_choose observer tables (constructs_in set which) (c.built_in which true (unlabelled undefined ∷ called_value label o ∷ args)) (conf_throw observer tables {X = Val} kinds.TypeError label)

      -- a function of the script: what it returns stands for the object with a number, if it is an object
      abbrev made_by_script : Callee → Label → ℕ → List Val → ℕ → L Val
      made_by_script k label o args fresh = scope kind.Call label (λ depth. constructed functions k label o args E depth) >>= λ x. ret (construction fresh x)

      conf_made : (k : Callee) (label : Label) (o : ℕ) (args : List Val) (fresh : ℕ) → Confined observer tables (made_by_script k label o args fresh)
      conf_made k label o args fresh = conf_bind observer tables (λ x. ret (construction fresh x)) (conf_scope observer tables kind.Call label (λ d. conf_constructed k label o args d)) (λ x. conf_ret observer tables (construction fresh x))

      conf_construct_by : (k : Callee) (label : Label) (o : ℕ) (args : List Val) → Confined observer tables (construct_by set functions k label o args E)
      unfolding construct_by
      conf_construct_by not_callable label o args = conf_at observer tables (λ s. made_by_script not_callable label o args (length s.heap)) (λ s. conf_made not_callable label o args (length s.heap))
      conf_construct_by empty_callee label o args = conf_at observer tables (λ s. made_by_script empty_callee label o args (length s.heap)) (λ s. conf_made empty_callee label o args (length s.heap))
      conf_construct_by (of_script number f place) label o args = conf_at observer tables (λ s. made_by_script (of_script number f place) label o args (length s.heap)) (λ s. conf_made (of_script number f place) label o args (length s.heap))
      conf_construct_by (of_built_in which) label o args = conf_at observer tables (λ s. scope kind.Native label (λ depth. construct_built_in set which label o args E) >>= λ x. ret (settled_value x))
          (λ s. conf_bind observer tables (λ x. ret (settled_value x)) (conf_scope observer tables kind.Native label (λ d. conf_construct_built_in which label o args)) (λ x. conf_ret observer tables (settled_value x)))

      conf_construct_aimed : (label : Label) (aim : Aim) (args : List Val) → Confined observer tables (construct_aimed set functions label aim args E)
      unfolding construct_aimed
      conf_construct_aimed label aim args = conf_at observer tables (λ s. construct_by set functions (callee_at functions s.heap aim.target.function) (union label aim.label) aim.target.function _ E) (λ s. conf_construct_by _ _ _ _)

      pub conf_construct_value : (label : Label) (f : Value) (args : List Val) → Confined observer tables (construct_value set functions label f args E)
      unfolding construct_value
      conf_construct_value label (value.Primitive p) args = conf_at observer tables (λ s. construct_by set functions not_callable label 0 args E) (λ s. conf_construct_by not_callable label 0 args)
      conf_construct_value label (value.Object o) args = conf_at observer tables (λ s. construct_aimed set functions label (aim_of s.heap o.0) args E) (λ s. conf_construct_aimed label (aim_of s.heap o.0) args)

      mum_made : (k : Callee) (label : Label) (o : ℕ) (args : List Val) (fresh : ℕ) → Hides observer label → Mum observer tables Hid (made_by_script k label o args fresh)
      mum_made k label o args fresh h = mum_bind observer tables LeftHidden Hid (λ x. ret (construction fresh x)) (mum_scope observer tables kind.Call label h (λ d. conf_constructed k label o args d))
          (λ x p. mum_ret observer tables Hid (hides_second observer _ x.label p))

      pub mum_construct_by : (k : Callee) (label : Label) (o : ℕ) (args : List Val) → Hides observer label → Mum observer tables Hid (construct_by set functions k label o args E)
      unfolding construct_by
      mum_construct_by not_callable label o args h = mum_at observer tables Hid (λ s. made_by_script not_callable label o args (length s.heap)) (λ s. mum_made not_callable label o args (length s.heap) h)
      mum_construct_by empty_callee label o args h = mum_at observer tables Hid (λ s. made_by_script empty_callee label o args (length s.heap)) (λ s. mum_made empty_callee label o args (length s.heap) h)
      mum_construct_by (of_script number f place) label o args h = mum_at observer tables Hid (λ s. made_by_script (of_script number f place) label o args (length s.heap)) (λ s. mum_made (of_script number f place) label o args (length s.heap) h)
      mum_construct_by (of_built_in which) label o args h = mum_at observer tables Hid (λ s. scope kind.Native label (λ depth. construct_built_in set which label o args E) >>= λ x. ret (settled_value x))
          (λ s. mum_settled observer tables kind.Native label h (λ d. conf_construct_built_in which label o args))

      pub mum_construct_aimed : (label : Label) (aim : Aim) (args : List Val) → Hides observer (union label aim.label) → Mum observer tables Hid (construct_aimed set functions label aim args E)
      unfolding construct_aimed
      mum_construct_aimed label aim args h = mum_at observer tables Hid (λ s. construct_by set functions (callee_at functions s.heap aim.target.function) (union label aim.label) aim.target.function _ E) (λ s. mum_construct_by _ _ _ _ h)

      pub mum_construct_value : (label : Label) (f : Value) (args : List Val) → Hides observer label → Mum observer tables Hid (construct_value set functions label f args E)
      unfolding construct_value
      mum_construct_value label (value.Primitive p) args h = mum_at observer tables Hid (λ s. construct_by set functions not_callable label 0 args E) (λ s. mum_construct_by not_callable label 0 args h)
      mum_construct_value label (value.Object o) args h = mum_at observer tables Hid (λ s. construct_aimed set functions label (aim_of s.heap o.0) args E)
          (λ s. mum_construct_aimed label (aim_of s.heap o.0) args (hides_first observer label (aim_of s.heap o.0).label h))
