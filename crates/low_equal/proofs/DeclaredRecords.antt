-- Records of variables of which each label speaks of declared origins alone.
use Rattle.std.proofs.Common.{ℕ, Bool, true, false, cond, List, [], ◌∷◌, map, Option, Some, None, slice_get}
use Rattle.origin_labels.specs.Label.{Label}
use Rattle.origin_labels.specs.Names.{same_name}
use Rattle.js_values.specs.declared.value.Value.{Value}
use Rattle.js_values.specs.Records.{Binding, Bindings, Record, rebound, bound_in, found}
use Rattle.js_ast.specs.Trees.{Ident, Function, name_of, params_of, body_of}
use Rattle.es_meaning.specs.Declared.{declared_functions, declared_statements}
use Rattle.es_meaning.specs.Naming.{arguments_name, names_in_statements}
use Rattle.es_meaning.specs.Functions.{own_name, unless_bound, bound_by, kept_by, with_parameters, with_functions, with_arguments, with_variables, name_text, Entry, entry_bindings}
use Rattle.es_meaning.specs.Plain.{with_value, assigned_in, binding_at}
use Rattle.flow_meaning.specs.Erased.{labelled_values}
use Rattle.flow_meaning.specs.Scopes.{Val, joined}
use Rattle.low_equal.proofs.DeclaredLabels as labels
use Rattle.low_equal.proofs.DeclaredLabels.{Each, IfThere, each_push, each_at, each_set, own_union}

module _ (count : ℕ) where
  abbrev Own : Label → Type 0
  Own label = labels.Own count label

  abbrev OwnVal : Val → Type 0
  OwnVal v = labels.Own count v.label

  -- the labels of variables
  abbrev pub OwnBindings : Bindings Val → Type 0
  OwnBindings bindings = Each (λ b. Own b.value.label) bindings

  -- in each record
  abbrev pub OwnRecords : List (Record Val) → Type 0
  OwnRecords records = Each (λ r. OwnBindings r.bindings) records

  -- that of a name
  own_found : (name : List ℕ) (bindings : Bindings Val) → OwnBindings bindings → IfThere (λ b. Own b.value.label) (found name bindings)
  own_found name [] h = tt
  own_found name (b ∷ bindings) h = by_case (same_name b.name name) (own_found name bindings h.1)
    where
      by_case : (c : Bool) → IfThere (λ b. Own b.value.label) (found name bindings) → IfThere (λ b. Own b.value.label) (cond c (Some b) (found name bindings))
      by_case true q = h.0
      by_case false q = q

  -- with another value of a name
  own_rebound : (name : List ℕ) (v : Val) (bindings : Bindings Val) → Own v.label → OwnBindings bindings → OwnBindings (rebound name v bindings)
  own_rebound name v [] q h = tt
  own_rebound name v (b ∷ bindings) q h = by_case (same_name b.name name) (own_rebound name v bindings q h.1)
    where
      by_case : (c : Bool) → OwnBindings (rebound name v bindings) → OwnBindings (cond c (record b { value = v } ∷ bindings) (b ∷ rebound name v bindings))
      by_case true p = (q, h.1)
      by_case false p = (h.0, p)

  -- a name in a record that there may be
  own_bound_in : (name : List ℕ) (o : Option (Record Val)) → IfThere (λ r. OwnBindings r.bindings) o → IfThere (λ b. Own b.value.label) (bound_in name o)
  own_bound_in name None h = tt
  own_bound_in name (Some r) h = own_found name r.bindings h

  -- or in one of the records
  pub own_binding : (records : List (Record Val)) (i : ℕ) (name : List ℕ) → OwnRecords records → IfThere (λ b. Own b.value.label) (binding_at records i name)
  own_binding records i name h = own_bound_in name (slice_get records i) (each_at (λ r. OwnBindings r.bindings) records i h)

  -- a record with another value of a name
  own_with_value : (name : List ℕ) (v : Val) (o : Option (Record Val)) (records : List (Record Val)) (i : ℕ) → Own v.label → IfThere (λ r. OwnBindings r.bindings) o → OwnRecords records → OwnRecords (with_value name v o records i)
  own_with_value name v None records i q p h = h
  own_with_value name v (Some r) records i q p h = each_set (λ r. OwnBindings r.bindings) records i (record r { bindings = rebound name v r.bindings }) h (own_rebound name v r.bindings q p)

  -- one of the records
  pub own_assigned : (name : List ℕ) (v : Val) (records : List (Record Val)) (i : ℕ) → Own v.label → OwnRecords records → OwnRecords (assigned_in name v records i)
  own_assigned name v records i q h = own_with_value name v (slice_get records i) records i q (each_at (λ r. OwnBindings r.bindings) records i h) h

  -- ---- what is bound in a record of its own

  -- a name is bound, or has another value
  own_bound_by : (o : Option (Binding Val)) (name : List ℕ) (v : Val) (bindings : Bindings Val) → OwnVal v → OwnBindings bindings → OwnBindings (bound_by o name v bindings)
  own_bound_by None name v bindings q h = each_push (λ b. Own b.value.label) bindings _ h q
  own_bound_by (Some b) name v bindings q h = own_rebound name v bindings q h

  -- or keeps what it has
  own_kept_by : (o : Option (Binding Val)) (name : List ℕ) (v : Val) (bindings : Bindings Val) → OwnVal v → OwnBindings bindings → OwnBindings (kept_by o name v bindings)
  own_kept_by None name v bindings q h = each_push (λ b. Own b.value.label) bindings _ h q
  own_kept_by (Some b) name v bindings q h = h

  -- parameters
  own_parameters : (missing : Val) (ps : List Ident) (args : List Val) (bindings : Bindings Val) → OwnVal missing → Each OwnVal args → OwnBindings bindings → OwnBindings (with_parameters missing ps args bindings)
  own_parameters missing [] args bindings p q h = h
  own_parameters missing (x ∷ ps) [] bindings p q h = own_parameters missing ps [] _ p q (own_bound_by (found x.text bindings) x.text missing bindings p h)
  own_parameters missing (x ∷ ps) (v ∷ vs) bindings p q h = own_parameters missing ps vs _ p q.1 (own_bound_by (found x.text bindings) x.text v bindings q.0 h)

  -- functions that are declared
  own_functions : (fs : List Function) (vs : List Val) (bindings : Bindings Val) → Each OwnVal vs → OwnBindings bindings → OwnBindings (with_functions fs vs bindings)
  own_functions [] vs bindings q h = h
  own_functions (f ∷ fs) [] bindings q h = h
  own_functions (f ∷ fs) (v ∷ vs) bindings q h = let name = name_text (name_of f) in own_functions fs vs _ q.1 (own_bound_by (found name bindings) name v bindings q.0 h)

  -- the `arguments` object
  own_unless : (o : Option (Binding Val)) (v : Val) (bindings : Bindings Val) → OwnVal v → OwnBindings bindings → OwnBindings (unless_bound o v bindings)
  own_unless None v bindings q h = each_push (λ b. Own b.value.label) bindings _ h q
  own_unless (Some b) v bindings q h = h

  own_arguments : (b : Bool) (v : Val) (bindings : Bindings Val) → OwnVal v → OwnBindings bindings → OwnBindings (with_arguments b v bindings)
  own_arguments true v bindings q h = own_unless (found arguments_name bindings) v bindings q h
  own_arguments false v bindings q h = h

  -- variables
  own_variables : (missing : Val) (names : List (List ℕ)) (bindings : Bindings Val) → OwnVal missing → OwnBindings bindings → OwnBindings (with_variables missing names bindings)
  own_variables missing [] bindings q h = h
  own_variables missing (name ∷ names) bindings q h = own_variables missing names _ q (own_kept_by (found name bindings) name missing bindings q h)

  -- the values with which a call begins
  pub record OwnEntry (entry : Entry Val) : Type 0 where
    pub this : OwnVal entry.this
    pub function : OwnVal entry.function
    pub args : Each OwnVal entry.args
    pub missing : OwnVal entry.missing
    pub functions : Each OwnVal entry.functions
    pub arguments : OwnVal entry.arguments

  -- the record of a call
  pub own_entry : (f : Function) (entry : Entry Val) → OwnEntry entry → OwnBindings (entry_bindings f entry)
  unfolding entry_bindings
  own_entry f entry h =
      own_variables entry.missing (declared_statements (body_of f)) _ h.missing
      (own_arguments (names_in_statements (body_of f)) entry.arguments _ h.arguments
      (own_functions (declared_functions (body_of f)) entry.functions _ h.functions
      (own_parameters entry.missing (params_of f) entry.args _ h.missing h.args (h.this, (h.function, tt)))))

  -- a function's own name
  pub own_own_name : (name : Option Ident) (place : ℕ) (v : Val) → OwnVal v → OwnRecords (own_name name place v)
  own_own_name None place v q = tt
  own_own_name (Some ident) place v q = ((q, tt), tt)

  -- values that are made in a context
  pub own_labelled : (label : Label) (vs : List Value) → Own label → Each OwnVal (labelled_values label vs)
  own_labelled label [] q = tt
  own_labelled label (v ∷ vs) q = (q, own_labelled label vs q)

  -- and values that are joined to it
  pub own_joined : (label : Label) (vs : List Val) → Own label → Each OwnVal vs → Each OwnVal (map (joined label) vs)
  own_joined label [] q h = tt
  own_joined label (v ∷ vs) q h = (own_union count v.label label h.0 q, own_joined label vs q h.1)
