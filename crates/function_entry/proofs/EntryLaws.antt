-- The record of a call: in a reading, and that its labels are those of its values.
use Rattle.std.proofs.Common.{refl, sym, ap, ◌∙◌, ◌≡◌, ℕ, Bool, true, false, List, [], ◌∷◌, ◌++◌, length, map, take, Option, Some, None, if◌then◌else◌}
use Rattle.std.specs.List.{All}
use Rattle.std.specs.Option.{option_map}
use Rattle.std.proofs.lemmas.List.{map-append}
use Rattle.std.proofs.lemmas.List.Elements.{All-push, All-nil, All-cons, All-head, All-tail}
use Rattle.origin_labels.specs.Label.{Label}
use Rattle.origin_labels.specs.Names.{same_name}
use Rattle.js_ast.specs.Trees.{Ident, Function, name_of, params_of, body_of}
use Rattle.js_values.specs.declared.value.Labelled.{Labelled}
use Rattle.js_values.specs.Records.{Binding, Bindings, found, rebound}
use Rattle.js_values.specs.Readings.{HasRecord, HasValue, read_value, read_binding, read_record}
use Rattle.es_meaning.specs.Declared.{declared_functions, declared_statements}
use Rattle.es_meaning.specs.Functions.{this_name, function_name, binds, bound_by, kept_by, name_text, with_parameters, with_functions, unless_bound, with_arguments, with_variables, Entry, entry_bindings, entry_record}
use Rattle.es_meaning.specs.Naming.{arguments_name, names_in_statements}

-- ---- its arguments

-- those behind the last parameter have no name
parameters_enough : {V : Type 0} (missing : V) (ps : List Ident) (vs : List V) (bindings : Bindings V) → with_parameters missing ps (take (length ps) vs) bindings ≡ with_parameters missing ps vs bindings
parameters_enough missing [] vs bindings = refl
parameters_enough missing (p ∷ ps) [] bindings = refl
parameters_enough missing (p ∷ ps) (v ∷ vs) bindings = parameters_enough missing ps vs (bound_by (found p.text bindings) p.text v bindings)

pub entry_enough : {V : Type 0} (f : Function) (place : ℕ) (entry : Entry V) → entry_record f place (record entry { args = take (length (params_of f)) entry.args }) ≡ entry_record f place entry
unfolding entry_bindings
entry_enough {V} f place entry =
    ap (λ (bs : Bindings V). record { outer = (entry_record f place entry).outer; bindings = with_variables entry.missing (declared_statements (body_of f)) (with_arguments (names_in_statements (body_of f)) entry.arguments (with_functions (declared_functions (body_of f)) entry.functions bs)) })
    (parameters_enough entry.missing (params_of f) entry.args (binds false this_name entry.this ++ binds false function_name entry.function))

-- ---- in a reading

module _ {T : Type 0} (reading : T → Label) where
  abbrev reads : Labelled T → Labelled Label
  reads = read_value reading

  abbrev read_all : Bindings (Labelled T) → Bindings (Labelled Label)
  read_all bindings = map (read_binding reading) bindings

  found_at : (name : List ℕ) (b : Binding (Labelled T)) (bindings : Bindings (Labelled T)) (test : Bool) → found name (read_all bindings) ≡ option_map (read_binding reading) (found name bindings)
      → (if test then Some (read_binding reading b) else found name (read_all bindings)) ≡ option_map (read_binding reading) (if test then Some b else found name bindings)
  found_at name b bindings true rest = refl
  found_at name b bindings false rest = rest

  found_read : (name : List ℕ) (bindings : Bindings (Labelled T)) → found name (read_all bindings) ≡ option_map (read_binding reading) (found name bindings)
  found_read name [] = refl
  found_read name (b ∷ bindings) = found_at name b bindings (same_name b.name name) (found_read name bindings)

  rebound_at : (name : List ℕ) (v : Labelled T) (b : Binding (Labelled T)) (bindings : Bindings (Labelled T)) (test : Bool) → rebound name (reads v) (read_all bindings) ≡ read_all (rebound name v bindings)
      → (if test then record (read_binding reading b) { value = reads v } ∷ read_all bindings else read_binding reading b ∷ rebound name (reads v) (read_all bindings)) ≡ read_all (if test then record b { value = v } ∷ bindings else b ∷ rebound name v bindings)
  rebound_at name v b bindings true rest = refl
  rebound_at name v b bindings false rest = ap (λ (bs : Bindings (Labelled Label)). read_binding reading b ∷ bs) rest

  rebound_read : (name : List ℕ) (v : Labelled T) (bindings : Bindings (Labelled T)) → rebound name (reads v) (read_all bindings) ≡ read_all (rebound name v bindings)
  rebound_read name v [] = refl
  rebound_read name v (b ∷ bindings) = rebound_at name v b bindings (same_name b.name name) (rebound_read name v bindings)

  bound_at : (b : Option (Binding (Labelled T))) (name : List ℕ) (v : Labelled T) (bindings : Bindings (Labelled T)) → bound_by (option_map (read_binding reading) b) name (reads v) (read_all bindings) ≡ read_all (bound_by b name v bindings)
  bound_at None name v bindings = sym (map-append (read_binding reading) bindings (binds true name v))
  bound_at (Some b) name v bindings = rebound_read name v bindings

  bound_read : (name : List ℕ) (v : Labelled T) (bindings : Bindings (Labelled T)) → bound_by (found name (read_all bindings)) name (reads v) (read_all bindings) ≡ read_all (bound_by (found name bindings) name v bindings)
  bound_read name v bindings = ap (λ (b : Option (Binding (Labelled Label))). bound_by b name (reads v) (read_all bindings)) (found_read name bindings) ∙ bound_at (found name bindings) name v bindings

  kept_at : (b : Option (Binding (Labelled T))) (name : List ℕ) (v : Labelled T) (bindings : Bindings (Labelled T)) → kept_by (option_map (read_binding reading) b) name (reads v) (read_all bindings) ≡ read_all (kept_by b name v bindings)
  kept_at None name v bindings = sym (map-append (read_binding reading) bindings (binds true name v))
  kept_at (Some b) name v bindings = refl

  kept_read : (name : List ℕ) (v : Labelled T) (bindings : Bindings (Labelled T)) → kept_by (found name (read_all bindings)) name (reads v) (read_all bindings) ≡ read_all (kept_by (found name bindings) name v bindings)
  kept_read name v bindings = ap (λ (b : Option (Binding (Labelled Label))). kept_by b name (reads v) (read_all bindings)) (found_read name bindings) ∙ kept_at (found name bindings) name v bindings

  parameters_read : (missing : Labelled T) (ps : List Ident) (vs : List (Labelled T)) (bindings : Bindings (Labelled T)) → with_parameters (reads missing) ps (map reads vs) (read_all bindings) ≡ read_all (with_parameters missing ps vs bindings)
  parameters_read missing [] vs bindings = refl
  parameters_read missing (p ∷ ps) [] bindings = ap (λ (bs : Bindings (Labelled Label)). with_parameters (reads missing) ps [] bs) (bound_read p.text missing bindings) ∙ parameters_read missing ps [] (bound_by (found p.text bindings) p.text missing bindings)
  parameters_read missing (p ∷ ps) (v ∷ vs) bindings = ap (λ (bs : Bindings (Labelled Label)). with_parameters (reads missing) ps (map reads vs) bs) (bound_read p.text v bindings) ∙ parameters_read missing ps vs (bound_by (found p.text bindings) p.text v bindings)

  functions_read : (fs : List Function) (vs : List (Labelled T)) (bindings : Bindings (Labelled T)) → with_functions fs (map reads vs) (read_all bindings) ≡ read_all (with_functions fs vs bindings)
  functions_read [] vs bindings = refl
  functions_read (f ∷ fs) [] bindings = refl
  functions_read (f ∷ fs) (v ∷ vs) bindings = ap (λ (bs : Bindings (Labelled Label)). with_functions fs (map reads vs) bs) (bound_read (name_text (name_of f)) v bindings) ∙ functions_read fs vs (bound_by (found (name_text (name_of f)) bindings) (name_text (name_of f)) v bindings)

  unless_at : (b : Option (Binding (Labelled T))) (v : Labelled T) (bindings : Bindings (Labelled T)) → unless_bound (option_map (read_binding reading) b) (reads v) (read_all bindings) ≡ read_all (unless_bound b v bindings)
  unless_at None v bindings = sym (map-append (read_binding reading) bindings (binds false arguments_name v))
  unless_at (Some b) v bindings = refl

  arguments_read : (names : Bool) (v : Labelled T) (bindings : Bindings (Labelled T)) → with_arguments names (reads v) (read_all bindings) ≡ read_all (with_arguments names v bindings)
  arguments_read true v bindings = ap (λ (b : Option (Binding (Labelled Label))). unless_bound b (reads v) (read_all bindings)) (found_read arguments_name bindings) ∙ unless_at (found arguments_name bindings) v bindings
  arguments_read false v bindings = refl

  variables_read : (missing : Labelled T) (names : List (List ℕ)) (bindings : Bindings (Labelled T)) → with_variables (reads missing) names (read_all bindings) ≡ read_all (with_variables missing names bindings)
  variables_read missing [] bindings = refl
  variables_read missing (name ∷ names) bindings = ap (λ (bs : Bindings (Labelled Label)). with_variables (reads missing) names bs) (kept_read name missing bindings) ∙ variables_read missing names (kept_by (found name bindings) name missing bindings)

  abbrev pub read_entry : Entry (Labelled T) → Entry (Labelled Label)
  read_entry entry = record { this = reads entry.this; function = reads entry.function; args = map reads entry.args; missing = reads entry.missing; functions = map reads entry.functions; arguments = reads entry.arguments }

  bindings_read : (f : Function) (entry : Entry (Labelled T)) → read_all (entry_bindings f entry) ≡ entry_bindings f (read_entry entry)
  unfolding entry_bindings
  bindings_read f entry =
      let body = body_of f in
      let first : Bindings (Labelled T) = binds false this_name entry.this ++ binds false function_name entry.function in
      let second = with_parameters entry.missing (params_of f) entry.args first in
      let third = with_functions (declared_functions body) entry.functions second in
      let fourth = with_arguments (names_in_statements body) entry.arguments third in
      sym (variables_read entry.missing (declared_statements body) fourth)
      ∙ ap (λ (bs : Bindings (Labelled Label)). with_variables (reads entry.missing) (declared_statements body) bs)
      (sym (arguments_read (names_in_statements body) entry.arguments third)
      ∙ ap (λ (bs : Bindings (Labelled Label)). with_arguments (names_in_statements body) (reads entry.arguments) bs)
      (sym (functions_read (declared_functions body) entry.functions second)
      ∙ ap (λ (bs : Bindings (Labelled Label)). with_functions (declared_functions body) (map reads entry.functions) bs)
      (sym (parameters_read entry.missing (params_of f) entry.args first))))

  pub entry_read : (f : Function) (place : ℕ) (entry : Entry (Labelled T)) → read_record reading (entry_record f place entry) ≡ entry_record f place (read_entry entry)
  entry_read f place entry = ap (λ (bs : Bindings (Labelled Label)). record { outer = (entry_record f place entry).outer; bindings = bs }) (bindings_read f entry)

-- ---- its labels

module _ {T : Type 0} (made : T → Type 0) where
  abbrev IsOf : Binding (Labelled T) → Type 0
  IsOf b = HasValue made b.value

  rebound_in : (name : List ℕ) (v : Labelled T) → made v.label → (b : Binding (Labelled T)) (bindings : Bindings (Labelled T)) → All IsOf (b ∷ bindings) → All IsOf (rebound name v bindings) → (test : Bool) → All IsOf (if test then record b { value = v } ∷ bindings else b ∷ rebound name v bindings)
  rebound_in name v m b bindings has rest true = All-cons IsOf (record b { value = v }) bindings m (All-tail IsOf b bindings has)
  rebound_in name v m b bindings has rest false = All-cons IsOf b (rebound name v bindings) (All-head IsOf b bindings has) rest

  rebound_has : (name : List ℕ) (v : Labelled T) → made v.label → (bindings : Bindings (Labelled T)) → All IsOf bindings → All IsOf (rebound name v bindings)
  rebound_has name v m [] has = has
  rebound_has name v m (b ∷ bindings) has = rebound_in name v m b bindings has (rebound_has name v m bindings (All-tail IsOf b bindings has)) (same_name b.name name)

  bound_has : (x : Option (Binding (Labelled T))) (name : List ℕ) (v : Labelled T) → made v.label → (bindings : Bindings (Labelled T)) → All IsOf bindings → All IsOf (bound_by x name v bindings)
  bound_has None name v m bindings has = All-push IsOf bindings (record { name = name; mutable = true; value = v }) has m
  bound_has (Some b) name v m bindings has = rebound_has name v m bindings has

  kept_has : (x : Option (Binding (Labelled T))) (name : List ℕ) (v : Labelled T) → made v.label → (bindings : Bindings (Labelled T)) → All IsOf bindings → All IsOf (kept_by x name v bindings)
  kept_has None name v m bindings has = All-push IsOf bindings (record { name = name; mutable = true; value = v }) has m
  kept_has (Some b) name v m bindings has = has

  parameters_have : (missing : Labelled T) → made missing.label → (ps : List Ident) (vs : List (Labelled T)) → All (HasValue made) vs → (bindings : Bindings (Labelled T)) → All IsOf bindings → All IsOf (with_parameters missing ps vs bindings)
  parameters_have missing m [] vs all bindings has = has
  parameters_have missing m (p ∷ ps) [] all bindings has = parameters_have missing m ps [] all (bound_by (found p.text bindings) p.text missing bindings) (bound_has (found p.text bindings) p.text missing m bindings has)
  parameters_have missing m (p ∷ ps) (v ∷ vs) all bindings has = parameters_have missing m ps vs (All-tail (HasValue made) v vs all) (bound_by (found p.text bindings) p.text v bindings) (bound_has (found p.text bindings) p.text v (All-head (HasValue made) v vs all) bindings has)

  functions_have : (fs : List Function) (vs : List (Labelled T)) → All (HasValue made) vs → (bindings : Bindings (Labelled T)) → All IsOf bindings → All IsOf (with_functions fs vs bindings)
  functions_have [] vs all bindings has = has
  functions_have (f ∷ fs) [] all bindings has = has
  functions_have (f ∷ fs) (v ∷ vs) all bindings has =
      functions_have fs vs (All-tail (HasValue made) v vs all) (bound_by (found (name_text (name_of f)) bindings) (name_text (name_of f)) v bindings) (bound_has (found (name_text (name_of f)) bindings) (name_text (name_of f)) v (All-head (HasValue made) v vs all) bindings has)

  unless_has : (x : Option (Binding (Labelled T))) (v : Labelled T) → made v.label → (bindings : Bindings (Labelled T)) → All IsOf bindings → All IsOf (unless_bound x v bindings)
  unless_has None v m bindings has = All-push IsOf bindings (record { name = arguments_name; mutable = false; value = v }) has m
  unless_has (Some b) v m bindings has = has

  arguments_have : (names : Bool) (v : Labelled T) → made v.label → (bindings : Bindings (Labelled T)) → All IsOf bindings → All IsOf (with_arguments names v bindings)
  arguments_have true v m bindings has = unless_has (found arguments_name bindings) v m bindings has
  arguments_have false v m bindings has = has

  variables_have : (missing : Labelled T) → made missing.label → (names : List (List ℕ)) (bindings : Bindings (Labelled T)) → All IsOf bindings → All IsOf (with_variables missing names bindings)
  variables_have missing m [] bindings has = has
  variables_have missing m (name ∷ names) bindings has = variables_have missing m names (kept_by (found name bindings) name missing bindings) (kept_has (found name bindings) name missing m bindings has)

  pub entry_has : (f : Function) (place : ℕ) (entry : Entry (Labelled T)) → made entry.this.label → made entry.function.label → All (HasValue made) entry.args → made entry.missing.label → All (HasValue made) entry.functions → made entry.arguments.label → HasRecord made (entry_record f place entry)
  unfolding entry_bindings
  entry_has f place entry this function args missing functions arguments =
      let body = body_of f in
      let first : Bindings (Labelled T) = binds false this_name entry.this ++ binds false function_name entry.function in
      let second = with_parameters entry.missing (params_of f) entry.args first in
      let third = with_functions (declared_functions body) entry.functions second in
      let fourth = with_arguments (names_in_statements body) entry.arguments third in
      variables_have entry.missing missing (declared_statements body) fourth
      (arguments_have (names_in_statements body) entry.arguments arguments third
      (functions_have (declared_functions body) entry.functions functions second
      (parameters_have entry.missing missing (params_of f) entry.args args first
      (All-cons IsOf (record { name = this_name; mutable = false; value = entry.this }) (binds false function_name entry.function) this
      (All-cons IsOf (record { name = function_name; mutable = false; value = entry.function }) [] function (All-nil IsOf))))))
