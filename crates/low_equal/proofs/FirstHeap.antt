-- The objects that a script starts with, its functions and variables among them, stand for themselves in two runs, whatever the set of built-ins is.
use Rattle.std.proofs.Common.{◌≡◌, ℕ, suc, List, [], ◌∷◌, ◌++◌, length, Bool, true, false, if◌then◌else◌, Option, Some, None, slice_get, refl, sym, ap, subst, true≢false, arith}
use Rattle.std.proofs.lemmas.Option.{same_Some}
use Rattle.std.proofs.lemmas.List.{length-append}
use Rattle.std.specs.Option.{option_map}
use Rattle.origin_labels.specs.Label.{Label}
use Rattle.js_values.specs.declared.value.Value.{Value}
use Rattle.js_values.specs.declared.property.Body.{Body}
use Rattle.js_values.specs.declared.property.Body.TheVariants.{Data, Accessor}
use Rattle.js_values.specs.declared.property.Marks.{Marks}
use Rattle.js_values.specs.Objects.{Rows, Property, PlainObject, number_of, own, changed}
use Rattle.js_values.specs.Arrays.{length_key, element_of, is_past}
use Rattle.js_values.specs.Chains.{beginning, onwards, chain_within}
use Rattle.js_values.specs.Walks.{plain_chain, plain_found_at, plain_find}
use Rattle.js_ast.specs.Trees.{Function, Statements, params_of}
use Rattle.js_ast.specs.Functions.{FunctionCode, functions_of}
use Rattle.es_meaning.specs.BuiltIns.{BuiltIns}
use Rattle.es_meaning.specs.Declared.{declared_functions, declared_statements}
use Rattle.es_meaning.specs.Functions.{number_in, function_object, constructed_prototype, function_objects}
use Rattle.es_meaning.specs.Holders.{built_heap}
use Rattle.es_meaning.specs.Objects as acts
use Rattle.es_meaning.specs.Objects.{made_by_script, declared_by_script}
use Rattle.es_meaning.specs.Plain.{undefined, unless_found, with_variable, with_variables, put_by_plan, may_hold, declared_in_place, declared_anew, declared_over, declared_function, and_functions, with_functions, entered_heap, heap_or, first_heap}
use Rattle.es_meaning.specs.Start.{object_prototype, function_prototype, global_object}
use Rattle.flow_meaning.specs.Erased.{unlabelled_heap}
use Rattle.low_equal.specs.LowEqual.{AreDistinct, nowhere, no_keys, one_more, HeapsAgree}
use Rattle.low_equal.proofs.Rows.{own_absent, distinct_altered, distinct_with_row}
use Rattle.low_equal.proofs.Heaps.{none_some}
use Rattle.low_equal.proofs.SoundHeaps.{IsBelow, AreBelow, a_primitive, an_object, holds, no_row, one_row, no_function, of_the_script, AreSound, at_heap, sound_itself, below_changed, below_with_row, rows_sound, object_sound, property_sound, two_more_sound, below_one, function_rows_below, keys_of_constructor}
use Rattle.low_equal.proofs.BuiltHeap.{built_sound}

-- ---- what is written and added to the global object

write_sound : (name : List ℕ) (v : Value) (h : List PlainObject) → IsBelow (length h) v → AreSound h → AreSound (acts.write global_object.0 name v h)
write_sound name v h b s = object_sound h global_object.0 _ s (λ g e k. rows_sound g _ k (distinct_altered name (λ q. Some (acts.with_value v q)) k.distinct) (below_changed name (acts.with_value v) (λ q. holds b) k.rows))

-- an element raises the `length` of an array
stretched_sound : {n : ℕ} (i : Option ℕ) (x : Option Property) {rows : Rows Property} → AreDistinct rows → AreBelow n rows → AreDistinct (acts.stretched i x rows) × AreBelow n (acts.stretched i x rows)
stretched_sound None x d b = (d, b)
stretched_sound (Some i) None d b = (d, b)
stretched_sound {n} (Some i) (Some p) {rows} d b = by_past (is_past i p.body)
  where
    by_past : (c : Bool) → AreDistinct (if c then changed length_key (acts.with_length (suc i)) rows else rows) × AreBelow n (if c then changed length_key (acts.with_length (suc i)) rows else rows)
    by_past true = (distinct_altered length_key (λ q. Some (acts.with_length (suc i) q)) d, below_changed length_key (acts.with_length (suc i)) (λ q. holds a_primitive) b)
    by_past false = (d, b)

add_sound : (name : List ℕ) (v : Value) (marks : Marks) (h : List PlainObject) → IsBelow (length h) v → ((g : PlainObject) → slice_get h global_object.0 ≡ Some g → own name g.rows ≡ None) → AreSound h → AreSound (acts.add global_object.0 name v marks h)
add_sound name v marks h b none s = object_sound h global_object.0 (acts.with_added name (record { body = Data v; marks = marks })) s
    (λ g e k. let z = stretched_sound (element_of g.class name) (own length_key g.rows) (distinct_with_row name (record { body = Data v; marks = marks }) (own_absent name g.rows (none g e)) k.distinct)
    (below_with_row name (record { body = Data v; marks = marks }) (holds b) k.rows) in rows_sound g _ k z.0 z.1)

-- where nothing is found, or a put adds, the global object itself hasn't the name
abbrev behind : List PlainObject → PlainObject → List (ℕ × PlainObject)
behind h p = onwards (number_of p.proto) (chain_within (λ q. number_of q.proto) h global_object.0)

none_own : (x : Option Property) (o : ℕ) (rest : Option (ℕ × Property)) → plain_found_at o x rest ≡ None → x ≡ None
none_own None o rest e = refl
none_own (Some p) o rest e = absurd (none_some _ (sym e))

none_found : (name : List ℕ) (h : List PlainObject) (x : Option PlainObject) → plain_find name (beginning global_object.0 x (behind h)) ≡ None → (g : PlainObject) → x ≡ Some g → own name g.rows ≡ None
none_found name h None e g d = absurd (none_some g d)
none_found name h (Some p) e g d = subst (λ (q : PlainObject). own name q.rows ≡ None) (same_Some p g d) (none_own (own name p.rows) global_object.0 (plain_find name (behind h p)) e)

abbrev is_adds : acts.Plan → Bool
is_adds acts.adds = true
is_adds acts.writes = false
is_adds acts.refuses = false
is_adds (acts.calls f) = false

allowed_adds : (b : Bool) → is_adds (acts.if_allowed b acts.writes) ≡ true → ⊥
allowed_adds true e = true≢false (sym e)
allowed_adds false e = true≢false (sym e)

own_adds : (p : Property) (b : Body) → is_adds (acts.own_plan p b) ≡ true → ⊥
own_adds p (Data v) e = allowed_adds p.marks.writable e
own_adds p (Accessor get None) e = true≢false (sym e)
own_adds p (Accessor get (Some f)) e = true≢false (sym e)

plan_adds : (key : List ℕ) (p : PlainObject) (x : Option Property) (rest : Option (ℕ × Property)) → is_adds (acts.plan_at key p x rest) ≡ true → x ≡ None
plan_adds key p None rest e = refl
plan_adds key p (Some q) rest e = absurd (own_adds q q.body e)

put_adds : (name : List ℕ) (h : List PlainObject) (x : Option PlainObject) → is_adds (acts.can_put name (beginning global_object.0 x (behind h))) ≡ true → (g : PlainObject) → x ≡ Some g → own name g.rows ≡ None
put_adds name h None e g d = absurd (none_some g d)
put_adds name h (Some p) e g d = subst (λ (q : PlainObject). own name q.rows ≡ None) (same_Some p g d) (plan_adds name p (own name p.rows) (plain_find name (behind h p)) e)

put_sound : (plan : acts.Plan) (name : List ℕ) (v : Value) (h : List PlainObject) → acts.can_put name (plain_chain h global_object.0) ≡ plan → IsBelow (length h) v → AreSound h → AreSound (put_by_plan plan name v h)
put_sound acts.writes name v h e b s = write_sound name v h b s
put_sound acts.adds name v h e b s = add_sound name v made_by_script h b (λ g d. put_adds name h (slice_get h global_object.0) (ap is_adds e) g d) s
put_sound acts.refuses name v h e b s = s
put_sound (acts.calls f) name v h e b s = s

-- ---- what is declared keeps a heap sound, unless it is refused

abbrev IfEntered : Option (List PlainObject) → Type 0
IfEntered None = Unit {0}
IfEntered (Some h) = AreSound h

place_sound : (b : Bool) (name : List ℕ) (v : Value) (h : List PlainObject) → IsBelow (length h) v → AreSound h → IfEntered (declared_in_place b name v h)
place_sound true name v h b s = put_sound (acts.can_put name (plain_chain h global_object.0)) name v h refl b s
place_sound false name v h b s = tt

anew_sound : (b : Bool) (p : Property) (name : List ℕ) (v : Value) (h : List PlainObject) → IsBelow (length h) v → AreSound h → IfEntered (declared_anew b p name v h)
anew_sound true p name v h b s = property_sound global_object.0 name (record { body = Data v; marks = declared_by_script }) h (holds b) s
anew_sound false p name v h b s = place_sound (may_hold p p.body) name v h b s

over_sound : (f : Option (ℕ × Property)) (name : List ℕ) (v : Value) (h : List PlainObject) → plain_find name (plain_chain h global_object.0) ≡ f → IsBelow (length h) v → AreSound h → IfEntered (declared_over f name v h)
over_sound None name v h e b s = add_sound name v declared_by_script h b (λ g d. none_found name h (slice_get h global_object.0) e g d) s
over_sound (Some f) name v h e b s = anew_sound f.1.marks.configurable f.1 name v h b s

made_sound : (functions : List FunctionCode) (f : Function) (h : List PlainObject) → AreSound h → AreSound (h ++ function_objects functions (length h) 0 f)
unfolding function_objects
made_sound functions f h s =
    let some = s.starts in
    two_more_sound h (function_object (length h) (number_in functions f) 0 (length (params_of f))) (constructed_prototype (length h))
    (record {
      distinct = keys_of_constructor (length (params_of f)) _;
      rows = one_row (holds a_primitive) (one_row (holds (an_object (omega arith))) (function_rows_below (suc (suc (length h))) (omega arith)));
      inner = of_the_script;
      proto = below_one function_prototype (length h) (omega arith);
    })
    (record {
      distinct = one_more nowhere no_keys;
      rows = one_row (holds (an_object (omega arith))) no_row;
      inner = no_function;
      proto = below_one object_prototype (suc (length h)) (omega arith);
    }) s

function_sound : (functions : List FunctionCode) (f : Function) (h : List PlainObject) → AreSound h → IfEntered (declared_function functions f h)
unfolding function_objects
function_sound functions f h s =
    let n = length-append h (function_objects functions (length h) 0 f) in
    over_sound _ _ _ _ refl (an_object (omega arith)) (made_sound functions f h s)

and_sound : (o : Option (List PlainObject)) (next : List PlainObject → Option (List PlainObject)) → IfEntered o → ((h : List PlainObject) → AreSound h → IfEntered (next h)) → IfEntered (and_functions o next)
and_sound None next s k = tt
and_sound (Some h) next s k = k h s

functions_sound : (functions : List FunctionCode) (fs : List Function) (h : List PlainObject) → AreSound h → IfEntered (with_functions functions fs h)
unfolding with_functions
functions_sound functions [] h s = s
functions_sound functions (f ∷ fs) h s = and_sound (declared_function functions f h) (λ made. with_functions functions fs made) (function_sound functions f h s) (λ g k. functions_sound functions fs g k)

variable_sound : (f : Option (ℕ × Property)) (name : List ℕ) (h : List PlainObject) → plain_find name (plain_chain h global_object.0) ≡ f → AreSound h → AreSound (unless_found f name h)
variable_sound None name h e s = add_sound name undefined declared_by_script h a_primitive (λ g d. none_found name h (slice_get h global_object.0) e g d) s
variable_sound (Some f) name h e s = s

variables_sound : (names : List (List ℕ)) (h : List PlainObject) → AreSound h → AreSound (with_variables names h)
variables_sound [] h s = s
variables_sound (name ∷ names) h s = variables_sound names (with_variable name h) (variable_sound _ name h refl s)

entered_sound : (names : List (List ℕ)) (built : List PlainObject) (o : Option (List PlainObject)) → IfEntered o → AreSound built → AreSound (heap_or built (option_map (λ heap. with_variables names heap) o))
entered_sound names built None k s = s
entered_sound names built (Some h) k s = variables_sound names h k

-- ---- the first heap of a script stands for itself

module _ (set : BuiltIns) (program : Statements) where
  pub first_sound : AreSound (first_heap set program)
  unfolding entered_heap
  first_sound =
      let built = built_sound set.entries in
      entered_sound (declared_statements program) (built_heap set.entries) (with_functions (functions_of program) (declared_functions program) (built_heap set.entries))
      (functions_sound (functions_of program) (declared_functions program) (built_heap set.entries) built) built

  pub first_itself : (observer : Label) → HeapsAgree observer (at_heap (length (first_heap set program))) (unlabelled_heap (first_heap set program)) (unlabelled_heap (first_heap set program))
  first_itself observer = sound_itself observer (first_heap set program) first_sound
