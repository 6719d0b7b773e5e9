-- A call begins.
use Rattle.std.proofs.Common.{refl, sym, ap, ap₂, subst, ◌∙◌, ◌≡◌, ℕ, suc, pos, Bool, true, false, List, [], ◌∷◌, ◌++◌, append_assoc, length, map, take, Some}
use Rattle.std.specs.List.{All, slice_get}
use Rattle.std.proofs.lemmas.Option.{same_Some}
use Rattle.std.proofs.lemmas.List.{append-nil, map-append, length-map, take-map}
use Rattle.std.proofs.lemmas.List.Elements.{All-push, All-nil, All-cons}
use Rattle.origin_labels.specs.Label.{Label, IsLabel, bottom}
use Rattle.origin_labels.specs.Stores.{IsKept}
use Rattle.flow_frames.specs.Frames.{context}
use Rattle.flow_frames.specs.Held.{seen}
use Rattle.js_ast.specs.declared.trees.Function as tree
use Rattle.js_ast.specs.Trees.{Function, Statements, params_of, body_of}
use Rattle.js_ast.specs.Functions.{FunctionCode}
use Rattle.js_ast.specs.Held.{code_of}
use Rattle.js_ast.specs.Views.{view_function}
use Rattle.js_number.specs.declared.num.Num.TheVariants.{Int}
use Rattle.js_number.specs.declared.primitive.Primitive.TheVariants.{Num}
use Rattle.js_values.specs.declared.ids.EnvId.{EnvId}
use Rattle.js_values.specs.declared.ids.ObjId.{ObjId}
use Rattle.js_values.specs.declared.value.Labelled.{Labelled}
use Rattle.js_values.specs.declared.value.Value.{Value}
use Rattle.js_values.specs.declared.value.Value.TheVariants as value
use Rattle.js_values.specs.Objects.{Object}
use Rattle.js_values.specs.Records.{Record}
use Rattle.js_values.specs.Readings.{IsReading, HasRecord, HasRecords, HasValue, read_value, read_object, read_record, read_heap, read_records}
use Rattle.js_values.proofs.ReadingLaws.{IsReading-earlier, HasRecords-kept}
use Rattle.es_meaning.specs.Declared.{declared_functions}
use Rattle.es_meaning.specs.Functions.{objects_of, references_of, behind_functions, made_if, Entry, entry_record}
use Rattle.es_meaning.specs.Naming.{names_in_statements}
use Rattle.es_meaning.specs.Plain.{undefined}
use Rattle.es_meaning.specs.Start.{id}
use Rattle.flow_meaning.specs.Erased.{made_objects, labelled_by, labelled_values, unlabelled}
use Rattle.flow_meaning.specs.Scopes.{Val, State, joined}
use Rattle.flow_meaning.specs.Requested.{arguments_object}
use Rattle.flow_meaning.specs.Tracked.{with_call}
use Rattle.run_state.specs.declared.world.World.{World}
use Rattle.run_state.specs.Worlds.{Belongs, state_of}
use Rattle.call_records.specs.Joined.{ForJoined}
use Rattle.function_entry.specs.ArgumentRows.{MakesArguments}
use Rattle.function_entry.specs.Changing.{Changes}
use Rattle.function_entry.specs.Declaring.{labelled_with, MakesNamed}
use Rattle.function_entry.specs.Making.{Makes}
use Rattle.function_entry.proofs.EntryLaws.{read_entry, entry_enough, entry_read, entry_has}
use Rattle.function_entry.proofs.FunctionLaws.{with_both}
use Rattle.function_entry.proofs.WorldLaws.{context_read}

-- ---- what is planned of a function of the table

-- a plan of the function with a number is that of the function
pub planned_same : (planned f : tree.Function) (functions : List FunctionCode) (number : ℕ) → Some (code_of planned) ≡ slice_get functions number → slice_get functions number ≡ Some (code_of f) → view_function planned ≡ view_function f
planned_same planned f functions number here known = ap (λ (code : FunctionCode). code.function) (same_Some (code_of planned) (code_of f) (here ∙ known))

references_count : (n : ℕ) (fs : List Function) → length (references_of n fs) ≡ length fs
unfolding references_of
references_count n [] = refl
references_count n (f ∷ fs) = ap suc (references_count (suc (suc n)) fs)

labelled_count : {T : Type 0} (here : T) (vs : List Value) → length (labelled_with here vs) ≡ length vs
labelled_count here [] = refl
labelled_count here (v ∷ vs) = ap suc (labelled_count here vs)

pub references_counted : {T : Type 0} (here : T) (n : ℕ) (fs : List Function) → length (labelled_with here (references_of n fs)) ≡ length fs
references_counted here n fs = labelled_count here (references_of n fs) ∙ references_count n fs

-- ---- values with one label

labelled_read : {T : Type 0} (reading : T → Label) (here : T) (vs : List Value) → map (read_value reading) (labelled_with here vs) ≡ labelled_values (reading here) vs
labelled_read reading here [] = refl
labelled_read reading here (v ∷ vs) = ap (λ us. labelled_by (reading here) v ∷ us) (labelled_read reading here vs)

labelled_has : {T : Type 0} (made : T → Type 0) (here : T) → made here → (vs : List Value) → All (HasValue made) (labelled_with here vs)
labelled_has made here m [] = All-nil (HasValue made)
labelled_has made here m (v ∷ vs) = All-cons (HasValue made) (record { value = v; label = here }) (labelled_with here vs) m (labelled_has made here m vs)

module _ {S T : Type 0} (made : S → T → Type 0) (meaning : S → T → Label) where
  -- ---- the `arguments` object, where the code names it

  pub named_made : (store : S) (here : T) (names : Bool) (number own : ℕ) (args : List (Labelled T)) (old new : List (Object T)) → names ≡ true → MakesArguments made meaning store here number own args old new → MakesNamed made meaning store here names number own args old new
  named_made store here names number own args old new test makes = record {
    says = λ reading is. makes.says reading is ∙ ap (λ (b : Bool). read_heap reading old ++ made_if b (arguments_object number own (map (read_value reading) args) (reading here))) (sym test);
  }

  pub unnamed_made : (store : S) (here : T) (names : Bool) (number own : ℕ) (args : List (Labelled T)) (heap : List (Object T)) → names ≡ false → MakesNamed made meaning store here names number own args heap heap
  unnamed_made store here names number own args heap test = record {
    says = λ reading is. sym (append-nil (read_heap reading heap)) ∙ ap (λ (b : Bool). read_heap reading heap ++ made_if b (arguments_object number own (map (read_value reading) args) (reading here))) (sym test);
  }

-- ---- the whole

-- what a call begins with, by all that it depends on
abbrev entry_of : ℕ → Val → List Val → Statements → Label → ℕ → Entry Val
entry_of number this args body c n = record {
  this = this;
  function = unlabelled (value.Primitive (Num (Int (pos number))));
  args = map (joined c) args;
  missing = labelled_by c undefined;
  functions = labelled_values c (references_of n (declared_functions body));
  arguments = labelled_by c (value.Object (id (behind_functions n (declared_functions body))));
}

abbrev called : List FunctionCode → ℕ → Function → ℕ → Val → List Val → State → Statements → Label → ℕ → ℕ → State
called functions number f place this args s body c n k = record s {
  heap = s.heap ++ (made_objects c (objects_of functions n k (declared_functions body)) ++ made_if (names_in_statements body) (arguments_object number k args c));
  records = s.records ++ entry_record f place (entry_of number this args body c n) ∷ [];
}

-- the values with which the code has it begin
abbrev pub entry_with : {T : Type 0} → Labelled T → Value → T → List (Labelled T) → T → List (Labelled T) → ObjId → Entry (Labelled T)
entry_with this function none args here functions arguments = record {
  this = this;
  function = record { value = function; label = none };
  args = args;
  missing = record { value = undefined; label = here };
  functions = functions;
  arguments = record { value = value.Object arguments; label = here };
}

module _ {S T : Type 0} (made : S → T → Type 0) (meaning : S → T → Label) (room : S → ℕ) (firm : S → Bool) (old new : S) (kept : IsKept made meaning room firm old new) (rising : (store : S) (label : T) → made store label → IsLabel (meaning store label)) (w : World T) (belongs : Belongs made meaning old w) where
  module _ (functions : List FunctionCode) (number : ℕ) (f : Function) (body : Statements) (body_is : body_of f ≡ body) (place own : EnvId) (own_is : own.0 ≡ length w.records) (this : Labelled T) (args references : List (Labelled T)) (function : Value) (arguments : ObjId)
      (this_made : made old this.label) (here : T) (here_made : made old here) (here_is : meaning old here ≡ context (seen meaning old w.frames.frames)) (none : T) (none_made : made new none)
      (references_are : references ≡ labelled_with here (references_of (length w.heap) (declared_functions body))) where
    -- the record is made, with values for the parameters to which the arguments are joined
    abbrev Binds : List (Record (Labelled T)) → Type 0
    Binds records = ForJoined made meaning new here (take (length (params_of f)) args) (λ vs. records ≡ w.records ++ entry_record f place.0 (entry_with this function none vs here references arguments) ∷ [])

    -- its record belongs
    pub entry_belongs : (records : List (Record (Labelled T))) → Binds records → HasRecords (made new) records
    entry_belongs records binds =
        let here_later = (kept.labels here here_made).0 in
        subst (HasRecords (made new)) (sym binds.holds)
        (All-push (HasRecord (made new)) w.records (entry_record f place.0 (entry_with this function none binds.values here references arguments)) (HasRecords-kept made meaning room firm old new kept w.records belongs.records)
        (entry_has (made new) f place.0 (entry_with this function none binds.values here references arguments) (kept.labels this.label this_made).0 none_made binds.has here_later
        (subst (All (HasValue (made new))) (sym references_are) (labelled_has (made new) here here_later (references_of (length w.heap) (declared_functions body)))) here_later))

    module _ (first second : S) (first_kept : IsKept made meaning room firm first new) (second_kept : IsKept made meaning room firm second new) (names : Bool) (names_are : names ≡ names_in_statements (body_of f)) (none_is : meaning new none ≡ bottom) (function_is : function ≡ value.Primitive (Num (Int (pos number))))
        (middle heap : List (Object T)) (records : List (Record (Labelled T))) (arguments_are : arguments.0 ≡ length middle) (behind : length middle ≡ behind_functions (length w.heap) (declared_functions body))
        (makes : Makes made meaning first here (objects_of functions (length w.heap) own.0 (declared_functions body)) w.heap middle) (makes_named : MakesNamed made meaning second here names number own.0 args middle heap)
        (binds : Binds records) where
      module _ (reading : T → Label) (is : IsReading made meaning new reading) where
        -- the objects
        heap_read : read_heap reading heap ≡ read_heap reading w.heap ++ (made_objects (reading here) (objects_of functions (length w.heap) (length w.records) (declared_functions body)) ++ made_if (names_in_statements body) (arguments_object number (length w.records) (map (read_value reading) args) (reading here)))
        heap_read =
            makes_named.says reading (IsReading-earlier made meaning room firm second new reading second_kept is)
            ∙ ap (λ (h : List (Object Label)). h ++ made_if names (arguments_object number own.0 (map (read_value reading) args) (reading here))) (makes.says reading (IsReading-earlier made meaning room firm first new reading first_kept is))
            ∙ append_assoc (read_heap reading w.heap) (made_objects (reading here) (objects_of functions (length w.heap) own.0 (declared_functions body))) (made_if names (arguments_object number own.0 (map (read_value reading) args) (reading here)))
            ∙ ap₂ (λ (k : ℕ) (b : Bool). read_heap reading w.heap ++ (made_objects (reading here) (objects_of functions (length w.heap) k (declared_functions body)) ++ made_if b (arguments_object number k (map (read_value reading) args) (reading here)))) own_is (names_are ∙ ap names_in_statements body_is)

        -- the values of the record
        values_read : read_entry reading (entry_with this function none binds.values here references arguments) ≡ record (entry_of number (read_value reading this) (map (read_value reading) args) body (reading here) (length w.heap)) { args = take (length (params_of f)) (map (joined (reading here)) (map (read_value reading) args)) }
        values_read =
            ap₂ (λ (v : Value) (l : Label). record (read_entry reading (entry_with this function none binds.values here references arguments)) { function = labelled_by l v }) function_is (is.agrees none none_made ∙ none_is)
            ∙ ap₂ (λ (vs us : List Val). record { this = read_value reading this; function = unlabelled (value.Primitive (Num (Int (pos number)))); args = vs; missing = labelled_by (reading here) undefined; functions = us; arguments = labelled_by (reading here) (value.Object arguments) })
            (binds.joins.says reading is ∙ ap (map (joined (reading here))) (sym (take-map (read_value reading) (length (params_of f)) args)) ∙ sym (take-map (joined (reading here)) (length (params_of f)) (map (read_value reading) args))) (ap (map (read_value reading)) references_are ∙ labelled_read reading here (references_of (length w.heap) (declared_functions body)))
            ∙ ap (λ (n : ℕ). record (entry_of number (read_value reading this) (map (read_value reading) args) body (reading here) (length w.heap)) { args = take (length (params_of f)) (map (joined (reading here)) (map (read_value reading) args)); arguments = labelled_by (reading here) (value.Object (id n)) }) (arguments_are ∙ behind)

        records_read : read_records reading records ≡ read_records reading w.records ++ entry_record f place.0 (entry_of number (read_value reading this) (map (read_value reading) args) body (reading here) (length w.heap)) ∷ []
        records_read =
            ap (read_records reading) binds.holds
            ∙ map-append (read_record reading) w.records (entry_record f place.0 (entry_with this function none binds.values here references arguments) ∷ [])
            ∙ ap (λ (r : Record Val). read_records reading w.records ++ r ∷ []) (entry_read reading f place.0 (entry_with this function none binds.values here references arguments))
            ∙ ap (λ (e : Entry Val). read_records reading w.records ++ entry_record f place.0 e ∷ []) values_read
            ∙ ap (λ (r : Record Val). read_records reading w.records ++ r ∷ []) (entry_enough f place.0 (entry_of number (read_value reading this) (map (read_value reading) args) body (reading here) (length w.heap)))

      pub entered : Changes made meaning new (λ reading. with_call functions number f place.0 (read_value reading this) (map (read_value reading) args)) w (with_both heap records w)
      unfolding with_call
      entered = record {
        says = λ reading is told turns.
            let s = state_of reading w told turns in
            let vs = map (read_value reading) args in
            let v = read_value reading this in
            let earlier = IsReading-earlier made meaning room firm old new reading kept is in
            let c_is = context_read made meaning old w.frames.frames here belongs.frames here_made here_is reading earlier in
            ap₂ (λ (h : List (Object Label)) (r : List (Record Val)). record s { heap = h; records = r }) (heap_read reading is) (records_read reading is)
            ∙ sym (ap₂ (λ (n k : ℕ). called functions number f place.0 v vs s (body_of f) (context s.frames) n k) (length-map w.heap (read_object reading)) (length-map w.records (read_record reading))
            ∙ ap₂ (λ (b : Statements) (c : Label). called functions number f place.0 v vs s b c (length w.heap) (length w.records)) body_is c_is);
      }
