-- The bindings of a call are the names of its layout with values in their places.
use Rattle.std.proofs.Common.{refl, sym, ap, ap₂, subst, ◌∙◌, ◌≡◌, ◌-◌, ◌<◌, ◌≤◌, ℕ, zero, suc, Bool, true, false, List, [], ◌∷◌, ◌++◌, length, set, Option, Some, None, is_some, IsSome, IfSome, if◌then◌else◌, arith}
use Rattle.std.specs.List.{All}
use Rattle.std.specs.Option.{option_map}
use Rattle.std.proofs.Math.ListN.{replicate}
use Rattle.std.proofs.lemmas.Bool.{cond-true, true≢false, false≢true}
use Rattle.std.proofs.lemmas.List.{length-append, length-map, length-set, length-replicate}
use Rattle.std.proofs.lemmas.Option.{none-some}
use Rattle.origin_labels.specs.Names.{same_name}
use Rattle.js_ast.specs.Trees.{Ident, Function, name_of, params_of, body_of}
use Rattle.js_values.specs.Records.{Binding, Bindings, found, rebound}
use Rattle.env_records.specs.Layouts.{LaidName, first_place, laid}
use Rattle.env_records.specs.Places.{with_value_at, IsPlace}
use Rattle.env_records.proofs.LayoutLaws.{laid_set, place_laid}
use Rattle.es_meaning.specs.Declared.{declared_functions, declared_statements}
use Rattle.es_meaning.specs.Functions.{this_name, function_name, binds, bound_by, kept_by, name_text, with_parameters, with_functions, unless_bound, with_arguments, with_variables, Entry, entry_bindings}
use Rattle.es_meaning.specs.Naming.{arguments_name, names_in_statements}
use Rattle.call_records.specs.Placed.{placed, placed_if, first_values, values_of}
use Rattle.call_records.specs.Planned.{names, with_name, with_name_at, with_names, with_arguments_at, with_arguments_name, place_behind, arguments_place, parameter_names, function_names, names_before, layout_of, ArePlaces, IsPlanned}
use Rattle.call_records.proofs.NameLaws.{same_self, places_within}

-- ---- names are never taken away

longer_at : (p : Option ℕ) (name : List ℕ) (ns : List LaidName) → length ns ≤ length (with_name_at p name ns)
longer_at None name ns = omega (arith, length-append ns (names true name))
longer_at (Some q) name ns = omega arith

names_longer : (more : List (List ℕ)) (ns : List LaidName) → length ns ≤ length (with_names more ns)
names_longer [] ns = omega arith
names_longer (name ∷ more) ns = let one = longer_at (first_place name ns) name ns in let rest = names_longer more (with_name name ns) in omega arith

-- ---- another value of a name, before and after names are added

module _ {V : Type 0} (missing : V) where
  some_at : (test : Bool) (b : Binding V) (o more : Option (Binding V)) → (IsSome o → IsSome more) → IsSome (if test then Some b else o) → IsSome (if test then Some b else more)
  some_at true b o more rest some = some
  some_at false b o more rest some = rest some

  found_more : (name : List ℕ) (bindings more : Bindings V) → IsSome (found name bindings) → IsSome (found name (bindings ++ more))
  found_more name [] more some = absurd (false≢true some)
  found_more name (b ∷ bindings) more some = some_at (same_name b.name name) b (found name bindings) (found name (bindings ++ more)) (found_more name bindings more) some

  rebound_at : (test : Bool) (b c : Binding V) (o : Option (Binding V)) (bs more both all : Bindings V) → (IsSome o → both ≡ more ++ all) → IsSome (if test then Some b else o) → (if test then c ∷ (bs ++ all) else b ∷ both) ≡ (if test then c ∷ bs else b ∷ more) ++ all
  rebound_at true b c o bs more both all rest some = refl
  rebound_at false b c o bs more both all rest some = ap (λ ds. b ∷ ds) (rest some)

  -- a name that is bound gets another value, whatever is added
  rebound_more : (name : List ℕ) (v : V) (bindings more : Bindings V) → IsSome (found name bindings) → rebound name v (bindings ++ more) ≡ rebound name v bindings ++ more
  rebound_more name v [] more some = absurd (false≢true some)
  rebound_more name v (b ∷ bindings) more some =
      rebound_at (same_name b.name name) b (record b { value = v }) (found name bindings) bindings (rebound name v bindings) (rebound name v (bindings ++ more)) more (rebound_more name v bindings more) some

  new_at : (test : Bool) (b c : Binding V) (o : Option (Binding V)) (bs more both : Bindings V) → (o ≡ None → both ≡ more) → (if test then Some b else o) ≡ None → (if test then c ∷ bs else b ∷ both) ≡ b ∷ more
  new_at true b c o bs more both rest none = absurd (none-some b (sym none))
  new_at false b c o bs more both rest none = ap (λ ds. b ∷ ds) (rest none)

  rebound_new : (name : List ℕ) (v w : V) (bindings : Bindings V) → found name bindings ≡ None → rebound name v (bindings ++ binds true name w) ≡ bindings ++ binds true name v
  rebound_new name v w [] none = cond-true (same_name name name) (binds true name v) (binds true name w) (same_self name)
  rebound_new name v w (b ∷ bindings) none =
      new_at (same_name b.name name) b (record b { value = v }) (found name bindings) (bindings ++ binds true name w) (bindings ++ binds true name v) (rebound name v (bindings ++ binds true name w)) (rebound_new name v w bindings) none

  -- to bind a name is to keep it, and then to give it another value
  bound_at : (o : Option (Binding V)) (name : List ℕ) (v : V) (bindings : Bindings V) → found name bindings ≡ o → bound_by o name v bindings ≡ rebound name v (kept_by o name missing bindings)
  bound_at None name v bindings none = sym (rebound_new name v missing bindings none)
  bound_at (Some b) name v bindings some = refl

  abbrev keep : List ℕ → Bindings V → Bindings V
  keep name bindings = kept_by (found name bindings) name missing bindings

  bound_kept : (name : List ℕ) (v : V) (bindings : Bindings V) → bound_by (found name bindings) name v bindings ≡ rebound name v (keep name bindings)
  bound_kept name v bindings = bound_at (found name bindings) name v bindings refl

  some_if : (test : Bool) (b : Binding V) (o : Option (Binding V)) → test ≡ true → IsSome (if test then Some b else o)
  some_if true b o is = refl
  some_if false b o is = absurd (false≢true is)

  or_some : (test : Bool) (b : Binding V) (o : Option (Binding V)) → IsSome o → IsSome (if test then Some b else o)
  or_some true b o some = refl
  or_some false b o some = some

  found_new : (name : List ℕ) (bindings : Bindings V) → IsSome (found name (bindings ++ binds true name missing))
  found_new name [] = some_if (same_name name name) (record { name = name; mutable = true; value = missing }) None (same_self name)
  found_new name (b ∷ bindings) = or_some (same_name b.name name) b (found name (bindings ++ binds true name missing)) (found_new name bindings)

  kept_some : (o : Option (Binding V)) (name : List ℕ) (bindings : Bindings V) → found name bindings ≡ o → IsSome (found name (kept_by o name missing bindings))
  kept_some None name bindings none = found_new name bindings
  kept_some (Some b) name bindings some = ap is_some some

  found_keep : (name : List ℕ) (bindings : Bindings V) → IsSome (found name (keep name bindings))
  found_keep name bindings = kept_some (found name bindings) name bindings refl

  found_kept : (o : Option (Binding V)) (name other : List ℕ) (bindings : Bindings V) → IsSome (found name bindings) → IsSome (found name (kept_by o other missing bindings))
  found_kept None name other bindings some = found_more name bindings (binds true other missing) some
  found_kept (Some b) name other bindings some = some

  -- another value leaves each name bound or not
  two_tests : (test hit : Bool) (b c : Binding V) (o p : Option (Binding V)) → is_some p ≡ is_some o → is_some (if hit then Some c else (if test then o else p)) ≡ is_some (if hit then Some b else o)
  two_tests test true b c o p is = refl
  two_tests true false b c o p is = refl
  two_tests false false b c o p is = is

  found_in_if : (test : Bool) (b : Binding V) (v : V) (bs more : Bindings V) (other : List ℕ) → found other (if test then record b { value = v } ∷ bs else b ∷ more) ≡ (if same_name b.name other then Some (if test then record b { value = v } else b) else (if test then found other bs else found other more))
  found_in_if true b v bs more other = refl
  found_in_if false b v bs more other = refl

  found_rebound : (name other : List ℕ) (v : V) (bindings : Bindings V) → is_some (found other (rebound name v bindings)) ≡ is_some (found other bindings)
  found_rebound name other v [] = refl
  found_rebound name other v (b ∷ bindings) =
      ap is_some (found_in_if (same_name b.name name) b v bindings (rebound name v bindings) other)
      ∙ two_tests (same_name b.name name) (same_name b.name other) b (if same_name b.name name then record b { value = v } else b) (found other bindings) (found other (rebound name v bindings)) (found_rebound name other v bindings)

  kept_rebound_at : (o p : Option (Binding V)) (name other : List ℕ) (v : V) (bindings : Bindings V) → IsSome (found name bindings) → is_some p ≡ is_some o → kept_by p other missing (rebound name v bindings) ≡ rebound name v (kept_by o other missing bindings)
  kept_rebound_at None None name other v bindings some same = sym (rebound_more name v bindings (binds true other missing) some)
  kept_rebound_at (Some b) (Some c) name other v bindings some same = refl
  kept_rebound_at None (Some c) name other v bindings some same = absurd (true≢false same)
  kept_rebound_at (Some b) None name other v bindings some same = absurd (false≢true same)

  variables_rebound : (more : List (List ℕ)) (name : List ℕ) (v : V) (bindings : Bindings V) → IsSome (found name bindings) → with_variables missing more (rebound name v bindings) ≡ rebound name v (with_variables missing more bindings)
  variables_rebound [] name v bindings some = refl
  variables_rebound (other ∷ more) name v bindings some =
      ap (with_variables missing more) (kept_rebound_at (found other bindings) (found other (rebound name v bindings)) name other v bindings some (found_rebound name other v bindings))
      ∙ variables_rebound more name v (keep other bindings) (found_kept (found other bindings) name other bindings some)

  found_variables : (more : List (List ℕ)) (name : List ℕ) (bindings : Bindings V) → IsSome (found name bindings) → IsSome (found name (with_variables missing more bindings))
  found_variables [] name bindings some = some
  found_variables (other ∷ more) name bindings some = found_variables more name (keep other bindings) (found_kept (found other bindings) name other bindings some)

  unless_rebound : (o p : Option (Binding V)) (a : V) (name : List ℕ) (v : V) (bindings : Bindings V) → IsSome (found name bindings) → is_some p ≡ is_some o → unless_bound p a (rebound name v bindings) ≡ rebound name v (unless_bound o a bindings)
  unless_rebound None None a name v bindings some same = sym (rebound_more name v bindings (binds false arguments_name a) some)
  unless_rebound (Some b) (Some c) a name v bindings some same = refl
  unless_rebound None (Some c) a name v bindings some same = absurd (true≢false same)
  unless_rebound (Some b) None a name v bindings some same = absurd (false≢true same)

  arguments_rebound : (named : Bool) (a : V) (name : List ℕ) (v : V) (bindings : Bindings V) → IsSome (found name bindings) → with_arguments named a (rebound name v bindings) ≡ rebound name v (with_arguments named a bindings)
  arguments_rebound true a name v bindings some =
      unless_rebound (found arguments_name bindings) (found arguments_name (rebound name v bindings)) a name v bindings some (found_rebound name arguments_name v bindings)
  arguments_rebound false a name v bindings some = refl

  found_unless : (o : Option (Binding V)) (a : V) (name : List ℕ) (bindings : Bindings V) → IsSome (found name bindings) → IsSome (found name (unless_bound o a bindings))
  found_unless None a name bindings some = found_more name bindings (binds false arguments_name a) some
  found_unless (Some b) a name bindings some = some

  found_arguments : (named : Bool) (a : V) (name : List ℕ) (bindings : Bindings V) → IsSome (found name bindings) → IsSome (found name (with_arguments named a bindings))
  found_arguments true a name bindings some = found_unless (found arguments_name bindings) a name bindings some
  found_arguments false a name bindings some = some

  -- ---- parameters and functions get their values last

  abbrev rebounds : List (List ℕ) → List V → Bindings V → Bindings V
  rebounds [] vs bindings = bindings
  rebounds (name ∷ more) [] bindings = rebounds more [] (rebound name missing bindings)
  rebounds (name ∷ more) (v ∷ vs) bindings = rebounds more vs (rebound name v bindings)

  abbrev Commutes : (Bindings V → Bindings V) → Type 0
  Commutes E = (name : List ℕ) (v : V) (bindings : Bindings V) → IsSome (found name bindings) → E (rebound name v bindings) ≡ rebound name v (E bindings)

  module _ (E : Bindings V → Bindings V) (commutes : Commutes E) where
    last : (name : List ℕ) (v : V) (more : List (List ℕ)) (bindings : Bindings V) → E (with_variables missing more (bound_by (found name bindings) name v bindings)) ≡ rebound name v (E (with_variables missing more (keep name bindings)))
    last name v more bindings =
        ap (λ (bs : Bindings V). E (with_variables missing more bs)) (bound_kept name v bindings)
        ∙ ap E (variables_rebound more name v (keep name bindings) (found_keep name bindings))
        ∙ commutes name v (with_variables missing more (keep name bindings)) (found_variables more name (keep name bindings) (found_keep name bindings))

    parameters_last : (ps : List Ident) (vs : List V) (bindings : Bindings V) → E (with_parameters missing ps vs bindings) ≡ rebounds (parameter_names ps) vs (E (with_variables missing (parameter_names ps) bindings))
    parameters_last [] vs bindings = refl
    parameters_last (p ∷ ps) [] bindings =
        parameters_last ps [] (bound_by (found p.text bindings) p.text missing bindings)
        ∙ ap (rebounds (parameter_names ps) []) (last p.text missing (parameter_names ps) bindings)
    parameters_last (p ∷ ps) (v ∷ vs) bindings =
        parameters_last ps vs (bound_by (found p.text bindings) p.text v bindings)
        ∙ ap (rebounds (parameter_names ps) vs) (last p.text v (parameter_names ps) bindings)

    functions_last : (fs : List Function) (vs : List V) (bindings : Bindings V) → length vs ≡ length fs → E (with_functions fs vs bindings) ≡ rebounds (function_names fs) vs (E (with_variables missing (function_names fs) bindings))
    functions_last [] vs bindings same = refl
    functions_last (f ∷ fs) [] bindings same = absurd (omega arith)
    functions_last (f ∷ fs) (v ∷ vs) bindings same =
        functions_last fs vs (bound_by (found (name_text (name_of f)) bindings) (name_text (name_of f)) v bindings) (omega arith)
        ∙ ap (rebounds (function_names fs) vs) (last (name_text (name_of f)) v (function_names fs) bindings)

  -- ---- the `arguments` object too

  value_more : (k : ℕ) (v : V) (bindings more : Bindings V) → k < length bindings → with_value_at k v (bindings ++ more) ≡ with_value_at k v bindings ++ more
  value_more k v [] more lt = absurd (omega arith)
  value_more zero v (b ∷ bindings) more lt = refl
  value_more (suc k) v (b ∷ bindings) more lt = ap (λ bs. b ∷ bs) (value_more k v bindings more (omega arith))

  value_new : (v w : V) (mutable : Bool) (name : List ℕ) (bindings : Bindings V) → with_value_at (length bindings) v (bindings ++ binds mutable name w) ≡ bindings ++ binds mutable name v
  value_new v w mutable name [] = refl
  value_new v w mutable name (b ∷ bindings) = ap (λ bs. b ∷ bs) (value_new v w mutable name bindings)

  valued_at : (hit : Bool) (b c : Binding V) (o p : Option (Binding V)) → is_some p ≡ is_some o → is_some (if hit then Some c else p) ≡ is_some (if hit then Some b else o)
  valued_at true b c o p is = refl
  valued_at false b c o p is = is

  found_valued : (k : ℕ) (v : V) (other : List ℕ) (bindings : Bindings V) → is_some (found other (with_value_at k v bindings)) ≡ is_some (found other bindings)
  found_valued k v other [] = refl
  found_valued zero v other (b ∷ bindings) = valued_at (same_name b.name other) b (record b { value = v }) (found other bindings) (found other bindings) refl
  found_valued (suc k) v other (b ∷ bindings) = valued_at (same_name b.name other) b b (found other bindings) (found other (with_value_at k v bindings)) (found_valued k v other bindings)

  kept_valued_at : (o p : Option (Binding V)) (k : ℕ) (v : V) (other : List ℕ) (bindings : Bindings V) → k < length bindings → is_some p ≡ is_some o → kept_by p other missing (with_value_at k v bindings) ≡ with_value_at k v (kept_by o other missing bindings)
  kept_valued_at None None k v other bindings lt same = sym (value_more k v bindings (binds true other missing) lt)
  kept_valued_at (Some b) (Some c) k v other bindings lt same = refl
  kept_valued_at None (Some c) k v other bindings lt same = absurd (true≢false same)
  kept_valued_at (Some b) None k v other bindings lt same = absurd (false≢true same)

  kept_longer : (o : Option (Binding V)) (k : ℕ) (other : List ℕ) (bindings : Bindings V) → k < length bindings → k < length (kept_by o other missing bindings)
  kept_longer None k other bindings lt = omega (arith, length-append bindings (binds true other missing))
  kept_longer (Some b) k other bindings lt = lt

  variables_valued : (more : List (List ℕ)) (k : ℕ) (v : V) (bindings : Bindings V) → k < length bindings → with_variables missing more (with_value_at k v bindings) ≡ with_value_at k v (with_variables missing more bindings)
  variables_valued [] k v bindings lt = refl
  variables_valued (other ∷ more) k v bindings lt =
      ap (with_variables missing more) (kept_valued_at (found other bindings) (found other (with_value_at k v bindings)) k v other bindings lt (found_valued k v other bindings))
      ∙ variables_valued more k v (keep other bindings) (kept_longer (found other bindings) k other bindings lt)

  -- ---- what is bound before any value is put

  abbrev filled : List LaidName → List V → Bindings V
  filled [] vs = []
  filled (n ∷ ns) [] = record { name = n.name; mutable = n.mutable; value = missing } ∷ filled ns []
  filled (n ∷ ns) (v ∷ vs) = record { name = n.name; mutable = n.mutable; value = v } ∷ filled ns vs

  length_filled : (ns : List LaidName) (vs : List V) → length (filled ns vs) ≡ length ns
  length_filled [] vs = refl
  length_filled (n ∷ ns) [] = ap suc (length_filled ns [])
  length_filled (n ∷ ns) (v ∷ vs) = ap suc (length_filled ns vs)

  filled_more : (ns : List LaidName) (vs : List V) (n : LaidName) → length vs ≤ length ns → filled (ns ++ n ∷ []) vs ≡ filled ns vs ++ record { name = n.name; mutable = n.mutable; value = missing } ∷ []
  filled_more [] [] n le = refl
  filled_more [] (v ∷ vs) n le = absurd (omega arith)
  filled_more (m ∷ ns) [] n le = ap (λ bs. record { name = m.name; mutable = m.mutable; value = missing } ∷ bs) (filled_more ns [] n (omega arith))
  filled_more (m ∷ ns) (v ∷ vs) n le = ap (λ bs. record { name = m.name; mutable = m.mutable; value = v } ∷ bs) (filled_more ns vs n (omega arith))

  filled_at : (test : Bool) (b : Binding V) (o : Option (Binding V)) (p : Option ℕ) → is_some o ≡ is_some p → is_some (if test then Some b else o) ≡ is_some (if test then Some 0 else option_map suc p)
  filled_at true b o p is = refl
  filled_at false b o None is = is
  filled_at false b o (Some q) is = is

  found_filled : (name : List ℕ) (ns : List LaidName) (vs : List V) → is_some (found name (filled ns vs)) ≡ is_some (first_place name ns)
  found_filled name [] vs = refl
  found_filled name (n ∷ ns) [] = filled_at (same_name n.name name) (record { name = n.name; mutable = n.mutable; value = missing }) (found name (filled ns [])) (first_place name ns) (found_filled name ns [])
  found_filled name (n ∷ ns) (v ∷ vs) = filled_at (same_name n.name name) (record { name = n.name; mutable = n.mutable; value = v }) (found name (filled ns vs)) (first_place name ns) (found_filled name ns vs)

  kept_filled_at : (o : Option (Binding V)) (p : Option ℕ) (name : List ℕ) (ns : List LaidName) (vs : List V) → length vs ≤ length ns → is_some o ≡ is_some p → kept_by o name missing (filled ns vs) ≡ filled (with_name_at p name ns) vs
  kept_filled_at None None name ns vs le same = sym (filled_more ns vs (record { name = name; mutable = true }) le)
  kept_filled_at (Some b) (Some q) name ns vs le same = refl
  kept_filled_at None (Some q) name ns vs le same = absurd (false≢true same)
  kept_filled_at (Some b) None name ns vs le same = absurd (true≢false same)

  variables_filled : (more : List (List ℕ)) (ns : List LaidName) (vs : List V) → length vs ≤ length ns → with_variables missing more (filled ns vs) ≡ filled (with_names more ns) vs
  variables_filled [] ns vs le = refl
  variables_filled (name ∷ more) ns vs le =
      let one = longer_at (first_place name ns) name ns in
      ap (with_variables missing more) (kept_filled_at (found name (filled ns vs)) (first_place name ns) name ns vs le (found_filled name ns vs))
      ∙ variables_filled more (with_name name ns) vs (omega arith)

  abbrev valued_if : Option ℕ → V → Bindings V → Bindings V
  valued_if None v bindings = bindings
  valued_if (Some k) v bindings = with_value_at k v bindings

  -- `arguments` gets its value last, where it is bound
  arguments_at : (o : Option (Binding V)) (p : Option ℕ) (a : V) (more : List (List ℕ)) (ns : List LaidName) (vs : List V) → length vs ≤ length ns → is_some o ≡ is_some p
      → with_variables missing more (unless_bound o a (filled ns vs)) ≡ valued_if (place_behind p ns) a (filled (with_names more (with_arguments_at p ns)) vs)
  arguments_at None None a more ns vs le same =
      let shorter : length (filled ns vs) < length (filled (ns ++ names false arguments_name) vs) = omega (arith, length_filled ns vs, length_filled (ns ++ names false arguments_name) vs, length-append ns (names false arguments_name)) in
      let longer_one : length vs ≤ length (ns ++ names false arguments_name) = omega (arith, length-append ns (names false arguments_name)) in
      ap (with_variables missing more)
      (sym (value_new a missing false arguments_name (filled ns vs)) ∙ ap (with_value_at (length (filled ns vs)) a) (sym (filled_more ns vs (record { name = arguments_name; mutable = false }) le)))
      ∙ variables_valued more (length (filled ns vs)) a (filled (ns ++ names false arguments_name) vs) shorter
      ∙ ap₂ (λ k bs. with_value_at k a bs) (length_filled ns vs) (variables_filled more (ns ++ names false arguments_name) vs longer_one)
  arguments_at (Some b) (Some q) a more ns vs le same = variables_filled more ns vs le
  arguments_at None (Some q) a more ns vs le same = absurd (false≢true same)
  arguments_at (Some b) None a more ns vs le same = absurd (true≢false same)

  arguments_last : (named : Bool) (a : V) (more : List (List ℕ)) (ns : List LaidName) (vs : List V) → length vs ≤ length ns
      → with_variables missing more (with_arguments named a (filled ns vs)) ≡ valued_if (arguments_place named ns) a (filled (with_names more (with_arguments_name named ns)) vs)
  arguments_last true a more ns vs le = arguments_at (found arguments_name (filled ns vs)) (first_place arguments_name ns) a more ns vs le (found_filled arguments_name ns vs)
  arguments_last false a more ns vs le = variables_filled more ns vs le

  -- ---- values in places

  laid_changed : (ns : List LaidName) (name : List ℕ) (p : ℕ) (v : V) (all : List V) → first_place name ns ≡ Some p → length all ≡ length ns → laid ns (set all p v) ≡ rebound name v (laid ns all)
  laid_changed ns name p v all is same = laid_set ns all p v ∙ (subst (IsPlace name (laid ns all)) is (place_laid name ns all same)).changes v

  laid_placed : (ns : List LaidName) (more : List (List ℕ)) (ps : List ℕ) → ArePlaces ns more ps → (vs all : List V) → length all ≡ length ns → laid ns (placed missing ps vs all) ≡ rebounds more vs (laid ns all)
  laid_placed ns [] [] are vs all same = refl
  laid_placed ns [] (p ∷ ps) are vs all same = absurd are
  laid_placed ns (name ∷ more) [] are vs all same = absurd are
  laid_placed ns (name ∷ more) (p ∷ ps) are [] all same =
      laid_placed ns more ps are.1 [] (set all p missing) (length-set all p missing ∙ same)
      ∙ ap (rebounds more []) (laid_changed ns name p missing all are.0 same)
  laid_placed ns (name ∷ more) (p ∷ ps) are (v ∷ vs) all same =
      laid_placed ns more ps are.1 vs (set all p v) (length-set all p v ∙ same)
      ∙ ap (rebounds more vs) (laid_changed ns name p v all are.0 same)

  laid_if : (ns : List LaidName) (place : Option ℕ) (v : V) (all : List V) → laid ns (placed_if place v all) ≡ valued_if place v (laid ns all)
  laid_if ns None v all = refl
  laid_if ns (Some p) v all = laid_set ns all p v

  laid_missing : (ns : List LaidName) → laid ns (replicate (length ns) missing) ≡ filled ns []
  laid_missing [] = refl
  laid_missing (n ∷ ns) = ap (λ bs. record { name = n.name; mutable = n.mutable; value = missing } ∷ bs) (laid_missing ns)

  laid_first : (ns : List LaidName) (this function : V) → 2 ≤ length ns → laid ns (first_values (length ns) this function missing) ≡ filled ns (this ∷ function ∷ [])
  laid_first [] this function le = absurd (omega arith)
  laid_first (n ∷ []) this function le = absurd (omega arith)
  laid_first (n ∷ m ∷ ns) this function le =
      let rest : length (n ∷ m ∷ ns) - 2 ≡ length ns = omega arith in
      ap (λ (bs : Bindings V). record { name = n.name; mutable = n.mutable; value = this } ∷ record { name = m.name; mutable = m.mutable; value = function } ∷ bs)
      (ap (λ k. laid ns (replicate k missing)) rest ∙ laid_missing ns)

  length_placed : (ps : List ℕ) (vs all : List V) → length (placed missing ps vs all) ≡ length all
  length_placed [] vs all = refl
  length_placed (p ∷ ps) [] all = length_placed ps [] (set all p missing) ∙ length-set all p missing
  length_placed (p ∷ ps) (v ∷ vs) all = length_placed ps vs (set all p v) ∙ length-set all p v

length_if : {V : Type 0} (place : Option ℕ) (v : V) (all : List V) → length (placed_if place v all) ≡ length all
length_if None v all = refl
length_if (Some p) v all = length-set all p v

length_first : {V : Type 0} (count : ℕ) (this function missing : V) → 2 ≤ count → length (first_values count this function missing) ≡ count
length_first count this function missing le = let rest = length-replicate (count - 2) missing in omega arith

-- ---- a planned function

longer_arguments : (p : Option ℕ) (ns : List LaidName) → length ns ≤ length (with_arguments_at p ns)
longer_arguments None ns = omega (arith, length-append ns (names false arguments_name))
longer_arguments (Some q) ns = omega arith

longer_names : (named : Bool) (ns : List LaidName) → length ns ≤ length (with_arguments_name named ns)
longer_names true ns = longer_arguments (first_place arguments_name ns) ns
longer_names false ns = omega arith

-- each layout begins with two names
two_names : (f : Function) → 2 ≤ length (layout_of f)
two_names f =
    let begun = names false this_name ++ names false function_name in
    let first = names_longer (parameter_names (params_of f)) begun in
    let second = names_longer (function_names (declared_functions (body_of f))) (with_names (parameter_names (params_of f)) begun) in
    let third = longer_names (names_in_statements (body_of f)) (names_before f) in
    let fourth = names_longer (declared_statements (body_of f)) (with_arguments_name (names_in_statements (body_of f)) (names_before f)) in
    omega arith

place_at_end : (p : Option ℕ) (ns : List LaidName) (n : ℕ) → length (with_arguments_at p ns) ≤ n → IfSome (place_behind p ns) (λ q. q < n)
place_at_end None ns n le = omega (arith, length-append ns (names false arguments_name))
place_at_end (Some q) ns n le = tt

place_in : (named : Bool) (ns : List LaidName) (n : ℕ) → length (with_arguments_name named ns) ≤ n → IfSome (arguments_place named ns) (λ p. p < n)
place_in true ns n le = place_at_end (first_place arguments_name ns) ns n le
place_in false ns n le = tt

arguments_within : (f : Function) → IfSome (arguments_place (names_in_statements (body_of f)) (names_before f)) (λ p. p < length (layout_of f))
arguments_within f = place_in (names_in_statements (body_of f)) (names_before f) (length (layout_of f)) (names_longer (declared_statements (body_of f)) (with_arguments_name (names_in_statements (body_of f)) (names_before f)))

module _ {V : Type 0} (f : Function) (entry : Entry V) where
  -- what is bound after the functions, and what after the parameters
  abbrev after_functions : Bindings V → Bindings V
  after_functions bindings = with_variables entry.missing (declared_statements (body_of f)) (with_arguments (names_in_statements (body_of f)) entry.arguments bindings)

  abbrev after_parameters : Bindings V → Bindings V
  after_parameters bindings = after_functions (with_variables entry.missing (function_names (declared_functions (body_of f))) bindings)

  functions_commute : (name : List ℕ) (v : V) (bindings : Bindings V) → IsSome (found name bindings) → after_functions (rebound name v bindings) ≡ rebound name v (after_functions bindings)
  functions_commute name v bindings some =
      ap (with_variables entry.missing (declared_statements (body_of f))) (arguments_rebound entry.missing (names_in_statements (body_of f)) entry.arguments name v bindings some)
      ∙ variables_rebound entry.missing (declared_statements (body_of f)) name v (with_arguments (names_in_statements (body_of f)) entry.arguments bindings)
      (found_arguments entry.missing (names_in_statements (body_of f)) entry.arguments name bindings some)

  parameters_commute : (name : List ℕ) (v : V) (bindings : Bindings V) → IsSome (found name bindings) → after_parameters (rebound name v bindings) ≡ rebound name v (after_parameters bindings)
  parameters_commute name v bindings some =
      ap after_functions (variables_rebound entry.missing (function_names (declared_functions (body_of f))) name v bindings some)
      ∙ functions_commute name v (with_variables entry.missing (function_names (declared_functions (body_of f))) bindings) (found_variables entry.missing (function_names (declared_functions (body_of f))) name bindings some)

  abbrev first_two : Bindings V
  first_two = binds false this_name entry.this ++ binds false function_name entry.function

  -- the bindings, with the values of parameters and functions put in last
  bound_last : length entry.functions ≡ length (declared_functions (body_of f)) → entry_bindings f entry
      ≡ rebounds entry.missing (function_names (declared_functions (body_of f))) entry.functions (rebounds entry.missing (parameter_names (params_of f)) entry.args (after_parameters (with_variables entry.missing (parameter_names (params_of f)) first_two)))
  unfolding entry_bindings
  bound_last counted =
      functions_last entry.missing after_functions functions_commute (declared_functions (body_of f)) entry.functions (with_parameters entry.missing (params_of f) entry.args first_two) counted
      ∙ ap (rebounds entry.missing (function_names (declared_functions (body_of f))) entry.functions)
      (parameters_last entry.missing after_parameters parameters_commute (params_of f) entry.args first_two)

  -- before that they are the names with `this`, the function and `arguments`
  bound_first : after_parameters (with_variables entry.missing (parameter_names (params_of f)) first_two)
      ≡ valued_if entry.missing (arguments_place (names_in_statements (body_of f)) (names_before f)) entry.arguments (filled entry.missing (layout_of f) (entry.this ∷ entry.function ∷ []))
  bound_first =
      let begun = names false this_name ++ names false function_name in
      let pns = parameter_names (params_of f) in
      let fns = function_names (declared_functions (body_of f)) in
      let vs = entry.this ∷ entry.function ∷ [] in
      let one = names_longer pns begun in
      let two = names_longer fns (with_names pns begun) in
      ap after_parameters (variables_filled entry.missing pns begun vs (omega arith))
      ∙ ap after_functions (variables_filled entry.missing fns (with_names pns begun) vs (omega arith))
      ∙ arguments_last entry.missing (names_in_statements (body_of f)) entry.arguments (declared_statements (body_of f)) (names_before f) vs (omega arith)

  -- the values of a call under the names of its layout
  values_entered : {named : Bool} (layout : List LaidName) (parameters functions : List ℕ) (arguments : Option ℕ) → IsPlanned f named layout parameters functions arguments → length entry.functions ≡ length (declared_functions (body_of f))
      → laid layout (values_of (length layout) parameters functions arguments entry) ≡ entry_bindings f entry
  values_entered layout parameters functions arguments planned counted =
      let two : 2 ≤ length layout = subst (λ ns. 2 ≤ length ns) (sym planned.names) (two_names f) in
      let begun = first_values (length layout) entry.this entry.function entry.missing in
      let with_object = placed_if arguments entry.arguments begun in
      let size : length with_object ≡ length layout = length_if arguments entry.arguments begun ∙ length_first (length layout) entry.this entry.function entry.missing two in
      let args = placed entry.missing parameters entry.args with_object in
      laid_placed entry.missing layout (function_names (declared_functions (body_of f))) functions planned.functions entry.functions args (length_placed entry.missing parameters entry.args with_object ∙ size)
      ∙ ap (rebounds entry.missing (function_names (declared_functions (body_of f))) entry.functions)
      (laid_placed entry.missing layout (parameter_names (params_of f)) parameters planned.parameters entry.args with_object size
      ∙ ap (rebounds entry.missing (parameter_names (params_of f)) entry.args)
      (laid_if entry.missing layout arguments entry.arguments begun
      ∙ ap (valued_if entry.missing arguments entry.arguments) (laid_first entry.missing layout entry.this entry.function two)
      ∙ ap₂ (λ o ns. valued_if entry.missing o entry.arguments (filled entry.missing ns (entry.this ∷ entry.function ∷ []))) planned.arguments planned.names
      ∙ sym bound_first))
      ∙ sym (bound_last counted)

  -- the same of lists that calls make in turn
  pub values_put : {named : Bool} (layout : List LaidName) (parameters functions : List ℕ) (arguments : Option ℕ) → IsPlanned f named layout parameters functions arguments → length entry.functions ≡ length (declared_functions (body_of f)) → (count : ℕ) → count ≡ length layout
      → (first last : List V) → first ≡ first_values count entry.this entry.function entry.missing → last ≡ placed entry.missing functions entry.functions (placed entry.missing parameters entry.args (placed_if arguments entry.arguments first))
      → laid (layout_of f) last ≡ entry_bindings f entry
  values_put layout parameters functions arguments planned counted count size first last one two =
      ap₂ (λ ns vs. laid ns vs) (sym planned.names)
      (two ∙ ap (λ (vs : List V). placed entry.missing functions entry.functions (placed entry.missing parameters entry.args (placed_if arguments entry.arguments vs))) (one ∙ ap (λ n. first_values n entry.this entry.function entry.missing) size))
      ∙ values_entered layout parameters functions arguments planned counted

pub first_size : {V : Type 0} (count : ℕ) (this function missing : V) (first : List V) → first ≡ first_values count this function missing → 2 ≤ count → length first ≡ count
first_size count this function missing first one le = ap length one ∙ length_first count this function missing le

-- each parameter has a place
places_counted : (ns : List LaidName) (more : List (List ℕ)) (ps : List ℕ) → ArePlaces ns more ps → length ps ≡ length more
places_counted ns [] [] are = refl
places_counted ns [] (p ∷ ps) are = absurd are
places_counted ns (name ∷ more) [] are = absurd are
places_counted ns (name ∷ more) (p ∷ ps) are = ap suc (places_counted ns more ps are.1)

pub parameters_counted : (f : Function) {named : Bool} (layout : List LaidName) (parameters functions : List ℕ) (arguments : Option ℕ) → IsPlanned f named layout parameters functions arguments → length parameters ≡ length (params_of f)
parameters_counted f layout parameters functions arguments planned = places_counted layout (parameter_names (params_of f)) parameters planned.parameters ∙ length-map (params_of f) (λ p. p.text)

-- a planned function's places are within its layout
module _ (f : Function) {named : Bool} (layout : List LaidName) (parameters functions : List ℕ) (arguments : Option ℕ) (planned : IsPlanned f named layout parameters functions arguments) (n : ℕ) (size : n ≡ length layout) where
  pub planned_two : 2 ≤ n
  planned_two = subst (λ k. 2 ≤ k) (sym (size ∙ ap length planned.names)) (two_names f)

  pub planned_arguments : IfSome arguments (λ p. p < n)
  planned_arguments =
      subst (λ o. IfSome o (λ p. p < n)) (sym planned.arguments)
      (subst (λ k. IfSome (arguments_place (names_in_statements (body_of f)) (names_before f)) (λ p. p < k)) (sym (size ∙ ap length planned.names)) (arguments_within f))

  pub planned_parameters : All (λ p. p < n) parameters
  planned_parameters = subst (λ k. All (λ p. p < k) parameters) (sym size) (places_within layout (parameter_names (params_of f)) parameters planned.parameters)

  pub planned_functions : All (λ p. p < n) functions
  planned_functions = subst (λ k. All (λ p. p < k) functions) (sym size) (places_within layout (function_names (declared_functions (body_of f))) functions planned.functions)
