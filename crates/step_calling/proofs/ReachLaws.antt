-- What a call reaches through bound functions, and what lies loose then.
use Rattle.std.proofs.Common.{arith, refl, sym, ap, ap₂, subst, ◌∙◌, ◌≡◌, ◌≤◌, ℕ, suc, zero, Bool, List, [], ◌∷◌, ◌++◌, map, length, drop, None}
use Rattle.std.specs.List.{All}
use Rattle.std.proofs.lemmas.List.{map-append}
use Rattle.std.proofs.lemmas.List.Elements.{All-append, All-drop, All-weaker}
use Rattle.origin_labels.specs.Label.{Label, IsLabel, union}
use Rattle.origin_labels.specs.Stores.{IsKept}
use Rattle.origin_labels.proofs.LabelLaws.{union-bottom}
use Rattle.js_values.specs.declared.ids.ObjId.{ObjId}
use Rattle.js_values.specs.declared.value.Labelled.{Labelled}
use Rattle.js_values.specs.declared.value.Value.TheVariants as value
use Rattle.js_values.specs.Objects.{Object}
use Rattle.js_values.specs.Readings.{HasValue, IsReading, read_value}
use Rattle.js_values.proofs.ReadingLaws.{IsReading-earlier}
use Rattle.flow_meaning.specs.Planned.{call_aimed, call_by, call_value, construct_aimed, construct_by, construct_value}
use Rattle.flow_meaning.specs.Requested as requested
use Rattle.flow_meaning.specs.Requested.{aim_of, own_aim}
use Rattle.flow_meaning.specs.Scopes.{Val}
use Rattle.flow_meaning.specs.Tracked.{callee_at}
use Rattle.step_calling.specs.declared.bound_target.BoundTarget.{BoundTarget}
use Rattle.step_calling.specs.BoundTargets.{ComesTo, IsBoundTarget}
use Rattle.continuations.specs.Kept.{Kept}
use Rattle.continuations.specs.Shapes.{nth}
use Rattle.step_calling.specs.Calling.{lying}
use Rattle.step_calling.specs.Reaching.{IsLaid, ReachesCall, ReachesConstruction, called_with}
use Rattle.step_natives.specs.Framed.{Leads}

pub map_drop : {X Y : Type 0} (f : X → Y) (n : ℕ) (xs : List X) → map f (drop n xs) ≡ drop n (map f xs)
map_drop f zero xs = refl
map_drop f (suc n) [] = refl
map_drop f (suc n) (x ∷ xs) = map_drop f n xs

module _ {S T : Type 0} (made : S → T → Type 0) (meaning : S → T → Label) (heap : List (Object T)) (f : ObjId) (label : T) where
  module _ (room : S → ℕ) (firm : S → Bool) (old_store store : S) (kept : IsKept made meaning room firm old_store store) (rising : (l : T) → made store l → IsLabel (meaning store l)) (m : made old_store label) where
    own_label : (reading : T → Label) → IsReading made meaning store reading → union (reading label) (own_aim f.0).label ≡ reading label
    own_label reading read =
        let n = (kept.labels label m).0 in
        union-bottom (reading label) (subst IsLabel (sym (read.agrees label n)) (rising label n))

    own_laid : (enough count : ℕ) (stack : Kept T) → count ≡ length stack.loose → enough ≤ count → IsLaid made meaning store enough stack stack (record { function = f; label = label; count = count })
    own_laid enough count stack size least = record { tasks = refl; count = size; enough = least; label = (kept.labels label m).0; values = λ all. all }

    -- no bound function: it is called itself
    pub calls_itself : (stack : Kept T) (count : ℕ) → count ≡ length stack.loose → 2 ≤ count → Leads (drop 1 stack.loose) (record { value = value.Object f; label = label }) → ComesTo made meaning store heap f.0 None
        → ReachesCall made meaning store heap f label stack stack (record { function = f; label = label; count = count })
    unfolding call_value call_aimed
    calls_itself stack count size least leads own = record {
      laid = own_laid 2 count stack size least;
      leads = leads;
      calls = λ functions E s reading read there.
          let this = nth 0 (lying reading stack) in
          let args = drop 2 (lying reading stack) in
          ap (λ (a : requested.Aim). call_aimed functions (reading label) a this args E s) (ap (λ h. aim_of h f.0) there ∙ own reading)
          ∙ ap (λ l. call_by functions (callee_at functions s.heap f.0) l f.0 this args E s) (own_label reading read);
    }

    pub constructs_itself : (stack : Kept T) (count : ℕ) → count ≡ length stack.loose → 1 ≤ count → Leads stack.loose (record { value = value.Object f; label = label }) → ComesTo made meaning store heap f.0 None
        → ReachesConstruction made meaning store heap f label stack stack (record { function = f; label = label; count = count })
    unfolding construct_value construct_aimed
    constructs_itself stack count size least leads own = record {
      laid = own_laid 1 count stack size least;
      leads = leads;
      constructs = λ set functions E s reading read there.
          let args = drop 1 (lying reading stack) in
          ap (λ (a : requested.Aim). construct_aimed set functions (reading label) a args E s) (ap (λ h. aim_of h f.0) there ∙ own reading)
          ∙ ap (λ l. construct_by set functions (callee_at functions s.heap f.0) l f.0 args E s) (own_label reading read);
    }

  -- a bound one: what it comes to is called
  module _ (room : S → ℕ) (firm : S → Bool) (aimed_store store : S) (kept : IsKept made meaning room firm aimed_store store) (a : BoundTarget T) (joined : T) (aimed : IsBoundTarget made meaning aimed_store heap f.0 a) (m : made store joined)
      (means : (reading : T → Label) → IsReading made meaning store reading → reading joined ≡ union (reading label) (reading a.label)) (old new : Kept T) (count : ℕ) (tasks : new.tasks ≡ old.tasks) (size : count ≡ length new.loose) where
    abbrev laid_args : ℕ → List (Labelled T)
    laid_args n = a.args ++ drop n old.loose

    later : (vs : List (Labelled T)) → All (HasValue (made aimed_store)) vs → All (HasValue (made store)) vs
    later vs all = All-weaker (HasValue (made aimed_store)) (HasValue (made store)) (λ v k. (kept.labels v.label k).0) vs all

    args_has : (n : ℕ) → All (HasValue (made store)) old.loose → All (HasValue (made store)) (laid_args n)
    args_has n all = All-append (HasValue (made store)) a.args (drop n old.loose) (later a.args aimed.has.args) (All-drop (HasValue (made store)) n old.loose all)

    more_has : (v : Labelled T) (vs : List (Labelled T)) → made store v.label → All (HasValue (made store)) vs → All (HasValue (made store)) (v ∷ vs)
    more_has v vs k all zero d lt = k
    more_has v vs k all (suc i) d lt = all i d (omega (arith, lt))

    args_read : (reading : T → Label) (n : ℕ) → map (read_value reading) (laid_args n) ≡ map (read_value reading) a.args ++ drop n (lying reading old)
    args_read reading n = map-append (read_value reading) a.args (drop n old.loose) ∙ ap (λ vs. map (read_value reading) a.args ++ vs) (map_drop (read_value reading) n old.loose)

    earlier : (reading : T → Label) → IsReading made meaning store reading → IsReading made meaning aimed_store reading
    earlier reading read = IsReading-earlier made meaning room firm aimed_store store reading kept read

    pub calls_aimed : new.loose ≡ a.this ∷ called_with a.function joined (a.args ++ drop 2 old.loose) → ReachesCall made meaning store heap f label old new (record { function = a.function; label = joined; count = count })
    unfolding call_value call_aimed
    calls_aimed lies = record {
      laid = record {
        tasks = tasks;
        count = size;
        enough = omega (arith, size, ap length lies);
        label = m;
        values = λ all. subst (All (HasValue (made store))) (sym lies) (more_has a.this (called_with a.function joined (laid_args 2)) ((kept.labels a.this.label aimed.has.this).0) (more_has (record { value = value.Object a.function; label = joined }) (laid_args 2) m (args_has 2 all)));
      };
      leads = subst (λ vs. Leads (drop 1 vs) (record { value = value.Object a.function; label = joined })) (sym lies) refl;
      calls = λ functions E s reading read there.
          let this = nth 0 (lying reading old) in
          let args = drop 2 (lying reading old) in
          let own : Val = read_value reading a.this in
          ap (λ (x : requested.Aim). call_aimed functions (reading label) x this args E s) (ap (λ h. aim_of h f.0) there ∙ aimed.is reading (earlier reading read))
          ∙ ap₂ (λ l vs. call_by functions (callee_at functions s.heap a.function.0) l a.function.0 own vs E s) (sym (means reading read)) (sym (args_read reading 2))
          ∙ ap (λ vs. call_by functions (callee_at functions s.heap a.function.0) (reading joined) a.function.0 (nth 0 (map (read_value reading) vs)) (drop 2 (map (read_value reading) vs)) E s) (sym lies);
    }

    pub constructs_aimed : new.loose ≡ called_with a.function joined (a.args ++ drop 1 old.loose) → ReachesConstruction made meaning store heap f label old new (record { function = a.function; label = joined; count = count })
    unfolding construct_value construct_aimed
    constructs_aimed lies = record {
      laid = record {
        tasks = tasks;
        count = size;
        enough = omega (arith, size, ap length lies);
        label = m;
        values = λ all. subst (All (HasValue (made store))) (sym lies) (more_has (record { value = value.Object a.function; label = joined }) (laid_args 1) m (args_has 1 all));
      };
      leads = subst (λ vs. Leads vs (record { value = value.Object a.function; label = joined })) (sym lies) refl;
      constructs = λ set functions E s reading read there.
          let args = drop 1 (lying reading old) in
          ap (λ (x : requested.Aim). construct_aimed set functions (reading label) x args E s) (ap (λ h. aim_of h f.0) there ∙ aimed.is reading (earlier reading read))
          ∙ ap₂ (λ l vs. construct_by set functions (callee_at functions s.heap a.function.0) l a.function.0 vs E s) (sym (means reading read)) (sym (args_read reading 1))
          ∙ ap (λ vs. construct_by set functions (callee_at functions s.heap a.function.0) (reading joined) a.function.0 (drop 1 (map (read_value reading) vs)) E s) (sym lies);
    }
