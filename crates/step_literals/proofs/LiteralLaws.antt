-- The parts of a literal, and the object that they make.
use Rattle.std.proofs.Common.{refl, sym, ap, ap₂, subst, ◌∙◌, ◌≡◌, ◌⊎◌, inl, inr, ◌<◌, ◌≤◌, ◌+◌, ℕ, zero, suc, Bool, List, [], ◌∷◌, ◌++◌, length, map, take, drop, min, get_or, Result, arith}
use Rattle.std.specs.Borrow.{Bor}
use Rattle.std.specs.List.{All}
use Rattle.std.proofs.lemmas.List.{length-append, length-map, map-append, take_more, take-map}
use Rattle.std.proofs.lemmas.List.Elements.{All-take}
use Rattle.std.proofs.lemmas.Simd.{map-map}
use Rattle.origin_labels.specs.Label.{Label, bottom}
use Rattle.origin_labels.specs.Stores.{IsKept}
use Rattle.flow_policy.specs.Policies.{Tables, no_tables}
use Rattle.flow_policy.specs.Inputs.{Given}
use Rattle.flow_frames.specs.Frames.{context}
use Rattle.flow_frames.specs.declared.faults.FlowFault.{FlowFault}
use Rattle.js_ast.specs.declared.trees.Expr as code
use Rattle.js_ast.specs.declared.trees.Function as function
use Rattle.js_ast.specs.declared.trees.Key.{Key}
use Rattle.js_ast.specs.declared.trees.Property as node
use Rattle.js_ast.specs.declared.trees.PropertyKind.{PropertyKind}
use Rattle.js_ast.specs.declared.trees.PropertyKind as kinds
use Rattle.js_ast.specs.declared.node_list.NodeList.{NodeList}
use Rattle.js_ast.specs.Functions.{FunctionCode}
use Rattle.js_ast.specs.Keys.{key_text}
use Rattle.js_ast.specs.Nodes.{nodes_of}
use Rattle.js_ast.specs.Views.{view_function, view_key, view_property_kind, view_properties}
use Rattle.js_values.specs.declared.value.Labelled.{Labelled}
use Rattle.js_values.specs.Objects.{Rows}
use Rattle.js_values.specs.declared.property.Slot.{Slot}
use Rattle.js_values.specs.Readings.{HasValue, read_value}
use Rattle.js_values.proofs.ReadingLaws.{IsReading-earlier}
use Rattle.es_meaning.specs.BuiltIns.{BuiltIns}
use Rattle.es_meaning.specs.Evaluation.{more_values, part_of, parts_of, properties}
use Rattle.es_meaning.specs.Operations.{Part, Value, object_of}
use Rattle.es_meaning.specs.Outcomes.{Outcome, Goes}
use Rattle.es_meaning.specs.Start.{id}
use Rattle.flow_meaning.specs.Erased.{unlabelled}
use Rattle.flow_meaning.specs.Planned.{gave, Give, and_plan, as_plan, asking, planned, with_result}
use Rattle.flow_meaning.specs.Requested.{literal_object, with_parts, with_part}
use Rattle.flow_meaning.specs.Scopes.{Val, State, Halt, Jump}
use Rattle.flow_meaning.specs.Tracked.{act, make_object}
use Rattle.step_objects.specs.declared.literals.LiteralPart.{LiteralPart}
use Rattle.step_objects.specs.Literals.{keys_in, kind_of, values_in}
use Rattle.run_state.specs.declared.world.World.{World}
use Rattle.run_state.specs.Worlds.{state_of}
use Rattle.continuations.specs.declared.objects.Part.TheVariants as part
use Rattle.continuations.specs.declared.continuation.Control.{Control}
use Rattle.continuations.specs.declared.continuation.Control.TheVariants as control
use Rattle.continuations.specs.declared.continuation.Continuation.TheVariants as continuation
use Rattle.js_number.specs.declared.primitive.Primitive.{Primitive}
use Rattle.js_values.specs.declared.value.Value.TheVariants as value
use Rattle.continuations.proofs.Handed.{laid_value}
use Rattle.continuations.specs.Kept.{Kept}
use Rattle.continuations.specs.Literals.{IsPart, literal_act, literal_from}
use Rattle.continuations.specs.Moving.{BeginsAnywhere, following}
use Rattle.continuations.specs.Pending.{after, behind, next_plan, setting_above}
use Rattle.continuations.specs.Settings.{Setting, entrance}
use Rattle.continuations.proofs.Steps.{values_more}
use Rattle.step_references.specs.Moving.{Begun}
use Rattle.step_references.proofs.Begun.{moves_as}
use Rattle.step_references.proofs.Plans.{given_follows}
use Rattle.step_literals.specs.Building.{AreParts, Builds, Laid, Made, kind_in, part_in}

-- ---- parts beyond the values, and values beyond the parts, make nothing

parts_met : (label : Label) (parts : List (Part × List ℕ)) (vs : List Val) (n : ℕ) (rows : Rows (Slot Label)) → (length parts ≤ n) ⊎ (length vs ≤ n) → with_parts label (take n parts) (take n vs) rows ≡ with_parts label parts vs rows
parts_met label [] [] zero rows all = refl
parts_met label [] [] (suc n) rows all = refl
parts_met label [] (v ∷ vs) zero rows all = refl
parts_met label [] (v ∷ vs) (suc n) rows all = refl
parts_met label (p ∷ parts) [] zero rows all = refl
parts_met label (p ∷ parts) [] (suc n) rows all = refl
parts_met label (p ∷ parts) (v ∷ vs) zero rows (inl few) = absurd (omega (arith, few))
parts_met label (p ∷ parts) (v ∷ vs) zero rows (inr few) = absurd (omega (arith, few))
parts_met label (p ∷ parts) (v ∷ vs) (suc n) rows (inl few) = parts_met label parts vs n (with_part label p.0 p.1 v rows) (inl (omega (arith, few)))
parts_met label (p ∷ parts) (v ∷ vs) (suc n) rows (inr few) = parts_met label parts vs n (with_part label p.0 p.1 v rows) (inr (omega (arith, few)))

-- what stands in the script, part by part
part_here : (at : ℕ) (k : Key) (kind : PropertyKind) → part_of (view_property_kind at k kind) ≡ (kind_in kind, key_text (view_key k))
part_here at k (kinds.Value' a q e) = refl
part_here at k (kinds.Getter f) = refl
part_here at k (kinds.Setter f) = refl

pub parts_are : (ps : List node.Property) → parts_of (view_properties ps) ≡ map part_in ps
parts_are [] = refl
parts_are (p ∷ ps) = ap₂ (λ x xs. x ∷ xs) (part_here p.at p.key p.kind) (parts_are ps)

-- the object of these parts is that of the literal with all values
module _ {T : Type 0} (reading : T → Label) (ps : List node.Property) (vs : List (Labelled T)) (parts : List (LiteralPart T)) (are : AreParts ps vs parts) (s : State) where
  object_made : act no_tables [] (object_of (keys_in parts)) (values_in reading parts) s ≡ act no_tables [] (object_of (parts_of (view_properties ps))) (map (read_value reading) vs) s
  unfolding act make_object
  object_made =
      let size = length-map ps part_in in
      let width = length-map vs (read_value reading) in
      let n = length parts in
      let made = λ (rows : Rows (Slot Label)). Goes (unlabelled (value.Object (id (length s.heap)))) (record s { heap = s.heap ++ record (literal_object [] [] (context s.frames)) { rows = rows } ∷ [] }) in
      ap made (
      ap₂ (λ ks us. with_parts (context s.frames) ks us []) (are.keys ∙ ap (take n) (sym (parts_are ps)))
      (sym (map-map (read_value reading) (λ (p : LiteralPart _). p.value) parts) ∙ ap (map (read_value reading)) are.values ∙ sym (take-map (read_value reading) n vs))
      ∙ parts_met (context s.frames) (parts_of (view_properties ps)) (map (read_value reading) vs) n []
      (met are.all))
    where
      met : (length ps ≤ length parts) ⊎ (length vs ≤ length parts) → (length (parts_of (view_properties ps)) ≤ length parts) ⊎ (length (map (read_value reading) vs) ≤ length parts)
      met (inl few) = let size : length (parts_of (view_properties ps)) ≡ length ps = ap length (parts_are ps) ∙ length-map ps part_in in inl (omega (arith, few, size))
      met (inr few) = let width = length-map vs (read_value reading) in inr (omega (arith, few, width))

  pub object_as : (tables : Tables) (inputs : Given) (set : BuiltIns) (functions : List FunctionCode) → following (act no_tables [] (object_of (keys_in parts)) (values_in reading parts) s) (λ v t. Give (gave v) t) ≡ (planned tables inputs set functions).act (object_of (parts_of (view_properties ps))) (map (read_value reading) vs) s
  unfolding act
  object_as tables inputs set functions =
      sym (given_follows (act no_tables [] (object_of (keys_in parts)) (values_in reading parts) s)) ∙ ap (λ (o : Outcome Halt Jump Val State). as_plan Value o) object_made

-- ---- parts with their values, as the loop takes them

-- those of a front of the properties
pub record FrontParts {T : Type 0} (ps : List node.Property) (vs : List (Labelled T)) (n : ℕ) (parts : List (LiteralPart T)) : Type 0 where
  pub size : length parts ≡ n
  pub keys : keys_in parts ≡ take n (map part_in ps)
  pub values : map (λ p. p.value) parts ≡ take n vs

pub no_parts : {T : Type 0} (ps : List node.Property) (vs : List (Labelled T)) → FrontParts ps vs 0 []
no_parts ps vs = record { size = refl; keys = refl; values = refl }

-- one more of a front
front_of : {X Y : Type 0} (f : X → Y) (xs : List X) (n : ℕ) (x : X) → n < length xs → ((d : X) → x ≡ get_or xs n d) → take n (map f xs) ++ f x ∷ [] ≡ take (n + 1) (map f xs)
front_of f xs n x lt here =
    ap (λ us. us ++ f x ∷ []) (take-map f n xs) ∙ ap (λ u. map f (take n xs) ++ f u ∷ []) (here x)
    ∙ sym (map-append f (take n xs) (get_or xs n x ∷ [])) ∙ ap (map f) (sym (take_more xs n x lt)) ∙ sym (take-map f (n + 1) xs)

pub front_more : {T Y : Type 0} (ps : List node.Property) (vs : List (Labelled T)) (parts new : List (LiteralPart T)) (so_far : List Y) (y : Y) (p : node.Property) (v : Labelled T) (made : LiteralPart T) → FrontParts ps vs (length so_far) parts
    → (length so_far < length ps) × (length so_far < length vs) × ((d : node.Property) → p ≡ get_or ps (length so_far) d) × ((d : Labelled T) → v ≡ get_or vs (length so_far) d)
    → new ≡ parts ++ made ∷ [] → made.key ≡ key_text (view_key p.key) → kind_of made.part ≡ kind_in p.kind → made.value ≡ v → FrontParts ps vs (length (so_far ++ y ∷ [])) new
front_more ps vs parts new so_far y p v made front turn pushed key kind value =
    let size : length so_far + 1 ≡ length (so_far ++ y ∷ []) = sym (length-append so_far (y ∷ [])) in
    record {
      size = ap length pushed ∙ length-append parts (made ∷ []) ∙ ap (λ n. n + 1) front.size ∙ size;
      keys = ap keys_in pushed ∙ map-append (λ (q : LiteralPart _). (kind_of q.part, q.key)) parts (made ∷ []) ∙ ap₂ (λ us u. us ++ u ∷ []) front.keys (ap₂ (λ k x. (k, x)) kind key) ∙ front_of part_in ps (length so_far) p turn.0 turn.2 ∙ ap (λ n. take n (map part_in ps)) size;
      values = ap (map (λ (q : LiteralPart _). q.value)) pushed ∙ map-append (λ (q : LiteralPart _). q.value) parts (made ∷ []) ∙ ap₂ (λ us u. us ++ u ∷ []) front.values (value ∙ turn.3 v) ∙ sym (take_more vs (length so_far) v turn.1) ∙ ap (λ n. take n vs) size;
    }

pub front_parts : {T : Type 0} (ps : List node.Property) (vs : List (Labelled T)) (n : ℕ) (parts : List (LiteralPart T)) → FrontParts ps vs n parts → n ≡ min (length ps) (length vs) → AreParts ps vs parts
front_parts ps vs n parts front all = record {
  keys = front.keys ∙ ap (λ m. take m (map part_in ps)) (sym front.size);
  values = front.values ∙ ap (λ m. take m vs) (sym front.size);
  all = least (length ps) (length vs) (length parts) (front.size ∙ all);
}
  where
    least : (a b m : ℕ) → m ≡ min a b → (a ≤ m) ⊎ (b ≤ m)
    least zero b m is = inl (omega (arith, is))
    least (suc a) zero m is = inr (omega (arith, is))
    least (suc a) (suc b) zero is = absurd (omega (arith, is))
    least (suc a) (suc b) (suc m) is = up (least a b m (omega (arith, is)))
      where
        up : (a ≤ m) ⊎ (b ≤ m) → (suc a ≤ suc m) ⊎ (suc b ≤ suc m)
        up (inl few) = inl (omega (arith, few))
        up (inr few) = inr (omega (arith, few))

-- what holds of the values holds of those of the parts
all_values : {T : Type 0} (made : T → Type 0) (parts : List (LiteralPart T)) → All (HasValue made) (map (λ p. p.value) parts) → All (λ p. HasValue made p.value) parts
all_values made [] all k d lt = absurd (omega (arith, lt))
all_values made (p ∷ parts) all zero d lt = all zero d.value (omega arith)
all_values made (p ∷ parts) all (suc k) d lt = all_values made parts (λ n e l. all (suc n) e (omega (arith, l))) k d (omega (arith, lt))

pub parts_have : {T : Type 0} (made : T → Type 0) (ps : List node.Property) (vs : List (Labelled T)) (parts : List (LiteralPart T)) → AreParts ps vs parts → All (HasValue made) vs → All (λ p. HasValue made p.value) parts
parts_have made ps vs parts are all = all_values made parts (subst (All (HasValue made)) (sym are.values) (All-take (HasValue made) (length parts) vs all))

-- ---- values that stand in the script

pub begun_literal : {S T : Type 0} {made : S → T → Type 0} {meaning : S → T → Label} {store : S} (old new : Kept T) (v : Primitive) (label : T) → length old.loose ≡ 0 → new.tasks ≡ old.tasks → new.loose ≡ old.loose ++ record { value = value.Primitive v; label = label } ∷ [] → made store label → meaning store label ≡ bottom
    → BeginsAnywhere made meaning store (λ tables inputs set functions e s. Give (gave ((planned tables inputs set functions).literal v)) s) old new control.Value
begun_literal old new v label none tasks laid m is tables inputs set functions reading e s read =
    laid_value old new (record { value = value.Primitive v; label = label }) none tasks laid tables inputs set functions reading e s
    ∙ ap (λ (l : Label). behind tables inputs set functions reading old.tasks e (Give (gave (record { value = value.Primitive v; label = l })) s)) (read.agrees label m ∙ is)

-- a value is evaluated, and then those of the parts behind it
pub value_as : (tables : Tables) (inputs : Given) (set : BuiltIns) (functions : List FunctionCode) (list : Bor (NodeList node.Property)) (count : ℕ) (x : Bor code.Expr) (vs : List Val) (f : Setting) (s : State) → IsPart (part.Value x) list.now count
    → and_plan (next_plan tables inputs set functions (control.Expr x) [] f s) (after tables inputs set functions (continuation.Property list count) vs f) ≡ literal_from list.now count tables inputs set functions vs f s
value_as tables inputs set functions list count x vs f s here = sym (here tables inputs set functions (literal_act list.now) vs f.env.place s)

-- ---- the loop

module _ {S T : Type 0} {made : S → T → Type 0} {meaning : S → T → Label} {functions : List FunctionCode} {place : ℕ} where
  pub made_first : (store : S) (list : NodeList node.Property) (count : ℕ) (vs : List (Labelled T)) (w : World T) → Made made meaning store functions place list count count vs vs w w
  made_first store list count vs w = record { makes = λ tables inputs set act reading e told turns is. refl }

  -- a function more
  pub made_more : (room : S → ℕ) (firm : S → Bool) (earlier later : S) (list : NodeList node.Property) (count now : ℕ) (f : Bor function.Function) (vs : List (Labelled T)) (old new : Kept T) (w world_old world_new : World T) → IsKept made meaning room firm earlier later
      → IsPart (part.Function f) list now → Laid made meaning later functions place (view_function f.now) old new world_old world_new → Made made meaning earlier functions place list count now vs old.loose w world_old → Made made meaning later functions place list count (now + 1) vs new.loose w world_new
  unfolding more_values
  made_more room firm earlier later list count now f vs old new w world_old world_new kept part laid so_far = record {
    makes = λ tables inputs set does reading e told turns is.
        let s = state_of reading world_old told turns in
        let t = state_of reading world_new told turns in
        let others = view_properties (drop (now + 1) (nodes_of list)) in
        let us = map (read_value reading) old.loose in
        let go = λ (o : Outcome Halt Jump Val State). and_plan (as_plan Value o) (with_result Value (more_values (planned tables inputs set functions) (entrance tables inputs set functions) (asking tables inputs set functions) does us others place)) in
        ap (λ ys. properties (planned tables inputs set functions) (entrance tables inputs set functions) (asking tables inputs set functions) does ys others place t) (ap (map (read_value reading)) laid.loose ∙ values_more reading old.loose laid.value)
        ∙ ap go (sym (laid.act reading is told turns))
        ∙ sym (part tables inputs set functions does us place s)
        ∙ so_far.makes tables inputs set does reading e told turns (IsReading-earlier made meaning room firm earlier later reading kept is);
  }

  -- what is done from a part on was to be done from the first on
  pub builds_from : {store : S} {list : NodeList node.Property} {old middle new : Kept T} {world_old world_mid world_new : World T} {result : Result Control (FlowFault T)} (room : S → ℕ) (firm : S → Bool) (earlier : S) (count now : ℕ) → IsKept made meaning room firm earlier store → middle.tasks ≡ old.tasks
      → Made made meaning earlier functions place list count now old.loose middle.loose world_old world_mid
      → Begun made meaning store (λ tables inputs set functions reading e. literal_from list now tables inputs set functions (map (read_value reading) middle.loose) e) middle new world_mid world_new result
      → Builds made meaning store functions place (λ tables inputs set reading e. literal_from list count tables inputs set functions (map (read_value reading) old.loose) e) old new world_old world_new result
  builds_from {store} {list} {old} {middle} {new} {world_old} {world_mid} {world_new} {result} room firm earlier count now kept tasks makes begun = record {
    builds = λ tables inputs set reading e told turns is at.
        let t = state_of reading world_mid told turns in
        let f = setting_above old.tasks e in
        let from = λ (vs : List (Labelled T)) (n i : ℕ) (s : State). properties (planned tables inputs set functions) (entrance tables inputs set functions) (asking tables inputs set functions) (literal_act list) (map (read_value reading) vs) (view_properties (drop n (nodes_of list))) i s in
        moves_as tables inputs set functions reading new e (state_of reading world_new told turns) (behind tables inputs set functions reading middle.tasks e (from middle.loose now (setting_above middle.tasks e).env.place t)) (behind tables inputs set functions reading old.tasks e (from old.loose count f.env.place (state_of reading world_old told turns))) result
        (ap (λ ts. behind tables inputs set functions reading ts e (from middle.loose now (setting_above ts e).env.place t)) tasks
        ∙ ap (behind tables inputs set functions reading old.tasks e) (ap (λ i. from middle.loose now i t) at ∙ makes.makes tables inputs set (literal_act list) reading e told turns (IsReading-earlier made meaning room firm earlier store reading kept is) ∙ ap (λ i. from old.loose count i (state_of reading world_old told turns)) (sym at)))
        (begun.begins tables inputs set functions reading e told turns is);
  }
