-- What a run holds when it begins, in a reading of its labels.
use Rattle.std.proofs.Common.{arith, refl, sym, ap, ap₂, ◌∙◌, ◌≡◌, ℕ, suc, Bool, true, false, ◌&&◌, List, [], ◌∷◌, map, length, replicate, subst, ◌≤◌}
use Rattle.std.specs.List.{All}
use Rattle.std.proofs.lemmas.List.{length-map}
use Rattle.std.proofs.lemmas.List.Elements.{All-cons, All-nil}
use Rattle.origin_labels.specs.Label.{Label, bottom}
use Rattle.flow_policy.specs.Policies.{Tables}
use Rattle.flow_policy.specs.Inputs.{Given}
use Rattle.flow_frames.specs.declared.kind.Kind.TheVariants as kind
use Rattle.flow_frames.specs.Changes.{pushed}
use Rattle.flow_frames.specs.Frames.{Frame}
use Rattle.flow_frames.specs.Held.{Held, CatchByTry, Belong, seen, seen_frame}
use Rattle.flow_frames.specs.Kinds.{is_try}
use Rattle.js_ast.specs.Trees.{Statements}
use Rattle.js_values.specs.declared.value.Labelled.{Labelled}
use Rattle.js_values.specs.declared.value.Value.{Value}
use Rattle.js_values.specs.declared.property.Slot.{Slot}
use Rattle.js_values.specs.declared.inner.Inner.{Inner}
use Rattle.js_values.specs.declared.inner.Inner.TheVariants.{Bound}
use Rattle.js_values.specs.Objects.{Rows, Property, PlainInner, plain, script, native, bound, Object, PlainObject}
use Rattle.js_values.specs.Records.{Binding, Record}
use Rattle.js_values.specs.Readings.{IsReading, HasValue, HasRecord, HasRecords, HasHeap, read_heap, read_records}
use Rattle.es_meaning.specs.BuiltIns.{BuiltIns}
use Rattle.es_meaning.specs.Plain.{first_heap, outermost}
use Rattle.es_meaning.specs.Start.{start_heap}
use Rattle.flow_meaning.specs.Erased.{labelled_by, labelled_values, made_inner, made_rows, made_objects, unlabelled_heap}
use Rattle.flow_meaning.specs.Tracked.{start}
use Rattle.run_state.specs.declared.world.World.{World}
use Rattle.run_state.specs.Worlds.{state_of, Belongs}
use Rattle.plain_heap.specs.PlainObjects.{PlainObjects, values_with, inner_with, slot_with, rows_with, object_with, objects_with}
use Rattle.plain_heap.specs.Started.{IsStarted}
use Rattle.plain_heap.proofs.ReadLaws.{read_with, has_objects, length_with}
use Rattle.step_start.specs.First.{global_with}

-- ---- frames: the Root alone

module _ {S T : Type 0} (made : S → T → Type 0) (meaning : S → T → Label) where
  read_all : (store : S) (reading : T → Label) (frames : List (Held T)) → IsReading made meaning store reading → All (λ h. made store h.label) frames → map (seen_frame reading) frames ≡ seen meaning store frames
  read_all store reading [] read all = refl
  read_all store reading (h ∷ frames) read all =
      ap₂ (λ f fs. f ∷ fs) (ap (λ l. record { kind = h.kind; label = l; active = h.active }) (read.agrees h.label (all 0 h (omega arith)))) (read_all store reading frames read (λ k d lt. all (suc k) d (omega (arith, lt))))

abbrev first_frame : List Frame → Frame
first_frame [] = pushed kind.Root bottom
first_frame (f ∷ fs) = f

-- a frame that is seen as the Root catches nothing
root_catches : (kind_is : Bool) (active : Bool) → active ≡ false → (kind_is && active) ≡ active
root_catches true active none = refl
root_catches false active none = sym none

module _ {T : Type 0} (reading : T → Label) where
  pub one_frame : (frames : List (Held T)) → map (seen_frame reading) frames ≡ pushed kind.Root bottom ∷ [] → length frames ≡ 1
  one_frame frames is = sym (length-map frames (seen_frame reading)) ∙ ap length is

  pub root_alone : (frames : List (Held T)) → map (seen_frame reading) frames ≡ pushed kind.Root bottom ∷ [] → CatchByTry frames
  root_alone [] is = All-nil (λ (h : Held T). (is_try h.kind && h.active) ≡ h.active)
  root_alone (h ∷ []) is =
      All-cons (λ (h : Held T). (is_try h.kind && h.active) ≡ h.active) h [] (root_catches (is_try h.kind) h.active (ap (λ fs. (first_frame fs).active) is)) (All-nil (λ (h : Held T). (is_try h.kind && h.active) ≡ h.active))
  root_alone (h ∷ g ∷ frames) is = let long = one_frame (h ∷ g ∷ frames) is in absurd (omega (arith, long))

-- ---- the record of the outermost code

outermost_made : {T : Type 0} (made : T → Type 0) (label : T) → made label → HasRecords made (outermost (global_with label) ∷ [])
outermost_made made label m =
    All-cons (HasRecord made) (outermost (global_with label)) []
    (All-cons (λ (b : Binding (Labelled _)). HasValue made b.value) _ [] m (All-nil (λ (b : Binding (Labelled _)). HasValue made b.value)))
    (All-nil (HasRecord made))

-- ---- the objects, with the label of each, as objects that are made in a context

module _ (c : Label) where
  made_values : (vs : List Value) → values_with c vs ≡ labelled_values c vs
  made_values [] = refl
  made_values (v ∷ vs) = ap (λ us. labelled_by c v ∷ us) (made_values vs)

  made_inners : (inner : PlainInner) → inner_with c inner ≡ made_inner c inner
  made_inners plain = refl
  made_inners (script function env) = refl
  made_inners (native which) = refl
  made_inners (bound target this args) = ap (Bound target c (labelled_by c this)) (made_values args)

  made_all : (rows : Rows Property) → rows_with c rows ≡ made_rows c rows
  made_all [] = refl
  made_all (r ∷ rows) = ap (λ more. (r.0, slot_with c r.1) ∷ more) (made_all rows)

  made_as : (objects : List PlainObject) → objects_with c objects ≡ made_objects c objects
  made_as [] = refl
  made_as (p ∷ objects) =
      ap₂ (λ (q : Object Label) (more : List (Object Label)). q ∷ more)
      (ap₂ (λ (i : Inner Label) (rows : Rows (Slot Label)). record (object_with c p) { inner = i; rows = rows }) (made_inners p.inner) (made_all p.rows))
      (made_as objects)

-- ---- all of it

module _ {S T : Type 0} (made : S → T → Type 0) (meaning : S → T → Label) (store : S) (w : World T) (label : T) (set : BuiltIns) (program : Statements) (m : made store label) (empty : meaning store label ≡ bottom)
    (root : seen meaning store w.frames.frames ≡ pushed kind.Root bottom ∷ []) (frames : Belong made meaning store w.frames.frames) (objects : w.heap ≡ objects_with label (first_heap set program)) (records : w.records ≡ outermost (global_with label) ∷ []) where
  records_read : (reading : T → Label) → IsReading made meaning store reading → read_records reading w.records ≡ outermost (global_with bottom) ∷ []
  records_read reading is = ap (read_records reading) records ∙ ap (λ (l : Label). outermost (global_with l) ∷ []) (is.agrees label m ∙ empty)

  objects_read : (reading : T → Label) → IsReading made meaning store reading → read_heap reading w.heap ≡ unlabelled_heap (first_heap set program)
  objects_read reading is = ap (read_heap reading) objects ∙ read_with reading label (first_heap set program) ∙ made_as (reading label) (first_heap set program) ∙ ap (λ (l : Label). made_objects l (first_heap set program)) (is.agrees label m ∙ empty)

  pub starts : (tables : Tables) (inputs : Given) (reading : T → Label) → IsReading made meaning store reading → w.positions.items ≡ replicate (length tables.inputs) 0 → (turns : ℕ) → state_of reading w [] turns ≡ start tables inputs set program turns
  starts tables inputs reading is positions turns =
      let s = state_of reading w [] turns in
      ap (λ (fs : List Frame). record s { frames = fs }) (read_all made meaning store reading w.frames.frames is frames.labels ∙ root)
      ∙ ap₂ (λ (h : List (Object Label)) (rs : List (Record (Labelled Label))). record s { frames = pushed kind.Root bottom ∷ []; heap = h; records = rs }) (objects_read reading is) (records_read reading is)
      ∙ ap (λ (ps : List ℕ). record s { frames = pushed kind.Root bottom ∷ []; heap = unlabelled_heap (first_heap set program); records = outermost (global_with bottom) ∷ []; positions = ps }) positions

  pub start_belongs : (all : PlainObjects T) → all ≡ record { label = label; objects = first_heap set program } → IsStarted all.objects → Belongs made meaning store w
  start_belongs all is started = record {
    frames = frames;
    catch = root_alone (meaning store) w.frames.frames root;
    heap = subst (λ (h : List (Object T)). HasHeap (made store) h) (sym objects) (has_objects (made store) label m (first_heap set program));
    records = subst (λ (rs : List (Record (Labelled T))). HasRecords (made store) rs) (sym records) (outermost_made (made store) label m);
    started = subst (λ (h : List (Object T)). length start_heap ≤ length h) (sym objects) (subst (λ n. length start_heap ≤ n) (sym (length_with label (first_heap set program))) (subst (λ (h : PlainObjects T). length start_heap ≤ length h.objects) is started.many));
  }
