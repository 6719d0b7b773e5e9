-- The objects of literals, in a reading of the labels.
use Rattle.std.proofs.Common.{arith, ◌≡◌, ◌≤◌, ℕ, zero, suc, Bool, true, false, List, [], ◌∷◌, ◌++◌, map, length, Option, Some, None, IsSome, Result, Ok, Err, IfOk, refl, sym, ap, ap₂, subst, set, ◌∙◌, if◌then◌else◌}
use Rattle.std.specs.List.{slice_get, All}
use Rattle.std.specs.Option.{option_map}
use Rattle.std.specs.Result.{IsErrAnd, IfErr}
use Rattle.std.proofs.lemmas.List.Elements.{All-append}
use Rattle.std.proofs.lemmas.Bool.{false≢true}
use Rattle.std.proofs.lemmas.Option.{none-some, same_Some, slice_get-map}
use Rattle.std.proofs.lemmas.List.{length-map, map-append}
use Rattle.origin_labels.specs.Label.{Label, IsLabel, bottom, union, within}
use Rattle.origin_labels.specs.Names.{same_name}
use Rattle.origin_labels.specs.Stores.{IsKept}
use Rattle.origin_labels.proofs.LabelLaws.{IsLabel-bottom, IsLabel-union, union-assoc, union-bottom, union-comm, within-refl, within-union_right}
use Rattle.flow_frames.specs.declared.faults.FlowFault.{FlowFault}
use Rattle.flow_frames.specs.declared.faults.FlowFault.TheVariants as fault
use Rattle.flow_frames.specs.declared.faults.Rule.TheVariants.{W2, W3, W6}
use Rattle.flow_frames.specs.Frames.{context}
use Rattle.flow_frames.specs.Held.{seen, seen_frame}
use Rattle.flow_policy.specs.Policies.{Tables}
use Rattle.flow_policy.specs.Inputs.{Given}
use Rattle.js_values.specs.declared.ids.ObjId.{ObjId}
use Rattle.js_values.specs.declared.inner.Class.TheVariants as class
use Rattle.js_values.specs.declared.inner.Inner.TheVariants.{Plain}
use Rattle.js_values.specs.declared.property.Body.{Body}
use Rattle.js_values.specs.declared.property.Marks.{Marks}
use Rattle.js_values.specs.declared.property.Slot.{Slot}
use Rattle.js_values.specs.declared.value.Labelled.{Labelled}
use Rattle.js_values.specs.declared.value.Value.{Value}
use Rattle.js_values.specs.declared.value.Value.TheVariants as value
use Rattle.js_values.specs.Objects.{Rows, Object, own, changed, with_row, fresh_object}
use Rattle.js_values.specs.Readings.{IsReading, HasHeap, HasObject, HasValue, read_value, read_slot, read_object, read_heap}
use Rattle.js_values.proofs.ReadingLaws.{IsReading-earlier}
use Rattle.object_heap.specs.Acts.{Acted, new_object, with_rows, with_body, with_marks, put_back, on_object, on_slot, under, overwrite_own, set_own_attributes, set_attributes, set_body, add_own, add_absent, added}
use Rattle.object_heap.specs.Acts as heap_acts
use Rattle.object_heap.specs.Answers as answers
use Rattle.object_heap.specs.Formed.{own_in}
use Rattle.object_heap.proofs.ReadLaws.{read_own}
use Rattle.es_meaning.specs.Objects as plain_objects
use Rattle.es_meaning.specs.Operations.{Part, as_value, as_getter, as_setter, object_of}
use Rattle.es_meaning.specs.Outcomes.{Goes}
use Rattle.es_meaning.specs.Requested.{part_body, part_marks}
use Rattle.es_meaning.specs.Start.{id, object_prototype}
use Rattle.flow_meaning.specs.Scopes.{Val, L}
use Rattle.flow_meaning.specs.Requested.{half_label, literal_object, part_slot, property_in, with_part, with_parts}
use Rattle.flow_meaning.specs.Tracked.{act, make_object}
use Rattle.run_state.specs.declared.outcome.Outcome.{Outcome}
use Rattle.run_state.specs.declared.outcome.Outcome.TheVariants as outcome
use Rattle.run_state.specs.declared.world.World.{World}
use Rattle.run_state.specs.Acts.{Acts, HasAnswer}
use Rattle.run_state.specs.Worlds.{state_of, Belongs}
use Rattle.run_state.proofs.ActLaws.{Belongs-later}
use Rattle.property_access.proofs.Reading.{read_frames}
use Rattle.property_access.proofs.ObjectLaws.{with_heap}
use Rattle.prototype_walk.specs.Answers.{Means}
use Rattle.step_objects.specs.declared.literals.Part as literals
use Rattle.step_objects.specs.declared.literals.LiteralPart.{LiteralPart}
use Rattle.step_objects.specs.Literals.{Does, IsLiteral, body_over, defined_on, defined_over, is_done, keys_in, kind_of, label_over, literal_in, redefined, then_acted, values_in}

-- ---- properties that were made in a context

pub record MadeIn (c : Label) (s : Slot Label) : Type 0 where
  pub existence : s.existence ≡ c
  pub label : IsLabel s.label

abbrev AreMadeIn : Label → Rows (Slot Label) → Type 0
AreMadeIn c [] = Unit {0}
AreMadeIn c (r ∷ rows) = MadeIn c r.1 × AreMadeIn c rows

module _ (c : Label) where
  own_made_at : (r : List ℕ × Slot Label) (s : Slot Label) (rest : Option (Slot Label)) (test : Bool) → MadeIn c r.1 → (rest ≡ Some s → MadeIn c s) → (if test then Some r.1 else rest) ≡ Some s → MadeIn c s
  own_made_at r s rest true here behind is = subst (MadeIn c) (same_Some r.1 s is) here
  own_made_at r s rest false here behind is = behind is

  own_made : (key : List ℕ) (rows : Rows (Slot Label)) (s : Slot Label) → AreMadeIn c rows → own key rows ≡ Some s → MadeIn c s
  own_made key [] s m is = absurd (none-some s is)
  own_made key (r ∷ rows) s m is = own_made_at r s (own key rows) (same_name r.0 key) m.0 (λ there. own_made key rows s m.1 there) is

  with_row_made : (key : List ℕ) (s : Slot Label) (rows : Rows (Slot Label)) → MadeIn c s → AreMadeIn c rows → AreMadeIn c (with_row key s rows)
  with_row_made key s [] here m = (here, tt)
  with_row_made key s (r ∷ rows) here m = (m.0, with_row_made key s rows here m.1)

  changed_made_at : (r : List ℕ × Slot Label) (s : Slot Label) (rows rest : Rows (Slot Label)) (test : Bool) → MadeIn c s → AreMadeIn c (r ∷ rows) → AreMadeIn c rest → AreMadeIn c (if test then (r.0, s) ∷ rows else r ∷ rest)
  changed_made_at r s rows rest true here m behind = (here, m.1)
  changed_made_at r s rows rest false here m behind = (m.0, behind)

  changed_made : (key : List ℕ) (s : Slot Label) (rows : Rows (Slot Label)) → MadeIn c s → AreMadeIn c rows → AreMadeIn c (changed key (λ x. s) rows)
  changed_made key s [] here m = tt
  changed_made key s (r ∷ rows) here m = changed_made_at r s rows (changed key (λ x. s) rows) (same_name r.0 key) here m (changed_made key s rows here m.1)

  defined_over_made : (o : Option (Slot Label)) (key : List ℕ) (s : Slot Label) (rows : Rows (Slot Label)) → MadeIn c s → AreMadeIn c rows → AreMadeIn c (plain_objects.defined_over o key s rows)
  defined_over_made None key s rows here m = with_row_made key s rows here m
  defined_over_made (Some q) key s rows here m = changed_made key s rows here m

  -- a part's property
  half_made : (kind : Part) (o : Option (Slot Label)) → ((s : Slot Label) → o ≡ Some s → MadeIn c s) → IsLabel (half_label kind o)
  half_made as_value o m = IsLabel-bottom
  half_made as_getter None m = IsLabel-bottom
  half_made as_getter (Some s) m = (m s refl).label
  half_made as_setter None m = IsLabel-bottom
  half_made as_setter (Some s) m = (m s refl).label

  part_made : (kind : Part) (key : List ℕ) (v : Val) (rows : Rows (Slot Label)) → AreMadeIn c rows → AreMadeIn c (with_part c kind key v rows)
  part_made kind key v rows m =
      let half = half_label kind (own key rows) in
      defined_over_made (own key rows) key (part_slot c kind (own key rows) v) rows (record { existence = refl; label = IsLabel-union (union v.label c) half (half_made kind (own key rows) (λ s is. own_made key rows s m is)) }) m

-- ---- rows that are changed

own_changed_at : (f : Slot Label → Slot Label) (key : List ℕ) (r : List ℕ × Slot Label) (s : Slot Label) (rows rest : Rows (Slot Label)) (test : Bool) → same_name r.0 key ≡ test → (own key rows ≡ Some s → own key rest ≡ Some (f s)) → (if test then Some r.1 else own key rows) ≡ Some s → own key (if test then (r.0, f r.1) ∷ rows else r ∷ rest) ≡ Some (f s)
own_changed_at f key r s rows rest true same behind is = ap (λ b. if b then Some (f r.1) else own key rows) same ∙ ap (λ x. Some (f x)) (same_Some r.1 s is)
own_changed_at f key r s rows rest false same behind is = ap (λ b. if b then Some r.1 else own key rest) same ∙ behind is

own_changed : (f : Slot Label → Slot Label) (key : List ℕ) (s : Slot Label) (rows : Rows (Slot Label)) → own key rows ≡ Some s → own key (changed key f rows) ≡ Some (f s)
own_changed f key s [] is = absurd (none-some s is)
own_changed f key s (r ∷ rows) is = own_changed_at f key r s rows (changed key f rows) (same_name r.0 key) refl (λ there. own_changed f key s rows there) is

changed_twice_at : (f h : Slot Label → Slot Label) (key : List ℕ) (r : List ℕ × Slot Label) (rows : Rows (Slot Label)) (test : Bool) → same_name r.0 key ≡ test → changed key f (changed key h rows) ≡ changed key (λ x. f (h x)) rows
    → changed key f (if test then (r.0, h r.1) ∷ rows else r ∷ changed key h rows) ≡ (if test then (r.0, f (h r.1)) ∷ rows else r ∷ changed key (λ x. f (h x)) rows)
changed_twice_at f h key r rows true same rest = ap (λ b. if b then (r.0, f (h r.1)) ∷ rows else (r.0, h r.1) ∷ changed key f rows) same
changed_twice_at f h key r rows false same rest = ap (λ b. if b then (r.0, f r.1) ∷ changed key h rows else r ∷ changed key f (changed key h rows)) same ∙ ap (λ xs. r ∷ xs) rest

changed_twice : (f h : Slot Label → Slot Label) (key : List ℕ) (rows : Rows (Slot Label)) → changed key f (changed key h rows) ≡ changed key (λ x. f (h x)) rows
changed_twice f h key [] = refl
changed_twice f h key (r ∷ rows) = changed_twice_at f h key r rows (same_name r.0 key) refl (changed_twice f h key rows)

-- a change that gives the property the same gives the same rows
changed_alike_at : (to new : Slot Label → Slot Label) (s : Slot Label) (r : List ℕ × Slot Label) (rows xs ys : Rows (Slot Label)) (rest : Option (Slot Label)) (test : Bool) → to s ≡ new s → (if test then Some r.1 else rest) ≡ Some s → (rest ≡ Some s → xs ≡ ys)
    → (if test then (r.0, to r.1) ∷ rows else r ∷ xs) ≡ (if test then (r.0, new r.1) ∷ rows else r ∷ ys)
changed_alike_at to new s r rows xs ys rest true same is behind = ap (λ (x : Slot Label). (r.0, x) ∷ rows) (subst (λ (x : Slot Label). to x ≡ new x) (sym (same_Some r.1 s is)) same)
changed_alike_at to new s r rows xs ys rest false same is behind = ap (λ zs. r ∷ zs) (behind is)

changed_alike : (key : List ℕ) (to new : Slot Label → Slot Label) (s : Slot Label) (rows : Rows (Slot Label)) → to s ≡ new s → own key rows ≡ Some s → changed key to rows ≡ changed key new rows
changed_alike key to new s [] same is = absurd (none-some s is)
changed_alike key to new s (r ∷ rows) same is = changed_alike_at to new s r rows (changed key to rows) (changed key new rows) (own key rows) (same_name r.0 key) same is (λ there. changed_alike key to new s rows same there)

-- ---- the last object of a heap

last_there : (before : List (Object Label)) (p : Object Label) → slice_get (before ++ p ∷ []) (length before) ≡ Some p
last_there [] p = refl
last_there (b ∷ before) p = last_there before p

last_set : (before : List (Object Label)) (p q : Object Label) → set (before ++ p ∷ []) (length before) q ≡ before ++ q ∷ []
last_set [] p q = refl
last_set (b ∷ before) p q = ap (λ xs. b ∷ xs) (last_set before p q)

-- ---- one more property of a literal

abbrev object_with : Label → Rows (Slot Label) → Object Label
object_with c rows = record (fresh_object class.Object Plain (Some object_prototype) c c) { rows = rows }

-- the attributes that a property had don't matter
same_body : (kind : Part) (s : Slot Label) (v : Value) → body_over kind s.body v ≡ part_body kind (property_in (Some s)) v
same_body as_value s v = refl
same_body as_getter s v = refl
same_body as_setter s v = refl

-- where nothing is joined the half has no label
no_half : (kind : Part) → half_label kind None ≡ bottom
no_half as_value = refl
no_half as_getter = refl
no_half as_setter = refl

-- the need of the literal is joined last
joined_last : (kind : Part) (given c : Label) (s : Slot Label) → IsLabel c → IsLabel s.label → union (label_over kind given s.label) c ≡ union (union given c) (half_label kind (Some s))
joined_last as_value given c s is old = sym (union-bottom (union given c) (IsLabel-union given c is))
joined_last as_getter given c s is old = union-assoc given s.label c is ∙ ap (union given) (union-comm s.label c old is) ∙ sym (union-assoc given c s.label old)
joined_last as_setter given c s is old = union-assoc given s.label c is ∙ ap (union given) (union-comm s.label c old is) ∙ sym (union-assoc given c s.label old)

module _ (before : List (Object Label)) (c : Label) (is_label : IsLabel c) (rows : Rows (Slot Label)) (made : AreMadeIn c rows) (kind : Part) (key : List ℕ) (v : Val) where
  abbrev at_end : Rows (Slot Label) → List (Object Label)
  at_end xs = before ++ object_with c xs ∷ []

  abbrev Defines : Option (Slot Label) → Type 0
  Defines o = defined_over o (length before) kind key c v (at_end rows) ≡ Ok (at_end (plain_objects.defined_over o key (part_slot c kind o v) rows))

  put : (xs : Rows (Slot Label)) (q : Object Label) (r : Acted (Object Label)) → r ≡ Ok q → put_back (at_end xs) (length before) r ≡ Ok (before ++ q ∷ [])
  put xs q r is = ap (put_back (at_end xs) (length before)) is ∙ ap Ok (last_set before (object_with c xs) q)

  adds : own key rows ≡ None → Defines None
  adds none =
      let p = object_with c rows in
      let body = part_body kind None v.value in
      let q = object_with c (with_row key (added c body v.label (part_marks kind) c) rows) in
      ap (λ x. on_object x (at_end rows) (length before) (add_own key c body v.label (part_marks kind))) (last_there before p)
      ∙ put rows q (add_own key c body v.label (part_marks kind) p)
      (ap (λ x. add_absent x key c body v.label (part_marks kind) p) none
      ∙ ap (λ b. if b then Ok q else Err (record { rule = W3; need = c; have = c })) (within-refl c))
      ∙ ap (λ (l : Label). Ok (at_end (with_row key (record { body = body; label = l; existence = c; marks = part_marks kind }) rows)))
      (sym (ap (union (union v.label c)) (no_half kind) ∙ union-bottom (union v.label c) (IsLabel-union v.label c is_label)))

  -- other attributes, and then another body
  marked : (s : Slot Label) → own key rows ≡ Some s → set_attributes (length before) key c (part_marks kind) (at_end rows) ≡ Ok (at_end (changed key (with_marks (part_marks kind)) rows))
  marked s has =
      let p = object_with c rows in
      let q = with_rows p (changed key (with_marks (part_marks kind)) rows) in
      ap (λ x. on_object x (at_end rows) (length before) (set_own_attributes key c (part_marks kind))) (last_there before p)
      ∙ put rows q (set_own_attributes key c (part_marks kind) p)
      (ap (λ x. on_slot x p (λ t. under W6 c t.existence (Ok q))) has
      ∙ ap (λ b. if b then Ok q else Err (record { rule = W6; need = c; have = s.existence })) (ap (within c) (own_made c key rows s made has).existence ∙ within-refl c))

  overwritten : (xs : Rows (Slot Label)) (s : Slot Label) (body : Body) (label : Label) → s.existence ≡ c → own key xs ≡ Some s → set_body (length before) key c body label (at_end xs) ≡ Ok (at_end (changed key (with_body c body label) xs))
  overwritten xs s body label exists has =
      let p = object_with c xs in
      let q = with_rows p (changed key (with_body c body label) xs) in
      ap (λ x. on_object x (at_end xs) (length before) (overwrite_own W2 key c body label)) (last_there before p)
      ∙ put xs q (overwrite_own W2 key c body label p)
      (ap (λ x. on_slot x p (λ t. under W2 c (union t.label t.existence) (Ok q))) has
      ∙ ap (λ b. if b then Ok q else Err (record { rule = W2; need = c; have = union s.label s.existence })) (ap (λ e. within c (union s.label e)) exists ∙ within-union_right s.label c))

  redefines : (s : Slot Label) → own key rows ≡ Some s → Defines (Some s)
  redefines s has =
      let m = own_made c key rows s made has in
      let body = body_over kind s.body v.value in
      let label = label_over kind v.label s.label in
      let marks = with_marks (part_marks kind) in
      let over = with_body c body label in
      ap (λ a. then_acted a (set_body (length before) key c body label)) (marked s has)
      ∙ overwritten (changed key marks rows) (marks s) body label m.existence (own_changed marks key s rows has)
      ∙ ap (λ xs. Ok (at_end xs))
      (changed_twice over marks key rows
      ∙ changed_alike key (λ x. over (marks x)) (λ x. part_slot c kind (Some s) v) s rows
      (ap₂ (λ (l e : Label). record { body = body; label = l; existence = e; marks = part_marks kind }) (joined_last kind v.label c s is_label m.label) m.existence ∙ ap (λ b. record (part_slot c kind (Some s) v) { body = b }) (same_body kind s v.value)) has)

  defines : (o : Option (Slot Label)) → own key rows ≡ o → Defines o
  defines None is = adds is
  defines (Some s) is = redefines s is

  pub one_defined : defined_on (length before) kind key c v (at_end rows) ≡ Ok (at_end (with_part c kind key v rows))
  one_defined =
      ap (λ p. defined_over (own_in key p) (length before) kind key c v (at_end rows)) (last_there before (object_with c rows))
      ∙ defines (own key rows) refl

-- ---- all properties of a literal

module _ {T : Type 0} (reading : T → Label) (c : Label) (is_label : IsLabel c) where
  all_made : (ps : List (LiteralPart T)) (rows : Rows (Slot Label)) → AreMadeIn c rows → AreMadeIn c (with_parts c (keys_in ps) (values_in reading ps) rows)
  all_made [] rows m = m
  all_made (p ∷ ps) rows m = all_made ps (with_part c (kind_of p.part) p.key (read_value reading p.value) rows) (part_made c (kind_of p.part) p.key (read_value reading p.value) rows m)

  one_more : (ps : List (LiteralPart T)) (p : LiteralPart T) (rows : Rows (Slot Label)) → with_parts c (keys_in (ps ++ p ∷ [])) (values_in reading (ps ++ p ∷ [])) rows ≡ with_part c (kind_of p.part) p.key (read_value reading p.value) (with_parts c (keys_in ps) (values_in reading ps) rows)
  one_more [] p rows = refl
  one_more (q ∷ ps) p rows = one_more ps p (with_part c (kind_of q.part) q.key (read_value reading q.value) rows)

  pub literal_defined : (before : List (Object Label)) (ps : List (LiteralPart T)) (p : LiteralPart T)
      → defined_on (length before) (kind_of p.part) p.key c (read_value reading p.value) (before ++ literal_object (keys_in ps) (values_in reading ps) c ∷ [])
      ≡ Ok (before ++ literal_object (keys_in (ps ++ p ∷ [])) (values_in reading (ps ++ p ∷ [])) c ∷ [])
  literal_defined before ps p =
      one_defined before c is_label (with_parts c (keys_in ps) (values_in reading ps) []) (all_made ps [] tt) (kind_of p.part) p.key (read_value reading p.value)
      ∙ ap (λ rows. Ok (before ++ object_with c rows ∷ [])) (sym (one_more ps p []))

-- ---- the calls

abbrev heap_or : List (Object Label) → Acted (List (Object Label)) → List (Object Label)
heap_or heap (Ok h) = h
heap_or heap (Err stop) = heap

module _ {S T : Type 0} (made : S → T → Type 0) (meaning : S → T → Label) (room : S → ℕ) (firm : S → Bool) (old new : S) (kept : IsKept made meaning room firm old new) (before heap after : List (Object T)) (label : T) (context_made : made new label) (rising : IsLabel (meaning new label)) (ps : List (LiteralPart T)) (p : LiteralPart T) (o : ℕ)
    (number : o ≡ length before) (literal : IsLiteral made meaning old before heap label ps) where
  defined_here : (reading : T → Label) → IsReading made meaning new reading
      → defined_on o (kind_of p.part) p.key (reading label) (read_value reading p.value) (read_heap reading heap) ≡ Ok (read_heap reading before ++ literal_in reading (ps ++ p ∷ []) label ∷ [])
  defined_here reading read =
      ap₂ (λ n h. defined_on n (kind_of p.part) p.key (reading label) (read_value reading p.value) h) (number ∙ sym (length-map before (read_object reading))) (literal.is reading (IsReading-earlier made meaning room firm old new reading kept read))
      ∙ literal_defined reading (reading label) (subst IsLabel (sym (read.agrees label context_made)) rising) (read_heap reading before) ps p

  abbrev Defined : Result (Unit {0}) (FlowFault T) → Type 0
  Defined result = Does made meaning new (λ reading. defined_on o (kind_of p.part) p.key (reading label) (read_value reading p.value)) heap after result

  pub literal_more : (result : Result (Unit {0}) (FlowFault T)) → result ≡ Ok tt → Defined result → IsLiteral made meaning new before after label (ps ++ p ∷ [])
  literal_more result ok acts = record { is = λ reading read. ap (heap_or []) (sym ((subst Defined ok acts).does reading read) ∙ defined_here reading read) }

  no_stop : (f : FlowFault T) → Defined (Err f) → f ≡ fault.OutOfMemory
  no_stop (fault.Stop stop) acts =
      let read : IsReading made meaning new (meaning new) = record { agrees = λ l m. refl } in
      absurd (false≢true (sym (acts.stops (meaning new) read) ∙ ap is_done (defined_here (meaning new) read)))
  no_stop fault.OutOfMemory acts = refl

  pub literal_stops : (result : Result (Unit {0}) (FlowFault T)) (f : FlowFault T) → result ≡ Err f → Defined result → f ≡ fault.OutOfMemory
  literal_stops result f err acts = no_stop f (subst Defined err acts)

pub literal_begun : {S T : Type 0} (made : S → T → Type 0) (meaning : S → T → Label) (store : S) (before heap : List (Object T)) (label : T) → heap ≡ new_object class.Object (Some object_prototype) label label Plain before → IsLiteral made meaning store before heap label []
literal_begun made meaning store before heap label more = record {
  is = λ reading read. ap (read_heap reading) more ∙ map-append (read_object reading) before (fresh_object class.Object Plain (Some object_prototype) label label ∷ []);
}

-- ---- whether the object has the key, in a reading

own_alike : {T : Type 0} (reading : T → Label) (key : List ℕ) (p : Option (Object T)) → own_in key (option_map (read_object reading) p) ≡ option_map (read_slot reading) (own_in key p)
own_alike reading key None = refl
own_alike reading key (Some p) = read_own reading key p.rows

pub read_own_in : {T : Type 0} (reading : T → Label) (key : List ℕ) (heap : List (Object T)) (o : ℕ) → own_in key (slice_get (read_heap reading heap) o) ≡ option_map (read_slot reading) (own_in key (slice_get heap o))
read_own_in reading key heap o = ap (own_in key) (slice_get-map (read_object reading) heap o) ∙ own_alike reading key (slice_get heap o)

-- ---- the act

module _ {S T : Type 0} (made : S → T → Type 0) (meaning : S → T → Label) (room : S → ℕ) (firm : S → Bool) (old new : S) (kept : IsKept made meaning room firm old new) (w : World T) (belongs : Belongs made meaning old w) where
  pub literal_made : (tables : Tables) (inputs : Given) (heap : List (Object T)) (ps : List (LiteralPart T)) (o : ObjId) (label none : T) → o.0 ≡ length w.heap → made old label → meaning old label ≡ context (seen meaning old w.frames.frames) → IsLiteral made meaning new w.heap heap label ps → made new none → meaning new none ≡ bottom
      → Acts made meaning new (λ reading. read_value reading) (λ reading. act tables inputs (object_of (keys_in ps)) (values_in reading ps)) w (with_heap heap w) (Ok (outcome.Goes (record { value = value.Object o; label = none })))
  unfolding act make_object
  literal_made tables inputs heap ps o label none number m is literal n empty = record {
    says = λ reading read told turns.
        let s = state_of reading w told turns in
        let earlier = IsReading-earlier made meaning room firm old new reading kept read in
        let here : context (map (seen_frame reading) w.frames.frames) ≡ reading label = ap context (read_frames made meaning old reading w.frames.frames earlier belongs.frames) ∙ sym is ∙ sym (earlier.agrees label m) in
        ap₂ (λ k c. Goes (record { value = value.Object (id k); label = bottom }) (record s { heap = s.heap ++ literal_object (keys_in ps) (values_in reading ps) c ∷ [] })) (length-map w.heap (read_object reading) ∙ sym number) here
        ∙ ap₂ (λ (l : Label) (h : List (Object Label)). Goes (record { value = value.Object o; label = l }) (record s { heap = h })) (sym (read.agrees none n ∙ empty)) (sym (literal.is reading read));
  }

  -- a world with more objects belongs to a later store, if its heap does
  pub belongs_grown : ((store : S) (label : T) → made store label → IsLabel (meaning store label)) → (heap : List (Object T)) → HasHeap (made new) heap → length w.heap ≤ length heap → Belongs made meaning new (with_heap heap w)
  belongs_grown rising heap has more =
      let later = Belongs-later made meaning room firm old new kept rising w belongs in
      record { frames = later.frames; catch = later.catch; heap = has; records = later.records; started = let started = belongs.started in omega (arith, started, more) }

-- ---- one property, by what the object has of the key

module _ {S T : Type 0} (made : S → T → Type 0) (meaning : S → T → Label) (store : S) where
  -- what is done as an act on the heap
  pub does_acts : (act : (T → Label) → List (Object Label) → Acted (List (Object Label))) (heap after : List (Object T)) (result : Result (Unit {0}) (FlowFault T)) → answers.Acts made meaning store read_heap act heap after result → Does made meaning store act heap after result
  does_acts act heap after (Ok u) acts = record { does = acts.does; stops = tt }
  does_acts act heap after (Err (fault.Stop stop)) acts = record { does = tt; stops = λ reading read. ap is_done (acts.stops.2 reading read) }
  does_acts act heap after (Err fault.OutOfMemory) acts = record { does = tt; stops = tt }

  pub does_as : (act other : (T → Label) → List (Object Label) → Acted (List (Object Label))) (heap after : List (Object T)) (result : Result (Unit {0}) (FlowFault T)) → ((reading : T → Label) → IsReading made meaning store reading → other reading (read_heap reading heap) ≡ act reading (read_heap reading heap))
      → Does made meaning store act heap after result → Does made meaning store other heap after result
  does_as act other heap after (Ok u) same acts = record { does = λ reading read. same reading read ∙ acts.does reading read; stops = tt }
  does_as act other heap after (Err (fault.Stop stop)) same acts = record { does = tt; stops = λ reading read. ap is_done (same reading read) ∙ acts.stops reading read }
  does_as act other heap after (Err fault.OutOfMemory) same acts = record { does = tt; stops = tt }

  module _ (heap after : List (Object T)) (o : ℕ) (kind : Part) (key : List ℕ) (context : T) (v : Labelled T) where
    abbrev defining : (T → Label) → List (Object Label) → Acted (List (Object Label))
    defining reading = defined_on o kind key (reading context) (read_value reading v)

    by_own : (reading : T → Label) (q : Option (Slot T)) → own_in key (slice_get heap o) ≡ q → defining reading (read_heap reading heap) ≡ defined_over (option_map (read_slot reading) q) o kind key (reading context) (read_value reading v) (read_heap reading heap)
    by_own reading q is = ap (λ s. defined_over s o kind key (reading context) (read_value reading v) (read_heap reading heap)) (read_own_in reading key heap o ∙ ap (option_map (read_slot reading)) is)

    pub defines_absent : (body : Body) (marks : Marks) (result : Result (Unit {0}) (FlowFault T)) → own_in key (slice_get heap o) ≡ None → body ≡ part_body kind None v.value → marks ≡ part_marks kind
        → answers.Acts made meaning store read_heap (λ reading. heap_acts.add o key (reading context) body (reading v.label) marks) heap after result → Does made meaning store defining heap after result
    defines_absent body marks result none holds marked acts =
        does_as (λ reading. heap_acts.add o key (reading context) body (reading v.label) marks) defining heap after result
        (λ reading read. by_own reading None none ∙ ap₂ (λ b m. heap_acts.add o key (reading context) b (reading v.label) m (read_heap reading heap)) (sym holds) (sym marked))
        (does_acts (λ reading. heap_acts.add o key (reading context) body (reading v.label) marks) heap after result acts)

    pub defines_present : (slot : Slot T) (body : Body) (marks : Marks) (label : T) (result : Result (Unit {0}) (FlowFault T)) → own_in key (slice_get heap o) ≡ Some slot → body ≡ body_over kind slot.body v.value → marks ≡ part_marks kind
        → Means made meaning store label (λ reading. label_over kind (reading v.label) (reading slot.label))
        → Does made meaning store (λ reading. redefined o key (reading context) marks body (reading label)) heap after result → Does made meaning store defining heap after result
    defines_present slot body marks label result some holds marked means acts =
        does_as (λ reading. redefined o key (reading context) marks body (reading label)) defining heap after result
        (λ reading read.
        by_own reading (Some slot) some
        ∙ ap₂ (λ b m. redefined o key (reading context) m b (label_over kind (reading v.label) (reading slot.label)) (read_heap reading heap)) (sym holds) (sym marked)
        ∙ ap (λ l. redefined o key (reading context) marks body l (read_heap reading heap)) (sym (means.is reading read)))
        acts

-- ---- the label, by the kind of the part

module _ {S T : Type 0} (made : S → T → Type 0) (meaning : S → T → Label) (store : S) where
  pub over_means : (label given old : T) (kind this : literals.Part) → kind ≡ this → Means made meaning store label (λ reading. label_over (kind_of this) (reading given) (reading old)) → Means made meaning store label (λ reading. label_over (kind_of kind) (reading given) (reading old))
  over_means label given old kind this is means = subst (λ k. Means made meaning store label (λ reading. label_over (kind_of k) (reading given) (reading old))) (sym is) means

  pub over_means_if : {E : Type 0} (given old : T) (kind this : literals.Part) → kind ≡ this → (result : Result T E) → IfOk result (λ label. Means made meaning store label (λ reading. label_over (kind_of this) (reading given) (reading old))) → IfOk result (λ label. Means made meaning store label (λ reading. label_over (kind_of kind) (reading given) (reading old)))
  over_means_if given old kind this is (Ok label) means = over_means label given old kind this is means
  over_means_if given old kind this is (Err e) means = tt

-- ---- other attributes and then another body

set_there : {X : Type 0} (xs : List X) (i : ℕ) (x p : X) → slice_get xs i ≡ Some p → slice_get (set xs i x) i ≡ Some x
set_there [] i x p is = absurd (none-some p is)
set_there (y ∷ ys) zero x p is = refl
set_there (y ∷ ys) (suc i) x p is = set_there ys i x p is

abbrev stopped_marks : Label → Label → Acted (Object Label)
stopped_marks need have = Err (record { rule = W6; need = need; have = have })

module _ (heap after : List (Object Label)) (o : ℕ) (key : List ℕ) (need : Label) (marks : Marks) where
  still_by : (p : Object Label) (s : Slot Label) (test : Bool) → slice_get heap o ≡ Some p → own key p.rows ≡ Some s
      → put_back heap o (if test then Ok (with_rows p (changed key (with_marks marks) p.rows)) else stopped_marks need s.existence) ≡ Ok after → IsSome (own_in key (slice_get after o))
  still_by p s true here has is =
      let q = with_rows p (changed key (with_marks marks) p.rows) in
      subst IsSome (sym (ap (λ h. own_in key (slice_get (heap_or [] h) o)) (sym is) ∙ ap (own_in key) (set_there heap o q p here) ∙ own_changed (with_marks marks) key s p.rows has)) refl
  still_by p s false here has is = absurd (false≢true (ap is_done is))

  still_own : (p : Object Label) (s : Option (Slot Label)) → slice_get heap o ≡ Some p → own key p.rows ≡ s → IsSome s → on_object (Some p) heap o (set_own_attributes key need marks) ≡ Ok after → IsSome (own_in key (slice_get after o))
  still_own p None here has some is = absurd (false≢true some)
  still_own p (Some s) here has some is =
      still_by p s (within need s.existence) here has (ap (λ x. put_back heap o (on_slot x p (λ t. under W6 need t.existence (Ok (with_rows p (changed key (with_marks marks) p.rows)))))) (sym has) ∙ is)

  still_there : (q : Option (Object Label)) → slice_get heap o ≡ q → IsSome (own_in key q) → on_object q heap o (set_own_attributes key need marks) ≡ Ok after → IsSome (own_in key (slice_get after o))
  still_there None here some is = absurd (false≢true some)
  still_there (Some p) here some is = still_own p (own key p.rows) here refl some is

is_some_read : {A B : Type 0} (f : A → B) (o : Option A) → IsSome (option_map f o) → IsSome o
is_some_read f None some = some
is_some_read f (Some a) some = refl

some_read : {A B : Type 0} (f : A → B) (o : Option A) → IsSome o → IsSome (option_map f o)
some_read f None some = some
some_read f (Some a) some = refl

module _ {S T : Type 0} (made : S → T → Type 0) (meaning : S → T → Label) (heap middle after : List (Object T)) (o : ℕ) (key : List ℕ) (need : T) (marks : Marks) where
  abbrev Marks_set : S → Result (Unit {0}) (FlowFault T) → Type 0
  Marks_set store result = answers.Acts made meaning store read_heap (λ reading. set_attributes o key (reading need) marks) heap middle result

  pub still_present : (store : S) (result : Result (Unit {0}) (FlowFault T)) → result ≡ Ok tt → Marks_set store result → IsSome (own_in key (slice_get heap o)) → IsSome (own_in key (slice_get middle o))
  still_present store result ok acts some =
      let reading = meaning store in
      let done = (subst (Marks_set store) ok acts).does reading (record { agrees = λ l m. refl }) in
      is_some_read (read_slot reading) (own_in key (slice_get middle o))
      (subst IsSome (read_own_in reading key middle o) (still_there (read_heap reading heap) (read_heap reading middle) o key (reading need) marks (slice_get (read_heap reading heap) o) refl (subst IsSome (sym (read_own_in reading key heap o)) (some_read (read_slot reading) (own_in key (slice_get heap o)) some)) done))

  module _ (body : Body) (label : T) where
    abbrev redefining : (T → Label) → List (Object Label) → Acted (List (Object Label))
    redefining reading = redefined o key (reading need) marks body (reading label)

    -- the first call is stopped
    pub redefine_stops : (store : S) (r : Result (Unit {0}) (FlowFault T)) (f : FlowFault T) (result : Result (Unit {0}) (FlowFault T)) → r ≡ Err f → IsErrAnd result (λ e. e ≡ f) → Marks_set store r → Does made meaning store redefining heap middle result
    redefine_stops store r f (Ok u) err is acts = absurd is
    redefine_stops store r f (Err e) err is acts = stopped_by e (subst (Marks_set store) (err ∙ ap Err (sym is)) acts)
      where
        stopped_by : (e : FlowFault T) → Marks_set store (Err e) → Does made meaning store redefining heap middle (Err e)
        stopped_by (fault.Stop stop) a = record { does = tt; stops = λ reading read. ap (λ x. is_done (then_acted x (set_body o key (reading need) body (reading label)))) (a.stops.2 reading read) }
        stopped_by fault.OutOfMemory a = record { does = tt; stops = tt }

    -- or it is done, and then the second one
    pub redefine_goes : (room : S → ℕ) (firm : S → Bool) (old new : S) → IsKept made meaning room firm old new → (r : Result (Unit {0}) (FlowFault T)) → r ≡ Ok tt → Marks_set old r → (result : Result (Unit {0}) (FlowFault T))
        → answers.Acts made meaning new read_heap (λ reading. set_body o key (reading need) body (reading label)) middle after result → Does made meaning new redefining heap after result
    redefine_goes room firm old new kept r ok first result second = behind result (does_acts made meaning new (λ reading. set_body o key (reading need) body (reading label)) middle after result second)
      where
        marked_in : (reading : T → Label) → IsReading made meaning new reading → set_attributes o key (reading need) marks (read_heap reading heap) ≡ Ok (read_heap reading middle)
        marked_in reading read = (subst (Marks_set old) ok first).does reading (IsReading-earlier made meaning room firm old new reading kept read)

        behind : (x : Result (Unit {0}) (FlowFault T)) → Does made meaning new (λ reading. set_body o key (reading need) body (reading label)) middle after x → Does made meaning new redefining heap after x
        behind (Ok u) d = record { does = λ reading read. ap (λ a. then_acted a (set_body o key (reading need) body (reading label))) (marked_in reading read) ∙ d.does reading read; stops = tt }
        behind (Err (fault.Stop stop)) d = record { does = tt; stops = λ reading read. ap (λ a. is_done (then_acted a (set_body o key (reading need) body (reading label)))) (marked_in reading read) ∙ d.stops reading read }
        behind (Err fault.OutOfMemory) d = record { does = tt; stops = tt }

-- ---- the rows that are left

module _ {T : Type 0} (made : T → Type 0) (left rest : List (LiteralPart T)) (r : LiteralPart T) (steps : left ≡ r ∷ rest) (has : All (λ p. HasValue made p.value) left) where
  behind : All (λ p. HasValue made p.value) (r ∷ rest)
  behind = subst (λ (rs : List (LiteralPart T)). All (λ p. HasValue made p.value) rs) steps has

  pub first_has : HasValue made r.value
  first_has = behind 0 r (omega arith)

  pub rest_has : (later : T → Type 0) → ((label : T) → made label → later label) → All (λ p. HasValue later p.value) rest
  rest_has later more k d lt = more _ (behind (suc k) d (omega (arith, lt)))

pub nothing_left : {X : Type 0} (xs : List X) → length xs ≡ 0 → xs ≡ []
nothing_left [] h = refl
nothing_left (x ∷ xs) h = absurd (omega arith)

-- ---- want of memory

pub memory_handed_on : {X T : Type 0} (result : Result X (FlowFault T)) (f : FlowFault T) → IsErrAnd result (λ e. e ≡ f) → f ≡ fault.OutOfMemory → IfErr result (λ e. e ≡ fault.OutOfMemory)
memory_handed_on (Ok x) f is want = tt
memory_handed_on (Err e) f is want = is ∙ want

module _ {S T X Y : Type 0} (made : S → T → Type 0) (meaning : S → T → Label) (store : S) (read : (T → Label) → X → Y) (does : (T → Label) → L Y) (old new : World T) (f : FlowFault T) (want : f ≡ fault.OutOfMemory) where
  pub memory_acts : (result : Result (Outcome X T) (FlowFault T)) → IsErrAnd result (λ e. e ≡ f) → Acts made meaning store read does old new result
  memory_acts (Ok x) is = absurd is
  memory_acts (Err e) is = subst (λ (r : FlowFault T). Acts made meaning store read does old new (Err r)) (sym (is ∙ want)) (record { says = λ reading read told turns. tt })

pub memory_answers : {X T : Type 0} (made : T → Type 0) (f : FlowFault T) (want : f ≡ fault.OutOfMemory) (has : X → Type 0) (result : Result (Outcome X T) (FlowFault T)) → IsErrAnd result (λ e. e ≡ f) → HasAnswer has made result
memory_answers made f want has (Ok x) is = absurd is
memory_answers made f want has (Err e) is = subst (λ (r : FlowFault _). HasAnswer has made (Err r)) (sym (is ∙ want)) tt

-- ---- a new object's labels

all_one : {X : Type 0} (P : X → Type 0) (x : X) → P x → All P (x ∷ [])
all_one P x holds zero d lt = holds
all_one P x holds (suc k) d lt = absurd (omega (arith, lt))

pub begun_has : {T : Type 0} (made : T → Type 0) (before heap : List (Object T)) (label : T) → heap ≡ new_object class.Object (Some object_prototype) label label Plain before → made label → HasHeap made before → HasHeap made heap
begun_has made before heap label more m has =
    subst (HasHeap made) (sym more)
    (All-append (HasObject made) before (fresh_object class.Object Plain (Some object_prototype) label label ∷ []) has (all_one (HasObject made) (fresh_object class.Object Plain (Some object_prototype) label label) (record { inner = tt; link = m; structure = m; rows = λ k d lt. absurd (omega (arith, lt)) })))
