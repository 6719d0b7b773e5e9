-- Functions, what a call begins with, and jumps of a labelled run keep a state of declared origins.
use Rattle.std.proofs.Common.{ℕ, List, length, Option, Some, None}
use Rattle.origin_labels.specs.Label.{Label, bottom}
use Rattle.flow_frames.specs.Frames.{context}
use Rattle.js_values.specs.declared.property.Slot.{Slot}
use Rattle.js_values.specs.Objects.{Object}
use Rattle.js_values.specs.Records.{Bindings}
use Rattle.js_values.specs.Walks.{object_chain}
use Rattle.js_ast.specs.Trees.{Function, name_of, body_of}
use Rattle.js_ast.specs.Functions.{FunctionCode}
use Rattle.es_meaning.specs.Outcomes.{Outcome, Exit}
use Rattle.es_meaning.specs.Environments.{Env, with_place, Leaving}
use Rattle.es_meaning.specs.Operations.{Ty, One, Res}
use Rattle.es_meaning.specs.Naming.{names_in_statements}
use Rattle.es_meaning.specs.Plain.{prototype_name}
use Rattle.flow_meaning.specs.Scopes.{Val, Halt, State, Jump, L, frame_of}
use Rattle.flow_meaning.specs.Tracked.{make_function, with_call, value_found, prototype_of, with_fresh, jumps_to, raises, with_name, in_own_record}
use Rattle.low_equal.proofs.DeclaredLabels as labels
use Rattle.low_equal.proofs.DeclaredLabels.{Each, IfThere, each_push, own_bottom, own_union, own_context, each_append}
use Rattle.low_equal.proofs.DeclaredHeaps as heaps
use Rattle.low_equal.proofs.DeclaredHeaps.{own_chain, own_find, own_made, own_arguments_object, own_made_if}
use Rattle.low_equal.proofs.DeclaredRecords as records
use Rattle.low_equal.proofs.DeclaredRecords.{own_entry, own_own_name, own_labelled, own_joined}
use Rattle.low_equal.proofs.DeclaredStates as states
use Rattle.low_equal.proofs.DeclaredStates.{jump_keeps, frame_keeps, goes}

module _ (count : ℕ) where
  abbrev Own : Label → Type 0
  Own label = labels.Own count label

  abbrev OwnSlot : Slot Label → Type 0
  OwnSlot s = heaps.OwnSlot count s

  abbrev OwnObject : Object Label → Type 0
  OwnObject p = heaps.OwnObject count p

  abbrev OwnHeap : List (Object Label) → Type 0
  OwnHeap heap = heaps.OwnHeap count heap

  abbrev OwnBindings : Bindings Val → Type 0
  OwnBindings bindings = records.OwnBindings count bindings

  abbrev OwnState : State → Type 0
  OwnState s = states.OwnState count s

  abbrev Keeps : {X : Type 0} → (X → Type 0) → Outcome Halt Jump X State → Type 0
  Keeps Q o = states.Keeps count Q o

  abbrev Keeping : {X : Type 0} → (X → Type 0) → L X → Type 0
  Keeping Q m = states.Keeping count Q m

  abbrev OwnVal : Val → Type 0
  OwnVal v = labels.Own count v.label

  abbrev OwnResult : (t : Ty) → Res Val t → Type 0
  OwnResult t a = states.OwnResult count t a

  -- ---- functions

  -- a function is made
  pub function_keeping : (functions : List FunctionCode) (f : Function) (place : ℕ) → Keeping OwnVal (make_function functions f place)
  unfolding make_function
  function_keeping functions f place = record {
    keeps = λ s h.
        let here = own_context count s.frames h.frames in
        goes (own_bottom count) (record {
          frames = h.frames;
          heap = each_append OwnObject s.heap _ h.heap (own_made count (context s.frames) _ here);
          records = each_append (λ r. OwnBindings r.bindings) s.records _ h.records (own_own_name count (name_of f) place _ here);
          lines = h.lines;
        });
  }

  -- ---- calls

  -- a call begins
  pub call_own : (functions : List FunctionCode) (number : ℕ) (f : Function) (place : ℕ) (this : Val) (args : List Val) (s : State) → OwnVal this → Each OwnVal args → OwnState s → OwnState (with_call functions number f place this args s)
  unfolding with_call
  call_own functions number f place this args s p q h =
      let here = own_context count s.frames h.frames in
      record {
        frames = h.frames;
        heap = each_append OwnObject s.heap _ h.heap
            (each_append OwnObject _ _ (own_made count (context s.frames) _ here) (own_made_if count (names_in_statements (body_of f)) _ (own_arguments_object count number (length s.records) args (context s.frames) here q)));
        records = each_push (λ r. OwnBindings r.bindings) s.records _ h.records (own_entry count f _ (record {
          this = p;
          function = own_bottom count;
          args = own_joined count (context s.frames) args here q;
          missing = here;
          functions = own_labelled count (context s.frames) _ here;
          arguments = here;
        }));
        lines = h.lines;
      }

  -- ---- constructions

  -- the prototype that a function gives
  own_value_found : (walk : Label) (f : Option (ℕ × Slot Label)) → Own walk → IfThere (λ x. OwnSlot x.1) f → OwnVal (value_found walk f)
  own_value_found walk None q h = q
  own_value_found walk (Some f) q h = own_union count walk f.1.label q h.0

  -- that of a function
  pub own_prototype : (heap : List (Object Label)) (o : ℕ) → OwnHeap heap → OwnVal (prototype_of heap o)
  own_prototype heap o h = let w = own_find count prototype_name (object_chain heap o) (own_chain count heap o h) in own_value_found _ _ w.walk w.at

  -- what is made
  pub fresh_own : (proto : Val) (s : State) → OwnVal proto → OwnState s → OwnState (with_fresh proto s)
  fresh_own proto s q h =
      let here = own_context count s.frames h.frames in
      record { frames = h.frames; heap = each_push OwnObject s.heap _ h.heap (record { link = own_union count (context s.frames) proto.label here q; structure = here; inner = tt; rows = tt }); records = h.records; lines = h.lines }

  -- ---- jumps, directives and a record with one name

  -- a jump, if it has an aim
  pub jumps_keeping : (o : Option (Exit × ℕ)) (v : Val) → OwnVal v → Keeping (OwnResult One) (jumps_to o v)
  unfolding jumps_to
  jumps_keeping None v q = record { keeps = λ s h. goes tt h }
  jumps_keeping (Some to) v q = record { keeps = λ s h. jump_keeps count (OwnResult One) bottom _ s (own_bottom count) q h }

  -- an upgrade directive
  pub raises_keeping : (leaving : Leaving) (o : Option (Exit × ℕ)) (label : Label) → Own label → Keeping (OwnResult One) (raises leaving o label)
  unfolding raises
  raises_keeping leaving None label q = record { keeps = λ s h. goes tt h }
  raises_keeping leaving (Some to) label q = record { keeps = λ s h. frame_keeps count (frame_of leaving to.1 s.frames) label s q h }

  -- a name in a record of its own
  pub declare_keeping : (name : List ℕ) (v : Val) (e : Env ℕ) (next : Env ℕ → L (Unit {0})) → OwnVal v → ((d : Env ℕ) → Keeping (OwnResult One) (next d)) → Keeping (OwnResult One) (in_own_record name v e next)
  declare_keeping name v e next q k = record {
    keeps = λ s h.
        let here = own_context count s.frames h.frames in
        (k (with_place (length s.records) e)).keeps (with_name e.place name v s)
        (record { frames = h.frames; heap = h.heap; records = each_push (λ r. OwnBindings r.bindings) s.records _ h.records (own_union count v.label (context s.frames) q here, tt); lines = h.lines });
  }
