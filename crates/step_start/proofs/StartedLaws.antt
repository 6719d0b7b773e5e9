-- The objects that a run starts with are as it needs them, whatever a set makes.
use Rattle.std.proofs.Common.{arith, refl, ◌≡◌, ℕ, Bool, true, false, ◌||◌, List, length, Option, Some, None}
use Rattle.js_values.specs.declared.ids.ObjId.{ObjId}
use Rattle.js_values.specs.Objects.{PlainObject}
use Rattle.native_protocol.specs.declared.natives.Form.{Form}
use Rattle.native_protocol.specs.declared.natives.Form.TheVariants.{Function, Constructor, LeftFunction, LeftAccessor, NotANumber}
use Rattle.native_protocol.specs.Sets.{SeenEntry}
use Rattle.es_meaning.specs.Holders.{holder_in, holders, made_for, made_on, may_be_replaced, named_in, prototype_named, with_constructor, with_entry, with_holder, with_holder_of}
use Rattle.es_meaning.specs.Start.{start_heap}
use Rattle.plain_heap.specs.Started.{IsStarted}
use Rattle.plain_heap.proofs.StartedLaws.{first_started, given_started, more_started}

pub start_heap_started : IsStarted start_heap
start_heap_started = record { root = (refl, tt); global = (refl, refl); many = omega arith }

or_true : (b : Bool) → (b || true) ≡ true
or_true true = refl
or_true false = refl

-- ---- what an entry makes

constructor_started : (o : Option ObjId) (f : ℕ) (objects : List PlainObject) → IsStarted objects → IsStarted (with_constructor o f objects)
constructor_started None f objects started = started
constructor_started (Some o) f objects started = first_started _ _ o.0 objects (λ e. refl) started

for_started : (form : Form) (e : SeenEntry) (which holder : ℕ) (objects : List PlainObject) → IsStarted objects → IsStarted (made_for form e which holder objects)
for_started Function e which holder objects started = given_started _ _ holder _ (λ is. refl) (more_started objects _ started)
for_started LeftFunction e which holder objects started = given_started _ _ holder _ (λ is. refl) (more_started objects _ started)
for_started Constructor e which holder objects started = given_started _ _ holder _ (λ is. refl) (constructor_started (prototype_named e.name) (length objects) _ (more_started objects _ started))
for_started NotANumber e which holder objects started = given_started _ _ holder objects (λ is. refl) started
for_started LeftAccessor e which holder objects started = given_started _ _ holder _ (λ is. or_true (may_be_replaced e)) (more_started objects _ started)

on_started : (holder : Option ℕ) (e : SeenEntry) (which : ℕ) (objects : List PlainObject) → IsStarted objects → IsStarted (made_on holder e which objects)
on_started None e which objects started = started
on_started (Some holder) e which objects started = for_started e.form e which holder objects started

holder_given : (name : List ℕ) (o : Option ObjId) (objects : List PlainObject) → IsStarted objects → IsStarted (with_holder_of name o objects)
holder_given name None objects started = started
holder_given name (Some o) objects started = given_started _ _ 1 objects (λ e. refl) started

pub holder_started : (e : SeenEntry) (objects : List PlainObject) → IsStarted objects → IsStarted (with_holder e objects)
holder_started e objects started = holder_given e.holder (named_in e.holder holders) objects started

pub entry_started : (which : ℕ) (e : SeenEntry) (objects : List PlainObject) → IsStarted objects → IsStarted (with_entry which e objects)
entry_started which e objects started = let here = with_holder e objects in on_started (holder_in here e.holder) e which here (holder_started e objects started)
