-- Heaps whose objects lead to those that were made before them.
use Rattle.std.specs.Prelude.{◌≡◌, ℕ, List, [], Option, Some, None, slice_get}
use Rattle.js_values.specs.declared.property.Slot.{Slot}
use Rattle.js_values.specs.declared.inner.Inner.{Inner}
use Rattle.js_values.specs.declared.inner.Inner.TheVariants.{Plain, Script, Native, Bound}
use Rattle.js_values.specs.Chains.{LeadBack}
use Rattle.object_heap.specs.declared.shape.Shape.{Shape}
use Rattle.js_values.specs.Objects.{Object, Rows, number_of, own}

-- the number of what a bound function calls
abbrev pub target_of : {T : Type 0} → Inner T → Option ℕ
target_of (Bound target label this args) = Some target.0
target_of Plain = None
target_of (Script function env) = None
target_of (Native which) = None

-- a prototype has a smaller number, and so has what a bound function calls
pub record IsFormed {T : Type 0} (heap : List (Object T)) : Type 0 where
  pub protos : LeadBack (λ p. number_of p.proto) heap
  pub targets : LeadBack (λ p. target_of p.inner) heap

-- what the key names in the object with a number
abbrev pub own_in : {T : Type 0} → List ℕ → Option (Object T) → Option (Slot T)
own_in key None = None
own_in key (Some p) = own key p.rows

-- the property at a place in the object with a number
abbrev pub row_in : {T : Type 0} → ℕ → Option (Object T) → Option (List ℕ × Slot T)
row_in n None = None
row_in n (Some p) = slice_get p.rows n

-- the properties of the object with a number
abbrev pub rows_in : {T : Type 0} → Option (Object T) → Rows (Slot T)
rows_in None = []
rows_in (Some p) = p.rows

-- the object leads to the same prototype as before, and has the same inner part
pub record LeadsAs {T : Type 0} (old new : Object T) : Type 0 where
  pub proto : new.proto ≡ old.proto
  pub inner : new.inner ≡ old.inner

-- what an object is besides its properties and its inner part
abbrev pub IsShape : {T : Type 0} → Option (Object T) → Shape T → Type 0
IsShape None shape = ⊥
IsShape (Some p) shape = shape ≡ record { class = p.class; proto = p.proto; link = p.link; structure = p.structure; extensible = p.extensible }

abbrev pub IsInner : {T : Type 0} → Option (Object T) → Inner T → Type 0
IsInner None inner = ⊥
IsInner (Some p) inner = inner ≡ p.inner
