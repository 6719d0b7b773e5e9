-- What a call on a walk answers, in the labels of a store.
use Rattle.std.specs.Prelude.{◌≡◌, ℕ, Bool, List, Option, IfSome, slice_get}
use Rattle.std.specs.Option.{option_map}
use Rattle.origin_labels.specs.Label.{Label}
use Rattle.js_values.specs.declared.ids.ObjId.{ObjId}
use Rattle.js_values.specs.declared.property.Slot.{Slot}
use Rattle.js_values.specs.Objects.{Object, number_of}
use Rattle.js_values.specs.Readings.{IsReading, HasSlot, read_slot, read_object, read_heap}
use Rattle.js_values.specs.Walks as walks
use Rattle.js_values.specs.Walks.{object_chain}
use Rattle.prototype_walk.specs.declared.found.Found.{Found}
use Rattle.prototype_walk.specs.declared.plan.PutPlan.{PutPlan}
use Rattle.prototype_walk.specs.declared.plan.PutPlan.TheVariants.{Write, Add, Setter, Refused}
use Rattle.prototype_walk.specs.declared.key_list.KeyList.{KeyList}
use Rattle.prototype_walk.specs.KeyLists as lists
use Rattle.prototype_walk.specs.KeyLists.{keys, listed_keys, own_keys_label, rows_in}

-- ---- labels

-- a label that the store made, which means this in each reading that agrees with it
pub record Means {S T : Type 0} (made : S → T → Type 0) (meaning : S → T → Label) (store : S) (label : T) (means : (T → Label) → Label) : Type 0 where
  pub belongs : made store label
  pub is : (reading : T → Label) → IsReading made meaning store reading → reading label ≡ means reading

-- ---- find

-- the property and the object that has it, with the label of the walk to it
abbrev pub read_place : {T : Type 0} → (T → Label) → Option (ObjId × Slot T) → T → walks.Found
read_place reading at walk = record { at = option_map (λ f. (f.0.0, read_slot reading f.1)) at; walk = reading walk }

-- the walk for a key ends at this property, or finds none
pub record IsPlace {S T : Type 0} (made : S → T → Type 0) (meaning : S → T → Label) (store : S) (heap : List (Object T)) (o : ℕ) (key : List ℕ) (at : Option (ObjId × Slot T)) (walk : T) : Type 0 where
  pub belongs : made store walk
  pub slot : IfSome at (λ f. HasSlot (made store) f.1)
  pub is : (reading : T → Label) → IsReading made meaning store reading → read_place reading at walk ≡ walks.find key (object_chain (read_heap reading heap) o)

-- a walk like this one ends at this property, or finds none
pub record IsFoundFor {S T : Type 0} (made : S → T → Type 0) (meaning : S → T → Label) (store : S) (means : (T → Label) → walks.Found) (at : Option (ObjId × Slot T)) (walk : T) : Type 0 where
  pub belongs : made store walk
  pub slot : IfSome at (λ f. HasSlot (made store) f.1)
  pub is : (reading : T → Label) → IsReading made meaning store reading → read_place reading at walk ≡ means reading

-- the object at which the key is found, with the label of the walk to it
pub record IsFound {S T : Type 0} (made : S → T → Type 0) (meaning : S → T → Label) (store : S) (heap : List (Object T)) (o : ℕ) (key : List ℕ) (found : Found T) : Type 0 where
  pub belongs : made store found.walk
  pub at : (reading : T → Label) → IsReading made meaning store reading → number_of found.at ≡ option_map (λ f. f.0) (walks.find key (object_chain (read_heap reading heap) o)).at
  pub walk : (reading : T → Label) → IsReading made meaning store reading → reading found.walk ≡ (walks.find key (object_chain (read_heap reading heap) o)).walk

-- ---- put

abbrev pub walk_of : {T : Type 0} → PutPlan T → T
walk_of (Write walk) = walk
walk_of (Add walk) = walk
walk_of (Setter at walk) = walk
walk_of (Refused walk) = walk

-- a plan with what its label means
abbrev pub read_plan : {T U : Type 0} → (T → U) → PutPlan T → PutPlan U
read_plan reading (Write walk) = Write (reading walk)
read_plan reading (Add walk) = Add (reading walk)
read_plan reading (Setter at walk) = Setter at (reading walk)
read_plan reading (Refused walk) = Refused (reading walk)

-- the plan is this one in each reading that agrees with the store
pub record IsPlan {S T : Type 0} (made : S → T → Type 0) (meaning : S → T → Label) (store : S) (means : (T → Label) → PutPlan Label) (plan : PutPlan T) : Type 0 where
  pub belongs : made store (walk_of plan)
  pub is : (reading : T → Label) → IsReading made meaning store reading → read_plan reading plan ≡ means reading

-- ---- keys

abbrev pub read_keys : {T : Type 0} → (T → Label) → KeyList T → lists.Keys
read_keys reading list = record { keys = list.keys; walk = reading list.walk }

-- the keys are those of the object and its prototypes
pub record IsKeyList {S T : Type 0} (made : S → T → Type 0) (meaning : S → T → Label) (store : S) (heap : List (Object T)) (o : ℕ) (list : KeyList T) : Type 0 where
  pub belongs : made store list.walk
  pub is : (reading : T → Label) → IsReading made meaning store reading → read_keys reading list ≡ keys (object_chain (read_heap reading heap) o)

-- the keys are own ones of the object: all, or the enumerable ones
pub record IsOwnList {S T : Type 0} (made : S → T → Type 0) (meaning : S → T → Label) (store : S) (heap : List (Object T)) (o : ℕ) (all : Bool) (list : KeyList T) : Type 0 where
  pub belongs : made store list.walk
  pub keys : list.keys ≡ listed_keys all (rows_in (slice_get heap o))
  pub is : (reading : T → Label) → IsReading made meaning store reading → reading list.walk ≡ own_keys_label (option_map (read_object reading) (slice_get heap o))
