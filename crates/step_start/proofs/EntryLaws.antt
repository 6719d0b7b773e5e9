-- What entries make.
use Rattle.std.proofs.Common.{arith, refl, sym, ap, ◌∙◌, ◌≡◌, ◌≤◌, ◌+◌, ℕ, suc, List, [], ◌∷◌, length, drop, subst, Option, Some}
use Rattle.std.specs.List.{slice_get}
use Rattle.std.proofs.lemmas.Option.{get_or_from_slice_get, slice_get_within}
use Rattle.std.proofs.lemmas.List.{drop_more, at_drop_all}
use Rattle.js_values.specs.declared.ids.ObjId.{ObjId}
use Rattle.js_values.specs.declared.value.Value.TheVariants as value
use Rattle.native_protocol.specs.declared.natives.Form.TheVariants.{Function, Constructor, LeftAccessor}
use Rattle.native_protocol.specs.Sets.{SeenEntry}
use Rattle.es_meaning.specs.BuiltIns.{in_set}
use Rattle.es_meaning.specs.Holders.{built_heap, holder_in, holding, left_accessor, made_for, made_on, prototype_named, prototype_rows, with_accessors, with_constructor, with_entries, with_entry, with_holder, with_property_of}
use Rattle.es_meaning.specs.Start.{id, native_function, start_heap}
use Rattle.plain_heap.specs.PlainObjects.{PlainObjects, changed, with_more}
use Rattle.plain_heap.specs.Started.{IsStarted}
use Rattle.step_start.proofs.StartedLaws.{start_heap_started, entry_started}

-- ---- one entry

module _ {T : Type 0} (old made : PlainObjects T) (e : SeenEntry) (which holder : ℕ) (f : ObjId) (place : f.0 ≡ length old.objects) where
  pub function_entry : (new : PlainObjects T) → made ≡ with_more (native_function which e.length [] ∷ []) old → new ≡ changed (with_property_of holder e.name (holding (value.Object f))) made → new ≡ changed (made_for Function e which holder) old
  function_entry new makes gives =
      gives ∙ ap (changed (with_property_of holder e.name (holding (value.Object f)))) makes
      ∙ ap (λ n. changed (with_property_of holder e.name (holding (value.Object (id n)))) (with_more (native_function which e.length [] ∷ []) old)) place

  pub accessor_entry : (new : PlainObjects T) → made ≡ with_more (native_function which 0 [] ∷ []) old → new ≡ changed (with_property_of holder e.name (left_accessor e f.0)) made → new ≡ changed (made_for LeftAccessor e which holder) old
  accessor_entry new makes gives =
      gives ∙ ap (changed (with_property_of holder e.name (left_accessor e f.0))) makes
      ∙ ap (λ n. changed (with_property_of holder e.name (left_accessor e n)) (with_more (native_function which 0 [] ∷ []) old)) place

  pub constructor_entry : (constructing new : PlainObjects T) (prototype : Option ObjId) → prototype ≡ prototype_named e.name → made ≡ with_more (native_function which e.length (prototype_rows prototype) ∷ []) old
      → constructing ≡ changed (with_constructor prototype f.0) made → new ≡ changed (with_property_of holder e.name (holding (value.Object f))) constructing → new ≡ changed (made_for Constructor e which holder) old
  constructor_entry constructing new prototype is makes gives ends =
      ends ∙ ap (changed (with_property_of holder e.name (holding (value.Object f)))) (gives ∙ ap (changed (with_constructor prototype f.0)) makes)
      ∙ ap (λ p. changed (with_property_of holder e.name (holding (value.Object f))) (changed (with_constructor p f.0) (with_more (native_function which e.length (prototype_rows p) ∷ []) old))) is
      ∙ ap (λ n. changed (with_property_of holder e.name (holding (value.Object (id n)))) (changed (with_constructor (prototype_named e.name) n) (with_more (native_function which e.length (prototype_rows (prototype_named e.name)) ∷ []) old))) place

-- `Math` or `JSON` first, and then the function on its holder, where there is one
pub entry_made : {T : Type 0} (old here new : PlainObjects T) (e : SeenEntry) (which : ℕ) (holder : Option ℕ) → here ≡ changed (with_holder e) old → holder ≡ holder_in here.objects e.holder → new ≡ changed (made_on holder e which) here → new ≡ changed (with_entry which e) old
entry_made old here new e which holder gives holder_is makes =
    makes ∙ ap (λ o. changed (made_on o e which) here) holder_is ∙ ap (λ (h : PlainObjects _). changed (made_on (holder_in h.objects e.holder) e which) h) gives

-- ---- several

-- the entries in front of this one are there
pub record SoFar {T : Type 0} (label : T) (entries : List SeenEntry) (which : ℕ) (heap : PlainObjects T) : Type 0 where
  pub label_is : heap.label ≡ label
  pub made : with_accessors (with_entries which (drop which entries) heap.objects) ≡ built_heap entries
  pub started : IsStarted heap.objects

module _ {T : Type 0} (label : T) (entries : List SeenEntry) where
  -- none of them
  pub begins : (heap : PlainObjects T) → heap ≡ record { label = label; objects = start_heap } → SoFar label entries 0 heap
  unfolding built_heap
  begins heap is = subst (λ (h : PlainObjects T). SoFar label entries 0 h) (sym is) (record { label_is = refl; made = refl; started = start_heap_started })

  -- one more
  pub goes_on : (which : ℕ) (e : SeenEntry) (heap more : PlainObjects T) → slice_get entries which ≡ Some e → more ≡ changed (with_entry (in_set which) e) heap → SoFar label entries which heap → SoFar label entries (which + 1) more
  unfolding with_entries
  goes_on which e heap more there makes so_far =
      let front : drop which entries ≡ e ∷ drop (which + 1) entries = drop_more entries which e (slice_get_within entries which e there) ∙ ap (λ x. x ∷ drop (which + 1) entries) (get_or_from_slice_get entries which e e there) in
      let next : suc which ≡ which + 1 = omega arith in
      subst (λ (h : PlainObjects T). SoFar label entries (which + 1) h) (sym makes)
      (record {
        label_is = so_far.label_is;
        made =
            ap (λ n. with_accessors (with_entries n (drop (which + 1) entries) (with_entry (in_set which) e heap.objects))) (sym next)
            ∙ ap (λ es. with_accessors (with_entries which es heap.objects)) (sym front)
            ∙ so_far.made;
        started = entry_started (in_set which) e heap.objects so_far.started;
      })

  -- all of them, and then the accessors of each function
  pub ends : (which : ℕ) (heap last : PlainObjects T) → length entries ≤ which → SoFar label entries which heap → last ≡ changed with_accessors heap → last ≡ record { label = label; objects = built_heap entries }
  unfolding with_entries
  ends which heap last past so_far gives =
      gives
      ∙ ap (λ l. record { label = l; objects = with_accessors heap.objects }) so_far.label_is
      ∙ ap (λ os. record { label = label; objects = os }) (sym (ap (λ es. with_accessors (with_entries which es heap.objects)) (at_drop_all (λ es. es) entries which past)) ∙ so_far.made)
