-- The channel of a number is the channel of its name.
use Rattle.std.proofs.Common.{◌≡◌, ℕ, ◌<◌, ◌≤◌, ◌⊎◌, get_or, arith, List, [], ◌∷◌, length, nat_lt, Bool, true, false, cond, Some, None, slice_get, find, inl, inr, refl, ◌∙◌, ap, subst}
use Rattle.std.specs.List.{position_or_len}
use Rattle.std.proofs.lemmas.List.Folds.{find_at}
use Rattle.std.proofs.lemmas.Option.{none-some, same_Some, slice_get_cases, cond_some}
use Rattle.std.proofs.lemmas.List.Quantifiers.{position-Some}
use Rattle.std.proofs.lemmas.Slice.Eq.{bytes_eq-Decides}
use Rattle.origin_labels.specs.Names.{same_name}
use Rattle.flow_policy.specs.declared.policy.Channel.{Channel}
use Rattle.flow_policy.specs.Policies.{channel_named}
use Rattle.js_number.specs.declared.primitive.Primitive.TheVariants.{Undefined, Null, Num, Str}
use Rattle.js_number.specs.declared.primitive.Primitive.TheVariants as prims
use Rattle.js_values.specs.declared.value.Value.{Value}
use Rattle.js_values.specs.declared.value.Value.TheVariants as value
use Rattle.es_meaning.specs.Plain.{channel_of, number_of_channel}

-- the channel with this number stands in the table, and is the first of its name
pub record Stands (channels : List Channel) (i : ℕ) : Type 0 where
  pub channel : Channel
  pub at : slice_get channels i ≡ Some channel
  pub named : channel_named channel.name channels ≡ Some channel

-- the element that is found passes
found_passes : {X : Type 0} (p : X → Bool) (xs : List X) (x : X) → find p xs ≡ Some x → p x ≡ true
found_passes p [] x e = absurd (none-some x e)
found_passes {X} p (y ∷ xs) x e = go (p y) refl e (found_passes p xs x)
  where
    go : (test : Bool) → p y ≡ test → cond test (Some y) (find p xs) ≡ Some x → (find p xs ≡ Some x → p x ≡ true) → p x ≡ true
    go true t f r = subst (λ (z : X). p z ≡ true) (same_Some y x f) t
    go false t f r = r f

-- a number that is found for a name
numbered : (name : List ℕ) (channels : List Channel) (i : ℕ) → number_of_channel name channels ≡ Some i → Stands channels i
unfolding channel_named
numbered name channels i e = go (slice_get_cases channels i).1
  where
    test : Channel → Bool
    test c = same_name c.name name

    is : position_or_len test channels ≡ i
    is = (cond_some (nat_lt (position_or_len test channels) (length channels)) (position_or_len test channels) i e).1

    found : find test channels ≡ slice_get channels i
    found = find_at test channels ∙ ap (slice_get channels) is

    go : ((c : Channel) × (i < length channels) × (slice_get channels i ≡ Some c) × (get_or channels i c ≡ c)) ⊎ ((length channels ≤ i) × (slice_get channels i ≡ None)) → Stands channels i
    go (inl here) =
        let name_is : here.0.name ≡ name = (bytes_eq-Decides here.0.name name).0 (found_passes test channels here.0 (found ∙ here.2)) in
        record { channel = here.0; at = here.2; named = ap (λ (n : List ℕ). find (λ (c : Channel). same_name c.name n) channels) name_is ∙ found ∙ here.2 }
    go (inr past) = let inside : i < length channels = (position-Some test channels i (record { name = []; label = [] }) e).0 in absurd (omega arith)

-- a number that is found for a value
pub stands : (channels : List Channel) (v : Value) (i : ℕ) → channel_of channels v ≡ Some i → Stands channels i
stands channels (value.Primitive (Str name)) i e = numbered name channels i e
stands channels (value.Primitive Undefined) i e = absurd (none-some i e)
stands channels (value.Primitive Null) i e = absurd (none-some i e)
stands channels (value.Primitive (prims.Bool b)) i e = absurd (none-some i e)
stands channels (value.Primitive (Num n)) i e = absurd (none-some i e)
stands channels (value.Object o) i e = absurd (none-some i e)
