-- Frames, objects, records and names, with what their labels mean in a reading.
use Rattle.std.proofs.Common.{arith, refl, ap, ap₂, ◌∙◌, ◌≡◌, ℕ, zero, suc, Bool, true, false, List, [], ◌∷◌, map, Option, Some, None, if◌then◌else◌}
use Rattle.std.specs.List.{All, slice_get}
use Rattle.std.specs.Option.{option_map}
use Rattle.std.proofs.lemmas.Option.{slice_get-map}
use Rattle.origin_labels.specs.Label.{Label}
use Rattle.origin_labels.specs.Names.{same_name}
use Rattle.flow_frames.specs.Held.{Held, Belong, seen, seen_frame}
use Rattle.js_values.specs.declared.value.Labelled.{Labelled}
use Rattle.js_values.specs.Chains.{beginning, onwards, chain_within}
use Rattle.js_values.specs.Records.{Binding, Bindings, Record, found, bound_in, if_has, first_with, lookup}
use Rattle.js_values.specs.Readings.{IsReading, read_binding, read_record, read_records}

-- ---- frames: each reading that agrees with the store sees them as the store does

module _ {S T : Type 0} (made : S → T → Type 0) (meaning : S → T → Label) where
  read_all : (store : S) (reading : T → Label) (frames : List (Held T)) → IsReading made meaning store reading → All (λ h. made store h.label) frames → map (seen_frame reading) frames ≡ seen meaning store frames
  read_all store reading [] read all = refl
  read_all store reading (h ∷ frames) read all =
      ap₂ (λ f fs. f ∷ fs) (ap (λ l. record { kind = h.kind; label = l; active = h.active }) (read.agrees h.label (all 0 h (omega arith)))) (read_all store reading frames read (λ k d lt. all (suc k) d (omega (arith, lt))))

  pub read_frames : (store : S) (reading : T → Label) (frames : List (Held T)) → IsReading made meaning store reading → Belong made meaning store frames → map (seen_frame reading) frames ≡ seen meaning store frames
  read_frames store reading frames read belongs = read_all store reading frames read belongs.labels

-- ---- names

abbrev outside : {V : Type 0} → Record V → Option ℕ
outside r = option_map (λ e. e.0) r.outer

module _ {T : Type 0} (reading : T → Label) where
  read_found_at : (name : List ℕ) (b : Binding (Labelled T)) (bindings : Bindings (Labelled T)) (test : Bool) → found name (map (read_binding reading) bindings) ≡ option_map (read_binding reading) (found name bindings) → (if test then Some (read_binding reading b) else found name (map (read_binding reading) bindings)) ≡ option_map (read_binding reading) (if test then Some b else found name bindings)
  read_found_at name b bindings true rest = refl
  read_found_at name b bindings false rest = rest

  read_found : (name : List ℕ) (bindings : Bindings (Labelled T)) → found name (map (read_binding reading) bindings) ≡ option_map (read_binding reading) (found name bindings)
  read_found name [] = refl
  read_found name (b ∷ bindings) = read_found_at name b bindings (same_name b.name name) (read_found name bindings)

  read_bound_there : (name : List ℕ) (r : Option (Record (Labelled T))) → bound_in name (option_map (read_record reading) r) ≡ option_map (read_binding reading) (bound_in name r)
  read_bound_there name None = refl
  read_bound_there name (Some r) = read_found name r.bindings

  pub read_bound_in : (name : List ℕ) (records : List (Record (Labelled T))) (i : ℕ) → bound_in name (slice_get (read_records reading records) i) ≡ option_map (read_binding reading) (bound_in name (slice_get records i))
  read_bound_in name records i = ap (bound_in name) (slice_get-map (read_record reading) records i) ∙ read_bound_there name (slice_get records i)

  first_here : (i : ℕ) (b : Option (Binding (Labelled T))) (rest : Option ℕ) → if_has i (option_map (read_binding reading) b) rest ≡ if_has i b rest
  first_here i None rest = refl
  first_here i (Some b) rest = refl

  -- the same is found from each record on
  abbrev Alike : (name : List ℕ) → (ℕ → List (ℕ × Record (Labelled Label))) → (ℕ → List (ℕ × Record (Labelled T))) → Type 0
  Alike name f g = (i : ℕ) → first_with name (f i) ≡ first_with name (g i)

  lookup_onwards : (name : List ℕ) (f : ℕ → List (ℕ × Record (Labelled Label))) (g : ℕ → List (ℕ × Record (Labelled T))) → Alike name f g → (j : Option ℕ) → first_with name (onwards j f) ≡ first_with name (onwards j g)
  lookup_onwards name f g alike None = refl
  lookup_onwards name f g alike (Some j) = alike j

  lookup_from : (name : List ℕ) (f : ℕ → List (ℕ × Record (Labelled Label))) (g : ℕ → List (ℕ × Record (Labelled T))) → Alike name f g → (i : ℕ) (o : Option (Record (Labelled T))) → first_with name (beginning i (option_map (read_record reading) o) (λ r. onwards (outside r) f)) ≡ first_with name (beginning i o (λ r. onwards (outside r) g))
  lookup_from name f g alike i None = refl
  lookup_from name f g alike i (Some r) =
      ap₂ (λ b rest. if_has i b rest) (read_found name r.bindings) (lookup_onwards name f g alike (outside r))
      ∙ first_here i (found name r.bindings) (first_with name (onwards (outside r) g))

  lookup_within : (name : List ℕ) (records : List (Record (Labelled T))) (n : ℕ) → Alike name (chain_within outside (read_records reading records) n) (chain_within outside records n)
  lookup_within name records zero i = refl
  lookup_within name records (suc n) i =
      ap (λ o. first_with name (beginning i o (λ r. onwards (outside r) (chain_within outside (read_records reading records) n)))) (slice_get-map (read_record reading) records i)
      ∙ lookup_from name (chain_within outside (read_records reading records) n) (chain_within outside records n) (lookup_within name records n) i (slice_get records i)

  pub read_lookup : (name : List ℕ) (records : List (Record (Labelled T))) (i : ℕ) → lookup name (read_records reading records) i ≡ lookup name records i
  read_lookup name records i = lookup_within name records (suc i) i
