-- What bound functions come to, in a reading of the labels.
use Rattle.std.proofs.Common.{arith, ◌≡◌, ◌<◌, ◌≤◌, ℕ, zero, suc, Bool, false, true≢false, List, [], ◌∷◌, ◌++◌, append_assoc, map, length, Option, Some, None, refl, sym, ap, ap₂, subst, ◌∙◌}
use Rattle.std.specs.List.{All, slice_get}
use Rattle.std.specs.Option.{option_map}
use Rattle.std.proofs.lemmas.List.{map-append}
use Rattle.std.proofs.lemmas.List.Elements.{All-append, All-weaker}
use Rattle.std.proofs.lemmas.Option.{none-some, same_Some, slice_get-get_or, slice_get-map, slice_get_past, slice_get_within}
use Rattle.origin_labels.specs.Label.{Label, IsLabel, union}
use Rattle.origin_labels.specs.Stores.{IsKept}
use Rattle.origin_labels.proofs.LabelLaws.{IsLabel-bottom, IsLabel-union, union-assoc, union-bottom}
use Rattle.js_values.specs.declared.inner.Inner.{Inner}
use Rattle.js_values.specs.declared.inner.Inner.TheVariants.{Plain, Script, Native, Bound}
use Rattle.js_values.specs.declared.value.Labelled.{Labelled}
use Rattle.js_values.specs.Objects.{Object}
use Rattle.js_values.specs.Readings.{IsReading, HasHeap, HasInner, HasObject, HasValue, read_heap, read_inner, read_object, read_value}
use Rattle.js_values.proofs.ReadingLaws.{IsReading-earlier}
use Rattle.object_heap.specs.Formed.{IsFormed, IsInner, target_of}
use Rattle.es_meaning.specs.Functions.{bound_behind}
use Rattle.flow_meaning.specs.Requested as requested
use Rattle.flow_meaning.specs.Requested.{own_aim, aim_behind, aim_in, aim_within, aim_of}
use Rattle.step_calling.specs.declared.bound_target.BoundTarget.{BoundTarget}
use Rattle.step_calling.specs.BoundTargets.{ComesTo, ComesToItself, HasBoundTarget, IsBoundTarget, IsBehind, StandsBound, beyond, bound_in, holds_target, read_bound_target}

-- ---- an object, and its target

-- the object with a number that is given out
there_at : {X : Type 0} (xs : List X) (i : ℕ) → i < length xs → (x : X) × (slice_get xs i ≡ Some x)
there_at (x ∷ xs) zero lt = (x, refl)
there_at (x ∷ xs) (suc i) lt = there_at xs i (omega (arith, lt))
there_at [] i lt = absurd (omega (arith, lt))

module _ {T : Type 0} where
  inner_is : (q : Option (Object T)) (p : Object T) (x : Inner T) → q ≡ Some p → IsInner q x → x ≡ p.inner
  inner_is None p x here is = absurd is
  inner_is (Some r) p x here is = is ∙ ap (λ (o : Object T). o.inner) (same_Some r p here)

  pub stands_bound : (heap : List (Object T)) (i : ℕ) (x : Inner T) (b : Option (BoundTarget T)) → i < length heap → IsInner (slice_get heap i) x → b ≡ bound_in x → StandsBound heap i b
  stands_bound heap i x b lt inner is =
      let there = there_at heap i lt in
      record { object = there.0; here = there.1; is = sym (is ∙ ap bound_in (inner_is (slice_get heap i) there.0 x there.1 inner)) }

  -- with what is bound there, if something is
  pub bound_there : (heap : List (Object T)) (i : ℕ) (b c : Option (BoundTarget T)) → b ≡ c → StandsBound heap i b → StandsBound heap i c
  bound_there heap i b c e there = subst (StandsBound heap i) e there

  bound_target : (x : Inner T) (f : BoundTarget T) → bound_in x ≡ Some f → target_of x ≡ Some (f.function.0)
  bound_target Plain f is = absurd (none-some f is)
  bound_target (Script function env) f is = absurd (none-some f is)
  bound_target (Native which) f is = absurd (none-some f is)
  bound_target (Bound target label this args) f is = ap (λ (a : BoundTarget T). Some (a.function.0)) (same_Some (record { function = target; label = label; this = this; args = args }) f is)

  -- its target stands below it
  pub target_below : (heap : List (Object T)) → IsFormed heap → (i : ℕ) (f : BoundTarget T) → StandsBound heap i (Some f) → (f.function.0 < i) × (f.function.0 < length heap)
  target_below heap formed i f there =
      let below = formed.targets i f.function.0 there.object there.here (bound_target there.object.inner f there.is) in
      let within = slice_get_within heap i there.object there.here in
      (below, omega (arith, below, within))

  module _ (made : T → Type 0) where
    bound_has : (x : Inner T) (f : BoundTarget T) → bound_in x ≡ Some f → HasInner made x → HasBoundTarget made f
    bound_has Plain f is has = absurd (none-some f is)
    bound_has (Script function env) f is has = absurd (none-some f is)
    bound_has (Native which) f is has = absurd (none-some f is)
    bound_has (Bound target label this args) f is has = subst (HasBoundTarget made) (same_Some (record { function = target; label = label; this = this; args = args }) f is) (record { label = has.0; this = has.1; args = has.2 })

    pub target_has : (heap : List (Object T)) (i : ℕ) (f : BoundTarget T) → HasHeap made heap → StandsBound heap i (Some f) → HasBoundTarget made f
    target_has heap i f has there =
        let lt = slice_get_within heap i there.object there.here in
        let object : HasObject made there.object = subst (HasObject made) (same_Some _ there.object (sym (slice_get-get_or heap i there.object lt) ∙ there.here)) (has i there.object lt) in
        bound_has there.object.inner f there.is object.inner

-- ---- what it comes to

module _ {T : Type 0} (reading : T → Label) where
  alike_at : (f g : ℕ → requested.Aim) (i : ℕ) (x : Inner T) → ((j : ℕ) → target_of x ≡ Some j → f j ≡ g j) → aim_behind f i (read_inner reading x) ≡ aim_behind g i (read_inner reading x)
  alike_at f g i Plain same = refl
  alike_at f g i (Script function env) same = refl
  alike_at f g i (Native which) same = refl
  alike_at f g i (Bound target label this args) same =
      ap (λ (rest : requested.Aim). record { target = bound_behind (read_value reading this) (map (read_value reading) args) rest.target; label = union (reading label) rest.label }) (same target.0 refl)

  alike_in : (f g : ℕ → requested.Aim) (i : ℕ) (q : Option (Object T)) → ((p : Object T) → q ≡ Some p → (j : ℕ) → target_of p.inner ≡ Some j → f j ≡ g j) → aim_in f i (option_map (read_object reading) q) ≡ aim_in g i (option_map (read_object reading) q)
  alike_in f g i None same = refl
  alike_in f g i (Some p) same = alike_at f g i p.inner (same p refl)

  module _ (heap : List (Object T)) (formed : IsFormed heap) where
    abbrev H : List (Object Label)
    H = read_heap reading heap

    -- each target is below its function, so that enough steps are enough
    enough : (n m i : ℕ) → i < n → i < m → aim_within H n i ≡ aim_within H m i
    enough zero m i a b = absurd (omega (arith, a))
    enough (suc n) zero i a b = absurd (omega (arith, b))
    enough (suc n) (suc m) i a b =
        ap (aim_in (aim_within H n) i) (slice_get-map (read_object reading) heap i)
        ∙ alike_in (aim_within H n) (aim_within H m) i (slice_get heap i) (λ p here j leads. let below = formed.targets i j p here leads in enough n m j (omega (arith, below, a)) (omega (arith, below, b)))
        ∙ sym (ap (aim_in (aim_within H m) i) (slice_get-map (read_object reading) heap i))

    aim_here : (i : ℕ) (p : Object T) → slice_get heap i ≡ Some p → aim_of H i ≡ aim_behind (aim_of H) i (read_inner reading p.inner)
    aim_here i p here =
        ap (aim_in (aim_within H i) i) (slice_get-map (read_object reading) heap i ∙ ap (option_map (read_object reading)) here)
        ∙ alike_at (aim_within H i) (aim_of H) i p.inner (λ j leads. let below = formed.targets i j p here leads in enough i (suc j) j below (omega arith))

  -- all its labels are joined to the empty one
  IsLabel-behind : (next : ℕ → requested.Aim) → ((j : ℕ) → IsLabel (next j).label) → (i : ℕ) (x : Inner T) → IsLabel (aim_behind next i (read_inner reading x)).label
  IsLabel-behind next labels i Plain = IsLabel-bottom
  IsLabel-behind next labels i (Script function env) = IsLabel-bottom
  IsLabel-behind next labels i (Native which) = IsLabel-bottom
  IsLabel-behind next labels i (Bound target label this args) = IsLabel-union (reading label) (next target.0).label (labels target.0)

  IsLabel-in : (next : ℕ → requested.Aim) → ((j : ℕ) → IsLabel (next j).label) → (i : ℕ) (q : Option (Object T)) → IsLabel (aim_in next i (option_map (read_object reading) q)).label
  IsLabel-in next labels i None = IsLabel-bottom
  IsLabel-in next labels i (Some p) = IsLabel-behind next labels i p.inner

  IsLabel-aim : (heap : List (Object T)) (n i : ℕ) → IsLabel (aim_within (read_heap reading heap) n i).label
  IsLabel-aim heap zero i = IsLabel-bottom
  IsLabel-aim heap (suc n) i = subst (λ q. IsLabel (aim_in (aim_within (read_heap reading heap) n) i q).label) (sym (slice_get-map (read_object reading) heap i)) (IsLabel-in (aim_within (read_heap reading heap) n) (IsLabel-aim heap n) i (slice_get heap i))

  -- by what is bound there
  bound_aim : (next : ℕ → requested.Aim) (i : ℕ) (x : Inner T) (f : BoundTarget T) → bound_in x ≡ Some f → aim_behind next i (read_inner reading x) ≡ beyond reading f (next f.function.0)
  bound_aim next i Plain f is = absurd (none-some f is)
  bound_aim next i (Script function env) f is = absurd (none-some f is)
  bound_aim next i (Native which) f is = absurd (none-some f is)
  bound_aim next i (Bound target label this args) f is = ap (λ (a : BoundTarget T). beyond reading a (next a.function.0)) (same_Some (record { function = target; label = label; this = this; args = args }) f is)

  free_aim : (next : ℕ → requested.Aim) (i : ℕ) (x : Inner T) → None ≡ bound_in x → aim_behind next i (read_inner reading x) ≡ own_aim i
  free_aim next i Plain is = refl
  free_aim next i (Script function env) is = refl
  free_aim next i (Native which) is = refl
  free_aim next i (Bound target label this args) is = absurd (none-some (record { function = target; label = label; this = this; args = args }) is)

  -- an aim, and the next one, and what that comes to
  beyond_both : (a next joined : BoundTarget T) (rest : requested.Aim) → IsLabel rest.label → reading joined.label ≡ union (reading a.label) (reading next.label) → joined.this ≡ next.this → joined.args ≡ next.args ++ a.args
      → beyond reading a (beyond reading next rest) ≡ beyond reading joined rest
  beyond_both a next joined rest labels label this args =
      let front = map (read_value reading) next.args in
      let back = map (read_value reading) a.args in
      ap₂ (λ (vs : List (Labelled Label)) (l : Label). record { target = record { function = rest.target.function; this = (beyond reading next rest).target.this; args = vs }; label = l })
      (append_assoc rest.target.args front back ∙ ap (λ vs. rest.target.args ++ vs) (sym (map-append (read_value reading) next.args a.args) ∙ ap (map (read_value reading)) (sym args)))
      (sym (union-assoc (reading a.label) (reading next.label) rest.label labels) ∙ ap (λ l. union l rest.label) (sym label))
      ∙ ap (λ (v : Labelled T). record { target = record { function = rest.target.function; this = (bound_behind (read_value reading v) front rest.target).this; args = rest.target.args ++ map (read_value reading) joined.args }; label = union (reading joined.label) rest.label }) (sym this)

-- what the first function comes to is what this aim comes to
abbrev pub Aims : {S T : Type 0} → (S → T → Type 0) → (S → T → Label) → S → List (Object T) → ℕ → BoundTarget T → Type 0
Aims made meaning store heap o a = (reading : _) → IsReading made meaning store reading → aim_of (read_heap reading heap) o ≡ beyond reading a (aim_of (read_heap reading heap) a.function.0)

module _ {S T : Type 0} (made : S → T → Type 0) (meaning : S → T → Label) (room : S → ℕ) (firm : S → Bool) (heap : List (Object T)) (formed : IsFormed heap) (o : ℕ) where
  pub aims_first : (store : S) (a : BoundTarget T) → StandsBound heap o (Some a) → Aims made meaning store heap o a
  aims_first store a there reading read =
      aim_here reading heap formed o there.object there.here ∙ bound_aim reading (aim_of (read_heap reading heap)) o there.object.inner a there.is

  -- a further target
  pub aims_on : (old new : S) → IsKept made meaning room firm old new → (a next joined : BoundTarget T) → Aims made meaning old heap o a → StandsBound heap a.function.0 (Some next) → IsBehind made meaning new a next joined → Aims made meaning new heap o joined
  aims_on old new kept a next joined aims there is reading read =
      let H = read_heap reading heap in
      let rest = aim_of H next.function.0 in
      aims reading (IsReading-earlier made meaning room firm old new reading kept read)
      ∙ ap (beyond reading a) (aim_here reading heap formed a.function.0 there.object there.here ∙ bound_aim reading (aim_of H) a.function.0 there.object.inner next there.is)
      ∙ beyond_both reading a next joined rest (IsLabel-aim reading heap (suc next.function.0) next.function.0) (is.label.is reading read) is.this is.args
      ∙ ap (λ (f : _). beyond reading joined (aim_of H f.0)) (sym is.function)

  pub behind_has : (old new : S) → IsKept made meaning room firm old new → (a next joined : BoundTarget T) → HasBoundTarget (made old) a → HasBoundTarget (made old) next → IsBehind made meaning new a next joined → HasBoundTarget (made new) joined
  behind_has old new kept a next joined has more is =
      let P = HasValue (made new) in
      let later : (vs : List (Labelled T)) → All (HasValue (made old)) vs → All P vs = λ vs all. All-weaker (HasValue (made old)) P (λ v m. (kept.labels v.label m).0) vs all in
      record {
        label = is.label.belongs;
        this = subst P (sym is.this) ((kept.labels next.this.label more.this).0);
        args = subst (All P) (sym is.args) (All-append P next.args a.args (later next.args more.args) (later a.args has.args));
      }

  -- the last one
  pub aims_last : (store : S) → ((label : T) → made store label → IsLabel (meaning store label)) → (a : BoundTarget T) → HasBoundTarget (made store) a → Aims made meaning store heap o a → StandsBound heap a.function.0 None → IsBoundTarget made meaning store heap o a
  aims_last store rising a has aims there = record {
    has = has;
    is = λ reading read.
        aims reading read
        ∙ ap (beyond reading a) (aim_here reading heap formed a.function.0 there.object there.here ∙ free_aim reading (aim_of (read_heap reading heap)) a.function.0 there.object.inner (sym there.is))
        ∙ ap (λ l. record (read_bound_target reading a) { label = l }) (union-bottom (reading a.label) (subst IsLabel (sym (read.agrees a.label has.label)) (rising a.label has.label)));
  }

-- one that isn't bound, and one that isn't there
pub holds_none : {T : Type 0} (x : Inner T) → holds_target x ≡ false → None ≡ bound_in x
holds_none Plain free = refl
holds_none (Script function env) free = refl
holds_none (Native which) free = refl
holds_none (Bound target label this args) free = absurd (true≢false free)

pub own_itself : {T : Type 0} (heap : List (Object T)) → IsFormed heap → (o : ℕ) → StandsBound heap o None → ComesToItself heap o
own_itself heap formed o there reading = aim_here reading heap formed o there.object there.here ∙ free_aim reading (aim_of (read_heap reading heap)) o there.object.inner (sym there.is)

pub nowhere_itself : {T : Type 0} (heap : List (Object T)) (o : ℕ) → length heap ≤ o → ComesToItself heap o
nowhere_itself heap o past reading =
    ap (aim_in (aim_within (read_heap reading heap) o) o) (slice_get-map (read_object reading) heap o ∙ ap (option_map (read_object reading)) (slice_get_past heap o past))

pub comes_own : {S T : Type 0} (made : S → T → Type 0) (meaning : S → T → Label) (store : S) (heap : List (Object T)) → IsFormed heap → (o : ℕ) → StandsBound heap o None → ComesTo made meaning store heap o None
comes_own made meaning store heap formed o there = own_itself heap formed o there

pub comes_nowhere : {S T : Type 0} (made : S → T → Type 0) (meaning : S → T → Label) (store : S) (heap : List (Object T)) (o : ℕ) → length heap ≤ o → ComesTo made meaning store heap o None
comes_nowhere made meaning store heap o past = nowhere_itself heap o past
