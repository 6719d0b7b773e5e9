-- The start objects of the set, computed.
use Rattle.std.proofs.Common.{◌≡◌, ℕ, true, List, [], ◌∷◌, ◌++◌, refl, sym, subst}
use Rattle.std.specs.List.{flat_map}
use Rattle.std.specs.List.Sorted.{IsPermutation}
use Rattle.std.proofs.lemmas.Grind.{flat_map-append}
use Rattle.std.proofs.lemmas.List.{append_assoc}
use Rattle.std.proofs.lemmas.List.Sorted.{IsPermutation-append_comm, IsPermutation-append_left, IsPermutation-append_right, IsPermutation-refl, IsPermutation-trans}
use Rattle.channels.specs.Entries.{channel_entries}
use Rattle.es_meaning.specs.Holders.{are_lawful, with_entries, built_heap}
use Rattle.native_protocol.specs.Sets.{SeenEntry}
use Rattle.object_natives.specs.Table as objects
use Rattle.array_natives.specs.Table as arrays
use Rattle.function_natives.specs.Table as functions
use Rattle.string_natives.specs.Table as texts
use Rattle.all_natives.specs.declared.sets.Range.{Range}
use Rattle.all_natives.specs.declared.sets.Set.{Set}
use Rattle.all_natives.specs.declared.sets.Set.TheVariants as set
use Rattle.all_natives.specs.Names.{names_found, names_wanted}
use Rattle.all_natives.specs.Together.{range_entries, all_entries}

pub lawful : are_lawful all_entries ≡ true
unfolding all_entries objects.entries arrays.entries functions.entries texts.entries with_entries
lawful = refl

-- ---- nothing is left out, and nothing stands twice: range by range, what is taken out of the middle comes first

to_front : {X : Type 0} (a b c : List X) → IsPermutation (a ++ (b ++ c)) (b ++ (a ++ c))
to_front a b c =
    subst (λ l. IsPermutation l (b ++ (a ++ c))) (append_assoc a b c)
    (subst (IsPermutation ((a ++ b) ++ c)) (append_assoc b a c) (IsPermutation-append_left c (a ++ b) (b ++ a) (IsPermutation-append_comm a b)))

first : {X Y : Type 0} (f : X → List Y) (xs ys : List X) (x : X) (target : List Y) → IsPermutation (flat_map f (xs ++ ys)) target → IsPermutation (flat_map f (xs ++ x ∷ ys)) (f x ++ target)
first f xs ys x target is =
    subst (λ l. IsPermutation l (f x ++ target)) (sym (flat_map-append f xs (x ∷ ys)))
    (IsPermutation-trans (flat_map f xs ++ (f x ++ flat_map f ys)) (f x ++ (flat_map f xs ++ flat_map f ys)) (f x ++ target)
    (to_front (flat_map f xs) (f x) (flat_map f ys))
    (IsPermutation-append_right (f x) (flat_map f xs ++ flat_map f ys) target (subst (λ l. IsPermutation l target) (flat_map-append f xs ys) is)))

range : Set → ℕ → ℕ → Range
range s from count = record { 0 = s; 1 = from; 2 = count }

-- set by set, what the ranges of each give
channel_pieces : List SeenEntry → List SeenEntry
channel_pieces rest = range_entries (range set.Channels 0 5) ++ rest

object_pieces : List SeenEntry → List SeenEntry
object_pieces rest = range_entries (range set.Objects 0 1) ++ (range_entries (range set.Objects 1 2) ++ (range_entries (range set.Objects 3 2) ++ (range_entries (range set.Objects 5 36) ++ (range_entries (range set.Objects 41 5) ++ (range_entries (range set.Objects 46 26) ++ rest)))))

array_pieces : List SeenEntry → List SeenEntry
array_pieces rest = range_entries (range set.Arrays 0 1) ++ (range_entries (range set.Arrays 1 22) ++ rest)

function_pieces : List SeenEntry → List SeenEntry
function_pieces rest = range_entries (range set.Functions 0 1) ++ (range_entries (range set.Functions 1 7) ++ (range_entries (range set.Functions 8 5) ++ rest))

text_pieces : List SeenEntry → List SeenEntry
text_pieces rest = range_entries (range set.Texts 0 1) ++ (range_entries (range set.Texts 1 1) ++ (range_entries (range set.Texts 2 1) ++ (range_entries (range set.Texts 3 20) ++ (range_entries (range set.Texts 23 1) ++ rest))))

pieces : IsPermutation all_entries (channel_pieces (object_pieces (array_pieces (function_pieces (text_pieces [])))))
unfolding all_entries range channel_pieces object_pieces array_pieces function_pieces text_pieces
pieces =
    let c0 = range set.Channels 0 5 in
    let o0 = range set.Objects 0 1 in
    let o1 = range set.Objects 1 2 in
    let o2 = range set.Objects 3 2 in
    let o3 = range set.Objects 5 36 in
    let o4 = range set.Objects 41 5 in
    let o5 = range set.Objects 46 26 in
    let a0 = range set.Arrays 0 1 in
    let a1 = range set.Arrays 1 22 in
    let f0 = range set.Functions 0 1 in
    let f1 = range set.Functions 1 7 in
    let f2 = range set.Functions 8 5 in
    let t0 = range set.Texts 0 1 in
    let t1 = range set.Texts 1 1 in
    let t2 = range set.Texts 2 1 in
    let t3 = range set.Texts 3 20 in
    let t4 = range set.Texts 23 1 in
    let e = range_entries in
    first e (t0 ∷ o0 ∷ f0 ∷ a0 ∷ t1 ∷ o1 ∷ f1 ∷ o5 ∷ []) (o2 ∷ t2 ∷ o3 ∷ t4 ∷ o4 ∷ a1 ∷ f2 ∷ t3 ∷ []) c0 _ (
    first e (t0 ∷ []) (f0 ∷ a0 ∷ t1 ∷ o1 ∷ f1 ∷ o5 ∷ o2 ∷ t2 ∷ o3 ∷ t4 ∷ o4 ∷ a1 ∷ f2 ∷ t3 ∷ []) o0 _ (
    first e (t0 ∷ f0 ∷ a0 ∷ t1 ∷ []) (f1 ∷ o5 ∷ o2 ∷ t2 ∷ o3 ∷ t4 ∷ o4 ∷ a1 ∷ f2 ∷ t3 ∷ []) o1 _ (
    first e (t0 ∷ f0 ∷ a0 ∷ t1 ∷ f1 ∷ o5 ∷ []) (t2 ∷ o3 ∷ t4 ∷ o4 ∷ a1 ∷ f2 ∷ t3 ∷ []) o2 _ (
    first e (t0 ∷ f0 ∷ a0 ∷ t1 ∷ f1 ∷ o5 ∷ t2 ∷ []) (t4 ∷ o4 ∷ a1 ∷ f2 ∷ t3 ∷ []) o3 _ (
    first e (t0 ∷ f0 ∷ a0 ∷ t1 ∷ f1 ∷ o5 ∷ t2 ∷ t4 ∷ []) (a1 ∷ f2 ∷ t3 ∷ []) o4 _ (
    first e (t0 ∷ f0 ∷ a0 ∷ t1 ∷ f1 ∷ []) (t2 ∷ t4 ∷ a1 ∷ f2 ∷ t3 ∷ []) o5 _ (
    first e (t0 ∷ f0 ∷ []) (t1 ∷ f1 ∷ t2 ∷ t4 ∷ a1 ∷ f2 ∷ t3 ∷ []) a0 _ (
    first e (t0 ∷ f0 ∷ t1 ∷ f1 ∷ t2 ∷ t4 ∷ []) (f2 ∷ t3 ∷ []) a1 _ (
    first e (t0 ∷ []) (t1 ∷ f1 ∷ t2 ∷ t4 ∷ f2 ∷ t3 ∷ []) f0 _ (
    first e (t0 ∷ t1 ∷ []) (t2 ∷ t4 ∷ f2 ∷ t3 ∷ []) f1 _ (
    first e (t0 ∷ t1 ∷ t2 ∷ t4 ∷ []) (t3 ∷ []) f2 _ (
    first e [] (t1 ∷ t2 ∷ t4 ∷ t3 ∷ []) t0 _ (
    first e [] (t2 ∷ t4 ∷ t3 ∷ []) t1 _ (
    first e [] (t4 ∷ t3 ∷ []) t2 _ (
    first e (t4 ∷ []) [] t3 _ (
    first e [] [] t4 [] (IsPermutation-refl [])))))))))))))))))

-- the ranges of a set, put together again
channels_whole : (rest : List SeenEntry) → channel_pieces rest ≡ channel_entries ++ rest
unfolding range channel_pieces
channels_whole rest = refl

objects_whole : (rest : List SeenEntry) → object_pieces rest ≡ objects.entries ++ rest
unfolding range object_pieces objects.entries
objects_whole rest = refl

arrays_whole : (rest : List SeenEntry) → array_pieces rest ≡ arrays.entries ++ rest
unfolding range array_pieces arrays.entries
arrays_whole rest = refl

functions_whole : (rest : List SeenEntry) → function_pieces rest ≡ functions.entries ++ rest
unfolding range function_pieces functions.entries
functions_whole rest = refl

texts_whole : text_pieces [] ≡ texts.entries
unfolding range text_pieces texts.entries
texts_whole = refl

pub whole : IsPermutation all_entries (channel_entries ++ (objects.entries ++ (arrays.entries ++ (functions.entries ++ texts.entries))))
whole =
    subst (λ l. IsPermutation all_entries (channel_entries ++ (objects.entries ++ (arrays.entries ++ (functions.entries ++ l))))) texts_whole
    (subst (λ l. IsPermutation all_entries (channel_entries ++ (objects.entries ++ (arrays.entries ++ l)))) (functions_whole (text_pieces []))
    (subst (λ l. IsPermutation all_entries (channel_entries ++ (objects.entries ++ l))) (arrays_whole (function_pieces (text_pieces [])))
    (subst (λ l. IsPermutation all_entries (channel_entries ++ l)) (objects_whole (array_pieces (function_pieces (text_pieces []))))
    (subst (λ l. IsPermutation all_entries l) (channels_whole (object_pieces (array_pieces (function_pieces (text_pieces []))))) pieces))))

-- ---- the names, as the start objects have them

pub in_their_order : names_found (built_heap all_entries) ≡ names_wanted
unfolding all_entries objects.entries arrays.entries functions.entries texts.entries built_heap with_entries
in_their_order = refl
