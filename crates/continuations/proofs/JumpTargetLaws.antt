-- Continuations, read from the last to the first.
use Rattle.std.proofs.Common.{refl, sym, ap, ◌∙◌, ◌≡◌, ◌≤◌, ◌<◌, ◌+◌, ◌-◌, ℕ, zero, suc, take, slice_index_or, Bool, true, false, ◌&&◌, ◌||◌, List, [], ◌∷◌, ◌++◌, map, length, drop, Option, Some, None, append-nil, append_assoc, arith, if◌then◌else◌}
use Rattle.std.specs.List.{list_any}
use Rattle.std.proofs.lemmas.List.{map-append, length-take-le}
use Rattle.std.specs.Option.{is_some}
use Rattle.origin_labels.specs.Names.{same_name}
use Rattle.js_ast.specs.Trees.{Statement, labelled}
use Rattle.js_ast.specs.Views.{view_stmt}
use Rattle.js_values.specs.declared.ids.EnvId.{EnvId}
use Rattle.js_values.specs.declared.value.Labelled.{Labelled}
use Rattle.es_meaning.specs.Environments.{Env, is_label, same_mark, find_around}
use Rattle.continuations.specs.declared.continuation.Continuation.{Continuation}
use Rattle.continuations.specs.declared.continuation.Continuation.TheVariants as continuation
use Rattle.continuations.specs.JumpTargets.{env_in, last_or, call_of, rounds_of, ended_by, reached_if, ends_round, ends_label, stands_before}
use Rattle.continuations.specs.Kept.{tasks_of, place_of, places_of}
use Rattle.continuations.specs.Pending.{owns, inside, env_above}
use Rattle.continuations.specs.Shapes.{all_labels, labels_at}

-- ---- places

pub places_more : (works : List Continuation) (w : Continuation) → places_of (works ++ w ∷ []) ≡ places_of works ++ place_of w
places_more [] w = append-nil (place_of w)
places_more (v ∷ works) w = ap (λ ps. place_of v ++ ps) (places_more works w) ∙ sym (append_assoc (place_of v) (places_of works) (place_of w))

-- work with a place, and work without one
pub place_added : (works : List Continuation) (w : Continuation) (own : EnvId) (places : List EnvId) → map (λ e. e.0) places ≡ places_of works → place_of w ≡ own.0 ∷ [] → map (λ e. e.0) (places ++ own ∷ []) ≡ places_of (works ++ w ∷ [])
place_added works w own places same own_place = map-append (λ e. e.0) places (own ∷ []) ∙ ap (λ ps. ps ++ own.0 ∷ []) same ∙ ap (λ ps. places_of works ++ ps) (sym own_place) ∙ sym (places_more works w)

pub none_added : (works : List Continuation) (w : Continuation) → place_of w ≡ [] → places_of (works ++ w ∷ []) ≡ places_of works
none_added works w none = places_more works w ∙ ap (λ ps. places_of works ++ ps) none ∙ append-nil (places_of works)

last_behind : (other : ℕ) (ms ns : List ℕ) → last_or other (ms ++ ns) ≡ last_or (last_or other ms) ns
last_behind other [] ns = refl
last_behind other (m ∷ ms) ns = last_behind m ms ns

pub last_place : (front : List EnvId) (own : EnvId) (other : ℕ) → last_or other (map (λ e. e.0) (front ++ own ∷ [])) ≡ own.0
last_place front own other = ap (last_or other) (map-append (λ e. e.0) front (own ∷ [])) ∙ last_behind other (map (λ e. e.0) front) (own.0 ∷ [])

inside_place : (w : Continuation) (e : Env ℕ) → (inside w e).place ≡ last_or e.place (place_of w)
inside_place (continuation.EndRound turn depth of) e = refl
inside_place (continuation.EndLabel depth text) e = refl
inside_place (continuation.EndCall own depth) e = refl
inside_place (continuation.EndNew own depth) e = refl
inside_place (continuation.EndHandler s own depth) e = refl
inside_place w e = refl

pub place_in : (works : List Continuation) (e : Env ℕ) → (env_in works e).place ≡ last_or e.place (places_of works)
unfolding env_in
place_in [] e = refl
place_in (w ∷ works) e = place_in works (inside w e) ∙ ap (λ p. last_or p (places_of works)) (inside_place w e) ∙ sym (last_behind e.place (place_of w) (places_of works))

-- ---- the last of a list

last_at : {X : Type 0} → (xs : List X) (n : ℕ) (d : X) → length xs ≡ suc n → xs ≡ take n xs ++ slice_index_or xs n d ∷ []
last_at [] n d e = absurd (omega (arith, e))
last_at (x ∷ []) zero d e = refl
last_at (x ∷ y ∷ xs) zero d e = absurd (omega (arith, e))
last_at (x ∷ xs) (suc n) d e = ap (λ ys. x ∷ ys) (last_at xs n d (omega (arith, e)))

pub last_behind_front : {X : Type 0} → (xs : List X) (d : X) → 1 ≤ length xs → xs ≡ take (length xs - 1) xs ++ slice_index_or xs (length xs - 1) d ∷ []
last_behind_front xs d some = last_at xs (length xs - 1) d (omega (arith, some))

-- an element that is the last stands behind the others
pub split_last : {X : Type 0} → (xs : List X) (x : X) → 1 ≤ length xs → x ≡ slice_index_or xs (length xs - 1) x → xs ≡ take (length xs - 1) xs ++ x ∷ []
split_last xs x some is = last_behind_front xs x some ∙ ap (λ y. take (length xs - 1) xs ++ y ∷ []) (sym is)

pub none_left : {X : Type 0} → (xs : List X) → length xs < 1 → xs ≡ []
none_left [] none = refl
none_left (x ∷ xs) none = absurd (omega (arith, none))

pub front_fewer : {X : Type 0} → (xs : List X) → 1 ≤ length xs → length (take (length xs - 1) xs) + 1 ≡ length xs
front_fewer xs some = omega (arith, some, length-take-le (length xs - 1) xs (omega arith))

pub place_at : (places : List EnvId) (d : EnvId) (other : ℕ) → 1 ≤ length places → (slice_index_or places (length places - 1) d).0 ≡ last_or other (map (λ e. e.0) places)
place_at places d other some = sym (ap (λ ps. last_or other (map (λ e. e.0) ps)) (last_behind_front places d some) ∙ last_place (take (length places - 1) places) (slice_index_or places (length places - 1) d) other)

pub place_none : (places : List EnvId) (other : ℕ) → length places < 1 → other ≡ last_or other (map (λ e. e.0) places)
place_none [] other none = refl
place_none (p ∷ places) other none = absurd (omega (arith, none))

-- ---- the environment above works, and above the same with operands

pub env_same : {T : Type 0} → (works : List Continuation) (operands : List (Labelled T)) (e : Env ℕ) → env_above (tasks_of works operands) e ≡ env_in works e
unfolding env_in env_above
env_same [] operands e = refl
env_same (w ∷ works) operands e = env_same works (drop (owns w) operands) (inside w e)

pub env_last : (works : List Continuation) (w : Continuation) (e : Env ℕ) → env_in (works ++ w ∷ []) e ≡ inside w (env_in works e)
unfolding env_in
env_last [] w e = refl
env_last (v ∷ works) w e = env_last works w (inside v e)

pub env_none : (e : Env ℕ) → env_in [] e ≡ e
unfolding env_in
env_none e = refl

-- ---- the call

inside_call : (w : Continuation) (e : Env ℕ) (depth : ℕ) → call_of w ≡ Some depth → (inside w e).call ≡ depth
inside_call (continuation.EndCall own depth) e n is = cc is
inside_call (continuation.EndNew own depth) e n is = cc is
inside_call w e n is = cc is

stays_call : (w : Continuation) (e : Env ℕ) → call_of w ≡ None → (inside w e).call ≡ e.call
stays_call (continuation.EndRound turn depth of) e is = refl
stays_call (continuation.EndLabel depth text) e is = refl
stays_call (continuation.EndCall own depth) e is = cc is
stays_call (continuation.EndNew own depth) e is = cc is
stays_call (continuation.EndHandler s own depth) e is = refl
stays_call w e is = refl

pub call_found : (works : List Continuation) (w : Continuation) (e : Env ℕ) (depth : ℕ) → call_of w ≡ Some depth → (env_in (works ++ w ∷ []) e).call ≡ depth
call_found works w e depth is = ap (λ x. x.call) (env_last works w e) ∙ inside_call w (env_in works e) depth is

pub call_passed : (works : List Continuation) (w : Continuation) (e : Env ℕ) → call_of w ≡ None → (env_in (works ++ w ∷ []) e).call ≡ (env_in works e).call
call_passed works w e is = ap (λ x. x.call) (env_last works w e) ∙ stays_call w (env_in works e) is

-- ---- what is round a part

inside_none : (w : Continuation) (e : Env ℕ) (depth : ℕ) → call_of w ≡ Some depth → (inside w e).around ≡ []
inside_none (continuation.EndCall own depth) e n is = refl
inside_none (continuation.EndNew own depth) e n is = refl
inside_none w e n is = cc is

inside_rounds : (w : Continuation) (e : Env ℕ) → call_of w ≡ None → length (inside w e).around ≡ rounds_of w + length e.around
inside_rounds (continuation.EndRound turn depth of) e is = omega arith
inside_rounds (continuation.EndLabel depth text) e is = omega arith
inside_rounds (continuation.EndCall own depth) e is = cc is
inside_rounds (continuation.EndNew own depth) e is = cc is
inside_rounds (continuation.EndHandler s own depth) e is = omega arith
inside_rounds w e is = omega arith

pub at_most_one : (w : Continuation) → rounds_of w ≤ 1
at_most_one (continuation.EndRound turn depth of) = omega arith
at_most_one (continuation.EndLabel depth text) = omega arith
at_most_one w = omega arith

rounds_none : (works : List Continuation) (w : Continuation) (e : Env ℕ) (depth : ℕ) → call_of w ≡ Some depth → length (env_in (works ++ w ∷ []) e).around ≡ 0
rounds_none works w e depth is = ap (λ x. length x.around) (env_last works w e) ∙ ap length (inside_none w (env_in works e) depth is)

pub rounds_more : (works : List Continuation) (w : Continuation) (e : Env ℕ) → call_of w ≡ None → length (env_in (works ++ w ∷ []) e).around ≡ rounds_of w + length (env_in works e).around
rounds_more works w e is = ap (λ x. length x.around) (env_last works w e) ∙ inside_rounds w (env_in works e) is

-- ---- what a jump reaches

-- one more thing round a part is ended, or is passed
found_if : (ends same : Bool) (n to depth : ℕ) (others : Option (ℕ × ℕ)) → ends ≡ same → reached_if ends to ≡ Some depth → (if same then Some (n, to) else others) ≡ Some (n, depth)
found_if true true n to depth others equal is = ap (λ d. Some (n, d)) {x = to} {y = depth} (cc is)
found_if false same n to depth others equal is = cc is
found_if true false n to depth others equal is = cc equal

passed_if : (ends same : Bool) (n to : ℕ) (others : Option (ℕ × ℕ)) → ends ≡ same → reached_if ends to ≡ None → (if same then Some (n, to) else others) ≡ others
passed_if true same n to others equal is = cc is
passed_if false false n to others equal is = refl
passed_if false true n to others equal is = cc equal

-- a single label
alone : (b c : Bool) → (b && c) ≡ (b && (c || false))
alone true true = refl
alone true false = refl
alone false c = refl

inside_found : (turn : Bool) (label : Option (List ℕ)) (w : Continuation) (e : Env ℕ) (depth : ℕ) → ended_by turn label w ≡ Some depth → find_around turn label (inside w e).around ≡ Some (length e.around, depth)
inside_found turn label (continuation.EndRound mark to of) e depth is = found_if (ends_round turn label mark (view_stmt of.now)) _ (length e.around) to depth (find_around turn label e.around) refl is
inside_found turn label (continuation.EndLabel to text) e depth is = found_if (ends_label turn label text.now) _ (length e.around) to depth (find_around turn label e.around) (alone (same_mark turn false) (is_label label (Some text.now))) is
inside_found turn label w e depth is = cc is

inside_passed : (turn : Bool) (label : Option (List ℕ)) (w : Continuation) (e : Env ℕ) → call_of w ≡ None → ended_by turn label w ≡ None → find_around turn label (inside w e).around ≡ find_around turn label e.around
inside_passed turn label (continuation.EndRound mark to of) e none is = passed_if (ends_round turn label mark (view_stmt of.now)) _ (length e.around) to (find_around turn label e.around) refl is
inside_passed turn label (continuation.EndLabel to text) e none is = passed_if (ends_label turn label text.now) _ (length e.around) to (find_around turn label e.around) (alone (same_mark turn false) (is_label label (Some text.now))) is
inside_passed turn label (continuation.EndCall own depth) e none is = cc none
inside_passed turn label (continuation.EndNew own depth) e none is = cc none
inside_passed turn label (continuation.EndHandler s own depth) e none is = refl
inside_passed turn label w e none is = refl

pub reached_found : (turn : Bool) (label : Option (List ℕ)) (works : List Continuation) (w : Continuation) (e : Env ℕ) (depth : ℕ) → ended_by turn label w ≡ Some depth → find_around turn label (env_in (works ++ w ∷ []) e).around ≡ Some (length (env_in works e).around, depth)
reached_found turn label works w e depth is = ap (λ x. find_around turn label x.around) (env_last works w e) ∙ inside_found turn label w (env_in works e) depth is

pub reached_passed : (turn : Bool) (label : Option (List ℕ)) (works : List Continuation) (w : Continuation) (e : Env ℕ) → call_of w ≡ None → ended_by turn label w ≡ None → find_around turn label (env_in (works ++ w ∷ []) e).around ≡ find_around turn label (env_in works e).around
reached_passed turn label works w e none is = ap (λ x. find_around turn label x.around) (env_last works w e) ∙ inside_passed turn label w (env_in works e) none is

reached_none : (turn : Bool) (label : Option (List ℕ)) (works : List Continuation) (w : Continuation) (e : Env ℕ) (depth : ℕ) → call_of w ≡ Some depth → find_around turn label (env_in (works ++ w ∷ []) e).around ≡ None
reached_none turn label works w e depth is = ap (λ x. find_around turn label x.around) (env_last works w e) ∙ ap (find_around turn label) (inside_none w (env_in works e) depth is)

-- a call ends the walk, and other work doesn't
pub rounds_ended : (works : List Continuation) (w : Continuation) (e : Env ℕ) (call : Option ℕ) → call ≡ call_of w → true ≡ is_some call → length (env_in (works ++ w ∷ []) e).around ≡ 0
rounds_ended works w e (Some depth) same is = rounds_none works w e depth (sym same)
rounds_ended works w e None same is = cc is

pub reached_ended : (turn : Bool) (label : Option (List ℕ)) (works : List Continuation) (w : Continuation) (e : Env ℕ) (call : Option ℕ) → call ≡ call_of w → true ≡ is_some call → find_around turn label (env_in (works ++ w ∷ []) e).around ≡ None
reached_ended turn label works w e (Some depth) same is = reached_none turn label works w e depth (sym same)
reached_ended turn label works w e None same is = cc is

pub no_call : (w : Continuation) (call : Option ℕ) → call ≡ call_of w → false ≡ is_some call → call_of w ≡ None
no_call w (Some depth) same is = cc is
no_call w None same is = sym same

-- ---- labels in front of a statement

or_last : (a b c : Bool) → ((a || b) || c) ≡ (a || (b || c))
or_last true b c = refl
or_last false b c = refl

or_none : (a : Bool) → (a || false) ≡ a
or_none true = refl
or_none false = refl

any_all : (p : List ℕ → Bool) (labels : List (List ℕ)) (s : Statement) → list_any p (all_labels labels s) ≡ (list_any p (all_labels [] s) || list_any p labels)
unfolding all_labels
any_all p labels (labelled at text s) = any_all p (text ∷ labels) s ∙ sym (ap (λ b. b || list_any p labels) (any_all p (text ∷ []) s) ∙ or_last (list_any p (all_labels [] s)) (p text || false) (list_any p labels) ∙ ap (λ b. list_any p (all_labels [] s) || (b || list_any p labels)) (or_none (p text)))
any_all p labels s = refl

or_swap : (a b : Bool) → (a || b) ≡ (b || (a || false))
or_swap true true = refl
or_swap true false = refl
or_swap false true = refl
or_swap false false = refl

stands_in : (x : List ℕ) (s : Statement) → stands_before x s ≡ list_any (λ l. same_name x l) (all_labels [] s)
unfolding all_labels
stands_in x (labelled at text s) = or_swap (same_name x text) (stands_before x s) ∙ ap (λ b. b || (same_name x text || false)) (stands_in x s) ∙ sym (any_all (λ l. same_name x l) (text ∷ []) s)
stands_in x s = refl

texts_alike : (x : List ℕ) (labels : List (List ℕ)) → list_any (λ l. is_label (Some x) l) (map Some labels) ≡ list_any (λ l. same_name x l) labels
texts_alike x [] = refl
texts_alike x (l ∷ labels) = ap (λ b. same_name x l || b) (texts_alike x labels)

-- a jump with a label reaches what has it in front
pub left_by_text : (x : List ℕ) (s : Statement) → stands_before x s ≡ list_any (λ l. is_label (Some x) l) (labels_at s)
left_by_text x s = stands_in x s ∙ sym (texts_alike x (all_labels [] s))
