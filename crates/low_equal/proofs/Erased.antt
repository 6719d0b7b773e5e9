-- A labelled computation without its labels is the unlabelled computation: what that says of each, what the unlabelled one knows of frames, and how
-- it lasts when computations follow each other and stand in frames.
use Rattle.std.proofs.Common.{◌≡◌, ℕ, zero, suc, ◌+◌, ◌≤◌, Bool, true, false, ◌||◌, cond, nat_lt, List, [], ◌∷◌, ◌++◌, map, length, take, drop, refl, sym, ◌∙◌, ap, ap₂, subst, true≢false, arith}
use Rattle.std.proofs.lemmas.Bool.{lt-ltb, le-ltb}
use Rattle.std.proofs.lemmas.List.{append_assoc, append-nil, length-append, length-map, length-drop, drop_all, take_all, take_at, take-append-le, drop-append-le, take-map, drop-map, map_push}
use Rattle.origin_labels.specs.Label.{Label, bottom, within}
use Rattle.flow_frames.specs.declared.kind.Kind.{Kind}
use Rattle.flow_frames.specs.declared.kind.Kind.TheVariants as kind
use Rattle.flow_frames.specs.declared.faults.Rule.{Rule}
use Rattle.flow_frames.specs.declared.faults.Rule.TheVariants.{W9}
use Rattle.flow_frames.specs.Frames.{Frame}
use Rattle.flow_frames.specs.Kinds.{is_try}
use Rattle.flow_frames.specs.Changes.{pushed, changed_at, raised}
use Rattle.js_values.specs.declared.value.Value.{Value}
use Rattle.es_meaning.specs.Outcomes as es
use Rattle.es_meaning.specs.Outcomes.{Exit, throws, returns, leaves, Outcome, Goes, Jumps, Ends, ret, and_then, ◌>>=◌}
use Rattle.es_meaning.specs.Operations.{Ty, One, Res}
use Rattle.es_meaning.specs.Operations.{Value as a_value}
use Rattle.es_meaning.specs.Plain as plain
use Rattle.es_meaning.specs.Plain.{Line, State, P, choose, leaves_it, is_return, ended_round}
use Rattle.flow_meaning.specs.Erased.{erased_heap, erased_records, unlabelled}
use Rattle.flow_meaning.specs.Scopes as tracked
use Rattle.flow_meaning.specs.Scopes.{Val, Halt, as_plain, stopped, L, guard, under, pushed_on, cut_to, innermost, raised_in, raise, catching, reached, jump_to, jump, Came, ended, caught, Left, popped, scope, given_by, depending, settled, settled_value}
use Rattle.low_equal.specs.Erasure.{erased_lines}

-- ---- what is left without labels

abbrev pub erased_result : (t : Ty) → Res Val t → Res Value t
erased_result One a = tt
erased_result a_value v = v.value

abbrev pub erased_jump : tracked.Jump → plain.Jump
erased_jump j = record { exit = j.exit; value = j.value.value }

abbrev pub erased : tracked.State → State
erased s = record { heap = erased_heap s.heap; records = erased_records s.records; positions = s.positions; lines = erased_lines s.lines; turns = s.turns }

-- ---- the lines of an unlabelled computation

abbrev pub lines_behind : {X : Type 0} → Outcome es.Halt plain.Jump X State → List Line
lines_behind (Goes a s) = s.lines
lines_behind (Jumps j s) = s.lines
lines_behind (Ends halt s) = s.lines

-- the lines behind begin with these
pub record Extends {X : Type 0} (lines : List Line) (outcome : Outcome es.Halt plain.Jump X State) : Type 0 where
  pub rest : List Line
  pub lines_are : lines_behind outcome ≡ lines ++ rest

-- a computation that prints nothing
pub goes_extends : {X : Type 0} (a : X) (s : State) → Extends s.lines (Goes a s)
goes_extends a s = record { rest = []; lines_are = sym (append-nil s.lines) }

-- a jump prints nothing
pub jumps_extends : {X : Type 0} (j : plain.Jump) (s : State) → Extends {X = X} s.lines (Jumps j s)
jumps_extends j s = record { rest = []; lines_are = sym (append-nil s.lines) }

-- an end prints nothing
pub ends_extends : {X : Type 0} (halt : es.Halt) (s : State) → Extends {X = X} s.lines (Ends halt s)
ends_extends halt s = record { rest = []; lines_are = sym (append-nil s.lines) }

-- a front of a front is a front
pub extends_more : {X : Type 0} (lines more rest : List Line) (outcome : Outcome es.Halt plain.Jump X State) → more ≡ lines ++ rest → Extends more outcome → Extends lines outcome
extends_more lines more rest outcome e x = record { rest = rest ++ x.rest; lines_are = x.lines_are ∙ ap (λ ls. ls ++ x.rest) e ∙ append_assoc lines rest x.rest }

-- computations that follow each other keep the front of the lines
pub extends_bind : {X Y : Type 0} (lines : List Line) (o : Outcome es.Halt plain.Jump X State) (g : X → P Y) → Extends lines o → ((a : X) (s : State) → Extends s.lines (g a s)) → Extends lines (and_then o g)
extends_bind lines (Goes a s) g x h = extends_more lines s.lines x.rest (g a s) x.lines_are (h a s)
extends_bind lines (Jumps j s) g x h = record { rest = x.rest; lines_are = x.lines_are }
extends_bind lines (Ends halt s) g x h = record { rest = x.rest; lines_are = x.lines_are }

-- ---- marks: what the unlabelled computation knows of a frame

pub data Mark : Type 0 where
  -- each jump passes it
  passes : Mark
  -- returns stop at it
  calls : Mark
  -- what leaves the scope with this number stops at it
  rounds : ℕ → Mark
  -- each jump stops at it, where it is active
  tries : Bool → Mark

abbrev pub active : Mark → Bool
active passes = false
active calls = false
active (rounds n) = false
active (tries b) = b

-- the mark is what the exit aims at
abbrev pub is_aim : Exit → Mark → Bool
is_aim j passes = false
is_aim j calls = is_return j
is_aim j (rounds n) = leaves_it n j
is_aim j (tries b) = false

-- a jump with the exit stops at the mark
abbrev pub catches : Exit → Mark → Bool
catches j m = is_aim j m || active m

-- the depth of the frame that an exit aims at, where marks stand round it, the innermost first, and the Root round them all
abbrev pub aim : Exit → List Mark → ℕ
aim j [] = 0
aim j (m ∷ w) = cond (is_aim j m) (suc (length w)) (aim j w)

-- the marks from the one on at which a jump stops
abbrev pub first : Exit → List Mark → List Mark
first j [] = []
first j (m ∷ w) = cond (catches j m) (m ∷ w) (first j w)

-- whether the frames of the marks are active, the Root and then outermost first
abbrev pub actives : List Mark → List Bool
actives [] = false ∷ []
actives (m ∷ w) = actives w ++ active m ∷ []

-- whether frames are active
abbrev pub activity : List Frame → List Bool
activity frames = map (λ f. f.active) frames

-- the frames are the Root and those of the marks
pub record Shaped (w : List Mark) (frames : List Frame) : Type 0 where
  pub shape : activity frames ≡ actives w

-- ---- by tests

-- the first of two, or the second
pub cond_true : {A : Type 0} (b : Bool) (x y : A) → b ≡ true → cond b x y ≡ x
cond_true true x y e = refl
cond_true false x y e = absurd (true≢false (sym e))

pub cond_false : {A : Type 0} (b : Bool) (x y : A) → b ≡ false → cond b x y ≡ y
cond_false true x y e = absurd (true≢false e)
cond_false false x y e = refl

-- and the same of `choose`
pub choose_true : {A : Type 0} (b : Bool) (x y : A) → b ≡ true → choose b x y ≡ x
choose_true true x y e = refl
choose_true false x y e = absurd (true≢false (sym e))

pub choose_false : {A : Type 0} (b : Bool) (x y : A) → b ≡ false → choose b x y ≡ y
choose_false true x y e = absurd (true≢false e)
choose_false false x y e = refl

-- a case for each answer
pub by_test : {A : Type 0} (b : Bool) → (b ≡ true → A) → (b ≡ false → A) → A
by_test true h k = h refl
by_test false h k = k refl

-- ---- depths and marks

-- one more than the marks, which is the Root
pub length_actives : (w : List Mark) → length (actives w) ≡ suc (length w)
length_actives [] = refl
length_actives (m ∷ w) = let h = length_actives w in let e = length-append (actives w) (active m ∷ []) in omega arith

-- as many frames as marks, and the Root
pub length_shaped : {w : List Mark} {frames : List Frame} → Shaped w frames → length frames ≡ suc (length w)
length_shaped {w} {frames} r = sym (length-map frames (λ f. f.active)) ∙ ap length r.shape ∙ length_actives w

-- a jump aims at no frame inside all marks
aim_most : (j : Exit) (w : List Mark) → aim j w ≤ length w
aim_most j [] = omega arith
aim_most j (m ∷ w) = by_case (is_aim j m) (aim_most j w)
  where
    by_case : (b : Bool) → aim j w ≤ length w → cond b (suc (length w)) (aim j w) ≤ suc (length w)
    by_case true h = omega arith
    by_case false h = omega arith

-- nor does it stop inside them
pub first_most : (j : Exit) (w : List Mark) → length (first j w) ≤ length w
first_most j [] = omega arith
first_most j (m ∷ w) = by_case (catches j m) (first_most j w)
  where
    by_case : (b : Bool) → length (first j w) ≤ length w → length (cond b (m ∷ w) (first j w)) ≤ suc (length w)
    by_case true h = omega arith
    by_case false h = omega arith

-- where a jump goes first, by the activity of frames alone
abbrev catching_by : ℕ → ℕ → List Bool → ℕ
catching_by depth best [] = best
catching_by depth best (a ∷ bs) = catching_by (suc depth) (cond a depth best) bs

-- the frame that a jump reaches first
abbrev reached_by : ℕ → List Bool → ℕ
reached_by to bs = catching_by (suc to) to (drop (suc to) bs)

-- labels and kinds of frames play no part in it
catching_is : (depth best : ℕ) (frames : List Frame) → catching depth best frames ≡ catching_by depth best (activity frames)
catching_is depth best [] = refl
catching_is depth best (f ∷ frames) = catching_is (suc depth) (cond f.active depth best) frames

reached_is : (to : ℕ) (frames : List Frame) → reached to frames ≡ reached_by to (activity frames)
reached_is to frames = catching_is (suc to) to (drop (suc to) frames) ∙ ap (catching_by (suc to) to) (sym (drop-map (λ f. f.active) (suc to) frames))

-- with one more frame inside
catching_last : (depth best : ℕ) (bs : List Bool) (a : Bool) → catching_by depth best (bs ++ a ∷ []) ≡ cond a (depth + length bs) (catching_by depth best bs)
catching_last depth best [] a = ap (λ n. cond a n best) (let e : depth ≡ depth + 0 = omega arith in e)
catching_last depth best (b ∷ bs) a = catching_last (suc depth) (cond b depth best) bs a
    ∙ ap (λ n. cond a n (catching_by (suc depth) (cond b depth best) bs)) (let e : suc depth + length bs ≡ depth + suc (length bs) = omega arith in e)

-- past the last frame
reached_past : (to : ℕ) (bs : List Bool) → length bs ≤ suc to → reached_by to bs ≡ to
reached_past to bs le = ap (catching_by (suc to) to) (drop_all (suc to) bs le)

-- not past it
reached_last : (to : ℕ) (bs : List Bool) (a : Bool) → suc to ≤ length bs → reached_by to (bs ++ a ∷ []) ≡ cond a (length bs) (reached_by to bs)
reached_last to bs a le =
    ap (catching_by (suc to) to) (drop-append-le (suc to) bs (a ∷ []) le)
    ∙ catching_last (suc to) to (drop (suc to) bs) a
    ∙ ap (λ n. cond a n (reached_by to bs)) (let e = length-drop (suc to) bs in let q : suc to + length (drop (suc to) bs) ≡ length bs = omega arith in q)

-- a jump first reaches the frame of the mark at which it stops
reached_marks : (j : Exit) (w : List Mark) → reached_by (aim j w) (actives w) ≡ length (first j w)
reached_marks j [] = refl
reached_marks j (m ∷ w) = by_test (is_aim j m) aimed (passed (reached_marks j w))
  where
    aimed : is_aim j m ≡ true → reached_by (cond (is_aim j m) (suc (length w)) (aim j w)) (actives w ++ active m ∷ []) ≡ length (cond (is_aim j m || active m) (m ∷ w) (first j w))
    aimed e =
        ap (λ n. reached_by n (actives w ++ active m ∷ [])) (cond_true (is_aim j m) _ _ e)
        ∙ reached_past (suc (length w)) (actives w ++ active m ∷ []) (let h = length_actives w in let q = length-append (actives w) (active m ∷ []) in omega arith)
        ∙ sym (ap (λ b. length (cond (b || active m) (m ∷ w) (first j w))) e)

    passed : reached_by (aim j w) (actives w) ≡ length (first j w) → is_aim j m ≡ false → reached_by (cond (is_aim j m) (suc (length w)) (aim j w)) (actives w ++ active m ∷ []) ≡ length (cond (is_aim j m || active m) (m ∷ w) (first j w))
    passed ih e =
        ap (λ n. reached_by n (actives w ++ active m ∷ [])) (cond_false (is_aim j m) _ _ e)
        ∙ reached_last (aim j w) (actives w) (active m) (let h = length_actives w in let k = aim_most j w in omega arith)
        ∙ by_case (active m)
        ∙ sym (ap (λ b. length (cond (b || active m) (m ∷ w) (first j w))) e)
      where
        by_case : (a : Bool) → cond a (length (actives w)) (reached_by (aim j w) (actives w)) ≡ length (cond a (m ∷ w) (first j w))
        by_case true = length_actives w
        by_case false = ih

-- and so it is in frames of these marks
pub reached_first : (j : Exit) {w : List Mark} {frames : List Frame} → Shaped w frames → reached (aim j w) frames ≡ length (first j w)
reached_first j {w} {frames} r = reached_is (aim j w) frames ∙ ap (reached_by (aim j w)) r.shape ∙ reached_marks j w

-- the frames up to that
take_marks : (j : Exit) (w : List Mark) → take (suc (length (first j w))) (actives w) ≡ actives (first j w)
take_marks j [] = refl
take_marks j (m ∷ w) = by_case (catches j m) (take_marks j w)
  where
    by_case : (b : Bool) → take (suc (length (first j w))) (actives w) ≡ actives (first j w)
        → take (suc (length (cond b (m ∷ w) (first j w)))) (actives w ++ active m ∷ []) ≡ actives (cond b (m ∷ w) (first j w))
    by_case true h = take_all (suc (suc (length w))) (actives w ++ active m ∷ []) (let h = length_actives w in let q = length-append (actives w) (active m ∷ []) in omega arith)
    by_case false h = take-append-le (suc (length (first j w))) (actives w) (active m ∷ []) (let k = length_actives w in let q = first_most j w in omega arith) ∙ h

-- and so it is of frames of these marks
pub cut_first : (j : Exit) {w : List Mark} {frames : List Frame} → Shaped w frames → Shaped (first j w) (take (suc (length (first j w))) frames)
cut_first j {w} {frames} r = record { shape = sym (take-map (λ f. f.active) (suc (length (first j w))) frames) ∙ ap (take (suc (length (first j w)))) r.shape ∙ take_marks j w }

-- the frame of the innermost mark is popped
cut_mark : {m : Mark} {w : List Mark} {frames : List Frame} → Shaped (m ∷ w) frames → Shaped w (take (suc (length w)) frames)
cut_mark {m} {w} {frames} r = record {
  shape =
      sym (take-map (λ f. f.active) (suc (length w)) frames) ∙ ap (take (suc (length w))) r.shape ∙ take_at (actives w) (active m ∷ []) (suc (length w)) (length_actives w);
}

-- no frame is inside these
cut_none : {w : List Mark} {frames : List Frame} (depth : ℕ) → length frames ≤ depth → Shaped w frames → Shaped w (take depth frames)
cut_none {w} {frames} depth le r = subst (Shaped w) (sym (take_all depth frames le)) r

-- a frame is pushed
pub pushed_shaped : (m : Mark) (k : Kind) (label : Label) {w : List Mark} {frames : List Frame} → is_try k ≡ active m → Shaped w frames → Shaped (m ∷ w) (frames ++ pushed k label ∷ [])
pushed_shaped m k label {w} {frames} e r = record { shape = map_push (λ f. f.active) frames (pushed k label) ∙ ap₂ (λ bs a. bs ++ a ∷ []) r.shape e }

-- labels are joined to that of a frame
raised_active : (frames : List Frame) (depth : ℕ) (label : Label) → activity (raised frames depth label) ≡ activity frames
unfolding changed_at
raised_active [] depth label = refl
raised_active (f ∷ frames) zero label = refl
raised_active (f ∷ frames) (suc depth) label = ap (λ bs. f.active ∷ bs) (raised_active frames depth label)

-- which changes no shape
pub raised_shaped : (depth : ℕ) (label : Label) {w : List Mark} {frames : List Frame} → Shaped w frames → Shaped w (raised frames depth label)
raised_shaped depth label {w} {frames} r = record { shape = raised_active frames depth label ∙ r.shape }

-- throws aim at the Root
pub aim_throws : (w : List Mark) → aim throws w ≡ 0
aim_throws [] = refl
aim_throws (passes ∷ w) = aim_throws w
aim_throws (calls ∷ w) = aim_throws w
aim_throws (rounds n ∷ w) = aim_throws w
aim_throws (tries b ∷ w) = aim_throws w

-- ---- outcomes and computations

-- the outcome without labels is the other, where a jump goes to the frame of the mark that the other stops at; or a broken rule stopped it, and its
-- lines are a front of the other's. What it gives is without labels what the other gives
pub data YieldsBy {X Y : Type 0} (erase : X → Y) (w : List Mark) : Outcome Halt tracked.Jump X tracked.State → Outcome es.Halt plain.Jump Y State → Type 0 where
  goes : {a : X} {s : tracked.State} → Shaped w s.frames → YieldsBy erase w (Goes a s) (Goes (erase a) (erased s))
  jumps : {j : tracked.Jump} {s : tracked.State} → Shaped (first j.exit w) s.frames → j.to ≡ aim j.exit w → YieldsBy erase w (Jumps j s) (Jumps (erased_jump j) (erased s))
  ends : {halt : es.Halt} {s : tracked.State} → YieldsBy erase w (Ends (as_plain halt) s) (Ends halt (erased s))
  stops : {rule : Rule} {need have : Label} {s : tracked.State} {p : Outcome es.Halt plain.Jump Y State} → within need have ≡ false → Extends (erased_lines s.lines) p
      → YieldsBy erase w (Ends (stopped rule need have) s) p

abbrev pub Yields : (t : Ty) → List Mark → Outcome Halt tracked.Jump (Res Val t) tracked.State → Outcome es.Halt plain.Jump (Res Value t) State → Type 0
Yields t w o p = YieldsBy (erased_result t) w o p

-- from each state with the frames of these marks the labelled computation yields what the unlabelled one does, and the unlabelled one only adds lines
pub record LiftBy {X Y : Type 0} (erase : X → Y) (w : List Mark) (m : L X) (n : P Y) : Type 0 where
  pub yields : (s : tracked.State) → Shaped w s.frames → YieldsBy erase w (m s) (n (erased s))
  pub extends : (s : State) → Extends s.lines (n s)

abbrev pub Lift : (t : Ty) → List Mark → L (Res Val t) → P (Res Value t) → Type 0
Lift t w m n = LiftBy (erased_result t) w m n

-- outcomes that go on, by equations
pub goes_to : {X Y : Type 0} {erase : X → Y} {w : List Mark} {a : X} {s : tracked.State} {b : Y} {u : State} → Shaped w s.frames → erase a ≡ b → erased s ≡ u → YieldsBy erase w (Goes a s) (Goes b u)
goes_to {erase = erase} {w = w} {a = a} {s = s} {u = u} r p q = subst (λ x. YieldsBy erase w (Goes a s) (Goes x u)) p (subst (λ x. YieldsBy erase w (Goes a s) (Goes (erase a) x)) q (goes r))

-- what a labelled computation gives is given without labels
pub ret_by : {X Y : Type 0} {erase : X → Y} {w : List Mark} (a : X) (b : Y) → erase a ≡ b → LiftBy erase w (ret a) (ret b)
ret_by a b e = record { yields = λ s r. goes_to r e refl; extends = goes_extends b }

pub ret_lifts : (t : Ty) (w : List Mark) (a : Res Val t) (b : Res Value t) → erased_result t a ≡ b → Lift t w (ret a) (ret b)
ret_lifts t w a b e = ret_by a b e

-- computations that follow each other, at one outcome
pub yields_bind : {X Y A B : Type 0} {erase : X → Y} {others : A → B} {w : List Mark} {o : Outcome Halt tracked.Jump X tracked.State} {p : Outcome es.Halt plain.Jump Y State} (f : X → L A) (g : Y → P B)
    → YieldsBy erase w o p → ((a : X) → LiftBy others w (f a) (g (erase a))) → ((a : Y) (s : State) → Extends s.lines (g a s)) → YieldsBy others w (and_then o f) (and_then p g)
yields_bind f g (goes {a = a} {s = s} r) h k = (h a).yields s r
yields_bind f g (jumps r e) h k = jumps r e
yields_bind f g ends h k = ends
yields_bind f g (stops {p = p} broken x) h k = stops broken (extends_bind _ p g x k)

-- computations that follow each other, where each unlabelled result is that of a labelled one
pub bind_by : {X Y A B : Type 0} {erase : X → Y} {others : A → B} {w : List Mark} (back : Y → X) → ((y : Y) → erase (back y) ≡ y) → {m : L X} {n : P Y} (f : X → L A) (g : Y → P B)
    → LiftBy erase w m n → ((a : X) → LiftBy others w (f a) (g (erase a))) → LiftBy others w (m >>= f) (n >>= g)
bind_by back is {n = n} f g l h =
    let more : (a : _) (s : State) → Extends s.lines (g a s) = λ a s. subst (λ x. Extends s.lines (g x s)) (is a) ((h (back a)).extends s) in
    record { yields = λ s r. yields_bind f g (l.yields s r) h more; extends = λ s. extends_bind s.lines (n s) g (l.extends s) more }

-- each unlabelled result is that of a labelled one
labelled_result : (t : Ty) → Res Value t → Res Val t
labelled_result One a = tt
labelled_result a_value v = unlabelled v

-- without its label, that labelled result is the unlabelled one
labelled_result_is : (t : Ty) (a : Res Value t) → erased_result t (labelled_result t a) ≡ a
unfolding labelled_result
labelled_result_is One a = refl
labelled_result_is a_value v = refl

-- computations that follow each other
pub bind_lifts : (t u : Ty) (w : List Mark) {m : L (Res Val t)} {n : P (Res Value t)} (f : Res Val t → L (Res Val u)) (g : Res Value t → P (Res Value u))
    → Lift t w m n → ((a : Res Val t) → Lift u w (f a) (g (erased_result t a))) → Lift u w (m >>= f) (n >>= g)
bind_lifts t u w f g l h = bind_by (labelled_result t) (labelled_result_is t) f g l h

-- where the test of a rule has this answer, the run goes on as what the rule guards, or stops
guard_yields : {X Y : Type 0} {erase : X → Y} {w : List Mark} (b : Bool) (rule : Rule) (need have : Label) (m : L X) (s : tracked.State) {p : Outcome es.Halt plain.Jump Y State}
    → within need have ≡ b → YieldsBy erase w (m s) p → Extends (erased_lines s.lines) p → YieldsBy erase w (guard b rule need have m s) p
unfolding guard
guard_yields true rule need have m s e y x = y
guard_yields false rule need have m s e y x = stops e x

-- a rule goes on as what it guards, or stops
pub under_yields : {X Y : Type 0} {erase : X → Y} {w : List Mark} (rule : Rule) (need have : Label) (m : L X) (s : tracked.State) {p : Outcome es.Halt plain.Jump Y State}
    → YieldsBy erase w (m s) p → Extends (erased_lines s.lines) p → YieldsBy erase w (under rule need have m s) p
under_yields rule need have m s y x = guard_yields (within need have) rule need have m s refl y x

-- ---- jumps

-- a jump that aims at the frame of its exit
pub jump_yields : {X Y : Type 0} {erase : X → Y} {w : List Mark} (cause : Label) (j : tracked.Jump) (s : tracked.State) → j.to ≡ aim j.exit w → Shaped w s.frames → YieldsBy erase w (jump cause j s) (Jumps (erased_jump j) (erased s))
unfolding jump jump_to
jump_yields {w = w} cause j s e r =
    let there : reached j.to s.frames ≡ length (first j.exit w) = ap (λ to. reached to s.frames) e ∙ reached_first j.exit r in
    under_yields W9 _ _ _ s (jumps (subst (λ depth. Shaped (first j.exit w) (take (suc depth) s.frames)) (sym there) (cut_first j.exit r)) e) (jumps_extends (erased_jump j) (erased s))

-- ---- scopes

-- one of two
pub choose_lifts : {X Y : Type 0} {erase : X → Y} {w : List Mark} (b : Bool) {m n : L X} {m' n' : P Y} → LiftBy erase w m m' → LiftBy erase w n n' → LiftBy erase w (choose b m n) (choose b m' n')
choose_lifts true h k = h
choose_lifts false h k = k

-- the frame of a mark is popped, and the unlabelled outcome is as it came to it
pub data Pops (t : Ty) (m : Mark) (w : List Mark) : Outcome Halt tracked.Jump (Left (Res Val t)) tracked.State → Outcome es.Halt plain.Jump (Res Value t) State → Type 0 where
  went : {label : Label} {a : Res Val t} {s : tracked.State} → Shaped w s.frames → Pops t m w (Goes (record { label = label; how = ended a }) s) (Goes (erased_result t a) (erased s))
  stayed : {label : Label} {j : tracked.Jump} {s : tracked.State} → catches j.exit m ≡ true → Shaped w s.frames → Pops t m w (Goes (record { label = label; how = caught j }) s) (Jumps (erased_jump j) (erased s))
  passed : {j : tracked.Jump} {s : tracked.State} → catches j.exit m ≡ false → Shaped (first j.exit w) s.frames → j.to ≡ aim j.exit w → Pops t m w (Jumps j s) (Jumps (erased_jump j) (erased s))
  halts : {halt : es.Halt} {s : tracked.State} → Pops t m w (Ends (as_plain halt) s) (Ends halt (erased s))
  breaks : {rule : Rule} {need have : Label} {s : tracked.State} {p : Outcome es.Halt plain.Jump (Res Value t) State} → within need have ≡ false → Extends (erased_lines s.lines) p
      → Pops t m w (Ends (stopped rule need have) s) p

-- what a mark doesn't catch doesn't aim at it
pub not_aimed : (j : Exit) (m : Mark) → catches j m ≡ false → is_aim j m ≡ false
not_aimed j m e = by_case (is_aim j m) e
  where
    by_case : (b : Bool) → (b || active m) ≡ false → b ≡ false
    by_case true q = q
    by_case false q = refl

-- the frame is popped
pub popped_pops : {t : Ty} {m : Mark} {w : List Mark} {o : Outcome Halt tracked.Jump (Res Val t) tracked.State} {p : Outcome es.Halt plain.Jump (Res Value t) State} → Yields t (m ∷ w) o p → Pops t m w (popped (suc (length w)) o) p
unfolding popped
popped_pops (goes r) = went (cut_mark r)
popped_pops {t} {m} {w} (jumps {j = j} {s = s} r e) = by_test (catches j.exit m) here beyond
  where
    here : catches j.exit m ≡ true → Pops t m w (popped {X = Res Val t} (suc (length w)) (Jumps j s)) (Jumps (erased_jump j) (erased s))
    here c =
        let inside : Shaped (m ∷ w) s.frames = subst (λ x. Shaped x s.frames) (cond_true (catches j.exit m) (m ∷ w) (first j.exit w) c) r in
        subst (λ o. Pops t m w o (Jumps (erased_jump j) (erased s))) (sym (choose_true (nat_lt (suc (length w)) (length s.frames)) _ _ (lt-ltb (suc (length w)) (length s.frames) (let h = length_shaped inside in omega arith)))) (stayed c (cut_mark inside))

    beyond : catches j.exit m ≡ false → Pops t m w (popped {X = Res Val t} (suc (length w)) (Jumps j s)) (Jumps (erased_jump j) (erased s))
    beyond c =
        let outside : Shaped (first j.exit w) s.frames = subst (λ x. Shaped x s.frames) (cond_false (catches j.exit m) (m ∷ w) (first j.exit w) c) r in
        let few : length s.frames ≤ suc (length w) = (let h = length_shaped outside in let k = first_most j.exit w in omega arith) in
        subst (λ o. Pops t m w o (Jumps (erased_jump j) (erased s))) (sym (choose_false (nat_lt (suc (length w)) (length s.frames)) _ _ (le-ltb (suc (length w)) (length s.frames) few)))
        (passed c (cut_none (suc (length w)) few outside) (e ∙ cond_false (is_aim j.exit m) _ _ (not_aimed j.exit m c)))
popped_pops ends = halts
popped_pops (stops broken x) = breaks broken x

-- what is done in a frame of its own
pub scope_pops : {t : Ty} {w : List Mark} (m : Mark) (k : Kind) (label : Label) → is_try k ≡ active m → (f : ℕ → L (Res Val t)) (g : P (Res Value t)) → Lift t (m ∷ w) (f (suc (length w))) g
    → (s : tracked.State) → Shaped w s.frames → Pops t m w (scope k label f s) (g (erased s))
scope_pops {t} {w} m k label a f g h s r =
    subst (λ depth. Pops t m w (popped depth (f depth (pushed_on k label s))) (g (erased s))) (sym (length_shaped r)) (popped_pops (h.yields (pushed_on k label s) (pushed_shaped m k label a r)))

-- a frame that no jump stops at: its end is the computation's
pub passing_yields : {t : Ty} {m : Mark} {w : List Mark} {o : Outcome Halt tracked.Jump (Left (Res Val t)) tracked.State} {p : Outcome es.Halt plain.Jump (Res Value t) State} (f : Left (Res Val t) → Res Val t)
    → ((label : Label) (a : Res Val t) → erased_result t (f (record { label = label; how = ended a })) ≡ erased_result t a) → ((j : Exit) → catches j m ≡ true → ⊥) → Pops t m w o p → Yields t w (and_then o (λ c. ret (f c))) p
passing_yields f same never (went {label = label} {a = a} r) = goes_to r (same label a) refl
passing_yields f same never (stayed {j = j} c r) = absurd (never j.exit c)
passing_yields f same never (passed c r e) = jumps r e
passing_yields f same never halts = ends
passing_yields f same never (breaks broken x) = stops broken x

-- the label that a branch adds to its result
settled_is : (t : Ty) (label : Label) (a : Res Val t) → erased_result t (settled t (record { label = label; how = ended a })) ≡ erased_result t a
settled_is One label a = refl
settled_is a_value label a = refl

-- no jump stops at a frame that neither is aimed at nor is active
pub not_caught : false ≡ true → ⊥
not_caught e = true≢false (sym e)

-- a branch is one of two
pub fork_lifts : (t : Ty) {w : List Mark} (v : Val) (b : Bool) {m n : L (Res Val t)} {m' n' : P (Res Value t)} → Lift t (passes ∷ w) m m' → Lift t (passes ∷ w) n n'
    → Lift t w (scope kind.Branch v.label (λ depth. choose b m n) >>= λ c. ret (settled t c)) (choose b m' n')
fork_lifts t v b {m} {n} {m'} {n'} h k =
    let l = choose_lifts b h k in
    record { yields = λ s r. passing_yields (settled t) (settled_is t) (λ j. not_caught) (scope_pops passes kind.Branch v.label refl (λ depth. choose b m n) (choose b m' n') l s r); extends = l.extends }

-- a value that is given in a frame of its own, at which no jump stops
pub frame_lifts : {w : List Mark} (k : Kind) (label : Label) → is_try k ≡ false → (f : ℕ → L Val) (g : P Value) → Lift a_value (passes ∷ w) (f (suc (length w))) g → Lift a_value w (scope k label f >>= λ c. ret (settled_value c)) g
frame_lifts k label e f g l = record { yields = λ s r. passing_yields {t = a_value} (settled a_value) (settled_is a_value) (λ j. not_caught) (scope_pops passes k label e f g l s r); extends = l.extends }

-- ---- loops and turns: what leaves them ends there

-- their end prints nothing
ended_extends : (n : ℕ) (lines : List Line) (p : Outcome es.Halt plain.Jump (Unit {0}) State) → Extends lines p → Extends lines (ended_round n p)
unfolding ended_round
ended_extends n lines (Goes a s) x = record { rest = x.rest; lines_are = x.lines_are }
ended_extends n lines (Jumps j s) x = by_case (leaves_it n j.exit)
  where
    by_case : (b : Bool) → Extends {X = Unit {0}} lines (choose b (Goes tt s) (Jumps j s))
    by_case true = record { rest = x.rest; lines_are = x.lines_are }
    by_case false = record { rest = x.rest; lines_are = x.lines_are }
ended_extends n lines (Ends halt s) x = record { rest = x.rest; lines_are = x.lines_are }

-- what a mark of a scope catches aims at it
aimed_round : (n : ℕ) (j : Exit) → catches j (rounds n) ≡ true → leaves_it n j ≡ true
aimed_round n j e = by_case (leaves_it n j) e
  where
    by_case : (b : Bool) → (b || false) ≡ true → b ≡ true
    by_case true q = refl
    by_case false q = q

-- the end of the frame is that of the scope
round_yields : {n : ℕ} {w : List Mark} {o : Outcome Halt tracked.Jump (Left (Unit {0})) tracked.State} {p : Outcome es.Halt plain.Jump (Unit {0}) State} → Pops One (rounds n) w o p → Yields One w (and_then o (λ c. ret tt)) (ended_round n p)
unfolding ended_round
round_yields (went r) = goes r
round_yields {n} {w} (stayed {j = j} {s = s} c r) = subst (Yields One w (Goes tt s)) (sym (choose_true (leaves_it n j.exit) _ _ (aimed_round n j.exit c))) (goes r)
round_yields {n} {w} (passed {j = j} {s = s} c r e) = subst (Yields One w (Jumps j s)) (sym (choose_false (leaves_it n j.exit) _ _ (not_aimed j.exit (rounds n) c))) (jumps r e)
round_yields halts = ends
round_yields {n} (breaks {p = p} broken x) = stops broken (ended_extends n _ p x)

-- a loop or a turn, with so many round it
pub round_lifts : {w : List Mark} (n : ℕ) (k : Kind) → is_try k ≡ false → (f : ℕ → L (Unit {0})) (g : P (Unit {0})) → Lift One (rounds n ∷ w) (f (suc (length w))) g
    → Lift One w (scope k bottom f >>= λ c. ret tt) (λ s. ended_round n (g s))
round_lifts n k e f g h = record { yields = λ s r. round_yields (scope_pops (rounds n) k bottom e f g h s r); extends = λ s. ended_extends n s.lines (g s) (h.extends s) }

-- labels are joined to the innermost frame, which is nothing without labels
pub raise_lifts : {w : List Mark} (label : Label) → Lift One w (raise label) (ret tt)
unfolding raise
raise_lifts label = record { yields = λ s r. goes (raised_shaped (innermost s.frames) label r); extends = goes_extends tt }

-- a condition raises the innermost frame, and then one of two
pub again_lifts : {w : List Mark} (v : Val) (b : Bool) {m n : L (Unit {0})} {m' n' : P (Unit {0})} → Lift One w m m' → Lift One w n n' → Lift One w (raise v.label >>= λ u. choose b m n) (choose b m' n')
again_lifts {w} v b {m} {n} {m'} {n'} h k = bind_lifts One One w (λ u. choose b m n) (λ u. choose b m' n') (raise_lifts v.label) (λ u. choose_lifts b h k)
