-- Steps that agree on short lists of answers, and loops without an end.
use Rattle.std.proofs.Common.{◌≡◌, ℕ, zero, suc, ◌<◌, Bool, true, false, List, [], ◌∷◌, length, codes, if◌then◌else◌, refl, arith}
use mathlib.Core.Path.{fun_ext}
use Rattle.js_number.specs.declared.num.Num.{Num}
use Rattle.js_number.specs.declared.primitive.Primitive.{Primitive}
use Rattle.js_number.specs.declared.primitive.Primitive.TheVariants as prims
use Rattle.js_number.specs.declared.int.LeftNumbers.{LeftNumbers}
use Rattle.std.proofs.Common.{Result, Ok, Err}
use Rattle.js_number.specs.Conversions.{number_of, text_of}
use Rattle.native_protocol.specs.declared.hint.Hint.{Hint}
use Rattle.native_protocol.specs.declared.registers.Reg.{Reg}
use Rattle.native_protocol.specs.declared.request.Answer.{Answer}
use Rattle.native_protocol.specs.declared.request.Request.{Request}
use Rattle.native_protocol.specs.declared.request.Request.TheVariants as request
use Rattle.native_protocol.specs.declared.hint.Hint.TheVariants as hint
use Rattle.native_protocol.specs.declared.request.Seen.{Seen}
use Rattle.native_protocol.specs.declared.request.Seen.TheVariants.{Prim, Object}
use Rattle.native_protocol.specs.Steps.{Steps, leaves, ask, look, seen_in, is_function, if_primitive, by_method, first_name, second_name, throws_type_error, primitive_in, text_in, number_or_leave}
use Rattle.native_programs.specs.declared.line.Ask.{Ask}
use Rattle.native_programs.specs.declared.line.Ask.TheVariants as asking
use Rattle.native_programs.specs.declared.line.Count.{Count}
use Rattle.native_programs.specs.declared.line.End.TheVariants as end
use Rattle.native_programs.specs.declared.line.Reason.TheVariants as reason
use Rattle.native_programs.specs.declared.line.Exit.{Exit}
use Rattle.native_programs.specs.declared.line.Exit.TheVariants as exit
use Rattle.native_programs.specs.declared.line.Line.{Line}
use Rattle.native_programs.specs.declared.line.Line.TheVariants as line
use Rattle.native_programs.specs.declared.lines.Left.{Left}
use Rattle.native_programs.specs.declared.lines.Left.TheVariants as left
use Rattle.native_programs.specs.declared.values.Values.{Values}
use Rattle.native_programs.specs.Asking.{asks, free_reg, reg_of, reason_of, type_error}
use Rattle.native_programs.specs.Choosing.{amount_of, holds, sees, turns_of, bumped, whole_of}
use Rattle.native_programs.specs.Meaning.{object_or, each, endless, ended, exit_steps, asked, repeated, meaning}
use Rattle.native_programs.specs.Values.{with_counter, with_text, with_held, with_number, with_seen, text_kept, cleared}
use Rattle.native_programs.specs.Wordings.{worded, fits, has_room, appended, pushed}

-- they agree on lists of answers that are shorter than that
pub record Agree (n : ℕ) (p q : Steps) : Type 0 where
  pub at : (answers : List Answer) → length answers < n → p answers ≡ q answers

same : {n : ℕ} (p : Steps) → Agree n p p
same p = record { at = λ answers less. refl }

fewer : {n : ℕ} {p q : Steps} → Agree (suc n) p q → Agree n p q
fewer h = record { at = λ answers less. h.at answers (omega arith) }

ask_at : {n : ℕ} {p q : Steps} (r : Request) → Agree n p q → (answers : List Answer) → length answers < suc n → ask r p answers ≡ ask r q answers
ask_at r h [] less = refl
ask_at r h (a ∷ answers) less = h.at answers (omega arith)

asks_agree : {n : ℕ} {p q : Steps} (r : Request) → Agree n p q → Agree (suc n) (ask r p) (ask r q)
asks_agree r h = record { at = ask_at r h }

look_at : {n : ℕ} {f g : Seen → Steps} (r : Reg) → ((s : Seen) → Agree n (f s) (g s)) → (answers : List Answer) → length answers < suc n → look r f answers ≡ look r g answers
look_at r h [] less = refl
look_at r h (a ∷ answers) less = (h (seen_in a)).at answers (omega arith)

looks_agree : {n : ℕ} {f g : Seen → Steps} (r : Reg) → ((s : Seen) → Agree n (f s) (g s)) → Agree (suc n) (look r f) (look r g)
looks_agree r h = record { at = look_at r h }

either : {n : ℕ} {p q p' q' : Steps} (b : Bool) → Agree n p q → Agree n p' q' → Agree n (if b then p else p') (if b then q else q')
either true h k = h
either false h k = k

-- ---- conversions

primitive_agrees : {n : ℕ} {f g : Primitive → Steps} {o o' : Steps} (s : Seen) → ((p : Primitive) → Agree n (f p) (g p)) → Agree n o o' → Agree n (if_primitive s f o) (if_primitive s g o')
primitive_agrees (Prim p) h k = h p
primitive_agrees (Object c) h k = k

method_agrees : {n : ℕ} {f g : Primitive → Steps} {o o' : Steps} (name : List ℕ) (r m w : Reg) → ((p : Primitive) → Agree n (f p) (g p)) → Agree n o o' → Agree n (by_method name r m w f o) (by_method name r m w g o')
method_agrees name r m w h k =
    fewer (asks_agree (request.Get r name m) (fewer (looks_agree m (λ s. either (is_function s) (fewer (asks_agree (request.Call m r [] w) (fewer (looks_agree w (λ v. primitive_agrees v h k))))) k))))

converted_agrees : {n : ℕ} {f g : Primitive → Reg → Steps} (h : Hint) (s : Seen) (r m w : Reg) → ((p : Primitive) (at : Reg) → Agree n (f p at) (g p at)) → Agree n (primitive_in h s r m w f) (primitive_in h s r m w g)
converted_agrees h (Prim p) r m w k = k p r
converted_agrees h (Object c) r m w k =
    method_agrees (first_name h) r m w (λ p. k p w) (method_agrees (second_name h) r m w (λ p. k p w) (same throws_type_error))

text_agrees : {n : ℕ} {f g : List ℕ → Reg → Steps} (p : Primitive) (at w : Reg) → ((t : List ℕ) (r : Reg) → Agree n (f t r) (g t r)) → Agree n (text_in p at w f) (text_in p at w g)
text_agrees (prims.Str t) at w h = h t at
text_agrees prims.Undefined at w h = fewer (asks_agree (request.Make (prims.Str (text_of prims.Undefined)) w) (h (text_of prims.Undefined) w))
text_agrees prims.Null at w h = fewer (asks_agree (request.Make (prims.Str (text_of prims.Null)) w) (h (text_of prims.Null) w))
text_agrees (prims.Bool b) at w h = fewer (asks_agree (request.Make (prims.Str (text_of (prims.Bool b))) w) (h (text_of (prims.Bool b)) w))
text_agrees (prims.Num z) at w h = fewer (asks_agree (request.Make (prims.Str (text_of (prims.Num z))) w) (h (text_of (prims.Num z)) w))

number_agrees : {n : ℕ} {f g : Num → Steps} (r : Result Num LeftNumbers) → ((z : Num) → Agree n (f z) (g z)) → Agree n (number_or_leave r f) (number_or_leave r g)
number_agrees (Ok z) h = h z
number_agrees (Err left) h = same (leaves (codes "number"))

-- ---- lines

object_agrees : {n : ℕ} {p q x y x' y' : Steps} (s : Seen) → Agree n p q → Agree n x y → Agree n x' y' → Agree n (object_or s p x x') (object_or s q y y')
object_agrees (Object c) h k l = h
object_agrees (Prim prims.Undefined) h k l = k
object_agrees (Prim prims.Null) h k l = k
object_agrees (Prim (prims.Bool b)) h k l = l
object_agrees (Prim (prims.Num n)) h k l = l
object_agrees (Prim (prims.Str t)) h k l = l

asked_agree : {n : ℕ} {f g : Values → Steps} {x y : Exit → Values → Steps} (q : Ask) (v : Values) → ((u : Values) → Agree n (f u) (g u)) → ((e : Exit) (u : Values) → Agree n (x e u) (y e u)) → Agree (suc n) (asked q v f x) (asked q v g y)
asked_agree (asking.ToObject at) v h k = looks_agree (reg_of v at) (λ s. object_agrees s (h v) (k type_error v) (k (exit.Ends (end.Leave reason.Wrapper)) v))
asked_agree (asking.Look at s e) v h k = looks_agree (reg_of v at) (λ seen. either (sees s seen) (h (with_seen seen v)) (k e (with_seen seen v)))
asked_agree (asking.Text at s to e) v h k =
    looks_agree (reg_of v at) (λ seen. either (sees s seen) (converted_agrees hint.String seen (reg_of v at) (free_reg v.argc 0) (free_reg v.argc 1) (λ p r. text_agrees p r (free_reg v.argc 1) (λ t x. h (with_held x (with_text to t v))))) (k e v))
asked_agree (asking.Number at s to how e) v h k =
    looks_agree (reg_of v at) (λ seen. either (sees s seen) (converted_agrees hint.Number seen (reg_of v at) (free_reg v.argc 0) (free_reg v.argc 1) (λ p r. number_agrees (number_of p) (λ z. h (with_number z (with_counter to (whole_of how z) v))))) (k e v))
asked_agree (asking.Ends e) v h k = same (ended e v)
asked_agree (asking.Get b k t) v h x = asks_agree (asks (asking.Get b k t) v) (h v)
asked_agree (asking.Has b k t) v h x = asks_agree (asks (asking.Has b k t) v) (h v)
asked_agree (asking.Put b k t) v h x = asks_agree (asks (asking.Put b k t) v) (h v)
asked_agree (asking.Delete b k t) v h x = asks_agree (asks (asking.Delete b k t) v) (h v)
asked_agree (asking.Copy b t) v h x = asks_agree (asks (asking.Copy b t) v) (h v)
asked_agree (asking.Same a b t) v h x = asks_agree (asks (asking.Same a b t) v) (h v)
asked_agree (asking.Make f t) v h x = asks_agree (asks (asking.Make f t) v) (h v)
asked_agree (asking.New c t) v h x = asks_agree (asks (asking.New c t) v) (h v)
asked_agree (asking.NewFrom c p t) v h x = asks_agree (asks (asking.NewFrom c p t) v) (h v)
asked_agree (asking.Define b k w e) v h x = asks_agree (asks (asking.Define b k w e) v) (h v)
asked_agree (asking.Call f t l r) v h x = asks_agree (asks (asking.Call f t l r) v) (h v)
asked_agree (asking.Bind f t l r) v h x = asks_agree (asks (asking.Bind f t l r) v) (h v)

exits_agree : {n : ℕ} {f g t t' d d' : Values → Steps} (e : Exit) (v : Values) → ((u : Values) → Agree n (f u) (g u)) → ((u : Values) → Agree n (t u) (t' u)) → ((u : Values) → Agree n (d u) (d' u)) → Agree n (exit_steps f t d e v) (exit_steps g t' d' e v)
exits_agree exit.Stay v h k l = h v
exits_agree (exit.Ends e) v h k l = same (ended e v)
exits_agree exit.NextTurn v h k l = k v
exits_agree exit.LeaveLoop v h k l = l v

-- bodies that agree where what follows them does
pub record BodiesAgree (n : ℕ) (body body' : Values → (Values → Steps) → Steps) : Type 0 where
  pub alike : (v : Values) (f g : Values → Steps) → ((u : Values) → Agree n (f u) (g u)) → Agree n (body v f) (body' v g)

each_agrees : {n : ℕ} {body body' : Values → (Values → Steps) → Steps} {d d' : Values → Steps} (m : ℕ) (v : Values) → BodiesAgree n body body' → ((u : Values) → Agree n (d u) (d' u)) → Agree n (each m body d v) (each m body' d' v)
unfolding each
each_agrees zero v h k = k v
each_agrees {body = body} {body' = body'} {d = d} {d' = d'} (suc m) v h k = h.alike v (each m body d) (each m body' d') (λ u. each_agrees m u h k)

endless_at : {n : ℕ} {body body' : Values → (Values → Steps) → Steps} (v : Values) → BodiesAgree n body body' → (answers : List Answer) → length answers < n → endless body v answers ≡ endless body' v answers
unfolding endless
endless_at v h answers less = (each_agrees (suc (length answers)) v h (λ u. same throws_type_error)).at answers less

repeated_agrees : {n : ℕ} {body body' : Values → (Values → Steps) → Steps} {d d' : Values → Steps} (l : Left) (v : Values) → BodiesAgree n body body' → ((u : Values) → Agree n (d u) (d' u)) → Agree n (repeated l body d v) (repeated l body' d' v)
repeated_agrees (left.Turns m) v h k = each_agrees m v h k
repeated_agrees left.Endless v h k = record { at = endless_at v h }

abbrev pub turn_body : Count → Ask → List Line → (Values → Steps) → Values → (Values → Steps) → Steps
turn_body c a ls done w again =
    asked a w (meaning zero ls (λ u. again (bumped c u)) done) (exit_steps (meaning zero ls (λ u. again (bumped c u)) done) (λ u. again (bumped c u)) done)

meaning_agrees : {n : ℕ} (k : ℕ) (ls : List Line) (v : Values) (t t' d d' : Values → Steps) → ((u : Values) → Agree n (t u) (t' u)) → ((u : Values) → Agree n (d u) (d' u)) → Agree n (meaning k ls t d v) (meaning k ls t' d' v)
meaning_agrees zero [] v t t' d d' h l = same throws_type_error
meaning_agrees (suc k) [] v t t' d d' h l = same throws_type_error
meaning_agrees zero (line.Ask a ∷ ls) v t t' d d' h l =
    fewer (asked_agree a v (λ u. meaning_agrees zero ls u t t' d d' h l) (λ e u. exits_agree e u (λ w. meaning_agrees zero ls w t t' d d' h l) h l))
meaning_agrees zero (line.AskIf c a ∷ ls) v t t' d d' h l =
    either (holds c v) (fewer (asked_agree a v (λ u. meaning_agrees zero ls u t t' d d' h l) (λ e u. exits_agree e u (λ w. meaning_agrees zero ls w t t' d d' h l) h l)))
    (meaning_agrees zero ls v t t' d d' h l)
meaning_agrees zero (line.Let c m ∷ ls) v t t' d d' h l = meaning_agrees zero ls (with_counter c (amount_of v m) v) t t' d d' h l
meaning_agrees zero (line.Set x w ∷ ls) v t t' d d' h l = meaning_agrees zero ls (with_text x (worded w v) v) t t' d d' h l
meaning_agrees zero (line.Append to from ∷ ls) v t t' d d' h l =
    either (fits (text_kept v to) (text_kept v from)) (meaning_agrees zero ls (appended to from v) t t' d d' h l) (same (leaves (reason_of reason.Text)))
meaning_agrees zero (line.Push to unit ∷ ls) v t t' d d' h l = either (has_room (text_kept v to)) (meaning_agrees zero ls (pushed to unit v) t t' d d' h l) (same (leaves (reason_of reason.Text)))
meaning_agrees zero (line.Go e ∷ ls) v t t' d d' h l = exits_agree e v (λ w. meaning_agrees zero ls w t t' d d' h l) h l
meaning_agrees zero (line.If c ∷ ls) v t t' d d' h l = either (holds c v) (meaning_agrees zero ls v t t' d d' h l) (meaning_agrees (suc zero) ls v t t' d d' h l)
meaning_agrees zero (line.EndIf ∷ ls) v t t' d d' h l = meaning_agrees zero ls v t t' d d' h l
meaning_agrees zero (line.When c e ∷ ls) v t t' d d' h l =
    either (holds c v) (exits_agree e v (λ w. meaning_agrees zero ls w t t' d d' h l) h l) (meaning_agrees zero ls v t t' d d' h l)
meaning_agrees zero (line.Loop c a ∷ ls) v t t' d d' h l =
    repeated_agrees (turns_of c v) (cleared v)
    (record {
      alike = λ w f g k.
          fewer (asked_agree a w
          (λ u. meaning_agrees zero ls u (λ x. f (bumped c x)) (λ x. g (bumped c x)) (meaning (suc zero) ls t d) (meaning (suc zero) ls t' d') (λ x. k (bumped c x)) (λ x. meaning_agrees (suc zero) ls x t t' d d' h l))
          (λ e u. exits_agree e u
          (λ y. meaning_agrees zero ls y (λ x. f (bumped c x)) (λ x. g (bumped c x)) (meaning (suc zero) ls t d) (meaning (suc zero) ls t' d') (λ x. k (bumped c x)) (λ x. meaning_agrees (suc zero) ls x t t' d d' h l))
          (λ x. k (bumped c x)) (λ x. meaning_agrees (suc zero) ls x t t' d d' h l)));
    })
    (λ u. meaning_agrees (suc zero) ls u t t' d d' h l)
meaning_agrees zero (line.EndLoop ∷ ls) v t t' d d' h l = h v
meaning_agrees (suc k) (line.EndLoop ∷ ls) v t t' d d' h l = meaning_agrees k ls v t t' d d' h l
meaning_agrees (suc k) (line.Loop c a ∷ ls) v t t' d d' h l = meaning_agrees (suc (suc k)) ls v t t' d d' h l
meaning_agrees (suc k) (line.Ask a ∷ ls) v t t' d d' h l = meaning_agrees (suc k) ls v t t' d d' h l
meaning_agrees (suc k) (line.AskIf c a ∷ ls) v t t' d d' h l = meaning_agrees (suc k) ls v t t' d d' h l
meaning_agrees (suc k) (line.Let c m ∷ ls) v t t' d d' h l = meaning_agrees (suc k) ls v t t' d d' h l
meaning_agrees (suc k) (line.Set x w ∷ ls) v t t' d d' h l = meaning_agrees (suc k) ls v t t' d d' h l
meaning_agrees (suc k) (line.Append to from ∷ ls) v t t' d d' h l = meaning_agrees (suc k) ls v t t' d d' h l
meaning_agrees (suc k) (line.When c e ∷ ls) v t t' d d' h l = meaning_agrees (suc k) ls v t t' d d' h l
meaning_agrees (suc k) (line.Push to unit ∷ ls) v t t' d d' h l = meaning_agrees (suc k) ls v t t' d d' h l
meaning_agrees (suc k) (line.Go e ∷ ls) v t t' d d' h l = meaning_agrees (suc k) ls v t t' d d' h l
meaning_agrees (suc k) (line.EndIf ∷ ls) v t t' d d' h l = meaning_agrees k ls v t t' d d' h l
meaning_agrees (suc k) (line.If c ∷ ls) v t t' d d' h l = meaning_agrees (suc (suc k)) ls v t t' d d' h l

-- ---- a turn of a loop asks for something first, so that what it does rests on what follows it at shorter lists alone

turn_asks : {n : ℕ} (c : Count) (a : Ask) (ls : List Line) (done : Values → Steps) (v : Values) (f g : Values → Steps) → ((u : Values) → Agree n (f u) (g u)) → Agree (suc n) (turn_body c a ls done v f) (turn_body c a ls done v g)
turn_asks c a ls done v f g h =
    asked_agree a v (λ u. meaning_agrees zero ls u (λ x. f (bumped c x)) (λ x. g (bumped c x)) done done (λ x. h (bumped c x)) (λ x. same (done x)))
    (λ e u. exits_agree e u (λ y. meaning_agrees zero ls y (λ x. f (bumped c x)) (λ x. g (bumped c x)) done done (λ x. h (bumped c x)) (λ x. same (done x))) (λ x. h (bumped c x)) (λ x. same (done x)))

-- turns enough are all alike
enough : (c : Count) (a : Ask) (ls : List Line) (done fin : Values → Steps) (m n : ℕ) (v : Values) (answers : List Answer) → length answers < m → length answers < n → each m (turn_body c a ls done) fin v answers ≡ each n (turn_body c a ls done) fin v answers
unfolding each
enough c a ls done fin zero n v answers h k = absurd (omega arith)
enough c a ls done fin (suc m) zero v answers h k = absurd (omega arith)
enough c a ls done fin (suc m) (suc n) v answers h k =
    (turn_asks {n = length answers} c a ls done v (each m (turn_body c a ls done) fin) (each n (turn_body c a ls done) fin) (λ u. record { at = λ shorter less. enough c a ls done fin m n u shorter (omega arith) (omega arith) })).at answers (omega arith)

once_at : (c : Count) (a : Ask) (ls : List Line) (done : Values → Steps) (v : Values) (answers : List Answer) → endless (turn_body c a ls done) v answers ≡ turn_body c a ls done v (endless (turn_body c a ls done)) answers
unfolding endless each
once_at c a ls done v answers =
    (turn_asks {n = length answers} c a ls done v (each (length answers) (turn_body c a ls done) (λ x. throws_type_error)) (endless (turn_body c a ls done)) (λ u. record { at = λ shorter less. enough c a ls done (λ x. throws_type_error) (length answers) (suc (length shorter)) u shorter less (omega arith) })).at answers (omega arith)

pub endless_once : (c : Count) (a : Ask) (ls : List Line) (done : Values → Steps) (v : Values) → endless (turn_body c a ls done) v ≡ turn_body c a ls done v (endless (turn_body c a ls done))
endless_once c a ls done v = fun_ext (once_at c a ls done v)
