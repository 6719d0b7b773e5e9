-- The machine of a loop over keys takes its steps, whatever is done with a key.
use Rattle.std.proofs.Common.{◌≡◌, ℕ, zero, suc, ◌-◌, Bool, if◌then◌else◌, List, [], ◌∷◌, refl, sym, ◌∙◌, ap, arith}
use Rattle.std.proofs.Math.Dec.{eqb-suc-zero}
use Rattle.std.specs.Fmt.{decimal}
use Rattle.native_protocol.specs.declared.registers.Reg.{Reg}
use Rattle.native_protocol.specs.declared.request.Answer.{Answer}
use Rattle.native_protocol.specs.declared.request.Request.TheVariants.{Get}
use Rattle.native_protocol.specs.Steps.{Steps, ask, seen_in}
use Rattle.descriptor_pieces.specs.declared.key_loop.KeyLoop.{KeyLoop}
use Rattle.descriptor_pieces.specs.declared.key_loop.KeyLoop.TheVariants as loops
use Rattle.descriptor_pieces.specs.declared.key_loop.KeyTurn.TheVariants as turn
use Rattle.descriptor_pieces.specs.declared.key_loop.LastKeys.{LastKeys}
use Rattle.descriptor_pieces.specs.LoopPieces.{last_of, last_turn, last_rest, keys_asks, keys_after, keys_rest, turn_rest}
use Rattle.descriptor_pieces.specs.Loops.{Body, key_seen, last_keys}
use Rattle.descriptor_pieces.specs.Looks.{count_in}

pub keys_first : {A : Type 0} (k : KeyLoop) (body : Body A) (sofar : A) (next : A → Steps) → keys_rest k body sofar next [] ≡ keys_asks k
keys_first (loops.Keys object all list item) body sofar next = refl
keys_first (loops.Length list item) body sofar next = refl
keys_first (loops.LookLength list item) body sofar next = refl
keys_first (loops.Item l) body sofar next = refl
keys_first (loops.LookItem l) body sofar next = refl

-- the keys that are left: none, or one and then the others
turned_at : {A : Type 0} (list item : Reg) (count left : ℕ) (body : Body A) (sofar : A) (next : A → Steps) (answers : List Answer) → last_keys list item count left body sofar next answers ≡ turn_rest (last_turn (last_of list item count left)) body sofar next answers
unfolding last_keys
turned_at list item count zero body sofar next answers = refl
turned_at list item count (suc n) body sofar next answers =
    let less : n ≡ suc n - 1 = omega arith in
    ap (λ (k : ℕ). ask (Get list (decimal (count - suc n)) item) (key_seen item body sofar (λ now. last_keys list item count k body now next)) answers) less
    ∙ sym (ap (λ (b : Bool). turn_rest (if b then turn.Over else turn.Asks (loops.Item (last_of list item count (suc n)))) body sofar next answers) (eqb-suc-zero n))

pub turned : {A : Type 0} (l : LastKeys) (body : Body A) (sofar : A) (next : A → Steps) (answers : List Answer) → last_rest l body next sofar answers ≡ turn_rest (last_turn l) body sofar next answers
turned l body sofar next answers = turned_at l.list l.item l.count l.left body sofar next answers

pub keys_others : {A : Type 0} (k : KeyLoop) (body : Body A) (sofar : A) (next : A → Steps) (a : Answer) (answers : List Answer) → keys_rest k body sofar next (a ∷ answers) ≡ turn_rest (keys_after k a) body sofar next answers
keys_others (loops.Keys object all list item) body sofar next a answers = refl
keys_others (loops.Length list item) body sofar next a answers = refl
keys_others (loops.LookLength list item) body sofar next a answers = turned_at list item (count_in (seen_in a)) (count_in (seen_in a)) body sofar next answers
keys_others (loops.Item l) body sofar next a answers = refl
keys_others (loops.LookItem l) body sofar next a answers = refl
