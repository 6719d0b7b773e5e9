-- The machine of a loop over keys: what each of its states asks for, where an answer leads, and which steps are still to take.
use Rattle.std.specs.Prelude.{ℕ, ◌-◌, ◌==◌, Bool, if◌then◌else◌, codes}
use Rattle.std.specs.Fmt.{decimal}
use Rattle.native_protocol.specs.declared.registers.Reg.{Reg}
use Rattle.native_protocol.specs.declared.request.Answer.{Answer}
use Rattle.native_protocol.specs.declared.request.Request.{Request}
use Rattle.native_protocol.specs.declared.request.Request.TheVariants.{Look, Get, Keys}
use Rattle.native_protocol.specs.Steps.{Steps, ask, seen_in}
use Rattle.descriptor_pieces.specs.declared.key_loop.KeyLoop.{KeyLoop}
use Rattle.descriptor_pieces.specs.declared.key_loop.KeyLoop.TheVariants as loops
use Rattle.descriptor_pieces.specs.declared.key_loop.KeyTurn.{KeyTurn}
use Rattle.descriptor_pieces.specs.declared.key_loop.KeyTurn.TheVariants as turn
use Rattle.descriptor_pieces.specs.declared.key_loop.LastKeys.{LastKeys}
use Rattle.descriptor_pieces.specs.Looks.{count_in, key_in}
use Rattle.descriptor_pieces.specs.Loops.{Body, key_seen, last_keys, keys_counted, keys_listed, each_key}

abbrev pub last_of : Reg → Reg → ℕ → ℕ → LastKeys
last_of list item count left = record { list = list; item = item; count = count; left = left }

abbrev pub last_begin : Reg → Reg → ℕ → LastKeys
last_begin list item count = last_of list item count count

abbrev pub keys_begin : Reg → Bool → Reg → Reg → KeyLoop
keys_begin object all list item = loops.Keys object all list item

abbrev pub keys_asks : KeyLoop → Request
keys_asks (loops.Keys object all list item) = Keys object all list
keys_asks (loops.Length list item) = Get list (codes "length") item
keys_asks (loops.LookLength list item) = Look item
keys_asks (loops.Item l) = Get l.list (decimal (l.count - l.left)) l.item
keys_asks (loops.LookItem l) = Look l.item

abbrev pub last_turn : LastKeys → KeyTurn
last_turn l = if l.left == 0 then turn.Over else turn.Asks (loops.Item l)

abbrev pub behind_key : LastKeys → LastKeys
behind_key l = record l { left = l.left - 1 }

abbrev pub keys_after : KeyLoop → Answer → KeyTurn
keys_after (loops.Keys object all list item) a = turn.Asks (loops.Length list item)
keys_after (loops.Length list item) a = turn.Asks (loops.LookLength list item)
keys_after (loops.LookLength list item) a = last_turn (last_begin list item (count_in (seen_in a)))
keys_after (loops.Item l) a = turn.Asks (loops.LookItem l)
keys_after (loops.LookItem l) a = turn.Has (key_in (seen_in a)) (behind_key l)

-- ---- what is still to do

abbrev pub last_rest : {A : Type 0} → LastKeys → Body A → (A → Steps) → A → Steps
last_rest l body next sofar = last_keys l.list l.item l.count l.left body sofar next

abbrev pub item_seen : {A : Type 0} → LastKeys → Body A → A → (A → Steps) → Steps
item_seen l body sofar next = key_seen l.item body sofar (last_rest (behind_key l) body next)

abbrev pub keys_rest : {A : Type 0} → KeyLoop → Body A → A → (A → Steps) → Steps
keys_rest (loops.Keys object all list item) body sofar next = each_key object all list item body sofar next
keys_rest (loops.Length list item) body sofar next = keys_listed list item body sofar next
keys_rest (loops.LookLength list item) body sofar next = keys_counted list item body sofar next
keys_rest (loops.Item l) body sofar next = ask (Get l.list (decimal (l.count - l.left)) l.item) (item_seen l body sofar next)
keys_rest (loops.LookItem l) body sofar next = item_seen l body sofar next

abbrev pub turn_rest : {A : Type 0} → KeyTurn → Body A → A → (A → Steps) → Steps
turn_rest (turn.Asks l) body sofar next = keys_rest l body sofar next
turn_rest (turn.Has key last) body sofar next = body key sofar (last_rest last body next)
turn_rest turn.Over body sofar next = next sofar
