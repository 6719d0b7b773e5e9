-- A loop over the keys of an object.
use Rattle.std.specs.Prelude.{ℕ, zero, suc, ◌-◌, Bool, List, codes}
use Rattle.std.specs.Fmt.{decimal}
use Rattle.native_protocol.specs.declared.registers.Reg.{Reg}
use Rattle.native_protocol.specs.declared.request.Request.TheVariants.{Get, Keys}
use Rattle.native_protocol.specs.Steps.{Steps, ask, look}
use Rattle.descriptor_pieces.specs.Looks.{count_in, key_in}

-- what is done with a key and with what came of those before it: it goes on to the next key with what came of all of them, or ends otherwise
abbrev pub Body : Type 0 → Type 0
Body A = List ℕ → A → (A → Steps) → Steps

-- a key is looked at, and then the body
abbrev pub key_seen : {A : Type 0} → Reg → Body A → A → (A → Steps) → Steps
key_seen item body sofar go_on = look item (λ s. body (key_in s) sofar go_on)

-- the last `left` of `count` keys in a list, each put into the other register to be looked at
unfoldable pub last_keys : {A : Type 0} → Reg → Reg → ℕ → ℕ → Body A → A → (A → Steps) → Steps
last_keys list item count zero body sofar next = next sofar
last_keys list item count (suc left) body sofar next =
    ask (Get list (decimal (count - suc left)) item) (key_seen item body sofar (λ now. last_keys list item count left body now next))

abbrev pub keys_counted : {A : Type 0} → Reg → Reg → Body A → A → (A → Steps) → Steps
keys_counted list item body start next = look item (λ s. last_keys list item (count_in s) (count_in s) body start next)

abbrev pub keys_listed : {A : Type 0} → Reg → Reg → Body A → A → (A → Steps) → Steps
keys_listed list item body start next = ask (Get list (codes "length") item) (keys_counted list item body start next)

-- the own keys of an object in their order, all or the enumerable ones: they are put into a list, and its length is looked at in the register for a key
abbrev pub each_key : {A : Type 0} → Reg → Bool → Reg → Reg → Body A → A → (A → Steps) → Steps
each_key object all list item body start next = ask (Keys object all list) (keys_listed list item body start next)

-- the same where nothing is kept of a key
abbrev pub plainly : (List ℕ → Steps → Steps) → Body (Unit {0})
plainly body key sofar next = body key (next sofar)

abbrev pub for_each_key : Reg → Bool → Reg → Reg → (List ℕ → Steps → Steps) → Steps → Steps
for_each_key object all list item body next = each_key object all list item (plainly body) tt (λ u. next)
