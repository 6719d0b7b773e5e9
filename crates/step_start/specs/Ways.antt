-- A dotted path, as it is read from its bytes.
use Rattle.std.specs.Prelude.{◌≡◌, ℕ, List, [], ◌∷◌, ◌++◌, Option}
use Rattle.js_values.specs.Objects.{PlainObject}
use Rattle.es_meaning.specs.Holders.{parts_of, led_on}

-- a part goes on in front of the first one
abbrev pub joined : List ℕ → List (List ℕ) → List (List ℕ)
joined part [] = part ∷ []
joined part (first ∷ parts) = (part ++ first) ∷ parts

-- where a path leads from an object, behind a part that has begun
abbrev pub led_behind : List PlainObject → Option ℕ → List ℕ → List ℕ → Option ℕ
led_behind heap o part path = led_on (joined part (parts_of path)) heap o

-- one byte is read: the rest of any path leads on to the same
pub record Reads (heap : List PlainObject) (o : Option ℕ) (part : List ℕ) (byte : ℕ) (next : Option ℕ) (more : List ℕ) : Type 0 where
  pub says : (rest : List ℕ) → led_behind heap next more rest ≡ led_behind heap o part (byte ∷ rest)
