-- Bytes that are appended one after the other.
use Rattle.std.proofs.Common.{◌≡◌, ℕ, List, [], ◌++◌, Option, Some, None, refl, sym, ap, ◌∙◌}
use Rattle.std.proofs.lemmas.List.{append_assoc, append-nil}
use Rattle.flow_io.specs.Sinks.{IsFrontOf, Appends, AppendsFront}

pub front_whole : (bytes : List ℕ) → IsFrontOf bytes bytes
front_whole bytes = ([], sym (append-nil bytes))

pub front_nothing : (bytes : List ℕ) → IsFrontOf [] bytes
front_nothing bytes = (bytes, refl)

pub front_trans : (a b c : List ℕ) → IsFrontOf a b → IsFrontOf b c → IsFrontOf a c
front_trans a b c p q = (p.0 ++ q.0, q.1 ∙ ap (λ (w : List ℕ). w ++ q.0) p.1 ∙ append_assoc a p.0 q.0)

pub front_append : (x a b : List ℕ) → IsFrontOf a b → IsFrontOf (x ++ a) (x ++ b)
front_append x a b p = (p.0, ap (λ (w : List ℕ). x ++ w) p.1 ∙ sym (append_assoc x a p.0))

pub appends_nothing : (o : Option (List ℕ)) → Appends o o []
appends_nothing None = tt
appends_nothing (Some bytes) = sym (append-nil bytes)

-- nothing was appended where what is taken stayed
pub appends_same : (old new : Option (List ℕ)) → new ≡ old → Appends old new []
appends_same old new e = rw e (appends_nothing old)

pub appends_then : (a b c : Option (List ℕ)) (x y : List ℕ) → Appends a b x → Appends b c y → Appends a c (x ++ y)
appends_then a b None x y p q = tt
appends_then a None (Some after) x y p q = absurd q
appends_then None (Some middle) (Some after) x y p q = absurd p
appends_then (Some before) (Some middle) (Some after) x y p q = q ∙ ap (λ (w : List ℕ). w ++ y) p ∙ append_assoc before x y

-- a front of what was to come behind
pub front_then : (a b c : Option (List ℕ)) (x y : List ℕ) → Appends a b x → AppendsFront b c y → AppendsFront a c (x ++ y)
front_then a b None x y p q = tt
front_then a None (Some after) x y p q = absurd q
front_then None (Some middle) (Some after) x y p q = absurd p
front_then (Some before) (Some middle) (Some after) x y p q = (x ++ q.0, front_append x q.0 y q.1, q.2 ∙ ap (λ (w : List ℕ). w ++ q.0) p ∙ append_assoc before x q.0)

pub front_longer : (a b : Option (List ℕ)) (x y : List ℕ) → AppendsFront a b x → IsFrontOf x y → AppendsFront a b y
front_longer a None x y p q = tt
front_longer None (Some after) x y p q = absurd p
front_longer (Some before) (Some after) x y p q = (p.0, front_trans p.0 x y p.1 q, p.2)

-- what is whole is a front too
pub front_of_whole : (a b : Option (List ℕ)) (x y : List ℕ) → Appends a b x → IsFrontOf x y → AppendsFront a b y
front_of_whole a None x y p q = tt
front_of_whole None (Some after) x y p q = absurd p
front_of_whole (Some before) (Some after) x y p q = (x, q, p)

-- nothing is a front of whatever was to come
pub fronts_nothing : (o : Option (List ℕ)) (bytes : List ℕ) → AppendsFront o o bytes
fronts_nothing o bytes = front_of_whole o o [] bytes (appends_nothing o) (front_nothing bytes)
