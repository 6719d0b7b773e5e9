-- Writing a piece bit by bit.
use Rattle.std.proofs.Common.{◌≡◌, ℕ, List, [], ◌++◌, take, drop, length, Option, Some, None, refl, sym, ap, subst, ◌∙◌, append_assoc}
use Rattle.std.specs.Io.KnownBytes.{Appends, Keeps}
use Rattle.flow_io.specs.Sinks.{WritesFront}
use Rattle.std.proofs.lemmas.List.{take-append-drop, append-nil, nil_from_length}

-- where the bytes held are known, they are those from before, and the piece but for its rest
pub record WritesOn (old new : Option (List ℕ)) (piece rest : List ℕ) : Type 0 where
  pub front : List ℕ
  pub parts : piece ≡ front ++ rest
  pub held : Appends old new front

-- before the first write the rest is the piece
pub starts : (old : Option (List ℕ)) (piece : List ℕ) → WritesOn old old piece piece
starts None piece = record { front = []; parts = refl; held = tt }
starts (Some xs) piece = record { front = []; parts = refl; held = sym (append-nil xs) }

-- bytes behind bytes behind the old ones
pub appends_on : (old middle new : Option (List ℕ)) (front more : List ℕ) → Appends old middle front → Appends middle new more → Appends old new (front ++ more)
appends_on None middle new front more a b = tt
appends_on (Some xs) None new front more a b = absurd a
appends_on (Some xs) (Some ys) None front more a b = absurd b
appends_on (Some xs) (Some ys) (Some zs) front more a b = b ∙ ap (λ (l : List ℕ). l ++ more) a ∙ append_assoc xs front more

-- a write takes its bytes off the rest
pub goes_on : (old middle new : Option (List ℕ)) (piece rest : List ℕ) (n : ℕ) → WritesOn old middle piece rest → Appends middle new (take n rest) → WritesOn old new piece (drop n rest)
goes_on old middle new piece rest n w a = record {
  front = w.front ++ take n rest;
  parts = w.parts ∙ ap (λ (l : List ℕ). w.front ++ l) (sym (take-append-drop n rest)) ∙ sym (append_assoc w.front (take n rest) (drop n rest));
  held = appends_on old middle new w.front (take n rest) w.held a;
}

-- to keep the bytes is to append none
keeps_appends : (middle new : Option (List ℕ)) → Keeps middle new → Appends middle new []
keeps_appends None new k = tt
keeps_appends (Some xs) None k = absurd k
keeps_appends (Some xs) (Some ys) k = k ∙ sym (append-nil xs)

-- with no rest, the piece was appended
pub is_whole : (old middle new : Option (List ℕ)) (piece rest : List ℕ) → WritesOn old middle piece rest → length rest ≡ 0 → Keeps middle new → Appends old new piece
is_whole old middle new piece rest w e k =
    let all : piece ≡ w.front ++ [] = w.parts ∙ ap (λ (l : List ℕ). w.front ++ l) (nil_from_length rest e) in
    let P : List ℕ → Type 0 = λ l. Appends old new l in
    subst P (sym all) (appends_on old middle new w.front [] w.held (keeps_appends middle new k))

-- with any rest, a front of the piece was appended
pub is_front : (old middle new : Option (List ℕ)) (piece rest : List ℕ) → WritesOn old middle piece rest → Keeps middle new → WritesFront old new piece
is_front old middle new piece rest w k =
    let P : List ℕ → Type 0 = λ l. Appends old new l in
    (w.front, (rest, w.parts), subst P (append-nil w.front) (appends_on old middle new w.front [] w.held (keeps_appends middle new k)))
