-- What an observer sees of output that is written line by line, and what a name of a policy is.
use Rattle.std.proofs.Common.{arith, refl, sym, ap, ◌∙◌, inl, inr, ◌≡◌, ◌≢◌, ◌<◌, ◌≤◌, ℕ, suc, zero, Bool, true, false, cond, nat_lt, nat_le, ◌==◌, ◌&&◌, ◌||◌, not, List, [], ◌∷◌, ◌++◌, length, map, get_or, All, Some, None, eqb-true, ne_eqb}
use Rattle.std.specs.List.{slice_get, slice_split, position_or_len, filter, find, list_all, AllByRecursion}
use Rattle.std.specs.Int.{is_in_range}
use Rattle.std.proofs.lemmas.Bool.{cond-true, cond-false, cases_Bool, and_parts, and_from, false_from_ne_true, leb-true, or_cases, not-true, lt-ltb, or_parts}
use Rattle.std.proofs.lemmas.List.{take_all, take_at, get_or_append_left, length-append, length-map, get_or-map, get_or_at}
use Rattle.std.proofs.lemmas.List.Elements.{All-from_recursion}
use Rattle.std.proofs.lemmas.List.Splits.{slice_split_none, slice_split_at, length-slice_split}
use Rattle.std.proofs.lemmas.List.Sums.{position_or_len_is}
use Rattle.std.proofs.lemmas.Option.{slice_get_within, get_or_from_slice_get}
use Rattle.std.proofs.lemmas.Slice.Eq.{bytes_eq-Decides}
use Rattle.origin_labels.specs.Label.{Label}
use Rattle.origin_labels.specs.Names.{same_name, AreDistinct}
use Rattle.flow_policy.specs.declared.policy.Channel.{Channel}
use Rattle.flow_policy.specs.Lines.{is_line_end, all_but_last, whole_lines}
use Rattle.flow_lists.specs.Names.{is_name, is_name_unit}
use Rattle.flow_policy.specs.Words.{is_space, first_word}
use Rattle.flow_policy.specs.Policies.{Tables, channel_named, has_channel, IsPolicy}
use Rattle.flow_policy.specs.Observed.{sees_line, view_of}

-- ---- lines

rec_fails : (byte : ℕ) (xs : List ℕ) → list_all (λ b. not (b == byte)) xs ≡ true → AllByRecursion (λ b. (b == byte) ≡ false) xs
rec_fails byte [] e = tt
rec_fails byte (x ∷ xs) e = let parts = and_parts (not (x == byte)) (list_all (λ b. not (b == byte)) xs) e in (not-true (x == byte) parts.0, rec_fails byte xs parts.1)

-- no byte of the list is the one
fails_all : (byte : ℕ) (xs : List ℕ) → list_all (λ b. not (b == byte)) xs ≡ true → All (λ b. (b == byte) ≡ false) xs
fails_all byte xs e = All-from_recursion (λ b. (b == byte) ≡ false) xs (rec_fails byte xs e)

all_but_last-more : (part : List ℕ) (parts : List (List ℕ)) → 0 < length parts → all_but_last (part ∷ parts) ≡ part ∷ all_but_last parts
unfolding all_but_last
all_but_last-more part [] lt = absurd (omega arith)
all_but_last-more part (next ∷ parts) lt = refl

-- a line and its end, before the rest
pub whole_lines-append : (line rest : List ℕ) → list_all (λ b. not (b == 10)) line ≡ true → whole_lines (line ++ 10 ∷ rest) ≡ line ∷ whole_lines rest
unfolding whole_lines
whole_lines-append line rest e =
    ap all_but_last (slice_split_at is_line_end line 10 rest (fails_all 10 line e) refl)
    ∙ all_but_last-more line (slice_split is_line_end rest) (omega (arith, length-slice_split is_line_end rest))

-- bytes without a line end are no whole line
pub whole_lines-none : (bytes : List ℕ) → list_all (λ b. not (b == 10)) bytes ≡ true → whole_lines bytes ≡ []
unfolding whole_lines all_but_last
whole_lines-none bytes e = ap all_but_last (slice_split_none is_line_end bytes (fails_all 10 bytes e))

pub whole_lines-nil : whole_lines [] ≡ []
whole_lines-nil = whole_lines-none [] refl

-- the first word of a line that begins with a word and a space
pub first_word-append : (name rest : List ℕ) → list_all (λ b. not (b == 32)) name ≡ true → first_word (name ++ 32 ∷ rest) ≡ name
first_word-append name rest e =
    let len = length-append name (32 ∷ rest) in
    let at : position_or_len is_space (name ++ 32 ∷ rest) ≡ length name =
    position_or_len_is is_space (name ++ 32 ∷ rest) (length name) 0 (omega arith)
    (λ k lt. rw (get_or_append_left name (32 ∷ rest) 0 k lt) (fails_all 32 name e k 0 lt))
    (λ lt. rw (get_or_at name 32 rest 0 (length name) refl) refl) in
    rw at (take_at name (32 ∷ rest) (length name) refl)

-- a line without a space is its first word
pub first_word-whole : (name : List ℕ) → list_all (λ b. not (b == 32)) name ≡ true → first_word name ≡ name
first_word-whole name e =
    let at : position_or_len is_space name ≡ length name =
    position_or_len_is is_space name (length name) 0 (omega arith) (λ k lt. fails_all 32 name e k 0 lt) (λ lt. absurd (omega arith)) in
    rw at (take_all (length name) name (omega arith))

-- a view grows line by line
pub view_of-append : (observer : Label) (tables : Tables) (line rest : List ℕ) → list_all (λ b. not (b == 10)) line ≡ true
    → view_of observer tables (line ++ 10 ∷ rest) ≡ cond (sees_line observer tables line) (line ∷ view_of observer tables rest) (view_of observer tables rest)
unfolding view_of
view_of-append observer tables line rest e = ap (filter (sees_line observer tables)) (whole_lines-append line rest e)

pub view_of-none : (observer : Label) (tables : Tables) (bytes : List ℕ) → list_all (λ b. not (b == 10)) bytes ≡ true → view_of observer tables bytes ≡ []
unfolding view_of
view_of-none observer tables bytes e = ap (filter (sees_line observer tables)) (whole_lines-none bytes e)

pub view_of-nil : (observer : Label) (tables : Tables) → view_of observer tables [] ≡ []
view_of-nil observer tables = view_of-none observer tables [] refl

-- ---- names

list_all-weaker : (p q : ℕ → Bool) → ((b : ℕ) → p b ≡ true → q b ≡ true) → (xs : List ℕ) → list_all p xs ≡ true → list_all q xs ≡ true
list_all-weaker p q h [] e = refl
list_all-weaker p q h (x ∷ xs) e = let parts = and_parts (p x) (list_all p xs) e in and_from (q x) (list_all q xs) (h x parts.0) (list_all-weaker p q h xs parts.1)

range : (low high b : ℕ) → is_in_range low high b ≡ true → 48 ≤ low → high ≤ 122 → (48 ≤ b) × (b ≤ 122)
range low high b e from to = let parts = and_parts (nat_le low b) (nat_le b high) e in let above = leb-true low b parts.0 in let below = leb-true b high parts.1 in (omega arith, omega arith)

-- what a byte of a name is between
name_byte_is : (b : ℕ) → is_name_unit b ≡ true → (48 ≤ b) × (b ≤ 122)
name_byte_is b e =
    elim (or_cases (is_in_range 65 90 b || is_in_range 97 122 b || is_in_range 48 57 b) (b == 95) e) as (λ _. (48 ≤ b) × (b ≤ 122)) [
      | inl f ↦ elim (or_cases (is_in_range 65 90 b || is_in_range 97 122 b) (is_in_range 48 57 b) f) as (λ _. (48 ≤ b) × (b ≤ 122)) [
        | inl g ↦ elim (or_cases (is_in_range 65 90 b) (is_in_range 97 122 b) g) as (λ _. (48 ≤ b) × (b ≤ 122)) [
          | inl h ↦ range 65 90 b h (omega arith) (omega arith)
          | inr h ↦ range 97 122 b h (omega arith) (omega arith)
        ]
        | inr g ↦ range 48 57 b g (omega arith) (omega arith)
      ]
      | inr f ↦ let is = eqb-true b 95 f in (omega arith, omega arith)
    ]

-- no byte of a name is a line end, a space, `!` or beyond ASCII
pub record IsPlain (name : List ℕ) : Type 0 where
  pub no_line_end : list_all (λ b. not (b == 10)) name ≡ true
  pub no_space : list_all (λ b. not (b == 32)) name ≡ true
  pub no_mark : list_all (λ b. not (b == 33)) name ≡ true
  pub ascii : list_all (λ b. nat_lt b 128) name ≡ true
  pub some : 0 < length name

not_byte : (byte b : ℕ) → byte < 48 → is_name_unit b ≡ true → not (b == byte) ≡ true
not_byte byte b lt e = let is = name_byte_is b e in ap not (ne_eqb b byte (λ same. omega arith))

pub name_parts : (name : List ℕ) → is_name name ≡ true → IsPlain name
unfolding is_name
name_parts name e =
    let outer = and_parts (nat_le 1 (length name) && nat_le (length name) 32) (list_all is_name_unit name) e in
    let inner = and_parts (nat_le 1 (length name)) (nat_le (length name) 32) outer.0 in
    record {
      no_line_end = list_all-weaker is_name_unit (λ b. not (b == 10)) (λ b h. not_byte 10 b (omega arith) h) name outer.1;
      no_space = list_all-weaker is_name_unit (λ b. not (b == 32)) (λ b h. not_byte 32 b (omega arith) h) name outer.1;
      no_mark = list_all-weaker is_name_unit (λ b. not (b == 33)) (λ b h. not_byte 33 b (omega arith) h) name outer.1;
      ascii = list_all-weaker is_name_unit (λ b. nat_lt b 128) (λ b h. let is = name_byte_is b h in lt-ltb b 128 (omega arith)) name outer.1;
      some = leb-true 1 (length name) inner.0;
    }

-- ---- channels by name

-- a channel of a name has that name, and is one of the channels
pub named_is : (name : List ℕ) (channels : List Channel) (c : Channel) → channel_named name channels ≡ Some c → (c.name ≡ name) × ((i : ℕ) × (slice_get channels i ≡ Some c))
unfolding channel_named
named_is name [] c e = absurd cc
named_is name (d ∷ channels) c e = elim (cases_Bool (same_name d.name name)) as (λ _. (c.name ≡ name) × ((i : ℕ) × (slice_get (d ∷ channels) i ≡ Some c))) [
  | inl yes_ ↦
      let same : Some d ≡ Some c = sym (cond-true (same_name d.name name) (Some d) (find (λ (x : Channel). same_name x.name name) channels) yes_) ∙ e in
      let is : d ≡ c = cc in
      (ap (λ (x : Channel). x.name) (sym is) ∙ (bytes_eq-Decides d.name name).0 yes_, (0, same))
  | inr no_ ↦
      let later = named_is name channels c (sym (cond-false (same_name d.name name) (Some d) (find (λ (x : Channel). same_name x.name name) channels) no_) ∙ e) in
      (later.0, (suc later.1.0, later.1.1))
]

-- a name that is no channel's
pub named_none : (name : List ℕ) (channels : List Channel) → has_channel name channels ≡ false → channel_named name channels ≡ None
unfolding channel_named
named_none name [] e = refl
named_none name (d ∷ channels) e =
    let parts = or_parts (same_name d.name name) (has_channel name channels) e in
    cond-false (same_name d.name name) (Some d) (find (λ (x : Channel). same_name x.name name) channels) parts.0 ∙ named_none name channels parts.1

-- the first channel of a name
named_first : (channels : List Channel) (i : ℕ) (c : Channel) → slice_get channels i ≡ Some c → ((k : ℕ) (d : Channel) → k < i → (get_or channels k d).name ≢ c.name) → channel_named c.name channels ≡ Some c
unfolding channel_named
named_first [] i c e h = absurd cc
named_first (d ∷ channels) zero c e h =
    let is : d ≡ c = cc in
    cond-true (same_name d.name c.name) (Some d) (find (λ (x : Channel). same_name x.name c.name) channels) ((bytes_eq-Decides d.name c.name).1 (ap (λ (x : Channel). x.name) is)) ∙ ap (λ (x : Channel). Some x) is
named_first (d ∷ channels) (suc i) c e h =
    cond-false (same_name d.name c.name) (Some d) (find (λ (x : Channel). same_name x.name c.name) channels) (false_from_ne_true (same_name d.name c.name) (λ t. h 0 d (omega arith) ((bytes_eq-Decides d.name c.name).0 t)))
    ∙ named_first channels i c e (λ k x lt. h (suc k) x (omega arith))

pub named_distinct : (channels : List Channel) (i : ℕ) (c : Channel) → AreDistinct (map (λ c. c.name) channels) → slice_get channels i ≡ Some c → channel_named c.name channels ≡ Some c
named_distinct channels i c distinct e =
    let name = λ (x : Channel). x.name in
    let len = length-map channels name in
    let in' = slice_get_within channels i c e in
    named_first channels i c e (λ k d lt same. distinct k i [] lt (omega arith)
    (get_or-map name channels k d [] (omega arith) ∙ same ∙ ap name (sym (get_or_from_slice_get channels i c d e)) ∙ sym (get_or-map name channels i d [] in')))

-- the output channel at a place is the channel of its name
pub output_named : (tables : Tables) (i : ℕ) (c : Channel) → IsPolicy tables → slice_get tables.outputs i ≡ Some c → channel_named c.name tables.outputs ≡ Some c
output_named tables i c policy e = named_distinct tables.outputs i c policy.outputs.distinct e

pub input_named : (tables : Tables) (i : ℕ) (c : Channel) → IsPolicy tables → slice_get tables.inputs i ≡ Some c → channel_named c.name tables.inputs ≡ Some c
input_named tables i c policy e = named_distinct tables.inputs i c policy.inputs.distinct e
