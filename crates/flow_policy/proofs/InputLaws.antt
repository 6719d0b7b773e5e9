-- What lines of input give to each channel.
use Rattle.std.proofs.Common.{arith, refl, sym, ap, ◌∙◌, subst, inl, inr, ◌≡◌, ◌≢◌, ◌<◌, ◌+◌, ℕ, Bool, true, false, cond, nat_lt, not, List, [], ◌∷◌, ◌++◌, length, map, get_or, set, Option, Some, None, Result, Ok, Err, append_assoc}
use Rattle.std.specs.List.{position, position_or_len, before_first, after_first}
use Rattle.std.specs.Str.{is_utf8}
use Rattle.std.proofs.lemmas.Bool.{cond-true, cond-false, cases_eq, cases_order, false_from_ne_true, ltb-false}
use Rattle.std.proofs.lemmas.List.{append-nil, length-set, length-map, get_or-set_same, get_or-set_other, get_or-map, ext_get_or, map-set}
use Rattle.std.proofs.lemmas.List.Folds.{list_any_at, list_any_none}
use Rattle.std.proofs.lemmas.List.Quantifiers.{position-Some}
use Rattle.std.proofs.lemmas.List.Sums.{fails_before_first}
use Rattle.std.proofs.lemmas.Slice.Eq.{bytes_eq-Decides}
use Rattle.std.specs.Str.Lossy.{utf8_valid_len}
use Rattle.flow_text.specs.Utf8.{units_of, text_of_utf8}
use Rattle.origin_labels.specs.Names.{same_name, AreDistinct}
use Rattle.flow_policy.specs.declared.policy.Channel.{Channel}
use Rattle.flow_policy.specs.declared.fault.InputKind.{InputKind}
use Rattle.flow_policy.specs.declared.fault.InputKind.TheVariants as kinds
use Rattle.flow_policy.specs.declared.fault.InputFault.{InputFault}
use Rattle.flow_policy.specs.declared.fault.InputFault.TheVariants as input
use Rattle.flow_policy.specs.Lines.{lines_of}
use Rattle.flow_policy.specs.Words.{is_space}
use Rattle.flow_policy.specs.Policies.{has_channel, BadLine}
use Rattle.flow_policy.specs.Inputs.{Given, channel_in, text_in, fault_of_line, bad_or, first_bad, texts_on, unless_bad, inputs_of, given_on}
use Rattle.flow_policy.specs.Answers.{GivesInputs, ReadsLine}

-- ---- a line

pub fault_utf8 : (channels : List Channel) (line : List ℕ) → is_utf8 line ≡ false → fault_of_line channels line ≡ Some kinds.Utf8
unfolding fault_of_line
fault_utf8 channels line e = cond-true (not (is_utf8 line)) (Some kinds.Utf8) (cond (has_channel (channel_in line) channels) None (Some kinds.Channel)) (ap not e)

fault_within : (channels : List Channel) (line : List ℕ) → is_utf8 line ≡ true → fault_of_line channels line ≡ cond (has_channel (channel_in line) channels) None (Some kinds.Channel)
unfolding fault_of_line
fault_within channels line e = cond-false (not (is_utf8 line)) (Some kinds.Utf8) (cond (has_channel (channel_in line) channels) None (Some kinds.Channel)) (ap not e)

cond_none : (b : Bool) (x : ℕ) → cond b (Some x) None ≡ None → b ≡ false
cond_none true x e = absurd cc
cond_none false x e = refl

-- the name of a line is the name of a channel where it has a place
pub fault_known : (channels : List Channel) (line : List ℕ) (i : ℕ) (d : Channel) → is_utf8 line ≡ true → position (λ c. same_name c.name (channel_in line)) channels ≡ Some i → fault_of_line channels line ≡ None
fault_known channels line i d good e =
    let found = position-Some (λ (c : Channel). same_name c.name (channel_in line)) channels i d e in
    fault_within channels line good ∙ cond-true (has_channel (channel_in line) channels) None (Some kinds.Channel) (list_any_at (λ (c : Channel). same_name c.name (channel_in line)) channels i d found.0 found.1)

pub fault_unknown : (channels : List Channel) (line : List ℕ) → is_utf8 line ≡ true → position (λ c. same_name c.name (channel_in line)) channels ≡ None → fault_of_line channels line ≡ Some kinds.Channel
fault_unknown channels line good e =
    let p = λ (c : Channel). same_name c.name (channel_in line) in
    let le = ltb-false (position_or_len p channels) (length channels) (cond_none (nat_lt (position_or_len p channels) (length channels)) (position_or_len p channels) e) in
    fault_within channels line good ∙ cond-false (has_channel (channel_in line) channels) None (Some kinds.Channel) (list_any_none p channels (λ k d lt. fails_before_first p channels k d (omega arith)))

-- ---- what is given so far

-- the given texts, with those of the lines that are left, are those of all lines
pub record AreGiven (channels : List Channel) (lines left : List (List ℕ)) (number : ℕ) (given : Given) : Type 0 where
  pub room : length given ≡ length channels
  pub fault : first_bad (number + 1) channels left ≡ first_bad 1 channels lines
  pub texts : (k : ℕ) (d : Channel) → k < length channels → given_on given k ++ texts_on (get_or channels k d).name left ≡ texts_on (get_or channels k d).name lines

texts_on-none : (name : List ℕ) → texts_on name [] ≡ []
unfolding texts_on
texts_on-none name = refl

texts_on-yes : (name line : List ℕ) (lines : List (List ℕ)) → same_name (channel_in line) name ≡ true → texts_on name (line ∷ lines) ≡ text_in line ∷ texts_on name lines
unfolding texts_on
texts_on-yes name line lines e = cond-true (same_name (channel_in line) name) (text_in line ∷ texts_on name lines) (texts_on name lines) e

texts_on-no : (name line : List ℕ) (lines : List (List ℕ)) → same_name (channel_in line) name ≡ false → texts_on name (line ∷ lines) ≡ texts_on name lines
unfolding texts_on
texts_on-no name line lines e = cond-false (same_name (channel_in line) name) (text_in line ∷ texts_on name lines) (texts_on name lines) e

first_bad-next : (number : ℕ) (channels : List Channel) (line : List ℕ) (lines : List (List ℕ)) → fault_of_line channels line ≡ None → first_bad number channels (line ∷ lines) ≡ first_bad (number + 1) channels lines
unfolding first_bad
first_bad-next number channels line lines e = ap (λ (o : Option InputKind). bad_or number o (first_bad (number + 1) channels lines)) e

first_bad-here : (number : ℕ) (channels : List Channel) (line : List ℕ) (lines : List (List ℕ)) (kind : InputKind) → fault_of_line channels line ≡ Some kind → first_bad number channels (line ∷ lines) ≡ Some (record { line = number; kind = kind })
unfolding first_bad
first_bad-here number channels line lines kind e = ap (λ (o : Option InputKind). bad_or number o (first_bad (number + 1) channels lines)) e

first_bad-none : (number : ℕ) (channels : List Channel) → first_bad number channels [] ≡ None
unfolding first_bad
first_bad-none number channels = refl

-- names at two places differ
names_differ : (channels : List Channel) (i k : ℕ) (d : Channel) → AreDistinct (map (λ c. c.name) channels) → i < length channels → k < length channels → i ≢ k → (get_or channels i d).name ≡ (get_or channels k d).name → ⊥
names_differ channels i k d distinct in' ink ne e =
    let name = λ (c : Channel). c.name in
    let len = length-map channels name in
    let same : get_or (map name channels) i [] ≡ get_or (map name channels) k [] = get_or-map name channels i d [] in' ∙ e ∙ sym (get_or-map name channels k d [] ink) in
    elim (cases_order i k) as (λ _. ⊥) [
      | inl eq ↦ ne eq
      | inr apart ↦ elim apart as (λ _. ⊥) [
        | inl lt ↦ distinct i k [] lt (omega arith) same
        | inr gt ↦ distinct k i [] gt (omega arith) (sym same)
      ]
    ]

-- one more line is given to its channel
pub AreGiven-more : (channels : List Channel) (lines left : List (List ℕ)) (line : List ℕ) (number i : ℕ) (given : Given) → AreDistinct (map (λ c. c.name) channels) → fault_of_line channels line ≡ None
    → position (λ c. same_name c.name (channel_in line)) channels ≡ Some i → AreGiven channels lines (line ∷ left) number given → AreGiven channels lines left (number + 1) (set given i (given_on given i ++ text_in line ∷ []))
AreGiven-more channels lines left line number i given distinct fine at g = record {
  room = length-set given i (given_on given i ++ text_in line ∷ []) ∙ g.room;
  fault = sym (first_bad-next (number + 1) channels line left fine) ∙ g.fault;
  texts = λ k d lt.
      let found = position-Some (λ (c : Channel). same_name c.name (channel_in line)) channels i d at in
      let named : (get_or channels i d).name ≡ channel_in line = (bytes_eq-Decides (get_or channels i d).name (channel_in line)).0 found.1 in
      elim (cases_eq k i) as (λ _. given_on (set given i (given_on given i ++ text_in line ∷ [])) k ++ texts_on (get_or channels k d).name left ≡ texts_on (get_or channels k d).name lines) [
        | inl e ↦ subst (λ (j : ℕ). given_on (set given i (given_on given i ++ text_in line ∷ [])) j ++ texts_on (get_or channels j d).name left ≡ texts_on (get_or channels j d).name lines) (sym e)
            (ap (λ (ts : List (List ℕ)). ts ++ texts_on (get_or channels i d).name left) (get_or-set_same given i (given_on given i ++ text_in line ∷ []) [] (omega (arith, g.room, found.0)))
            ∙ append_assoc (given_on given i) (text_in line ∷ []) (texts_on (get_or channels i d).name left)
            ∙ ap (λ (ts : List (List ℕ)). given_on given i ++ ts) (sym (texts_on-yes (get_or channels i d).name line left ((bytes_eq-Decides (channel_in line) (get_or channels i d).name).1 (sym named))))
            ∙ g.texts i d found.0)
        | inr ne ↦ ap (λ (ts : List (List ℕ)). ts ++ texts_on (get_or channels k d).name left) (get_or-set_other given i k (given_on given i ++ text_in line ∷ []) [] ne)
            ∙ ap (λ (ts : List (List ℕ)). given_on given k ++ ts) (sym (texts_on-no (get_or channels k d).name line left
            (false_from_ne_true (same_name (channel_in line) (get_or channels k d).name) (λ t. names_differ channels k i d distinct lt found.0 ne (sym ((bytes_eq-Decides (channel_in line) (get_or channels k d).name).0 t) ∙ sym named)))))
            ∙ g.texts k d lt
      ];
}

-- a bad line is the fault of the whole
pub bad_line : (channels : List Channel) (bytes line : List ℕ) (left : List (List ℕ)) (number : ℕ) (given : Given) (kind : InputKind) → fault_of_line channels line ≡ Some kind → AreGiven channels (lines_of bytes) (line ∷ left) number given
    → inputs_of channels bytes ≡ Err (record { line = number + 1; kind = kind })
unfolding inputs_of
bad_line channels bytes line left number given kind e g =
    ap (λ (o : Option (BadLine InputKind)). unless_bad o (map (λ (c : Channel). texts_on c.name (lines_of bytes)) channels)) (sym g.fault ∙ first_bad-here (number + 1) channels line left kind e)

-- what reading a line did not give
pub line_fails : (fault : InputFault) (channels : List Channel) (bytes line : List ℕ) (left : List (List ℕ)) (number : ℕ) (given : Given) → AreGiven channels (lines_of bytes) (line ∷ left) number given
    → ReadsLine (Err fault) (number + 1) channels line → GivesInputs (Err fault) (inputs_of channels bytes)
line_fails (input.Bad at kind) channels bytes line left number given g h =
    bad_line channels bytes line left number given kind h.1 g ∙ ap (λ (n : ℕ). Err (record { line = n; kind = kind })) (sym h.0)
line_fails input.OutOfMemory channels bytes line left number given g h = tt

-- a channel's texts when all lines are given
given_at : (channels : List Channel) (bytes : List ℕ) (number : ℕ) (given : Given) → AreGiven channels (lines_of bytes) [] number given → (k : ℕ) → k < length channels
    → get_or (map (λ (c : Channel). texts_on c.name (lines_of bytes)) channels) k [] ≡ get_or given k []
given_at channels bytes number given g k lt =
    let d : Channel = record { name = []; label = [] } in
    get_or-map (λ (c : Channel). texts_on c.name (lines_of bytes)) channels k d [] lt ∙ sym (g.texts k d lt)
    ∙ ap (λ (ts : List (List ℕ)). given_on given k ++ ts) (texts_on-none (get_or channels k d).name) ∙ append-nil (given_on given k)

-- all lines are given
pub AreGiven-done : (channels : List Channel) (bytes : List ℕ) (number : ℕ) (given : Given) → AreGiven channels (lines_of bytes) [] number given → inputs_of channels bytes ≡ Ok given
unfolding inputs_of
AreGiven-done channels bytes number given g =
    let on = λ (c : Channel). texts_on c.name (lines_of bytes) in
    let len = length-map channels on in
    let all : map on channels ≡ given = ext_get_or [] (map on channels) given (omega (arith, g.room)) (λ k lt. given_at channels bytes number given g k (omega arith)) in
    ap (λ (o : Option (BadLine InputKind)). unless_bad o (map on channels)) (sym g.fault ∙ first_bad-none (number + 1) channels) ∙ ap (λ (gs : Given). Ok gs) all

-- ---- what the code of a line gives

read_cases : (b : Bool) (units text : List ℕ) (n : ℕ) → ◌≡◌ {A = Result (List ℕ) ℕ} (cond b (Ok units) (Err n)) (Ok text) → (b ≡ true) × (units ≡ text)
read_cases true units text n e = (refl, cc)
read_cases false units text n e = absurd cc

bad_cases : (b : Bool) (units : List ℕ) (n at : ℕ) → ◌≡◌ {A = Result (List ℕ) ℕ} (cond b (Ok units) (Err n)) (Err at) → b ≡ false
bad_cases true units n at e = absurd cc
bad_cases false units n at e = refl

text_read : (line text : List ℕ) → text_of_utf8 line ≡ Ok text → (is_utf8 line ≡ true) × (units_of line ≡ text)
unfolding text_of_utf8
text_read line text e = read_cases (is_utf8 line) (units_of line) text (utf8_valid_len line) e

pub text_bad : (line : List ℕ) (at : ℕ) → text_of_utf8 line ≡ Err at → is_utf8 line ≡ false
unfolding text_of_utf8
text_bad line at e = bad_cases (is_utf8 line) (units_of line) (utf8_valid_len line) at e

pub line_read : (channels : List Channel) (line text name rest : List ℕ) (i : ℕ) → text_of_utf8 line ≡ Ok text → name ≡ before_first is_space text → rest ≡ after_first is_space text
    → position (λ c. same_name c.name name) channels ≡ Some i → (fault_of_line channels line ≡ None) × (position (λ c. same_name c.name (channel_in line)) channels ≡ Some i) × (rest ≡ text_in line)
unfolding channel_in text_in
line_read channels line text name rest i e before after at =
    let read = text_read line text e in
    let named : name ≡ before_first is_space (units_of line) = before ∙ ap (before_first is_space) (sym read.1) in
    let found = subst (λ (n : List ℕ). position (λ (c : Channel). same_name c.name n) channels ≡ Some i) named at in
    (fault_known channels line i (record { name = []; label = [] }) read.0 found, found, after ∙ ap (after_first is_space) (sym read.1))

pub line_unknown : (channels : List Channel) (line text name : List ℕ) → text_of_utf8 line ≡ Ok text → name ≡ before_first is_space text → position (λ c. same_name c.name name) channels ≡ None → fault_of_line channels line ≡ Some kinds.Channel
unfolding channel_in
line_unknown channels line text name e before at =
    let read = text_read line text e in
    let named : name ≡ before_first is_space (units_of line) = before ∙ ap (before_first is_space) (sym read.1) in
    fault_unknown channels line read.0 (subst (λ (n : List ℕ). position (λ (c : Channel). same_name c.name n) channels ≡ None) named at)

-- a text that is added to one channel's list
pub added_at : {X : Type 0} (f : X → List (List ℕ)) (xs : List X) (i : ℕ) (x y : X) (text : List ℕ) → i < length (map f xs) → x ≡ get_or xs i x → f y ≡ f x ++ text ∷ []
    → map f (set xs i y) ≡ set (map f xs) i (given_on (map f xs) i ++ text ∷ [])
added_at f xs i x y text lt e h =
    let len = length-map xs f in
    let old : f x ≡ given_on (map f xs) i = ap f e ∙ sym (get_or-map f xs i x [] (omega arith)) in
    map-set f xs i y ∙ ap (λ (ts : List (List ℕ)). set (map f xs) i ts) (h ∙ ap (λ (ts : List (List ℕ)). ts ++ text ∷ []) old)
