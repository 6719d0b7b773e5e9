-- What lines leave of a policy, and what holds of each policy.
use Rattle.std.proofs.Common.{arith, refl, sym, ap, ap₂, ◌∙◌, subst, ◌≡◌, ◌<◌, ◌≤◌, ◌+◌, ℕ, Bool, true, false, cond, nat_lt, nat_le, ◌==◌, ◌&&◌, ◌||◌, not, List, [], ◌∷◌, ◌++◌, length, map, get_or, All, Option, Some, None, Result, Ok, Err}
use Rattle.std.specs.Prelude.{codes}
use Rattle.std.specs.List.{list_all, AllByRecursion}
use Rattle.std.specs.Option.{unwrap_or}
use Rattle.std.proofs.lemmas.Bool.{and_parts, leb-false, false≢true, cond_both}
use Rattle.std.proofs.lemmas.Option.{some_pair_parts}
use Rattle.std.proofs.lemmas.List.{same_from_push, length_push, map_push}
use Rattle.std.proofs.lemmas.List.Elements.{All-push, All-weaker, All-from_recursion}
use Rattle.std.proofs.lemmas.List.Folds.{list_any_at}
use Rattle.std.proofs.lemmas.List.Quantifiers.{all_pairs_push}
use Rattle.std.proofs.lemmas.Slice.Eq.{bytes_eq-Decides}
use Rattle.origin_labels.specs.Label.{Label, IsLabel, label_of, with_origin}
use Rattle.origin_labels.specs.Names.{same_name, has_name, place_of, AreDistinct}
use Rattle.origin_labels.proofs.LabelLaws.{IsLabel-label_of}
use Rattle.flow_policy.specs.declared.policy.Channel.{Channel}
use Rattle.flow_policy.specs.declared.fault.PolicyKind.{PolicyKind}
use Rattle.flow_policy.specs.declared.fault.PolicyKind.TheVariants.{Keyword, Words, Name, Unknown, Repeat, Many}
use Rattle.flow_policy.specs.declared.fault.LineFault.{LineFault}
use Rattle.flow_policy.specs.declared.fault.LineFault.TheVariants as line
use Rattle.flow_policy.specs.Faults.{fault_at}
use Rattle.flow_policy.specs.Lines.{lines_of}
use Rattle.flow_lists.specs.Names.{is_name}
use Rattle.flow_policy.specs.Words.{words_of}
use Rattle.flow_lists.specs.Lists.{names_in, are_names}
use Rattle.flow_policy.specs.Lists.{are_declared, label_in, numbers_of}
use Rattle.flow_policy.specs.Words.{only_word, only_two}
use Rattle.flow_policy.specs.Policies.{Tables, no_tables, has_channel, with_new_origin, with_new_channel, ok_map, after_origin, after_in, after_out, is_comment, after_words, next_line, after_lines, policy_of, IsChannel, AreChannels, IsPolicy}
use Rattle.flow_policy.specs.Answers.{GivesPolicy, FailsLine}
use Rattle.flow_policy.proofs.Marks.{place_of-has, place_of-hasnt}

-- ---- a further origin

-- a test that was passed
passed : {A : Type 0} (b : Bool) (kind : PolicyKind) (r : Result A PolicyKind) (x : A) → cond b (Err kind) r ≡ Ok x → (b ≡ false) × (r ≡ Ok x)
passed true kind r x e = absurd cc
passed false kind r x e = (refl, e)

not_false : (b : Bool) → not b ≡ false → b ≡ true
not_false true e = refl
not_false false e = absurd (false≢true (sym e))

ok_is : {A : Type 0} (x y : A) → ◌≡◌ {A = Result A PolicyKind} (Ok x) (Ok y) → x ≡ y
ok_is x y e = cc

-- what holds of a further origin
pub record IsNewOrigin (origins : List (List ℕ)) (name : List ℕ) (more : List (List ℕ)) : Type 0 where
  pub named : is_name name ≡ true
  pub fresh : has_name name origins ≡ false
  pub room : length origins < 64
  pub all : origins ++ name ∷ [] ≡ more

pub new_origin_is : (origins : List (List ℕ)) (name : List ℕ) (more : List (List ℕ)) → with_new_origin origins name ≡ Ok more → IsNewOrigin origins name more
unfolding with_new_origin
new_origin_is origins name more e =
    let a = passed (not (is_name name)) Name (cond (has_name name origins) (Err Repeat) (cond (nat_le 64 (length origins)) (Err Many) (Ok (origins ++ name ∷ [])))) more e in
    let b = passed (has_name name origins) Repeat (cond (nat_le 64 (length origins)) (Err Many) (Ok (origins ++ name ∷ []))) more a.1 in
    let c = passed (nat_le 64 (length origins)) Many (Ok (origins ++ name ∷ [])) more b.1 in
    record { named = not_false (is_name name) a.0; fresh = b.0; room = leb-false 64 (length origins) c.0; all = ok_is (origins ++ name ∷ []) more c.1 }

-- a name that stands nowhere is another than each
other_name : (name : List ℕ) (names : List (List ℕ)) → has_name name names ≡ false → (k : ℕ) (d : List ℕ) → k < length names → get_or names k d ≡ name → ⊥
unfolding has_name
other_name name names none k d lt e =
    false≢true (sym none ∙ list_any_at (λ (other : List ℕ). same_name other name) names k d lt ((bytes_eq-Decides (get_or names k d) name).1 e))

distinct_push : (name : List ℕ) (names : List (List ℕ)) → AreDistinct names → has_name name names ≡ false → AreDistinct (names ++ name ∷ [])
distinct_push name names h none = all_pairs_push (λ (a b : List ℕ). a ≡ b → ⊥) names name (λ i j d lt in'. h i j d lt in') (other_name name names none)

-- channels of fewer origins are channels of more
IsChannel-more : (n m : ℕ) (channel : Channel) → n ≤ m → IsChannel n channel → IsChannel m channel
IsChannel-more n m channel le h = record { name = h.name; label = h.label; declared = All-weaker (λ o. o < n) (λ o. o < m) (λ x lt. omega arith) channel.label h.declared }

AreChannels-more : (n m : ℕ) (channels : List Channel) → n ≤ m → AreChannels n channels → AreChannels m channels
AreChannels-more n m channels le h = record { each = All-weaker (IsChannel n) (IsChannel m) (λ c i. IsChannel-more n m c le i) channels h.each; distinct = h.distinct; few = h.few }

pub IsPolicy-origin : (tables : Tables) (name : List ℕ) (more : List (List ℕ)) → IsPolicy tables → with_new_origin tables.origins name ≡ Ok more → IsPolicy (record tables { origins = more })
IsPolicy-origin tables name more h e =
    let new = new_origin_is tables.origins name more e in
    let len = length_push tables.origins name in
    subst (λ (os : List (List ℕ)). IsPolicy (record tables { origins = os })) new.all (record {
      names = All-push (λ n. is_name n ≡ true) tables.origins name h.names new.named;
      origins = distinct_push name tables.origins h.origins new.fresh;
      few = omega (arith, new.room);
      inputs = AreChannels-more (length tables.origins) (length (tables.origins ++ name ∷ [])) tables.inputs (omega arith) h.inputs;
      outputs = AreChannels-more (length tables.origins) (length (tables.origins ++ name ∷ [])) tables.outputs (omega arith) h.outputs;
    })

-- ---- a further channel

-- what holds of a further channel
pub record IsNewChannel (origins : List (List ℕ)) (channels : List Channel) (name list : List ℕ) (more : List Channel) : Type 0 where
  pub named : is_name name ≡ true
  pub declared : are_declared origins list ≡ true
  pub fresh : has_channel name channels ≡ false
  pub room : length channels < 64
  pub all : channels ++ record { name = name; label = label_in origins list } ∷ [] ≡ more

pub new_channel_is : (origins : List (List ℕ)) (channels : List Channel) (name list : List ℕ) (more : List Channel) → with_new_channel origins channels name list ≡ Ok more → IsNewChannel origins channels name list more
unfolding with_new_channel
new_channel_is origins channels name list more e =
    let made : Result (List Channel) PolicyKind = Ok (channels ++ record { name = name; label = label_in origins list } ∷ []) in
    let a = passed (not (is_name name && are_names list)) Name (cond (not (are_declared origins list)) (Err Unknown) (cond (has_channel name channels) (Err Repeat) (cond (nat_le 64 (length channels)) (Err Many) made))) more e in
    let b = passed (not (are_declared origins list)) Unknown (cond (has_channel name channels) (Err Repeat) (cond (nat_le 64 (length channels)) (Err Many) made)) more a.1 in
    let c = passed (has_channel name channels) Repeat (cond (nat_le 64 (length channels)) (Err Many) made) more b.1 in
    let d = passed (nat_le 64 (length channels)) Many made more c.1 in
    record {
      named = (and_parts (is_name name) (are_names list) (not_false (is_name name && are_names list) a.0)).0;
      declared = not_false (are_declared origins list) b.0;
      fresh = c.0;
      room = leb-false 64 (length channels) d.0;
      all = ok_is (channels ++ record { name = name; label = label_in origins list } ∷ []) more d.1;
    }

-- a channel of the name is a name of the channels
pub has_channel-names : (name : List ℕ) (channels : List Channel) → has_channel name channels ≡ has_name name (map (λ c. c.name) channels)
unfolding has_name
has_channel-names name [] = refl
has_channel-names name (c ∷ channels) = ap (λ (b : Bool). same_name c.name name || b) (has_channel-names name channels)

-- the origins of a list of declared origins are declared
rec_with : (n k : ℕ) (label : Label) → k < n → AllByRecursion (λ o. o < n) label → AllByRecursion (λ o. o < n) (with_origin k label)
unfolding with_origin
rec_with n k [] lt h = (lt, tt)
rec_with n k (j ∷ label) lt h = cond_both (nat_lt k j) (k ∷ j ∷ label) (cond (k == j) (j ∷ label) (j ∷ with_origin k label)) (AllByRecursion (λ o. o < n))
    (λ e. (lt, h))
    (λ e. cond_both (k == j) (j ∷ label) (j ∷ with_origin k label) (AllByRecursion (λ o. o < n)) (λ f. h) (λ f. (h.0, rec_with n k label lt h.1)))

place_below : (origins : List (List ℕ)) (name : List ℕ) (o : Option ℕ) → place_of name origins ≡ o → has_name name origins ≡ true → unwrap_or o 0 < length origins
place_below origins name None e h = absurd (false≢true (sym (place_of-hasnt name origins e) ∙ h))
place_below origins name (Some i) e h = (place_of-has name origins i e).0

rec_label : (origins names : List (List ℕ)) → list_all (λ name. has_name name origins) names ≡ true → AllByRecursion (λ o. o < length origins) (label_of (numbers_of origins names))
unfolding label_of
rec_label origins [] e = tt
rec_label origins (name ∷ names) e =
    let parts = and_parts (has_name name origins) (list_all (λ n. has_name n origins) names) e in
    rec_with (length origins) (unwrap_or (place_of name origins) 0) (label_of (numbers_of origins names)) (place_below origins name (place_of name origins) refl parts.0) (rec_label origins names parts.1)

label_declared : (origins : List (List ℕ)) (list : List ℕ) → are_declared origins list ≡ true → All (λ o. o < length origins) (label_in origins list)
unfolding label_in
label_declared origins list e = All-from_recursion (λ o. o < length origins) (label_of (numbers_of origins (names_in list))) (rec_label origins (names_in list) e)

label_rising : (origins : List (List ℕ)) (list : List ℕ) → IsLabel (label_in origins list)
unfolding label_in
label_rising origins list = IsLabel-label_of (numbers_of origins (names_in list))

pub AreChannels-push : (origins : List (List ℕ)) (channels more : List Channel) (name list : List ℕ) → AreChannels (length origins) channels → with_new_channel origins channels name list ≡ Ok more → AreChannels (length origins) more
AreChannels-push origins channels more name list h e =
    let new = new_channel_is origins channels name list more e in
    let channel : Channel = record { name = name; label = label_in origins list } in
    let len = length_push channels channel in
    let fresh : has_name name (map (λ (c : Channel). c.name) channels) ≡ false = sym (has_channel-names name channels) ∙ new.fresh in
    subst (AreChannels (length origins)) new.all (record {
      each = All-push (IsChannel (length origins)) channels channel h.each (record { name = new.named; label = label_rising origins list; declared = label_declared origins list new.declared });
      distinct = subst AreDistinct (sym (map_push (λ (c : Channel). c.name) channels channel)) (distinct_push name (map (λ (c : Channel). c.name) channels) h.distinct fresh);
      few = omega (arith, new.room);
    })

pub IsPolicy-input : (tables : Tables) (name list : List ℕ) (more : List Channel) → IsPolicy tables → with_new_channel tables.origins tables.inputs name list ≡ Ok more → IsPolicy (record tables { inputs = more })
IsPolicy-input tables name list more h e = record { names = h.names; origins = h.origins; few = h.few; inputs = AreChannels-push tables.origins tables.inputs more name list h.inputs e; outputs = h.outputs }

pub IsPolicy-output : (tables : Tables) (name list : List ℕ) (more : List Channel) → IsPolicy tables → with_new_channel tables.origins tables.outputs name list ≡ Ok more → IsPolicy (record tables { outputs = more })
IsPolicy-output tables name list more h e = record { names = h.names; origins = h.origins; few = h.few; inputs = h.inputs; outputs = AreChannels-push tables.origins tables.outputs more name list h.outputs e }

-- ---- what a line declares

pub fails_map : {A B : Type 0} (f : A → B) (fault : LineFault) (r : Result A PolicyKind) → FailsLine fault r → FailsLine fault (ok_map f r)
fails_map f (line.Bad kind) r h = ap (ok_map f) h
fails_map f line.OutOfMemory r h = tt

pub after_origin-words : (tables : Tables) (words : List (List ℕ)) → only_word words ≡ None → after_origin tables words ≡ Err Words
unfolding after_origin only_word
after_origin-words tables [] e = refl
after_origin-words tables (name ∷ []) e = absurd cc
after_origin-words tables (name ∷ next ∷ words) e = refl

pub after_origin-one : (tables : Tables) (words : List (List ℕ)) (name : List ℕ) → only_word words ≡ Some name → after_origin tables words ≡ ok_map (λ origins. record tables { origins = origins }) (with_new_origin tables.origins name)
unfolding after_origin only_word
after_origin-one tables [] name e = absurd cc
after_origin-one tables (first ∷ []) name e = let same : first ≡ name = cc in ap (λ (n : List ℕ). ok_map (λ (origins : List (List ℕ)). record tables { origins = origins }) (with_new_origin tables.origins n)) same
after_origin-one tables (first ∷ next ∷ words) name e = absurd cc

pub after_in-words : (tables : Tables) (words : List (List ℕ)) → only_two words ≡ None → after_in tables words ≡ Err Words
unfolding after_in only_two
after_in-words tables [] e = refl
after_in-words tables (name ∷ []) e = refl
after_in-words tables (name ∷ list ∷ []) e = absurd cc
after_in-words tables (name ∷ list ∷ third ∷ words) e = refl

pub after_in-two : (tables : Tables) (words : List (List ℕ)) (name list : List ℕ) → only_two words ≡ Some (name, list) → after_in tables words ≡ ok_map (λ inputs. record tables { inputs = inputs }) (with_new_channel tables.origins tables.inputs name list)
unfolding after_in only_two
after_in-two tables [] name list e = absurd cc
after_in-two tables (first ∷ []) name list e = absurd cc
after_in-two tables (first ∷ second ∷ []) name list e =
    let same = some_pair_parts first name second list e in
    ap₂ (λ (n l : List ℕ). ok_map (λ (inputs : List Channel). record tables { inputs = inputs }) (with_new_channel tables.origins tables.inputs n l)) same.0 same.1
after_in-two tables (first ∷ second ∷ third ∷ words) name list e = absurd cc

pub after_out-words : (tables : Tables) (words : List (List ℕ)) → only_two words ≡ None → after_out tables words ≡ Err Words
unfolding after_out only_two
after_out-words tables [] e = refl
after_out-words tables (name ∷ []) e = refl
after_out-words tables (name ∷ list ∷ []) e = absurd cc
after_out-words tables (name ∷ list ∷ third ∷ words) e = refl

pub after_out-two : (tables : Tables) (words : List (List ℕ)) (name list : List ℕ) → only_two words ≡ Some (name, list) → after_out tables words ≡ ok_map (λ outputs. record tables { outputs = outputs }) (with_new_channel tables.origins tables.outputs name list)
unfolding after_out only_two
after_out-two tables [] name list e = absurd cc
after_out-two tables (first ∷ []) name list e = absurd cc
after_out-two tables (first ∷ second ∷ []) name list e =
    let same = some_pair_parts first name second list e in
    ap₂ (λ (n l : List ℕ). ok_map (λ (outputs : List Channel). record tables { outputs = outputs }) (with_new_channel tables.origins tables.outputs n l)) same.0 same.1
after_out-two tables (first ∷ second ∷ third ∷ words) name list e = absurd cc

-- ---- lines

-- what the lines from one on leave
pub lines_end : (number : ℕ) (tables : Tables) (lines : List (List ℕ)) → lines ≡ [] → after_lines number tables lines ≡ Ok tables
unfolding after_lines
lines_end number tables lines e = ap (after_lines number tables) e

pub lines_step : (number : ℕ) (tables after : Tables) (lines more : List (List ℕ)) (first : List ℕ) → lines ≡ first ∷ more → after_words tables (words_of first) ≡ Ok after → after_lines number tables lines ≡ after_lines (number + 1) after more
unfolding after_lines
lines_step number tables after lines more first e read =
    ap (after_lines number tables) e ∙ ap (λ (r : Result Tables PolicyKind). next_line number r (λ t. after_lines (number + 1) t more)) read

pub lines_fail : (number : ℕ) (tables : Tables) (lines more : List (List ℕ)) (first : List ℕ) (fault : LineFault) → lines ≡ first ∷ more → FailsLine fault (after_words tables (words_of first)) → GivesPolicy (Err (fault_at number fault)) (after_lines number tables lines)
unfolding after_lines
lines_fail number tables lines more first (line.Bad kind) e read =
    ap (after_lines number tables) e ∙ ap (λ (r : Result Tables PolicyKind). next_line number r (λ t. after_lines (number + 1) t more)) read
lines_fail number tables lines more first line.OutOfMemory e read = tt

-- ---- what a declaration leaves, as its code says it

pub fresh_origin : (origins : List (List ℕ)) (name new : List ℕ) → with_new_origin origins name ≡ Ok (origins ++ new ∷ []) → has_name new origins ≡ false
fresh_origin origins name new e =
    let made = new_origin_is origins name (origins ++ new ∷ []) e in
    subst (λ (n : List ℕ). has_name n origins ≡ false) (same_from_push origins origins name new made.all).1 made.fresh

pub origin_declared : (tables : Tables) (words : List (List ℕ)) (name : List ℕ) (more : List (List ℕ)) → only_word words ≡ Some name → with_new_origin tables.origins name ≡ Ok more → after_origin tables words ≡ Ok (record tables { origins = more })
origin_declared tables words name more e new = after_origin-one tables words name e ∙ ap (ok_map (λ (origins : List (List ℕ)). record tables { origins = origins })) new

pub input_declared : (tables : Tables) (words : List (List ℕ)) (name list : List ℕ) (more : List Channel) → only_two words ≡ Some (name, list) → with_new_channel tables.origins tables.inputs name list ≡ Ok more → after_in tables words ≡ Ok (record tables { inputs = more })
input_declared tables words name list more e new = after_in-two tables words name list e ∙ ap (ok_map (λ (inputs : List Channel). record tables { inputs = inputs })) new

pub output_declared : (tables : Tables) (words : List (List ℕ)) (name list : List ℕ) (more : List Channel) → only_two words ≡ Some (name, list) → with_new_channel tables.origins tables.outputs name list ≡ Ok more → after_out tables words ≡ Ok (record tables { outputs = more })
output_declared tables words name list more e new = after_out-two tables words name list e ∙ ap (ok_map (λ (outputs : List Channel). record tables { outputs = outputs })) new

pub origin_fails : (tables : Tables) (words : List (List ℕ)) (name : List ℕ) (fault : LineFault) → only_word words ≡ Some name → FailsLine fault (with_new_origin tables.origins name) → FailsLine fault (after_origin tables words)
origin_fails tables words name fault e h =
    subst (FailsLine fault) (sym (after_origin-one tables words name e)) (fails_map (λ (origins : List (List ℕ)). record tables { origins = origins }) fault (with_new_origin tables.origins name) h)

pub input_fails : (tables : Tables) (words : List (List ℕ)) (name list : List ℕ) (fault : LineFault) → only_two words ≡ Some (name, list) → FailsLine fault (with_new_channel tables.origins tables.inputs name list) → FailsLine fault (after_in tables words)
input_fails tables words name list fault e h =
    subst (FailsLine fault) (sym (after_in-two tables words name list e)) (fails_map (λ (inputs : List Channel). record tables { inputs = inputs }) fault (with_new_channel tables.origins tables.inputs name list) h)

pub output_fails : (tables : Tables) (words : List (List ℕ)) (name list : List ℕ) (fault : LineFault) → only_two words ≡ Some (name, list) → FailsLine fault (with_new_channel tables.origins tables.outputs name list) → FailsLine fault (after_out tables words)
output_fails tables words name list fault e h =
    subst (FailsLine fault) (sym (after_out-two tables words name list e)) (fails_map (λ (outputs : List Channel). record tables { outputs = outputs }) fault (with_new_channel tables.origins tables.outputs name list) h)

-- ---- the first word of a line

pub words_none : (tables : Tables) (words : List (List ℕ)) → words ≡ [] → after_words tables words ≡ Ok tables
unfolding after_words
words_none tables words e = ap (after_words tables) e

pub words_comment : (tables : Tables) (words others : List (List ℕ)) (word : List ℕ) → words ≡ word ∷ others → is_comment word ≡ true → after_words tables words ≡ Ok tables
unfolding after_words
words_comment tables words others word e h = ap (after_words tables) e ∙ rw h refl

pub words_origin : (tables : Tables) (words others : List (List ℕ)) (word : List ℕ) → words ≡ word ∷ others → is_comment word ≡ false → same_name word (codes "origin") ≡ true → after_words tables words ≡ after_origin tables others
unfolding after_words
words_origin tables words others word e h origin = ap (after_words tables) e ∙ rw (h, origin) refl

pub words_in : (tables : Tables) (words others : List (List ℕ)) (word : List ℕ) → words ≡ word ∷ others → is_comment word ≡ false → same_name word (codes "origin") ≡ false → same_name word (codes "in") ≡ true → after_words tables words ≡ after_in tables others
unfolding after_words
words_in tables words others word e h origin in' = ap (after_words tables) e ∙ rw (h, origin, in') refl

pub words_out : (tables : Tables) (words others : List (List ℕ)) (word : List ℕ) → words ≡ word ∷ others → is_comment word ≡ false → same_name word (codes "origin") ≡ false → same_name word (codes "in") ≡ false → same_name word (codes "out") ≡ true → after_words tables words ≡ after_out tables others
unfolding after_words
words_out tables words others word e h origin in' out = ap (after_words tables) e ∙ rw (h, origin, in', out) refl

pub words_keyword : (tables : Tables) (words others : List (List ℕ)) (word : List ℕ) → words ≡ word ∷ others → is_comment word ≡ false → same_name word (codes "origin") ≡ false → same_name word (codes "in") ≡ false → same_name word (codes "out") ≡ false → after_words tables words ≡ Err Keyword
unfolding after_words
words_keyword tables words others word e h origin in' out = ap (after_words tables) e ∙ rw (h, origin, in', out) refl

pub lines_start : (bytes : List ℕ) → after_lines 1 no_tables (lines_of bytes) ≡ policy_of bytes
unfolding policy_of
lines_start bytes = refl
