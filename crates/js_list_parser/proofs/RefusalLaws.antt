-- Tokens are refused at one place at most, for one fault, and not where they are a tree; and a parser on lists refuses where no tree goes on. All
-- that is shown once, for each kind of tree that such a parser reads.
use Rattle.std.proofs.Common.{◌≡◌, ℕ, suc, ◌<◌, ◌≤◌, max, ◌⊎◌, inl, inr, Bool, true, false, not, List, [], ◌∷◌, ◌++◌, Some, Ok, Err, refl, sym, ap, subst, ◌∙◌, append_assoc, append-nil, arith}
use Rattle.std.proofs.lemmas.List.{append_cancel_right}
use Rattle.js_ast.specs.declared.token.Token.{Token}
use Rattle.js_ast.specs.declared.words.Keyword.TheVariants as key
use Rattle.js_ast.specs.Words.{a_key, word_of}
use Rattle.js_list_parser.specs.Reading.{Fault, syntax, with_statement, nesting, refused, Read}
use Rattle.js_list_parser.proofs.Outcomes.{same_tree, same_rest}
use Rattle.js_list_parser.proofs.Local.{Local, never, Instead, Swapped}
use Rattle.js_list_parser.specs.Refusals.{Nonterminal, BeginsAny, IsAny, InPlaceOf, Why, IsRefused, IsFound, IsRefusedSomewhere, FindsExactly, RefusesExactly, OneFound, OneRefusal, FoundOrRefused}

-- ---- lists of tokens

-- a token more, with others behind it
pub one_more : (a : List Token) (x : Token) (b : List Token) → (a ++ x ∷ []) ++ b ≡ a ++ x ∷ b
one_more a x b = append_assoc a (x ∷ []) b

-- of two beginnings of the same tokens one begins the other
common : (a b y z : List Token) → a ++ y ≡ b ++ z → ((c : List Token) × (b ≡ a ++ c) × (y ≡ c ++ z)) ⊎ ((c : List Token) × (a ≡ b ++ c) × (z ≡ c ++ y))
common [] b y z e = inl (b, refl, e)
common (t ∷ a) [] y z e = inr (t ∷ a, refl, sym e)
common (t ∷ a) (s ∷ b) y z e = let first : t ≡ s = cc in let rest : a ++ y ≡ b ++ z = cc in elim (common a b y z rest) [
  | inl h ↦ inl (h.0, rw (first, h.1) refl, h.2)
  | inr h ↦ inr (h.0, rw (first, h.1) refl, h.2)
]

-- ---- what a parser on lists has to show

-- what a refusal of the parser shows of trees that go on: the positive half
pub record Halts {T : Type 0} (kind : Nonterminal T) (limit : ℕ) (f : Fault) (tokens others : List Token) : Type 0 where
  pub taken : List Token
  pub parts : tokens ≡ taken ++ others
  pub begins : kind.Begins limit taken
  pub deeper : f ≡ nesting → (x : Token) × (rest : List Token) × (others ≡ x ∷ rest) × BeginsAny kind (taken ++ x ∷ [])
  pub stands : f ≡ with_statement → (x : Token) × (rest : List Token) × (others ≡ x ∷ rest) × (word_of x ≡ a_key key.With) × ((t : Token) × InPlaceOf x t × BeginsAny kind (taken ++ t ∷ []))

-- It looks one token ahead only, a larger depth changes no answer but a refusal for nesting, what goes on with tokens is read to its end, and where
-- it refuses it says so.
pub record Parses {T : Type 0} (kind : Nonterminal T) (read : ℕ → List Token → Read T) : Type 0 where
  pub front : (limit : ℕ) (a b : List Token) → kind.Begins limit (a ++ b) → kind.Begins limit a
  pub whole : (limit : ℕ) (taken : List Token) → kind.Begins limit taken → (more : List Token) × (tree : T) × (read limit (taken ++ more) ≡ Ok (tree, []))
  pub local : (limit : ℕ) (ts : List Token) → Local true never (read limit) ts (read limit ts)
  pub grows : (small big : ℕ) → small ≤ big → (ts : List Token) → Local false never (read big) ts (read small ts)
  pub halts : (limit : ℕ) → 1 ≤ limit → (ts z : List Token) (f : Fault) → read limit ts ≡ Err (refused f z) → Halts kind limit f ts z

-- and it reads exactly the trees
pub record Finds {T : Type 0} (kind : Nonterminal T) (read : ℕ → List Token → Read T) : Type 0 where
  pub begun : (limit : ℕ) (tree : T) (taken others : List Token) → kind.Is limit tree taken others → kind.Begins limit taken
  pub sound : (limit : ℕ) (tree : T) (ts z : List Token) → read limit ts ≡ Ok (tree, z) → (taken : List Token) × (ts ≡ taken ++ z) × kind.Is limit tree taken z
  pub complete : (limit : ℕ) (tree : T) (taken others : List Token) → kind.Is limit tree taken others → read limit (taken ++ others) ≡ Ok (tree, others)

-- ---- one parser

not_both : {T : Type 0} (a : T) (z : List Token) (f : Fault) (y : List Token) → (let r : Read T = Ok (a, z) in r ≡ Err (refused f y)) → ⊥
not_both a z f y e = cc

-- `debugger` in place of `with`
swapped : (x t : Token) (z y : List Token) → word_of x ≡ a_key key.With → InPlaceOf x t → Swapped (x ∷ z) (t ∷ y)
swapped x t z y w i = record { here = ap Some w; there = ap Some i.0; line = ap not (sym i.1) }

module _ {T : Type 0} (kind : Nonterminal T) (read : ℕ → List Token → Read T) (parses : Parses kind read) where
  -- what it reads at a number it reads at a larger one, also where other tokens stand behind the next
  ok_grows : (small big : ℕ) → small ≤ big → (tree : T) (taken : List Token) (x : Token) (z y : List Token) → read small (taken ++ x ∷ z) ≡ Ok (tree, x ∷ z) → read big (taken ++ x ∷ y) ≡ Ok (tree, x ∷ y)
  ok_grows small big le tree taken x z y e =
      let w = (parses.grows small big le (taken ++ x ∷ z)).reads tree (x ∷ z) e in
      let same_word : w.word ≡ taken = append_cancel_right w.word taken (x ∷ z) (sym w.parts) in
      subst (λ (v : List Token). read big (v ++ x ∷ y) ≡ Ok (tree, x ∷ y)) same_word (w.each (x ∷ y) (inl refl))

  -- and to the end
  all_grows : (small big : ℕ) → small ≤ big → (tree : T) (taken : List Token) → read small taken ≡ Ok (tree, []) → read big taken ≡ Ok (tree, [])
  all_grows small big le tree taken e =
      let w = (parses.grows small big le taken).reads tree [] e in
      let same_word : w.word ≡ taken = sym (w.parts ∙ append-nil w.word) in
      subst (λ (v : List Token). read big v ≡ Ok (tree, [])) (append-nil w.word ∙ same_word) (w.each [] (inl refl))

  -- what it refuses on tokens it refuses on others that begin alike
  err_grows : (same : Bool) (small big : ℕ) (f : Fault) (ts taken z y : List Token) → Local same never (read big) ts (read small ts) → ts ≡ taken ++ z → read small ts ≡ Err (refused f z) → Instead same f z y → read big (taken ++ y) ≡ Err (refused f y)
  err_grows same small big f ts taken z y l parts e i =
      let w = l.refuses f z e in
      let same_word : w.word ≡ taken = append_cancel_right w.word taken z (sym w.parts ∙ parts) in
      subst (λ (v : List Token). read big (v ++ y) ≡ Err (refused f y)) same_word (w.each y i)

  -- where it has read a tree no tree goes on with the next token
  pub ends : (limit : ℕ) (tree : T) (taken : List Token) (x : Token) (z : List Token) → read limit (taken ++ x ∷ z) ≡ Ok (tree, x ∷ z) → BeginsAny kind (taken ++ x ∷ []) → ⊥
  ends limit tree taken x z e b =
      let h = parses.whole b.0 (taken ++ x ∷ []) b.1 in
      let big = max limit b.0 in
      let goes = all_grows b.0 big (omega arith) h.1 (taken ++ x ∷ h.0) (subst (λ (v : List Token). read b.0 v ≡ Ok (h.1, [])) (one_more taken x h.0) h.2) in
      let stops = ok_grows limit big (omega arith) tree taken x z h.0 e in
      let bad : [] ≡ x ∷ h.0 = same_rest h.1 tree [] (x ∷ h.0) (sym goes ∙ stops) in cc

  -- ---- refusals

  module _ (limit : ℕ) (f : Fault) (tokens taken z : List Token) (parts : tokens ≡ taken ++ z) (refuses : read limit tokens ≡ Err (refused f z)) where
    -- a refusal for no depth is one at each larger depth
    goes_nowhere : (x : Token) → ((y : List Token) → Instead false f z (x ∷ y)) → BeginsAny kind (taken ++ x ∷ []) → ⊥
    goes_nowhere x i b =
        let h = parses.whole b.0 (taken ++ x ∷ []) b.1 in
        let big = max limit b.0 in
        let goes = all_grows b.0 big (omega arith) h.1 (taken ++ x ∷ h.0) (subst (λ (v : List Token). read b.0 v ≡ Ok (h.1, [])) (one_more taken x h.0) h.2) in
        not_both h.1 [] f (x ∷ h.0) (sym goes ∙ err_grows false limit big f tokens taken z (x ∷ h.0) (parses.grows limit big (omega arith) tokens) parts refuses (i h.0))

    not_within : (x : Token) → ((y : List Token) → Instead true f z (x ∷ y)) → kind.Begins limit (taken ++ x ∷ []) → ⊥
    not_within x i b =
        let h = parses.whole limit (taken ++ x ∷ []) b in
        let goes = subst (λ (v : List Token). read limit v ≡ Ok (h.1, [])) (one_more taken x h.0) h.2 in
        not_both h.1 [] f (x ∷ h.0) (sym goes ∙ err_grows true limit limit f tokens taken z (x ∷ h.0) (parses.local limit tokens) parts refuses (i h.0))

    no_tree : Finds kind read → Instead false f z z → IsAny kind taken z → ⊥
    no_tree finds i w =
        let big = max limit w.0 in
        let small = finds.complete w.0 w.1 taken z w.2 in
        let goes : read big (taken ++ z) ≡ Ok (w.1, z) = elim z as (λ (v : List Token). read w.0 (taken ++ v) ≡ Ok (w.1, v) → read big (taken ++ v) ≡ Ok (w.1, v)) [
          | [] ↦ λ e. subst (λ (v : List Token). read big v ≡ Ok (w.1, [])) (sym (append-nil taken)) (all_grows w.0 big (omega arith) w.1 taken (subst (λ (v : List Token). read w.0 v ≡ Ok (w.1, [])) (append-nil taken) e))
          | (x ∷ o) ↦ λ e. ok_grows w.0 big (omega arith) w.1 taken x o o e
        ] small in
        not_both w.1 z f z (sym goes ∙ err_grows false limit big f tokens taken z z (parses.grows limit big (omega arith) tokens) parts refuses i)

  -- what the parser refuses is refused
  halts_refused : Finds kind read → (limit : ℕ) (f : Fault) (tokens others : List Token) → read limit tokens ≡ Err (refused f others) → Halts kind limit f tokens others → IsRefused kind limit f tokens others
  halts_refused finds limit f tokens others e h = record { taken = h.taken; parts = h.parts; begins = h.begins; why = go f others e h }
    where
      go : (f : Fault) (others : List Token) → read limit tokens ≡ Err (refused f others) → (h : Halts kind limit f tokens others) → Why kind limit f h.taken others
      go syntax [] e h = λ w. no_tree limit syntax tokens h.taken [] h.parts e finds (inl refl) w
      go syntax (x ∷ others) e h = (
        λ w. no_tree limit syntax tokens h.taken (x ∷ others) h.parts e finds (inl refl) w,
        λ b. goes_nowhere limit syntax tokens h.taken (x ∷ others) h.parts e x (λ y. inl refl) b,
        λ w t i b. goes_nowhere limit syntax tokens h.taken (x ∷ others) h.parts e t (λ y. inr (swapped x t others y w i)) b,
      )
      go with_statement [] e h = let s = h.stands refl in absurd (let bad : [] ≡ s.0 ∷ s.1 = s.2 in cc)
      go with_statement (x ∷ others) e h =
          let s = h.stands refl in
          let first : s.0 ≡ x = let k : x ∷ others ≡ s.0 ∷ s.1 = s.2 in cc in
          let word : word_of x ≡ a_key key.With = subst (λ (t : Token). word_of t ≡ a_key key.With) first s.3 in (
            λ w. no_tree limit with_statement tokens h.taken (x ∷ others) h.parts e finds refl w,
            λ b. goes_nowhere limit with_statement tokens h.taken (x ∷ others) h.parts e x (λ y. refl) b,
            word,
            subst (λ (y : Token). (t : Token) × InPlaceOf y t × BeginsAny kind (h.taken ++ t ∷ [])) first s.4,
          )
      go nesting [] e h = let s = h.deeper refl in absurd (let bad : [] ≡ s.0 ∷ s.1 = s.2 in cc)
      go nesting (x ∷ others) e h =
          let s = h.deeper refl in
          let first : s.0 ≡ x = let k : x ∷ others ≡ s.0 ∷ s.1 = s.2 in cc in
          (subst (λ (t : Token). BeginsAny kind (h.taken ++ t ∷ [])) first s.3, λ b. not_within limit nesting tokens h.taken (x ∷ others) h.parts e x (λ y. refl) b)

  -- ---- the definitions

  begins_one : (limit : ℕ) (a : List Token) (x : Token) (b : List Token) → kind.Begins limit (a ++ x ∷ b) → kind.Begins limit (a ++ x ∷ [])
  begins_one limit a x b h = parses.front limit (a ++ x ∷ []) b (subst (kind.Begins limit) (sym (one_more a x b)) h)

  -- what is refused goes no further
  no_further : (limit : ℕ) (f : Fault) (taken : List Token) (x : Token) (others more : List Token) → Why kind limit f taken (x ∷ others) → kind.Begins limit (taken ++ x ∷ more) → ⊥
  no_further limit syntax taken x others more w h = w.1 (limit, begins_one limit taken x more h)
  no_further limit with_statement taken x others more w h = w.1 (limit, begins_one limit taken x more h)
  no_further limit nesting taken x others more w h = w.1 (begins_one limit taken x more h)

  -- of one place two faults are one
  one_fault : (limit : ℕ) (f g : Fault) (taken others : List Token) → Why kind limit f taken others → Why kind limit g taken others → f ≡ g
  one_fault limit syntax syntax taken others v w = refl
  one_fault limit with_statement with_statement taken others v w = refl
  one_fault limit nesting nesting taken others v w = refl
  one_fault limit syntax with_statement taken [] v w = absurd w
  one_fault limit syntax with_statement taken (x ∷ others) v w = absurd (v.2 w.2 w.3.0 w.3.1 w.3.2)
  one_fault limit syntax nesting taken [] v w = absurd w
  one_fault limit syntax nesting taken (x ∷ others) v w = absurd (v.1 w.0)
  one_fault limit with_statement syntax taken [] v w = absurd v
  one_fault limit with_statement syntax taken (x ∷ others) v w = absurd (w.2 v.2 v.3.0 v.3.1 v.3.2)
  one_fault limit with_statement nesting taken [] v w = absurd v
  one_fault limit with_statement nesting taken (x ∷ others) v w = absurd (v.1 w.0)
  one_fault limit nesting syntax taken [] v w = absurd v
  one_fault limit nesting syntax taken (x ∷ others) v w = absurd (w.1 v.0)
  one_fault limit nesting with_statement taken [] v w = absurd v
  one_fault limit nesting with_statement taken (x ∷ others) v w = absurd (w.1 v.0)

  -- what is refused after some tokens isn't refused after more
  no_later : (limit : ℕ) (f g : Fault) (a c y z : List Token) → Why kind limit f a y → kind.Begins limit (a ++ c) → Why kind limit g (a ++ c) z → y ≡ c ++ z → (f ≡ g) × (y ≡ z)
  no_later limit f g a [] y z v h w e = (one_fault limit f g a y v (subst (λ (x : List Token). Why kind limit g x y) (append-nil a) (subst (Why kind limit g (a ++ [])) (sym e) w)), e)
  no_later limit f g a (x ∷ c) y z v h w e = absurd (no_further limit f a x (c ++ z) c (subst (Why kind limit f a) e v) h)

  -- one place, and one fault
  pub one_refusal : OneRefusal kind
  one_refusal limit tokens a b f g r s = elim (common r.taken s.taken a b (sym r.parts ∙ s.parts)) [
    | inl h ↦ no_later limit f g r.taken h.0 a b r.why (subst (kind.Begins limit) h.1 s.begins) (subst (λ (x : List Token). Why kind limit g x b) h.1 s.why) h.2
    | inr h ↦ let p = no_later limit g f s.taken h.0 b a s.why (subst (kind.Begins limit) h.1 r.begins) (subst (λ (x : List Token). Why kind limit f x a) h.1 r.why) h.2 in (sym p.0, sym p.1)
  ]

  -- ---- exactly

  module _ (finds : Finds kind read) where
    -- both directions
    pub finds_exactly : FindsExactly kind read
    finds_exactly limit tree taken others = (
      λ e. let s = finds.sound limit tree (taken ++ others) others e in let same_word : s.0 ≡ taken = append_cancel_right s.0 taken others (sym s.1) in subst (λ (v : List Token). kind.Is limit tree v others) same_word s.2,
      λ h. finds.complete limit tree taken others h,
    )

    -- no tree goes on where one ends
    is_end : (limit : ℕ) (tree : T) (taken : List Token) (x : Token) (others : List Token) → kind.Is limit tree taken (x ∷ others) → BeginsAny kind (taken ++ x ∷ []) → ⊥
    is_end limit tree taken x others h b = ends limit tree taken x others (finds.complete limit tree taken (x ∷ others) h) b

    -- one tree, and one end
    pub one_found : OneFound kind
    one_found limit p q a b y z e h k =
        let same = sym (finds.complete limit p a y h) ∙ ap (read limit) e ∙ finds.complete limit q b z k in
        let rest = same_rest p q y z same in
        (same_tree p q y z same, append_cancel_right a b z (subst (λ (v : List Token). a ++ v ≡ b ++ z) rest e), rest)

    -- where a tree ends nothing is refused
    here_not : (limit : ℕ) (tree : T) (f : Fault) (taken others : List Token) → kind.Is limit tree taken others → Why kind limit f taken others → ⊥
    here_not limit tree syntax taken [] h w = w (limit, tree, h)
    here_not limit tree syntax taken (x ∷ others) h w = w.0 (limit, tree, h)
    here_not limit tree with_statement taken [] h w = w
    here_not limit tree with_statement taken (x ∷ others) h w = w.0 (limit, tree, h)
    here_not limit tree nesting taken [] h w = w
    here_not limit tree nesting taken (x ∷ others) h w = is_end limit tree taken x others h w.0

    -- nor before
    before_not : (limit : ℕ) (tree : T) (f : Fault) (taken c others z : List Token) → kind.Is limit tree (taken ++ c) z → Why kind limit f taken others → others ≡ c ++ z → ⊥
    before_not limit tree f taken [] others z h w e = here_not limit tree f taken z (subst (λ (v : List Token). kind.Is limit tree v z) (append-nil taken) h) (subst (Why kind limit f taken) e w)
    before_not limit tree f taken (x ∷ c) others z h w e = no_further limit f taken x (c ++ z) c (subst (Why kind limit f taken) e w) (finds.begun limit tree (taken ++ x ∷ c) z h)

    -- nor behind
    behind_not : (limit : ℕ) (tree : T) (f : Fault) (taken c others z : List Token) → kind.Is limit tree taken z → kind.Begins limit (taken ++ c) → Why kind limit f (taken ++ c) others → z ≡ c ++ others → ⊥
    behind_not limit tree f taken [] others z h b w e = here_not limit tree f taken z h (subst (λ (v : List Token). Why kind limit f v z) (append-nil taken) (subst (Why kind limit f (taken ++ [])) (sym e) w))
    behind_not limit tree f taken (x ∷ c) others z h b w e = is_end limit tree taken x (c ++ others) (subst (kind.Is limit tree taken) e h) (limit, begins_one limit taken x c b)

    -- what is refused is no tree
    pub refused_not_found : (limit : ℕ) (tokens others : List Token) (f : Fault) → IsRefused kind limit f tokens others → IsFound kind limit tokens → ⊥
    refused_not_found limit tokens others f r (tree, a, z, e, h) = elim (common r.taken a others z (sym r.parts ∙ e)) [
      | inl k ↦ before_not limit tree f r.taken k.0 others z (subst (λ (v : List Token). kind.Is limit tree v z) k.1 h) r.why k.2
      | inr k ↦ behind_not limit tree f a k.0 others z h (subst (kind.Begins limit) k.1 r.begins) (subst (λ (v : List Token). Why kind limit f v others) k.1 r.why) k.2
    ]

    refuses : (limit : ℕ) → 1 ≤ limit → (tokens : List Token) (f : Fault) (others : List Token) → read limit tokens ≡ Err (refused f others) → IsRefused kind limit f tokens others
    refuses limit pos tokens f others e = halts_refused finds limit f tokens others e (parses.halts limit pos tokens others f e)

    -- where tokens are refused the parser refuses them
    exactly : (limit : ℕ) → 1 ≤ limit → (tokens others : List Token) (f : Fault) → IsRefused kind limit f tokens others → read limit tokens ≡ Err (refused f others)
    exactly limit pos tokens others f r = go (read limit tokens) refl
      where
        go : (a : Read T) → read limit tokens ≡ a → a ≡ Err (refused f others)
        go (Err (refused g z)) e = let p = one_refusal limit tokens z others g f (refuses limit pos tokens g z e) r in rw (p.0, p.1) refl
        go (Ok x) e = let s = finds.sound limit x.0 tokens x.1 e in absurd (refused_not_found limit tokens others f r (x.0, s.0, x.1, s.1, s.2))

    pub refuses_exactly : RefusesExactly kind read
    refuses_exactly limit tokens others f pos = (λ e. refuses limit pos tokens f others e, λ r. exactly limit pos tokens others f r)

    one_or_other : (limit : ℕ) → 1 ≤ limit → (tokens : List Token) → IsFound kind limit tokens ⊎ IsRefusedSomewhere kind limit tokens
    one_or_other limit pos tokens = go (read limit tokens) refl
      where
        go : (a : Read T) → read limit tokens ≡ a → IsFound kind limit tokens ⊎ IsRefusedSomewhere kind limit tokens
        go (Err (refused g z)) e = inr (g, z, refuses limit pos tokens g z e)
        go (Ok x) e = let s = finds.sound limit x.0 tokens x.1 e in inl (x.0, s.0, x.1, s.1, s.2)

    pub found_or_refused : FoundOrRefused kind
    found_or_refused limit tokens pos = (one_or_other limit pos tokens, λ p r. refused_not_found limit tokens r.1 r.0 r.2 p)
