-- Tokens from a place on are one tree, or they have one fault, and never both: for each kind of tree of which the definitions promise that.
use Rattle.std.proofs.Common.{arith, refl, sym, ap, ◌∙◌, subst, ◌≡◌, ◌≤◌, ◌⊎◌, inl, inr, ℕ, ◌+◌, ◌-◌, List, [], ◌∷◌, ◌++◌, length, take, drop, Option, Some, None, Result, Ok, Err, IfOk, IfErr}
use Rattle.std.specs.List.{All}
use Rattle.std.proofs.lemmas.List.{length-append, length-drop, take_rest}
use Rattle.std.proofs.lemmas.List.Elements.{All-nil, All-cons, All-head, All-tail, All-drop}
use Rattle.js_ast.specs.declared.token.Token.{Token}
use Rattle.std.specs.Result.{MatchResult}
use Rattle.js_list_parser.specs.Reading.{Fault, syntax, with_statement, nesting, refused, Read}
use Rattle.js_list_parser.specs.Refusals.{Nonterminal, IsRefused, FindsExactly, RefusesExactly, OneFound, OneRefusal, FoundOrRefused}
use Rattle.js_list_parser.proofs.Outcomes.{same_tree as same_tree_of, same_rest}
use Rattle.js_faults.specs.declared.directives.BadDirective.{BadDirective}
use Rattle.js_parse_expr.specs.declared.fault.ParseFault.{ParseFault}
use Rattle.js_parse_expr.specs.declared.fault.ParseFault.TheVariants as fault
use Rattle.js_parse_expr.specs.Parsed.{IsTreeAt, IsParsed, place_or, IsRefusedAt, HasBadDirective, IsReadFault, IsFault, told, fault_at}

-- a refusal as a fault
pub refusal_fault : {T : Type 0} (kind : Nonterminal T) (limit : ℕ) (tokens : List Token) (end : ℕ) (f : Fault) (others : List Token) → IsRefused kind limit f tokens others → IsReadFault kind limit tokens end (told f (place_or end others))
refusal_fault kind limit tokens end syntax others r = record { others = others; refused = r; place = refl }
refusal_fault kind limit tokens end with_statement others r = record { others = others; refused = r; place = refl }
refusal_fault kind limit tokens end nesting others r = record { others = others; refused = r; place = refl }

-- which is one whatever is asked of directives
pub read_fault : {T : Type 0} (kind : Nonterminal T) (bad_directive : T → Option BadDirective) (limit : ℕ) (tokens : List Token) (from end : ℕ) (f : ParseFault) → IsReadFault kind limit (drop from tokens) end f → IsFault kind bad_directive limit tokens from end f
read_fault kind bad_directive limit tokens from end (fault.Syntax at) r = r
read_fault kind bad_directive limit tokens from end (fault.With at) r = r
read_fault kind bad_directive limit tokens from end (fault.Nesting at) r = r
read_fault kind bad_directive limit tokens from end (fault.Directive at) r = absurd r
read_fault kind bad_directive limit tokens from end fault.OutOfMemory r = absurd r

-- where each of the tokens begins at most at some place, so do the tokens that a tree takes of them, and the others
pub begin_split : (n : ℕ) (taken others : List Token) → All (λ (t : Token). t.from ≤ n) (taken ++ others) → All (λ (t : Token). t.from ≤ n) taken × All (λ (t : Token). t.from ≤ n) others
begin_split n [] others all = (All-nil (λ (t : Token). t.from ≤ n), all)
begin_split n (t ∷ taken) others all =
    let more = begin_split n taken others (All-tail (λ (t : Token). t.from ≤ n) t (taken ++ others) all) in
    (All-cons (λ (t : Token). t.from ≤ n) t taken (All-head (λ (t : Token). t.from ≤ n) t (taken ++ others) all) more.0, more.1)

place_by : (end : ℕ) (tokens : List Token) → All (λ (t : Token). t.from ≤ end) tokens → place_or end tokens ≤ end
place_by end [] all = omega arith
place_by end (t ∷ ts) all = All-head (λ (t : Token). t.from ≤ end) t ts all

-- what is known of a kind of tree, and of the parser on lists that reads it
pub record Lawful {T : Type 0} (kind : Nonterminal T) (read : ℕ → List Token → Read T) : Type 0 where
  pub finds : FindsExactly kind read
  pub refuses : RefusesExactly kind read
  pub one_found : OneFound kind
  pub one_refusal : OneRefusal kind
  pub found_or_refused : FoundOrRefused kind
  pub positive : (limit : ℕ) (tree : T) (taken others : List Token) → kind.Is limit tree taken others → 1 ≤ limit

module _ {T : Type 0} (kind : Nonterminal T) (read : ℕ → List Token → Read T) (lawful : Lawful kind read) where
  -- ---- the parser on lists

  not_both : (a : T) (z : List Token) (f : Fault) (y : List Token) → (let r : Read T = Ok (a, z) in r ≡ Err (refused f y)) → ⊥
  not_both a z f y e = cc

  -- what it reads is a tree at the front of the tokens
  pub found_at : (limit : ℕ) → 1 ≤ limit → (tokens : List Token) (tree : T) (others : List Token) → read limit tokens ≡ Ok (tree, others) → (taken : List Token) × (tokens ≡ taken ++ others) × kind.Is limit tree taken others
  found_at limit pos tokens tree others e = elim ((lawful.found_or_refused limit tokens pos).0) [
    | inl h ↦
        let same = sym e ∙ ap (read limit) h.3 ∙ (lawful.finds limit h.0 h.1 h.2).1 h.4 in
        let tree_is : tree ≡ h.0 = same_tree_of tree h.0 others h.2 same in
        let rest_is : others ≡ h.2 = same_rest tree h.0 others h.2 same in
        (h.1, h.3 ∙ ap (λ (v : List Token). h.1 ++ v) (sym rest_is), subst (λ (v : List Token). kind.Is limit tree h.1 v) (sym rest_is) (subst (λ (t : T). kind.Is limit t h.1 h.2) (sym tree_is) h.4))
    | inr h ↦ absurd (not_both tree others h.0 h.1 (sym e ∙ (lawful.refuses limit tokens h.1 h.0 pos).1 h.2))
  ]

  -- what it refuses is a fault
  pub fault_read : (limit : ℕ) → 1 ≤ limit → (tokens : List Token) (end : ℕ) (f : Fault) (others : List Token) → read limit tokens ≡ Err (refused f others) → IsReadFault kind limit tokens end (told f (place_or end others))
  fault_read limit pos tokens end f others e = refusal_fault kind limit tokens end f others ((lawful.refuses limit tokens others f pos).0 e)

  -- the code reads the tokens from a place on, of which it takes all
  module _ (limit : ℕ) (pos : 1 ≤ limit) (tokens : List Token) (from : ℕ) where
    of_part : (r : Read T) → read limit (take (length tokens - from) (drop from tokens)) ≡ r → read limit (drop from tokens) ≡ r
    of_part r e = ap (read limit) (sym (take_rest tokens from)) ∙ e

    -- the tokens behind a tree are no more than all
    pub rest_fits : (tree : T) (others : List Token) → read limit (take (length tokens - from) (drop from tokens)) ≡ Ok (tree, others) → length others ≤ length tokens
    rest_fits tree others e =
        let h = found_at limit pos (drop from tokens) tree others (of_part (Ok (tree, others)) e) in
        let all = ap length h.1 in let both = length-append h.0 others in let left = length-drop from tokens in omega arith

    -- and the others are in front of them
    pub part_read : from ≤ length tokens → (tree : T) (others : List Token) → read limit (take (length tokens - from) (drop from tokens)) ≡ Ok (tree, others) → IsTreeAt kind limit tokens from tree (length tokens - length others)
    part_read within tree others e =
        let h = found_at limit pos (drop from tokens) tree others (of_part (Ok (tree, others)) e) in
        record { taken = h.0; others = others; parts = h.1; place = (let all = ap length h.1 in let both = length-append h.0 others in let left = length-drop from tokens in omega arith); is = h.2 }

    -- what is refused of them
    pub part_fault : (end : ℕ) (f : Fault) (others : List Token) → read limit (take (length tokens - from) (drop from tokens)) ≡ Err (refused f others) → IsReadFault kind limit (drop from tokens) end (told f (place_or end others))
    part_fault end f others e = fault_read limit pos (drop from tokens) end f others (of_part (Err (refused f others)) e)

  module _ (bad_directive : T → Option BadDirective) (limit : ℕ) (tokens : List Token) (from : ℕ) where
    -- ---- one tree

    pub same_tree : (p q : T) (a b : ℕ) → IsTreeAt kind limit tokens from p a → IsTreeAt kind limit tokens from q b → (p ≡ q) × (a ≡ b)
    same_tree p q a b h k =
        let s = lawful.one_found limit p q h.taken k.taken h.others k.others (sym h.parts ∙ k.parts) h.is k.is in
        (s.0, h.place ∙ ap (λ (v : List Token). from + length v) s.1 ∙ sym k.place)

    pub one_tree : (p q : T) (a b : ℕ) → IsParsed kind bad_directive limit tokens from p a → IsParsed kind bad_directive limit tokens from q b → (p ≡ q) × (a ≡ b)
    one_tree p q a b h k = same_tree p q a b h.tree_at k.tree_at

    -- ---- one fault

    module _ (end : ℕ) where
      tree_or_refusal : (p : T) (to : ℕ) (f : Fault) (at : ℕ) → IsTreeAt kind limit tokens from p to → IsRefusedAt kind limit (drop from tokens) end at f → ⊥
      tree_or_refusal p to f at t r = (lawful.found_or_refused limit (drop from tokens) (lawful.positive limit p t.taken t.others t.is)).1 (p, t.taken, t.others, t.parts, t.is) (f, r.others, r.refused)

      same_refusal : (f g : Fault) (at other : ℕ) → IsRefusedAt kind limit (drop from tokens) end at f → IsRefusedAt kind limit (drop from tokens) end other g → (f ≡ g) × (at ≡ other)
      same_refusal f g at other r s = let h = lawful.one_refusal limit (drop from tokens) r.others s.others f g r.refused s.refused in (h.0, r.place ∙ ap (place_or end) h.1 ∙ sym s.place)

      same_directive : (at other : ℕ) → HasBadDirective kind bad_directive limit tokens from at → HasBadDirective kind bad_directive limit tokens from other → at ≡ other
      same_directive at other r s =
          let p : r.tree ≡ s.tree = (same_tree r.tree s.tree r.to s.to r.tree_at s.tree_at).0 in
          let d : Some r.directive ≡ Some s.directive = sym r.first ∙ ap bad_directive p ∙ s.first in
          let e : r.directive ≡ s.directive = cc in
          r.place ∙ ap (λ (x : BadDirective). x.at) e ∙ sym s.place

      pub one_fault : (f g : ParseFault) → IsFault kind bad_directive limit tokens from end f → IsFault kind bad_directive limit tokens from end g → f ≡ g
      one_fault (fault.Syntax at) (fault.Syntax other) r s = ap fault.Syntax (same_refusal _ _ at other r s).1
      one_fault (fault.Syntax at) (fault.With other) r s = let e : syntax ≡ with_statement = (same_refusal _ _ at other r s).0 in cc
      one_fault (fault.Syntax at) (fault.Nesting other) r s = let e : syntax ≡ nesting = (same_refusal _ _ at other r s).0 in cc
      one_fault (fault.Syntax at) (fault.Directive other) r s = absurd (tree_or_refusal s.tree s.to _ at s.tree_at r)
      one_fault (fault.With at) (fault.Syntax other) r s = let e : with_statement ≡ syntax = (same_refusal _ _ at other r s).0 in cc
      one_fault (fault.With at) (fault.With other) r s = ap fault.With (same_refusal _ _ at other r s).1
      one_fault (fault.With at) (fault.Nesting other) r s = let e : with_statement ≡ nesting = (same_refusal _ _ at other r s).0 in cc
      one_fault (fault.With at) (fault.Directive other) r s = absurd (tree_or_refusal s.tree s.to _ at s.tree_at r)
      one_fault (fault.Nesting at) (fault.Syntax other) r s = let e : nesting ≡ syntax = (same_refusal _ _ at other r s).0 in cc
      one_fault (fault.Nesting at) (fault.With other) r s = let e : nesting ≡ with_statement = (same_refusal _ _ at other r s).0 in cc
      one_fault (fault.Nesting at) (fault.Nesting other) r s = ap fault.Nesting (same_refusal _ _ at other r s).1
      one_fault (fault.Nesting at) (fault.Directive other) r s = absurd (tree_or_refusal s.tree s.to _ at s.tree_at r)
      one_fault (fault.Directive at) (fault.Syntax other) r s = absurd (tree_or_refusal r.tree r.to _ other r.tree_at s)
      one_fault (fault.Directive at) (fault.With other) r s = absurd (tree_or_refusal r.tree r.to _ other r.tree_at s)
      one_fault (fault.Directive at) (fault.Nesting other) r s = absurd (tree_or_refusal r.tree r.to _ other r.tree_at s)
      one_fault (fault.Directive at) (fault.Directive other) r s = ap fault.Directive (same_directive at other r s)
      one_fault fault.OutOfMemory g r s = absurd r
      one_fault f fault.OutOfMemory r s = absurd s

      pub never_both : (p : T) (to : ℕ) (f : ParseFault) → IsParsed kind bad_directive limit tokens from p to → IsFault kind bad_directive limit tokens from end f → ⊥
      never_both p to (fault.Syntax at) h r = tree_or_refusal p to _ at h.tree_at r
      never_both p to (fault.With at) h r = tree_or_refusal p to _ at h.tree_at r
      never_both p to (fault.Nesting at) h r = tree_or_refusal p to _ at h.tree_at r
      never_both p to (fault.Directive at) h r =
          let e : p ≡ r.tree = (same_tree p r.tree to r.to h.tree_at r.tree_at).0 in
          let d : None ≡ Some r.directive = sym h.formed ∙ ap bad_directive e ∙ r.first in cc
      never_both p to fault.OutOfMemory h r = r

      -- ---- one or the other

      with_tree : (p : T) (to : ℕ) → IsTreeAt kind limit tokens from p to → (o : Option BadDirective) → bad_directive p ≡ o
          → ((p : T) × (to : ℕ) × IsParsed kind bad_directive limit tokens from p to) ⊎ ((f : ParseFault) × IsFault kind bad_directive limit tokens from end f)
      with_tree p to t None e = inl (p, to, record { tree_at = t; formed = e })
      with_tree p to t (Some d) e = inr (fault.Directive d.at, record { tree = p; to = to; tree_at = t; directive = d; first = e; place = refl })

      pub one_at_least : 1 ≤ limit → ((p : T) × (to : ℕ) × IsParsed kind bad_directive limit tokens from p to) ⊎ ((f : ParseFault) × IsFault kind bad_directive limit tokens from end f)
      one_at_least pos = elim ((lawful.found_or_refused limit (drop from tokens) pos).0) [
        | inl h ↦ with_tree h.0 (from + length h.1) (record { taken = h.1; others = h.2; parts = h.3; place = refl; is = h.4 }) (bad_directive h.0) refl
        | inr h ↦ inr (told h.0 (place_or end h.1), read_fault kind bad_directive limit tokens from end _ (refusal_fault kind limit (drop from tokens) end h.0 h.1 h.2))
      ]

      -- ---- where a fault is: in the source, where the tokens are and a tree's bad directive is among its tokens

      module _ (placed : (tree : T) (taken others : List Token) → kind.Is limit tree taken others → All (λ (t : Token). t.from ≤ end) taken → All (λ (t : Token). t.from ≤ end) others
          → (d : BadDirective) → bad_directive tree ≡ Some d → d.at ≤ end) (all : All (λ (t : Token). t.from ≤ end) tokens) where
        begin : (taken others : List Token) → drop from tokens ≡ taken ++ others → All (λ (t : Token). t.from ≤ end) taken × All (λ (t : Token). t.from ≤ end) others
        begin taken others parts = begin_split end taken others (subst (All (λ (t : Token). t.from ≤ end)) parts (All-drop (λ (t : Token). t.from ≤ end) from tokens all))

        refused_within : (at : ℕ) (why : Fault) → IsRefusedAt kind limit (drop from tokens) end at why → at ≤ end
        refused_within at why r = subst (λ k. k ≤ end) (sym r.place) (place_by end r.others (begin r.refused.taken r.others r.refused.parts).1)

        fault_within : (f : ParseFault) → IsFault kind bad_directive limit tokens from end f → fault_at f ≤ end
        fault_within (fault.Syntax at) r = refused_within at syntax r
        fault_within (fault.With at) r = refused_within at with_statement r
        fault_within (fault.Nesting at) r = refused_within at nesting r
        fault_within (fault.Directive at) r =
            let t = r.tree_at in
            let by = begin t.taken t.others t.parts in
            subst (λ k. k ≤ end) (sym r.place) (placed r.tree t.taken t.others t.is by.0 by.1 r.directive r.first)
        fault_within fault.OutOfMemory r = absurd r

        pub answer_within : {X : Type 0} (r : Result X ParseFault) → IfErr r (λ f. (f ≡ fault.OutOfMemory) ⊎ IsFault kind bad_directive limit tokens from end f) → IfErr r (λ f. fault_at f ≤ end)
        answer_within (Ok x) h = tt
        answer_within (Err f) (inl e) = rw e (omega arith)
        answer_within (Err f) (inr h) = fault_within f h

      -- ---- how the code answers: a tree and where it ends, or a fault, but for want of memory

      module _ {X : Type 0} (tree : X → T) (to : X → ℕ) where
        -- a tree is answered where there is one
        pub only_read : (r : Result X ParseFault) → IfOk r (λ x. IsParsed kind bad_directive limit tokens from (tree x) (to x)) → IfErr r (λ f. (f ≡ fault.OutOfMemory) ⊎ IsFault kind bad_directive limit tokens from end f)
            → (p : T) (at : ℕ) → IsParsed kind bad_directive limit tokens from p at → MatchResult r (λ x. (tree x ≡ p) × (to x ≡ at)) (λ f. f ≡ fault.OutOfMemory)
        only_read (Ok x) is none p at h = one_tree (tree x) p (to x) at is h
        only_read (Err f) is (inl e) p at h = e
        only_read (Err f) is (inr k) p at h = absurd (never_both p at f h k)

        -- and a fault where there is one
        pub only_fault : (r : Result X ParseFault) → IfOk r (λ x. IsParsed kind bad_directive limit tokens from (tree x) (to x)) → IfErr r (λ f. (f ≡ fault.OutOfMemory) ⊎ IsFault kind bad_directive limit tokens from end f)
            → (f : ParseFault) → IsFault kind bad_directive limit tokens from end f → MatchResult r (λ x. ⊥) (λ found. (found ≡ f) ⊎ (found ≡ fault.OutOfMemory))
        only_fault (Ok x) is none f h = never_both (tree x) (to x) f is h
        only_fault (Err g) is (inl e) f h = inr e
        only_fault (Err g) is (inr k) f h = inl (one_fault g f k h)
