-- Variables that loops over nodes declare, and the names that lists of nodes declare.
use Rattle.std.proofs.Common.{refl, sym, ap, ◌∙◌, ◌≡◌, ◌+◌, ◌<◌, ◌≤◌, ℕ, List, [], ◌∷◌, ◌++◌, length, drop, get_or}
use Rattle.std.proofs.lemmas.List.{drop_more, at_drop_all}
use Rattle.js_ast.specs.declared.trees.Clause.{Clause, out-Clause}
use Rattle.js_ast.specs.declared.trees.Declaration.{Declaration, out-Declaration}
use Rattle.js_ast.specs.declared.trees.Declarations.{Declarations, out-Declarations}
use Rattle.js_ast.specs.Nodes.{nodes_of}
use Rattle.js_ast.specs.Trees as trees
use Rattle.js_ast.specs.Views.{view_maybe_expr, view_declaration, view_other_declarations, view_declarations, declarations_from, clause_by, view_clauses, view_stmts}
use Rattle.js_ast.proofs.ViewLaws.{parts_declaration, parts_declarations, parts_clause}
use Rattle.es_meaning.specs.Declared.{declared_in, declared_clauses, declared_statements}
use Rattle.plain_heap.specs.PlainObjects.{PlainObjects}
use Rattle.plain_heap.specs.Started.{IsStarted}
use Rattle.step_start.specs.Hoisted.{Declares}
use Rattle.step_start.proofs.VariableLaws.{declares_none, declares_same, declares_then}

-- in a loop over nodes: where the nodes that are left declare these names, the whole declares those
pub record SoFar {T : Type 0} (initial : PlainObjects T) (whole left : List (List ℕ)) (heap : PlainObjects T) : Type 0 where
  pub declares : (last : PlainObjects T) → Declares left heap last → Declares whole initial last
  pub started : IsStarted heap.objects

module _ {T : Type 0} (initial : PlainObjects T) (whole : List (List ℕ)) where
  -- the loop begins
  pub begins : IsStarted initial.objects → SoFar initial whole whole initial
  begins started = record { declares = λ last declares. declares; started = started }

  -- it goes on by one node
  pub goes_on : {X : Type 0} (F : List X → List (List ℕ)) (f : X → List (List ℕ)) (xs : List X) (k : ℕ) (x : X) (heap more : PlainObjects T)
      → ((x : X) (rest : List X) → F (x ∷ rest) ≡ f x ++ F rest) → k < length xs → x ≡ get_or xs k x
      → SoFar initial whole (F (drop k xs)) heap → Declares (f x) heap more → IsStarted more.objects
      → SoFar initial whole (F (drop (k + 1) xs)) more
  goes_on F f xs k x heap more step lt is so_far declares started =
      let rest = F (drop (k + 1) xs) in
      let here : F (drop k xs) ≡ f x ++ rest = ap F (drop_more xs k x lt ∙ ap (λ y. y ∷ drop (k + 1) xs) (sym is)) ∙ step x (drop (k + 1) xs) in
      record {
        declares = λ last others. so_far.declares last (declares_same (f x ++ rest) (F (drop k xs)) heap last (sym here) (declares_then (f x) rest heap more last declares others));
        started = started;
      }

  -- it ends
  pub ends : {X : Type 0} (F : List X → List (List ℕ)) (xs : List X) (k : ℕ) (heap : PlainObjects T) → F [] ≡ [] → length xs ≤ k → SoFar initial whole (F (drop k xs)) heap → Declares whole initial heap
  ends F xs k heap none le so_far = so_far.declares heap (declares_same [] (F (drop k xs)) heap heap (sym (at_drop_all F xs k le ∙ none)) (declares_none heap))

-- ---- variables

-- the names of variables behind the first
abbrev pub names_in : List Declaration → List (List ℕ)
names_in [] = []
names_in (d ∷ ds) = (out-Declaration d).name.text ∷ names_in ds

abbrev seen_names : List (trees.Ident × trees.MaybeExpr) → List (List ℕ)
seen_names [] = []
seen_names (d ∷ ds) = d.0.text ∷ seen_names ds

declared_from : (d : trees.Ident × trees.MaybeExpr) (ds : List (trees.Ident × trees.MaybeExpr)) → declared_in (declarations_from d ds) ≡ d.0.text ∷ seen_names ds
declared_from d [] = refl
declared_from d (e ∷ es) = ap (λ names. d.0.text ∷ names) (declared_from e es)

name_seen : (d : Declaration) → (view_declaration d).0.text ≡ (out-Declaration d).name.text
name_seen d = ap (λ (p : trees.Ident × trees.MaybeExpr). p.0.text) (parts_declaration d)

names_seen : (ds : List Declaration) → seen_names (view_other_declarations ds) ≡ names_in ds
names_seen [] = refl
names_seen (d ∷ ds) = ap (λ text. text ∷ seen_names (view_other_declarations ds)) (name_seen d) ∙ ap (λ names. (out-Declaration d).name.text ∷ names) (names_seen ds)

-- the first variable, and then the others
pub declared_whole : (ds : Declarations) → declared_in (view_declarations ds) ≡ (out-Declaration (out-Declarations ds).first).name.text ∷ names_in (nodes_of (out-Declarations ds).others)
declared_whole ds =
    let first = (out-Declarations ds).first in
    let others = nodes_of (out-Declarations ds).others in
    ap declared_in (parts_declarations ds) ∙ declared_from (view_declaration first) (view_other_declarations others)
    ∙ ap (λ text. text ∷ seen_names (view_other_declarations others)) (name_seen first) ∙ ap (λ names. (out-Declaration first).name.text ∷ names) (names_seen others)

-- the first variable is declared, and then the others
pub declares_variables : {T : Type 0} (old middle new : PlainObjects T) (ds : Declarations) (others : List Declaration) → others ≡ nodes_of (out-Declarations ds).others
    → Declares ((out-Declaration (out-Declarations ds).first).name.text ∷ []) old middle → Declares (names_in others) middle new → Declares (declared_in (view_declarations ds)) old new
declares_variables old middle new ds others is one more =
    let name = (out-Declaration (out-Declarations ds).first).name.text in
    declares_same (name ∷ names_in others) (declared_in (view_declarations ds)) old new (ap (λ os. name ∷ names_in os) is ∙ sym (declared_whole ds))
    (declares_then (name ∷ []) (names_in others) old middle new one more)

-- ---- clauses

by_test : (e : trees.MaybeExpr) (body : trees.Statements) (rest : trees.Clauses) → declared_clauses (clause_by e body rest) ≡ declared_statements body ++ declared_clauses rest
by_test trees.absent body rest = refl
by_test (trees.present e) body rest = refl

pub step_clauses : (c : Clause) (rest : List Clause) → declared_clauses (view_clauses (c ∷ rest)) ≡ declared_statements (view_stmts (nodes_of (out-Clause c).body)) ++ declared_clauses (view_clauses rest)
step_clauses c rest = ap declared_clauses (parts_clause c (view_clauses rest)) ∙ by_test (view_maybe_expr (out-Clause c).test) (view_stmts (nodes_of (out-Clause c).body)) (view_clauses rest)
