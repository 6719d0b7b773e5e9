-- Loops over the nodes of a list that end at the first one that names the `arguments` object.
use Rattle.std.proofs.Common.{refl, sym, ap, ap₂, ◌∙◌, ◌≡◌, ◌<◌, ◌≤◌, ◌+◌, ◌||◌, ℕ, Bool, true, false, List, [], ◌∷◌, length, drop, get_or}
use Rattle.std.proofs.lemmas.List.{drop_more, at_drop_all}
use Rattle.js_ast.specs.declared.trees.Clause.{Clause, out-Clause}
use Rattle.js_ast.specs.declared.trees.Declaration.{Declaration, out-Declaration}
use Rattle.js_ast.specs.declared.trees.Declarations.{Declarations, out-Declarations}
use Rattle.js_ast.specs.declared.trees.Item.{Item}
use Rattle.js_ast.specs.declared.trees.Item as an_item
use Rattle.js_ast.specs.Nodes.{nodes_of}
use Rattle.js_ast.specs.Trees as trees
use Rattle.js_ast.specs.Views.{view_item, view_maybe_expr, view_declaration, view_other_declarations, view_declarations, declarations_from, clause_by, view_clauses, view_stmts}
use Rattle.js_ast.proofs.ViewLaws.{parts_declaration, parts_declarations, parts_clause}
use Rattle.es_meaning.specs.Naming.{names_in_expr, names_in_items, names_in_properties, names_in_maybe, names_in_declarations, names_in_clauses, names_in_statements}
use Rattle.call_records.specs.Named.{names_in_item, names_in_property, names_in_clause}

module _ {X : Type 0} (F : List X → Bool) (f : X → Bool) (step : (x : X) (rest : List X) → F (x ∷ rest) ≡ (f x || F rest)) (xs : List X) (i : ℕ) (x : X) (found whole : Bool) where
  here : i < length xs → x ≡ get_or xs i x → F (drop i xs) ≡ whole → found ≡ f x → (found || F (drop (i + 1) xs)) ≡ whole
  here lt is so_far one = ap (λ b. b || F (drop (i + 1) xs)) one ∙ sym (step x (drop (i + 1) xs)) ∙ ap F (ap (λ y. y ∷ drop (i + 1) xs) is ∙ sym (drop_more xs i x lt)) ∙ so_far

  -- a loop goes on by one node that names nothing
  pub goes_on : i < length xs → x ≡ get_or xs i x → F (drop i xs) ≡ whole → found ≡ f x → found ≡ false → F (drop (i + 1) xs) ≡ whole
  goes_on lt is so_far one is_false = sym (ap (λ b. b || F (drop (i + 1) xs)) is_false) ∙ here lt is so_far one

  -- it ends at one that does
  pub found_here : i < length xs → x ≡ get_or xs i x → F (drop i xs) ≡ whole → found ≡ f x → found ≡ true → true ≡ whole
  found_here lt is so_far one is_true = sym (ap (λ b. b || F (drop (i + 1) xs)) is_true) ∙ here lt is so_far one

-- it ends behind the last node
pub ends : {X : Type 0} (F : List X → Bool) (xs : List X) (i : ℕ) (whole : Bool) → F [] ≡ false → length xs ≤ i → F (drop i xs) ≡ whole → false ≡ whole
ends F xs i whole none le so_far = sym (at_drop_all F xs i le ∙ none) ∙ so_far

-- ---- parts in front of others

pub step_items : (i : Item) (rest : trees.Items) → names_in_items (view_item i rest) ≡ (names_in_item i || names_in_items rest)
unfolding names_in_expr
step_items an_item.Hole rest = refl
step_items (an_item.Value' a p e) rest = refl

pub step_properties : (p : trees.Property) (rest : trees.Properties) → names_in_properties (trees.more_properties p rest) ≡ (names_in_property p || names_in_properties rest)
unfolding names_in_expr
step_properties (trees.value at key e) rest = refl
step_properties (trees.getter at key f) rest = refl
step_properties (trees.setter at key f) rest = refl

or_or : (a b c : Bool) → (a || (b || c)) ≡ ((a || b) || c)
or_or true b c = refl
or_or false b c = refl

by_test : (e : trees.MaybeExpr) (body : trees.Statements) (rest : trees.Clauses) → names_in_clauses (clause_by e body rest) ≡ ((names_in_maybe e || names_in_statements body) || names_in_clauses rest)
unfolding names_in_clauses
by_test trees.absent body rest = refl
by_test (trees.present e) body rest = or_or (names_in_expr e) (names_in_statements body) (names_in_clauses rest)

pub step_clauses : (c : Clause) (rest : List Clause) → names_in_clauses (view_clauses (c ∷ rest)) ≡ (names_in_clause c || names_in_clauses (view_clauses rest))
step_clauses c rest = ap names_in_clauses (parts_clause c (view_clauses rest)) ∙ by_test (view_maybe_expr (out-Clause c).test) (view_stmts (nodes_of (out-Clause c).body)) (view_clauses rest)

-- ---- variables

-- initialisers behind the first
abbrev pub in_values : List Declaration → Bool
in_values [] = false
in_values (d ∷ ds) = names_in_maybe (view_maybe_expr (out-Declaration d).value) || in_values ds

abbrev in_seen : List (trees.Ident × trees.MaybeExpr) → Bool
in_seen [] = false
in_seen (d ∷ ds) = names_in_maybe d.1 || in_seen ds

or_false : (a : Bool) → a ≡ (a || false)
or_false true = refl
or_false false = refl

seen_from : (d : trees.Ident × trees.MaybeExpr) (ds : List (trees.Ident × trees.MaybeExpr)) → names_in_declarations (declarations_from d ds) ≡ (names_in_maybe d.1 || in_seen ds)
seen_from d [] = or_false (names_in_maybe d.1)
seen_from d (e ∷ es) = ap (λ b. names_in_maybe d.1 || b) (seen_from e es)

value_seen : (d : Declaration) → names_in_maybe (view_declaration d).1 ≡ names_in_maybe (view_maybe_expr (out-Declaration d).value)
value_seen d = ap (λ (p : trees.Ident × trees.MaybeExpr). names_in_maybe p.1) (parts_declaration d)

values_seen : (ds : List Declaration) → in_seen (view_other_declarations ds) ≡ in_values ds
values_seen [] = refl
values_seen (d ∷ ds) = ap₂ (λ a b. a || b) (value_seen d) (values_seen ds)

pub whole_values : (ds : Declarations) → names_in_declarations (view_declarations ds) ≡ (names_in_maybe (view_maybe_expr (out-Declaration (out-Declarations ds).first).value) || in_values (nodes_of (out-Declarations ds).others))
whole_values ds =
    let first = (out-Declarations ds).first in
    let others = nodes_of (out-Declarations ds).others in
    ap names_in_declarations (parts_declarations ds) ∙ seen_from (view_declaration first) (view_other_declarations others) ∙ ap₂ (λ a b. a || b) (value_seen first) (values_seen others)
