use Rattle.std.proofs.Common.{rules, refl, sym, ap, map, ◌∙◌, ◌≡◌, ℕ, List, [], arith}
use Rattle.flow_policy.specs.Policies.{Tables}
use Rattle.flow_policy.specs.Inputs.{Given}
use Rattle.js_ast.specs.Functions.{FunctionCode}
use Rattle.js_ast.specs.declared.trees.Expr.{Expr}
use Rattle.js_ast.specs.declared.trees.ExprKind.{ExprKind}
use Rattle.js_ast.specs.declared.trees.ExprKind as expr
use Rattle.js_ast.specs.declared.trees.ExprKind.TheBlock.{ExprKind-New-1-None', ExprKind-New-1-Some'}
use Rattle.js_ast.specs.declared.trees.ExprKind.TheViews.{the_lemmas}
use Rattle.js_ast.specs.Trees.{name, member, index}
use Rattle.js_ast.specs.Views.{view_expr, view_expr_kind}
use Rattle.native_protocol.specs.declared.request.ErrorKind.TheVariants as error
use Rattle.es_meaning.specs.BuiltIns.{BuiltIns}
use Rattle.js_values.specs.Readings.{read_value}
use Rattle.es_meaning.specs.Operations.{Value, Use, throws_error}
use Rattle.es_meaning.specs.Evaluation.{index_base, member_base, use_step}
use Rattle.flow_meaning.specs.Planned.{asking, planned}
use Rattle.flow_meaning.specs.Scopes.{State}
use Rattle.continuations.specs.Settings.{entrance}
use Rattle.continuations.specs.Shapes.{use_of}
use Rattle.step_references.proofs.Begun.{begun_here, begun_there, begun_values}
use Rattle.step_references.proofs.Moved.{moved_keeping, moved_lying}
use Rattle.step_references.proofs.uses.begin_use.Goals as goal

module _ (tables : Tables) (inputs : Given) (set : BuiltIns) (functions : List FunctionCode) (how : Use) (i : ℕ) (s : State) where
  -- what is neither a name nor a property nor one of them in parentheses is no reference
  no_reference : (at : ℕ) (k : ExprKind) → ((text : _) → k ≡ expr.Name text → ⊥) → ((x : Expr) (text : _) → k ≡ expr.Member x text → ⊥) → ((x y : Expr) → k ≡ expr.Index x y → ⊥) → ((x : Expr) → k ≡ expr.Paren x → ⊥)
      → (planned tables inputs set functions).act (throws_error error.ReferenceError) [] s ≡ use_step (planned tables inputs set functions) (entrance tables inputs set functions) (asking tables inputs set functions) how (view_expr_kind at k) i s
  unfolding use_step
  no_reference at (expr.Name text) no_name no_member no_index no_paren = absurd (no_name text refl)
  no_reference at (expr.Member' a p e text) no_name no_member no_index no_paren = absurd (no_member (record { at = a; kind = record { ptr = p.ptr; alloc = p.alloc; value = e } }) text refl)
  no_reference at (expr.Index' a p e b q x) no_name no_member no_index no_paren = absurd (no_index (record { at = a; kind = record { ptr = p.ptr; alloc = p.alloc; value = e } }) (record { at = b; kind = record { ptr = q.ptr; alloc = q.alloc; value = x } }) refl)
  no_reference at (expr.Paren' a p e) no_name no_member no_index no_paren = absurd (no_paren (record { at = a; kind = record { ptr = p.ptr; alloc = p.alloc; value = e } }) refl)
  no_reference at (expr.New' a p e ExprKind-New-1-None') no_name no_member no_index no_paren = refl
  no_reference at (expr.New' a p e (ExprKind-New-1-Some' shape es order)) no_name no_member no_index no_paren = refl
  no_reference at _ no_name no_member no_index no_paren = refl

pub returns-in-Name-clause-goes_on : goal.returns-in-Name-clause-goes_on
unfolding use_step
returns-in-Name-clause-goes_on g c =
    let is : view_expr c.args.target.now ≡ name c.args.target.now.at c.in-Name.name = search (rules, the_lemmas, c.in-Name.is) in
    begun_there c.use_name.ensures.goes_on refl (λ tables inputs set functions reading f s read. sym (ap (λ x. use_step (planned tables inputs set functions) (entrance tables inputs set functions) (asking tables inputs set functions) (use_of c.args.how (map (read_value reading) c.args.stack.now.loose)) x f.env.place s) is))

pub returns-in_ok-next-in-Member-clause-goes_on : goal.returns-in_ok-next-in-Member-clause-goes_on
unfolding use_step
returns-in_ok-next-in-Member-clause-goes_on g c =
    let is : view_expr c.args.target.now ≡ member c.args.target.now.at (view_expr c.in-Member.base) c.in-Member.name = search (rules, the_lemmas, c.in-Member.is) in
    begun_there (begun_here (begun_values (λ tables inputs set functions vs e. (planned tables inputs set functions).bind Value Value ((asking tables inputs set functions).expr (view_expr c.in-Member.base) e.env.place) (member_base (planned tables inputs set functions) (entrance tables inputs set functions) (asking tables inputs set functions) (use_of c.args.how vs) c.in-Member.name e.env.place)) c.in_ok-next-in-Member.ensures.goes_on (λ tables inputs set functions reading f s. refl))) refl (λ tables inputs set functions reading f s read. sym (ap (λ x. use_step (planned tables inputs set functions) (entrance tables inputs set functions) (asking tables inputs set functions) (use_of c.args.how (map (read_value reading) c.args.stack.now.loose)) x f.env.place s) is))

pub returns-in_ok-next-in-Index-clause-goes_on : goal.returns-in_ok-next-in-Index-clause-goes_on
unfolding use_step
returns-in_ok-next-in-Index-clause-goes_on g c =
    let is : view_expr c.args.target.now ≡ index c.args.target.now.at (view_expr c.in-Index.base) (view_expr c.in-Index.index) = search (rules, the_lemmas, c.in-Index.is) in
    begun_there (begun_here (begun_values (λ tables inputs set functions vs e. (planned tables inputs set functions).bind Value Value ((asking tables inputs set functions).expr (view_expr c.in-Index.base) e.env.place) (index_base (planned tables inputs set functions) (entrance tables inputs set functions) (asking tables inputs set functions) (use_of c.args.how vs) (view_expr c.in-Index.index) e.env.place)) c.in_ok-next-in-Index.ensures.goes_on (λ tables inputs set functions reading f s. refl))) refl (λ tables inputs set functions reading f s read. sym (ap (λ x. use_step (planned tables inputs set functions) (entrance tables inputs set functions) (asking tables inputs set functions) (use_of c.args.how (map (read_value reading) c.args.stack.now.loose)) x f.env.place s) is))

pub returns-in_ok-next-in-Member-clause-moved : goal.returns-in_ok-next-in-Member-clause-moved
returns-in_ok-next-in-Member-clause-moved g c = moved_keeping _ c.requires.made c.in_ok-next-in-Member.ensures.keeps c.in_ok-next-in-Member.ensures.adds (omega arith)

pub returns-in_ok-next-in-Index-clause-moved : goal.returns-in_ok-next-in-Index-clause-moved
returns-in_ok-next-in-Index-clause-moved g c = moved_keeping _ c.requires.made c.in_ok-next-in-Index.ensures.keeps c.in_ok-next-in-Index.ensures.adds (omega arith)

pub returns-in-Paren-clause-moved : goal.returns-in-Paren-clause-moved
returns-in-Paren-clause-moved g c = moved_lying _ c.args.stack.now.loose refl refl c.requires.made c.requires.loose (omega arith)

pub returns-in_default-clause-goes_on : goal.returns-in_default-clause-goes_on
returns-in_default-clause-goes_on g c =
    begun_there (begun_here c.refuse_use.ensures.goes_on) refl (λ tables inputs set functions reading f s is. no_reference tables inputs set functions (use_of c.args.how (map (read_value reading) c.args.stack.now.loose)) f.env.place s c.args.target.now.at _
    (λ text e. c.in_default.not-Name text (c.deref.ensures ∙ e)) (λ x text e. c.in_default.not-Member x text (c.deref.ensures ∙ e)) (λ x y e. c.in_default.not-Index x y (c.deref.ensures ∙ e)) (λ x e. c.in_default.not-Paren x (c.deref.ensures ∙ e)))
