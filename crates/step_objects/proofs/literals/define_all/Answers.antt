use Rattle.std.proofs.Common.{arith, ◌≡◌, ◌∷◌, [], length, sym, ap, subst, ◌∙◌, append_assoc, append-nil}
use Rattle.std.specs.Vec.Iter.{into_iter_items}
use Rattle.origin_labels.proofs.StoreLaws.{IsKept-trans}
use Rattle.step_objects.specs.declared.literals.LiteralPart.{LiteralPart}
use Rattle.step_objects.specs.Literals.{IsLiteral}
use Rattle.step_objects.proofs.LiteralLaws.{first_has, rest_has, nothing_left, literal_more, literal_stops, memory_handed_on}
use Rattle.step_objects.proofs.literals.define_all.Goals as goal

pub define-requires-clause-there : goal.define-requires-clause-there
define-requires-clause-there g c = let as_many = c.loop-part.invariant.as_many in let there = c.requires.there in omega (arith, as_many, there)

pub define-requires-clause-context : goal.define-requires-clause-context
define-requires-clause-context g c = (c.loop-part.invariant.kept.labels c.args.context c.requires.context).0

pub define-requires-clause-value : goal.define-requires-clause-value
define-requires-clause-value g c = first_has (g.L.Labels.made c.loop-part.labels) (into_iter_items c.loop-part.part-iterator) (into_iter_items c.next.new.self) c.in-Some.part c.in-Some.ensures.steps.0 c.loop-part.invariant.left

pub define-requires-clause-belongs : goal.define-requires-clause-belongs
define-requires-clause-belongs g c = c.loop-part.invariant.belongs

pub loop-part-preserved : goal.loop-part-preserved
loop-part-preserved g c =
    let at = c.loop-part in
    let x : LiteralPart g.row.T.Denot = c.in-Some.part in
    let steps : into_iter_items at.part-iterator ≡ x ∷ into_iter_items c.next.new.self = c.in-Some.ensures.steps.0 in
    record {
      whole = append_assoc at.yielded (x ∷ []) _ ∙ rw (← steps) at.invariant.whole;
      count =
          let was = at.invariant.count in
          let gone = c.in-Some.ensures.steps.1 in
          let short = ap length steps in
          omega arith;
      left = rest_has (g.L.Labels.made at.labels) (into_iter_items at.part-iterator) (into_iter_items c.next.new.self) x steps at.invariant.left (g.L.Labels.made c.define.new.labels) (λ label m. (c.define.ensures.kept.labels label m).0);
      kept = IsKept-trans _ _ _ _ _ _ _ at.invariant.kept c.define.ensures.kept;
      belongs = c.define.ensures.belongs;
      as_many = c.define.ensures.length ∙ at.invariant.as_many;
      literal = λ before number begun.
          literal_more g.L.Labels.made g.L.Labels.meaning g.L.Labels.room g.L.Labels.firm at.labels c.define.new.labels c.define.ensures.kept before at.heap c.define.new.heap c.args.context (c.define.ensures.kept.labels c.args.context (at.invariant.kept.labels c.args.context c.requires.context).0).0 (g.met.L.Labels.rising c.define.new.labels c.args.context (c.define.ensures.kept.labels c.args.context (at.invariant.kept.labels c.args.context c.requires.context).0).0) at.yielded x c.args.o.0
          number (at.invariant.literal before number begun) c.define.result c.in_ok-define.was c.define.ensures.does;
    }

pub returns-in_err-define-clause-memory : goal.returns-in_err-define-clause-memory
returns-in_err-define-clause-memory g c = λ before number begun.
    let at = c.loop-part in
    memory_handed_on c.from_residual.result c.in_err-define.field-0.0 c.from_residual.ensures.1
    (literal_stops g.L.Labels.made g.L.Labels.meaning g.L.Labels.room g.L.Labels.firm at.labels c.define.new.labels c.define.ensures.kept before at.heap c.define.new.heap c.args.context (c.define.ensures.kept.labels c.args.context (at.invariant.kept.labels c.args.context c.requires.context).0).0 (g.met.L.Labels.rising c.define.new.labels c.args.context (c.define.ensures.kept.labels c.args.context (at.invariant.kept.labels c.args.context c.requires.context).0).0) at.yielded c.in-Some.part c.args.o.0
    number (at.invariant.literal before number begun) c.define.result c.in_err-define.field-0.0 c.in_err-define.was c.define.ensures.does)

pub returns-clause-literal : goal.returns-clause-literal
returns-clause-literal g c = λ before number begun.
    let at = c.loop-part in
    let none = c.in-None.ensures.steps in
    let empty : into_iter_items at.part-iterator ≡ [] = nothing_left _ (sym at.invariant.count ∙ none.0) in
    let all = sym (append-nil at.yielded) ∙ rw empty at at.invariant.whole ∙ c.into_iter-part-iterator.ensures.into_iter_gives.0 in
    subst (λ ps. IsLiteral g.L.Labels.made g.L.Labels.meaning at.labels before at.heap c.args.context ps) all (at.invariant.literal before number begun)
