use Rattle.std.proofs.Common.{rules, subst, sym, ap, ◌∙◌, ◌≡◌, ◌-◌, true, false}
use Rattle.std.specs.Option.{option_map}
use Rattle.js_ast.specs.declared.trees.ExprKind.TheViews.{the_lemmas}
use Rattle.js_ast.specs.Trees as trees
use Rattle.js_ast.specs.Views.{view_expr}
use Rattle.run_state.proofs.ActLaws.{Belongs-later}
use Rattle.step_numbers.specs.Evaluated.{Evaluates, labelled_number}
use Rattle.step_numbers.proofs.EvaluationLaws.{binary_counts, name_counts, number_evaluated, paren_counts}
use Rattle.step_numbers.specs.Evaluated.{combined_of, combines, number_at}
use Rattle.step_numbers.proofs.ExactLaws.{arithmetic, both_there, entered_as, no_left, no_levels, no_right, no_turns, not_arithmetic}
use Rattle.step_numbers.proofs.evaluating.+numbers.Goals as goal
use Rattle.step_numbers.proofs.evaluating.+numbers.Goals.{number-then-turns-eq0-via-then-turns-eq0, number-then-turns-eq0-via-else-turns-eq0+then-depth-eq0, operand-then-turns-eq0-via-then-turns-eq0, operand-then-turns-eq0-via-else-turns-eq0+then-depth-eq0}

pub number-returns-in-Name-clause-evaluates : goal.number-returns-in-Name-clause-evaluates
number-returns-in-Name-clause-evaluates g t c =
    let is : view_expr c.args.e.now ≡ trees.name c.args.e.now.at c.in-Name.name = search (rules, the_lemmas, c.in-Name.is) in
    name_counts g.L.Labels.made g.L.Labels.meaning c.named.new.labels (view_expr c.args.e.now) c.args.e.now.at c.args.at.0 c.args.world.now c.args.turns c.in-Name.name c.named.result is c.if-turns-eq0.false c.named.ensures.named c.named.ensures.left

pub number-returns-in-Number-clause-evaluates : goal.number-returns-in-Number-clause-evaluates
number-returns-in-Number-clause-evaluates g t c =
    let is : view_expr c.args.e.now ≡ trees.number c.args.e.now.at c.in-Number.n = search (rules, the_lemmas, c.in-Number.is) in
    subst (λ x. Evaluates g.L.Labels.made g.L.Labels.meaning c.args.labels.now x c.args.at.0 c.args.world.now c.args.turns (labelled_number c.in-Number.n c.bottom.result) (c.args.turns - 1)) (sym is)
    (number_evaluated g.L.Labels.made g.L.Labels.meaning c.args.labels.now c.args.e.now.at c.args.at.0 c.args.world.now c.args.turns c.in-Number.n c.bottom.result c.if-turns-eq0.false c.bottom.ensures.made c.bottom.ensures.meaning)

pub number-returns-in-Paren-clause-evaluates : goal.number-returns-in-Paren-clause-evaluates
number-returns-in-Paren-clause-evaluates g t c =
    let is : view_expr c.args.e.now ≡ trees.paren c.args.e.now.at (view_expr c.in-Paren.inner) = search (rules, the_lemmas, c.in-Paren.is) in
    paren_counts g.L.Labels.made g.L.Labels.meaning c.number.new.labels (view_expr c.args.e.now) (view_expr c.in-Paren.inner) c.args.e.now.at c.args.at.0 c.args.world.now c.args.turns c.number.result is c.if-turns-eq0.false c.number.ensures.evaluates

pub number-returns-in_ok-second-in-Binary-clause-evaluates : goal.number-returns-in_ok-second-in-Binary-clause-evaluates
number-returns-in_ok-second-in-Binary-clause-evaluates g t c =
    let is : view_expr c.args.e.now ≡ trees.binary c.args.e.now.at (view_expr c.in-Binary.left) c.in-Binary.operator (view_expr c.in-Binary.right) = search (rules, the_lemmas, c.in-Binary.is) in
    binary_counts g.L.Labels.made g.L.Labels.meaning g.met.L.Labels.rising g.L.Labels.room g.L.Labels.firm c.operand.new.labels c.operand-in-Binary.new.labels c.joined.new.labels c.operand-in-Binary.ensures.kept c.joined.ensures.kept
    (view_expr c.args.e.now) (view_expr c.in-Binary.left) (view_expr c.in-Binary.right) c.args.e.now.at c.args.at.0 c.args.world.now c.args.turns c.in-Binary.operator c.in_ok-first-in-Binary.first c.in_ok-second-in-Binary.second c.joined.result is c.if-turns-eq0.false
    c.in_ok-first-in-Binary.ensures.evaluates c.in_ok-second-in-Binary.ensures.evaluates c.joined.ensures.gives c.joined.ensures.both c.joined.ensures.made c.joined.ensures.means c.joined.ensures.left

pub number-returns-then-turns-eq0-clause-exact : goal.number-returns-then-turns-eq0-clause-exact
number-returns-then-turns-eq0-clause-exact g t c firm =
    let records = c.args.world.now.records in
    let heap = c.args.world.now.heap in
    elim c.then-turns-eq0.branch [
      | number-then-turns-eq0-via-then-turns-eq0 w ↦ sym (ap (λ n. number_at records heap c.args.at.0 c.args.depth (view_expr c.args.e.now) n) w.if-turns-eq0.true ∙ no_turns records heap c.args.at.0 c.args.depth (view_expr c.args.e.now))
      | number-then-turns-eq0-via-else-turns-eq0+then-depth-eq0 w ↦ sym (ap (λ d. number_at records heap c.args.at.0 d (view_expr c.args.e.now) c.args.turns) w.if-depth-eq0.true ∙ no_levels records heap c.args.at.0 (view_expr c.args.e.now) c.args.turns)
    ]

pub number-returns-in-Name-clause-exact : goal.number-returns-in-Name-clause-exact
number-returns-in-Name-clause-exact g t c firm =
    let is : view_expr c.args.e.now ≡ trees.name c.args.e.now.at c.in-Name.name = search (rules, the_lemmas, c.in-Name.is) in
    c.named.ensures.exact firm ∙ sym (entered_as c.args.world.now.records c.args.world.now.heap c.args.at.0 c.args.depth (view_expr c.args.e.now) (trees.name c.args.e.now.at c.in-Name.name) c.args.turns is c.if-depth-eq0.false c.if-turns-eq0.false)

pub number-returns-in-Number-clause-exact : goal.number-returns-in-Number-clause-exact
number-returns-in-Number-clause-exact g t c firm =
    let is : view_expr c.args.e.now ≡ trees.number c.args.e.now.at c.in-Number.n = search (rules, the_lemmas, c.in-Number.is) in
    sym (entered_as c.args.world.now.records c.args.world.now.heap c.args.at.0 c.args.depth (view_expr c.args.e.now) (trees.number c.args.e.now.at c.in-Number.n) c.args.turns is c.if-depth-eq0.false c.if-turns-eq0.false)

pub number-returns-in-Paren-clause-exact : goal.number-returns-in-Paren-clause-exact
number-returns-in-Paren-clause-exact g t c firm =
    let is : view_expr c.args.e.now ≡ trees.paren c.args.e.now.at (view_expr c.in-Paren.inner) = search (rules, the_lemmas, c.in-Paren.is) in
    c.number.ensures.exact firm ∙ sym (entered_as c.args.world.now.records c.args.world.now.heap c.args.at.0 c.args.depth (view_expr c.args.e.now) (trees.paren c.args.e.now.at (view_expr c.in-Paren.inner)) c.args.turns is c.if-depth-eq0.false c.if-turns-eq0.false)

pub number-returns-then-not-combines-clause-exact : goal.number-returns-then-not-combines-clause-exact
number-returns-then-not-combines-clause-exact g t c firm =
    let is : view_expr c.args.e.now ≡ trees.binary c.args.e.now.at (view_expr c.in-Binary.left) c.in-Binary.operator (view_expr c.in-Binary.right) = search (rules, the_lemmas, c.in-Binary.is) in
    let no : combines c.in-Binary.operator ≡ false = cc (c.combines.ensures, c.if-not-combines.true) in
    sym (not_arithmetic c.args.world.now.records c.args.world.now.heap c.args.at.0 c.args.depth (view_expr c.args.e.now) (view_expr c.in-Binary.left) (view_expr c.in-Binary.right) c.args.e.now.at c.args.turns c.in-Binary.operator is no c.if-depth-eq0.false c.if-turns-eq0.false)

pub number-returns-in_err-first-in-Binary-clause-exact : goal.number-returns-in_err-first-in-Binary-clause-exact
number-returns-in_err-first-in-Binary-clause-exact g t c firm =
    let is : view_expr c.args.e.now ≡ trees.binary c.args.e.now.at (view_expr c.in-Binary.left) c.in-Binary.operator (view_expr c.in-Binary.right) = search (rules, the_lemmas, c.in-Binary.is) in
    let yes : combines c.in-Binary.operator ≡ true = cc (c.combines.ensures, c.if-not-combines.false) in
    let parts = number_at c.args.world.now.records c.args.world.now.heap c.args.at.0 (c.args.depth - 1) in
    ap (option_map (λ x. (x.number, x.turns))) c.from_residual.ensures
    ∙ sym (arithmetic c.args.world.now.records c.args.world.now.heap c.args.at.0 c.args.depth (view_expr c.args.e.now) (view_expr c.in-Binary.left) (view_expr c.in-Binary.right) c.args.e.now.at c.args.turns c.in-Binary.operator is yes c.if-depth-eq0.false c.if-turns-eq0.false
    ∙ no_left parts (view_expr c.in-Binary.left) (view_expr c.in-Binary.right) (combined_of c.in-Binary.operator) (c.args.turns - 1) (c.in_err-first-in-Binary.ensures.exact firm))

pub number-returns-in_err-second-in-Binary-clause-exact : goal.number-returns-in_err-second-in-Binary-clause-exact
number-returns-in_err-second-in-Binary-clause-exact g t c firm =
    let is : view_expr c.args.e.now ≡ trees.binary c.args.e.now.at (view_expr c.in-Binary.left) c.in-Binary.operator (view_expr c.in-Binary.right) = search (rules, the_lemmas, c.in-Binary.is) in
    let yes : combines c.in-Binary.operator ≡ true = cc (c.combines.ensures, c.if-not-combines.false) in
    let parts = number_at c.args.world.now.records c.args.world.now.heap c.args.at.0 (c.args.depth - 1) in
    ap (option_map (λ x. (x.number, x.turns))) c.from_residual-in_err-second-in-Binary.ensures
    ∙ sym (arithmetic c.args.world.now.records c.args.world.now.heap c.args.at.0 c.args.depth (view_expr c.args.e.now) (view_expr c.in-Binary.left) (view_expr c.in-Binary.right) c.args.e.now.at c.args.turns c.in-Binary.operator is yes c.if-depth-eq0.false c.if-turns-eq0.false
    ∙ no_right parts (view_expr c.in-Binary.left) (view_expr c.in-Binary.right) (combined_of c.in-Binary.operator) (c.args.turns - 1) c.in_ok-first-in-Binary.first.number c.in_ok-first-in-Binary.first.turns (c.in_ok-first-in-Binary.ensures.exact firm) (c.in_err-second-in-Binary.ensures.exact (c.operand.ensures.kept.same_firm ∙ firm)))

pub number-returns-in_ok-second-in-Binary-clause-exact : goal.number-returns-in_ok-second-in-Binary-clause-exact
number-returns-in_ok-second-in-Binary-clause-exact g t c firm =
    let is : view_expr c.args.e.now ≡ trees.binary c.args.e.now.at (view_expr c.in-Binary.left) c.in-Binary.operator (view_expr c.in-Binary.right) = search (rules, the_lemmas, c.in-Binary.is) in
    let yes : combines c.in-Binary.operator ≡ true = cc (c.combines.ensures, c.if-not-combines.false) in
    let parts = number_at c.args.world.now.records c.args.world.now.heap c.args.at.0 (c.args.depth - 1) in
    let middle = c.operand.ensures.kept.same_firm ∙ firm in
    c.joined.ensures.exact (c.operand-in-Binary.ensures.kept.same_firm ∙ middle)
    ∙ sym (arithmetic c.args.world.now.records c.args.world.now.heap c.args.at.0 c.args.depth (view_expr c.args.e.now) (view_expr c.in-Binary.left) (view_expr c.in-Binary.right) c.args.e.now.at c.args.turns c.in-Binary.operator is yes c.if-depth-eq0.false c.if-turns-eq0.false
    ∙ both_there parts (view_expr c.in-Binary.left) (view_expr c.in-Binary.right) (combined_of c.in-Binary.operator) (c.args.turns - 1) c.in_ok-first-in-Binary.first.number c.in_ok-second-in-Binary.second.number c.in_ok-first-in-Binary.first.turns c.in_ok-second-in-Binary.second.turns
    (c.in_ok-first-in-Binary.ensures.exact firm) (c.in_ok-second-in-Binary.ensures.exact middle))

pub number-returns-in-Name-clause-belongs : goal.number-returns-in-Name-clause-belongs
number-returns-in-Name-clause-belongs g t c =
    Belongs-later g.L.Labels.made g.L.Labels.meaning g.L.Labels.room g.L.Labels.firm c.args.labels.now c.named.new.labels c.named.ensures.kept g.met.L.Labels.rising c.args.world.now c.requires.belongs

pub number-returns-in_ok-second-in-Binary-clause-belongs : goal.number-returns-in_ok-second-in-Binary-clause-belongs
number-returns-in_ok-second-in-Binary-clause-belongs g t c =
    Belongs-later g.L.Labels.made g.L.Labels.meaning g.L.Labels.room g.L.Labels.firm c.operand-in-Binary.new.labels c.joined.new.labels c.joined.ensures.kept g.met.L.Labels.rising c.args.world.now c.operand-in-Binary.ensures.belongs

pub operand-returns-in-Name-clause-evaluates : goal.operand-returns-in-Name-clause-evaluates
operand-returns-in-Name-clause-evaluates g t c =
    let is : view_expr c.args.e.now ≡ trees.name c.args.e.now.at c.in-Name.name = search (rules, the_lemmas, c.in-Name.is) in
    name_counts g.L.Labels.made g.L.Labels.meaning c.named.new.labels (view_expr c.args.e.now) c.args.e.now.at c.args.at.0 c.args.world.now c.args.turns c.in-Name.name c.named.result is c.if-turns-eq0.false c.named.ensures.named c.named.ensures.left

pub operand-returns-in-Number-clause-evaluates : goal.operand-returns-in-Number-clause-evaluates
operand-returns-in-Number-clause-evaluates g t c =
    let is : view_expr c.args.e.now ≡ trees.number c.args.e.now.at c.in-Number.n = search (rules, the_lemmas, c.in-Number.is) in
    subst (λ x. Evaluates g.L.Labels.made g.L.Labels.meaning c.args.labels.now x c.args.at.0 c.args.world.now c.args.turns (labelled_number c.in-Number.n c.bottom.result) (c.args.turns - 1)) (sym is)
    (number_evaluated g.L.Labels.made g.L.Labels.meaning c.args.labels.now c.args.e.now.at c.args.at.0 c.args.world.now c.args.turns c.in-Number.n c.bottom.result c.if-turns-eq0.false c.bottom.ensures.made c.bottom.ensures.meaning)

pub operand-returns-then-turns-eq0-clause-exact : goal.operand-returns-then-turns-eq0-clause-exact
operand-returns-then-turns-eq0-clause-exact g t c firm =
    let records = c.args.world.now.records in
    let heap = c.args.world.now.heap in
    elim c.then-turns-eq0.branch [
      | operand-then-turns-eq0-via-then-turns-eq0 w ↦ sym (ap (λ n. number_at records heap c.args.at.0 c.args.depth (view_expr c.args.e.now) n) w.if-turns-eq0.true ∙ no_turns records heap c.args.at.0 c.args.depth (view_expr c.args.e.now))
      | operand-then-turns-eq0-via-else-turns-eq0+then-depth-eq0 w ↦ sym (ap (λ d. number_at records heap c.args.at.0 d (view_expr c.args.e.now) c.args.turns) w.if-depth-eq0.true ∙ no_levels records heap c.args.at.0 (view_expr c.args.e.now) c.args.turns)
    ]

pub operand-returns-in-Name-clause-exact : goal.operand-returns-in-Name-clause-exact
operand-returns-in-Name-clause-exact g t c firm =
    let is : view_expr c.args.e.now ≡ trees.name c.args.e.now.at c.in-Name.name = search (rules, the_lemmas, c.in-Name.is) in
    c.named.ensures.exact firm ∙ sym (entered_as c.args.world.now.records c.args.world.now.heap c.args.at.0 c.args.depth (view_expr c.args.e.now) (trees.name c.args.e.now.at c.in-Name.name) c.args.turns is c.if-depth-eq0.false c.if-turns-eq0.false)

pub operand-returns-in-Number-clause-exact : goal.operand-returns-in-Number-clause-exact
operand-returns-in-Number-clause-exact g t c firm =
    let is : view_expr c.args.e.now ≡ trees.number c.args.e.now.at c.in-Number.n = search (rules, the_lemmas, c.in-Number.is) in
    sym (entered_as c.args.world.now.records c.args.world.now.heap c.args.at.0 c.args.depth (view_expr c.args.e.now) (trees.number c.args.e.now.at c.in-Number.n) c.args.turns is c.if-depth-eq0.false c.if-turns-eq0.false)

pub operand-returns-in-Name-clause-belongs : goal.operand-returns-in-Name-clause-belongs
operand-returns-in-Name-clause-belongs g t c =
    Belongs-later g.L.Labels.made g.L.Labels.meaning g.L.Labels.room g.L.Labels.firm c.args.labels.now c.named.new.labels c.named.ensures.kept g.met.L.Labels.rising c.args.world.now c.requires.belongs
