use Rattle.std.proofs.Common.{ap, ◌∙◌, Option, option_map}
use Rattle.interned_labels.specs.declared.interned.InternedLabel.{InternedLabel}
use Rattle.interned_labels.specs.Interned.{InternedSets, known_union}
use Rattle.interned_labels.proofs.UnionLaws.{known_first, known_second, known_rest}
use Rattle.interned_labels.proofs.interned.Interned.known_union.Goals as goal

pub returns-then-a-b : goal.returns-then-a-b
returns-then-a-b c = known_first c.args.self.now.unions c.args.a.0 c.args.b.0 c.then-a-b.either

pub returns-then-a-eq0 : goal.returns-then-a-eq0
returns-then-a-eq0 c = known_second c.args.self.now.unions c.args.a.0 c.args.b.0 c.if-a-b.false c.if-b-eq0.false c.if-a-eq0.true

pub returns-in_err-number : goal.returns-in_err-number
returns-in_err-number c =
    ap (λ (o : Option InternedLabel). option_map (λ (label : InternedLabel). label.0) o) c.from_residual.ensures
    ∙ c.in_err-number.ensures.value
    ∙ known_rest c.self.inside.unions.entries c.args.a.0 c.args.b.0 c.if-a-b.false c.if-b-eq0.false c.if-a-eq0.false
    ∙ ap (λ (s : InternedSets). known_union s.unions c.args.a.0 c.args.b.0) c.self.view_is

pub returns : goal.returns
returns c =
    c.in_ok-number.ensures.value
    ∙ known_rest c.self.inside.unions.entries c.args.a.0 c.args.b.0 c.if-a-b.false c.if-b-eq0.false c.if-a-eq0.false
    ∙ ap (λ (s : InternedSets). known_union s.unions c.args.a.0 c.args.b.0) c.self.view_is
