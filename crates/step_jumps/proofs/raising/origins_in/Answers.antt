use Rattle.std.proofs.Common.{sym, ap, subst, ◌∙◌, IfSome}
use Rattle.std.specs.Option.{option_map}
use Rattle.std.specs.List.{slice_split}
use Rattle.flow_lists.specs.Lists.{is_comma}
use Rattle.origin_labels.proofs.StoreLaws.{IsKept-refl, IsKept-trans}
use Rattle.step_jumps.proofs.OriginLaws.{bare_names, names_begin, names_last, names_more, names_unknown, split_names}
use Rattle.step_jumps.proofs.raising.origins_in.Goals as goal

pub returns-then-is_bare-clause-origins : goal.returns-then-is_bare-clause-origins
returns-then-is_bare-clause-origins g c = λ inputs. bare_names c.args.policy.now inputs c.args.list.now (g.L.Labels.meaning c.args.labels.now c.bottom-all.result) c.bottom-all.ensures.meaning (sym c.if-is_bare.ensures)

pub loop-name-init : goal.loop-name-init
loop-name-init g c = record {
  made = c.bottom-all.ensures.made;
  names = names_begin (g.L.Labels.meaning c.args.labels.now c.bottom-all.result) c.origins-origins.result.now (slice_split is_comma c.args.list.now) c.bottom-all.ensures.meaning;
  kept = IsKept-refl _ _ _ _ _;
}

pub returns-in_default-2-clause-origins : goal.returns-in_default-2-clause-origins
returns-in_default-2-clause-origins g c = λ inputs.
    names_unknown (g.L.Labels.meaning c.loop-name.labels c.loop-name.all) c.origins-origins.result.now c.in-Some.name.now (slice_split is_comma c.loop-name.rest.now) (slice_split is_comma c.in-Some.others.now) c.in-Some.ensures.parts
    (sym (ap (λ found. option_map (g.L.Labels.meaning c.with_origin.new.labels) found) c.in_default-2.is) ∙ c.in_ok-more.ensures.origin)
    ∙ c.loop-name.invariant.names ∙ split_names c.args.policy.now inputs c.args.list.now c.origins-origins.result.now c.origins-origins.ensures.origins (sym c.if-is_bare.ensures)

pub loop-name-preserved : goal.loop-name-preserved
loop-name-preserved g c = record {
  made = subst (λ found. IfSome found (g.L.Labels.made c.with_origin.new.labels)) c.in-Some-2.is c.in_ok-more.ensures.made;
  names = names_more (g.L.Labels.meaning c.loop-name.labels c.loop-name.all) (g.L.Labels.meaning c.with_origin.new.labels c.in-Some-2.more) c.origins-origins.result.now c.in-Some.name.now (slice_split is_comma c.loop-name.rest.now) (slice_split is_comma c.in-Some.others.now) c.in-Some.ensures.parts
      (sym (ap (λ found. option_map (g.L.Labels.meaning c.with_origin.new.labels) found) c.in-Some-2.is) ∙ c.in_ok-more.ensures.origin)
      ∙ c.loop-name.invariant.names;
  kept = IsKept-trans _ _ _ _ _ _ _ c.loop-name.invariant.kept c.in_ok-more.ensures.kept;
}

pub returns-clause-origins : goal.returns-clause-origins
returns-clause-origins g c = λ inputs.
    names_last (g.L.Labels.meaning c.loop-name.labels c.loop-name.all) c.origins-origins.result.now c.loop-name.rest.now (slice_split is_comma c.loop-name.rest.now) (option_map (g.L.Labels.meaning c.with_origin-2.new.labels) c.in_ok-found.found) c.in_default.ensures.parts c.in_ok-found.ensures.origin
    ∙ c.loop-name.invariant.names ∙ split_names c.args.policy.now inputs c.args.list.now c.origins-origins.result.now c.origins-origins.ensures.origins (sym c.if-is_bare.ensures)
