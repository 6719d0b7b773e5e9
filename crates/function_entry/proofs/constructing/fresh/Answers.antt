use Rattle.std.proofs.Common.{ap, arith, ◌∙◌, Some}
use Rattle.run_state.proofs.ActLaws.{Belongs-later}
use Rattle.function_entry.specs.Making.{standing_in}
use Rattle.function_entry.proofs.WorldLaws.{same_heap_belongs}
use Rattle.function_entry.proofs.MakingLaws.{fresh_made, fresh_belongs}
use Rattle.function_entry.proofs.constructing.fresh.Goals as goal

pub standing-o-requires : goal.standing-o-requires
standing-o-requires g c = let many = c.requires.belongs.started in omega (arith, many)

pub returns-in_err-link-clause-belongs : goal.returns-in_err-link-clause-belongs
returns-in_err-link-clause-belongs g c = Belongs-later g.L.Labels.made g.L.Labels.meaning g.L.Labels.room g.L.Labels.firm c.args.labels.now c.join.new.self c.join.ensures.kept g.met.L.Labels.rising c.args.world.now c.requires.belongs

pub returns-in_err-made-clause-belongs : goal.returns-in_err-made-clause-belongs
returns-in_err-made-clause-belongs g c = same_heap_belongs g.L.Labels.made g.L.Labels.meaning g.L.Labels.room g.L.Labels.firm c.args.labels.now c.join.new.self c.join.ensures.kept g.met.L.Labels.rising c.args.world.now c.requires.belongs c.new_object.new.self c.in_err-made.ensures.unchanged

pub returns-clause-makes : goal.returns-clause-makes
returns-clause-makes g c =
    fresh_made g.L.Labels.made g.L.Labels.meaning g.L.Labels.room g.L.Labels.firm c.args.labels.now c.join.new.self c.join.ensures.kept g.met.L.Labels.rising c.args.world.now c.requires.belongs c.args.proto.now c.requires.proto c.context-context.result c.in_ok-link.link c.context-context.ensures.made c.context-context.ensures.meaning c.in_ok-link.ensures.made c.in_ok-link.ensures.meaning
    c.new_object.new.self c.standing-o.result (c.standing-o.ensures.is ∙ ap (standing_in c.args.world.now.heap) c.object_or_default.ensures) c.in_ok-made.ensures.ok

pub returns-clause-belongs : goal.returns-clause-belongs
returns-clause-belongs g c =
    fresh_belongs g.L.Labels.made g.L.Labels.meaning g.L.Labels.room g.L.Labels.firm c.args.labels.now c.join.new.self c.join.ensures.kept g.met.L.Labels.rising c.args.world.now c.requires.belongs c.args.proto.now c.requires.proto c.context-context.result c.in_ok-link.link c.context-context.ensures.made c.context-context.ensures.meaning c.in_ok-link.ensures.made c.in_ok-link.ensures.meaning
    c.new_object.new.self (Some c.standing-o.result) c.in_ok-made.ensures.ok c.in_ok-made.ensures.length
