use Rattle.origin_labels.specs.Label.{union}
use Rattle.origin_labels.proofs.StoreLaws.{IsKept-trans}
use Rattle.run_state.proofs.ActLaws.{Belongs-later}
use Rattle.property_access.proofs.MeansLaws.{means_later}
use Rattle.step_objects.proofs.TestLaws.{aimed_later, test_answered, test_reads}
use Rattle.step_objects.proofs.instances.test_of.Goals as goal

pub returns-in_default-clause-test : goal.returns-in_default-clause-test
returns-in_default-clause-test g c = test_answered g.L.Labels.made g.L.Labels.meaning c.join.new.labels c.args.world.now.heap c.args.value.now c.args.label c.args.f.0 c.in_ok-label.label c.in_ok-label.ensures.means c.in_default.field-0 c.in_default.is

pub get_of-requires-clause-belongs : goal.get_of-requires-clause-belongs
get_of-requires-clause-belongs g c = Belongs-later g.L.Labels.made g.L.Labels.meaning g.L.Labels.room g.L.Labels.firm c.args.labels.now c.join-3.new.labels (IsKept-trans _ _ _ _ _ _ _ c.aim_of.ensures.kept (IsKept-trans _ _ _ _ _ _ _ c.join-2.ensures.kept c.join-3.ensures.kept)) g.met.L.Labels.rising c.args.world.now c.requires.belongs

pub returns-clause-test : goal.returns-clause-test
returns-clause-test g c =
    let kept_both = IsKept-trans _ _ _ _ _ _ _ c.join-3.ensures.kept c.get_of.ensures.kept in
    test_reads g.L.Labels.made g.L.Labels.meaning c.get_of.new.labels c.args.world.now.heap c.args.value.now c.args.label c.args.f.0 c.in_ok-aimed.aimed c.in_ok-of_function.of_function c.in_ok-depends.depends
    (aimed_later g.L.Labels.made g.L.Labels.meaning g.L.Labels.room g.L.Labels.firm c.aim_of.new.labels c.get_of.new.labels (IsKept-trans _ _ _ _ _ _ _ c.join-2.ensures.kept kept_both) c.args.world.now.heap c.args.f.0 c.in_ok-aimed.aimed c.in_ok-aimed.ensures.aimed)
    (means_later g.L.Labels.made g.L.Labels.meaning g.L.Labels.room g.L.Labels.firm c.join-2.new.labels c.get_of.new.labels kept_both c.in_ok-of_function.of_function (λ reading. union (reading c.args.label) (reading c.in_ok-aimed.aimed.label)) c.in_ok-of_function.ensures.means)
    (means_later g.L.Labels.made g.L.Labels.meaning g.L.Labels.room g.L.Labels.firm c.join-3.new.labels c.get_of.new.labels c.get_of.ensures.kept c.in_ok-depends.depends (λ reading. union (reading c.args.value.now.label) (reading c.in_ok-of_function.of_function)) c.in_ok-depends.ensures.means)
    c.in-Object.object c.in-Object.is c.in_ok-name.name c.in_ok-name.ensures c.in_ok-prototype.prototype c.in_ok-prototype.ensures.access
