use Rattle.native_protocol.specs.declared.request.ErrorKind.TheVariants as kinds
use Rattle.es_meaning.specs.Operations.{One}
use Rattle.run_state.proofs.ActLaws.{Belongs-later}
use Rattle.property_access.proofs.ThrowLaws.{error_recast}
use Rattle.step_objects.specs.Instances.{read_test}
use Rattle.step_objects.proofs.TestLaws.{tested_primitive, tested_other, tested_function}
use Rattle.step_objects.proofs.instances.instance.Goals as goal

pub returns-in_default-clause-acts : goal.returns-in_default-clause-acts
returns-in_default-clause-acts g c = tested_primitive g.L.Labels.made g.L.Labels.meaning c.throw_error.new.labels c.args.world.now c.args.value.now c.args.function.now c.throw_error.new.world c.throw_error.result c.in_default.field-0 c.in_default.is (error_recast g.L.Labels.made g.L.Labels.meaning c.throw_error.new.labels (λ reading x. tt) (λ reading. read_test reading) kinds.TypeError (λ reading. reading c.args.function.now.label) c.args.world.now c.throw_error.new.world c.throw_error.result c.throw_error.ensures.made (c.throw_error.ensures.acts One (λ reading x. tt)))

pub returns-then-not-holds-clause-acts : goal.returns-then-not-holds-clause-acts
returns-then-not-holds-clause-acts g c =
    tested_other g.L.Labels.made g.L.Labels.meaning c.throw_error-then-not-holds.new.labels c.args.world.now c.args.value.now c.args.function.now c.in-Object.f c.in-Object.is c.is_function-holds.result c.is_function-holds.ensures c.throw_error-then-not-holds.new.world c.throw_error-then-not-holds.result c.if-not-holds.true
    (error_recast g.L.Labels.made g.L.Labels.meaning c.throw_error-then-not-holds.new.labels (λ reading x. tt) (λ reading. read_test reading) kinds.TypeError (λ reading. reading c.args.function.now.label) c.args.world.now c.throw_error-then-not-holds.new.world c.throw_error-then-not-holds.result c.throw_error-then-not-holds.ensures.made (c.throw_error-then-not-holds.ensures.acts One (λ reading x. tt)))

pub returns-in_err-test-clause-belongs : goal.returns-in_err-test-clause-belongs
returns-in_err-test-clause-belongs g c = Belongs-later g.L.Labels.made g.L.Labels.meaning g.L.Labels.room g.L.Labels.firm c.args.labels.now c.test_of.new.labels c.test_of.ensures.kept g.met.L.Labels.rising c.args.world.now c.requires.belongs

pub returns-clause-acts : goal.returns-clause-acts
returns-clause-acts g c = tested_function g.L.Labels.made g.L.Labels.meaning c.test_of.new.labels c.args.world.now c.args.value.now c.args.function.now c.in-Object.f c.in-Object.is c.is_function-holds.result c.is_function-holds.ensures c.in_ok-test.test c.if-not-holds.false c.in_ok-test.ensures.test

pub returns-clause-made : goal.returns-clause-made
returns-clause-made g c = c.in_ok-test.ensures.test.belongs

pub returns-clause-belongs : goal.returns-clause-belongs
returns-clause-belongs g c = Belongs-later g.L.Labels.made g.L.Labels.meaning g.L.Labels.room g.L.Labels.firm c.args.labels.now c.test_of.new.labels c.test_of.ensures.kept g.met.L.Labels.rising c.args.world.now c.requires.belongs
