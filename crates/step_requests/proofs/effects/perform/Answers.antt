use Rattle.std.proofs.Common.{[]}
use Rattle.step_requests.proofs.effects.perform.Goals as goal

pub returns-in-Make-clause-acts : goal.returns-in-Make-clause-acts
returns-in-Make-clause-acts g c = rw c.in-Make.is (c.make.ensures.acts c.args.policy.now c.args.inputs.now [])

pub returns-in-Copy-clause-acts : goal.returns-in-Copy-clause-acts
returns-in-Copy-clause-acts g c = rw c.in-Copy.is (c.copy.ensures.acts c.args.policy.now c.args.inputs.now)

pub returns-in-Same-clause-acts : goal.returns-in-Same-clause-acts
returns-in-Same-clause-acts g c = rw c.in-Same.is (c.same.ensures.acts c.args.policy.now c.args.inputs.now)

pub returns-in-Has-clause-acts : goal.returns-in-Has-clause-acts
returns-in-Has-clause-acts g c = rw c.in-Has.is (c.has.ensures.acts c.args.policy.now c.args.inputs.now)

pub returns-in-Delete-clause-acts : goal.returns-in-Delete-clause-acts
returns-in-Delete-clause-acts g c = rw c.in-Delete.is (c.delete.ensures.acts c.args.policy.now c.args.inputs.now)

pub returns-in-Keys-clause-acts : goal.returns-in-Keys-clause-acts
returns-in-Keys-clause-acts g c = rw c.in-Keys.is (c.keys.ensures.acts c.args.policy.now c.args.inputs.now)

pub returns-in-Proto-clause-acts : goal.returns-in-Proto-clause-acts
returns-in-Proto-clause-acts g c = rw c.in-Proto.is (c.proto.ensures.acts c.args.policy.now c.args.inputs.now)

pub returns-in-Extensible-clause-acts : goal.returns-in-Extensible-clause-acts
returns-in-Extensible-clause-acts g c = rw c.in-Extensible.is (c.extensible.ensures.acts c.args.policy.now c.args.inputs.now)

pub returns-in-Prevent-clause-acts : goal.returns-in-Prevent-clause-acts
returns-in-Prevent-clause-acts g c = rw c.in-Prevent.is (c.prevent.ensures.acts c.args.policy.now c.args.inputs.now)

pub returns-in-New-clause-acts : goal.returns-in-New-clause-acts
returns-in-New-clause-acts g c = rw c.in-New.is (c.make_object.ensures.acts c.args.policy.now c.args.inputs.now)

pub returns-in-Bind-clause-acts : goal.returns-in-Bind-clause-acts
returns-in-Bind-clause-acts g c = rw c.in-Bind.is (c.bound.ensures.acts c.args.policy.now c.args.inputs.now)

pub returns-in-ReadLine-clause-acts : goal.returns-in-ReadLine-clause-acts
returns-in-ReadLine-clause-acts g c = rw c.in-ReadLine.is (c.read.ensures.acts)

pub returns-in-Label-clause-acts : goal.returns-in-Label-clause-acts
returns-in-Label-clause-acts g c = rw c.in-Label.is (c.label.ensures.acts c.args.inputs.now)

pub returns-in-RaiseStructure-clause-acts : goal.returns-in-RaiseStructure-clause-acts
returns-in-RaiseStructure-clause-acts g c = rw c.in-RaiseStructure.is (c.structure.ensures.acts c.args.inputs.now)

pub returns-in-RaiseExistence-clause-acts : goal.returns-in-RaiseExistence-clause-acts
returns-in-RaiseExistence-clause-acts g c = rw c.in-RaiseExistence.is (c.existence.ensures.acts c.args.inputs.now)
