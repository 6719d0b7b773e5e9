use Rattle.run_state.proofs.ActLaws.{Belongs-later}
use Rattle.std.proofs.Common.{refl}
use Rattle.native_protocol.specs.declared.request.Answer.TheVariants as answer
use Rattle.step_requests.proofs.Does.{looked}
use Rattle.step_requests.proofs.Done.{asks_rests}
use Rattle.step_requests.proofs.Held.{made_later}
use Rattle.step_requests.proofs.doing.look.Goals as goal

pub returns-in_err-saw-clause-belongs : goal.returns-in_err-saw-clause-belongs
returns-in_err-saw-clause-belongs g c = let b = Belongs-later g.L.Labels.made g.L.Labels.meaning g.L.Labels.room g.L.Labels.firm c.args.labels.now c.raise_last.new.labels c.raise_last.ensures.kept g.met.L.Labels.rising c.args.world.now c.requires.belongs in record { frames = c.raise_last.ensures.belongs; catch = c.len.ensures.catch; heap = b.heap; records = b.records; started = b.started }

pub returns-clause-belongs : goal.returns-clause-belongs
returns-clause-belongs g c = let b = Belongs-later g.L.Labels.made g.L.Labels.meaning g.L.Labels.room g.L.Labels.firm c.args.labels.now c.raise_last.new.labels c.raise_last.ensures.kept g.met.L.Labels.rising c.args.world.now c.requires.belongs in record { frames = c.raise_last.ensures.belongs; catch = c.len.ensures.catch; heap = b.heap; records = b.records; started = b.started }

pub returns-clause-does : goal.returns-clause-does
returns-clause-does g c = λ tables inputs. looked g.L.Labels.made g.L.Labels.meaning g.L.Labels.room g.L.Labels.firm c.args.labels.now c.raise_last.new.labels c.in_ok-raise_last.ensures.kept tables inputs c.args.stack.now c.args.world.now _ c.args.reg c.in_ok-value.value c.args.count c.in_ok-saw.saw c.in_ok-value.ensures.reads c.in_ok-value.ensures.made c.requires.belongs.frames c.raise_last.ensures.belongs c.in_ok-raise_last.ensures.raised refl c.in_ok-saw.ensures

pub returns-clause-leaves : goal.returns-clause-leaves
returns-clause-leaves g c = record { rests = asks_rests (g.L.Labels.made c.raise_last.new.labels) c.args.stack.now c.args.stack.now c.args.count (answer.Seen c.in_ok-saw.saw) refl c.requires.loose (made_later g.L.Labels.made g.L.Labels.meaning g.L.Labels.room g.L.Labels.firm c.args.labels.now c.raise_last.new.labels c.in_ok-raise_last.ensures.kept c.args.stack.now.loose c.requires.made); stands = c.raise_last.ensures.length }
