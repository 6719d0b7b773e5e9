use Rattle.run_state.specs.declared.outcome.Place.TheVariants as place
use Rattle.continuations.specs.Shapes.{walk_to}
use Rattle.continuations.proofs.BranchLaws.{none_in_front}
use Rattle.step_references.specs.Keeping.{owns_walk}
use Rattle.step_references.proofs.Kept.{owns_none, walks_nowhere}
use Rattle.step_references.proofs.Loose.{lone}
use Rattle.std.proofs.Common.{sym, ap, map, ◌∙◌}
use Rattle.std.proofs.lemmas.List.{nil_from_length}
use Rattle.js_values.specs.Readings.{HasValue, read_value}
use Rattle.continuations.proofs.EndLaws.{last_has}
use Rattle.step_references.proofs.keeping.take_walk.Goals as goal

pub returns-in-Nowhere-clause-none : goal.returns-in-Nowhere-clause-none
returns-in-Nowhere-clause-none g c = none_in_front c.pop.new.self.loose c.args.stack.now.loose c.pop.result c.pop.ensures.top (c.requires.loose ∙ ap owns_walk c.in-Nowhere.is)

pub returns-in-Nowhere-clause-made : goal.returns-in-Nowhere-clause-made
returns-in-Nowhere-clause-made g c = last_has (HasValue (g.L.Labels.made c.args.labels.now)) c.pop.new.self.loose c.args.stack.now.loose c.pop.result c.pop.ensures.top c.requires.made

pub returns-in-Nowhere-clause-walk : goal.returns-in-Nowhere-clause-walk
returns-in-Nowhere-clause-walk g c = λ reading read. ap (λ vs. walk_to place.Nowhere (map (read_value reading) vs)) (sym (lone c.pop.new.self.loose c.args.stack.now.loose c.pop.result c.pop.ensures.top (c.requires.loose ∙ ap owns_walk c.in-Nowhere.is))) ∙ ap (λ p. walk_to p (map (read_value reading) c.args.stack.now.loose)) (sym c.in-Nowhere.is)

pub returns-in-Record-clause-none : goal.returns-in-Record-clause-none
returns-in-Record-clause-none g c = nil_from_length c.args.stack.now.loose (c.requires.loose ∙ owns_none c.args.place c.in-Record.is)

pub returns-in-Record-clause-walk : goal.returns-in-Record-clause-walk
returns-in-Record-clause-walk g c = λ reading read. read.agrees c.bottom.result c.bottom.ensures.made ∙ c.bottom.ensures.meaning ∙ sym (walks_nowhere c.args.place (map (read_value reading) c.args.stack.now.loose) c.in-Record.is)
