use Rattle.std.proofs.Common.{ap, ◌∙◌}
use Rattle.js_values.specs.Numerals.{index_of}
use Rattle.js_values.proofs.IndexLaws.{is_index, some_index}
use Rattle.js_values.proofs.key.Key.index.Goals as goal

pub returns-clause-named : goal.returns-clause-named
returns-clause-named c = some_index c.args.self.now c.array_index.result (c.array_index.ensures ∙ ap index_of (c.units.ensures ∙ c.self.view_is))

pub returns-clause-names : goal.returns-clause-names
returns-clause-names c = λ n index. c.array_index.ensures ∙ ap index_of (c.units.ensures ∙ c.self.view_is) ∙ is_index c.args.self.now n index
