use Rattle.std.proofs.Common.{sym, ap, ◌∙◌, length}
use Rattle.es_meaning.specs.Outcomes.{Goes}
use Rattle.run_state.specs.Worlds.{state_of}
use Rattle.js_values.specs.declared.value.Value.TheVariants.{Object}
use Rattle.step_literals.proofs.objects.make_part.Goals as goal

pub returns-clause-laid : goal.returns-clause-laid
returns-clause-laid g c = record {
  value = record { value = Object c.in_ok-made.made; label = c.bottom.result };
  tasks = c.lay.ensures.tasks;
  loose = c.in_ok-lay.ensures.laid;
  has = c.bottom.ensures.made;
  frames = ap (λ fs. length fs.frames) c.in_ok-made.ensures.frames;
  act = λ reading is told turns. c.in_ok-made.ensures.gives.says reading is told turns ∙ ap (λ l. Goes (record { value = Object c.in_ok-made.made; label = l }) (state_of reading c.make_function.new.world told turns)) (sym (is.agrees c.bottom.result c.bottom.ensures.made ∙ c.bottom.ensures.meaning));
}
