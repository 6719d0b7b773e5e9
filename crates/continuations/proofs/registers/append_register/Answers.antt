use Rattle.continuations.proofs.RegisterLaws.{appended_writes, appended_has}
use Rattle.continuations.proofs.registers.append_register.Goals as goal

pub returns-clause-written : goal.returns-clause-written
returns-clause-written g c =
    appended_writes g.L.Labels.made g.L.Labels.meaning c.args.labels.now c.args.stack.now.loose c.lay_undefined.new.stack.loose c.lay.new.self.loose c.args.at c.args.count c.bottom-none.result c.args.value
    c.in_ok-lay_undefined.ensures.laid c.in_ok-lay.ensures.laid c.requires.loose c.requires.behind c.bottom-none.ensures.made c.bottom-none.ensures.meaning

pub returns-clause-made : goal.returns-clause-made
returns-clause-made g c =
    appended_has g.L.Labels.made g.L.Labels.meaning c.args.labels.now c.args.stack.now.loose c.lay_undefined.new.stack.loose c.lay.new.self.loose c.args.at c.args.count c.bottom-none.result c.args.value
    c.in_ok-lay_undefined.ensures.laid c.in_ok-lay.ensures.laid c.requires.made c.bottom-none.ensures.made c.requires.value
