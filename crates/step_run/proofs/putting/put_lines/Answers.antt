use Rattle.std.proofs.Common.{arith, length, ap, subst, ◌<◌, ◌∙◌}
use Rattle.std.specs.Borrow.{Bor}
use Rattle.origin_labels.proofs.StoreLaws.{IsKept-refl, IsKept-trans}
use Rattle.flow_policy.specs.Policies.{Tables}
use Rattle.es_meaning.specs.BuiltIns.{built_ins_of}
use Rattle.step_run.specs.declared.putting.Cut.TheVariants as cut
use Rattle.step_run.proofs.PutLaws.{begun, goes_on, ended, cut_off, line_put, line_cut, prints_by}
use Rattle.step_run.proofs.putting.put_lines.Goals as goal

pub steps-init : goal.steps-init
steps-init g c =
    let N = g.N.Natives in
    let set = built_ins_of (N.entries c.args.natives.now) (N.begin c.args.natives.now) (N.after c.args.natives.now) (N.asks c.args.natives.now) in
    record {
      so_far = begun set (N.after c.args.natives.now) (N.asks c.args.natives.now) g.L.Labels.made g.L.Labels.meaning c.args.show.now c.args.policy.now c.args.machine.now c.args.labels.now (g.K.Sink.taken c.args.sink.now);
      runs = c.requires.runs;
      policy = c.requires.policy;
      kept = IsKept-refl g.L.Labels.made g.L.Labels.meaning g.L.Labels.room g.L.Labels.firm c.args.labels.now;
      open_sink = c.requires.open;
      faults = omega arith;
    }

pub returns-in_default-clause-puts : goal.returns-in_default-clause-puts
returns-in_default-clause-puts g c =
    let L = g.L.Labels in
    let N = g.N.Natives in
    let set = built_ins_of (N.entries c.args.natives.now) (N.begin c.args.natives.now) (N.after c.args.natives.now) (N.asks c.args.natives.now) in
    let tells = N.after c.args.natives.now in
    let asks = N.asks c.args.natives.now in
    cut_off set tells asks L.made L.meaning c.args.show.now c.args.policy.now c.args.machine.now L.room L.firm (c.only_adds.ensures set tells asks) c.steps.labels c.advance.new.labels c.advance.ensures.kept c.steps.machine c.advance.new.self
    (g.K.Sink.taken c.args.sink.now) (g.K.Sink.taken c.steps.sink) c.steps.invariant.so_far cut.OutOfMemory

pub steps-preserved-in-Goes : goal.steps-preserved-in-Goes
steps-preserved-in-Goes g c =
    let L = g.L.Labels in
    let N = g.N.Natives in
    let set = built_ins_of (N.entries c.args.natives.now) (N.begin c.args.natives.now) (N.after c.args.natives.now) (N.asks c.args.natives.now) in
    let tells = N.after c.args.natives.now in
    let asks = N.asks c.args.natives.now in
    record {
      so_far = goes_on set tells asks L.made L.meaning c.args.show.now c.args.policy.now c.args.machine.now L.room L.firm (c.only_adds.ensures set tells asks) c.steps.labels c.advance.new.labels c.advance.ensures.kept c.steps.machine c.advance.new.self
          (g.K.Sink.taken c.args.sink.now) (g.K.Sink.taken c.steps.sink) c.steps.invariant.so_far (rw c.in-Goes.is at c.in-Ok.ensures.comes);
      runs = rw c.in-Goes.is at c.in-Ok.ensures.runs;
      policy = ap (λ (p : Bor Tables). p.now) c.advance.ensures.moved.policy ∙ c.steps.invariant.policy;
      kept = IsKept-trans L.made L.meaning L.room L.firm c.args.labels.now c.steps.labels c.advance.new.labels c.steps.invariant.kept c.advance.ensures.kept;
      open_sink = c.steps.invariant.open_sink;
      faults = c.steps.invariant.faults;
    }

pub put_line-requires-clause-channel : goal.put_line-requires-clause-channel
put_line-requires-clause-channel g c =
    rw c.deref.ensures (subst (λ (t : Tables). c.in-Line.printed.value.channel < length t.outputs) c.steps.invariant.policy (rw c.in-Line.is at c.in-Ok.ensures.printed).channel)

pub steps-preserved : goal.steps-preserved
steps-preserved g c =
    let L = g.L.Labels in
    let N = g.N.Natives in
    let set = built_ins_of (N.entries c.args.natives.now) (N.begin c.args.natives.now) (N.after c.args.natives.now) (N.asks c.args.natives.now) in
    let tells = N.after c.args.natives.now in
    let asks = N.asks c.args.natives.now in
    let policy = ap (λ (p : Bor Tables). p.now) c.advance.ensures.moved.policy ∙ c.steps.invariant.policy in
    record {
      so_far = line_put set tells asks L.made L.meaning c.args.show.now c.args.policy.now c.args.machine.now L.room L.firm (c.only_adds.ensures set tells asks) c.steps.labels c.advance.new.labels c.advance.ensures.kept c.steps.machine c.advance.new.self
          (g.K.Sink.taken c.args.sink.now) (g.K.Sink.taken c.steps.sink) c.steps.invariant.so_far c.in-Line.printed.value
          (prints_by set tells asks L.made L.meaning c.advance.new.labels c.args.policy.now c.steps.machine c.advance.new.self c.in-Line.printed.value policy (rw c.in-Line.is at c.in-Ok.ensures.comes))
          (g.K.Sink.taken c.put_line.new.sink) (rw c.deref.ensures at c.in-Ok-put_line.ensures.puts);
      runs = rw c.in-Line.is at c.in-Ok.ensures.runs;
      policy = policy;
      kept = IsKept-trans L.made L.meaning L.room L.firm c.args.labels.now c.steps.labels c.advance.new.labels c.steps.invariant.kept c.advance.ensures.kept;
      open_sink = c.in-Ok-put_line.ensures.shut;
      faults = omega (arith, c.steps.invariant.faults, c.put_line.ensures.faults_stay);
    }

pub returns-in-Err-clause-puts : goal.returns-in-Err-clause-puts
returns-in-Err-clause-puts g c =
    let L = g.L.Labels in
    let N = g.N.Natives in
    let set = built_ins_of (N.entries c.args.natives.now) (N.begin c.args.natives.now) (N.after c.args.natives.now) (N.asks c.args.natives.now) in
    let tells = N.after c.args.natives.now in
    let asks = N.asks c.args.natives.now in
    let policy = ap (λ (p : Bor Tables). p.now) c.advance.ensures.moved.policy ∙ c.steps.invariant.policy in
    line_cut set tells asks L.made L.meaning c.args.show.now c.args.policy.now c.args.machine.now L.room L.firm (c.only_adds.ensures set tells asks) c.steps.labels c.advance.new.labels c.advance.ensures.kept c.steps.machine c.advance.new.self
    (g.K.Sink.taken c.args.sink.now) (g.K.Sink.taken c.steps.sink) c.steps.invariant.so_far c.in-Line.printed.value
    (prints_by set tells asks L.made L.meaning c.advance.new.labels c.args.policy.now c.steps.machine c.advance.new.self c.in-Line.printed.value policy (rw c.in-Line.is at c.in-Ok.ensures.comes))
    c.in-Err.cut (g.K.Sink.taken c.put_line.new.sink) (rw c.deref.ensures at c.in-Err.ensures.puts)

pub returns-in-Ends-clause-puts : goal.returns-in-Ends-clause-puts
returns-in-Ends-clause-puts g c =
    let L = g.L.Labels in
    let N = g.N.Natives in
    let set = built_ins_of (N.entries c.args.natives.now) (N.begin c.args.natives.now) (N.after c.args.natives.now) (N.asks c.args.natives.now) in
    let tells = N.after c.args.natives.now in
    let asks = N.asks c.args.natives.now in
    ended set tells asks L.made L.meaning c.args.show.now c.args.policy.now c.args.machine.now L.room L.firm (c.only_adds.ensures set tells asks) c.steps.labels c.advance.new.labels c.advance.ensures.kept c.steps.machine c.advance.new.self
    (g.K.Sink.taken c.args.sink.now) (g.K.Sink.taken c.steps.sink) c.steps.invariant.so_far c.in-Ends.ending (rw c.in-Ends.is at c.in-Ok.ensures.comes)
