use Rattle.std.proofs.Common.{refl, sym, ap, subst, ◌∙◌, [], ◌∷◌, ◌+◌, ◌≡◌, map, length, arith, Ok}
use Rattle.std.proofs.Common.{rules}
use Rattle.std.specs.List.{All}
use Rattle.std.proofs.lemmas.List.{length-append}
use Rattle.std.proofs.lemmas.List.Elements.{All-append}
use Rattle.origin_labels.proofs.StoreLaws.{IsKept-refl, IsKept-trans}
use Rattle.js_values.specs.Readings.{HasValue, read_value}
use Rattle.run_state.proofs.ActLaws.{Grows-refl, Grows-trans}
use Rattle.continuations.specs.declared.objects.Part.TheVariants as part
use Rattle.continuations.specs.Literals.{IsPart, literal_act}
use Rattle.step_references.proofs.Begun.{begun_as}
use Rattle.step_references.proofs.Loose.{made_later, only}
use Rattle.step_references.proofs.Moved.{moved_on}
use Rattle.step_literals.proofs.LiteralLaws.{builds_from, made_first, made_more}
use Rattle.step_literals.proofs.objects.object.Goals as goal

pub along-init : goal.along-init
along-init g c = record { loose = c.requires.loose; tasks = refl; has = c.requires.made; frames = refl; belongs = c.requires.belongs; grows = Grows-refl c.args.world.now; kept = IsKept-refl g.L.Labels.made g.L.Labels.meaning g.L.Labels.room g.L.Labels.firm c.args.labels.now; makes = made_first c.args.labels.now c.args.list.now c.args.count c.args.stack.now.loose c.args.world.now }

pub make_part-requires : goal.make_part-requires
make_part-requires g c = c.along.invariant.belongs

pub returns-in_err-make_part-in-Function-clause-grows : goal.returns-in_err-make_part-in-Function-clause-grows
returns-in_err-make_part-in-Function-clause-grows g c = Grows-trans _ _ _ c.along.invariant.grows c.make_part.ensures.grows

pub returns-in_err-make_part-in-Function-clause-kept : goal.returns-in_err-make_part-in-Function-clause-kept
returns-in_err-make_part-in-Function-clause-kept g c = IsKept-trans _ _ _ _ _ _ _ c.along.invariant.kept c.make_part.ensures.kept

pub begin_value-requires-clause-loose : goal.begin_value-requires-clause-loose
begin_value-requires-clause-loose g c = c.along.invariant.loose

pub begin_value-requires-clause-made : goal.begin_value-requires-clause-made
begin_value-requires-clause-made g c = c.along.invariant.has

pub returns-in_err-next-in-Value-clause-belongs : goal.returns-in_err-next-in-Value-clause-belongs
returns-in_err-next-in-Value-clause-belongs g c = c.along.invariant.belongs

pub returns-in_err-next-in-Value-clause-grows : goal.returns-in_err-next-in-Value-clause-grows
returns-in_err-next-in-Value-clause-grows g c = c.along.invariant.grows

pub returns-in_err-next-in-Value-clause-kept : goal.returns-in_err-next-in-Value-clause-kept
returns-in_err-next-in-Value-clause-kept g c = c.along.invariant.kept

pub returns-in-Value-clause-goes_on : goal.returns-in-Value-clause-goes_on
returns-in-Value-clause-goes_on g c = builds_from g.L.Labels.room g.L.Labels.firm c.along.labels c.args.count c.along.done (IsKept-refl g.L.Labels.made g.L.Labels.meaning g.L.Labels.room g.L.Labels.firm c.along.labels) c.along.invariant.tasks c.along.invariant.makes c.in_ok-next-in-Value.ensures.goes_on

pub returns-in-Value-clause-moved : goal.returns-in-Value-clause-moved
returns-in-Value-clause-moved g c = moved_on _ _ _ _ _ _ _ _ _ (Ok c.in_ok-next-in-Value.next) (omega arith) c.along.invariant.tasks c.along.invariant.frames c.in_ok-next-in-Value.ensures.moved

pub returns-in-Value-clause-belongs : goal.returns-in-Value-clause-belongs
returns-in-Value-clause-belongs g c = c.along.invariant.belongs

pub returns-in-Value-clause-grows : goal.returns-in-Value-clause-grows
returns-in-Value-clause-grows g c = c.along.invariant.grows

pub returns-in-Value-clause-kept : goal.returns-in-Value-clause-kept
returns-in-Value-clause-kept g c = c.along.invariant.kept

pub build-requires-clause-loose : goal.build-requires-clause-loose
build-requires-clause-loose g c = c.along.invariant.loose

pub build-requires-clause-made : goal.build-requires-clause-made
build-requires-clause-made g c = c.along.invariant.has

pub build-requires-clause-belongs : goal.build-requires-clause-belongs
build-requires-clause-belongs g c = c.along.invariant.belongs

pub returns-in-None-clause-goes_on : goal.returns-in-None-clause-goes_on
returns-in-None-clause-goes_on g c =
    let none : IsPart part.None c.args.list.now c.along.done = rw c.in-None.is at c.part_at.ensures in
    builds_from g.L.Labels.room g.L.Labels.firm c.along.labels c.args.count c.along.done c.build.ensures.kept c.along.invariant.tasks c.along.invariant.makes (begun_as c.build.ensures.goes_on refl (λ tables inputs set functions reading f s is. sym (none tables inputs set functions (literal_act c.args.list.now) (map (read_value reading) c.along.stack.loose) f.env.place s)))

pub returns-in-None-clause-moved : goal.returns-in-None-clause-moved
returns-in-None-clause-moved g c = moved_on _ _ _ _ _ _ _ _ _ c.build.result (omega arith) c.along.invariant.tasks c.along.invariant.frames c.build.ensures.moved

pub returns-in-None-clause-grows : goal.returns-in-None-clause-grows
returns-in-None-clause-grows g c = Grows-trans _ _ _ c.along.invariant.grows c.build.ensures.grows

pub returns-in-None-clause-kept : goal.returns-in-None-clause-kept
returns-in-None-clause-kept g c = IsKept-trans _ _ _ _ _ _ _ c.along.invariant.kept c.build.ensures.kept

pub returns-in_default-clause-grows : goal.returns-in_default-clause-grows
returns-in_default-clause-grows g c = Grows-trans _ _ _ c.along.invariant.grows c.make_part.ensures.grows

pub returns-in_default-clause-kept : goal.returns-in_default-clause-kept
returns-in_default-clause-kept g c = IsKept-trans _ _ _ _ _ _ _ c.along.invariant.kept c.make_part.ensures.kept

pub returns-clause-belongs : goal.returns-clause-belongs
returns-clause-belongs g c = c.along.invariant.belongs

pub returns-clause-grows : goal.returns-clause-grows
returns-clause-grows g c = c.along.invariant.grows

pub returns-clause-kept : goal.returns-clause-kept
returns-clause-kept g c = c.along.invariant.kept

pub along-preserved : goal.along-preserved
along-preserved g c =
    let made = g.L.Labels.made c.make_part.new.labels in
    let laid = c.in_ok-make_part-in-Function.ensures.laid in
    let function : IsPart (part.Function c.in-Function.f) c.args.list.now c.along.done = rw c.in-Function.is at c.part_at.ensures in
    let next : c.in-Some.more ≡ c.along.done + 1 = search rules in
    let size = length-append c.along.stack.loose (laid.value ∷ []) in
    let longer = ap length laid.loose in
    let before = c.along.invariant.loose in
    record {
      loose = omega (arith, size, longer, before, next);
      tasks = laid.tasks ∙ c.along.invariant.tasks;
      has = subst (All (HasValue made)) (sym laid.loose) (All-append (HasValue made) c.along.stack.loose (laid.value ∷ []) (made_later g.L.Labels.made g.L.Labels.meaning g.L.Labels.room g.L.Labels.firm c.along.labels c.make_part.new.labels c.make_part.ensures.kept c.along.stack.loose c.along.invariant.has) (only (HasValue made) laid.value laid.has));
      frames = laid.frames ∙ c.along.invariant.frames;
      belongs = c.make_part.ensures.belongs;
      grows = Grows-trans _ _ _ c.along.invariant.grows c.make_part.ensures.grows;
      kept = IsKept-trans _ _ _ _ _ _ _ c.along.invariant.kept c.make_part.ensures.kept;
      makes = rw next (made_more g.L.Labels.room g.L.Labels.firm c.along.labels c.make_part.new.labels c.args.list.now c.args.count c.along.done c.in-Function.f c.args.stack.now.loose c.along.stack c.make_part.new.stack c.args.world.now c.along.world c.make_part.new.world c.make_part.ensures.kept function laid c.along.invariant.makes);
    }
