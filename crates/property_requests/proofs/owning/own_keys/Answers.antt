use Rattle.std.proofs.Common.{arith, ◌≡◌, List, length, ap, subst, ◌∙◌}
use Rattle.origin_labels.proofs.StoreLaws.{IsKept-trans}
use Rattle.js_values.specs.Readings.{read_value}
use Rattle.es_meaning.specs.Operations.{Value}
use Rattle.flow_meaning.specs.Tracked.{act, list_keys}
use Rattle.run_state.proofs.ActLaws.{Belongs-later}
use Rattle.property_requests.specs.declared.arrays.Element.{Element}
use Rattle.property_requests.specs.Arrays.{AreKeys}
use Rattle.property_requests.proofs.FindingLaws.{base_is, base_throws}
use Rattle.property_requests.proofs.KeyLaws.{keys_have, keys_listed, list_later}
use Rattle.property_requests.proofs.owning.own_keys.Goals as goal

pub returns-in_default-clause-acts : goal.returns-in_default-clause-acts
unfolding act
returns-in_default-clause-acts g c = λ tables inputs.
    base_throws g.L.Labels.made g.L.Labels.meaning c.throw_error.new.labels c.args.world.now c.args.base.now (λ reading. read_value reading) (λ reading o. list_keys c.args.all (reading c.args.base.now.label) o)
    c.throw_error.new.world c.throw_error.result c.in_default.field-0 c.in_default.is (c.throw_error.ensures.acts Value (λ reading. read_value reading))

pub returns-in_err-list-clause-belongs : goal.returns-in_err-list-clause-belongs
returns-in_err-list-clause-belongs g c = Belongs-later g.L.Labels.made g.L.Labels.meaning g.L.Labels.room g.L.Labels.firm c.args.labels.now c.keys_of.new.labels c.keys_of.ensures.kept g.met.L.Labels.rising c.args.world.now c.requires.belongs

pub returns-in_err-label-clause-belongs : goal.returns-in_err-label-clause-belongs
returns-in_err-label-clause-belongs g c = Belongs-later g.L.Labels.made g.L.Labels.meaning g.L.Labels.room g.L.Labels.firm c.args.labels.now c.join.new.labels (IsKept-trans _ _ _ _ _ _ _ c.in_ok-list.ensures.kept c.join.ensures.kept) g.met.L.Labels.rising c.args.world.now c.requires.belongs

pub returns-in_err-elements-clause-belongs : goal.returns-in_err-elements-clause-belongs
returns-in_err-elements-clause-belongs g c = Belongs-later g.L.Labels.made g.L.Labels.meaning g.L.Labels.room g.L.Labels.firm c.args.labels.now c.join.new.labels (IsKept-trans _ _ _ _ _ _ _ c.in_ok-list.ensures.kept c.in_ok-label.ensures.kept) g.met.L.Labels.rising c.args.world.now c.requires.belongs

pub returns-in_err-count-clause-belongs : goal.returns-in_err-count-clause-belongs
returns-in_err-count-clause-belongs g c = Belongs-later g.L.Labels.made g.L.Labels.meaning g.L.Labels.room g.L.Labels.firm c.args.labels.now c.join.new.labels (IsKept-trans _ _ _ _ _ _ _ c.in_ok-list.ensures.kept c.in_ok-label.ensures.kept) g.met.L.Labels.rising c.args.world.now c.requires.belongs

pub make_array-requires-clause-belongs : goal.make_array-requires-clause-belongs
make_array-requires-clause-belongs g c = Belongs-later g.L.Labels.made g.L.Labels.meaning g.L.Labels.room g.L.Labels.firm c.args.labels.now c.join.new.labels (IsKept-trans _ _ _ _ _ _ _ c.in_ok-list.ensures.kept c.in_ok-label.ensures.kept) g.met.L.Labels.rising c.args.world.now c.requires.belongs

pub make_array-requires-clause-elements : goal.make_array-requires-clause-elements
make_array-requires-clause-elements g c =
    let counted : c.in_ok-count.count ≡ length c.in_ok-elements.elements.items = c.in_ok-count.ensures ∙ ap (λ (es : List (Element g.row.T.Denot)). length es) c.deref.ensures.value in
    keys_have g.L.Labels.made g.L.Labels.meaning c.join.new.labels 0 c.in_ok-count.count c.items.result.now c.in_ok-elements.elements.items c.in_ok-elements.ensures (omega (arith, counted))

pub returns-clause-acts : goal.returns-clause-acts
unfolding act
returns-clause-acts g c = λ tables inputs.
    base_is g.L.Labels.made g.L.Labels.meaning c.make_array.new.labels c.args.world.now c.args.base.now (λ reading. read_value reading) (λ reading o. list_keys c.args.all (reading c.args.base.now.label) o) c.make_array.new.world _ c.in-Object.o c.in-Object.is
    (keys_listed g.L.Labels.made g.L.Labels.meaning g.L.Labels.room g.L.Labels.firm c.join.new.labels c.make_array.new.labels c.in_ok-array.ensures.kept c.args.world.now c.make_array.new.world tables inputs c.in-Object.o c.args.all c.args.base.now.label c.in_ok-label.label c.in_ok-list.list c.in_ok-elements.elements.items c.in_ok-count.count c.in_ok-array.array
    (list_later g.L.Labels.made g.L.Labels.meaning g.L.Labels.room g.L.Labels.firm c.keys_of.new.labels c.join.new.labels c.in_ok-label.ensures.kept c.args.world.now.heap c.in-Object.o.0 c.args.all c.in_ok-list.list c.in_ok-list.ensures.keys) c.in_ok-label.ensures.means
    (subst (λ keys. AreKeys g.L.Labels.made g.L.Labels.meaning c.join.new.labels keys c.in_ok-elements.elements.items) c.items.ensures c.in_ok-elements.ensures) (c.in_ok-count.ensures ∙ ap (λ (es : List (Element g.row.T.Denot)). length es) c.deref.ensures.value)
    (c.in_ok-array.ensures.acts tables inputs))

pub returns-clause-kept : goal.returns-clause-kept
returns-clause-kept g c = IsKept-trans _ _ _ _ _ _ _ c.in_ok-list.ensures.kept (IsKept-trans _ _ _ _ _ _ _ c.in_ok-label.ensures.kept c.make_array.ensures.kept)
