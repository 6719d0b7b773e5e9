use Rattle.std.proofs.Common.{drop}
use Rattle.js_ast.specs.Views.{view_idents}
use Rattle.call_records.specs.Planned.{parameter_names}
use Rattle.call_records.proofs.NameLaws.{Leads}
use Rattle.call_records.proofs.placing.place_parameters.Given as goal

abbrev pub invariant-params : goal.invariant-params
invariant-params l = Leads (parameter_names (view_idents (drop l.param-index l.params))) (parameter_names (view_idents l.params)) l.layout l.initial.layout l.places.items l.initial.places.items
