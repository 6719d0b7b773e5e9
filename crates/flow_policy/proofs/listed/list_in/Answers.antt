use Rattle.std.proofs.lemmas.Result.{err_from_is_err_and}
use Rattle.flow_policy.proofs.ListedLaws.{list_form, list_fails, list_done}
use Rattle.flow_policy.proofs.listed.list_in.Goals as goal

pub returns-then-not-are_names : goal.returns-then-not-are_names
returns-then-not-are_names c = record {
  list = list_form c.args.origins.now c.args.list.now (cc c.if-not-are_names.ensures);
}

pub returns-in_err-numbers : goal.returns-in_err-numbers
returns-in_err-numbers c =
    let p = err_from_is_err_and c.from_residual.result c.from_residual.ensures.1 in
    record {
      list = rw (p.1, p.2) (list_fails c.in_err-numbers.field-0.0 c.args.origins.now c.args.list.now (cc c.if-not-are_names.ensures) c.in_err-numbers.ensures.numbers);
    }

pub returns : goal.returns
returns c = record {
  list = list_done c.args.origins.now c.args.list.now c.in_ok-numbers.numbers.items c.in_ok-label_of.field-0 (cc c.if-not-are_names.ensures)
      c.in_ok-numbers.ensures.numbers.0 c.in_ok-numbers.ensures.numbers.1 (rw (← c.deref.ensures.value) c.in_ok-label_of.ensures);
}
