use Rattle.std.proofs.Common.{◌∙◌}
use Rattle.std.specs.Fmt.{signed_decimal}
use Rattle.js_ast.proofs.KeyLaws.{texts_turned}
use Rattle.js_ast.proofs.keys.compared_from_number.Goals as goal

pub returns : goal.returns
returns c = c.reverse.ensures ∙ texts_turned c.args.text.now (signed_decimal c.args.n) c.compared_to_number.result c.compared_to_number.ensures
