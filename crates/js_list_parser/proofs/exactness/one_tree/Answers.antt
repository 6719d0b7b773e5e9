use Rattle.js_list_parser.proofs.Complete.{one_tree}
use Rattle.js_list_parser.proofs.exactness.one_tree.Goals as goal

pub returns : goal.returns
returns c = one_tree
