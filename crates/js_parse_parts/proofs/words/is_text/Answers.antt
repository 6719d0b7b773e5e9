use Rattle.std.proofs.Common.{◌≡◌, rules, tests}
use Rattle.std.specs.Bool.{Decides}
use Rattle.std.proofs.lemmas.Iterator.{YieldsList-from_slice, YieldsList-from_zip, same_from_all}
use Rattle.std.proofs.lemmas.Slice.Eq.{bytes_eq-Decides}
use Rattle.js_parse_parts.proofs.words.is_text.Goals as goal

pub returns-then-units-bytes : goal.returns-then-units-bytes
returns-then-units-bytes c =
    let same : Decides c.all.result (c.args.units.now ≡ c.args.bytes.now) = same_from_all c.all.new.self _ _ _ _ c.all.ensures.ran (YieldsList-from_zip (YieldsList-from_slice c.args.units.now cc) (YieldsList-from_slice c.args.bytes.now cc)) (search rules) (λ x q k. search (rules, tests)) (λ x q k. search (rules, tests)) in
    search (rules, bytes_eq-Decides)
