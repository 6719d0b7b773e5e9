use Rattle.std.proofs.Common.{◌≡◌, ◌%◌, rules, arith}
use Rattle.std.specs.Char.{digit_char}
use Rattle.js_number.proofs.RadixLaws.{last_digit, next_digit}
use Rattle.js_number.proofs.radix.+push_digits.Goals as goal

pub returns-then-n-radix : goal.returns-then-n-radix
returns-then-n-radix t c =
    let digit : c.digit_char.result ≡ digit_char c.args.n = first_of (search rules, grind arith) in
    last_digit c.args.radix c.args.n c.digit_char.result c.args.text.now c.push.new.self c.push.result c.requires.0 c.if-n-radix.true digit c.push.ensures.ok

pub returns : goal.returns
returns t c =
    let digit : c.digit_char-2.result ≡ digit_char (c.args.n % c.args.radix) = first_of (search rules, grind arith) in
    next_digit c.args.radix c.args.n c.digit_char-2.result c.args.text.now c.push_digits.new.text c.push-2.new.self c.push-2.result c.requires.0 c.if-n-radix.false digit c.in_ok-push_digits.ensures c.push-2.ensures.ok
