use Rattle.std.proofs.Common.{◌≡◌, ◌++◌, List, ℕ, ap, ◌∙◌, Vec}
use Rattle.flow_text.specs.Utf8.{utf8_of}
use Rattle.js_shell.proofs.ReportLoops.{names_go_on, names_begin}
use Rattle.js_shell.proofs.report.joined_names.Goals as goal
use Rattle.js_shell.proofs.report.joined_names.Goals.{then-i-gt0+in_ok-push, else-i-gt0}

pub loop-i-preserved : goal.loop-i-preserved
loop-i-preserved c =
    let added : c.extend_from_slice.new.self.items ≡ c.if-i-gt0.bytes.items ++ utf8_of c.name.result.now = c.in_ok-extend_from_slice.ensures.items ∙ ap (λ (l : List ℕ). c.if-i-gt0.bytes.items ++ l) (c.deref.ensures.value ∙ c.in_ok-to_utf8.ensures.spelling) in
    elim c.if-i-gt0.branch [
      | then-i-gt0+in_ok-push w ↦ added ∙ ap (λ (l : List ℕ). l ++ utf8_of c.name.result.now) (ap (λ (v : Vec ℕ _). v.items) w.bytes-is ∙ w.in_ok-push.ensures.items)
          ∙ names_go_on c.args.origins.now c.args.label.now c.loop-i.i c.loop-i.bytes.items c.name.result.now w.if-i-gt0.true c.loop-i-test.true c.loop-i.invariant c.name.ensures
      | else-i-gt0 w ↦ added ∙ ap (λ (l : List ℕ). l ++ utf8_of c.name.result.now) (ap (λ (v : Vec ℕ _). v.items) w.bytes-is)
          ∙ names_begin c.args.origins.now c.args.label.now c.loop-i.i c.loop-i.bytes.items c.name.result.now w.if-i-gt0.false c.loop-i-test.true c.loop-i.invariant c.name.ensures
    ]
