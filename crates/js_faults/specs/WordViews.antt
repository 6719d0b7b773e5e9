-- The words of a directive as the code holds them.
use Rattle.std.specs.Prelude.{ℕ, List, Option, option_map}
use Rattle.js_faults.specs.declared.forms.Words.{Words}

abbrev pub parts_held : Words → List ℕ × (Option (List ℕ) × List ℕ)
parts_held w = (w.what.now, (option_map (λ label. label.now) w.label, w.list.now))
