-- Scopes as the code holds them.
use Rattle.std.specs.Prelude.{ℕ, List, [], ◌∷◌, Bool}
use Rattle.js_faults.specs.declared.scope.Labels.{Labels}
use Rattle.js_faults.specs.declared.scope.Labels as code
use Rattle.js_faults.specs.declared.scope.Scope as held
use Rattle.js_faults.specs.Scopes.{Scope}

-- labels, and whether each names a loop
abbrev pub labels_of : Labels → List (List ℕ × Bool)
labels_of code.None = []
labels_of (code.Label' text names_loop p outer) = (text.now, names_loop) ∷ labels_of outer

abbrev pub scope_of : held.Scope → Scope
scope_of s = record { in_function = s.in_function; in_loop = s.in_loop; in_switch = s.in_switch; labels = labels_of s.labels.now }
