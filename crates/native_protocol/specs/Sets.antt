-- Sets of built-ins.
use Rattle.std.specs.Prelude.{ℕ, List}
use Rattle.native_protocol.specs.declared.natives.Form.{Form}

-- a built-in: the holder and name under which it stands, as bytes, its `length`, and its form
pub record SeenEntry : Type 0 where
  pub holder : List ℕ
  pub name : List ℕ
  pub length : ℕ
  pub form : Form

abbrev pub seen_entry : List ℕ → List ℕ → ℕ → Form → SeenEntry
seen_entry holder name size form = record { holder = holder; name = name; length = size; form = form }
