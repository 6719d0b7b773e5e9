-- The texts of keys.
use Rattle.std.specs.Prelude.{ℕ, List}
use Rattle.property_access.specs.declared.members.KeyText.{KeyText}
use Rattle.property_access.specs.declared.members.KeyText.TheVariants.{Held, Made}

abbrev pub text_held : KeyText → List ℕ
text_held (Held text) = text.now
text_held (Made text) = text
