-- The keys that parameters and properties are ordered by.
use Rattle.std.specs.Prelude.{ℕ, List}
use Rattle.js_ast.specs.declared.trees.Ident.{Ident}
use Rattle.js_ast.specs.declared.trees.Property.{Property}
use Rattle.js_ast.specs.Keys.{key_text}
use Rattle.js_ast.specs.Views.{view_key}

-- the text of a parameter
abbrev pub text_of : Ident → List ℕ
text_of i = i.text

-- the name that its key gives a property
abbrev pub name_of : Property → List ℕ
name_of p = key_text (view_key p.key)
