-- The fields of a property descriptor (ECMA-262 8.10).
use Rattle.std.specs.Prelude.{ℕ, List, [], ◌∷◌, codes, Option, Some, None}
use Rattle.descriptor_pieces.specs.declared.fields.Field.{Field}
use Rattle.descriptor_pieces.specs.declared.fields.Field.TheVariants as field
use Rattle.descriptor_pieces.specs.declared.fields.Half.{Half}
use Rattle.descriptor_pieces.specs.declared.fields.Half.TheVariants as half
use Rattle.descriptor_pieces.specs.declared.fields.Mark.{Mark}
use Rattle.descriptor_pieces.specs.declared.fields.Mark.TheVariants.{Writable, Enumerable, Configurable}

-- the names of the properties that stand for them
abbrev pub mark_name : Mark → List ℕ
mark_name Writable = codes "writable"
mark_name Enumerable = codes "enumerable"
mark_name Configurable = codes "configurable"

abbrev pub half_name : Half → List ℕ
half_name half.Get = codes "get"
half_name half.Set = codes "set"

abbrev pub field_name : Field → List ℕ
field_name (field.Mark m) = mark_name m
field_name field.Value = codes "value"
field_name (field.Half h) = half_name h

-- in the order in which a description is read (8.10.5)
abbrev pub fields_read : List Field
fields_read =
    field.Mark Enumerable ∷ field.Mark Configurable ∷ field.Value ∷ field.Mark Writable ∷ field.Half half.Get ∷ field.Half half.Set ∷ []

abbrev pub next_field : Field → Option Field
next_field (field.Mark Enumerable) = Some (field.Mark Configurable)
next_field (field.Mark Configurable) = Some field.Value
next_field field.Value = Some (field.Mark Writable)
next_field (field.Mark Writable) = Some (field.Half half.Get)
next_field (field.Half half.Get) = Some (field.Half half.Set)
next_field (field.Half half.Set) = None
