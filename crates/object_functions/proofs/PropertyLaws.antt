-- The machine of `getOwnPropertyDescriptor` and `defineProperty` takes their steps.
use Rattle.std.proofs.Common.{◌≡◌, ℕ, List, [], ◌∷◌, refl, ◌∙◌}
use Rattle.native_protocol.proofs.PieceLaws.{text_is}
use Rattle.native_protocol.specs.Pieces.{text_after, text_rest}
use Rattle.native_protocol.specs.Running.{carried_on}
use Rattle.native_protocol.specs.Steps.{seen_in}
use Rattle.native_protocol.specs.declared.progress.Progress.TheVariants.{Going, Ready}
use Rattle.native_protocol.specs.declared.progress.Progress.{Progress}
use Rattle.native_protocol.specs.declared.registers.Reg.{Reg}
use Rattle.native_protocol.specs.declared.request.Answer.{Answer}
use Rattle.native_protocol.specs.declared.text_of.HeldText.{HeldText}
use Rattle.native_protocol.specs.declared.text_of.TextOf.{TextOf}
use Rattle.object_functions.proofs.NeedsLaws.{object_needed}
use Rattle.object_functions.specs.Properties.{returns, defined_and_returned}
use Rattle.object_functions.specs.PropertyMachine.{property_at, property_begin, property_asks_in, property_asks, second_begin, name_read, told_or_on, description_read, property_after_in, property_after, held_rest, property_rest_in, property_rest, property_clause}
use Rattle.object_functions.specs.declared.property.PropertyFunction.TheVariants as function
use Rattle.object_functions.specs.declared.property.PropertyFunction.{PropertyFunction}
use Rattle.object_functions.specs.declared.property.PropertyStage.TheVariants as stage
use Rattle.object_functions.specs.declared.property.PropertyStage.{PropertyStage}
use Rattle.object_functions.specs.declared.registers.Registers.{Registers}
use Rattle.primitive_natives.specs.Machines.{until_end, IsMachine}
use Rattle.descriptor_pieces.proofs.DescriptorLaws.{descriptor_is}
use Rattle.descriptor_pieces.proofs.TellingLaws.{telling_is}
use Rattle.descriptor_pieces.specs.DescriptorPieces.{descriptor_after, descriptor_rest}
use Rattle.descriptor_pieces.specs.TellingPieces.{telling_after, telling_rest}
use Rattle.descriptor_pieces.specs.declared.from_descriptor.FromDescriptor.{FromDescriptor}
use Rattle.descriptor_pieces.specs.declared.property.Description.{Description}
use Rattle.descriptor_pieces.specs.declared.to_descriptor.ToDescriptor.{ToDescriptor}

first_asked : (r : Registers) (s : PropertyStage) → property_rest_in r s [] ≡ property_asks_in r s
first_asked r (stage.LookObject f) = refl
first_asked r (stage.Name f name) = text_is.first name (held_rest f r)
first_asked r (stage.Own name) = refl
first_asked r (stage.Tell telling) = telling_is.first telling returns
first_asked r (stage.Read name reading) = descriptor_is.first reading (defined_and_returned name)
first_asked r (stage.Define name d) = refl

name_joins : (f : PropertyFunction) (r : Registers) (p : Progress TextOf HeldText) (answers : List Answer) → carried_on text_rest p (held_rest f r) answers ≡ property_rest_in r (name_read f p r) answers
name_joins f r (Going name) answers = refl
name_joins function.GetOwnPropertyDescriptor r (Ready held) answers = refl
name_joins function.DefineProperty r (Ready held) answers = refl

told_joins : (r : Registers) (p : Progress FromDescriptor Reg) (answers : List Answer) → carried_on telling_rest p returns answers ≡ until_end property_rest (told_or_on r p) answers
told_joins r (Going telling) answers = refl
told_joins r (Ready at) answers = refl

read_joins : (r : Registers) (name : List ℕ) (p : Progress ToDescriptor Description) (answers : List Answer) → carried_on descriptor_rest p (defined_and_returned name) answers ≡ property_rest_in r (description_read name p) answers
read_joins r name (Going reading) answers = refl
read_joins r name (Ready d) answers = refl

others_asked : (r : Registers) (s : PropertyStage) (a : Answer) (answers : List Answer) → property_rest_in r s (a ∷ answers) ≡ until_end property_rest (property_after_in r s a) answers
others_asked r (stage.LookObject f) a answers = object_needed property_rest (seen_in a) (property_at r (stage.Name f (second_begin r))) answers
others_asked r (stage.Name f name) a answers = text_is.others name (held_rest f r) a answers ∙ name_joins f r (text_after name a) answers
others_asked r (stage.Own name) a answers = refl
others_asked r (stage.Tell telling) a answers = telling_is.others telling returns a answers ∙ told_joins r (telling_after telling a) answers
others_asked r (stage.Read name reading) a answers = descriptor_is.others reading (defined_and_returned name) a answers ∙ read_joins r name (descriptor_after reading a) answers
others_asked r (stage.Define name d) a answers = refl

pub property_machine : IsMachine property_asks property_after property_rest
property_machine = record { first = λ c. first_asked c.registers c.stage; others = λ c a answers. others_asked c.registers c.stage a answers }

pub property_begins : (f : PropertyFunction) (argc : ℕ) (answers : List Answer) → property_rest (property_begin f argc) answers ≡ property_clause f argc answers
property_begins function.GetOwnPropertyDescriptor argc answers = refl
property_begins function.DefineProperty argc answers = refl
