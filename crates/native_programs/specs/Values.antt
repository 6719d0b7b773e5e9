-- What a call keeps.
use Rattle.std.specs.Prelude.{ℕ, Bool, List, [], Some, None, ℤ, pos}
use Rattle.js_number.specs.declared.num.Num.{Num}
use Rattle.js_number.specs.declared.primitive.Primitive.TheVariants as prims
use Rattle.native_protocol.specs.declared.registers.Reg.{Reg}
use Rattle.native_protocol.specs.declared.request.Seen.{Seen}
use Rattle.native_protocol.specs.declared.request.Seen.TheVariants.{Prim}
use Rattle.native_programs.specs.declared.line.Counter.{Counter}
use Rattle.native_programs.specs.declared.line.Counter.TheVariants as counter
use Rattle.native_programs.specs.declared.line.TextSlot.{TextSlot}
use Rattle.native_programs.specs.declared.line.TextSlot.TheVariants as slot
use Rattle.native_programs.specs.declared.values.Values.{Values}

abbrev pub values_begin : ℕ → Bool → Values
values_begin argc construct = record {
  argc = argc;
  construct = construct;
  length = pos 0;
  index = pos 0;
  first = pos 0;
  last = pos 0;
  count = pos 0;
  items = pos 0;
  subject = [];
  sought = [];
  result = [];
  piece = [];
  held = None;
  number = None;
  seen = Prim prims.Undefined;
}

abbrev pub counter_in : Values → Counter → ℤ
counter_in v counter.Length = v.length
counter_in v counter.Index = v.index
counter_in v counter.First = v.first
counter_in v counter.Last = v.last
counter_in v counter.Count = v.count
counter_in v counter.Items = v.items

abbrev pub with_counter : Counter → ℤ → Values → Values
with_counter counter.Length n v = record v { length = n }
with_counter counter.Index n v = record v { index = n }
with_counter counter.First n v = record v { first = n }
with_counter counter.Last n v = record v { last = n }
with_counter counter.Count n v = record v { count = n }
with_counter counter.Items n v = record v { items = n }

abbrev pub text_kept : Values → TextSlot → List ℕ
text_kept v slot.Subject = v.subject
text_kept v slot.Sought = v.sought
text_kept v slot.Result = v.result
text_kept v slot.Piece = v.piece

abbrev pub with_text : TextSlot → List ℕ → Values → Values
with_text slot.Subject text v = record v { subject = text }
with_text slot.Sought text v = record v { sought = text }
with_text slot.Result text v = record v { result = text }
with_text slot.Piece text v = record v { piece = text }

-- what a turn of a loop keeps for itself is forgotten
abbrev pub cleared : Values → Values
cleared v = record v { piece = []; held = None; number = None; seen = Prim prims.Undefined }

-- the register of the text that was converted last, the number that was, and what the last look saw
abbrev pub with_held : Reg → Values → Values
with_held r v = record v { held = Some r }

abbrev pub with_number : Num → Values → Values
with_number n v = record v { number = Some n }

abbrev pub with_seen : Seen → Values → Values
with_seen s v = record v { seen = s }
