-- What a line that asks is at, and where an answer leads.
use Rattle.std.specs.Prelude.{if◌then◌else◌}
use Rattle.js_number.specs.declared.num.Num.{Num}
use Rattle.js_number.specs.declared.primitive.Primitive.TheVariants as prims
use Rattle.native_protocol.specs.declared.number_of.NumberOf.{NumberOf}
use Rattle.native_protocol.specs.declared.progress.Progress.{Progress}
use Rattle.native_protocol.specs.declared.progress.Progress.TheVariants.{Going, Ready}
use Rattle.native_protocol.specs.declared.request.Answer.{Answer}
use Rattle.native_protocol.specs.declared.request.Answer.TheVariants as answer
use Rattle.native_protocol.specs.declared.request.Request.{Request}
use Rattle.native_protocol.specs.declared.request.Seen.{Seen}
use Rattle.native_protocol.specs.declared.request.Seen.TheVariants.{Prim, Object}
use Rattle.native_protocol.specs.declared.text_of.HeldText.{HeldText}
use Rattle.native_protocol.specs.declared.text_of.TextOf.{TextOf}
use Rattle.native_protocol.specs.Pieces.{text_begin, text_asks, text_after, number_begin, number_asks, number_after}
use Rattle.native_protocol.specs.Steps.{seen_in}
use Rattle.native_programs.specs.declared.line.Ask.{Ask}
use Rattle.native_programs.specs.declared.line.Ask.TheVariants as asking
use Rattle.native_programs.specs.declared.line.Counter.{Counter}
use Rattle.native_programs.specs.declared.line.End.{End}
use Rattle.native_programs.specs.declared.line.End.TheVariants as end
use Rattle.native_programs.specs.declared.line.Exit.{Exit}
use Rattle.native_programs.specs.declared.line.Exit.TheVariants as exit
use Rattle.native_programs.specs.declared.line.Place.{Place}
use Rattle.native_programs.specs.declared.line.Place.TheVariants as place
use Rattle.native_programs.specs.declared.line.Reason.TheVariants as reason
use Rattle.native_programs.specs.declared.line.Sight.{Sight}
use Rattle.native_programs.specs.declared.line.TextSlot.{TextSlot}
use Rattle.native_programs.specs.declared.line.Whole.{Whole}
use Rattle.native_programs.specs.declared.stage.Outcome.{Outcome}
use Rattle.native_programs.specs.declared.stage.Outcome.TheVariants.{Next, Exits, Waits}
use Rattle.native_programs.specs.declared.stage.Stage.{Stage}
use Rattle.native_programs.specs.declared.stage.Stage.TheVariants as stage
use Rattle.native_programs.specs.declared.values.Values.{Values}
use Rattle.native_programs.specs.Asking.{asks, reg_of, free_reg, type_error}
use Rattle.native_programs.specs.Choosing.{sees, whole_of}
use Rattle.native_programs.specs.Values.{with_counter, with_text, with_held, with_number, with_seen}

abbrev pub stage_asks : Stage → Values → Request
stage_asks (stage.Asking a) v = asks a v
stage_asks (stage.Text t to) v = text_asks t
stage_asks (stage.Number n to how) v = number_asks n

abbrev pub looked : Sight → Exit → Values → Seen → Outcome
looked s e v seen = if sees s seen then Next (with_seen seen v) else Exits e (with_seen seen v)

abbrev pub object_seen : Seen → Values → Outcome
object_seen (Object c) v = Next v
object_seen (Prim prims.Undefined) v = Exits type_error v
object_seen (Prim prims.Null) v = Exits type_error v
object_seen (Prim p) v = Exits (exit.Ends (end.Leave reason.Wrapper)) v

abbrev pub kept_as : TextSlot → HeldText → Values → Values
kept_as to h v = with_held h.at (with_text to h.text v)

abbrev pub text_goes : TextSlot → Values → Progress TextOf HeldText → Outcome
text_goes to v (Going t) = Waits (stage.Text t to) v
text_goes to v (Ready h) = Next (kept_as to h v)

abbrev pub text_of_place : Place → Values → TextOf
text_of_place at v = text_begin (reg_of v at) (free_reg v.argc 0) (free_reg v.argc 1)

abbrev pub text_seen : Place → Sight → TextSlot → Exit → Values → Seen → Outcome
text_seen at s to e v seen = if sees s seen then text_goes to v (text_after (text_of_place at v) (answer.Seen seen)) else Exits e v

abbrev pub counted_as : Counter → Whole → Num → Values → Values
counted_as to how n v = with_number n (with_counter to (whole_of how n) v)

abbrev pub number_goes : Counter → Whole → Values → Progress NumberOf Num → Outcome
number_goes to how v (Going n) = Waits (stage.Number n to how) v
number_goes to how v (Ready n) = Next (counted_as to how n v)

abbrev pub number_of_place : Place → Values → NumberOf
number_of_place at v = number_begin (reg_of v at) (free_reg v.argc 0) (free_reg v.argc 1)

abbrev pub number_seen : Place → Sight → Counter → Whole → Exit → Values → Seen → Outcome
number_seen at s to how e v seen = if sees s seen then number_goes to how v (number_after (number_of_place at v) (answer.Seen seen)) else Exits e v

abbrev pub end_after : End → End
end_after (end.Return p) = end.Return p
end_after (end.Give f) = end.Return (place.Free 2)
end_after (end.Throw kind) = end.Throw kind
end_after (end.Leave r) = end.Leave r

abbrev pub asked_after : Ask → Values → Answer → Outcome
asked_after (asking.ToObject at) v a = object_seen (seen_in a) v
asked_after (asking.Look at s e) v a = looked s e v (seen_in a)
asked_after (asking.Text at s to e) v a = text_seen at s to e v (seen_in a)
asked_after (asking.Number at s to how e) v a = number_seen at s to how e v (seen_in a)
asked_after (asking.Ends e) v a = Waits (stage.Asking (asking.Ends (end_after e))) v
asked_after act v a = Next v

abbrev pub stage_after : Stage → Values → Answer → Outcome
stage_after (stage.Asking a) v x = asked_after a v x
stage_after (stage.Text t to) v x = text_goes to v (text_after t x)
stage_after (stage.Number n to how) v x = number_goes to how v (number_after n x)
