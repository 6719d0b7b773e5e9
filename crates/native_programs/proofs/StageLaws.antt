-- What a line is at takes the steps of the line.
use Rattle.std.proofs.Common.{◌≡◌, Bool, true, false, List, [], ◌∷◌, if◌then◌else◌, refl, ◌∙◌}
use Rattle.js_number.specs.declared.num.Num.{Num}
use Rattle.js_number.specs.declared.primitive.Primitive.TheVariants as prims
use Rattle.native_protocol.proofs.PieceLaws.{text_is, number_is}
use Rattle.native_protocol.specs.declared.number_of.NumberOf.{NumberOf}
use Rattle.native_protocol.specs.declared.progress.Progress.{Progress}
use Rattle.native_protocol.specs.declared.progress.Progress.TheVariants.{Going, Ready}
use Rattle.native_protocol.specs.declared.request.Answer.{Answer}
use Rattle.native_protocol.specs.declared.request.Answer.TheVariants as answer
use Rattle.native_protocol.specs.declared.request.Seen.{Seen}
use Rattle.native_protocol.specs.declared.request.Seen.TheVariants.{Prim, Object}
use Rattle.native_protocol.specs.declared.text_of.HeldText.{HeldText}
use Rattle.native_protocol.specs.declared.text_of.TextOf.{TextOf}
use Rattle.native_protocol.specs.Pieces.{text_rest, text_after, number_rest, number_after}
use Rattle.native_protocol.specs.Running.{carried_on}
use Rattle.native_protocol.specs.Steps.{Steps, seen_in}
use Rattle.native_programs.specs.declared.line.Ask.{Ask}
use Rattle.native_programs.specs.declared.line.Ask.TheVariants as asking
use Rattle.native_programs.specs.declared.line.Counter.{Counter}
use Rattle.native_programs.specs.declared.line.End.TheVariants as end
use Rattle.native_programs.specs.declared.line.Exit.{Exit}
use Rattle.native_programs.specs.declared.line.Exit.TheVariants as exit
use Rattle.native_programs.specs.declared.line.Reason.TheVariants as reason
use Rattle.native_programs.specs.declared.line.TextSlot.{TextSlot}
use Rattle.native_programs.specs.declared.line.Whole.{Whole}
use Rattle.native_programs.specs.declared.stage.Outcome.{Outcome}
use Rattle.native_programs.specs.declared.stage.Outcome.TheVariants.{Next, Exits, Waits}
use Rattle.native_programs.specs.declared.stage.Stage.{Stage}
use Rattle.native_programs.specs.declared.stage.Stage.TheVariants as stage
use Rattle.native_programs.specs.declared.values.Values.{Values}
use Rattle.native_programs.specs.Choosing.{sees, whole_of}
use Rattle.native_programs.specs.Meaning.{object_or, text_of_seen, number_of_seen, asked}
use Rattle.native_programs.specs.Stages.{stage_asks, stage_after, object_seen, text_goes, number_goes, kept_as, text_of_place, number_of_place}
use Rattle.native_programs.specs.Values.{with_counter, with_text, with_held, with_number, with_seen}
use Rattle.native_programs.specs.Asking.{reg_of, free_reg, type_error}

-- which steps are still to take of a line
abbrev pub stage_rest : Stage → Values → (Values → Steps) → (Exit → Values → Steps) → Steps
stage_rest (stage.Asking a) v next out = asked a v next out
stage_rest (stage.Text t to) v next out = text_rest t (λ h. next (kept_as to h v))
stage_rest (stage.Number n to how) v next out = number_rest n (λ z. next (with_number z (with_counter to (whole_of how z) v)))

abbrev pub outcome_rest : Outcome → (Values → Steps) → (Exit → Values → Steps) → Steps
outcome_rest (Next v) next out = next v
outcome_rest (Exits e v) next out = out e v
outcome_rest (Waits s v) next out = stage_rest s v next out

first_asked : (a : Ask) (v : Values) (next : Values → Steps) (out : Exit → Values → Steps) → asked a v next out [] ≡ stage_asks (stage.Asking a) v
first_asked (asking.Ends (end.Return p)) v next out = refl
first_asked (asking.Ends (end.Give f)) v next out = refl
first_asked (asking.Ends (end.Throw k)) v next out = refl
first_asked (asking.Ends (end.Leave r)) v next out = refl
first_asked other v next out = refl

pub stage_first : (s : Stage) (v : Values) (next : Values → Steps) (out : Exit → Values → Steps) → stage_rest s v next out [] ≡ stage_asks s v
stage_first (stage.Asking a) v next out = first_asked a v next out
stage_first (stage.Text t to) v next out = text_is.first t (λ h. next (kept_as to h v))
stage_first (stage.Number n to how) v next out = number_is.first n (λ z. next (with_number z (with_counter to (whole_of how z) v)))

object_joins : (s : Seen) (v : Values) (next : Values → Steps) (out : Exit → Values → Steps) (answers : List Answer) → object_or s (next v) (out type_error v) (out (exit.Ends (end.Leave reason.Wrapper)) v) answers ≡ outcome_rest (object_seen s v) next out answers
object_joins (Object c) v next out answers = refl
object_joins (Prim prims.Undefined) v next out answers = refl
object_joins (Prim prims.Null) v next out answers = refl
object_joins (Prim (prims.Bool b)) v next out answers = refl
object_joins (Prim (prims.Num n)) v next out answers = refl
object_joins (Prim (prims.Str t)) v next out answers = refl

saw_joins : (saw : Bool) (e : Exit) (v : Values) (next : Values → Steps) (out : Exit → Values → Steps) (answers : List Answer) (steps : Steps) (o : Outcome) → steps answers ≡ outcome_rest o next out answers → (if saw then steps else out e v) answers ≡ outcome_rest (if saw then o else Exits e v) next out answers
saw_joins true e v next out answers steps o h = h
saw_joins false e v next out answers steps o h = refl

text_joins : (to : TextSlot) (v : Values) (p : Progress TextOf HeldText) (next : Values → Steps) (out : Exit → Values → Steps) (answers : List Answer) → carried_on text_rest p (λ h. next (kept_as to h v)) answers ≡ outcome_rest (text_goes to v p) next out answers
text_joins to v (Going t) next out answers = refl
text_joins to v (Ready h) next out answers = refl

number_joins : (to : Counter) (how : Whole) (v : Values) (p : Progress NumberOf Num) (next : Values → Steps) (out : Exit → Values → Steps) (answers : List Answer) → carried_on number_rest p (λ z. next (with_number z (with_counter to (whole_of how z) v))) answers ≡ outcome_rest (number_goes to how v p) next out answers
number_joins to how v (Going n) next out answers = refl
number_joins to how v (Ready z) next out answers = refl

text_others : (t : TextOf) (to : TextSlot) (v : Values) (next : Values → Steps) (out : Exit → Values → Steps) (a : Answer) (answers : List Answer) → text_rest t (λ h. next (kept_as to h v)) (a ∷ answers) ≡ outcome_rest (text_goes to v (text_after t a)) next out answers
text_others t to v next out a answers = text_is.others t (λ h. next (kept_as to h v)) a answers ∙ text_joins to v (text_after t a) next out answers

number_others : (n : NumberOf) (to : Counter) (how : Whole) (v : Values) (next : Values → Steps) (out : Exit → Values → Steps) (a : Answer) (answers : List Answer) → number_rest n (λ z. next (with_number z (with_counter to (whole_of how z) v))) (a ∷ answers) ≡ outcome_rest (number_goes to how v (number_after n a)) next out answers
number_others n to how v next out a answers = number_is.others n (λ z. next (with_number z (with_counter to (whole_of how z) v))) a answers ∙ number_joins to how v (number_after n a) next out answers

asked_others : (q : Ask) (v : Values) (next : Values → Steps) (out : Exit → Values → Steps) (a : Answer) (answers : List Answer) → asked q v next out (a ∷ answers) ≡ outcome_rest (stage_after (stage.Asking q) v a) next out answers
asked_others (asking.ToObject at) v next out a answers = object_joins (seen_in a) v next out answers
asked_others (asking.Look at s e) v next out a answers = saw_joins (sees s (seen_in a)) e (with_seen (seen_in a) v) next out answers (next (with_seen (seen_in a) v)) (Next (with_seen (seen_in a) v)) refl
asked_others (asking.Text at s to e) v next out a answers =
    saw_joins (sees s (seen_in a)) e v next out answers (text_of_seen (seen_in a) (reg_of v at) (free_reg v.argc 0) (free_reg v.argc 1) (λ text r. next (with_held r (with_text to text v)))) (text_goes to v (text_after (text_of_place at v) (answer.Seen (seen_in a))))
    (text_others (text_of_place at v) to v next out (answer.Seen (seen_in a)) answers)
asked_others (asking.Number at s to how e) v next out a answers =
    saw_joins (sees s (seen_in a)) e v next out answers (number_of_seen (seen_in a) (reg_of v at) (free_reg v.argc 0) (free_reg v.argc 1) (λ n. next (with_number n (with_counter to (whole_of how n) v)))) (number_goes to how v (number_after (number_of_place at v) (answer.Seen (seen_in a))))
    (number_others (number_of_place at v) to how v next out (answer.Seen (seen_in a)) answers)
asked_others (asking.Ends (end.Return p)) v next out a answers = refl
asked_others (asking.Ends (end.Give f)) v next out a answers = refl
asked_others (asking.Ends (end.Throw k)) v next out a answers = refl
asked_others (asking.Ends (end.Leave r)) v next out a answers = refl
asked_others other v next out a answers = refl

pub stage_others : (s : Stage) (v : Values) (next : Values → Steps) (out : Exit → Values → Steps) (a : Answer) (answers : List Answer) → stage_rest s v next out (a ∷ answers) ≡ outcome_rest (stage_after s v a) next out answers
stage_others (stage.Asking q) v next out a answers = asked_others q v next out a answers
stage_others (stage.Text t to) v next out a answers = text_others t to v next out a answers
stage_others (stage.Number n to how) v next out a answers = number_others n to how v next out a answers
