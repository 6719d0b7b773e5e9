use Rattle.std.proofs.Common.{sym, ◌∙◌, ap}
use Rattle.all_natives.proofs.TogetherLaws.{entry_in, entries_stand}
use Rattle.all_natives.proofs.natives.AllNativesNatives.entry.Goals as goal

pub returns-in-Channel : goal.returns-in-Channel
unfolding entry_in
returns-in-Channel c = entries_stand c.args.which c.requires ∙ ap entry_in (sym c.in-Channel.ensures.part) ∙ c.entry.ensures

pub returns-in-Object : goal.returns-in-Object
unfolding entry_in
returns-in-Object c = entries_stand c.args.which c.requires ∙ ap entry_in (sym c.in-Object.ensures.part) ∙ c.entry-in-Object.ensures

pub returns-in-Array : goal.returns-in-Array
unfolding entry_in
returns-in-Array c = entries_stand c.args.which c.requires ∙ ap entry_in (sym c.in-Array.ensures.part) ∙ c.entry-in-Array.ensures

pub returns-in-Function : goal.returns-in-Function
unfolding entry_in
returns-in-Function c = entries_stand c.args.which c.requires ∙ ap entry_in (sym c.in-Function.ensures.part) ∙ c.entry-in-Function.ensures

pub returns-in-Text : goal.returns-in-Text
unfolding entry_in
returns-in-Text c = entries_stand c.args.which c.requires ∙ ap entry_in (sym c.in-Text.ensures.part) ∙ c.entry-in-Text.ensures
