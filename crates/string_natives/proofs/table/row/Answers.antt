use Rattle.std.proofs.Common.{refl, sym}
use Rattle.std.proofs.lemmas.Option.{get_or_from_slice_get}
use Rattle.native_protocol.specs.Sets.{seen_entry}
use Rattle.native_programs.specs.Tables.{none}
use Rattle.string_natives.specs.declared.table.BuiltIn.TheVariants as built_in
use Rattle.string_natives.specs.Dispatch.{built_ins, entry_at, built_in_at}
use Rattle.string_natives.specs.Table.{entries}
use Rattle.string_natives.proofs.TableLaws.{table_read}
use Rattle.string_natives.proofs.table.row.Goals as goal

pub returns-clause-stands : goal.returns-clause-stands
unfolding entries
returns-clause-stands c = table_read c.row_at.ensures (λ r. seen_entry r.0.now r.1.now r.2 r.3) entries refl

pub returns-clause-entry : goal.returns-clause-entry
unfolding entries entry_at
returns-clause-entry c =
    sym (get_or_from_slice_get entries c.args.which _ none (table_read c.row_at.ensures (λ r. seen_entry r.0.now r.1.now r.2 r.3) entries refl))

pub returns-clause-built_in : goal.returns-clause-built_in
unfolding built_in_at
returns-clause-built_in c =
    sym (get_or_from_slice_get built_ins c.args.which _ built_in.LeftOut (table_read c.row_at.ensures (λ r. r.4) built_ins refl))
