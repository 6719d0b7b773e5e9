-- What a token makes of the expression before it, in the code.
use Rattle.js_list_parser.specs.Reading as reading
use Rattle.js_list_parser.specs.Reading.{by_member, by_index, by_call, by_postfix, by_binary, by_conditional, by_assign, by_comma, by_nothing}
use Rattle.js_parse_parts.specs.declared.suffixes.Suffix.{Suffix}
use Rattle.js_parse_parts.specs.declared.suffixes.Suffix.TheVariants as suffix

-- as the parser on lists has it
abbrev pub view_suffix : Suffix → reading.Suffix
view_suffix suffix.Member = by_member
view_suffix suffix.Index = by_index
view_suffix suffix.Call = by_call
view_suffix (suffix.Postfix o) = by_postfix o
view_suffix (suffix.Binary o) = by_binary o
view_suffix suffix.Conditional = by_conditional
view_suffix (suffix.Assign o) = by_assign o
view_suffix suffix.Comma = by_comma
view_suffix suffix.Nothing = by_nothing
