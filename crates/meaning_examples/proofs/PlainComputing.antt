-- What has to be unfolded to compute a run without labels.
use Rattle.std.specs.Fmt.{digits}
use Rattle.origin_labels.specs.Label.{has, with_origin, union, label_of, within}
use Rattle.origin_labels.specs.Names.{has_name, place_of}
use Rattle.flow_text.specs.Written.{escaped_unit, escaped}
use Rattle.flow_lists.specs.Lists.{names_in}
use Rattle.js_number.specs.NumericText.{lone_digits, power_of, signed_power, exponent_of, scaled_up, scaled_down, scaled, scaled_where, with_exponent, with_fraction, is_infinity, decimal_of, hexadecimal_of, unsigned_of, number_behind_blanks, number_of_text}
use Rattle.js_values.specs.Numerals.{value_after, index_of}
use Rattle.es_meaning.specs.Operators.{unary_of, binary_of}
use Rattle.es_meaning.specs.Directives.{upgrade_of}
use Rattle.es_meaning.specs.Naming.{names_in_expr, names_in_exprs, names_in_items, names_in_properties, names_in_block, names_in_clauses, names_in_statement, names_in_statements}
use Rattle.es_meaning.specs.Functions.{number_in, function_objects, objects_of, references_of, behind_functions, callee_of, entry_bindings}
use Rattle.es_meaning.specs.Start.{shown}
use Rattle.es_meaning.specs.Holders.{with_entries, built_heap}
use Rattle.es_meaning.specs.Evaluation.{is_name, is_reference, element_or, with_element, discard, give, unary_done, binary_done, has_left, statements, more_statements_behind, compared_left, primitive_left, number_left, has_right, binary_values, unary_value, assign_to, assign_giving, postfix_by, prefix_by, postfix_number, prefix_number, postfix_value, prefix_value, binary_right, and_right, or_right, choose_expr, comma_right, call_with, arguments, more_arguments, call_reference, call_value, construct_value, compound_done, compound_right, read_value, used, with_key, with_base, index_key, index_base, member_base, use_step, items_of, more_items, properties, more_values, instance_done, instance_right, unary_step, binary_step, expr_step, variables, more_variables, turn_test, tested, updated, turned_round, turn_step, loop, looped, looped_value, first_step, still_there, visits, visited, visit_body, target_step, visit_turn, visit_step, with_keys, enumerated, falls, falls_on, case_chosen, case_compared, cases, in_switch, switched, jump_with, behind_expression, choose_stmt, choose_stmts, handled, unhandled, named_step, stmt_step, answered, answered_in, answered_by, got_from, had_by, put_behind, put_in, deleted_from, own_setter_read, own_getter_read, own_value_read, own_marks_read, request_step, native_step, eval, begun, program_step}
use Rattle.es_meaning.specs.Plain.{with_functions, entered_heap, given, seen, throw_error, bound, found_globally, property_of, named, accessed, accessed_for_typeof, assigned, assigned_to, overwritten, put_by, put, setter_or_refused, put_beyond, put_on_primitive, put_property, put_named, put_value, removed_if, removed_own, removed_of_primitive, remove, make_object, make_array, needed, has as plain_has, on_object, define_by, define_given, define_in, defining, ended_at, cut_length, set_length_to, set_length_in, set_length, numbered_by, numbered, make_new, make_new_by, list_keys, bind_to, if_origins, with_list, spend, ended_round, make_function, callee_at, with_call, ended_call, entered, call_target, call, ended_construction, constructed, construct_target, construct, entered_access, converted, given_count, with_count, entered_defining, entered_putting, converted_if, is_instance, instance_of, instance_if, instance, jumps_to, handled_throw, finished, attempt, read_channel, print_text, print_channel, with_origins, act, raised_by, plain_run}

unfoldable pub computed : Unit {0}
unfolding digits has with_origin union label_of within has_name place_of escaped_unit escaped names_in lone_digits power_of signed_power exponent_of scaled_up scaled_down scaled scaled_where with_exponent with_fraction is_infinity decimal_of hexadecimal_of unsigned_of number_behind_blanks number_of_text value_after index_of unary_of binary_of upgrade_of names_in_expr names_in_exprs names_in_items names_in_properties names_in_block names_in_clauses names_in_statement names_in_statements number_in function_objects objects_of references_of behind_functions callee_of entry_bindings shown with_entries built_heap is_name is_reference element_or with_element discard give unary_done binary_done has_left statements more_statements_behind compared_left primitive_left number_left has_right binary_values unary_value assign_to assign_giving postfix_by prefix_by postfix_number prefix_number postfix_value prefix_value binary_right and_right or_right choose_expr comma_right call_with arguments more_arguments call_reference call_value construct_value compound_done compound_right read_value used with_key with_base index_key index_base member_base use_step items_of more_items properties more_values instance_done instance_right unary_step binary_step expr_step variables more_variables turn_test tested updated turned_round turn_step loop looped looped_value first_step still_there visits visited visit_body target_step visit_turn visit_step with_keys enumerated falls falls_on case_chosen case_compared cases in_switch switched jump_with behind_expression choose_stmt choose_stmts handled unhandled named_step stmt_step answered answered_in answered_by got_from had_by put_behind put_in deleted_from own_setter_read own_getter_read own_value_read own_marks_read request_step native_step eval begun program_step with_functions entered_heap given seen throw_error bound found_globally property_of named accessed accessed_for_typeof assigned assigned_to overwritten put_by put setter_or_refused put_beyond put_on_primitive put_property put_named put_value removed_if removed_own removed_of_primitive remove make_object make_array needed plain_has on_object define_by define_given define_in defining ended_at cut_length set_length_to set_length_in set_length numbered_by numbered make_new make_new_by list_keys bind_to if_origins with_list spend ended_round make_function callee_at with_call ended_call entered call_target call ended_construction constructed construct_target construct entered_access converted given_count with_count entered_defining entered_putting converted_if is_instance instance_of instance_if instance jumps_to handled_throw finished attempt read_channel print_text print_channel with_origins act raised_by plain_run
computed = tt
