-- What has to be unfolded to compute a run with labels.
use lib.Utf8.{encode}
use Rattle.std.specs.Char.Utf16.{utf16_chars}
use Rattle.meaning_examples.proofs.PlainComputing.{computed}
use Rattle.flow_text.specs.Utf8.{units_of, text_of_utf8, utf8_of}
use Rattle.flow_frames.specs.Frames.{context}
use Rattle.flow_frames.specs.Changes.{changed_at}
use Rattle.flow_meaning.specs.Scopes.{guard, raise, jump_to, jump, raise_frame, quiet, popped, stay, react, resume, finish}
use Rattle.flow_meaning.specs.Tracked.{throw_error, given, seen, bound, found_globally, property_of, named, accessed, accessed_for_typeof, assigned, assigned_to, acted, setter_found, setter_at, overwritten, put_by, put, setter_if, put_beyond, put_on_primitive, put_property, put_named, put_value, removed_if, removed_own, removed_in, removed_of_primitive, remove_property, remove, make_object, make_array, needed, has_of_primitive, has, with_list, spend, on_object_in, own_property_in, set_marks, set_body_if, redefine, define_over, define_by, define_given, define_in, defining, delete_element, deleted_if, deleted_at, deleted_within, ended_at, cut_length, set_length_to, set_length_in, set_length, numbered_by, numbered, prototype_in, extensible_in, prevent, make_new, make_new_by, list_keys, bind_object, bind_value, bind_to, if_origins, raise_structure, raise_existence, make_function, callee_at, with_call, entered, call_by, call_aimed, call_value, constructed, construct_built_in, construct_by, construct_aimed, construct_value, entered_access, convert, converted_by, converted_for_length, given_count, with_count, entered_defining, entered_putting, is_instance, instance_by, instance_of, instance_if, instance_value, jumps_to, raises, read_channel, print_text, print_channel, with_origins, act, raised_by, tracked_run}
use Rattle.flow_meaning.specs.Written.{line_bytes, lines_bytes, list_bytes, halt_bytes, ending_bytes, report, written}

unfoldable pub labelled_computed : Unit {0}
unfolding computed encode utf16_chars units_of text_of_utf8 utf8_of context changed_at guard raise jump_to jump raise_frame quiet popped stay react resume finish throw_error given seen bound found_globally property_of named accessed accessed_for_typeof assigned assigned_to acted setter_found setter_at overwritten put_by put setter_if put_beyond put_on_primitive put_property put_named put_value removed_if removed_own removed_in removed_of_primitive remove_property remove make_object make_array needed has_of_primitive has with_list spend on_object_in own_property_in set_marks set_body_if redefine define_over define_by define_given define_in defining delete_element deleted_if deleted_at deleted_within ended_at cut_length set_length_to set_length_in set_length numbered_by numbered prototype_in extensible_in prevent make_new make_new_by list_keys bind_object bind_value bind_to if_origins raise_structure raise_existence make_function callee_at with_call entered call_by call_aimed call_value constructed construct_built_in construct_by construct_aimed construct_value entered_access convert converted_by converted_for_length given_count with_count entered_defining entered_putting is_instance instance_by instance_of instance_if instance_value jumps_to raises read_channel print_text print_channel with_origins act raised_by tracked_run line_bytes lines_bytes list_bytes halt_bytes ending_bytes report written
labelled_computed = tt
