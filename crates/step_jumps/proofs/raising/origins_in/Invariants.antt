use Rattle.std.proofs.Common.{◌≡◌, length}
use Rattle.std.specs.List.{slice_split}
use Rattle.std.specs.Option.{option_map}
use Rattle.flow_lists.specs.Lists.{is_comma}
use Rattle.origin_labels.specs.Label.{label_of}
use Rattle.origin_labels.specs.Stores.{IsKept}
use Rattle.es_meaning.specs.Plain.{origins_of}
use Rattle.step_jumps.proofs.OriginLaws.{text_values, with_left}
use Rattle.step_jumps.proofs.raising.origins_in.Given as goal

abbrev pub invariant-loop-name : goal.invariant-loop-name
invariant-loop-name g l =
    let store = g.L.Labels in
    record {
      made : store.made l.labels l.all;
      names : with_left (store.meaning l.labels l.all) l.origins (slice_split is_comma l.rest) ≡ option_map label_of (origins_of l.origins (text_values (slice_split is_comma l.fn.list)));
      kept : IsKept store.made store.meaning store.room store.firm l.fn.labels l.labels;
    }

abbrev pub decreases-loop-name : goal.decreases-loop-name
decreases-loop-name g l = length l.rest
