use Rattle.std.proofs.Common.{Some}
use Rattle.js_values.specs.Objects.{number_of}
use Rattle.es_meaning.specs.Holders.{parts_of, led_on}
use Rattle.es_meaning.specs.Start.{global_object}
use Rattle.step_start.proofs.HolderLaws.{way_begins, way_goes_on}
use Rattle.step_start.proofs.holders.holder_of.Goals as goal

pub bytes-init : goal.bytes-init
bytes-init g c = way_begins c.args.heap.now.objects c.as_bytes-byte-items.result.now c.new.result (Some global_object.0) c.new.ensures

pub bytes-preserved : goal.bytes-preserved
bytes-preserved g c =
    way_goes_on c.args.heap.now.objects c.as_bytes-byte-items.result.now (led_on (parts_of c.as_bytes-byte-items.result.now) c.args.heap.now.objects (Some global_object.0)) c.bytes.byte-index _
    (number_of c.bytes.way.holder) _ c.bytes.way.part _ c.bytes-test.true c.in_ok-way.ensures c.bytes.invariant
