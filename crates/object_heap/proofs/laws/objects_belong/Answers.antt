use Rattle.js_values.proofs.ReadingLaws.{HasHeap-kept}
use Rattle.object_heap.proofs.HeapReadings.{HasHeap-new}
use Rattle.object_heap.proofs.laws.objects_belong.Goals as goal

pub returns-clause-later : goal.returns-clause-later
returns-clause-later g c = λ old new heap kept has. HasHeap-kept g.L.Labels.made g.L.Labels.meaning g.L.Labels.room g.L.Labels.firm old new kept heap has

pub returns-clause-object_more : goal.returns-clause-object_more
returns-clause-object_more g c = λ store class proto link structure inner heap ml ms mi has. HasHeap-new (g.L.Labels.made store) class proto link structure inner heap ml ms mi has
