use Rattle.object_heap.proofs.HeapReadings.{read_length, read_own_in, read_row_in, read_new}
use Rattle.object_heap.proofs.laws.objects_read.Goals as goal

pub returns-clause-length : goal.returns-clause-length
returns-clause-length g c = λ reading heap. read_length reading heap

pub returns-clause-own : goal.returns-clause-own
returns-clause-own g c = λ reading key heap o. read_own_in reading key heap o

pub returns-clause-row : goal.returns-clause-row
returns-clause-row g c = λ reading n heap o. read_row_in reading n heap o

pub returns-clause-object_more : goal.returns-clause-object_more
returns-clause-object_more g c = λ reading class proto link structure inner heap. read_new reading class proto link structure inner heap
