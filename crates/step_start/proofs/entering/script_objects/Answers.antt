use Rattle.js_ast.specs.Views.{view_program}
use Rattle.es_meaning.specs.BuiltIns.{built_ins_of}
use Rattle.step_start.proofs.DeclaredLaws.{declares_all, declared_first, refused_first}
use Rattle.step_start.proofs.entering.script_objects.Goals as goal

pub returns-in_ok-in_list-clause-objects : goal.returns-in_ok-in_list-clause-objects
returns-in_ok-in_list-clause-objects g c =
    declared_first (built_ins_of (g.N.Natives.entries c.args.natives.now) (g.N.Natives.begin c.args.natives.now) (g.N.Natives.after c.args.natives.now) (g.N.Natives.asks c.args.natives.now)) (view_program c.args.program.now) c.args.label
    c.in_ok-heap.heap c.declare_functions.new.heap c.in_ok-may_declare.may_declare c.in_ok-heap.ensures.objects (rw c.requires.functions at c.in_ok-may_declare.ensures.enters)
    c.in_list.new.heap c.if-may_declare.true c.in_ok-in_list.ensures.declares

pub returns-in_ok-in_list-clause-may_declare : goal.returns-in_ok-in_list-clause-may_declare
returns-in_ok-in_list-clause-may_declare g c =
    declares_all (built_ins_of (g.N.Natives.entries c.args.natives.now) (g.N.Natives.begin c.args.natives.now) (g.N.Natives.after c.args.natives.now) (g.N.Natives.asks c.args.natives.now)) (view_program c.args.program.now) c.args.label
    c.in_ok-heap.heap c.declare_functions.new.heap c.in_ok-may_declare.may_declare c.in_ok-heap.ensures.objects (rw c.requires.functions at c.in_ok-may_declare.ensures.enters)

pub returns-in_ok-heap-2-clause-objects : goal.returns-in_ok-heap-2-clause-objects
returns-in_ok-heap-2-clause-objects g c =
    refused_first (built_ins_of (g.N.Natives.entries c.args.natives.now) (g.N.Natives.begin c.args.natives.now) (g.N.Natives.after c.args.natives.now) (g.N.Natives.asks c.args.natives.now)) (view_program c.args.program.now) c.args.label
    c.in_ok-heap.heap c.declare_functions.new.heap c.in_ok-may_declare.may_declare c.in_ok-heap.ensures.objects (rw c.requires.functions at c.in_ok-may_declare.ensures.enters)
    c.in_ok-heap-2.heap c.if-may_declare.false c.in_ok-heap-2.ensures.objects

pub returns-in_ok-heap-2-clause-may_declare : goal.returns-in_ok-heap-2-clause-may_declare
returns-in_ok-heap-2-clause-may_declare g c =
    declares_all (built_ins_of (g.N.Natives.entries c.args.natives.now) (g.N.Natives.begin c.args.natives.now) (g.N.Natives.after c.args.natives.now) (g.N.Natives.asks c.args.natives.now)) (view_program c.args.program.now) c.args.label
    c.in_ok-heap.heap c.declare_functions.new.heap c.in_ok-may_declare.may_declare c.in_ok-heap.ensures.objects (rw c.requires.functions at c.in_ok-may_declare.ensures.enters)
