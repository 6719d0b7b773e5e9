use Rattle.std.proofs.Common.{◌+◌, arith}
use Rattle.script_maker.proofs.Lines.{begins, goes_on, ends}
use Rattle.script_maker.proofs.MadeLaws.{made_is_short, made_is_ascii}
use Rattle.script_maker.proofs.making.make.Goals as goal

pub loop-k-init : goal.loop-k-init
loop-k-init c = begins _ c.args.number c.in_ok-bytes.ensures.items

pub loop-k-preserved : goal.loop-k-preserved
loop-k-preserved c = goes_on _ _ _ c.loop-k.k (c.args.number + 1) (omega arith) c.in_ok-push_call.ensures c.loop-k.invariant

pub returns-clause-bytes : goal.returns-clause-bytes
returns-clause-bytes c = ends _ _ c.args.number c.loop-k.k (omega arith) c.in_ok-extend_from_slice.ensures.items c.loop-k.invariant

pub returns-clause-short : goal.returns-clause-short
returns-clause-short c =
    rw (ends _ _ c.args.number c.loop-k.k (omega arith) c.in_ok-extend_from_slice.ensures.items c.loop-k.invariant) (made_is_short c.args.number c.requires.most)

pub returns-clause-ascii : goal.returns-clause-ascii
returns-clause-ascii c =
    rw (ends _ _ c.args.number c.loop-k.k (omega arith) c.in_ok-extend_from_slice.ensures.items c.loop-k.invariant) (made_is_ascii c.args.number c.requires.most)
