use Rattle.step_core.proofs.resuming.operate.Goals as goal

pub returns-in-Unary-clause-goes_on : goal.returns-in-Unary-clause-goes_on
returns-in-Unary-clause-goes_on g c = rw c.in-Unary.is c.unary_done.ensures.goes_on

pub returns-in-UnaryConverted-clause-goes_on : goal.returns-in-UnaryConverted-clause-goes_on
returns-in-UnaryConverted-clause-goes_on g c = rw c.in-UnaryConverted.is c.unary_converted.ensures.goes_on

pub returns-in-BinaryDone-clause-goes_on : goal.returns-in-BinaryDone-clause-goes_on
returns-in-BinaryDone-clause-goes_on g c = rw c.in-BinaryDone.is c.binary_done.ensures.goes_on

pub returns-in-ConvertedLeft-clause-goes_on : goal.returns-in-ConvertedLeft-clause-goes_on
returns-in-ConvertedLeft-clause-goes_on g c = rw c.in-ConvertedLeft.is c.left_converted.ensures.goes_on

pub returns-in-Operate-clause-goes_on : goal.returns-in-Operate-clause-goes_on
returns-in-Operate-clause-goes_on g c = rw c.in-Operate.is c.operate_converted.ensures.goes_on

pub returns-in-CompoundDone-clause-goes_on : goal.returns-in-CompoundDone-clause-goes_on
returns-in-CompoundDone-clause-goes_on g c = rw c.in-CompoundDone.is c.compound_done.ensures.goes_on

pub returns-in-CountedNumber-clause-goes_on : goal.returns-in-CountedNumber-clause-goes_on
returns-in-CountedNumber-clause-goes_on g c = rw c.in-CountedNumber.is c.counted_number.ensures.goes_on

pub returns-in-LengthTwice-clause-goes_on : goal.returns-in-LengthTwice-clause-goes_on
returns-in-LengthTwice-clause-goes_on g c = rw c.in-LengthTwice.is c.length_twice.ensures.goes_on
