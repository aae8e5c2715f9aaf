use Rattle.std.proofs.Common.{arith, ◌++◌, ℕ, take, length-append, length-take}
use Rattle.std.proofs.KnownBytes.{Consumes-trans}
use Rattle.lift_base.proofs.Reading.{out_of_memory}
use Rattle.lift_base.proofs.input.read_all.Goals as goal

-- the limit is passed by the last read
pub returns-then-count-limit-clause-bytes : goal.returns-then-count-limit-clause-bytes
returns-then-count-limit-clause-bytes g c =
    let read = c.in-Bytes.ensures in
    let all = Consumes-trans _ _ _ _ _ c.loop-bytes.invariant.taken read.1 in
    (c.loop-bytes.bytes.items ++ take c.in-Bytes.count c.read.new.buf, all, omega (arith, length-append {A = ℕ}, length-take {A = ℕ}, c.loop-bytes.bytes.ok.0))

-- the last read was within the limit
pub returns-in_err-extend_from_slice-in-Bytes-clause-bytes : goal.returns-in_err-extend_from_slice-in-Bytes-clause-bytes
returns-in_err-extend_from_slice-in-Bytes-clause-bytes g c =
    let read = c.in-Bytes.ensures in
    let all = Consumes-trans _ _ _ _ _ c.loop-bytes.invariant.taken read.1 in
    out_of_memory g.S.Source.left _ _ _ _ c.from_residual.ensures.1
    (c.loop-bytes.bytes.items ++ take c.in-Bytes.count c.read.new.buf, all, omega (arith, length-append {A = ℕ}, length-take {A = ℕ}, c.loop-bytes.bytes.ok.0))
