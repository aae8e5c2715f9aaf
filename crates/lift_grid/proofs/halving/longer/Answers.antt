use Rattle.std.proofs.Common.{arith}
use Rattle.lift_grid.specs.Rectangle.{spans_of}
use Rattle.lift_grid.proofs.Axis.{passed_over, kept_axis, bit_unset, bit_set, first_axis, next_axis}
use Rattle.lift_grid.proofs.halving.longer.Goals as goal

pub returns-then-live-parameter-eq0 : goal.returns-then-live-parameter-eq0
returns-then-live-parameter-eq0 c =
    passed_over c.args.parameter c.args.live (spans_of c.args.sides.now) c.args.best c.requires.best (bit_unset c.args.live c.args.parameter c.if-live-parameter-eq0.true)

pub span_length-length-requires : goal.span_length-length-requires
span_length-length-requires c = c.requires.pairs c.args.parameter (bit_set c.args.live c.args.parameter c.if-live-parameter-eq0.false)

pub span_length-longest-requires : goal.span_length-longest-requires
span_length-longest-requires c = c.requires.pairs c.in-Some.axis (let below = rw c.in-Some.is at c.requires.best in below.is_live)

pub returns-in_default : goal.returns-in_default
returns-in_default c =
    first_axis c.args.parameter c.args.live (spans_of c.args.sides.now) (rw c.in_default.is at c.requires.best) (bit_set c.args.live c.args.parameter c.if-live-parameter-eq0.false)

pub returns-then-length-longest : goal.returns-then-length-longest
returns-then-length-longest c =
    kept_axis c.args.parameter c.args.live (spans_of c.args.sides.now) c.in-Some.axis (rw c.in-Some.is at c.requires.best) (omega (arith, c.if-length-longest.true, c.span_length-length.ensures, c.span_length-longest.ensures))

pub returns : goal.returns
returns c =
    next_axis c.args.parameter c.args.live (spans_of c.args.sides.now) c.in-Some.axis (rw c.in-Some.is at c.requires.best) (bit_set c.args.live c.args.parameter c.if-live-parameter-eq0.false) (omega (arith, c.if-length-longest.false, c.span_length-length.ensures, c.span_length-longest.ensures))
