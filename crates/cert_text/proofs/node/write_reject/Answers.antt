use Rattle.std.proofs.Common.{refl}
use Rattle.cert_text.proofs.Lines.{reject_parts}
use Rattle.cert_text.proofs.node.write_reject.Goals as goal

pub returns-in_err-write_rate : goal.returns-in_err-write_rate
returns-in_err-write_rate g c =
    rw (reject_parts _ _ _ _ _ _ _ refl) (c.writes_in_turn.ensures.stopped _ _ _ _ _ _ c.from_residual.ensures.0 c.in_err-write_rate.ensures)

pub returns-in_err-write_numbers : goal.returns-in_err-write_numbers
returns-in_err-write_numbers g c =
    rw (reject_parts _ _ _ _ _ _ _ refl) (c.writes_in_turn.ensures.both _ _ _ _ _ _ c.in_ok-write_rate.ensures (c.writes_in_turn.ensures.stopped _ _ _ _ _ _ c.from_residual-in_err-write_numbers.ensures.0 c.in_err-write_numbers.ensures))

pub returns-in_err-write_mark_line : goal.returns-in_err-write_mark_line
returns-in_err-write_mark_line g c =
    rw (reject_parts _ _ _ _ _ _ _ refl)
    (c.writes_in_turn.ensures.both _ _ _ _ _ _ c.in_ok-write_rate.ensures (c.writes_in_turn.ensures.both _ _ _ _ _ _ c.in_ok-write_numbers.ensures (c.writes_in_turn.ensures.stopped _ _ _ _ _ _ c.from_residual-in_err-write_mark_line.ensures.0 c.in_err-write_mark_line.ensures)))

pub returns : goal.returns
returns g c =
    rw (reject_parts _ _ _ _ _ _ _ refl)
    (c.writes_in_turn.ensures.both _ _ _ _ _ _ c.in_ok-write_rate.ensures (c.writes_in_turn.ensures.both _ _ _ _ _ _ c.in_ok-write_numbers.ensures (c.writes_in_turn.ensures.both _ _ _ _ _ _ c.in_ok-write_mark_line.ensures c.write_mark_line-2.ensures)))
