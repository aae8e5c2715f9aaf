use Rattle.check_notes.proofs.Pieces.{node_parts}
use Rattle.check_notes.proofs.unsound.write_node_miss.Goals as goal

pub returns-in_err-write_words : goal.returns-in_err-write_words
returns-in_err-write_words g c =
    rw (node_parts c.args.node c.args.miss) (c.writes_in_turn.ensures.stopped _ _ _ _ _ _ c.from_residual.ensures.0 (rw c.from.ensures at c.in_err-write_words.ensures))

pub returns : goal.returns
returns g c =
    rw (node_parts c.args.node c.args.miss) (c.writes_in_turn.ensures.both _ _ _ _ _ _ (rw c.from.ensures at c.in_ok-write_words.ensures) c.write_miss.ensures)
