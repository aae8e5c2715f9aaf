use Rattle.std.proofs.Common.{append-nil, length}
use Rattle.std.specs.Fmt.{decimal}
use Rattle.cert_text.specs.Report.{goal_states}
use Rattle.cert_text.proofs.Lines.{line-words}
use Rattle.cert_text.proofs.model.write_goal.Goals as goal

pub returns-in_err-write_words : goal.returns-in_err-write_words
returns-in_err-write_words g c =
    let first = rw (append-nil, c.from.ensures, c.goal_count-count.ensures) at c.in_err-write_words.ensures in
    rw (line-words decimal (decimal (length (goal_states 0 c.args.model.now.goal)))) (c.writes_in_turn.ensures.stopped _ _ _ _ _ _ c.from_residual.ensures.0 first)

pub returns-in_err-write_goal_states : goal.returns-in_err-write_goal_states
returns-in_err-write_goal_states g c =
    let first = rw (append-nil, c.from.ensures, c.goal_count-count.ensures) at c.in_ok-write_words.ensures in
    rw (line-words decimal (decimal (length (goal_states 0 c.args.model.now.goal)))) (c.writes_in_turn.ensures.both _ _ _ _ _ _ first (c.writes_in_turn.ensures.stopped _ _ _ _ _ _ c.from_residual-in_err-write_goal_states.ensures.0 c.in_err-write_goal_states.ensures))

pub returns : goal.returns
returns g c =
    let first = rw (append-nil, c.from.ensures, c.goal_count-count.ensures) at c.in_ok-write_words.ensures in
    rw (line-words decimal (decimal (length (goal_states 0 c.args.model.now.goal)))) (c.writes_in_turn.ensures.both _ _ _ _ _ _ first (c.writes_in_turn.ensures.both _ _ _ _ _ _ c.in_ok-write_goal_states.ensures c.write_all.ensures.wrote))
