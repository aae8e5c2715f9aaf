use Rattle.std.proofs.Common.{◌<◌, ◌∷◌, length, sym, ap, arith}
use Rattle.std.specs.List.{flat_map}
use Rattle.std.specs.Fmt.{decimal}
use Prim.Native.Char.{code}
use Rattle.cert_text.proofs.Lines.{goal_state, other_state}
use Rattle.cert_text.proofs.model.write_goal_states.Goals as goal
use Rattle.cert_text.proofs.model.write_goal_states.Goals.{then-is_goal+in_ok-write_state, else-is_goal}

pub returns-in_err-write_state : goal.returns-in_err-write_state
returns-in_err-write_state g c =
    let inside : c.loop-s.s < length c.args.model.now.goal = omega arith in
    c.writes_in_turn.ensures.stops _ _ _ _ _ _ _ _ _ c.from_residual.ensures.0 c.loop-s.invariant (ap (flat_map (λ s. code " " ∷ decimal s)) (goal_state _ _ _ inside (sym c.if-is_goal.ensures))) c.in_err-write_state.ensures

pub loop-s-preserved : goal.loop-s-preserved
loop-s-preserved g c =
    let inside : c.loop-s.s < length c.args.model.now.goal = omega arith in
    elim c.if-is_goal.branch [
      | then-is_goal+in_ok-write_state w ↦ rw w.out-is (c.writes_in_turn.ensures.next _ _ _ _ _ _ _ c.loop-s.invariant (ap (flat_map (λ s. code " " ∷ decimal s)) (goal_state _ _ _ inside (sym w.if-is_goal.ensures))) w.in_ok-write_state.ensures)
      | else-is_goal w ↦ rw (w.out-is, ← other_state _ _ _ inside (sym w.if-is_goal.ensures)) c.loop-s.invariant
    ]
