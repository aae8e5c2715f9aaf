use Rattle.std.proofs.Common.{◌+◌, map, subst}
use Rattle.lift_model.specs.Valid.{most_choices, most_transitions}
use Rattle.line_text.specs.Follow.{Follows}
use Rattle.cert_text.specs.Head.{states_at}
use Rattle.cert_text.specs.Rows.{ReadsRows}
use Rattle.cert_text.proofs.Following.{wanting}
use Rattle.cert_text.proofs.rows.states.Goals as goal

pub returns-in-Ok : goal.returns-in-Ok
returns-in-Ok g c = subst (λ (r : ReadsRows). Follows g.S.Source.left g.S.Source.faults (λ x. map (λ v. v.items) x.items) (states_at r.shape.kind r.shape.states r.shape.parameters r.shape.states r.left.choices r.left.transitions 0) c.args.lines.now c.all_states.new.lines c.args.src.now c.all_states.new.src c.all_states.result) c.in-Ok.ensures c.all_states.ensures

pub returns-in-Err : goal.returns-in-Err
returns-in-Err g c = wanting c.calls_add_up.ensures (states_at c.args.shape.kind c.args.shape.states c.args.shape.parameters c.args.shape.states most_choices most_transitions 0) c.args.lines.now c.args.src.now c.fault.result (c.args.lines.now.given + 1) c.requires.ready c.fault.ensures
