use Rattle.std.proofs.Common.{◌≡◌, false, None, Err, rules, ◌∙◌}
use Rattle.drn_read.specs.Parts.{is_empty}
use Rattle.drn_read.specs.States.{named_value}
use Rattle.drn_read.specs.ModelSteps.{IsTransitionFront}
use Rattle.drn_read.specs.Judging.{room_fault}
use Rattle.drn_read.specs.Shown.{rest}
use Rattle.drn_read.proofs.ModelTests.{entry_value_is, front_there}
use Rattle.drn_read.proofs.model_lines.ModelReader.read_transition.Goals as goal

pub returns-in_err-value-clause-fault : goal.returns-in_err-value-clause-fault
returns-in_err-value-clause-fault c =
    let reported : c.from_residual-in_err-value.result ≡ Err c.in_err-value.field-0.0 = search rules in
    let some : is_empty c.args.self.now ≡ false = search rules in
    let front : IsTransitionFront (rest c.args.line) c.in-Some.front = search rules in
    let room : room_fault c.args.self.now c.in-Some.front.target ≡ None = search rules in
    rw reported (λ ne.
    let written : named_value c.args.header.now.names c.args.header.now.placeholders (rest c.in-Some.front.value) ≡ Err c.in_err-value.field-0.0 = search rules in
    front_there c.args.header.now c.args.self.now (rest c.args.line) c.in-Some.front None (Err c.in_err-value.field-0.0) some front room
    (entry_value_is c.args.header.now.names c.args.header.now.placeholders (rest c.args.line) c.in-Some.front front ∙ written))
