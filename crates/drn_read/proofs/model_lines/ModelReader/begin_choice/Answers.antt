use Rattle.std.proofs.Common.{◌≡◌, [], ◌∷◌, Option, Some, Err, rules, ap}
use Rattle.drn_read.specs.Faults.{first_of}
use Rattle.drn_read.specs.Judging.{name_and_group_fault, choice_fault}
use Rattle.drn_read.specs.Shown.{left}
use Rattle.drn_read.specs.declared.error.DrnCause.{DrnCause}
use Rattle.drn_read.proofs.model_lines.ModelReader.begin_choice.Goals as goal

pub returns-in_err-test_choice-clause-fault : goal.returns-in_err-test_choice-clause-fault
returns-in_err-test_choice-clause-fault c =
    let reported : c.from_residual.result ≡ Err c.in_err-test_choice.field-0.0 = search rules in
    let fault : choice_fault c.args.header.now.kind c.args.self.now ≡ Some c.in_err-test_choice.field-0.0 = search rules in
    rw reported (λ ne. ap (λ (o : Option DrnCause). first_of (o ∷ name_and_group_fault (left c.args.words) ∷ [])) fault)
