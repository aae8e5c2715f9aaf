use Rattle.std.proofs.Common.{rules, ◌≡◌, List, ℕ, Ok, Err}
use Rattle.line_text.specs.Follow.{place}
use Rattle.cert_text.specs.Head.{head_at}
use Rattle.cert_check.specs.Answer.{FileEnds}
use Rattle.cert_check.specs.Shown.{reported}
use Rattle.cert_check.specs.declared.file.Checked.{Checked}
use Rattle.cert_check.proofs.Walking.{begin, tail, unchecked, unread}
use Rattle.cert_check.proofs.Steps.{head_given, head_not_read, head_read}
use Rattle.cert_check.proofs.file.check_file.Goals as goal

pub returns-in_err-head-clause-end : goal.returns-in_err-head-clause-end
returns-in_err-head-clause-end g c =
    let adds = c.calls_add_up.ensures in
    let a = c.args.walk.now.lines in
    let e = c.in_err-head.field-0.0 in
    let is : c.from_residual.result ≡ Err (reported e) = search rules in
    unread adds (λ (_ : List ℕ) (x : Checked). x.leaves) (begin adds (λ later. FileEnds (head_at (place a later))) a c.args.src.now) (head_not_read a) e c.from_residual.result is c.in_err-head.ensures

pub check_head-requires-clause-clean : goal.check_head-requires-clause-clean
check_head-requires-clause-clean g c = c.in_ok-head.ensures.ran.left_with

pub check_head-requires-clause-lines : goal.check_head-requires-clause-lines
check_head-requires-clause-lines g c = head_given c.heads_are_read.ensures.reported c.in_ok-head.ensures

pub returns-in_err-leaves-clause-end : goal.returns-in_err-leaves-clause-end
returns-in_err-leaves-clause-end g c =
    let adds = c.calls_add_up.ensures in
    let e = c.in_err-leaves.field-0.0 in
    let is : c.from_residual-in_err-leaves.result ≡ Err e = search rules in
    unchecked adds (head_read adds c.in_ok-head.ensures) (λ (_ : List ℕ) (x : Checked). x.leaves) e c.from_residual-in_err-leaves.result is (λ l ends. ends) c.in_err-leaves.ensures.end

pub returns-clause-end : goal.returns-clause-end
returns-clause-end g c =
    let adds = c.calls_add_up.ensures in
    let f = c.in_ok-leaves.ensures.end in
    tail adds (Ok _) (head_read adds c.in_ok-head.ensures) (record { bytes = f.bytes; ran = f.ran; agrees = f.agrees })

pub returns-clause-head : goal.returns-clause-head
returns-clause-head g c = record { lines = _; after = _; read = c.in_ok-head.ensures; limit = c.given-head_lines.ensures.limit; counted = c.given-head_lines.ensures.counted; given = c.given-head_lines.ensures.value }
