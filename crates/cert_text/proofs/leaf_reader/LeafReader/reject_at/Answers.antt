use Rattle.std.proofs.Common.{◌∙◌, Result, ap, subst}
use Rattle.line_text.specs.declared.error.FileError.{FileError}
use Rattle.line_text.specs.Words.{words}
use Rattle.line_text.specs.Reading.{◌>>=◌, line_at}
use Rattle.line_text.specs.Follow.{Follows, place}
use Rattle.cert_text.specs.declared.rejected.Rejected.{Rejected}
use Rattle.cert_text.specs.Lines.{reject_of}
use Rattle.cert_text.specs.Leaf.{rejected_of}
use Rattle.cert_text.specs.Nodes.{reject_at, rejecting_at}
use Rattle.cert_text.proofs.NodeSteps.{reject_is_read}
use Rattle.cert_text.proofs.Following.{as_error, begin_as, goes, line_is, line_none, stops, tail}
use Rattle.cert_text.proofs.leaf_reader.LeafReader.reject_at.Goals as goal

pub returns-in_err-first : goal.returns-in_err-first
returns-in_err-first g c =
    let adds = c.calls_add_up.ensures in
    let s0 = begin_as adds (reject_at c.args.self.now) (λ p. (line_at reject_of) p >>= λ r. rejecting_at c.args.self.now r.0 r.1) (reject_is_read c.args.self.now) c.args.lines.now c.args.src.now in
    stops adds (line_at reject_of) (rejecting_at c.args.self.now) c.from_residual.result c.from_residual.ensures.1 s0 (as_error {look = rejected_of} (line_at reject_of) (λ l fault bad. line_none reject_of (place c.args.lines.now l) fault bad) c.in_err-first.ensures)

pub returns-in_err-rejected : goal.returns-in_err-rejected
returns-in_err-rejected g c =
    let adds = c.calls_add_up.ensures in
    let s0 = begin_as adds (reject_at c.args.self.now) (λ p. (line_at reject_of) p >>= λ r. rejecting_at c.args.self.now r.0 r.1) (reject_is_read c.args.self.now) c.args.lines.now c.args.src.now in
    let line : Follows g.S.Source.left g.S.Source.faults rejected_of (line_at reject_of) c.args.lines.now c.take_line.new.lines c.args.src.now c.copy_due.new.src c.take_line.result =
    line_is rejected_of reject_of c.of.result c.reject_of-read.result c.take_line.result c.in_ok-first.ensures.0 (c.of.ensures ∙ ap words (c.deref.ensures.value ∙ c.in_ok-first.ensures.1)) c.reject_of-read.ensures.value c.take_line.ensures in
    stops adds (line_at reject_of) (rejecting_at c.args.self.now) c.from_residual-in_err-rejected.result c.from_residual-in_err-rejected.ensures.1 s0 (subst (λ (r : Result Rejected FileError). Follows g.S.Source.left g.S.Source.faults rejected_of (line_at reject_of) c.args.lines.now c.take_line.new.lines c.args.src.now c.copy_due.new.src r) c.in_err-rejected.was line)

pub returns : goal.returns
returns g c =
    let adds = c.calls_add_up.ensures in
    let s0 = begin_as adds (reject_at c.args.self.now) (λ p. (line_at reject_of) p >>= λ r. rejecting_at c.args.self.now r.0 r.1) (reject_is_read c.args.self.now) c.args.lines.now c.args.src.now in
    let line : Follows g.S.Source.left g.S.Source.faults rejected_of (line_at reject_of) c.args.lines.now c.take_line.new.lines c.args.src.now c.copy_due.new.src c.take_line.result =
    line_is rejected_of reject_of c.of.result c.reject_of-read.result c.take_line.result c.in_ok-first.ensures.0 (c.of.ensures ∙ ap words (c.deref.ensures.value ∙ c.in_ok-first.ensures.1)) c.reject_of-read.ensures.value c.take_line.ensures in
    let s1 = goes adds (line_at reject_of) (rejecting_at c.args.self.now) s0 (subst (λ (r : Result Rejected FileError). Follows g.S.Source.left g.S.Source.faults rejected_of (line_at reject_of) c.args.lines.now c.take_line.new.lines c.args.src.now c.copy_due.new.src r) c.in_ok-rejected.was line) in
    tail adds c.rejecting.result s1 c.rejecting.ensures
