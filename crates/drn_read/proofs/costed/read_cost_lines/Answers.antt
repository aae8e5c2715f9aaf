use Rattle.std.proofs.Common.{◌≡◌, rules, sym, ◌∙◌, ap, arith, Ok, Err, None}
use Rattle.drn_lexer.specs.Lines.{behind_comments, lines_at, answer_of}
use Rattle.drn_lexer.specs.Spans.{IsNextLine}
use Rattle.drn_read.specs.Shown.{IsLineFault}
use Rattle.drn_read.specs.declared.error.DrnError.{DrnError}
use Rattle.drn_read.proofs.Loop.{at_start, one_more, refused, lexer_refused, at_end}
use Rattle.drn_read.proofs.CostRunning.{at_fault, all_read}
use Rattle.drn_read.proofs.costed.read_cost_lines.Goals as goal
use Rattle.drn_read.proofs.costed.read_cost_lines.Goals.{After-from_residual, After-from_residual-in_err-read_line}

pub loop-line-init : goal.loop-line-init
loop-line-init c = record {
  at = omega (arith, c.start-place.ensures.at);
  number = omega (arith, c.start-place.ensures.at, c.start-place.ensures.number);
  read = at_start _ _ _ _ (c.start-place.ensures.lines c.args.text.now) c.start-place.ensures.number c.requires.start;
}

pub loop-line-preserved : goal.loop-line-preserved
loop-line-preserved c =
    let next : IsNextLine c.args.text.now c.loop-line.place c.next.new.place c.in-Some.line = search rules in
    record {
      at = c.next.ensures.at;
      number = c.next.ensures.number;
      read = one_more _ _ _ _ _ _ c.in-Some.line c.begin.result c.loop-line.invariant.read next c.begin.ensures.rest c.begin.ensures.line c.next.ensures.place c.in_ok-read_line.ensures.fault c.in_ok-read_line.ensures.after;
    }

residue : (c : After-from_residual) → c.from_residual.result ≡ Err c.in_err-line.field-0.0
residue c = search rules

pub returns-in_err-line : goal.returns-in_err-line
returns-in_err-line c =
    let r : IsLineFault c.args.text.now c.loop-line.place c.next.new.place c.in_err-line.field-0.0 = search rules in
    rw (residue c) (λ ne. at_fault _ _ _ (lexer_refused _ _ _ _ _ _ c.loop-line.invariant.read r.answer c.next.ensures.place) ∙ ap (λ (e : DrnError). Err e) (sym r.error_is))

wrong : (c : After-from_residual-in_err-read_line) → c.from_residual-in_err-read_line.result ≡ Err c.in_err-read_line.field-0.0
wrong c = search rules

pub returns-in_err-read_line : goal.returns-in_err-read_line
returns-in_err-read_line c =
    let next : IsNextLine c.args.text.now c.loop-line.place c.next.new.place c.in-Some.line = search rules in
    rw (wrong c) (λ ne. at_fault _ _ _ (refused _ _ _ _ _ c.in-Some.line c.begin.result _ c.loop-line.invariant.read next c.begin.ensures.rest c.begin.ensures.line (λ source s. c.in_err-read_line.ensures.fault source s ne)))

pub returns : goal.returns
returns c =
    let next : Ok None ≡ answer_of (behind_comments (lines_at c.args.text.now c.loop-line.place)) = search rules in
    let end = all_read _ _ _ _ (at_end _ _ _ _ _ c.loop-line.invariant.read next c.next.ensures.place) in
    (end.costs, end.model)
