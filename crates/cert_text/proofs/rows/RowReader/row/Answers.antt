use Rattle.std.proofs.Common.{[], List, ap, sym, arith}
use Rattle.lift_model.specs.declared.entry.Entry.{Entry}
use Rattle.line_text.specs.Reading.{◌>>=◌, line_at}
use Rattle.cert_text.specs.Lines.{row_of}
use Rattle.cert_text.specs.Head.{entries_at, row_at}
use Rattle.cert_text.specs.Rows.{ReadsRows}
use Rattle.cert_text.specs.declared.rows.Shape.{Shape}
use Rattle.cert_text.proofs.RowLoops.{row_is_read}
use Rattle.cert_text.proofs.Following.{begin_as, ends, goes, read_as, seen, stops, tail}
use Rattle.cert_text.proofs.rows.RowReader.row.Goals as goal

pub read-requires-clause-ready : goal.read-requires-clause-ready
read-requires-clause-ready g c = c.in_ok-count.ensures.value.ran.left_with

pub read-requires-clause-mark : goal.read-requires-clause-mark
read-requires-clause-mark g c = omega (arith, c.self.invariant.choices, ap (λ (r : ReadsRows). r.left.choices) c.self.view_is, c.in_ok-count.ensures.some)

pub returns-in_err-count-clause-value : goal.returns-in_err-count-clause-value
returns-in_err-count-clause-value g c =
    let adds = c.calls_add_up.ensures in
    let r : ReadsRows = c.args.self.now in
    let s0 = begin_as adds (row_at r.shape.states r.shape.parameters r.left.choices r.left.transitions c.args.s c.args.a) (λ p. line_at (row_of c.args.s c.args.a r.left.choices r.left.transitions) p >>= λ count. entries_at r.shape.states r.shape.parameters [] count.0 count.1) (row_is_read r.shape.states r.shape.parameters r.left.choices r.left.transitions c.args.s c.args.a) c.args.lines.now c.args.src.now in
    stops adds (line_at (row_of c.args.s c.args.a r.left.choices r.left.transitions)) (λ count. entries_at r.shape.states r.shape.parameters [] count) c.from_residual.result c.from_residual.ensures.1 s0 c.in_err-count.ensures.value

pub returns-in_err-entries-clause-value : goal.returns-in_err-entries-clause-value
returns-in_err-entries-clause-value g c =
    let adds = c.calls_add_up.ensures in
    let r : ReadsRows = c.args.self.now in
    let s0 = begin_as adds (row_at r.shape.states r.shape.parameters r.left.choices r.left.transitions c.args.s c.args.a) (λ p. line_at (row_of c.args.s c.args.a r.left.choices r.left.transitions) p >>= λ count. entries_at r.shape.states r.shape.parameters [] count.0 count.1) (row_is_read r.shape.states r.shape.parameters r.left.choices r.left.transitions c.args.s c.args.a) c.args.lines.now c.args.src.now in
    let s1 = goes adds (line_at (row_of c.args.s c.args.a r.left.choices r.left.transitions)) (λ count. entries_at r.shape.states r.shape.parameters [] count) s0 c.in_ok-count.ensures.value in
    let s2 = read_as (λ (h : Shape). entries_at h.states h.parameters [] c.in_ok-count.count) (sym (ap (λ (r : ReadsRows). r.shape) c.self.view_is)) s1 in
    ends adds c.from_residual-in_err-entries.result c.from_residual-in_err-entries.ensures.1 s2 c.in_err-entries.ensures.value

pub returns-clause-value : goal.returns-clause-value
returns-clause-value g c =
    let adds = c.calls_add_up.ensures in
    let r : ReadsRows = c.args.self.now in
    let s0 = begin_as adds (row_at r.shape.states r.shape.parameters r.left.choices r.left.transitions c.args.s c.args.a) (λ p. line_at (row_of c.args.s c.args.a r.left.choices r.left.transitions) p >>= λ count. entries_at r.shape.states r.shape.parameters [] count.0 count.1) (row_is_read r.shape.states r.shape.parameters r.left.choices r.left.transitions c.args.s c.args.a) c.args.lines.now c.args.src.now in
    let s1 = goes adds (line_at (row_of c.args.s c.args.a r.left.choices r.left.transitions)) (λ count. entries_at r.shape.states r.shape.parameters [] count) s0 c.in_ok-count.ensures.value in
    let s2 = read_as (λ (h : Shape). entries_at h.states h.parameters [] c.in_ok-count.count) (sym (ap (λ (r : ReadsRows). r.shape) c.self.view_is)) s1 in
    seen (λ (row : List Entry). row) c.new.result (sym c.new.ensures) (tail adds _ s2 c.in_ok-entries.ensures.value)
