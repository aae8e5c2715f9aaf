use Rattle.std.proofs.Common.{◌-◌, ◌+◌, ◌∷◌, [], List, length, Ok, ap, sym}
use Rattle.lift_model.specs.declared.entry.Entry.{Entry}
use Rattle.line_text.specs.Reading.{◌>>=◌, Cursor}
use Rattle.line_text.specs.Follow.{place}
use Rattle.cert_text.specs.Head.{row_at, behind_first, state_at}
use Rattle.cert_text.specs.Rows.{ReadsRows}
use Rattle.cert_text.specs.declared.rows.Left.{Left}
use Rattle.cert_text.specs.declared.rows.Shape.{Shape}
use Rattle.cert_text.proofs.RowLoops.{state_is_read}
use Rattle.cert_text.proofs.Following.{begin_as, done, goes, out, ran_none, read_as, stops}
use Rattle.cert_text.proofs.rows.RowReader.state.Goals as goal

pub behind_first-requires : goal.behind_first-requires
behind_first-requires g c = c.in_ok-first.ensures.value.ran.left_with

pub returns-in_err-first-clause-value : goal.returns-in_err-first-clause-value
returns-in_err-first-clause-value g c =
    let adds = c.calls_add_up.ensures in
    let h : Shape = c.args.self.now.shape in
    let l : Left = c.args.self.now.left in
    let s0 = begin_as adds (state_at h.kind h.states h.parameters l.choices l.transitions c.args.s) (λ p. row_at h.states h.parameters l.choices l.transitions c.args.s 0 p >>= λ row. behind_first h.kind h.states h.parameters (l.choices - 1) (l.transitions - length row.0) c.args.s row.1 >>= λ rows. Ok (row.0 ∷ rows.0, rows.1)) (state_is_read h.kind h.states h.parameters l.choices l.transitions c.args.s) c.args.lines.now c.args.src.now in
    stops adds (row_at h.states h.parameters l.choices l.transitions c.args.s 0) (λ (row : List Entry). λ (p : Cursor). behind_first h.kind h.states h.parameters (l.choices - 1) (l.transitions - length row) c.args.s p >>= λ rows. Ok (row ∷ rows.0, rows.1)) c.from_residual.result c.from_residual.ensures.1 s0 c.in_err-first.ensures.value

pub returns-in_err-others-clause-value : goal.returns-in_err-others-clause-value
returns-in_err-others-clause-value g c =
    let adds = c.calls_add_up.ensures in
    let h : Shape = c.args.self.now.shape in
    let l : Left = c.args.self.now.left in
    let s0 = begin_as adds (state_at h.kind h.states h.parameters l.choices l.transitions c.args.s) (λ p. row_at h.states h.parameters l.choices l.transitions c.args.s 0 p >>= λ row. behind_first h.kind h.states h.parameters (l.choices - 1) (l.transitions - length row.0) c.args.s row.1 >>= λ rows. Ok (row.0 ∷ rows.0, rows.1)) (state_is_read h.kind h.states h.parameters l.choices l.transitions c.args.s) c.args.lines.now c.args.src.now in
    let first : List Entry = c.in_ok-first.first in
    let now : ReadsRows = c.row.new.self in
    let s1 = goes adds (row_at h.states h.parameters l.choices l.transitions c.args.s 0) (λ (row : List Entry). λ (p : Cursor). behind_first h.kind h.states h.parameters (l.choices - 1) (l.transitions - length row) c.args.s p >>= λ rows. Ok (row ∷ rows.0, rows.1)) s0 c.in_ok-first.ensures.value in
    let s2 = read_as (λ (h : Shape). λ (p : Cursor). behind_first h.kind h.states h.parameters (l.choices - 1) (l.transitions - length first) c.args.s p >>= λ rows. Ok (first ∷ rows.0, rows.1)) (sym c.in_ok-first.ensures.shape) s1 in
    let s3 = read_as (λ n. λ (p : Cursor). behind_first now.shape.kind now.shape.states now.shape.parameters n (l.transitions - length first) c.args.s p >>= λ rows. Ok (first ∷ rows.0, rows.1)) (sym c.in_ok-first.ensures.choices) s2 in
    let s4 = read_as (λ n. λ (p : Cursor). behind_first now.shape.kind now.shape.states now.shape.parameters now.left.choices n c.args.s p >>= λ rows. Ok (first ∷ rows.0, rows.1)) (sym c.in_ok-first.ensures.transitions) s3 in
    stops adds (behind_first now.shape.kind now.shape.states now.shape.parameters now.left.choices now.left.transitions c.args.s) (λ (rows : List (List Entry)). λ (p : Cursor). Ok (first ∷ rows, p)) c.from_residual-in_err-others.result c.from_residual-in_err-others.ensures.1 s4 c.in_err-others.ensures.value

pub returns-in-Ok-clause-value : goal.returns-in-Ok-clause-value
returns-in-Ok-clause-value g c =
    let adds = c.calls_add_up.ensures in
    let h : Shape = c.args.self.now.shape in
    let l : Left = c.args.self.now.left in
    let s0 = begin_as adds (state_at h.kind h.states h.parameters l.choices l.transitions c.args.s) (λ p. row_at h.states h.parameters l.choices l.transitions c.args.s 0 p >>= λ row. behind_first h.kind h.states h.parameters (l.choices - 1) (l.transitions - length row.0) c.args.s row.1 >>= λ rows. Ok (row.0 ∷ rows.0, rows.1)) (state_is_read h.kind h.states h.parameters l.choices l.transitions c.args.s) c.args.lines.now c.args.src.now in
    let first : List Entry = c.in_ok-first.first in
    let now : ReadsRows = c.row.new.self in
    let s1 = goes adds (row_at h.states h.parameters l.choices l.transitions c.args.s 0) (λ (row : List Entry). λ (p : Cursor). behind_first h.kind h.states h.parameters (l.choices - 1) (l.transitions - length row) c.args.s p >>= λ rows. Ok (row ∷ rows.0, rows.1)) s0 c.in_ok-first.ensures.value in
    let s2 = read_as (λ (h : Shape). λ (p : Cursor). behind_first h.kind h.states h.parameters (l.choices - 1) (l.transitions - length first) c.args.s p >>= λ rows. Ok (first ∷ rows.0, rows.1)) (sym c.in_ok-first.ensures.shape) s1 in
    let s3 = read_as (λ n. λ (p : Cursor). behind_first now.shape.kind now.shape.states now.shape.parameters n (l.transitions - length first) c.args.s p >>= λ rows. Ok (first ∷ rows.0, rows.1)) (sym c.in_ok-first.ensures.choices) s2 in
    let s4 = read_as (λ n. λ (p : Cursor). behind_first now.shape.kind now.shape.states now.shape.parameters now.left.choices n c.args.s p >>= λ rows. Ok (first ∷ rows.0, rows.1)) (sym c.in_ok-first.ensures.transitions) s3 in
    let s5 = goes adds (behind_first now.shape.kind now.shape.states now.shape.parameters now.left.choices now.left.transitions c.args.s) (λ (rows : List (List Entry)). λ (p : Cursor). Ok (first ∷ rows, p)) s4 c.in_ok-others.ensures.value in
    done adds c.in-Ok.rows c.in_ok-others.ensures.value.ran.left_with s5 (λ later. ap (λ (rows : List (List Entry)). Ok (rows, place c.behind_first.new.lines later)) (sym c.in-Ok.ensures))

pub returns-in-Err-clause-value : goal.returns-in-Err-clause-value
returns-in-Err-clause-value g c =
    let adds = c.calls_add_up.ensures in
    let h : Shape = c.args.self.now.shape in
    let l : Left = c.args.self.now.left in
    let s0 = begin_as adds (state_at h.kind h.states h.parameters l.choices l.transitions c.args.s) (λ p. row_at h.states h.parameters l.choices l.transitions c.args.s 0 p >>= λ row. behind_first h.kind h.states h.parameters (l.choices - 1) (l.transitions - length row.0) c.args.s row.1 >>= λ rows. Ok (row.0 ∷ rows.0, rows.1)) (state_is_read h.kind h.states h.parameters l.choices l.transitions c.args.s) c.args.lines.now c.args.src.now in
    let first : List Entry = c.in_ok-first.first in
    let now : ReadsRows = c.row.new.self in
    let s1 = goes adds (row_at h.states h.parameters l.choices l.transitions c.args.s 0) (λ (row : List Entry). λ (p : Cursor). behind_first h.kind h.states h.parameters (l.choices - 1) (l.transitions - length row) c.args.s p >>= λ rows. Ok (row ∷ rows.0, rows.1)) s0 c.in_ok-first.ensures.value in
    let s2 = read_as (λ (h : Shape). λ (p : Cursor). behind_first h.kind h.states h.parameters (l.choices - 1) (l.transitions - length first) c.args.s p >>= λ rows. Ok (first ∷ rows.0, rows.1)) (sym c.in_ok-first.ensures.shape) s1 in
    let s3 = read_as (λ n. λ (p : Cursor). behind_first now.shape.kind now.shape.states now.shape.parameters n (l.transitions - length first) c.args.s p >>= λ rows. Ok (first ∷ rows.0, rows.1)) (sym c.in_ok-first.ensures.choices) s2 in
    let s4 = read_as (λ n. λ (p : Cursor). behind_first now.shape.kind now.shape.states now.shape.parameters now.left.choices n c.args.s p >>= λ rows. Ok (first ∷ rows.0, rows.1)) (sym c.in_ok-first.ensures.transitions) s3 in
    let s5 = goes adds (behind_first now.shape.kind now.shape.states now.shape.parameters now.left.choices now.left.transitions c.args.s) (λ (rows : List (List Entry)). λ (p : Cursor). Ok (first ∷ rows, p)) s4 c.in_ok-others.ensures.value in
    let none = c.in_ok-others.ensures.value.ran.left_with in
    out adds [] c.fault.result (c.behind_first.new.lines.given + 1) s5 (ran_none adds c.behind_first.new.lines c.behind_first.new.src none) c.fault.ensures
