use Rattle.std.proofs.Common.{◌<◌, ◌≡◌, ◌-◌, ◌+◌, ◌++◌, ◌∷◌, [], ℕ, List, length, Ok, true, refl, sym, ap, subst, ◌∙◌, arith}
use Rattle.lift_model.specs.declared.entry.Entry.{Entry}
use Rattle.line_text.specs.Reading.{Cursor}
use Rattle.line_text.specs.Follow.{place}
use Rattle.cert_text.specs.Head.{row_at, further_at}
use Rattle.cert_text.specs.Rows.{ReadsRows, row_due}
use Rattle.cert_text.specs.declared.rows.Shape.{Shape}
use Rattle.cert_text.proofs.EntryLoop.{with_front}
use Rattle.cert_text.proofs.RowLoops.{front_none, no_more, due_fails, row_fails, one_row, leaves_more}
use Rattle.cert_text.proofs.Following.{SoFar, begin_as, done, goes_by, near, out, stops_by}
use Rattle.cert_text.proofs.rows.RowReader.further.Goals as goal

pub loop-error-init : goal.loop-error-init
loop-error-init g c =
    let r : ReadsRows = c.args.self.now in
    record {
      shape = refl;
      few = omega (arith, c.self.invariant.choices, ap (λ (r : ReadsRows). r.left.choices) c.self.view_is);
      left = rw c.new-rows.ensures.items (record { choices = omega arith; transitions = omega arith });
      so = subst (λ (es : List (List Entry)). SoFar g.S.Source.left g.S.Source.faults (further_at r.shape.states r.shape.parameters r.left.choices r.left.transitions c.args.s 1) (λ (p : Cursor). with_front es (further_at r.shape.states r.shape.parameters r.left.choices r.left.transitions c.args.s 1 p)) c.args.lines.now c.args.lines.now c.args.src.now c.args.src.now) (sym c.new-rows.ensures.items) (begin_as c.calls_add_up.ensures (further_at r.shape.states r.shape.parameters r.left.choices r.left.transitions c.args.s 1) (λ (p : Cursor). with_front [] (further_at r.shape.states r.shape.parameters r.left.choices r.left.transitions c.args.s 1 p)) (λ p. front_none (further_at r.shape.states r.shape.parameters r.left.choices r.left.transitions c.args.s 1 p)) c.args.lines.now c.args.src.now);
    }

pub returns-in-Err-clause-value : goal.returns-in-Err-clause-value
returns-in-Err-clause-value g c =
    let h : Shape = c.args.self.now.shape in
    stops_by c.calls_add_up.ensures c.loop-error.invariant.so c.in-Err.ensures (λ l f bad. let p : Cursor = place c.loop-error.lines l in due_fails h.states h.parameters c.loop-error.self.left.choices c.loop-error.self.left.transitions c.args.s c.loop-error.a c.loop-error.rows.items p f bad)

pub returns-in-Ok-false-clause-value : goal.returns-in-Ok-false-clause-value
returns-in-Ok-false-clause-value g c =
    let h : Shape = c.args.self.now.shape in
    let seen = c.in-Ok-false.ensures in
    let adds = c.calls_add_up.ensures in
    done adds c.loop-error.rows seen.0.ran.left_with (near adds c.loop-error.invariant.so seen.0) (λ later. no_more h.states h.parameters c.loop-error.self.left.choices c.loop-error.self.left.transitions c.args.s c.loop-error.a c.loop-error.rows.items (place c.row_due.new.lines later) _ (seen.1 later ∙ ap (λ b. Ok b) c.in-Ok-false.field-0-test) refl)

pub returns-in-Err-row-clause-value : goal.returns-in-Err-row-clause-value
returns-in-Err-row-clause-value g c =
    let h : Shape = c.args.self.now.shape in
    let seen = c.in-Ok-true.ensures in
    let adds = c.calls_add_up.ensures in
    let some = c.loop-error.invariant.left.transitions in
    stops_by adds (near adds c.loop-error.invariant.so seen.0) c.in-Err-row.ensures.value (λ l f bad.
    let p : Cursor = place c.row_due.new.lines l in
    row_fails h.states h.parameters c.loop-error.self.left.choices c.loop-error.self.left.transitions c.args.s c.loop-error.a c.loop-error.rows.items p f _ c.ranges.s.fits (omega (arith, c.loop-error.invariant.few)) (omega (arith, some, c.self.invariant.transitions, ap (λ (r : ReadsRows). r.left.transitions) c.self.view_is))
    (seen.1 l ∙ ap (λ b. Ok b) c.in-Ok-true.field-0-test) (ap (λ (h : Shape). row_at h.states h.parameters c.loop-error.self.left.choices c.loop-error.self.left.transitions c.args.s c.loop-error.a p) (sym c.loop-error.invariant.shape) ∙ bad) refl)

pub loop-error-smaller : goal.loop-error-smaller
loop-error-smaller g c = omega (arith, c.in-Ok.ensures.choices, c.in-Ok.ensures.some)

pub loop-error-preserved : goal.loop-error-preserved
loop-error-preserved g c =
    let h : Shape = c.args.self.now.shape in
    let some : 0 < c.loop-error.self.left.choices = c.in-Ok.ensures.some in
    let seen = c.in-Ok-true.ensures in
    let adds = c.calls_add_up.ensures in
    let read = c.in-Ok.ensures.value in
    let row : List Entry = c.in-Ok.row in
    let there : (later : List ℕ) → row_due c.args.s (place c.row_due.new.lines later) ≡ Ok true = λ later. seen.1 later ∙ ap (λ b. Ok b) c.in-Ok-true.field-0-test in
    let so : SoFar g.S.Source.left g.S.Source.faults (further_at h.states h.parameters c.args.self.now.left.choices c.args.self.now.left.transitions c.args.s 1) (λ (p : Cursor). with_front (c.loop-error.rows.items ++ row ∷ []) (further_at h.states h.parameters (c.loop-error.self.left.choices - 1) (c.loop-error.self.left.transitions - length row) c.args.s (c.loop-error.a + 1) p)) c.args.lines.now c.row.new.lines c.args.src.now c.row.new.src =
    goes_by adds _ read.bytes (near adds c.loop-error.invariant.so seen.0) read.ran (λ later may.
    let here : Cursor = place c.row_due.new.lines (read.bytes ++ later) in
    sym (one_row h.states h.parameters c.loop-error.self.left.choices c.loop-error.self.left.transitions c.args.s c.loop-error.a c.loop-error.rows.items here (place c.row.new.lines later) row _ some (there (read.bytes ++ later)) (ap (λ (h : Shape). row_at h.states h.parameters c.loop-error.self.left.choices c.loop-error.self.left.transitions c.args.s c.loop-error.a here) (sym c.loop-error.invariant.shape) ∙ read.agrees later may) refl)) in
    record {
      shape = c.in-Ok.ensures.shape ∙ c.loop-error.invariant.shape;
      few = omega (arith, c.in-Ok.ensures.choices, some, c.loop-error.invariant.few);
      left = leaves_more c.args.self.now.left c.loop-error.self.left c.row.new.self.left c.loop-error.rows.items c.keep_row.new.rows.items c.in-Ok.row c.loop-error.invariant.left c.in-Ok.ensures.choices c.in-Ok.ensures.transitions c.in-Ok-keep_row.ensures;
      so = rw (c.in-Ok-keep_row.ensures, c.in-Ok.ensures.choices, c.in-Ok.ensures.transitions) so;
    }

pub returns-in-Err-keep_row-clause-value : goal.returns-in-Err-keep_row-clause-value
returns-in-Err-keep_row-clause-value g c =
    let read = c.in-Ok.ensures.value in
    let adds = c.calls_add_up.ensures in
    out adds read.bytes c.fault.result (c.row.new.lines.given + 1) (near adds c.loop-error.invariant.so (c.in-Ok-true.ensures.0)) read.ran c.fault.ensures
