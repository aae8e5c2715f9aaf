use Rattle.std.proofs.Common.{◌-◌, ◌+◌, ◌++◌, ◌∷◌, [], List, Vec, map, refl, sym, ap, subst, ◌∙◌, arith}
use Rattle.std.specs.declared.alloc.Global.{Global}
use Rattle.lift_model.specs.declared.entry.Entry.{Entry}
use Rattle.line_text.specs.Reading.{Cursor}
use Rattle.line_text.specs.Follow.{place}
use Rattle.cert_text.specs.Head.{state_at, states_at}
use Rattle.cert_text.specs.declared.rows.Left.{Left}
use Rattle.cert_text.specs.declared.rows.Shape.{Shape}
use Rattle.cert_text.proofs.EntryLoop.{with_front}
use Rattle.cert_text.proofs.RowLoops.{front_none, state_goes, state_fails, states_done}
use Rattle.cert_text.proofs.Following.{SoFar, begin_as, done, goes_by, out, stops_by}
use Rattle.cert_text.proofs.rows.RowReader.all_states.Goals as goal

pub loop-s-init : goal.loop-s-init
loop-s-init g c =
    let h : Shape = c.args.self.now.shape in
    let l : Left = c.args.self.now.left in
    record {
      ready = c.requires;
      shape = refl;
      so = subst (λ (es : List (Vec (List Entry) Global)). SoFar g.S.Source.left g.S.Source.faults (states_at h.kind h.states h.parameters h.states l.choices l.transitions 0) (λ (p : Cursor). with_front (map (λ v. v.items) es) (states_at h.kind h.states h.parameters (h.states - 0) l.choices l.transitions 0 p)) c.args.lines.now c.args.lines.now c.args.src.now c.args.src.now) (sym c.new-all.ensures.items) (begin_as c.calls_add_up.ensures (states_at h.kind h.states h.parameters h.states l.choices l.transitions 0) (λ (p : Cursor). with_front [] (states_at h.kind h.states h.parameters (h.states - 0) l.choices l.transitions 0 p)) (λ p. ap (λ n. states_at h.kind h.states h.parameters n l.choices l.transitions 0 p) (omega arith) ∙ front_none (states_at h.kind h.states h.parameters (h.states - 0) l.choices l.transitions 0 p)) c.args.lines.now c.args.src.now);
    }

pub returns-in-Err : goal.returns-in-Err
returns-in-Err g c =
    let h : Shape = c.args.self.now.shape in
    let l : Left = c.loop-s.self.left in
    stops_by c.calls_add_up.ensures c.loop-s.invariant.so c.in-Err.ensures.value (λ later f bad. let p : Cursor = place c.loop-s.lines later in
    state_fails h.kind h.states h.parameters (h.states - c.loop-s.s) l.choices l.transitions c.loop-s.s (map (λ v. v.items) c.loop-s.all.items) p (h.states - (c.loop-s.s + 1)) f _ (omega arith) (ap (λ (h : Shape). state_at h.kind h.states h.parameters l.choices l.transitions c.loop-s.s p) (sym c.loop-s.invariant.shape) ∙ bad) refl)

pub loop-s-preserved : goal.loop-s-preserved
loop-s-preserved g c =
    let h : Shape = c.args.self.now.shape in
    let l : Left = c.loop-s.self.left in
    let after : Left = c.state.new.self.left in
    let left = c.in-Ok.ensures.left in
    let read = c.in-Ok.ensures.value in
    let rows : List (List Entry) = c.in-Ok.rows.items in
    let so : SoFar g.S.Source.left g.S.Source.faults (states_at h.kind h.states h.parameters h.states c.args.self.now.left.choices c.args.self.now.left.transitions 0) (λ (p : Cursor). with_front (map (λ v. v.items) c.loop-s.all.items ++ rows ∷ []) (states_at h.kind h.states h.parameters (h.states - (c.loop-s.s + 1)) after.choices after.transitions (c.loop-s.s + 1) p)) c.args.lines.now c.state.new.lines c.args.src.now c.state.new.src =
    goes_by c.calls_add_up.ensures _ read.bytes c.loop-s.invariant.so read.ran (λ later may.
    let here : Cursor = place c.loop-s.lines (read.bytes ++ later) in
    sym (state_goes h.kind h.states h.parameters (h.states - c.loop-s.s) l.choices l.transitions c.loop-s.s (map (λ v. v.items) c.loop-s.all.items) here (place c.state.new.lines later) rows (h.states - (c.loop-s.s + 1)) after.choices after.transitions _ (omega arith) (ap (λ (h : Shape). state_at h.kind h.states h.parameters l.choices l.transitions c.loop-s.s here) (sym c.loop-s.invariant.shape) ∙ read.agrees later may) left.choices left.transitions refl)) in
    record {
      ready = read.ran.left_with;
      shape = c.in-Ok.ensures.shape ∙ c.loop-s.invariant.shape;
      so = subst (λ (front : List (List (List Entry))). SoFar g.S.Source.left g.S.Source.faults (states_at h.kind h.states h.parameters h.states c.args.self.now.left.choices c.args.self.now.left.transitions 0) (λ (p : Cursor). with_front front (states_at h.kind h.states h.parameters (h.states - (c.loop-s.s + 1)) after.choices after.transitions (c.loop-s.s + 1) p)) c.args.lines.now c.state.new.lines c.args.src.now c.state.new.src) (sym c.in-Ok-keep_state.ensures) so;
    }

pub returns : goal.returns
returns g c =
    let h : Shape = c.args.self.now.shape in
    let l : Left = c.loop-s.self.left in
    done c.calls_add_up.ensures c.loop-s.all c.loop-s.invariant.ready c.loop-s.invariant.so (λ later. states_done h.kind h.states h.parameters (h.states - c.loop-s.s) l.choices l.transitions c.loop-s.s (map (λ v. v.items) c.loop-s.all.items) (place c.loop-s.lines later) _ (omega arith) refl)

pub returns-in-Err-keep_state : goal.returns-in-Err-keep_state
returns-in-Err-keep_state g c =
    let read = c.in-Ok.ensures.value in
    out c.calls_add_up.ensures read.bytes c.fault.result (c.state.new.lines.given + 1) c.loop-s.invariant.so read.ran c.fault.ensures
