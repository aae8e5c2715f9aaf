use Rattle.std.proofs.Common.{◌≡◌, ◌<◌, ◌-◌, ◌+◌, ◌++◌, ◌∷◌, List, [], length, set, sym, ap, subst, ◌∙◌, refl, arith}
use Rattle.std.proofs.lemmas.List.{length-append, length-set}
use Rattle.lift_model.specs.declared.entry.Entry.{Entry}
use Rattle.line_text.specs.Reading.{Cursor}
use Rattle.line_text.specs.Follow.{place}
use Rattle.cert_text.specs.Head.{entries_at}
use Rattle.cert_text.specs.Recent.{ReadsEntries}
use Rattle.cert_text.specs.Shown.{AreMarked, targets_back}
use Rattle.cert_text.proofs.EntryLoop.{with_front, marked_line, marked_none, marked_more, targets_more, entries_begin, entries_go, entries_fail, entries_done}
use Rattle.cert_text.proofs.Following.{SoFar, begin_as, goes_by, stops_by, out, done}
use Rattle.cert_text.proofs.entry_line.EntryReader.read.Goals as goal

pub loop-init : goal.loop-init
loop-init g c =
    let begun = c.begin_row.ensures.value in
    record {
      ready = c.requires.ready;
      states = ap (λ (r : ReadsEntries). length r.marks) begun;
      parameters = ap (λ (r : ReadsEntries). r.parameters) begun;
      mark = ap (λ (r : ReadsEntries). r.mark) begun;
      count = ap length c.in-Ok.ensures;
      marked = subst (λ (es : List Entry). AreMarked c.begin_row.new.self.mark c.begin_row.new.self.marks (targets_back es)) (sym c.in-Ok.ensures) (marked_none c.begin_row.new.self.mark c.begin_row.new.self.marks c.begin_row.ensures.free);
      so = subst (λ (es : List Entry). SoFar g.S.Source.left g.S.Source.faults (entries_at (length c.args.self.now.marks) c.args.self.now.parameters [] c.args.count) (λ (p : Cursor). with_front es (entries_at (length c.args.self.now.marks) c.args.self.now.parameters (targets_back es) (c.args.count - 0) p)) c.args.lines.now c.args.lines.now c.args.src.now c.args.src.now) (sym c.in-Ok.ensures) (begin_as c.calls_add_up.ensures (entries_at (length c.args.self.now.marks) c.args.self.now.parameters [] c.args.count) _ (λ p. entries_begin (length c.args.self.now.marks) c.args.self.now.parameters c.args.count p) c.args.lines.now c.args.src.now);
    }

pub returns-in-Err-clause-value : goal.returns-in-Err-clause-value
returns-in-Err-clause-value g c =
    let before = targets_back c.loop.entries.items in
    stops_by c.calls_add_up.ensures c.loop.invariant.so c.in-Err.ensures.value (λ l f bad. let p : Cursor = place c.loop.lines l in
    entries_fail (length c.args.self.now.marks) c.args.self.now.parameters before c.loop.entries.items c.args.count c.loop.counter p f _ c.loop-test.true
    (marked_line c.loop.self (length c.args.self.now.marks) c.args.self.now.parameters before p c.loop.invariant.states c.loop.invariant.parameters c.loop.invariant.marked ∙ bad) refl)

pub returns-clause-value : goal.returns-clause-value
returns-clause-value g c = done c.calls_add_up.ensures c.loop.entries c.loop.invariant.ready c.loop.invariant.so (λ later. entries_done (length c.args.self.now.marks) c.args.self.now.parameters (targets_back c.loop.entries.items) c.loop.entries.items c.args.count c.loop.counter (place c.loop.lines later) _ c.loop-test.false refl)

pub mark_target-requires : goal.mark_target-requires
mark_target-requires g c = subst (λ (r : ReadsEntries). c.in-Ok-entry_line.entry.target < length r.marks) (sym c.in-Ok-entry_line.ensures.same) c.in-Ok-entry_line.ensures.range

pub loop-preserved : goal.loop-preserved
loop-preserved g c =
    let before = targets_back c.loop.entries.items in
    let entry = c.in-Ok-entry_line.entry in
    let read = c.in-Ok-entry_line.ensures.value in
    let items : c.push.new.self.items ≡ c.loop.entries.items ++ entry ∷ [] = c.in-Ok-push.ensures.items in
    let r : ReadsEntries = record c.loop.self { marks = set c.loop.self.marks entry.target c.loop.self.mark } in
    let now : c.mark_target.new.self ≡ r = c.mark_target.ensures ∙ ap (λ (r : ReadsEntries). record r { marks = set r.marks entry.target r.mark }) c.in-Ok-entry_line.ensures.same in
    let so : SoFar g.S.Source.left g.S.Source.faults (entries_at (length c.args.self.now.marks) c.args.self.now.parameters [] c.args.count) (λ (p : Cursor). with_front (c.loop.entries.items ++ entry ∷ []) (entries_at (length c.args.self.now.marks) c.args.self.now.parameters (targets_back (c.loop.entries.items ++ entry ∷ [])) (c.args.count - (c.loop.counter + 1)) p)) c.args.lines.now c.entry_line.new.lines c.args.src.now c.entry_line.new.src =
    goes_by c.calls_add_up.ensures _ read.bytes c.loop.invariant.so read.ran (λ later may.
    let here : Cursor = place c.loop.lines (read.bytes ++ later) in
    sym (ap (λ b. with_front (c.loop.entries.items ++ entry ∷ []) (entries_at (length c.args.self.now.marks) c.args.self.now.parameters b (c.args.count - (c.loop.counter + 1)) (place c.entry_line.new.lines later))) (targets_more c.loop.entries.items entry)
    ∙ entries_go (length c.args.self.now.marks) c.args.self.now.parameters before c.loop.entries.items c.args.count c.loop.counter here (place c.entry_line.new.lines later) entry _ c.loop-test.true
    (marked_line c.loop.self (length c.args.self.now.marks) c.args.self.now.parameters before here c.loop.invariant.states c.loop.invariant.parameters c.loop.invariant.marked ∙ read.agrees later may) refl)) in
    record {
      ready = read.ran.left_with;
      states = ap (λ (r : ReadsEntries). length r.marks) now ∙ length-set c.loop.self.marks entry.target c.loop.self.mark ∙ c.loop.invariant.states;
      parameters = ap (λ (r : ReadsEntries). r.parameters) now ∙ c.loop.invariant.parameters;
      mark = ap (λ (r : ReadsEntries). r.mark) now ∙ c.loop.invariant.mark;
      count = omega (arith, ap length items, length-append c.loop.entries.items (entry ∷ []), c.loop.invariant.count);
      marked = subst (λ (r : ReadsEntries). AreMarked r.mark r.marks (targets_back c.push.new.self.items)) (sym now) (subst (λ es. AreMarked c.loop.self.mark r.marks (targets_back es)) (sym items) (subst (AreMarked c.loop.self.mark r.marks) (sym (targets_more c.loop.entries.items entry)) (marked_more c.loop.self.mark c.loop.self.marks before entry.target c.in-Ok-entry_line.ensures.range c.loop.invariant.marked)));
      so = subst (λ (es : List Entry). SoFar g.S.Source.left g.S.Source.faults (entries_at (length c.args.self.now.marks) c.args.self.now.parameters [] c.args.count) (λ (p : Cursor). with_front es (entries_at (length c.args.self.now.marks) c.args.self.now.parameters (targets_back es) (c.args.count - (c.loop.counter + 1)) p)) c.args.lines.now c.entry_line.new.lines c.args.src.now c.entry_line.new.src) (sym items) so;
    }

pub returns-in-Err-push-clause-value : goal.returns-in-Err-push-clause-value
returns-in-Err-push-clause-value g c =
    let read = c.in-Ok-entry_line.ensures.value in
    out c.calls_add_up.ensures read.bytes c.fault-in-Err-push.result (c.entry_line.new.lines.given + 1) c.loop.invariant.so read.ran c.fault-in-Err-push.ensures
