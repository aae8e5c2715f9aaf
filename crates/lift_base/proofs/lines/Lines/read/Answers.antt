use Rattle.std.proofs.Common.{◌≡◌, ◌∙◌, ap, subst, sym, ℕ, List, [], length, None, arith, length-append, inl, true≢false}
use Rattle.std.proofs.KnownBytes.{Consumes-nil, Consumes-kept}
use Rattle.std.proofs.lemmas.List.{append-nil}
use Rattle.lift_base.specs.Window.{held_of}
use Rattle.lift_base.specs.Lines.{LinesData, KeepsLimit, feed_at}
use Rattle.lift_base.proofs.ReadingOn.{scanned, before_limit, behind_limit, room_left, needed_now}
use Rattle.lift_base.proofs.lines.Lines.read.Goals as goal

pub invariant_of-self-then-self : goal.invariant_of-self-then-self
invariant_of-self-then-self g c =
    let old : List ℕ = held_of c.self.inside.window in
    let same : old ≡ c.args.self.now.held = ap (λ (l : LinesData). l.held) c.self.view_is in
    let bare : feed_at old ≡ length old = subst (λ (l : List ℕ). feed_at l ≡ length l) (sym same) c.requires.bare in
    let got = c.in-Bytes.ensures in
    let failure : c.self.inside.failure ≡ None = ap (λ (l : LinesData). l.failure) c.self.view_is ∙ c.requires.none in
    let few = before_limit c.self.inside.failure c.self.inside.limit c.self.inside.taken failure c.self.invariant.4 in
    let more = ap length got.3 ∙ length-append old got.0 in (
      scanned old (held_of c.fill.new.self) c.held.result.now got.0 c.len-len.result c.line_len.result bare c.len-len.ensures got.3 c.held.ensures c.line_len.ensures.len,
      omega (arith, more, got.1, c.self.invariant.1),
      omega (arith, few, got.2),
      c.self.invariant.3,
      c.if-self.true,
    )

pub invariant_of-self-else-self : goal.invariant_of-self-else-self
invariant_of-self-else-self g c =
    let old : List ℕ = held_of c.self.inside.window in
    let same : old ≡ c.args.self.now.held = ap (λ (l : LinesData). l.held) c.self.view_is in
    let bare : feed_at old ≡ length old = subst (λ (l : List ℕ). feed_at l ≡ length l) (sym same) c.requires.bare in
    let got = c.in-Bytes.ensures in
    let failure : c.self.inside.failure ≡ None = ap (λ (l : LinesData). l.failure) c.self.view_is ∙ c.requires.none in
    let few = before_limit c.self.inside.failure c.self.inside.limit c.self.inside.taken failure c.self.invariant.4 in
    let more = ap length got.3 ∙ length-append old got.0 in (
      scanned old (held_of c.fill.new.self) c.held.result.now got.0 c.len-len.result c.line_len.result bare c.len-len.ensures got.3 c.held.ensures c.line_len.ensures.len,
      omega (arith, more, got.1, c.self.invariant.1),
      omega (arith, few, got.2),
      c.self.invariant.3,
      behind_limit c.self.inside.failure c.self.inside.limit _ failure c.if-self.false,
    )

pub returns-in-Failed-clause-reads : goal.returns-in-Failed-clause-reads
returns-in-Failed-clause-reads g c =
    let got = c.in-Failed.ensures in (
      [],
      record {
        consumed = Consumes-kept _ _ _ [] (Consumes-nil _) got.1;
        held = got.0 ∙ ap (λ (l : LinesData). l.held) c.self.view_is ∙ sym (append-nil c.args.self.now.held);
        taken = omega (arith, ap (λ (l : LinesData). l.taken) c.self.view_is);
        given = ap (λ (l : LinesData). l.given) c.self.view_is;
        limit = ap (λ (l : LinesData). l.limit) c.self.view_is;
        closed = λ ended. absurd (true≢false (sym ended ∙ c.requires.running));
        end = λ ended. inl (sym (ap (λ (l : LinesData). l.ended) c.self.view_is) ∙ ended);
        lazy = inl (needed_now c.args.self.now [] c.requires (omega arith) (room_left c.args.self.now c.requires (subst (λ (l : LinesData). KeepsLimit l.failure l.limit l.taken) c.self.view_is c.self.invariant.4)));
      },
    )
