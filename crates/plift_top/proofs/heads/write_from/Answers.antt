use Rattle.std.proofs.Common.{◌≡◌, ap, sym, subst, ◌∙◌, append-nil, codes, List, ℕ}
use Rattle.std.specs.List.{concat}
use Rattle.lift_base.specs.Outside.{Wrote}
use Rattle.cert_text.specs.Report.{line, number_words, from_lines}
use Rattle.plift_top.proofs.heads.write_from.Goals as goal

pub returns-in-Some : goal.returns-in-Some
returns-in-Some g c =
    let own = line (number_words (codes "from") c.in-Some.v) in
    let written : Wrote g.K.Sink.taken g.K.Sink.faults c.args.out.now c.write_words.new.out c.write_words.result own = rw c.from.ensures at c.write_words.ensures in
    let same : concat (from_lines c.args.from) ≡ own = ap (λ f. concat (from_lines f)) c.in-Some.is ∙ append-nil own in
    subst (λ (bytes : List ℕ). Wrote g.K.Sink.taken g.K.Sink.faults c.args.out.now c.write_words.new.out c.write_words.result bytes) (sym same) written
