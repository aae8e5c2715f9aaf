use Rattle.std.proofs.Common.{◌∙◌, sym, ap}
use Rattle.std.proofs.lemmas.Bool.{eqb-true}
use Rattle.line_text.specs.Words.{words}
use Rattle.line_text.specs.Shown.{begins_alone}
use Rattle.line_text.proofs.Alone.{none_alone, space_alone, other_alone}
use Rattle.line_text.proofs.words.is_alone.Goals.{then-byte-eq32-via-then-byte-eq32, then-byte-eq32-via-else-byte-eq32+then-is_empty, then-byte-eq32-via-else-byte-eq32+else-is_empty+then-text-byte}
use Rattle.line_text.proofs.words.is_alone.Goals as goal

pub returns-then-byte-eq32-clause-value : goal.returns-then-byte-eq32-clause-value
returns-then-byte-eq32-clause-value c =
    elim c.then-byte-eq32.branch [
      | then-byte-eq32-via-then-byte-eq32 w ↦ sym (ap (λ b. begins_alone b (words c.args.text.now)) w.if-byte-eq32.true ∙ space_alone c.args.text.now)
      | then-byte-eq32-via-else-byte-eq32+then-is_empty w ↦ sym (none_alone c.args.byte c.args.text.now (eqb-true _ 0 (sym w.is_empty.ensures ∙ w.if-is_empty.true)))
      | then-byte-eq32-via-else-byte-eq32+else-is_empty+then-text-byte w ↦ sym (other_alone c.args.byte c.args.text.now w.if-text-byte.true)
    ]
