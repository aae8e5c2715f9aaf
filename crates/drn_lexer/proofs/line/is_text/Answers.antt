use Rattle.std.proofs.Common.{◌∙◌, ap}
use Rattle.std.specs.Prelude.{◌==◌, length}
use Rattle.drn_lexer.specs.Bytes.{is_text_byte}
use Rattle.drn_lexer.proofs.Plain.{all_by_front}
use Rattle.drn_lexer.proofs.line.is_text.Goals as goal

pub returns-else-is_known : goal.returns-else-is_known
returns-else-is_known c = ap (λ n. n == length c.args.content.now) c.text_len.ensures.len ∙ all_by_front is_text_byte c.args.content.now
