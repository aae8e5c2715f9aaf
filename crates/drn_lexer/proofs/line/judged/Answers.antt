use Rattle.std.proofs.Common.{◌∙◌, ap}
use Rattle.std.specs.Prelude.{slice_range}
use Rattle.std.specs.List.{list_all}
use Rattle.drn_lexer.specs.Bytes.{is_text_byte}
use Rattle.drn_lexer.proofs.Plain.{content_passes}
use Rattle.drn_lexer.proofs.line.judged.Goals as goal

pub is_text-requires : goal.is_text-requires
is_text-requires c known = ap (list_all is_text_byte) c.content_of-line.ensures.content ∙ content_passes is_text_byte (slice_range c.args.text.now c.args.raw.line.from c.args.raw.line.to) (c.requires.is_text known)
