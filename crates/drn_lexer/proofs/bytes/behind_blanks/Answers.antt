use Rattle.std.proofs.Common.{arith}
use Rattle.drn_lexer.proofs.Pieces.{blanks_cut}
use Rattle.drn_lexer.proofs.bytes.behind_blanks.Goals as goal

pub returns : goal.returns
returns c = blanks_cut c.args.text.now c.args.at c.args.line.to _ c.blanks_len-blanks.ensures.len c.blanks_len-blanks.ensures.within (omega arith) c.requires.line.within
