use Rattle.std.proofs.Common.{arith}
use Rattle.std.proofs.lemmas.Grind.{common_steps}
use Rattle.std.proofs.lemmas.List.{take_rest}
use Rattle.drn_lexer.proofs.Cuts.{at_end, first_line}
use Rattle.drn_lexer.proofs.line.raw_line.Goals as goal

pub returns-then-is_empty-clause-none : goal.returns-then-is_empty-clause-none
returns-then-is_empty-clause-none c = at_end _ _ _ c.requires (take_rest c.args.text.now c.args.place.at) (grind (arith, common_steps))

pub returns-clause-line : goal.returns-clause-line
returns-clause-line c = first_line _ _ c.args.place _ c.requires (take_rest c.args.text.now c.args.place.at) (grind (arith, common_steps)) c.line_len-len.ensures.len c.line_len-len.ensures.within
