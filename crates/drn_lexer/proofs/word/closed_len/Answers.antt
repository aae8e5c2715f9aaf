use Rattle.std.proofs.Common.{arith, ap, ◌+◌, Some}
use Rattle.std.specs.Prelude.{◌==◌}
use Rattle.drn_lexer.proofs.Pieces.{any_passes, none_passes}
use Rattle.drn_lexer.proofs.word.closed_len.Goals as goal

pub returns-then-len-text-clause-len : goal.returns-then-len-text-clause-len
returns-then-len-text-clause-len c =
    let any = any_passes (λ b. b == c.args.end) c.args.text.now (omega arith) in
    rw any (ap (λ n. Some (n + 1)) c.len_before-len.ensures.len)

pub returns-else-len-text-clause-len : goal.returns-else-len-text-clause-len
returns-else-len-text-clause-len c =
    let none = none_passes (λ b. b == c.args.end) c.args.text.now (omega arith) in
    rw none
