use Rattle.std.proofs.Common.{◌+◌, ◌-◌, ◌%◌, refl, arith}
use Rattle.std.proofs.lemmas.Simd.{zip2_splat}
use Rattle.drn_lexer.specs.Bytes.{is_other_byte}
use Rattle.drn_lexer.proofs.Lanes.{at_most, joined, from_splat, masked}
use Rattle.drn_lexer.proofs.bytes.others.Goals as goal

pub returns : goal.returns
returns c =
    let v = c.args.bytes in
    let long = c.fits-bytes.0 in
    masked _ is_other_byte v _ (omega arith) c.fits-bytes.1
    (joined _ _ _ v (from_splat at_most _ 95 16 v long (zip2_splat (λ a b. (a + (256 - b)) % 256) v 16 32 long)) (zip2_splat _ v 16 9 long)) refl
