use Rattle.std.proofs.Common.{refl, []}
use Rattle.audit_cert.specs.Held.{ranking_of}
use Rattle.audit_cert.proofs.Forms.{ranks_only, ranks_some}
use Rattle.audit_cert.proofs.Saying.{granted}
use Rattle.audit_cert.proofs.quick.is_row_fast.Goals as goal

pub returns-in-None : goal.returns-in-None
returns-in-None g c = rw c.in-None.is (granted (λ n lt. tt))

pub is_row_fast-requires : goal.is_row_fast-requires
is_row_fast-requires g c =
    let k = c.args.table.now.case in
    let claim = c.args.claim.now in
    let ranks = ranks_only k (ranking_of claim.numbers.now c.in-Some.ranking) (ranking_of [] c.in-Some.ranking) refl refl refl (ranks_some k claim c.in-Some.ranking c.in-Some.is c.requires.1.1) in
    (c.requires.0, (c.requires.1.0, ranks))

pub returns-in-Some : goal.returns-in-Some
returns-in-Some g c = rw c.in-Some.is c.is_row_fast.ensures
