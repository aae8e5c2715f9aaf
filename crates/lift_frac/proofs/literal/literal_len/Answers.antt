use Rattle.std.proofs.Common.{ℕ, List, ap}
use Rattle.lift_frac.specs.Literal.{Literal}
use Rattle.lift_frac.proofs.Longest.{literal_taken, literal_dropped, longest}
use Rattle.lift_frac.proofs.literal.literal_len.Goals as goal

pub returns-clause-literal : goal.returns-clause-literal
returns-clause-literal c =
    let rest = ap (λ (p : Literal × List ℕ). p.1) c.literal_at.ensures.value in
    rw rest (literal_taken c.args.text.now c.requires)

pub returns-clause-rest : goal.returns-clause-rest
returns-clause-rest c =
    let rest = ap (λ (p : Literal × List ℕ). p.1) c.literal_at.ensures.value in
    rw rest (literal_dropped c.args.text.now c.requires)

pub returns-clause-longest : goal.returns-clause-longest
returns-clause-longest c = λ n l within writes.
    let rest = ap (λ (p : Literal × List ℕ). p.1) c.literal_at.ensures.value in
    rw rest (longest c.args.text.now n l within writes)
