use Rattle.std.proofs.Common.{inl, arith}
use Rattle.corner_lift.specs.Case.{number}
use Rattle.corner_lift.specs.Certificate.{mark}
use Rattle.robust_rank.specs.Staging.{allows}
use Rattle.lower_cert.proofs.Means.{state_of}
use Rattle.lower_cert.proofs.lower.rank_states.Goals as goal

pub attract-requires : goal.attract-requires
attract-requires g c =
    rw (c.case.ensures, c.links.ensures, c.weights.ensures)
    (record { links = c.w.ensures.links; table = c.requires.0; rows = omega (arith, c.allow.auto.allowed, c.requires.1.1.allowed) }, (c.requires.1.1.ranks, c.requires.1.1.picks))

pub returns : goal.returns
returns g c =
    let k = c.args.rows.now.case in
    let stages = rw c.case.ensures at c.attract.ensures.stages in
    let others = rw c.case.ensures at c.attract.ensures.others in
    record {
      sizes = (omega (arith, c.attract.auto.picks, c.requires.1.1.picks), omega (arith, c.attract.auto.ranks, c.requires.1.1.ranks));
      stages = c.ranks_go_by_stages.ensures.test k g.spans (allows k.model c.allow.new.allowed) (number c.args.lane.now) (mark c.attract.new.picks) (mark c.attract.new.ranks)
          (λ s g a lt. let state = state_of k.model s a lt in c.allow.ensures.flagged s a (record { state = state; choice = lt }) (inl state)) stages;
      others = others;
    }
