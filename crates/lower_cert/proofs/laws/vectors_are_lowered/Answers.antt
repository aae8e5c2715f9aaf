use Rattle.lower_cert.proofs.Capped.{capped_is_below, capping_keeps, quotient_caps, staying_caps, caps_more, level_caps, capping_keeps_under}
use Rattle.lower_cert.proofs.Closed.{closed_is_above}
use Rattle.lower_cert.proofs.Stuck.{stuck_are_capped, stages_are_greatest, greatest_is_one}
use Rattle.lower_cert.proofs.Guess.{guess_is_above, small_refutes}
use Rattle.lower_cert.proofs.Holding.{held_that_fell, held_higher}
use Rattle.lower_cert.proofs.laws.vectors_are_lowered.Goals as goal

pub returns : goal.returns
returns c =
    let laws = c.premises.ensures in
    record {
      below = capped_is_below laws;
      keeps = capping_keeps laws;
      quotient = quotient_caps;
      staying = staying_caps laws;
      more = caps_more laws;
      level = level_caps;
      start = closed_is_above laws;
      stuck = stuck_are_capped laws;
      greatest = stages_are_greatest;
      one = greatest_is_one;
      under = capping_keeps_under laws;
      guess = guess_is_above laws;
      refutes = small_refutes;
      fell = held_that_fell laws;
      higher = held_higher laws;
    }
