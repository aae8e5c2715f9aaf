use Rattle.drn_read.proofs.Sound.{text_valid}
use Rattle.drn_read.proofs.laws.texts_are_valid.Goals as goal

pub returns : goal.returns
returns c =
    text_valid
    (record { readings = c.readings_follow.ensures.over; sums = c.coefficients_determine.ensures.polynomial; multiples = c.divisors_and_multiples.ensures.at_least })
