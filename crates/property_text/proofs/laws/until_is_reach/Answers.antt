use Rattle.property_text.proofs.Matching.{until_is_reach, memoryless_until_is_reach, cut_keeps_choices, reach_is_until}
use Rattle.property_text.proofs.Whole.{cut_of_none}
use Rattle.property_text.proofs.laws.until_is_reach.Goals as goal

pub returns : goal.returns
returns c = record { plans = until_is_reach; memoryless = memoryless_until_is_reach; choices = cut_keeps_choices; safe = reach_is_until; same = cut_of_none }
