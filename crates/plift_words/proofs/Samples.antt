-- The definitions tried on lines that were worked out by hand.
use Rattle.std.proofs.Common.{◌≡◌, [], ◌∷◌, codes, Ok, Err, Some, None, refl}
use Rattle.lift_frac.specs.Gcd.{gcd}
use Rattle.lift_cert.specs.declared.bound.Bound.{Bound}
use Rattle.plift_words.specs.Line.{options}
use Rattle.plift_words.specs.Job.{VerifyData, job}
use Rattle.plift_words.specs.Job.JobData.{verify, check, migrate, refine, generate, selftest}
use Rattle.plift_words.specs.declared.job.Field.TheVariants as field
use Rattle.plift_words.specs.declared.query.Query.TheVariants as query
use Rattle.property_text.specs.declared.op.Op.TheVariants.{AtLeast, Below}

half : Bound
half = record { num = 1; den = 2 }

at_most_half : VerifyData
at_most_half = record { goal = codes "heads"; safe = None; reward = None; region = []; depth = 5; precision = 4; query = query.Whole half None }

-- the words in another order and in both spellings, with a bound that isn't in lowest terms
asks : job (codes "verify" ∷ codes "--depth=5" ∷ codes "--bound" ∷ codes "2/4" ∷ codes "--goal=heads" ∷ codes "--precision" ∷ codes "04" ∷ []) ≡ Ok (verify at_most_half)
unfolding at_most_half half gcd
asks = refl

-- the same bound as a decimal
asks_decimal : job (codes "verify" ∷ codes "--depth=5" ∷ codes "--bound=5e-1" ∷ codes "--goal=heads" ∷ codes "--precision=4" ∷ []) ≡ Ok (verify at_most_half)
unfolding at_most_half half gcd
asks_decimal = refl

-- the region is the text behind the first `=`, as it stands
asks_region : job (codes "verify" ∷ codes "--goal=heads" ∷ codes "--bound=1/2" ∷ codes "--region=1/10<=p<=2/5" ∷ codes "--depth=5" ∷ codes "--precision=4" ∷ [])
    ≡ Ok (verify (record at_most_half { region = codes "1/10<=p<=2/5" }))
unfolding at_most_half half gcd
asks_region = refl

-- what is left out: no region, the depth 0 and the precision 24
asks_least : job (codes "verify" ∷ codes "--goal=heads" ∷ codes "--bound=1/2" ∷ []) ≡ Ok (verify (record at_most_half { depth = 0; precision = 24 }))
unfolding at_most_half half gcd
asks_least = refl

-- within a number of steps
asks_within : job (codes "bounded" ∷ codes "--goal=heads" ∷ codes "--steps" ∷ codes "64" ∷ codes "--bound=1/2" ∷ codes "--depth=5" ∷ codes "--precision=4" ∷ []) ≡ Ok (verify (record at_most_half { query = query.Within half 64 }))
unfolding at_most_half half gcd
asks_within = refl

-- by the quotient of a chain
asks_lumped : job (codes "lumped" ∷ codes "--goal=heads" ∷ codes "--bound=1/2" ∷ codes "--depth=5" ∷ codes "--precision=4" ∷ []) ≡ Ok (verify (record at_most_half { query = query.Lumped half }))
unfolding at_most_half half gcd
asks_lumped = refl

lumped_within : job (codes "lumped" ∷ codes "--goal=heads" ∷ codes "--bound=1/2" ∷ codes "--steps=4" ∷ []) ≡ Err field.Words
lumped_within = refl

-- by a formula, with a label of safe states and without one
asks_until : job (codes "property" ∷ codes "--depth=5" ∷ codes "--formula" ∷ codes "P>=2/4 [ \"up\" U \"heads\" ]" ∷ codes "--precision=4" ∷ []) ≡ Ok (verify (record at_most_half { safe = Some (codes "up"); query = query.Property half AtLeast None }))
unfolding at_most_half half gcd
asks_until = refl

asks_eventually : job (codes "property" ∷ codes "--formula=P<0.5[F\"heads\"]" ∷ codes "--region" ∷ codes "p<=2/5" ∷ codes "--depth=5" ∷ codes "--precision=4" ∷ [])
    ≡ Ok (verify (record at_most_half { region = codes "p<=2/5"; query = query.Property half Below None }))
unfolding at_most_half half gcd
asks_eventually = refl

-- no formula, a bound out of its range, and a formula before a depth
no_formula : job (codes "property" ∷ codes "--formula" ∷ codes "P<=1/2 F \"heads\"" ∷ []) ≡ Err field.Formula
no_formula = refl

formula_bound : job (codes "property" ∷ codes "--formula" ∷ codes "P<=3/2 [ F \"heads\" ]" ∷ []) ≡ Err field.FormulaBound
unfolding gcd
formula_bound = refl

formula_first : job (codes "property" ∷ codes "--depth=21" ∷ codes "--formula" ∷ codes "P<=3/2 [ F \"heads\" ]" ∷ []) ≡ Err field.FormulaBound
unfolding gcd
formula_first = refl

-- what is paid, by a name, a cap and a budget that isn't in lowest terms
two_of_four : VerifyData
two_of_four = record { goal = codes "heads"; safe = None; reward = Some (codes "steps"); region = []; depth = 5; precision = 4; query = query.Cost (record { cap = 4; budget = record { num = 2; den = 1 } }) }

asks_cost : job (codes "cost" ∷ codes "--budget" ∷ codes "4/2" ∷ codes "--goal=heads" ∷ codes "--reward=steps" ∷ codes "--cap" ∷ codes "04" ∷ codes "--depth=5" ∷ codes "--precision=4" ∷ []) ≡ Ok (verify two_of_four)
unfolding two_of_four gcd
asks_cost = refl

whole_cap : job (codes "cost" ∷ codes "--budget=4" ∷ codes "--goal=heads" ∷ codes "--reward=steps" ∷ codes "--cap=4" ∷ codes "--depth=5" ∷ codes "--precision=4" ∷ [])
    ≡ Ok (verify (record two_of_four { query = query.Cost (record { cap = 4; budget = record { num = 4; den = 1 } }) }))
unfolding two_of_four gcd
whole_cap = refl

-- the least and the greatest cap, one more, too many digits, and a budget above the cap
no_budget : job (codes "cost" ∷ codes "--budget=0" ∷ codes "--goal=heads" ∷ codes "--reward=steps" ∷ codes "--cap=0000000001" ∷ codes "--depth=5" ∷ codes "--precision=4" ∷ [])
    ≡ Ok (verify (record two_of_four { query = query.Cost (record { cap = 1; budget = record { num = 0; den = 1 } }) }))
unfolding two_of_four gcd
no_budget = refl

great_cap : job (codes "cost" ∷ codes "--budget=1/2" ∷ codes "--goal=heads" ∷ codes "--reward=steps" ∷ codes "--cap=4294967295" ∷ codes "--depth=5" ∷ codes "--precision=4" ∷ [])
    ≡ Ok (verify (record two_of_four { query = query.Cost (record { cap = 4294967295; budget = record { num = 1; den = 2 } }) }))
unfolding two_of_four gcd
great_cap = refl

too_great_cap : job (codes "cost" ∷ codes "--budget=1/2" ∷ codes "--goal=heads" ∷ codes "--reward=steps" ∷ codes "--cap=4294967296" ∷ []) ≡ Err field.Cap
too_great_cap = refl

no_cap : job (codes "cost" ∷ codes "--budget=1/2" ∷ codes "--goal=heads" ∷ codes "--reward=steps" ∷ codes "--cap=0" ∷ []) ≡ Err field.Cap
no_cap = refl

eleven_digits : job (codes "cost" ∷ codes "--budget=1/2" ∷ codes "--goal=heads" ∷ codes "--reward=steps" ∷ codes "--cap=00000000001" ∷ []) ≡ Err field.Cap
eleven_digits = refl

above_the_cap : job (codes "cost" ∷ codes "--budget=9/2" ∷ codes "--goal=heads" ∷ codes "--reward=steps" ∷ codes "--cap=4" ∷ []) ≡ Err field.Budget
unfolding gcd
above_the_cap = refl

-- the order of what is at fault
reward_first : job (codes "cost" ∷ codes "--budget=9/2" ∷ codes "--goal=heads" ∷ codes "--reward" ∷ codes "all steps" ∷ codes "--cap=0" ∷ []) ≡ Err field.Reward
reward_first = refl

precision_before_reward : job (codes "cost" ∷ codes "--budget=9/2" ∷ codes "--goal=heads" ∷ codes "--reward" ∷ codes "all steps" ∷ codes "--cap=0" ∷ codes "--precision=0" ∷ []) ≡ Err field.Precision
precision_before_reward = refl

-- without a cap, with a bound, and for another command
cost_of_none : job (codes "cost" ∷ codes "--budget=1/2" ∷ codes "--goal=heads" ∷ codes "--reward=steps" ∷ []) ≡ Err field.Words
cost_of_none = refl

cost_with_bound : job (codes "cost" ∷ codes "--budget=1/2" ∷ codes "--bound=1/2" ∷ codes "--goal=heads" ∷ codes "--reward=steps" ∷ codes "--cap=4" ∷ []) ≡ Err field.Words
cost_with_bound = refl

verify_with_cap : job (codes "verify" ∷ codes "--goal=heads" ∷ codes "--bound=1/2" ∷ codes "--cap=4" ∷ []) ≡ Err field.Words
verify_with_cap = refl

-- none, one beside a goal or for another command, and a range
property_of_none : job (codes "property" ∷ codes "--depth=5" ∷ []) ≡ Err field.Words
property_of_none = refl

property_of_goal : job (codes "property" ∷ codes "--goal=heads" ∷ codes "--formula" ∷ codes "P<=1/2 [ F \"heads\" ]" ∷ []) ≡ Err field.Words
property_of_goal = refl

verify_formula : job (codes "verify" ∷ codes "--goal=heads" ∷ codes "--bound=1/2" ∷ codes "--formula" ∷ codes "P<=1/2 [ F \"heads\" ]" ∷ []) ≡ Err field.Words
verify_formula = refl

-- with the least precision of a range, from 1 to the precision
asks_from : job (codes "verify" ∷ codes "--from" ∷ codes "001" ∷ codes "--goal=heads" ∷ codes "--bound=1/2" ∷ codes "--depth=5" ∷ codes "--precision=4" ∷ []) ≡ Ok (verify (record at_most_half { query = query.Whole half (Some 1) }))
unfolding at_most_half half gcd
asks_from = refl

from_the_precision : job (codes "verify" ∷ codes "--from=4" ∷ codes "--goal=heads" ∷ codes "--bound=1/2" ∷ codes "--depth=5" ∷ codes "--precision=4" ∷ []) ≡ Ok (verify (record at_most_half { query = query.Whole half (Some 4) }))
unfolding at_most_half half gcd
from_the_precision = refl

from_above : job (codes "verify" ∷ codes "--from=5" ∷ codes "--goal=heads" ∷ codes "--bound=1/2" ∷ codes "--depth=5" ∷ codes "--precision=4" ∷ []) ≡ Err field.From
unfolding gcd
from_above = refl

from_zero : job (codes "verify" ∷ codes "--from=0" ∷ codes "--goal=heads" ∷ codes "--bound=1/2" ∷ []) ≡ Err field.From
unfolding gcd
from_zero = refl

from_four_digits : job (codes "verify" ∷ codes "--from=0001" ∷ codes "--goal=heads" ∷ codes "--bound=1/2" ∷ []) ≡ Err field.From
unfolding gcd
from_four_digits = refl

-- of a property too
property_from : job (codes "property" ∷ codes "--from=1" ∷ codes "--depth=5" ∷ codes "--precision=4" ∷ codes "--formula" ∷ codes "P>=1/2 [ F \"heads\" ]" ∷ []) ≡ Ok (verify (record at_most_half { query = query.Property half AtLeast (Some 1) }))
unfolding at_most_half half gcd
property_from = refl

property_from_above : job (codes "property" ∷ codes "--from=25" ∷ codes "--formula" ∷ codes "P<=1/2 [ F \"heads\" ]" ∷ []) ≡ Err field.From
unfolding gcd
property_from_above = refl

-- the precision is told before
precision_before_from : job (codes "verify" ∷ codes "--from=0" ∷ codes "--goal=heads" ∷ codes "--bound=1/2" ∷ codes "--precision=41" ∷ []) ≡ Err field.Precision
unfolding gcd
precision_before_from = refl

-- which `bounded`, `lumped` and `cost` aren't asked
bounded_from : job (codes "bounded" ∷ codes "--goal=heads" ∷ codes "--bound=1/2" ∷ codes "--steps=4" ∷ codes "--from=1" ∷ []) ≡ Err field.Words
bounded_from = refl

lumped_from : job (codes "lumped" ∷ codes "--goal=heads" ∷ codes "--bound=1/2" ∷ codes "--from=1" ∷ []) ≡ Err field.Words
lumped_from = refl

-- a number of steps, which `verify` isn't asked, and `bounded` isn't without
verify_within : job (codes "verify" ∷ codes "--goal=heads" ∷ codes "--bound=1/2" ∷ codes "--steps=4" ∷ []) ≡ Err field.Words
verify_within = refl

bounded_by_none : job (codes "bounded" ∷ codes "--goal=heads" ∷ codes "--bound=1/2" ∷ []) ≡ Err field.Words
bounded_by_none = refl

-- no step, too many, too many digits, and a precision at fault, which is told before
no_step : job (codes "bounded" ∷ codes "--goal=heads" ∷ codes "--bound=1/2" ∷ codes "--steps=0" ∷ []) ≡ Err field.Steps
unfolding gcd
no_step = refl

too_many_steps : job (codes "bounded" ∷ codes "--goal=heads" ∷ codes "--bound=1/2" ∷ codes "--steps=65" ∷ []) ≡ Err field.Steps
unfolding gcd
too_many_steps = refl

three_digits : job (codes "bounded" ∷ codes "--goal=heads" ∷ codes "--bound=1/2" ∷ codes "--steps=064" ∷ []) ≡ Err field.Steps
unfolding gcd
three_digits = refl

precision_first : job (codes "bounded" ∷ codes "--steps=0" ∷ codes "--goal=heads" ∷ codes "--bound=1/2" ∷ codes "--precision=0" ∷ []) ≡ Err field.Precision
unfolding gcd
precision_first = refl

-- an empty text in two words is what a line without a region gives
asks_nothing : job (codes "verify" ∷ codes "--goal=heads" ∷ codes "--bound=1/2" ∷ codes "--region" ∷ [] ∷ codes "--depth=5" ∷ codes "--precision=4" ∷ []) ≡ Ok (verify at_most_half)
unfolding at_most_half half gcd
asks_nothing = refl

-- one word is cut at its first `=`, and a value of two words isn't cut
cuts : options (codes "--goal=a=b" ∷ codes "--goal" ∷ codes "=x" ∷ codes "--goal=" ∷ codes "--goal" ∷ [])
    ≡ record { name = codes "--goal"; value = Some (codes "a=b") } ∷ record { name = codes "--goal"; value = Some (codes "=x") }
    ∷ record { name = codes "--goal"; value = None } ∷ record { name = codes "--goal"; value = None } ∷ []
cuts = refl

-- an option that stands twice, and a value that begins with `-`
twice : job (codes "verify" ∷ codes "--goal" ∷ codes "heads" ∷ codes "--goal=heads" ∷ codes "--bound" ∷ codes "1/2" ∷ []) ≡ Err field.Words
twice = refl

dash : job (codes "verify" ∷ codes "--goal=-x" ∷ codes "--bound" ∷ codes "1/2" ∷ []) ≡ Err field.Words
dash = refl

-- the first value at fault is told
first_fault : job (codes "verify" ∷ codes "--goal" ∷ codes "heads" ∷ codes "--bound" ∷ codes "3/2" ∷ codes "--depth" ∷ codes "21" ∷ []) ≡ Err field.Bound
unfolding gcd
first_fault = refl

-- the other commands
checks : job (codes "check" ∷ []) ≡ Ok check
checks = refl

checks_nothing_more : job (codes "check" ∷ codes "x" ∷ []) ≡ Err field.Words
checks_nothing_more = refl

migrates : job (codes "migrate" ∷ []) ≡ Ok migrate
migrates = refl

migrates_nothing_more : job (codes "migrate" ∷ codes "x" ∷ []) ≡ Err field.Words
migrates_nothing_more = refl

refines : job (codes "refine" ∷ codes "--depth=7" ∷ []) ≡ Ok (refine 7)
refines = refl

refines_by_two_words : job (codes "refine" ∷ codes "--depth" ∷ codes "020" ∷ []) ≡ Ok (refine 20)
refines_by_two_words = refl

-- no depth, a depth of 0, one that is too great, two, another option, and a word behind it
refines_nothing : job (codes "refine" ∷ []) ≡ Err field.Words
refines_nothing = refl

refines_to_0 : job (codes "refine" ∷ codes "--depth=0" ∷ []) ≡ Err field.Depth
refines_to_0 = refl

refines_too_deep : job (codes "refine" ∷ codes "--depth=21" ∷ []) ≡ Err field.Depth
refines_too_deep = refl

refines_twice : job (codes "refine" ∷ codes "--depth=7" ∷ codes "--depth=7" ∷ []) ≡ Err field.Words
refines_twice = refl

refines_by_another : job (codes "refine" ∷ codes "--precision=7" ∷ []) ≡ Err field.Words
refines_by_another = refl

refines_nothing_more : job (codes "refine" ∷ codes "--depth" ∷ codes "7" ∷ codes "x" ∷ []) ≡ Err field.Words
refines_nothing_more = refl

generates : job (codes "generate" ∷ codes "00005" ∷ []) ≡ Ok (generate 5)
generates = refl

tests_the_greatest : job (codes "selftest" ∷ codes "32767" ∷ []) ≡ Ok (selftest 32767)
tests_the_greatest = refl

-- a number of blocks out of its range, of too many digits, or none
too_many_blocks : job (codes "generate" ∷ codes "32768" ∷ []) ≡ Err field.Blocks
too_many_blocks = refl

no_blocks : job (codes "generate" ∷ codes "0" ∷ []) ≡ Err field.Blocks
no_blocks = refl

six_digits : job (codes "selftest" ∷ codes "000005" ∷ []) ≡ Err field.Blocks
six_digits = refl

no_number : job (codes "selftest" ∷ [] ∷ []) ≡ Err field.Blocks
no_number = refl

-- one word alone, which doesn't begin with `-`
dash_blocks : job (codes "generate" ∷ codes "-5" ∷ []) ≡ Err field.Words
dash_blocks = refl

two_numbers : job (codes "generate" ∷ codes "5" ∷ codes "5" ∷ []) ≡ Err field.Words
two_numbers = refl

cost_from : job (codes "cost" ∷ codes "--goal=heads" ∷ codes "--reward=steps" ∷ codes "--budget=1" ∷ codes "--cap=2" ∷ codes "--from=1" ∷ []) ≡ Err field.Words
cost_from = refl
