-- The values of the command line: their grammars and ranges.
use Prim.Native.Char.{code}
use Rattle.std.specs.Prelude.{◌==◌, ◌&&◌, ◌-◌, ◌*ℤ◌, ℕ, pos, unsigned_abs, int_le, int_lt, List, length, Option, Some, None, Bool, not, nat_le, nat_lt, if◌then◌else◌, option_and_then}
use Rattle.std.specs.List.{list_all}
use Rattle.std.specs.Char.{is_ascii_digit}
use Rattle.std.specs.Str.Parse.{digits_value}
use Rattle.lift_frac.specs.Ratio.{Ratio}
use Rattle.lift_frac.specs.Written.{written_ratio}
use Rattle.lift_cert.specs.Bound.{part_limit}
use Rattle.lift_cert.specs.declared.bound.Bound.{Bound}
use Rattle.lift_cost.specs.declared.question.Budget.{Budget}
use Rattle.model_gen.specs.Ladder.{most_blocks}

-- a byte of a label: a visible one, or the space
abbrev pub is_label_byte : ℕ → Bool
is_label_byte b = nat_le (code " ") b && nat_le b (code "~")

-- a goal label: one or more such bytes
abbrev pub goal_of : List ℕ → Option (List ℕ)
goal_of word = if list_all is_label_byte word && not (length word == 0) then Some word else None

-- a byte of a reward's name: a visible one
abbrev pub is_name_byte : ℕ → Bool
is_name_byte b = nat_lt (code " ") b && nat_le b (code "~")

-- a reward's name: one or more such bytes
abbrev pub reward_of : List ℕ → Option (List ℕ)
reward_of word = if list_all is_name_byte word && not (length word == 0) then Some word else None

-- a number of one digit or more, up to so many
abbrev pub number_of : ℕ → List ℕ → Option ℕ
number_of most word = if list_all is_ascii_digit word && not (length word == 0) && nat_le (length word) most then Some (digits_value 10 word) else None

-- such a number within a range
abbrev pub number_within : ℕ → ℕ → ℕ → List ℕ → Option ℕ
number_within most low high word = option_and_then (λ n. if nat_le low n && nat_le n high then Some n else None) (number_of most word)

-- how many digits the number of an option has at most
abbrev pub most_option_digits : ℕ
most_option_digits = 3

-- the number of an option, within a range
abbrev pub option_number : ℕ → ℕ → List ℕ → Option ℕ
option_number low high word = number_within most_option_digits low high word

-- how many digits a number of steps has at most
abbrev pub most_step_digits : ℕ
most_step_digits = 2

-- how many steps may be asked for at most
abbrev pub most_steps : ℕ
most_steps = 64

-- a number of steps: at least one
abbrev pub steps_of : List ℕ → Option ℕ
steps_of word = number_within most_step_digits 1 most_steps word

-- how many digits a number of blocks has at most
abbrev pub most_block_digits : ℕ
most_block_digits = 5

-- a number of blocks: at least one, and at most as many as a ladder has
abbrev pub blocks_of : List ℕ → Option ℕ
blocks_of word = number_within most_block_digits 1 most_blocks word

-- a fraction in lowest terms, where it is from 0 to 1 and its denominator is below the limit of a bound's parts
abbrev pub bound_by : Ratio → Option Bound
bound_by q = if int_le (pos 0) q.num && int_le q.num q.den && int_lt q.den (pos part_limit)
    then Some (record { num = unsigned_abs q.num; den = unsigned_abs q.den }) else None

-- a bound: a fraction from 0 to 1 whose denominator in lowest terms is below the limit
abbrev pub bound_of : List ℕ → Option Bound
bound_of word = option_and_then bound_by (written_ratio word)

-- how many digits a cap has at most
abbrev pub most_cap_digits : ℕ
most_cap_digits = 10

-- the greatest cap
abbrev pub most_cap : ℕ
most_cap = part_limit - 1

-- a cap: at least 1
abbrev pub cap_of : List ℕ → Option ℕ
cap_of word = number_within most_cap_digits 1 most_cap word

-- a fraction in lowest terms, where it is from 0 to the cap and its denominator is below the limit of a bound's parts
abbrev pub budget_by : ℕ → Ratio → Option Budget
budget_by cap q = if int_le (pos 0) q.num && int_le q.num (pos cap *ℤ q.den) && int_lt q.den (pos part_limit)
    then Some (record { num = unsigned_abs q.num; den = unsigned_abs q.den }) else None

-- a budget: a fraction from 0 to the cap, written as a bound is
abbrev pub budget_of : ℕ → List ℕ → Option Budget
budget_of cap word = option_and_then (budget_by cap) (written_ratio word)
