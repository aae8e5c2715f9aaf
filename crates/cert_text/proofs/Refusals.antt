-- Refused texts, by computation: the report of the coin with one line changed, or cut off, and nodes behind its head.
use Rattle.std.proofs.Common.{◌≡◌, ℕ, refl, List, ◌++◌, ◌-◌, set, take, Result}
use Rattle.std.specs.Prelude.{codes}
use Rattle.std.specs.List.{concat}
use Rattle.lift_frac.specs.Gcd.{gcd}
use Rattle.line_text.specs.declared.error.TextCause.TheVariants.{Syntax, Version, Limit, Truncated}
use Rattle.line_text.specs.declared.error.TextError.{TextError}
use Rattle.line_text.specs.Reading.{Cursor, due, line_at, fault}
use Rattle.cert_text.specs.Head.{HeadData, head_at, from_at, state_at, states_at, behind_first, row_at, entries_at, further_at}
use Rattle.cert_text.specs.Nodes.{node_at, node_by, accept_at, reject_at, rejecting_at, split_at, unknown_at}
use Rattle.cert_text.proofs.ReadSamples.{coin, coin_lines}

-- what is read of the head with another line of that number
unfoldable head_with : ℕ → List ℕ → Result (HeadData × Cursor) TextError
head_with n line = head_at (1, concat (set coin_lines (n - 1) (line ++ codes "\n")))

init_out : head_with 6 (codes "init 3") ≡ fault 6 Limit
unfolding head_with coin_lines gcd head_at from_at state_at states_at behind_first row_at entries_at further_at due line_at lib.Count.ones
init_out = refl

target_out : head_with 9 (codes "to 3 1:1") ≡ fault 9 Limit
unfolding head_with coin_lines gcd head_at from_at state_at states_at behind_first row_at entries_at further_at due line_at lib.Count.ones
target_out = refl

set_out : head_with 9 (codes "to 1 2:1") ≡ fault 9 Limit
unfolding head_with coin_lines gcd head_at from_at state_at states_at behind_first row_at entries_at further_at due line_at lib.Count.ones
set_out = refl

sets_fall : head_with 10 (codes "to 2 1:-1 0:1") ≡ fault 10 Syntax
unfolding head_with coin_lines gcd head_at from_at state_at states_at behind_first row_at entries_at further_at due line_at lib.Count.ones
sets_fall = refl

precision_out : head_with 16 (codes "precision 41") ≡ fault 16 Limit
unfolding head_with coin_lines gcd head_at from_at state_at states_at behind_first row_at entries_at further_at due line_at lib.Count.ones
precision_out = refl

flat_side : head_with 19 (codes "box 4 4") ≡ fault 19 Syntax
unfolding head_with coin_lines gcd head_at from_at state_at states_at behind_first row_at entries_at further_at due line_at lib.Count.ones
flat_side = refl

other_version : head_with 1 (codes "plift 3") ≡ fault 1 Version
unfolding head_with coin_lines gcd head_at from_at state_at states_at behind_first row_at entries_at further_at due line_at lib.Count.ones
other_version = refl

version_led_by_zero : head_with 1 (codes "plift 01") ≡ fault 1 Syntax
unfolding head_with coin_lines gcd head_at from_at state_at states_at behind_first row_at entries_at further_at due line_at lib.Count.ones
version_led_by_zero = refl

version_two_words : head_with 1 (codes "plift 2 2") ≡ fault 1 Syntax
unfolding head_with coin_lines gcd head_at from_at state_at states_at behind_first row_at entries_at further_at due line_at lib.Count.ones
version_two_words = refl

seventeen : head_with 3 (codes "parameters 17 p") ≡ fault 3 Syntax
unfolding head_with coin_lines gcd head_at from_at state_at states_at behind_first row_at entries_at further_at due line_at lib.Count.ones
seventeen = refl

zero_name : head_with 3 (codes "parameters 1 0p") ≡ fault 3 Syntax
unfolding head_with coin_lines gcd head_at from_at state_at states_at behind_first row_at entries_at further_at due line_at lib.Count.ones
zero_name = refl

two_spaces : head_with 5 (codes "states  3") ≡ fault 5 Syntax
unfolding head_with coin_lines gcd head_at from_at state_at states_at behind_first row_at entries_at further_at due line_at lib.Count.ones
two_spaces = refl

end_space : head_with 5 (codes "states 3 ") ≡ fault 5 Syntax
unfolding head_with coin_lines gcd head_at from_at state_at states_at behind_first row_at entries_at further_at due line_at lib.Count.ones
end_space = refl

states_neg : head_with 5 (codes "states -1") ≡ fault 5 Limit
unfolding head_with coin_lines gcd head_at from_at state_at states_at behind_first row_at entries_at further_at due line_at lib.Count.ones
states_neg = refl

minus_zero : head_with 5 (codes "states -0") ≡ fault 5 Syntax
unfolding head_with coin_lines gcd head_at from_at state_at states_at behind_first row_at entries_at further_at due line_at lib.Count.ones
minus_zero = refl

states_zero : head_with 5 (codes "states 0") ≡ fault 5 Limit
unfolding head_with coin_lines gcd head_at from_at state_at states_at behind_first row_at entries_at further_at due line_at lib.Count.ones
states_zero = refl

led_by_zero : head_with 5 (codes "states 03") ≡ fault 5 Syntax
unfolding head_with coin_lines gcd head_at from_at state_at states_at behind_first row_at entries_at further_at due line_at lib.Count.ones
led_by_zero = refl

plus_sign : head_with 5 (codes "states +3") ≡ fault 5 Syntax
unfolding head_with coin_lines gcd head_at from_at state_at states_at behind_first row_at entries_at further_at due line_at lib.Count.ones
plus_sign = refl

goal_none : head_with 7 (codes "goal 0") ≡ fault 7 Syntax
unfolding head_with coin_lines gcd head_at from_at state_at states_at behind_first row_at entries_at further_at due line_at lib.Count.ones
goal_none = refl

goal_count : head_with 7 (codes "goal 2 1") ≡ fault 7 Syntax
unfolding head_with coin_lines gcd head_at from_at state_at states_at behind_first row_at entries_at further_at due line_at lib.Count.ones
goal_count = refl

goal_out : head_with 7 (codes "goal 1 3") ≡ fault 7 Limit
unfolding head_with coin_lines gcd head_at from_at state_at states_at behind_first row_at entries_at further_at due line_at lib.Count.ones
goal_out = refl

goal_falls : head_with 7 (codes "goal 2 1 1") ≡ fault 7 Syntax
unfolding head_with coin_lines gcd head_at from_at state_at states_at behind_first row_at entries_at further_at due line_at lib.Count.ones
goal_falls = refl

row_other : head_with 8 (codes "row 0 1 2") ≡ fault 8 Syntax
unfolding head_with coin_lines gcd head_at from_at state_at states_at behind_first row_at entries_at further_at due line_at lib.Count.ones
row_other = refl

row_neg : head_with 8 (codes "row 0 0 -2") ≡ fault 8 Syntax
unfolding head_with coin_lines gcd head_at from_at state_at states_at behind_first row_at entries_at further_at due line_at lib.Count.ones
row_neg = refl

row_too_long : head_with 8 (codes "row 0 0 262145") ≡ fault 8 Limit
unfolding head_with coin_lines gcd head_at from_at state_at states_at behind_first row_at entries_at further_at due line_at lib.Count.ones
row_too_long = refl

row_later : head_with 11 (codes "row 0 1 1") ≡ fault 11 Syntax
unfolding head_with coin_lines gcd head_at from_at state_at states_at behind_first row_at entries_at further_at due line_at lib.Count.ones
row_later = refl

repeated : head_with 10 (codes "to 1 0:1 1:-1") ≡ fault 10 Syntax
unfolding head_with coin_lines gcd head_at from_at state_at states_at behind_first row_at entries_at further_at due line_at lib.Count.ones
repeated = refl

zero_coefficient : head_with 9 (codes "to 1 1:0") ≡ fault 9 Syntax
unfolding head_with coin_lines gcd head_at from_at state_at states_at behind_first row_at entries_at further_at due line_at lib.Count.ones
zero_coefficient = refl

wide_coefficient : head_with 9 (codes "to 1 1:1267650600228229401496703205376") ≡ fault 9 Limit
unfolding head_with coin_lines gcd head_at from_at state_at states_at behind_first row_at entries_at further_at due line_at lib.Count.ones
wide_coefficient = refl

bound_low : head_with 15 (codes "bound 2/4") ≡ fault 15 Syntax
unfolding head_with coin_lines gcd head_at from_at state_at states_at behind_first row_at entries_at further_at due line_at lib.Count.ones
bound_low = refl

bound_zero : head_with 15 (codes "bound 1/0") ≡ fault 15 Limit
unfolding head_with coin_lines gcd head_at from_at state_at states_at behind_first row_at entries_at further_at due line_at lib.Count.ones
bound_zero = refl

bound_above : head_with 15 (codes "bound 3/2") ≡ fault 15 Limit
unfolding head_with coin_lines gcd head_at from_at state_at states_at behind_first row_at entries_at further_at due line_at lib.Count.ones
bound_above = refl

bound_neg : head_with 15 (codes "bound -1/2") ≡ fault 15 Limit
unfolding head_with coin_lines gcd head_at from_at state_at states_at behind_first row_at entries_at further_at due line_at lib.Count.ones
bound_neg = refl

bound_whole : head_with 15 (codes "bound 0/2") ≡ fault 15 Syntax
unfolding head_with coin_lines gcd head_at from_at state_at states_at behind_first row_at entries_at further_at due line_at lib.Count.ones
bound_whole = refl

depth_out : head_with 17 (codes "depth 21") ≡ fault 17 Limit
unfolding head_with coin_lines gcd head_at from_at state_at states_at behind_first row_at entries_at further_at due line_at lib.Count.ones
depth_out = refl

grid_zero : head_with 18 (codes "grid 0") ≡ fault 18 Limit
unfolding head_with coin_lines gcd head_at from_at state_at states_at behind_first row_at entries_at further_at due line_at lib.Count.ones
grid_zero = refl

other_kind : head_with 2 (codes "kind ctmc") ≡ fault 2 Syntax
unfolding head_with coin_lines gcd head_at from_at state_at states_at behind_first row_at entries_at further_at due line_at lib.Count.ones
other_kind = refl

end_of_rows : head_with 15 (codes "row 3 0 1") ≡ fault 15 Syntax
unfolding head_with coin_lines gcd head_at from_at state_at states_at behind_first row_at entries_at further_at due line_at lib.Count.ones
end_of_rows = refl

odd_side : head_with 17 (codes "depth 1") ≡ fault 19 Syntax
unfolding head_with coin_lines gcd head_at from_at state_at states_at behind_first row_at entries_at further_at due line_at lib.Count.ones
odd_side = refl

no_parameters : head_with 3 (codes "parameters 0") ≡ fault 9 Limit
unfolding head_with coin_lines gcd head_at from_at state_at states_at behind_first row_at entries_at further_at due line_at lib.Count.ones
no_parameters = refl

name_twice : head_with 3 (codes "parameters 2 p p") ≡ fault 3 Syntax
unfolding head_with coin_lines gcd head_at from_at state_at states_at behind_first row_at entries_at further_at due line_at lib.Count.ones
name_twice = refl

parameters_17 : head_with 3 (codes "parameters 17 a b c d e f g h i j k l m n o p q") ≡ fault 3 Limit
unfolding head_with coin_lines gcd head_at from_at state_at states_at behind_first row_at entries_at further_at due line_at lib.Count.ones
parameters_17 = refl

common_zero : head_with 4 (codes "common 0") ≡ fault 4 Limit
unfolding head_with coin_lines gcd head_at from_at state_at states_at behind_first row_at entries_at further_at due line_at lib.Count.ones
common_zero = refl

common_out : head_with 4 (codes "common 4611686018427387904") ≡ fault 4 Limit
unfolding head_with coin_lines gcd head_at from_at state_at states_at behind_first row_at entries_at further_at due line_at lib.Count.ones
common_out = refl

states_out : head_with 5 (codes "states 65537") ≡ fault 5 Limit
unfolding head_with coin_lines gcd head_at from_at state_at states_at behind_first row_at entries_at further_at due line_at lib.Count.ones
states_out = refl

goal_below_zero : head_with 7 (codes "goal 1 -1") ≡ fault 7 Limit
unfolding head_with coin_lines gcd head_at from_at state_at states_at behind_first row_at entries_at further_at due line_at lib.Count.ones
goal_below_zero = refl

target_below_zero : head_with 9 (codes "to -1 1:1") ≡ fault 9 Limit
unfolding head_with coin_lines gcd head_at from_at state_at states_at behind_first row_at entries_at further_at due line_at lib.Count.ones
target_below_zero = refl

choice_of_a_chain : head_with 14 (codes "row 2 1 1") ≡ fault 14 Syntax
unfolding head_with coin_lines gcd head_at from_at state_at states_at behind_first row_at entries_at further_at due line_at lib.Count.ones
choice_of_a_chain = refl

terms_17 : head_with 9 (codes "to 1 0:1 1:1 2:1 3:1 4:1 5:1 6:1 7:1 8:1 9:1 10:1 11:1 12:1 13:1 14:1 15:1 16:1") ≡ fault 9 Syntax
unfolding head_with coin_lines gcd head_at from_at state_at states_at behind_first row_at entries_at further_at due line_at lib.Count.ones
terms_17 = refl

bound_numerator_out : head_with 15 (codes "bound 4294967296/1") ≡ fault 15 Limit
unfolding head_with coin_lines gcd head_at from_at state_at states_at behind_first row_at entries_at further_at due line_at lib.Count.ones
bound_numerator_out = refl

bound_numerator_first : head_with 15 (codes "bound 4294967296/4294967296") ≡ fault 15 Limit
unfolding head_with coin_lines gcd head_at from_at state_at states_at behind_first row_at entries_at further_at due line_at lib.Count.ones
bound_numerator_first = refl

bound_below_zero_first : head_with 15 (codes "bound -2/-4") ≡ fault 15 Limit
unfolding head_with coin_lines gcd head_at from_at state_at states_at behind_first row_at entries_at further_at due line_at lib.Count.ones
bound_below_zero_first = refl

bound_negative_denominator : head_with 15 (codes "bound 2/-4") ≡ fault 15 Limit
unfolding head_with coin_lines gcd head_at from_at state_at states_at behind_first row_at entries_at further_at due line_at lib.Count.ones
bound_negative_denominator = refl

bound_lowest_before_size : head_with 15 (codes "bound 2/4294967296") ≡ fault 15 Syntax
unfolding head_with coin_lines gcd head_at from_at state_at states_at behind_first row_at entries_at further_at due line_at lib.Count.ones
bound_lowest_before_size = refl

bound_denominator_out : head_with 15 (codes "bound 1/4294967296") ≡ fault 15 Limit
unfolding head_with coin_lines gcd head_at from_at state_at states_at behind_first row_at entries_at further_at due line_at lib.Count.ones
bound_denominator_out = refl

bound_above_one_lowest_first : head_with 15 (codes "bound 6/4") ≡ fault 15 Syntax
unfolding head_with coin_lines gcd head_at from_at state_at states_at behind_first row_at entries_at further_at due line_at lib.Count.ones
bound_above_one_lowest_first = refl

bound_of_one_number : head_with 15 (codes "bound 1") ≡ fault 15 Syntax
unfolding head_with coin_lines gcd head_at from_at state_at states_at behind_first row_at entries_at further_at due line_at lib.Count.ones
bound_of_one_number = refl

precision_zero : head_with 16 (codes "precision 0") ≡ fault 16 Limit
unfolding head_with coin_lines gcd head_at from_at state_at states_at behind_first row_at entries_at further_at due line_at lib.Count.ones
precision_zero = refl

side_too_many : head_with 19 (codes "box 1 4 5") ≡ fault 19 Syntax
unfolding head_with coin_lines gcd head_at from_at state_at states_at behind_first row_at entries_at further_at due line_at lib.Count.ones
side_too_many = refl

side_out : head_with 19 (codes "box 1 4611686018427387904") ≡ fault 19 Limit
unfolding head_with coin_lines gcd head_at from_at state_at states_at behind_first row_at entries_at further_at due line_at lib.Count.ones
side_out = refl

five_in_an_entry : head_at (1, codes "plift 1\nkind dtmc\nparameters 5 a b c d e\ncommon 1\nstates 3\ninit 0\ngoal 1 1\nrow 0 0 2\nto 1 1:1 2:1 4:1 8:1 16:1\n") ≡ fault 9 Limit
unfolding gcd head_at from_at state_at states_at behind_first row_at entries_at further_at due line_at lib.Count.ones
five_in_an_entry = refl

-- ---- cut off

cut_behind_0 : head_at (1, take 0 (concat coin_lines)) ≡ fault 1 Truncated
unfolding coin_lines gcd head_at from_at state_at states_at behind_first row_at entries_at further_at due line_at lib.Count.ones
cut_behind_0 = refl

cut_behind_3 : head_at (1, take 3 (concat coin_lines)) ≡ fault 1 Truncated
unfolding coin_lines gcd head_at from_at state_at states_at behind_first row_at entries_at further_at due line_at lib.Count.ones
cut_behind_3 = refl

cut_behind_7 : head_at (1, take 7 (concat coin_lines)) ≡ fault 1 Truncated
unfolding coin_lines gcd head_at from_at state_at states_at behind_first row_at entries_at further_at due line_at lib.Count.ones
cut_behind_7 = refl

cut_behind_20 : head_at (1, take 20 (concat coin_lines)) ≡ fault 3 Truncated
unfolding coin_lines gcd head_at from_at state_at states_at behind_first row_at entries_at further_at due line_at lib.Count.ones
cut_behind_20 = refl

cut_behind_60 : head_at (1, take 60 (concat coin_lines)) ≡ fault 7 Truncated
unfolding coin_lines gcd head_at from_at state_at states_at behind_first row_at entries_at further_at due line_at lib.Count.ones
cut_behind_60 = refl

cut_behind_100 : head_at (1, take 100 (concat coin_lines)) ≡ fault 11 Truncated
unfolding coin_lines gcd head_at from_at state_at states_at behind_first row_at entries_at further_at due line_at lib.Count.ones
cut_behind_100 = refl

cut_behind_150 : head_at (1, take 150 (concat coin_lines)) ≡ fault 16 Truncated
unfolding coin_lines gcd head_at from_at state_at states_at behind_first row_at entries_at further_at due line_at lib.Count.ones
cut_behind_150 = refl

-- ---- nodes

value_out : node_at coin (20, codes "accept 7 17 0\n") ≡ fault 20 Limit
unfolding coin node_at node_by accept_at reject_at rejecting_at split_at unknown_at due line_at
value_out = refl

value_count : node_at coin (20, codes "accept 7 16\n") ≡ fault 20 Syntax
unfolding coin node_at node_by accept_at reject_at rejecting_at split_at unknown_at due line_at
value_count = refl

value_lead : node_at coin (20, codes "accept 07 16 0\n") ≡ fault 20 Syntax
unfolding coin node_at node_by accept_at reject_at rejecting_at split_at unknown_at due line_at
value_lead = refl

value_minus : node_at coin (20, codes "accept -7 16 0\n") ≡ fault 20 Limit
unfolding coin node_at node_by accept_at reject_at rejecting_at split_at unknown_at due line_at
value_minus = refl

syntax_first : node_at coin (20, codes "accept 7 17 x\n") ≡ fault 20 Syntax
unfolding coin node_at node_by accept_at reject_at rejecting_at split_at unknown_at due line_at
syntax_first = refl

split_none : node_at coin (20, codes "split 1\n") ≡ fault 20 Limit
unfolding coin node_at node_by accept_at reject_at rejecting_at split_at unknown_at due line_at
split_none = refl

unknown_with_a_word : node_at coin (20, codes "unknown 1\n") ≡ fault 20 Syntax
unfolding coin node_at node_by accept_at reject_at rejecting_at split_at unknown_at due line_at
unknown_with_a_word = refl

reject_m : node_at coin (20, codes "reject e 1 k 1 m 2 b 7/16\ny 7 16 0\nchoice 0 - -\nrank 1 0 -\n") ≡ fault 20 Syntax
unfolding coin node_at node_by accept_at reject_at rejecting_at split_at unknown_at due line_at
reject_m = refl

split_below_zero : node_at coin (20, codes "split -1\n") ≡ fault 20 Limit
unfolding coin node_at node_by accept_at reject_at rejecting_at split_at unknown_at due line_at
split_below_zero = refl

no_such_node : node_at coin (20, codes "leaf\n") ≡ fault 20 Syntax
unfolding coin node_at node_by accept_at reject_at rejecting_at split_at unknown_at due line_at
no_such_node = refl

rejecting_e_out : node_at coin (20, codes "reject e 127 k 1 m 127 b 7/16\ny 7 16 0\nchoice 0 - -\nrank 1 0 -\n") ≡ fault 20 Limit
unfolding coin node_at node_by accept_at reject_at rejecting_at split_at unknown_at due line_at
rejecting_e_out = refl

rejecting_k_zero : node_at coin (20, codes "reject e 1 k 0 m 0 b 7/16\ny 7 16 0\nchoice 0 - -\nrank 1 0 -\n") ≡ fault 20 Limit
unfolding coin node_at node_by accept_at reject_at rejecting_at split_at unknown_at due line_at
rejecting_k_zero = refl

rejecting_number : node_at coin (20, codes "reject e 1 k 1 m 1 b 8/16\ny 7 16 0\nchoice 0 - -\nrank 1 0 -\n") ≡ fault 20 Syntax
unfolding coin node_at node_by accept_at reject_at rejecting_at split_at unknown_at due line_at
rejecting_number = refl

rejecting_whole : node_at coin (20, codes "reject e 1 k 1 m 1 b 7/32\ny 7 16 0\nchoice 0 - -\nrank 1 0 -\n") ≡ fault 20 Syntax
unfolding coin node_at node_by accept_at reject_at rejecting_at split_at unknown_at due line_at
rejecting_whole = refl

choice_of_the_goal : node_at coin (20, codes "reject e 1 k 1 m 1 b 7/16\ny 7 16 0\nchoice 0 0 -\nrank 1 0 -\n") ≡ fault 20 Syntax
unfolding coin node_at node_by accept_at reject_at rejecting_at split_at unknown_at due line_at
choice_of_the_goal = refl

no_choice_of_a_ranked : node_at coin (20, codes "reject e 1 k 1 m 1 b 7/16\ny 7 16 0\nchoice - - -\nrank 1 0 -\n") ≡ fault 20 Syntax
unfolding coin node_at node_by accept_at reject_at rejecting_at split_at unknown_at due line_at
no_choice_of_a_ranked = refl

rank_zero : node_at coin (20, codes "reject e 1 k 1 m 1 b 7/16\ny 7 16 0\nchoice 0 - 0\nrank 1 0 0\n") ≡ fault 20 Syntax
unfolding coin node_at node_by accept_at reject_at rejecting_at split_at unknown_at due line_at
rank_zero = refl

choice_out : node_at coin (20, codes "reject e 1 k 1 m 1 b 7/16\ny 7 16 0\nchoice 1 - -\nrank 1 0 -\n") ≡ fault 22 Limit
unfolding coin node_at node_by accept_at reject_at rejecting_at split_at unknown_at due line_at
choice_out = refl

rank_out : node_at coin (20, codes "reject e 1 k 1 m 1 b 7/16\ny 7 16 0\nchoice 0 - -\nrank 2 0 -\n") ≡ fault 23 Limit
unfolding coin node_at node_by accept_at reject_at rejecting_at split_at unknown_at due line_at
rank_out = refl

number_out_in_y : node_at coin (20, codes "reject e 1 k 1 m 1 b 7/16\ny 7 17 0\nchoice 0 - -\nrank 1 0 -\n") ≡ fault 21 Limit
unfolding coin node_at node_by accept_at reject_at rejecting_at split_at unknown_at due line_at
number_out_in_y = refl
