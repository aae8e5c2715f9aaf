-- Rewards in a model text, by this project's profile of the DRN format: a list of names, and groups of values in brackets.
use Prim.Native.Char.{code}
use Rattle.std.specs.Prelude.{ℕ, Bool, true, false, not, List, [], ◌∷◌, ◌==◌, ◌&&◌, ◌-◌, ◌*ℤ◌, take, drop, length, map, unsigned_abs, Option, Some, None, Result, Ok, Err, if◌then◌else◌}
use Rattle.std.specs.List.{list_any, list_all, slice_split}
use Rattle.lift_bytes.specs.Bytes.{is_blank}
use Rattle.lift_bytes.specs.Trimming.{trimmed}
use Rattle.lift_frac.specs.Ratio.{Ratio, fraction}
use Rattle.lift_frac.specs.Literal.{reading}
use Rattle.lift_frac.specs.Written.{cut_at}
use Rattle.lift_frac.specs.declared.error.FracError.{FracError}
use Rattle.lift_frac.specs.declared.error.FracError.TheVariants.{Wide, Zero, BadLiteral}
use Rattle.drn_lexer.specs.Cutting.{Piece}
use Rattle.drn_lexer.specs.Words.{WordKind, unquoted}
use Rattle.drn_lexer.specs.declared.word.WordForm.TheVariants as word
use Rattle.drn_read.specs.Faults.{when, first_of, word_fault}
use Rattle.drn_read.specs.Judging.{is_closed}
use Rattle.drn_read.specs.declared.error.DrnCause.{DrnCause}
use Rattle.drn_read.specs.declared.error.DrnCause.TheVariants.{Syntax, RewardSyntax, RewardWide, ActionReward}
use Rattle.drn_read.specs.declared.owner.Owner.{Owner}
use Rattle.drn_read.specs.declared.owner.Owner.TheVariants.{State, Action}

-- ---- names

-- a word of the list of names; a group has its end
abbrev pub reward_name_fault : Piece WordKind → Option DrnCause
reward_name_fault w = word_fault w (λ form. elim form [ word.Group ↦ when (not (is_closed w)) Syntax | _ ↦ None ])

-- the list of names, whose words are tested one by one
abbrev pub reward_names_fault : List (Piece WordKind) → Option DrnCause
reward_names_fault [] = None
reward_names_fault (w ∷ ws) = elim (reward_name_fault w) [ Some cause ↦ Some cause | None ↦ reward_names_fault ws ]

-- the name that a word of the list is: a quoted one without its quotes, and a group with its brackets
abbrev pub reward_name : Piece WordKind → List ℕ
reward_name w = elim w.form [ Ok form ↦ unquoted form w.bytes | Err fault ↦ w.bytes ]

-- ---- values

-- One literal over another. What is no literal comes first, then a divisor of 0, and then what is too wide.
abbrev pub quotient : Result Ratio FracError → Result Ratio FracError → Result Ratio FracError
quotient (Err BadLiteral) below = Err BadLiteral
quotient above (Err BadLiteral) = Err BadLiteral
quotient above (Ok b) = if unsigned_abs b.num == 0 then Err Zero else (elim above [ Ok a ↦ fraction (a.num *ℤ b.den) (a.den *ℤ b.num) | Err fault ↦ Err Wide ])
quotient above below = Err Wide

-- a value, written `literal` or `literal/literal`
abbrev pub reward_value : List ℕ → Result Ratio FracError
reward_value text = elim (cut_at (code "/") text) [ None ↦ reading text | Some parts ↦ quotient (reading parts.0) (reading parts.1) ]

-- what stands between the brackets of a group
abbrev pub inside : List ℕ → List ℕ
inside group = take (length group - 2) (drop 1 group)

-- the values of a group, with commas between them and blanks around them
abbrev pub reward_values : List ℕ → List (Result Ratio FracError)
reward_values group = map (λ piece. reward_value (trimmed piece)) (slice_split (λ b. b == code ",") (inside group))

-- it isn't written as a value, or its divisor is 0
abbrev pub is_malformed : Result Ratio FracError → Bool
is_malformed value = elim value [ Err BadLiteral ↦ true | Err Zero ↦ true | _ ↦ false ]

-- a part of it is too large
abbrev pub is_too_wide : Result Ratio FracError → Bool
is_too_wide value = elim value [ Err Wide ↦ true | _ ↦ false ]

-- it is a value that isn't 0
abbrev pub is_some_cost : Result Ratio FracError → Bool
is_some_cost value = elim value [ Ok q ↦ not (unsigned_abs q.num == 0) | Err fault ↦ false ]

-- a group of so many values; where none is due, only blanks stand in it
abbrev pub has_form : ℕ → List ℕ → Bool
has_form count group = if count == 0 then list_all is_blank (inside group) else (length (reward_values group) == count) && not (list_any is_malformed (reward_values group))

-- the rewards are an action's
abbrev pub is_of_action : Owner → Bool
is_of_action Action = true
is_of_action State = false

-- what is wrong with the rewards of a state or an action, where there are so many names
abbrev pub rewards_fault : ℕ → Owner → List ℕ → Option DrnCause
rewards_fault count owner group = first_of (
    when (not (has_form count group)) RewardSyntax
    ∷ when (list_any is_too_wide (reward_values group)) RewardWide
    ∷ when (is_of_action owner && list_any is_some_cost (reward_values group)) ActionReward ∷ [])
