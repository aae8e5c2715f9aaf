-- Causes of a refusal, and which of several tests comes first.
use Rattle.std.specs.Prelude.{ℕ, Bool, codes, List, [], ◌∷◌, Option, Some, None, Result, Ok, Err, if◌then◌else◌}
use Rattle.std.specs.Option.{option_map}
use Rattle.drn_lexer.specs.Cutting.{Piece}
use Rattle.drn_lexer.specs.Words.{WordKind}
use Rattle.drn_lexer.specs.declared.error.LexError.{LexError}
use Rattle.drn_lexer.specs.declared.error.LexError.TheVariants as lex
use Rattle.drn_lexer.specs.declared.word.WordForm.{WordForm}
use Rattle.drn_expr.specs.declared.error.ExprError.{ExprError}
use Rattle.drn_expr.specs.declared.error.ExprError.TheVariants as expr
use Rattle.drn_read.specs.declared.error.DrnCause.{DrnCause}
use Rattle.drn_read.specs.declared.error.DrnCause.TheVariants.{NotText, LongLine, OpenQuote, Syntax, UnknownName, Power, SharedParameter, ParametricDivisor, DivisionByZero, Wide, Deep, Long, UnsupportedType, MissingSection, RepeatedSection, UnknownSection, RepeatedName, UnknownPlace, StateOrder, ExitRate, Observation, ExtraChoice, NoChoice, RepeatedTarget, LimitStates, LimitChoices, LimitTransitions, LimitPlaces, LimitParameters, LimitName, LimitValueParameters, NoState, CountMismatch, TargetRange, InitCount, UnknownLabel, CommonDenominator, Memory, UnknownReward, RewardSyntax, RewardWide, ActionReward}
use Rattle.drn_read.specs.declared.error.DrnError.{DrnError}

-- how a fault of a line or a word is told
abbrev pub lexed : LexError → DrnCause
lexed lex.NotText = NotText
lexed lex.LongLine = LongLine
lexed lex.OpenQuote = OpenQuote

-- how a fault of a value is told
abbrev pub valued : ExprError → DrnCause
valued expr.Syntax = Syntax
valued expr.UnknownName = UnknownName
valued expr.Power = Power
valued expr.SharedParameter = SharedParameter
valued expr.ParametricDivisor = ParametricDivisor
valued expr.DivisionByZero = DivisionByZero
valued expr.Wide = Wide
valued expr.Deep = Deep
valued expr.Long = Long
valued expr.Memory = Memory

-- a cause where a test finds a fault
abbrev pub when : Bool → DrnCause → Option DrnCause
when fails cause = if fails then Some cause else None

-- the first fault of several tests
abbrev pub first_of : {A : Type 0} → List (Option A) → Option A
first_of [] = None
first_of (Some fault ∷ tests) = Some fault
first_of (None ∷ tests) = first_of tests

-- a word's own fault, or else what is wrong with it by its form
abbrev pub word_fault : Piece WordKind → (WordForm → Option DrnCause) → Option DrnCause
word_fault w by_form = elim w.form [ Err fault ↦ Some (lexed fault) | Ok form ↦ by_form form ]

-- what is wrong with what was read
abbrev pub fault_of : {A : Type 0} → Result A DrnCause → Option DrnCause
fault_of outcome = elim outcome [ Ok x ↦ None | Err cause ↦ Some cause ]

-- a fault that is told of the line of this number
abbrev pub reported : ℕ → Option DrnCause → Option DrnError
reported number fault = option_map (λ cause. record { line = number; cause = cause }) fault

-- the name of a cause, as it is told
abbrev pub cause_name : DrnCause → List ℕ
cause_name NotText = codes "NotText"
cause_name LongLine = codes "LongLine"
cause_name OpenQuote = codes "OpenQuote"
cause_name Syntax = codes "Syntax"
cause_name UnknownName = codes "UnknownName"
cause_name Power = codes "Power"
cause_name SharedParameter = codes "SharedParameter"
cause_name ParametricDivisor = codes "ParametricDivisor"
cause_name DivisionByZero = codes "DivisionByZero"
cause_name Wide = codes "Wide"
cause_name Deep = codes "Deep"
cause_name Long = codes "Long"
cause_name UnsupportedType = codes "UnsupportedType"
cause_name MissingSection = codes "MissingSection"
cause_name RepeatedSection = codes "RepeatedSection"
cause_name UnknownSection = codes "UnknownSection"
cause_name RepeatedName = codes "RepeatedName"
cause_name UnknownPlace = codes "UnknownPlace"
cause_name StateOrder = codes "StateOrder"
cause_name ExitRate = codes "ExitRate"
cause_name Observation = codes "Observation"
cause_name ExtraChoice = codes "ExtraChoice"
cause_name NoChoice = codes "NoChoice"
cause_name RepeatedTarget = codes "RepeatedTarget"
cause_name LimitStates = codes "LimitStates"
cause_name LimitChoices = codes "LimitChoices"
cause_name LimitTransitions = codes "LimitTransitions"
cause_name LimitPlaces = codes "LimitPlaces"
cause_name LimitParameters = codes "LimitParameters"
cause_name LimitName = codes "LimitName"
cause_name LimitValueParameters = codes "LimitValueParameters"
cause_name NoState = codes "NoState"
cause_name CountMismatch = codes "CountMismatch"
cause_name TargetRange = codes "TargetRange"
cause_name InitCount = codes "InitCount"
cause_name UnknownLabel = codes "UnknownLabel"
cause_name CommonDenominator = codes "CommonDenominator"
cause_name Memory = codes "Memory"
cause_name UnknownReward = codes "UnknownReward"
cause_name RewardSyntax = codes "RewardSyntax"
cause_name RewardWide = codes "RewardWide"
cause_name ActionReward = codes "ActionReward"

-- The number of a cause in the order of the tests. Causes of one place share theirs: 1 for the bytes and words of a line, 2 for a value, 3 for syntax wherever it fails, 11 for what belongs to other kinds of models, and 15 for the limits.
abbrev pub cause_number : DrnCause → ℕ
cause_number NotText = 1
cause_number LongLine = 1
cause_number OpenQuote = 1
cause_number Syntax = 3
cause_number UnknownName = 2
cause_number Power = 2
cause_number SharedParameter = 2
cause_number ParametricDivisor = 2
cause_number DivisionByZero = 2
cause_number Wide = 2
cause_number Deep = 2
cause_number Long = 2
cause_number UnsupportedType = 4
cause_number MissingSection = 5
cause_number RepeatedSection = 6
cause_number UnknownSection = 7
cause_number RepeatedName = 8
cause_number UnknownPlace = 9
cause_number StateOrder = 10
cause_number ExitRate = 11
cause_number Observation = 11
cause_number ExtraChoice = 12
cause_number NoChoice = 13
cause_number RepeatedTarget = 14
cause_number LimitStates = 15
cause_number LimitChoices = 15
cause_number LimitTransitions = 15
cause_number LimitPlaces = 15
cause_number LimitParameters = 15
cause_number LimitName = 15
cause_number LimitValueParameters = 15
cause_number NoState = 16
cause_number CountMismatch = 17
cause_number TargetRange = 18
cause_number InitCount = 19
cause_number UnknownLabel = 20
cause_number CommonDenominator = 21
cause_number Memory = 22
cause_number UnknownReward = 23
cause_number RewardSyntax = 24
cause_number RewardWide = 25
cause_number ActionReward = 26
