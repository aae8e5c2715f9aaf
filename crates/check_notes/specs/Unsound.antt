-- What is told of a file that isn't sound.
use Rattle.std.specs.Prelude.{ℕ, List, ◌++◌, codes, ℤ, if◌then◌else◌, int_lt}
use Rattle.std.specs.Fmt.{decimal, signed_decimal}
use Rattle.lift_rows.specs.Number.{error_row}
use Rattle.lift_cert.specs.declared.miss.Miss.{Miss}
use Rattle.lift_cert.specs.declared.miss.Miss.TheVariants.{Goal, Unranked, Row, Rate, Limit}
use Rattle.line_text.specs.declared.error.TextCause.{TextCause}
use Rattle.line_text.specs.declared.error.TextCause.TheVariants as cause
use Rattle.cert_check.specs.declared.error.CheckError.{CheckError}
use Rattle.cert_check.specs.declared.error.CheckError.TheVariants.{Text, Rows, Missed, Depth, Axis, Rest}
use Rattle.check_notes.specs.Rows.{row_text, row_fault}

-- the name of a text's fault
abbrev pub text_cause_name : TextCause → List ℕ
text_cause_name cause.Syntax = codes "Syntax"
text_cause_name cause.Version = codes "Version"
text_cause_name cause.Limit = codes "Limit"
text_cause_name cause.Truncated = codes "Truncated"
text_cause_name cause.Memory = codes "Memory"

-- a corner of a row
abbrev pub corner_place : ℕ → ℕ → ℕ → List ℕ
corner_place s a c = codes "state " ++ decimal s ++ codes " choice " ++ decimal a ++ codes " corner " ++ decimal c ++ codes ": "

-- how a leaf's number at the initial state stands to the bound where it misses it: above it at an accepting leaf, and not above it at a rejecting one
abbrev pub relation : ℤ → ℤ → List ℕ
relation left right = if int_lt right left then codes " > " else codes " <= "

-- the test that a leaf's certificate fails, with its numbers
abbrev pub miss_text : Miss → List ℕ
miss_text (Goal s value) = codes "goal state " ++ decimal s ++ codes " value " ++ signed_decimal value
miss_text (Unranked s value) = codes "unranked state " ++ decimal s ++ codes " value " ++ signed_decimal value
miss_text (Row s a c left right) = corner_place s a c ++ signed_decimal left ++ codes " > " ++ signed_decimal right
miss_text (Rate s a c weight e whole) = corner_place s a c ++ codes "weight " ++ signed_decimal weight ++ codes " times 2^" ++ decimal e ++ codes " < " ++ signed_decimal whole
miss_text (Limit left right) = codes "bound: " ++ signed_decimal left ++ relation left right ++ signed_decimal right

-- a node, by its number in preorder
abbrev pub node_place : ℕ → List ℕ
node_place node = codes "node " ++ decimal node ++ codes " "

-- a node, and what is at fault with it
abbrev pub node_fault : ℕ → List ℕ → List ℕ
node_fault node fault = codes "node " ++ decimal node ++ fault

-- a file's first fault. Of a source that wasn't read there is none.
abbrev pub fault_text : CheckError → List ℕ
fault_text (Text error) = codes "line " ++ decimal error.line ++ codes ": " ++ text_cause_name error.cause
fault_text (Rows error) = row_text (error_row error) ++ row_fault error
fault_text (Missed node miss) = node_place node ++ miss_text miss
fault_text (Depth node) = node_fault node (codes " depth")
fault_text (Axis node) = node_fault node (codes " axis")
fault_text Rest = codes "rest"
fault_text _ = codes "not read"

-- the note of a file that isn't sound: its first fault
abbrev pub unsound_note : CheckError → List ℕ
unsound_note error = codes "not sound: " ++ fault_text error ++ codes "\n"
