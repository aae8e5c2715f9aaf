-- The nodes of a report's tree, by the lines that have come of its text.
use Rattle.std.specs.Prelude.{ℕ, ◌==◌, ◌&&◌, List, [], ◌∷◌, ◌++◌, Option, Some, None, if◌then◌else◌}
use Rattle.std.specs.Option.{option_to_list}
use Prim.Native.Char.{code}
use Rattle.view_follow.specs.declared.line.Line.{Line}
use Rattle.view_follow.specs.declared.line.Line.TheVariants.{Empty, One, Begun}
use Rattle.view_follow.specs.declared.line.NodeLine.{NodeLine}
use Rattle.view_follow.specs.declared.line.NodeLine.TheVariants.{Split, Accept, Reject, Unknown}

-- the node whose line begins with these two bytes: no other line of a report begins as a node's does
abbrev pub node_of : ℕ → ℕ → Option NodeLine
node_of first second =
    if (first == code "s") && (second == code "p") then Some Split
    else (if (first == code "a") && (second == code "c") then Some Accept
    else (if (first == code "r") && (second == code "e") then Some Reject
    else (if (first == code "u") && (second == code "n") then Some Unknown
    else None)))

-- the node whose first line this is
abbrev pub node_of_line : List ℕ → Option NodeLine
node_of_line (first ∷ second ∷ rest) = node_of first second
node_of_line _ = None

-- the nodes whose lines end in these bytes, where so much of the first line came before
unfoldable pub nodes_behind : List ℕ → List ℕ → List NodeLine
nodes_behind line [] = []
nodes_behind line (byte ∷ bytes) =
    if byte == code "\n" then option_to_list (node_of_line line) ++ nodes_behind [] bytes
    else nodes_behind (line ++ byte ∷ []) bytes

-- the nodes whose lines have come whole in a report's bytes
abbrev pub nodes_in : List ℕ → List NodeLine
nodes_in = nodes_behind []

-- ---- for the contracts of private functions: of a line only its first two bytes are kept

-- a line with a byte more that doesn't end it
abbrev pub with_byte : Line → ℕ → Line
with_byte Empty byte = One byte
with_byte (One first) byte = Begun (node_of first byte)
with_byte (Begun node) byte = Begun node

-- the node whose line it is
abbrev pub node_in : Line → Option NodeLine
node_in (Begun node) = node
node_in _ = None

-- the line behind a byte
abbrev pub line_behind : Line → ℕ → Line
line_behind line byte = if byte == code "\n" then Empty else with_byte line byte

-- the node whose line a byte ends
abbrev pub node_ended : Line → ℕ → Option NodeLine
node_ended line byte = if byte == code "\n" then node_in line else None

-- the line behind some bytes
unfoldable pub line_after : Line → List ℕ → Line
line_after line [] = line
line_after line (byte ∷ bytes) = line_after (line_behind line byte) bytes

-- the nodes whose lines end in some bytes
unfoldable pub nodes_ended : Line → List ℕ → List NodeLine
nodes_ended line [] = []
nodes_ended line (byte ∷ bytes) = option_to_list (node_ended line byte) ++ nodes_ended (line_behind line byte) bytes
