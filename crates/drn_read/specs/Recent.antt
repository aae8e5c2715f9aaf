-- The values that a reader keeps with their texts. No public clause rests on it.
use Rattle.std.specs.Prelude.{◌≡◌, ℕ, List, All, Ok}
use Rattle.drn_expr.specs.RatPolys.{OverOne}
use Rattle.drn_read.specs.Sections.{Placeholder}
use Rattle.drn_read.specs.States.{named_value}
use Rattle.drn_read.specs.declared.known.Known.{Known}

-- a value with the text that it is kept for
abbrev pub text_and_value : Known → List ℕ × OverOne
text_and_value k = (k.text.items, k.value)

-- the value is that of its text, over these names and placeholders
abbrev pub IsKnown : List (List ℕ) → List Placeholder → Known → Type 0
IsKnown names defined k = named_value names defined k.text.items ≡ Ok k.value

-- each value is that of its text
abbrev pub AreKnown : List (List ℕ) → List Placeholder → List Known → Type 0
AreKnown names defined values = All (IsKnown names defined) values
