-- A list of lines cut into parts.
use Rattle.std.specs.Prelude.{Bool, true, false, List, [], ◌∷◌, Option, Some, None, if◌then◌else◌}

-- a line that begins a part, and the lines behind it up to the next such line
pub record Part (Line : Type 0) : Type 0 where
  pub head : Line
  pub body : List Line

-- the lines before the first part, and the parts
abbrev pub parts : {Line : Type 0} → (Line → Bool) → List Line → List Line × List (Part Line)
parts begins [] = ([], [])
parts begins (l ∷ ls) =
    let rest = parts begins ls in if begins l then ([], record { head = l; body = rest.0 } ∷ rest.1) else (l ∷ rest.0, rest.1)

-- the last, if there is one
abbrev pub last : {A : Type 0} → List A → Option A
last [] = None
last (x ∷ []) = Some x
last (x ∷ y ∷ xs) = last (y ∷ xs)

-- whether there is nothing
abbrev pub is_empty : {A : Type 0} → List A → Bool
is_empty [] = true
is_empty (x ∷ xs) = false
