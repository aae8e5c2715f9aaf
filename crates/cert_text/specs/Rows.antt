-- What the code's functions on rows answer.
use Rattle.std.specs.Prelude.{◌≡◌, ◌≤◌, ℕ, ◌+◌, ◌-◌, Bool, false, List, [], ◌∷◌, Option, Result, Ok, Err}
use Rattle.std.specs.Str.{bytes_eq}
use Rattle.std.specs.Fmt.{decimal}
use Rattle.lift_model.specs.Valid.{most_choices, most_transitions}
use Rattle.lift_base.specs.Lines.{LinesData}
use Rattle.line_text.specs.declared.error.TextError.{TextError}
use Rattle.line_text.specs.declared.error.FileError.{FileError}
use Rattle.line_text.specs.Follow.{Follows, IsDue, place}
use Rattle.line_text.specs.Words.{words}
use Rattle.line_text.specs.Reading.{◌>>=◌, Cursor, due}
use Rattle.cert_text.specs.Head.{is_row_of}
use Rattle.cert_text.specs.declared.rows.Left.{Left}
use Rattle.cert_text.specs.declared.rows.Shape.{Shape}

-- the first word is that number's decimal text
abbrev pub tells : ℕ → List (List ℕ) → Bool
tells n [] = false
tells n (word ∷ words) = bytes_eq word (decimal n)

-- whether the line that is due is one of a row of state s
abbrev pub row_due : ℕ → Cursor → Result Bool TextError
row_due s c = due c >>= λ l. Ok (is_row_of s (words l.0))

-- whether the line that is due is one of a row of state s was read on for; nothing was given
abbrev pub SeesRow : {S : Type 0} → (S → Option (List ℕ)) → (S → ℕ) → ℕ → LinesData → LinesData → S → S → Result Bool FileError → Type 0
SeesRow left faults s old new before after (Ok b) =
    IsDue left faults old new before after × ((later : List ℕ) → row_due s (place new later) ≡ Ok b)
SeesRow left faults s old new before after (Err e) = Follows {X = Unit {0}} left faults (λ _. []) due old new before after (Err e)

-- what rows are read by: the model's shape, and how many choices and transitions are left
pub record ReadsRows : Type 0 where
  pub shape : Shape
  pub left : Left

-- rows up to the one with that mark were read, and what is left is within limits
pub record IsLeft (mark : ℕ) (left : Left) : Type 0 where
  pub choices : mark + left.choices ≤ most_choices
  pub transitions : left.transitions ≤ most_transitions

-- what is left behind so many rows of so many entries
pub record Leaves (before after : Left) (rows entries : ℕ) : Type 0 where
  pub choices : after.choices ≡ before.choices - rows
  pub transitions : after.transitions ≡ before.transitions - entries
