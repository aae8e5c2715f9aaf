-- Reading a text line by line: the line that is due, and the first fault.
use Rattle.std.specs.Prelude.{ℕ, ◌+◌, List, length, nat_lt, Result, Ok, Err, if◌then◌else◌}
use Rattle.std.specs.List.{position_or_len, before_first, after_first}
pub use Rattle.lift_base.specs.Lines.{is_feed, most_line_bytes}
use Rattle.line_text.specs.declared.error.TextCause.{TextCause}
use Rattle.line_text.specs.declared.error.TextCause.TheVariants.{Limit, Truncated}
use Rattle.line_text.specs.declared.error.TextError.{TextError}
use Rattle.line_text.specs.Words.{words}

infixl 10 ◌>>=◌
-- the next step, where there was no fault
abbrev pub ◌>>=◌ : {A B E : Type 0} → Result A E → (A → Result B E) → Result B E
(Ok x) >>= f = f x
(Err e) >>= f = Err e

-- a place in a text: the number of the line that is due, and the bytes that are left
abbrev pub Cursor : Type 0
Cursor = ℕ × List ℕ

-- what reads a part of a text: the part's value and the place behind it, or the first fault
abbrev pub Reader : Type 0 → Type 0
Reader A = Cursor → Result (A × Cursor) TextError

-- a cause at a line
abbrev pub fault : {A : Type 0} → ℕ → TextCause → Result A TextError
fault n cause = Err (record { line = n; cause = cause })

-- a cause is told of this line
abbrev pub at : {A : Type 0} → ℕ → Result A TextCause → Result A TextError
at n (Ok x) = Ok x
at n (Err cause) = fault n cause

-- The line that is due, without its line feed: Limit where one byte more than a line may have is there and no line feed among these bytes, Truncated where the rest holds no line feed.
unfoldable pub due : Reader (List ℕ)
due (n, rest) =
    if nat_lt most_line_bytes (position_or_len is_feed rest) then fault n Limit
    else if nat_lt (position_or_len is_feed rest) (length rest) then Ok (before_first is_feed rest, (n + 1, after_first is_feed rest))
    else fault n Truncated

-- the line that is due, by what reads its words
unfoldable pub line_at : {A : Type 0} → (List (List ℕ) → Result A TextCause) → Reader A
line_at read c = due c >>= λ l. at c.0 (read (words l.0)) >>= λ x. Ok (x, l.1)
