-- How a reading of a source ends in which each line is read when it is due.
use Rattle.std.specs.Prelude.{◌≡◌, ◌≤◌, ℕ, Bool, List, [], ◌++◌, length, IsTrue}
use Rattle.std.specs.declared.option.Option.{Option}
use Rattle.std.specs.Io.KnownBytes.{Consumes, IsAtEnd}

-- A source was read to its end, and the bytes that it gave have P. Where the source doesn't tell its content, some bytes have it.
pub record WasRead (limit : ℕ) (P : List ℕ → Type 0) (old new : Option (List ℕ)) : Type 0 where
  pub bytes : List ℕ
  pub consumed : Consumes old new bytes
  pub finished : IsAtEnd new
  pub small : length bytes ≤ limit
  pub has : P bytes

-- Bytes were taken off a source's front, and whatever may follow them, the whole has P; nothing may follow where the end was seen.
pub record WasFound (limit : ℕ) (P : List ℕ → Type 0) (old new : Option (List ℕ)) : Type 0 where
  pub bytes : List ℕ
  pub consumed : Consumes old new bytes
  pub small : length bytes ≤ limit
  pub ended : Bool
  pub finished : IsTrue ended → IsAtEnd new
  pub has : (later : List ℕ) → (IsTrue ended → later ≡ []) → P (bytes ++ later)
