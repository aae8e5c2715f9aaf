-- A text without the blanks at its ends.
use Rattle.std.specs.Prelude.{ℕ, List, ◌-◌, take, length}
use Rattle.std.specs.List.{suffix_len}
use Rattle.lift_bytes.specs.Bytes.{is_blank, behind}

-- without the blanks at the end
abbrev pub trimmed_end : List ℕ → List ℕ
trimmed_end text = take (length text - suffix_len is_blank text) text

-- without the blanks at both ends
abbrev pub trimmed : List ℕ → List ℕ
trimmed text = trimmed_end (behind is_blank text)
