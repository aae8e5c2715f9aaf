-- The words of a row's note, piece by piece.
use Rattle.std.proofs.Common.{◌≡◌, ℕ, ◌++◌, codes, refl, append_assoc}
use Rattle.std.specs.Fmt.{decimal}
use Rattle.lift_rows.specs.Number.{error_row}
use Rattle.lift_rows.specs.declared.error.RowError.{RowError}
use Rattle.lift_cert.specs.declared.miss.Miss.{Miss}
use Rattle.check_notes.specs.Rows.{row_text, row_fault}
use Rattle.check_notes.specs.Unsound.{node_place, miss_text}

-- which row is at fault, piece by piece, and what is wrong with it
pub row_parts : (error : RowError) → row_text (error_row error) ++ row_fault error ≡ (codes "state " ++ (decimal (error_row error).0 ++ (codes " choice " ++ (decimal (error_row error).1 ++ codes ": ")))) ++ row_fault error
row_parts error = simp append_assoc refl

-- which node is at fault, piece by piece, and what it misses
pub node_parts : (node : ℕ) (miss : Miss) → node_place node ++ miss_text miss ≡ (codes "node " ++ (decimal node ++ codes " ")) ++ miss_text miss
node_parts node miss = simp append_assoc refl
