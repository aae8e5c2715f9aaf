-- Cutting a text into pieces, from the left.
use Rattle.std.specs.Prelude.{ℕ, zero, suc, true, false, List, [], ◌∷◌, take}
use Rattle.lift_bytes.specs.Bytes.{is_blank}

-- a piece of a text: its bytes, and what form they have
pub record Piece (Form : Type 0) : Type 0 where
  pub form : Form
  pub bytes : List ℕ

-- The pieces behind the first n bytes. Blanks part them, and `front b tail` tells of the piece that begins with the byte b how many bytes of the tail belong to it, and its form.
unfoldable pub pieces_behind : {Form : Type 0} → (ℕ → List ℕ → ℕ × Form) → ℕ → List ℕ → List (Piece Form)
pieces_behind front n [] = []
pieces_behind front zero (b ∷ tail) = elim (is_blank b) [
  | true ↦ pieces_behind front zero tail
  | false ↦ record { form = (front b tail).1; bytes = b ∷ take (front b tail).0 tail } ∷ pieces_behind front (front b tail).0 tail
]
pieces_behind front (suc n) (b ∷ tail) = pieces_behind front n tail
