-- Texts of a head and of the nodes of a tree. How fine a case is divided, and the head of a text that tells it, which the texts for a number of steps, for a property and for a budget share.
use Rattle.std.specs.Prelude.{◌≡◌, List, ◌∷◌, ◌++◌, ℕ, codes}
use Rattle.std.specs.declared.option.Option.{Option}
use Rattle.corner_lift.specs.Case.{CaseData}
use Rattle.cert_text.specs.Report.{line, number_words, model_lines, from_lines, region_lines}

-- the bytes are those of a head, and then of the nodes of a tree
abbrev pub IsHeaded : List ℕ → (List ℕ → Type 0) → List ℕ → Type 0
IsHeaded head AreNodes bytes = (nodes : List ℕ) × AreNodes nodes × (bytes ≡ head ++ nodes)

-- the precision
abbrev pub precision_line : CaseData → List ℕ
precision_line k = line (number_words (codes "precision") k.w)

-- the precision, the least one of a range where that is asked for, the depth, the grid's number and the root
abbrev pub fineness_lines : CaseData → Option ℕ → List (List ℕ)
fineness_lines k from = precision_line k ∷ (from_lines from ++ region_lines k)

-- the head of a text: its first line, the model, what is asked of it, and how fine it is divided, and its root
abbrev pub head_of : List ℕ → CaseData → Option ℕ → List (List ℕ) → List (List ℕ)
head_of first k from asked = first ∷ (model_lines k.model ++ (asked ++ fineness_lines k from))
