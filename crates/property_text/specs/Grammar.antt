-- The grammar of formulas, as a relation between a text and what it writes. A formula is a row of parts, with any blanks between two of them:
--     formula = "P" op bound "[" path "]"
--     op      = "<=" | "<" | ">=" | ">"
--     bound   = literal [ "/" literal ]
--     path    = "F" label | label "U" label
--     label   = one or more bytes from the space to the tilde other than a quote, between two quotes
use Prim.Native.Char.{code}
use Rattle.std.specs.Prelude.{◌≡◌, ◌==◌, ◌&&◌, ◌<◌, ℕ, Bool, true, not, nat_le, List, [], ◌∷◌, ◌++◌, length, codes, Option, Some, None, IfSome}
use Rattle.std.specs.List.{list_all}
use Rattle.lift_bytes.specs.Bytes.{is_blank}
use Rattle.lift_frac.specs.Literal.{Literal}
use Rattle.lift_frac.specs.Grammar as literal
use Rattle.property_text.specs.declared.op.Op.{Op}
use Rattle.property_text.specs.declared.op.Op.TheVariants.{AtMost, Below, AtLeast, Above}

-- what a formula writes: its comparison, the text of its bound, the label of the safe states, if it has one, and that of the goal states
pub record Written : Type 0 where
  pub op : Op
  pub bound : List ℕ
  pub safe : Option (List ℕ)
  pub goal : List ℕ

-- ---- the parts

-- a comparison
abbrev pub op_text : Op → List ℕ
op_text AtMost = codes "<="
op_text Below = codes "<"
op_text AtLeast = codes ">="
op_text Above = codes ">"

-- a bound: a literal, or one over another
pub data IsRatio : List ℕ → Type 0 where
  whole : (text : List ℕ) (l : Literal) → literal.Writes text l → IsRatio text
  over : (above below : List ℕ) (a b : Literal) → literal.Writes above a → literal.Writes below b → IsRatio (above ++ code "/" ∷ below)

-- a byte of a label
abbrev pub is_label_byte : ℕ → Bool
is_label_byte b = nat_le (code " ") b && nat_le b (code "~") && not (b == code "\"")

-- a label: one or more such bytes
pub record IsLabel (label : List ℕ) : Type 0 where
  pub some : 0 < length label
  pub bytes : list_all is_label_byte label ≡ true

-- a label between two quotes
abbrev pub quoted : List ℕ → List ℕ
quoted label = code "\"" ∷ (label ++ codes "\"")

-- a path, behind which other parts follow
abbrev pub path_parts : Option (List ℕ) → List ℕ → List (List ℕ) → List (List ℕ)
path_parts None goal parts = codes "F" ∷ quoted goal ∷ parts
path_parts (Some safe) goal parts = quoted safe ∷ codes "U" ∷ quoted goal ∷ parts

-- a formula, but for its first letter
abbrev pub parts_of : Written → List (List ℕ)
parts_of w = op_text w.op ∷ w.bound ∷ codes "[" ∷ path_parts w.safe w.goal (codes "]" ∷ [])

-- ---- the text

-- these parts follow, each behind any blanks, and nothing else
abbrev pub Follow : List (List ℕ) → List ℕ → Type 0
Follow [] text = text ≡ []
Follow (part ∷ parts) text = (blanks : List ℕ) × (rest : List ℕ) × (list_all is_blank blanks ≡ true) × (text ≡ blanks ++ (part ++ rest)) × Follow parts rest

-- the text writes this formula: it begins with the first part, and the others follow
pub record Writes (text : List ℕ) (w : Written) : Type 0 where
  pub bound : IsRatio w.bound
  pub safe : IfSome w.safe IsLabel
  pub goal : IsLabel w.goal
  pub parts : (rest : List ℕ) × (text ≡ codes "P" ++ rest) × Follow (parts_of w) rest
