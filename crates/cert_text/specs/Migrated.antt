-- A report of the first version as one of the second: the same head and tree. The only precision of the first is the whole range, and each decided leaf has it.
use Rattle.std.specs.Prelude.{◌≡◌, ℕ, List, [], ◌∷◌, ◌++◌, drop, codes, nat_eq, ◌||◌, Some, None, if◌then◌else◌}
use Rattle.std.specs.List.{onto_first, starts_with}
use Rattle.lift_base.specs.Lines.{is_feed}
use Rattle.lift_grid.specs.Tree.{Tree}
use Rattle.cert_text.specs.Head.{HeadData}
use Rattle.cert_text.specs.Forms.{IsReport}
use Rattle.cert_text.specs.Laws.{text_of}

-- the head of a report of the first version, in the second
abbrev pub migrated : HeadData → HeadData
migrated h = record h { from = Some h.asked.w }

-- the old text is that of a report of the first version, and the new one that of the same report in the second
pub record MigratesTo (old new : List ℕ) : Type 0 where
  pub head : HeadData
  pub tree : Tree
  pub report : IsReport head tree
  pub first : head.from ≡ None
  pub before : old ≡ text_of head tree
  pub after : new ≡ text_of (migrated head) tree

-- ---- line by line

-- the lines of a text, each with the line feed that ends it
abbrev pub lines_of : List ℕ → List (List ℕ)
lines_of [] = []
lines_of (b ∷ text) = if is_feed b then (b ∷ []) ∷ lines_of text else onto_first b (lines_of text)

-- the number of the precision and a line feed: what stands behind the word in the first line that begins with `precision`
abbrev pub precision_in : List (List ℕ) → List ℕ
precision_in [] = []
precision_in (l ∷ ls) = if starts_with nat_eq l (codes "precision ") then drop 10 l else precision_in ls

-- what the second version has in place of a line of the first, where these are the number of the precision and a line feed
abbrev pub second_line : List ℕ → List ℕ → List ℕ
second_line precision l =
    if starts_with nat_eq l (codes "plift ") then codes "plift 2\n"
    else if starts_with nat_eq l (codes "precision ") then l ++ (codes "from " ++ precision)
    else if starts_with nat_eq l (codes "accept") || starts_with nat_eq l (codes "reject") then codes "at " ++ (precision ++ l)
    else l
