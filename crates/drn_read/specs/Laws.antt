-- How what a text says grows line by line, and what holds of every model that a text stands for.
use Rattle.std.specs.Prelude.{◌≡◌, ◌≤◌, ◌^◌, ℕ, true, false, List, [], ◌∷◌, ◌++◌, length, count_ones, All, None, Ok}
use Rattle.lift_poly.specs.Arithmetic.{support}
use Rattle.lift_model.specs.declared.entry.Entry.{Entry}
use Rattle.lift_model.specs.Model.{ModelData}
use Rattle.lift_model.specs.Valid.{most_name_bytes, IsModel}
use Rattle.drn_lexer.specs.Lines.{TextLine, is_comment}
use Rattle.lift_bytes.specs.Bytes.{is_name}
use Rattle.drn_read.specs.Text.{most_value_parameters}
use Rattle.drn_read.specs.Judging.{line_fault}
use Rattle.drn_read.specs.Keeping.{with_line}
use Rattle.drn_read.specs.Reading.{said, drn}

-- behind a line without fault that is no comment, what is said has grown by that line
abbrev pub SaysMore : Type 0
SaysMore = (label : List ℕ) (before : List TextLine) (line : TextLine) → is_comment line ≡ false → line_fault (said label before) line ≡ None
    → said label (before ++ line ∷ []) ≡ with_line label (said label before) line

-- a name that isn't too long
pub record IsShortName (name : List ℕ) : Type 0 where
  pub named : is_name name ≡ true
  pub short : length name ≤ most_name_bytes

-- a polynomial has at most one term for each set of its parameters, of which there are at most four
abbrev pub most_terms : ℕ
most_terms = 2 ^ most_value_parameters

-- an entry of few parameters, and so of few terms
pub record IsSmallEntry (entry : Entry) : Type 0 where
  pub parameters : count_ones (support entry.poly) ≤ most_value_parameters
  pub terms : length entry.poly ≤ most_terms

-- a valid model whose parameters have short names, and whose entries are small
pub record IsReadModel (m : ModelData) : Type 0 where
  pub valid : IsModel m
  pub names : All IsShortName m.names
  pub entries : All (All (All IsSmallEntry)) m.states

-- a text that stands for a model, for a goal's label, stands for such a one
abbrev pub TextsAreValid : Type 0
TextsAreValid = (text label : List ℕ) (m : ModelData) → drn text label ≡ Ok m → IsReadModel m
