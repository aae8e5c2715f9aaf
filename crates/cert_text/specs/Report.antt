-- The text of a report: our own format, of which the second version tells a range of precisions, and each decided leaf's. A report is a head and the nodes of a tree, line by line.
use Rattle.std.specs.Prelude.{◌+◌, ◌*◌, ◌^◌, ◌==◌, ℕ, ℤ, List, [], ◌∷◌, ◌++◌, length, map, codes, Bool, true, false, Option, Some, None, is_some, if◌then◌else◌}
use Rattle.std.specs.List.{concat}
use Rattle.std.specs.Fmt.{decimal, signed_decimal}
use Prim.Native.Char.{code}
use Rattle.lift_poly.specs.Polynomial.{Term}
use Rattle.lift_grid.specs.Rectangle.{Spans, sides_of}
use Rattle.lift_grid.specs.Tree.{Tree, RejectData}
use Rattle.lift_grid.specs.Tree.Tree.{split, accept, reject, unknown}
use Rattle.lift_model.specs.declared.kind.Kind.{Kind}
use Rattle.lift_model.specs.declared.kind.Kind.TheVariants.{Dtmc, Mdp}
use Rattle.lift_model.specs.declared.entry.Entry.{Entry}
use Rattle.lift_model.specs.Model.{ModelData}
use Rattle.corner_lift.specs.Case.{CaseData, number}
use Rattle.corner_lift.specs.Certificate.{unmarked}
use Rattle.lift_cert.specs.declared.bound.Bound.{Bound}

-- ---- words and lines

-- a word behind another: a space, and the word
abbrev pub spaced : List ℕ → List ℕ
spaced word = code " " ∷ word

-- a line: its words with one space between two, and a line feed at the end
abbrev pub line : List (List ℕ) → List ℕ
line [] = codes "\n"
line (word ∷ []) = word ++ codes "\n"
line (word ∷ words) = word ++ spaced (line words)

-- a word and one number behind it
abbrev pub number_words : List ℕ → ℕ → List (List ℕ)
number_words key n = key ∷ decimal n ∷ []

-- a word and whole numbers behind it
abbrev pub numbers_words : List ℕ → List ℤ → List (List ℕ)
numbers_words key numbers = key ∷ map signed_decimal numbers

-- ---- the model

-- the version, which is the second one or the first
abbrev pub version_words : Bool → List (List ℕ)
version_words true = codes "plift" ∷ codes "2" ∷ []
version_words false = codes "plift" ∷ codes "1" ∷ []

-- the name of a kind
abbrev pub kind_name : Kind → List ℕ
kind_name Dtmc = codes "dtmc"
kind_name Mdp = codes "mdp"

-- the kind
abbrev pub kind_words : Kind → List (List ℕ)
kind_words kind = codes "kind" ∷ kind_name kind ∷ []

-- how many parameters there are, and their names in declared order
abbrev pub parameters_words : List (List ℕ) → List (List ℕ)
parameters_words names = codes "parameters" ∷ decimal (length names) ∷ names

-- common denominator, number of states and initial state
unfoldable pub size_lines : ModelData → List (List ℕ)
size_lines m =
    line (numbers_words (codes "common") (m.common ∷ []))
    ∷ line (number_words (codes "states") (length m.states))
    ∷ line (number_words (codes "init") m.init)
    ∷ []

-- the goal states, where the list begins at state s
abbrev pub goal_states : ℕ → List Bool → List ℕ
goal_states s [] = []
goal_states s (true ∷ goal) = s ∷ goal_states (s + 1) goal
goal_states s (false ∷ goal) = goal_states (s + 1) goal

-- how many goal states there are, and these in ascending order
abbrev pub goal_words : List Bool → List (List ℕ)
goal_words goal = codes "goal" ∷ decimal (length (goal_states 0 goal)) ∷ map decimal (goal_states 0 goal)

-- a term: its set and its coefficient
abbrev pub term_word : Term → List ℕ
term_word term = decimal term.0 ++ code ":" ∷ signed_decimal term.1

-- an entry: its target, and the terms of its polynomial over the common denominator by ascending set; none for 0
abbrev pub entry_words : Entry → List (List ℕ)
entry_words entry = codes "to" ∷ decimal entry.target ∷ map term_word entry.poly

-- the line of an entry
abbrev pub entry_line : Entry → List ℕ
entry_line entry = line (entry_words entry)

-- the row of state s and choice a, which has so many entries
abbrev pub row_words : ℕ → ℕ → ℕ → List (List ℕ)
row_words s a count = codes "row" ∷ decimal s ∷ decimal a ∷ decimal count ∷ []

-- the first line of a row
unfoldable pub row_line : ℕ → ℕ → ℕ → List ℕ
row_line s a count = line (row_words s a count)

-- the row of state s and choice a: how many entries it has, and these in their order
abbrev pub row_lines : ℕ → ℕ → List Entry → List (List ℕ)
row_lines s a row = row_line s a (length row) ∷ map entry_line row

-- the lines of each item by its number, where the list begins at number n
abbrev pub numbered : {A : Type 0} → (ℕ → A → List (List ℕ)) → ℕ → List A → List (List ℕ)
numbered lines n [] = []
numbered lines n (x ∷ xs) = lines n x ++ numbered lines (n + 1) xs

-- the rows of state s, for each of its choices
abbrev pub state_lines : ℕ → List (List Entry) → List (List ℕ)
state_lines s choices = numbered (row_lines s) 0 choices

-- the rows of all states
abbrev pub rows_lines : List (List (List Entry)) → List (List ℕ)
rows_lines states = numbered state_lines 0 states

-- a model: its kind, parameters, sizes, goal states and rows
abbrev pub model_lines : ModelData → List (List ℕ)
model_lines m =
    line (kind_words m.kind) ∷ line (parameters_words m.names) ∷ (size_lines m ++ line (goal_words m.goal) ∷ rows_lines m.states)

-- ---- the head

-- a bound
abbrev pub bound_words : Bound → List (List ℕ)
bound_words bound = codes "bound" ∷ (decimal bound.num ++ code "/" ∷ decimal bound.den) ∷ []

-- the bound and the greatest precision
unfoldable pub asked_lines : CaseData → Bound → List (List ℕ)
asked_lines k bound = line (bound_words bound) ∷ line (number_words (codes "precision") k.w) ∷ []

-- the line of the least precision of a range, which the second version has
abbrev pub from_lines : Option ℕ → List (List ℕ)
from_lines None = []
from_lines (Some v) = line (number_words (codes "from") v) ∷ []

-- depth and the grid's number
unfoldable pub scale_lines : CaseData → List (List ℕ)
scale_lines k = line (number_words (codes "depth") k.depth) ∷ line (numbers_words (codes "grid") (k.d ∷ [])) ∷ []

-- the low and the high end of each parameter, over the grid's number
abbrev pub box_words : Spans → List (List ℕ)
box_words root = numbers_words (codes "box") (sides_of root)

-- the line of the root
abbrev pub box_line : Spans → List ℕ
box_line root = line (box_words root)

-- the head's lines above its last three, which tell the depth and the region: the version, the model, the bound and the precisions
abbrev pub top_lines : CaseData → Option ℕ → Bound → List (List ℕ)
top_lines k from bound = line (version_words (is_some from)) ∷ (model_lines k.model ++ (asked_lines k bound ++ from_lines from))

-- those: the depth, the grid and the root
abbrev pub region_lines : CaseData → List (List ℕ)
region_lines k = scale_lines k ++ box_line k.root ∷ []

-- the head: the version, the model, and what is asked of it
abbrev pub head_lines : CaseData → Option ℕ → Bound → List (List ℕ)
head_lines k from bound =
    line (version_words (is_some from)) ∷ (model_lines k.model ++ (asked_lines k bound ++ (from_lines from ++ (scale_lines k ++ box_line k.root ∷ []))))

-- ---- the nodes

-- a rank or a chosen row, or `-` for none
abbrev pub mark_word : ℕ → List ℕ
mark_word m = if m == unmarked then codes "-" else decimal m

-- a rejecting leaf's first line: e, k, their product, and the initial state's number y over z
abbrev pub reject_words : ℕ → ℕ → ℤ → ℕ → List (List ℕ)
reject_words e k y z =
    codes "reject" ∷ codes "e" ∷ decimal e ∷ codes "k" ∷ decimal k ∷ codes "m" ∷ decimal (e * k)
    ∷ codes "b" ∷ (signed_decimal y ++ code "/" ∷ decimal z) ∷ []

-- a rejecting leaf, at a precision: its first line, then the number, the chosen row and the rank of each state
abbrev pub reject_lines : ℕ → ℕ → RejectData → List (List ℕ)
reject_lines init u r =
    line (reject_words r.e r.k (number r.numbers init) (2 ^ u))
    ∷ line (numbers_words (codes "y") r.numbers)
    ∷ line (codes "choice" ∷ map mark_word r.picks)
    ∷ line (codes "rank" ∷ map mark_word r.ranks)
    ∷ []

-- an accepting leaf: the number of each state
abbrev pub accept_line : List ℤ → List ℕ
accept_line x = line (numbers_words (codes "accept") x)

-- an unknown leaf
abbrev pub unknown_line : List ℕ
unknown_line = line (codes "unknown" ∷ [])

-- a split, by its parameter
abbrev pub split_line : ℕ → List ℕ
split_line axis = line (number_words (codes "split") axis)

-- the line of a precision
abbrev pub at_line : ℕ → List ℕ
at_line u = line (number_words (codes "at") u)

-- the line of a decided leaf's precision, which the second version has
abbrev pub at_lines : Option ℕ → ℕ → List (List ℕ)
at_lines None u = []
at_lines (Some v) u = at_line u ∷ []

-- the nodes of a tree in preorder, for a model's initial state: a split's own line, then the lower half's lines, then the upper half's
abbrev pub tree_lines : Option ℕ → ℕ → Tree → List (List ℕ)
tree_lines from init (split axis lower upper) = split_line axis ∷ (tree_lines from init lower ++ tree_lines from init upper)
tree_lines from init (accept u x) = at_lines from u ++ accept_line x ∷ []
tree_lines from init (reject u r) = at_lines from u ++ reject_lines init u r
tree_lines from init unknown = unknown_line ∷ []

-- ---- the whole

-- the bytes of a report: those of its head, and of its tree's nodes in preorder
abbrev pub report_text : CaseData → Option ℕ → Bound → Tree → List ℕ
report_text k from bound tree = concat (head_lines k from bound) ++ concat (tree_lines from k.model.init tree)
