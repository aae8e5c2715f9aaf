-- The ladder of retry blocks, a model of any size: as a text and as a model.
use Prim.Native.Char.{code}
use Rattle.std.specs.Prelude.{ℕ, zero, suc, ◌+◌, ◌*◌, List, [], ◌∷◌, ◌++◌, codes, Bool, true, false, pos, negsuc}
use Rattle.std.specs.List.{flat_map}
use Rattle.std.specs.Fmt.{decimal}
use Rattle.lift_poly.specs.Polynomial.{Term}
use Rattle.lift_grid.specs.Region.{Region}
use Rattle.lift_model.specs.declared.entry.Entry.{Entry}
use Rattle.lift_model.specs.declared.kind.Kind.TheVariants.{Dtmc}
use Rattle.lift_model.specs.Model.{ModelData}
use Rattle.corner_lift.specs.Case.{CaseData, case_of}

-- how many blocks a ladder has at most: with them it has as many states as a model may have
abbrev pub most_blocks : ℕ
most_blocks = 32767

-- ---- the text

-- a transition's line, `TARGET : VALUE`
abbrev pub to_line : ℕ → List ℕ → List ℕ
to_line target value = decimal target ++ value

-- a state's line without labels, `state ID`
abbrev pub state_line : ℕ → List ℕ
state_line id = codes "state " ++ decimal id

-- the labels of a block's first state: that of block 0 is the initial state
abbrev pub first_label : ℕ → List ℕ
first_label zero = codes " init"
first_label (suc i) = []

-- Block i of n. Its first state goes on to the next block with p, and else to the second state; that goes back with q, and else to the sink.
abbrev pub block : ℕ → ℕ → List (List ℕ)
block n i =
    (state_line (2 * i) ++ first_label i)
    ∷ to_line (2 * i + 2) (codes " : p")
    ∷ to_line (2 * i + 1) (codes " : 1-p")
    ∷ state_line (2 * i + 1)
    ∷ to_line (2 * i) (codes " : q")
    ∷ to_line (2 * n + 1) (codes " : 1-q")
    ∷ []

-- the first so many blocks of n
unfoldable pub blocks : ℕ → ℕ → List (List ℕ)
blocks n zero = []
blocks n (suc i) = blocks n i ++ block n i

-- the lines before the states: a chain with two parameters
abbrev pub head_lines : List (List ℕ)
head_lines = codes "@type: DTMC" ∷ codes "@parameters" ∷ codes "p q" ∷ codes "@model" ∷ []

-- the goal, which carries the label `done`, and the sink
abbrev pub last_lines : ℕ → List (List ℕ)
last_lines n = (state_line (2 * n) ++ codes " done") ∷ to_line (2 * n) (codes " : 1") ∷ state_line (2 * n + 1) ∷ to_line (2 * n + 1) (codes " : 1") ∷ []

-- the lines of the ladder of n blocks
abbrev pub ladder_lines : ℕ → List (List ℕ)
ladder_lines n = head_lines ++ blocks n n ++ last_lines n

-- lines, each with its line feed
abbrev pub joined : List (List ℕ) → List ℕ
joined ls = flat_map (λ l. l ++ code "\n" ∷ []) ls

-- the text of the ladder of n blocks
abbrev pub ladder_text : ℕ → List ℕ
ladder_text n = joined (ladder_lines n)

-- ---- the model

-- an entry of a row
abbrev pub to : ℕ → List Term → Entry
to target poly = record { target = target; poly = poly }

-- the polynomial p, which is parameter 0
abbrev pub p_poly : List Term
p_poly = (1, pos 1) ∷ []

-- the polynomial 1-p
abbrev pub not_p_poly : List Term
not_p_poly = (0, pos 1) ∷ (1, negsuc 0) ∷ []

-- the polynomial q, which is parameter 1
abbrev pub q_poly : List Term
q_poly = (2, pos 1) ∷ []

-- the polynomial 1-q
abbrev pub not_q_poly : List Term
not_q_poly = (0, pos 1) ∷ (2, negsuc 0) ∷ []

-- the polynomial 1
abbrev pub one_poly : List Term
one_poly = (0, pos 1) ∷ []

-- the two states of block i of n, each with one row
abbrev pub block_states : ℕ → ℕ → List (List (List Entry))
block_states n i =
    ((to (2 * i + 2) p_poly ∷ to (2 * i + 1) not_p_poly ∷ []) ∷ [])
    ∷ ((to (2 * i) q_poly ∷ to (2 * n + 1) not_q_poly ∷ []) ∷ [])
    ∷ []

-- the states of the first so many blocks of n
unfoldable pub ladder_states : ℕ → ℕ → List (List (List Entry))
ladder_states n zero = []
ladder_states n (suc i) = ladder_states n i ++ block_states n i

-- no state of so many blocks is a goal state
unfoldable pub no_goals : ℕ → List Bool
no_goals zero = []
no_goals (suc i) = no_goals i ++ false ∷ false ∷ []

-- the ladder of n blocks: their states, the goal and the sink
abbrev pub ladder : ℕ → ModelData
ladder n = record {
  kind = Dtmc;
  common = pos 1;
  names = codes "p" ∷ codes "q" ∷ [];
  goal = no_goals n ++ true ∷ false ∷ [];
  init = 0;
  states = ladder_states n n ++ ((to (2 * n) one_poly ∷ []) ∷ []) ∷ ((to (2 * n + 1) one_poly ∷ []) ∷ []) ∷ [];
}

-- ---- what is asked of it

-- the region, as it is written
abbrev pub ladder_region_text : List ℕ
ladder_region_text = codes "1/2<=p<=3/5,1/2<=q<=3/5"

-- how often the region may be halved
abbrev pub ladder_depth : ℕ
ladder_depth = 2

-- the precision
abbrev pub ladder_precision : ℕ
ladder_precision = 24

-- the region: both ends as numbers over the grid 40
abbrev pub ladder_region : Region
ladder_region = record { d = pos 40; depth = ladder_depth; spans = (pos 20, pos 24) ∷ (pos 20, pos 24) ∷ [] }

-- the ladder over the region, at the precision
abbrev pub ladder_case : ℕ → CaseData
ladder_case n = case_of (ladder n) ladder_region ladder_precision
