-- Reports that are read, by computation.
use Rattle.std.proofs.Common.{◌≡◌, ℕ, refl, List, [], ◌∷◌, ◌++◌, true, false, Ok}
use Rattle.std.specs.Prelude.{codes, pos, negsuc, None}
use Rattle.std.specs.List.{concat}
use Rattle.lift_model.specs.declared.kind.Kind.TheVariants.{Dtmc}
use Rattle.cert_text.specs.Head.{HeadData}
use Rattle.cert_text.specs.Report.{size_lines, row_line, asked_lines, scale_lines, report_text}
use Rattle.line_text.specs.Reading.{due, line_at}
use Rattle.cert_text.specs.Head.{head_at, from_at, state_at, states_at, behind_first, row_at, entries_at, further_at}
use Rattle.cert_text.specs.Nodes.{accept, node_at, node_by, accept_at}
use Rattle.lift_grid.specs.Tree.Tree.{accept as accepted}
use Rattle.lift_frac.specs.Gcd.{gcd}
use Rattle.std.specs.Fmt.{digits}

-- a coin that shows heads with p, from 1/10 to 4/10, and the bound 1/2
unfoldable pub coin : HeadData
coin = record {
  asked = record {
    model = record {
      kind = Dtmc;
      common = pos 1;
      names = codes "p" ∷ [];
      goal = false ∷ true ∷ false ∷ [];
      init = 0;
      states = ((record { target = 1; poly = (1, pos 1) ∷ [] } ∷ record { target = 2; poly = (0, pos 1) ∷ (1, negsuc 0) ∷ [] } ∷ []) ∷ [])
          ∷ ((record { target = 1; poly = (0, pos 1) ∷ [] } ∷ []) ∷ [])
          ∷ ((record { target = 2; poly = (0, pos 1) ∷ [] } ∷ []) ∷ [])
          ∷ [];
    };
    root = (pos 1, pos 4) ∷ [];
    d = pos 10;
    depth = 0;
    w = 4;
  };
  from = None;
  bound = record { num = 1; den = 2 };
}

-- the lines of its head
unfoldable pub coin_lines : List (List ℕ)
coin_lines =
    codes "plift 1\n"
    ∷ codes "kind dtmc\n"
    ∷ codes "parameters 1 p\n"
    ∷ codes "common 1\n"
    ∷ codes "states 3\n"
    ∷ codes "init 0\n"
    ∷ codes "goal 1 1\n"
    ∷ codes "row 0 0 2\n"
    ∷ codes "to 1 1:1\n"
    ∷ codes "to 2 0:1 1:-1\n"
    ∷ codes "row 1 0 1\n"
    ∷ codes "to 1 0:1\n"
    ∷ codes "row 2 0 1\n"
    ∷ codes "to 2 0:1\n"
    ∷ codes "bound 1/2\n"
    ∷ codes "precision 4\n"
    ∷ codes "depth 0\n"
    ∷ codes "grid 10\n"
    ∷ codes "box 1 4\n"
    ∷ []

head_read : head_at (1, concat coin_lines ++ codes "accept 7 16 0\n") ≡ Ok (coin, (20, codes "accept 7 16 0\n"))
unfolding coin_lines coin gcd head_at from_at state_at states_at behind_first row_at entries_at further_at due line_at lib.Count.ones
head_read = refl

node_read : node_at coin (20, codes "accept 7 16 0\n") ≡ Ok (accept 4 (pos 7 ∷ pos 16 ∷ pos 0 ∷ []), (21, []))
unfolding coin node_at node_by accept_at due line_at
node_read = refl

text_is : report_text coin.asked None coin.bound (accepted 4 (pos 7 ∷ pos 16 ∷ pos 0 ∷ [])) ≡ concat coin_lines ++ codes "accept 7 16 0\n"
unfolding coin_lines coin size_lines row_line asked_lines scale_lines digits
text_is = refl
