-- The definition tried on samples that were worked out by hand.
use Rattle.std.proofs.Common.{◌≡◌, ℕ, [], ◌∷◌, codes, true, false, pos, negsuc, refl}
use Rattle.std.specs.Prelude.{None}
use Rattle.std.specs.List.{concat}
use Rattle.std.specs.Fmt.{digits}
use Rattle.lift_poly.specs.Polynomial.{constant}
use Rattle.lift_grid.specs.Tree.Tree.{split, accept, reject, unknown}
use Rattle.lift_model.specs.declared.kind.Kind.TheVariants.{Dtmc, Mdp}
use Rattle.lift_model.specs.declared.entry.Entry.{Entry}
use Rattle.lift_model.specs.Model.{ModelData}
use Rattle.lift_cert.specs.declared.bound.Bound.{Bound}
use Rattle.cert_text.specs.Report.{size_lines, row_line, asked_lines, scale_lines, tree_lines, report_text}

-- an entry whose value is a number over 4
entry : ℕ → ℕ → Entry
entry target number = record { target = target; poly = constant (pos number) }

coin : ModelData
coin = record {
  kind = Dtmc;
  common = pos 4;
  names = [];
  goal = false ∷ true ∷ false ∷ [];
  init = 0;
  states = ((entry 1 1 ∷ entry 2 3 ∷ []) ∷ []) ∷ ((entry 1 4 ∷ []) ∷ []) ∷ ((entry 2 4 ∷ []) ∷ []) ∷ [];
}

-- two coins to choose from: one shows heads with p, and the other with 1 - p; what never comes is told too
coins : ModelData
coins = record {
  kind = Mdp;
  common = pos 1;
  names = codes "p" ∷ codes "q" ∷ [];
  goal = true ∷ false ∷ [];
  init = 1;
  states = ((record { target = 0; poly = (0, pos 1) ∷ [] } ∷ []) ∷ [])
      ∷ ((record { target = 0; poly = (1, pos 1) ∷ [] } ∷ record { target = 1; poly = (0, pos 1) ∷ (1, negsuc 0) ∷ [] } ∷ [])
      ∷ (record { target = 1; poly = [] } ∷ record { target = 0; poly = (0, pos 1) ∷ [] } ∷ []) ∷ [])
      ∷ [];
}

half : Bound
half = record { num = 1; den = 2 }

report : report_text (record { model = coin; root = []; d = pos 32; depth = 5; w = 4 }) None half (accept 4 (pos 4 ∷ pos 16 ∷ pos 0 ∷ []))
    ≡ codes "plift 1\nkind dtmc\nparameters 0\ncommon 4\nstates 3\ninit 0\ngoal 1 1\nrow 0 0 2\nto 1 0:1\nto 2 0:3\nrow 1 0 1\nto 1 0:4\nrow 2 0 1\nto 2 0:4\nbound 1/2\nprecision 4\ndepth 5\ngrid 32\nbox\naccept 4 16 0\n"
unfolding coin entry half size_lines row_line asked_lines scale_lines digits
report = refl

-- parameters, choices and the sides of the root are told, and an entry of value 0
report_choices : report_text (record { model = coins; root = (negsuc 1, pos 4) ∷ (pos 0, pos 6) ∷ []; d = pos 10; depth = 1; w = 4 }) None half unknown
    ≡ codes "plift 1\nkind mdp\nparameters 2 p q\ncommon 1\nstates 2\ninit 1\ngoal 1 0\nrow 0 0 1\nto 0 0:1\nrow 1 0 2\nto 0 1:1\nto 1 0:1 1:-1\nrow 1 1 2\nto 1\nto 0 0:1\nbound 1/2\nprecision 4\ndepth 1\ngrid 10\nbox -2 4 0 6\nunknown\n"
unfolding coins half size_lines row_line asked_lines scale_lines digits
report_choices = refl

-- nodes in preorder: a split, a rejecting leaf with its four lines, and an unknown leaf; a goal state picks nothing, and one without rank has none
nodes : concat (tree_lines None 0 (split 1 (reject 4 (record { numbers = pos 9 ∷ pos 16 ∷ pos 0 ∷ []; picks = 0 ∷ 4294967295 ∷ 4294967295 ∷ []; ranks = 1 ∷ 0 ∷ 4294967295 ∷ []; e = 2; k = 1 })) unknown))
    ≡ codes "split 1\nreject e 2 k 1 m 2 b 9/16\ny 9 16 0\nchoice 0 - -\nrank 1 0 -\nunknown\n"
unfolding digits
nodes = refl
