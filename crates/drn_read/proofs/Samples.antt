-- Small texts, read by computation.
use Rattle.std.specs.Prelude.{◌≡◌, refl, ℕ, pos, negsuc, true, false, List, [], ◌∷◌, ◌++◌, codes, Ok}
use Rattle.std.specs.List.{flat_map}
use Rattle.lift_frac.specs.Gcd.{gcd}
use Rattle.lift_model.specs.declared.kind.Kind.TheVariants.{Dtmc}
use Rattle.drn_lexer.specs.Cutting.{pieces_behind}
use Rattle.drn_lexer.specs.Lines.{lines_from}
use Rattle.drn_expr.specs.Grammar.{value}
use Rattle.drn_expr.specs.Expansion.{expansion}
use Rattle.drn_read.specs.Reading.{drn, first_fault, judge, said, end_fault, model}

abbrev pub joined : List (List ℕ) → List ℕ
joined ls = flat_map (λ l. l ++ 10 ∷ []) ls

coin : drn (joined (codes "@type: DTMC" ∷ codes "@parameters" ∷ codes "p" ∷ codes "@model" ∷ codes "state 0 init" ∷ codes "1 : p" ∷ codes "2 : 1-p" ∷ codes "state 1 heads" ∷ codes "1 : 1" ∷ codes "state 2" ∷ codes "2 : 1" ∷ [])) (codes "heads") ≡ Ok (record { kind = Dtmc; common = pos 1; names = codes "p" ∷ []; goal = false ∷ true ∷ false ∷ []; init = 0; states = ((record { target = 1; poly = (1, pos 1) ∷ [] } ∷ record { target = 2; poly = (0, pos 1) ∷ (1, negsuc 0) ∷ [] } ∷ []) ∷ []) ∷ ((record { target = 1; poly = (0, pos 1) ∷ [] } ∷ []) ∷ []) ∷ ((record { target = 2; poly = (0, pos 1) ∷ [] } ∷ []) ∷ []) ∷ [] })
unfolding gcd drn first_fault judge said end_fault model expansion value pieces_behind lines_from lib.Count.ones
coin = refl
