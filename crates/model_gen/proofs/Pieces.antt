-- The labels and the values of a ladder.
use Rattle.std.proofs.Common.{true, false, List, [], ◌∷◌, refl, ◌∙◌, arith}
use Rattle.std.specs.Prelude.{codes}
use Rattle.std.proofs.lemmas.List.{append-nil}
use Rattle.lift_poly.specs.Polynomial.{Term}
use Rattle.lift_frac.specs.Gcd.{gcd}
use Rattle.drn_lexer.specs.Cutting.{pieces_behind}
use Rattle.drn_expr.specs.Grammar.{value}
use Rattle.drn_expr.specs.Expansion.{expansion}
use Rattle.drn_expr.specs.RatPolys.{OverOne}
use Rattle.model_gen.specs.Ladder.{p_poly, not_p_poly, q_poly, not_q_poly, one_poly}
use Rattle.model_gen.proofs.Words.{plain_word, digits_end, ends_behind}
use Rattle.model_gen.proofs.Steps.{IsLabels, IsValue}

pub no_label : IsLabels [] [] false false
unfolding pieces_behind
no_label = record {
  words_are = refl;
  stops = refl;
  calm = refl;
  init_is = refl;
  goal_is = refl;
  bytes = refl;
  short = omega arith;
  ends = λ ds n h. let e = digits_end ds n h in record { front = e.front; last = e.last; is = append-nil ds ∙ e.is; blank = e.blank; return = e.return };
}

pub init_label : IsLabels (codes " init") (plain_word (codes "init") ∷ []) true false
unfolding pieces_behind
init_label = record {
  words_are = refl;
  stops = refl;
  calm = refl;
  init_is = refl;
  goal_is = refl;
  bytes = refl;
  short = omega arith;
  ends = λ ds n h. ends_behind ds (codes " init") (record { front = codes " ini"; last = 116; is = refl; blank = refl; return = refl });
}

pub done_label : IsLabels (codes " done") (plain_word (codes "done") ∷ []) false true
unfolding pieces_behind
done_label = record {
  words_are = refl;
  stops = refl;
  calm = refl;
  init_is = refl;
  goal_is = refl;
  bytes = refl;
  short = omega arith;
  ends = λ ds n h. ends_behind ds (codes " done") (record { front = codes " don"; last = 101; is = refl; blank = refl; return = refl });
}

abbrev pub over : List Term → OverOne
over terms = record { terms = terms; den = 1 }

pub p_value : IsValue (codes " : p") (over p_poly)
unfolding pieces_behind value expansion lib.Count.ones gcd
p_value = record { no_digit = refl; stops = refl; colon = refl; value = refl; bytes = refl; short = omega arith; ends = record { front = codes " : "; last = 112; is = refl; blank = refl; return = refl } }

pub not_p_value : IsValue (codes " : 1-p") (over not_p_poly)
unfolding pieces_behind value expansion lib.Count.ones gcd
not_p_value = record { no_digit = refl; stops = refl; colon = refl; value = refl; bytes = refl; short = omega arith; ends = record { front = codes " : 1-"; last = 112; is = refl; blank = refl; return = refl } }

pub q_value : IsValue (codes " : q") (over q_poly)
unfolding pieces_behind value expansion lib.Count.ones gcd
q_value = record { no_digit = refl; stops = refl; colon = refl; value = refl; bytes = refl; short = omega arith; ends = record { front = codes " : "; last = 113; is = refl; blank = refl; return = refl } }

pub not_q_value : IsValue (codes " : 1-q") (over not_q_poly)
unfolding pieces_behind value expansion lib.Count.ones gcd
not_q_value = record { no_digit = refl; stops = refl; colon = refl; value = refl; bytes = refl; short = omega arith; ends = record { front = codes " : 1-"; last = 113; is = refl; blank = refl; return = refl } }

pub one_value : IsValue (codes " : 1") (over one_poly)
unfolding pieces_behind value expansion lib.Count.ones gcd
one_value = record { no_digit = refl; stops = refl; colon = refl; value = refl; bytes = refl; short = omega arith; ends = record { front = codes " : "; last = 49; is = refl; blank = refl; return = refl } }
