-- What a label more, a state that is put into a list and a list that is taken away leave.
use Rattle.std.proofs.Common.{ℕ, ◌+◌, ◌-◌, ◌<◌, List, [], ◌∷◌, ◌++◌, length, set, All, sym, ◌∙◌, subst, arith}
use Rattle.std.proofs.lemmas.List.{length-set, length_push}
use Rattle.std.proofs.lemmas.List.Elements.{All-nil, All-push, All-set}
use Rattle.lift_lump.specs.Search.{number_at}
use Rattle.lift_lump.specs.Splitting.{list_of, AreInside}
use Rattle.lift_lump.proofs.Holders.{moved_counted, opened_counted}

pub inside_opened : (labels sizes : List ℕ) (old : List (List ℕ)) → AreInside labels sizes old → AreInside labels (sizes ++ 0 ∷ []) (old ++ [] ∷ [])
inside_opened labels sizes old are = record {
  size = omega (arith, length_push sizes 0, length_push old [], are.size);
  counted = λ l. opened_counted sizes l ∙ are.counted l;
  below = λ k d lt. let b = are.below k d lt in omega (arith, length_push old [], b);
  states = All-push (All (λ s. s < length labels)) old [] are.states (All-nil (λ s. s < length labels));
}

pub inside_placed : (labels sizes : List ℕ) (members : List (List ℕ)) (s name : ℕ) → s < length labels → name < length members → AreInside labels sizes members
    → AreInside (set labels s name) (set (set sizes (number_at labels s) (number_at sizes (number_at labels s) - 1)) name (number_at (set sizes (number_at labels s) (number_at sizes (number_at labels s) - 1)) name + 1)) (set members name (list_of members name ++ s ∷ []))
inside_placed labels sizes members s name s_in name_in are = record {
  size = omega (arith, length-set left name (number_at left name + 1), length-set sizes (number_at labels s) (number_at sizes (number_at labels s) - 1), length-set members name grown, are.size);
  counted = moved_counted labels sizes s name s_in are.counted (λ k d lt. let b = are.below k d lt in omega (arith, b, are.size)) (omega (arith, name_in, are.size));
  below = subst (λ n. All (λ l. l < n) (set labels s name)) (sym (length-set members name grown)) (All-set (λ l. l < length members) labels s name name_in are.below);
  states = subst (λ n. All (All (λ t. t < n)) (set members name grown)) (sym (length-set labels s name)) (All-set (All (λ t. t < length labels)) members name grown (All-push (λ t. t < length labels) (list_of members name) s (are.states name [] name_in) s_in) are.states);
}
  where
    left : List ℕ
    left = set sizes (number_at labels s) (number_at sizes (number_at labels s) - 1)

    grown : List ℕ
    grown = list_of members name ++ s ∷ []

-- a list is taken away
pub inside_taken : (labels sizes : List ℕ) (members : List (List ℕ)) (b : ℕ) → AreInside labels sizes members → AreInside labels sizes (set members b [])
inside_taken labels sizes members b are = record {
  size = omega (arith, length-set members b [], are.size);
  counted = are.counted;
  below = λ k d lt. let l = are.below k d lt in omega (arith, length-set members b [], l);
  states = All-set (All (λ s. s < length labels)) members b [] (All-nil (λ s. s < length labels)) are.states;
}
