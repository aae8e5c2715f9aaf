-- Names that are copied one after another.
use Rattle.std.proofs.Common.{◌≡◌, ◌≢◌, ◌<◌, ◌+◌, ℕ, List, [], ◌∷◌, ◌++◌, suc, ap, length, get_or, take, AllPairs, Contains, sym, ◌∙◌, arith}
use Rattle.std.proofs.lemmas.List.{get_or-take, length-take}
use Rattle.std.proofs.Math.Seq.{take-suc}

-- a name doesn't stand among those before it
pub not_before : (names : List (List ℕ)) (i : ℕ) (name : List ℕ) → AllPairs (λ a b. a ≢ b) names → i < length names → name ≡ get_or names i name → Contains (take i names) name → ⊥
not_before names i name apart lt at (k, below, found) =
    let before : k < i = grind (arith, below, length-take i names) in
    apart k i name before lt (sym (get_or-take i names k name before) ∙ found ∙ at)

-- with a name more that stands at its place
pub one_name_more : (names : List (List ℕ)) (i : ℕ) (name : List ℕ) → i < length names → name ≡ get_or names i name → take i names ++ name ∷ [] ≡ take (i + 1) names
one_name_more names i name lt at =
    let next : suc i ≡ i + 1 = omega arith in
    ap (λ n. take i names ++ n ∷ []) at ∙ sym (take-suc names i name lt) ∙ ap (λ n. take n names) next
