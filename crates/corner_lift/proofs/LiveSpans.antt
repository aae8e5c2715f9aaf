-- A live parameter has a span in each rectangle inside the root.
use Rattle.std.proofs.Common.{ℕ, ◌^◌, ◌<◌, List, [], ◌∷◌, length, map, get_or, All, IsBitSet, subst, sym, ◌∙◌}
use Rattle.std.proofs.lemmas.Nat.{or_lt, pow_pos}
use Rattle.std.proofs.lemmas.List.Elements.{All-head, All-tail}
use Rattle.lift_grid.specs.Laws.{MembersAreBelow}
use Rattle.lift_grid.specs.Rectangle.{Spans}
use Rattle.lift_model.specs.declared.entry.Entry.{Entry}
use Rattle.lift_model.specs.Model.{live, union, choices_support, support}
use Rattle.lift_model.specs.Valid.{IsRow}
use Rattle.corner_lift.specs.Case.{CaseData, IsCase, IsInside}
use Rattle.corner_lift.proofs.Cases.{length-within, support_below}

union_below : {X : Type 0} (n : ℕ) (f : X → ℕ) (xs : List X) → All (λ x. f x < 2 ^ n) xs → union (map f xs) < 2 ^ n
union_below n f [] h = pow_pos n
union_below n f (x ∷ xs) h = or_lt n (f x) (union (map f xs)) (All-head (λ x. f x < 2 ^ n) x xs h) (union_below n f xs (All-tail (λ x. f x < 2 ^ n) x xs h))

choices_below : (states n : ℕ) (all : List (List (List Entry))) → All (All (IsRow states n)) all → All (λ rows. choices_support rows < 2 ^ n) all
choices_below states n all h s d lt = union_below n support (get_or all s d) (λ a e l. support_below states n (get_or (get_or all s d) a e) (h s d lt a e l).entries)

pub live_has_span : MembersAreBelow → (k : CaseData) (spans : Spans) (i : ℕ) → IsCase k → IsInside k.root spans → IsBitSet (live k.model) i → i < length spans
live_has_span members k spans i is inside bit =
    let n = length k.model.names in
    let below : live k.model < 2 ^ n = union_below n choices_support k.model.states (choices_below (length k.model.states) n k.model.states is.asked.model.rows) in
    subst (λ size. i < size) (sym (length-within spans k.root inside.within ∙ is.asked.grid.one_each)) (members n (live k.model) i below bit)
