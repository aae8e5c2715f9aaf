-- The shares of a tree's leaves.
use Rattle.std.proofs.Common.{◌≡◌, ℕ, zero, suc, ◌+◌, ◌-◌, ◌^◌, ◌<◌, ◌≤◌, ◌==◌, Bool, true, false, cond, List, [], ◌∷◌, ◌++◌, length, map, take, get_or, refl, ap, arith}
use Rattle.std.specs.Prelude.{sum_by}
use Rattle.std.proofs.lemmas.List.Sums.{sum_by-append, sum_by_more_le_part}
use Rattle.lift_grid.specs.Rectangle.{Spans}
use Rattle.lift_grid.specs.Tree.{Tree, leaves, lower_half, upper_half}
use Rattle.lift_grid.specs.Tree.Tree.{split as splits, accept as accepts, reject as rejects, unknown as unknowns}
use Rattle.lift_model.specs.Model.{live}
use Rattle.lift_cert.specs.declared.bound.Bound.{Bound}
use Rattle.corner_lift.specs.Case.{CaseData, greatest_depth}
use Rattle.cert_check.specs.Sound.{IsSoundTree}
use Rattle.view_map.specs.Parts.{PartData, part_of, parts_over}
use Rattle.view_map.specs.Share.{is_kind, share, share_as, share_of, total_share, whole_volume}
use Rattle.view_map.specs.declared.part.LeafKind.{LeafKind}

total_append : (ps qs : List PartData) → total_share (ps ++ qs) ≡ total_share ps + total_share qs
total_append ps qs = sum_by-append share ps qs

pub map_append : {A B : Type 0} (f : A → B) (xs ys : List A) → map f (xs ++ ys) ≡ map f xs ++ map f ys
map_append f [] ys = refl
map_append f (x ∷ xs) ys = ap (λ r. f x ∷ r) (map_append f xs ys)

-- the leaves of both halves
pub parts_split : (ss : Spans) (depth axis : ℕ) (lower upper : Tree)
    → parts_over ss depth (splits axis lower upper) ≡ parts_over (lower_half axis ss) (depth + 1) lower ++ parts_over (upper_half axis ss) (depth + 1) upper
parts_split ss depth axis lower upper = map_append part_of (leaves (lower_half axis ss) (depth + 1) lower) (leaves (upper_half axis ss) (depth + 1) upper)

one_leaf : (n depth : ℕ) → depth + n ≡ 20 → 0 + 2 ^ (20 - depth) ≡ 2 ^ n
one_leaf n depth e = let left : 20 - depth ≡ n = omega (arith, e) in rw left (omega arith)

-- the leaves of a sound tree share what its rectangle has
total_over : (k : CaseData) (bound : Bound) (t : Tree) (ss : Spans) (depth n : ℕ) → greatest_depth k ≤ 20 → IsSoundTree k bound ss depth t → depth + n ≡ 20 → total_share (parts_over ss depth t) ≡ 2 ^ n
total_over k bound (accepts u x) ss depth n few s e = one_leaf n depth e
total_over k bound (rejects u r) ss depth n few s e = one_leaf n depth e
total_over k bound unknowns ss depth n few s e = one_leaf n depth e
total_over k bound (splits axis lower upper) ss depth zero few s e = absurd (omega (arith, s.0.left, few, e))
total_over k bound (splits axis lower upper) ss depth (suc n) few s e =
    let low = total_over k bound lower (lower_half axis ss) (depth + 1) n few s.1 (omega (arith, e)) in
    let high = total_over k bound upper (upper_half axis ss) (depth + 1) n few s.2 (omega (arith, e)) in
    let both = total_append (parts_over (lower_half axis ss) (depth + 1) lower) (parts_over (upper_half axis ss) (depth + 1) upper) in
    rw (parts_split ss depth axis lower upper) (omega (arith, low, high, both))

few_halvings : (b : Bool) (n : ℕ) → n ≤ 20 → cond b 0 n ≤ 20
few_halvings true n h = omega arith
few_halvings false n h = h

pub greatest_is_few : (k : CaseData) → k.depth ≤ 20 → greatest_depth k ≤ 20
greatest_is_few k h = few_halvings (live k.model == 0) k.depth h

-- the leaves of a sound report share the whole
pub total_of_sound : (k : CaseData) (bound : Bound) (t : Tree) → k.depth ≤ 20 → IsSoundTree k bound k.root 0 t → total_share (parts_over k.root 0 t) ≡ whole_volume
total_of_sound k bound t few s = total_over k bound t k.root 0 20 (greatest_is_few k few) s refl

at_most : (b : Bool) (n : ℕ) → cond b n 0 ≤ n
at_most true n = omega arith
at_most false n = omega arith

-- a leaf has no greater share as one of a kind
part_share : (kind : LeafKind) (p : PartData) → share_as kind p ≤ share p
part_share kind p = at_most (is_kind kind p.kind) (share p)

pub sum_cons : (f : PartData → ℕ) (p : PartData) (ps : List PartData) → sum_by f (p ∷ ps) ≡ f p + sum_by f ps
sum_cons f p ps = let e = sum_by-append f (p ∷ []) ps in omega (arith, e)

-- a kind's share is at most all leaves' share
pub share_at_most : (kind : LeafKind) (ps : List PartData) → share_of kind ps ≤ total_share ps
share_at_most kind [] = omega arith
share_at_most kind (p ∷ ps) =
    let one = part_share kind p in
    let more = share_at_most kind ps in
    let a = sum_cons (share_as kind) p ps in
    let b = sum_cons share p ps in
    omega (arith, one, more, a, b)

-- so is the share of the first leaves and one more
pub share_within : (kind : LeafKind) (ps : List PartData) (i : ℕ) (d : PartData) → i < length ps → share_of kind (take i ps) + share_as kind (get_or ps i d) ≤ total_share ps
share_within kind ps i d h =
    let one = part_share kind (get_or ps i d) in
    let more = sum_by_more_le_part (share_as kind) share ps i d h (part_share kind) in
    omega (arith, one, more)
