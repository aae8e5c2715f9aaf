-- How long a rectangle's row of ends is, and how much a pool of sides takes.
use Rattle.std.proofs.Common.{◌≡◌, ℕ, ◌+◌, ◌-◌, ◌*◌, ◌^◌, ◌<◌, ◌≤◌, ◌==◌, Bool, true, false, cond, [], ◌∷◌, length, refl, sym, ap, ◌∙◌, arith, mul-le-mul}
use Rattle.lift_grid.specs.Rectangle.{Spans, sides_of}
use Rattle.lift_model.specs.Model.{live}
use Rattle.corner_lift.specs.Case.{CaseData, IsCase, greatest_depth}
use Rattle.lift_walk.specs.Sides.{end_count}

pub length-sides : (ss : Spans) → length (sides_of ss) ≡ 2 * length ss
length-sides [] = refl
length-sides (s ∷ ss) = omega (arith, length-sides ss)

-- the root's row has two ends for each parameter
pub root_ends : (k : CaseData) → IsCase k → length (sides_of k.root) ≡ end_count k
root_ends k is = length-sides k.root ∙ ap (λ n. 2 * n) is.asked.grid.one_each

by_bool : (P : Bool → Type 0) (b : Bool) → P true → P false → P b
by_bool P true x y = x
by_bool P false x y = y

pub few_depths : (k : CaseData) → IsCase k → greatest_depth k ≤ 20
few_depths k is = by_bool (λ b. cond b 0 k.depth ≤ 20) (live k.model == 0) (omega arith) is.asked.depth

pub few_words : (depths len : ℕ) → depths ≤ 20 → len ≤ 32 → (depths + 1) * len < 2 ^ 64
few_words depths len a b =
    let more : depths + 1 ≤ 21 = omega (arith, a) in
    let words : (depths + 1) * len ≤ 21 * 32 = mul-le-mul more b in
    omega (arith, words)

pub words_left : (depths len n spare : ℕ) → len ≡ n → (depths + 1) * len ≤ spare → depths * n ≤ spare - len
words_left depths len n spare e h = rw (sym e) (let all : (depths + 1) * len ≡ depths * len + len = omega arith in omega (arith, all, h))
