-- The rest of a buffer.
use Rattle.std.proofs.Common.{◌≡◌, ◌≤◌, ◌+◌, ◌-◌, ◌∙◌, ap, sym, ℕ, List, length, take, drop, ◌++◌, arith, length-drop, take_all}
use lib.Seq.{paste}
use Rattle.std.proofs.lemmas.List.{drop-drop, drop-append-le}
use Rattle.std.proofs.lemmas.List.Edits.{take-paste}

-- the rest without its first elements
pub rest_skipped : (xs : List ℕ) (from n : ℕ) → drop (from + n) xs ≡ drop n (drop from xs)
rest_skipped xs from n = sym (drop-drop n from xs)

-- the rest with more behind it
pub rest_grown : (xs piece : List ℕ) (from : ℕ) → from ≤ length xs → drop from (xs ++ piece) ≡ drop from xs ++ piece
rest_grown xs piece from within = drop-append-le from xs piece within

-- what stands at the front, once the rest was moved there
pub rest_moved : (xs : List ℕ) (from len : ℕ) → len ≡ length xs - from → take len (paste xs 0 (drop from xs) len) ≡ drop from xs
rest_moved xs from len at =
    let size : length (drop from xs) ≡ len = omega (arith, at, length-drop from xs) in
    let same : len ≡ 0 + len = omega arith in
    ap (λ (k : ℕ). take k (paste xs 0 (drop from xs) len)) same
    ∙ take-paste xs 0 (drop from xs) len (omega (arith, at)) (omega (arith, size))
    ∙ take_all len (drop from xs) (omega (arith, size))
