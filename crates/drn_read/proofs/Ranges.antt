-- Parts of a text by their places.
use Rattle.std.proofs.Common.{◌≡◌, ◌+◌, ◌-◌, ◌≤◌, ℕ, List, length, take, drop, arith, sym, ◌∙◌, ap}
use Rattle.std.specs.Prelude.{slice_range}
use Rattle.std.proofs.lemmas.List.{drop-take, drop-drop, length-take}

-- so many bytes of a part lie in it
pub part_within : (text : List ℕ) (at to len : ℕ) → at ≤ to → len ≤ length (slice_range text at to) → at + len ≤ to
part_within text at to len ordered h = omega (arith, h, ordered, length-take (to - at) (drop at text))

-- what is left of a part behind so many of its bytes
pub part_left : (text : List ℕ) (at to len : ℕ) → at + len ≤ to → slice_range text (at + len) to ≡ drop len (slice_range text at to)
part_left text at to len h =
    let e : to - at ≡ len + (to - (at + len)) = omega arith in
    sym (ap (λ n. drop len (take n (drop at text))) e ∙ drop-take len (to - (at + len)) (drop at text) ∙ ap (take (to - (at + len))) (drop-drop len at text))
