use Rattle.std.proofs.Common.{arith, ◌≡◌, ◌≤◌, ◌+◌, ◌-◌, ◌∙◌, ap, length, take, drop, sym, ℕ, List, length-take, length-drop}
use Rattle.std.proofs.lemmas.List.Edits.{take-paste}
use Rattle.std.proofs.lemmas.List.{drop-take}
use Rattle.std.proofs.Math.Nat.{zero-add}
use Rattle.std.specs.List.{copy_within}
use Rattle.lift_base.proofs.held.Held.remove_first.Goals as goal

pub returns : goal.returns
returns c =
    let len = c.self.inside.len in
    let bytes = c.self.inside.bytes in
    let count = c.args.count in
    let rest : ℕ = len - count in
    let within : count ≤ len = omega (arith, ap length c.self.view_is, length-take len bytes, c.requires) in
    let whole : count + rest ≡ len = omega arith in
    ap (λ (l : List ℕ). take rest l) c.copy_within.ensures.after
    ∙ ap (λ (n : ℕ). take n (copy_within bytes count len 0)) (sym (zero-add rest))
    ∙ take-paste bytes 0 (drop count bytes) rest (omega arith) (omega (arith, length-drop count bytes, c.self.told, c.self.invariant))
    ∙ sym (drop-take count rest bytes) ∙ ap (λ (n : ℕ). drop count (take n bytes)) whole ∙ ap (λ (l : List ℕ). drop count l) c.self.view_is
