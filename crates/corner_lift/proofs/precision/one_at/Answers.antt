use Rattle.std.proofs.Common.{◌≡◌, ℕ, ◌*◌, ◌%◌, ◌^◌, ◌<◌, ◌≤◌, pos, to_z, w64, one-mul, mod-eq_of_lt, pow_mono, ap, ◌∙◌, arith}
use Rattle.std.proofs.lemmas.Int.{to_z_pos}
use Rattle.corner_lift.specs.Case.{most_precision}
use Rattle.corner_lift.proofs.precision.one_at.Goals as goal

-- 1 shifted by so many places
shifted : (w : ℕ) → w ≤ most_precision → to_z w64 (1 * 2 ^ w % 2 ^ 64) ≡ pos (2 ^ w)
shifted w le =
    let small : 2 ^ w ≤ 2 ^ most_precision = pow_mono le in
    let below : 2 ^ w < 2 ^ 63 = omega arith in
    let same : 1 * 2 ^ w % 2 ^ 64 ≡ 2 ^ w = ap (λ n. n % 2 ^ 64) (one-mul (2 ^ w)) ∙ mod-eq_of_lt (omega arith) in
    ap (to_z w64) same ∙ to_z_pos w64 (2 ^ w) below

pub returns : goal.returns
returns c = shifted c.args.w c.requires
