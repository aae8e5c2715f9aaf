use Rattle.std.proofs.Common.{◌≡◌, ◌-ℤ◌, rules, SFits, w64, to_z-of_z, unsigned_abs}
use Rattle.view_text.proofs.field.canvas_place.Goals as goal

pub returns-clause-place : goal.returns-clause-place
returns-clause-place c =
    let l : SFits w64 c.args.low = search rules in
    let h : SFits w64 c.args.high = search rules in
    let z : SFits w64 c.args.z = search rules in
    let width : c.distance.result ≡ unsigned_abs (c.args.high -ℤ c.args.low) = simp to_z-of_z at c.distance.ensures in
    let far : c.distance-2.result ≡ unsigned_abs (c.args.z -ℤ c.args.low) = simp to_z-of_z at c.distance-2.ensures in
    rw (c.from.ensures, c.from-2.ensures, c.from-3.ensures, c.at_least_one-width.ensures.value, width, far) at c.at_most_canvas.ensures.value
