-- The literal at the front of an end.
use Rattle.std.proofs.Common.{◌≡◌, Bool, true, List, ℕ, Result, Ok, Err, cond, sym, ap, ◌∙◌}
use Rattle.std.specs.Char.{is_ascii_digit}
use Rattle.lift_bytes.specs.Bytes.{is_blank, first_passes, behind}
use Rattle.lift_frac.specs.Literal as literal
use Rattle.lift_grid.specs.Region.{Number, literal_at}
use Rattle.lift_grid.specs.declared.error.RegionError.{RegionError}
use Rattle.lift_grid.specs.declared.error.RegionError.TheVariants.{Syntax}

-- a text behind whose blanks a digit stands gives that literal's value
pub literal_given : (text rest left : List ℕ) (value : Number) → rest ≡ behind is_blank text → first_passes is_ascii_digit rest ≡ true
    → value ≡ literal.value_of (literal.literal_at rest).0 → left ≡ (literal.literal_at rest).1 → literal_at text ≡ Ok (value, left)
unfolding literal_at
literal_given text rest left value at digit worth end =
    let given = λ (t : List ℕ) (b : Bool). let r : Result (Number × List ℕ) RegionError = cond b (Ok (literal.value_of (literal.literal_at t).0, (literal.literal_at t).1)) (Err Syntax) in r in
    ap (λ t. given t (first_passes is_ascii_digit t)) (sym at) ∙ ap (given rest) digit ∙ ap (λ v. Ok (v, (literal.literal_at rest).1)) (sym worth) ∙ ap (λ b. Ok (value, b)) (sym end)
