-- Values of rewards aren't below 0, and where they stand in a group.
use Rattle.std.proofs.Common.{◌≡◌, ◌*ℤ◌, ◌≤ℤ◌, ◌*◌, ◌^◌, ◌-◌, ◌==◌, ℕ, ℤ, pos, Bool, true, false, cond, refl, sym, ◌∙◌, ap, subst, List, Option, Some, None, Result, Ok, Err, arith}
use Rattle.std.specs.Prelude.{unsigned_abs, slice_get}
use Rattle.std.specs.Int.{int_signum}
use Rattle.std.specs.List.{slice_split}
use Rattle.std.specs.Option.{option_map}
use Rattle.std.proofs.lemmas.Int.{ints}
use Rattle.std.proofs.lemmas.Option.{slice_get-map}
use Rattle.lift_bytes.specs.Trimming.{trimmed}
use Rattle.lift_costs.specs.Costs.{CostData, cost, no_cost}
use Rattle.lift_frac.specs.Ratio.{Ratio, lowest, is_wide, fraction}
use Rattle.lift_frac.specs.Literal.{Literal, literal_at, is_literal, number, up, down, is_far, scaled, value_of, reading}
use Rattle.lift_frac.specs.Written.{cut_at}
use Rattle.lift_frac.specs.declared.error.FracError.{FracError}
use Rattle.lift_frac.specs.declared.error.FracError.TheVariants.{Wide, Zero, BadLiteral}
use Rattle.drn_read.specs.Rewards.{quotient, reward_value, inside}
use Rattle.drn_read.specs.Costs.{cost_in}

-- ---- signs

-- it isn't below 0
abbrev IsNat : ℤ → Type 0
IsNat z = (n : ℕ) × (z ≡ pos n)

times : (a b : ℤ) → IsNat a → IsNat b → IsNat (a *ℤ b)
times a b h k = (h.0 * k.0, ap (λ x. x *ℤ b) h.1 ∙ ap (λ y. pos h.0 *ℤ y) k.1)

sign_of : (n : ℕ) → IsNat (int_signum (pos n))
sign_of n = (_, refl)

sign : (z : ℤ) → IsNat z → IsNat (int_signum z)
sign z h = subst (λ (y : ℤ). IsNat (int_signum y)) (sym h.1) (sign_of h.0)

record AreNat (q : Ratio) : Type 0 where
  pub num : IsNat q.num
  pub den : IsNat q.den

lowest_nat : (n d : ℤ) → IsNat n → IsNat d → AreNat (lowest n d)
lowest_nat n d h k = record { num = times (int_signum n *ℤ int_signum d) _ (times (int_signum n) (int_signum d) (sign n h) (sign d k)) (_, refl); den = (_, refl) }

narrow : (q r : Ratio) (b : Bool) → cond b (Err Wide) (Ok q) ≡ Ok r → AreNat q → AreNat r
narrow q r true e h = cc
narrow q r false e h = let f : q ≡ r = cc in subst AreNat f h

fraction_nat : (n d : ℤ) (q : Ratio) → IsNat n → IsNat d → fraction n d ≡ Ok q → AreNat q
fraction_nat n d q h k e = narrow (lowest n d) q (is_wide (lowest n d)) e (lowest_nat n d h k)

scaled_by : ℕ → ℕ → ℕ → Bool → Result Ratio FracError
scaled_by n u d far = cond far (Err Wide) (fraction (pos (n * 10 ^ (u - d))) (pos (10 ^ (d - u))))

scaled_nat : (n u d : ℕ) (b : Bool) (r : Ratio) → scaled_by n u d b ≡ Ok r → AreNat r
unfolding scaled_by
scaled_nat n u d true r e = cc
scaled_nat n u d false r e = fraction_nat (pos (n * 10 ^ (u - d))) (pos (10 ^ (d - u))) r (_, refl) (_, refl) e

scaled-is : (n u d : ℕ) → scaled n u d ≡ scaled_by n u d (is_far n u d)
unfolding scaled_by
scaled-is n u d = refl

value_nat : (n u d : ℕ) (b : Bool) (r : Ratio) → cond b (Ok (record { num = pos 0; den = pos 1 })) (scaled n u d) ≡ Ok r → AreNat r
value_nat n u d true r e = let f : record { num = pos 0; den = pos 1 } ≡ r = cc in subst AreNat f (record { num = (0, refl); den = (1, refl) })
value_nat n u d false r e = scaled_nat n u d (is_far n u d) r (sym (scaled-is n u d) ∙ e)

reading_by : (l : Literal) (b : Bool) (r : Ratio) → cond b (value_of l) (Err BadLiteral) ≡ Ok r → AreNat r
reading_by l true r e = value_nat (number l) (up l) (down l) (number l == 0) r e
reading_by l false r e = cc

reading_nat : (text : List ℕ) (r : Ratio) → reading text ≡ Ok r → AreNat r
reading_nat text r e = reading_by (literal_at text).0 (is_literal text) r e

divided_nat : (a b : Ratio) (none : Bool) (r : Ratio) → AreNat a → AreNat b → cond none (Err Zero) (fraction (a.num *ℤ b.den) (a.den *ℤ b.num)) ≡ Ok r → AreNat r
divided_nat a b true r h k e = cc
divided_nat a b false r h k e = fraction_nat (a.num *ℤ b.den) (a.den *ℤ b.num) r (times a.num b.den h.num k.den) (times a.den b.num h.den k.num) e

no_quotient : (none : Bool) (r : Ratio) → ◌≡◌ {A = Result Ratio FracError} (cond none (Err Zero) (Err Wide)) (Ok r) → AreNat r
no_quotient true r e = cc
no_quotient false r e = cc

quotient_nat : (above below : Result Ratio FracError) (r : Ratio) → ((a : Ratio) → above ≡ Ok a → AreNat a) → ((b : Ratio) → below ≡ Ok b → AreNat b) → quotient above below ≡ Ok r → AreNat r
quotient_nat (Ok a) (Ok b) r h k e = divided_nat a b (unsigned_abs b.num == 0) r (h a refl) (k b refl) e
quotient_nat (Ok a) (Err Wide) r h k e = cc
quotient_nat (Ok a) (Err Zero) r h k e = cc
quotient_nat (Ok a) (Err BadLiteral) r h k e = cc
quotient_nat (Err Wide) (Ok b) r h k e = no_quotient (unsigned_abs b.num == 0) r e
quotient_nat (Err Wide) (Err Wide) r h k e = cc
quotient_nat (Err Wide) (Err Zero) r h k e = cc
quotient_nat (Err Wide) (Err BadLiteral) r h k e = cc
quotient_nat (Err Zero) (Ok b) r h k e = no_quotient (unsigned_abs b.num == 0) r e
quotient_nat (Err Zero) (Err Wide) r h k e = cc
quotient_nat (Err Zero) (Err Zero) r h k e = cc
quotient_nat (Err Zero) (Err BadLiteral) r h k e = cc
quotient_nat (Err BadLiteral) below r h k e = cc

by_cut : (text : List ℕ) (parts : Option (List ℕ × List ℕ)) (r : Ratio)
    → ◌≡◌ {A = Result Ratio FracError} (elim parts [ None ↦ reading text | Some parts ↦ quotient (reading parts.0) (reading parts.1) ]) (Ok r) → AreNat r
by_cut text None r e = reading_nat text r e
by_cut text (Some parts) r e = quotient_nat (reading parts.0) (reading parts.1) r (reading_nat parts.0) (reading_nat parts.1) e

-- the value of a reward isn't below 0
pub not_below : (text : List ℕ) (r : Ratio) → reward_value text ≡ Ok r → pos 0 ≤ℤ r.num
not_below text r e = let h = (by_cut text (cut_at 47 text) r e).num in subst (λ (z : ℤ). pos 0 ≤ℤ z) (sym h.1) (omega (arith, ints))

-- ---- places

abbrev pub cost_by : Option (Result Ratio FracError) → CostData
cost_by value = elim value [ Some (Ok q) ↦ cost q | _ ↦ no_cost ]

-- the cost at a place, by the piece that stands there
pub cost_at_piece : (group : List ℕ) (place : ℕ) (piece : Option (List ℕ)) → piece ≡ slice_get (slice_split (λ b. b == 44) (inside group)) place
    → cost_in (Some place) (Some group) ≡ cost_by (option_map (λ text. reward_value (trimmed text)) piece)
cost_at_piece group place piece e =
    ap cost_by (slice_get-map (λ text. reward_value (trimmed text)) (slice_split (λ b. b == 44) (inside group)) place ∙ ap (option_map (λ text. reward_value (trimmed text))) (sym e))

-- the same by the value that the piece writes, or why it writes none
pub cost_at_value : (group : List ℕ) (place : ℕ) (piece : List ℕ) (value : Result Ratio FracError) → Some piece ≡ slice_get (slice_split (λ b. b == 44) (inside group)) place
    → value ≡ reward_value (trimmed piece) → cost_in (Some place) (Some group) ≡ cost_by (Some value)
cost_at_value group place piece value e f = cost_at_piece group place (Some piece) e ∙ ap (λ v. cost_by (Some v)) (sym f)
