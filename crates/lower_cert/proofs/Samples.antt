-- A loop worked by hand: from state 0 to the goal with p / 2, back to itself with 1 / 2, and else to a sink.
use Rattle.std.proofs.Common.{◌≡◌, ℕ, true, false, Bool, List, [], ◌∷◌, ℤ, pos, negsuc, refl, inl, inr, ◌==◌, if◌then◌else◌}
use Rattle.lift_grid.specs.Rectangle.{Spans}
use Rattle.lift_model.specs.declared.kind.Kind.TheVariants.{Dtmc}
use Rattle.lift_model.specs.declared.entry.Entry.{Entry}
use Rattle.lift_model.specs.Model.{ModelData}
use Rattle.corner_lift.specs.Corner.{corner_sum, whole}
use Rattle.corner_lift.specs.Case.{CaseData}
use Rattle.lower_cert.specs.Capping.{into, out, beyond, filled, CapsAt}
use Rattle.lower_cert.specs.Lowering.{IsExit, from_top}
use Rattle.lower_cert.specs.Holding.{holding}

abbrev loop_row : List Entry
loop_row = record { target = 0; poly = (0, pos 1) ∷ [] } ∷ record { target = 1; poly = (1, pos 1) ∷ [] } ∷ record { target = 2; poly = (0, pos 1) ∷ (1, negsuc 0) ∷ [] } ∷ []

abbrev loop : ModelData
loop = record {
  kind = Dtmc;
  common = pos 2;
  names = (112 ∷ []) ∷ [];
  goal = false ∷ true ∷ false ∷ [];
  init = 0;
  states = (loop_row ∷ []) ∷ (loop_row ∷ []) ∷ (loop_row ∷ []) ∷ [];
}

-- p from 1/5 to 2/5
abbrev sides : Spans
sides = (pos 1, pos 2) ∷ []

abbrev case : CaseData
case = record { model = loop; root = sides; d = pos 5; depth = 0; w = 4 }

-- 16 everywhere but 0 in the sink, and the set of state 0 alone
abbrev start : ℕ → ℤ
start s = if s == 2 then pos 0 else pos 16

abbrev self : ℕ → Bool
self s = s == 0

-- at p = 1/5 the weights are 5, 1 and 4 of 10: with 4 in state 0 the sum is 5 * 4 + 1 * 16, less than 4 * 10
loop_sum : corner_sum (pos 5) sides loop_row 0 (filled self (pos 4) start) ≡ pos 36
loop_sum = refl

loop_whole : whole loop (pos 5) sides loop_row ≡ pos 10
loop_whole = refl

loop_capped : CapsAt case sides self start (pos 4) loop_row 0
loop_capped = inl (record { lt = tt })

-- with 3 it isn't: 5 * 3 + 1 * 16 is more than 3 * 10
loop_held : corner_sum (pos 5) sides loop_row 0 (filled self (pos 3) start) ≡ pos 31
loop_held = refl

-- 1 and 4 of 10 leave the set, and 16 comes from beyond it
loop_leaves : corner_sum (pos 5) sides loop_row 0 (out self) ≡ pos 5
loop_leaves = refl

loop_stays : corner_sum (pos 5) sides loop_row 0 (into self) ≡ pos 5
loop_stays = refl

loop_beyond : corner_sum (pos 5) sides loop_row 0 (beyond self start) ≡ pos 16
loop_beyond = refl

-- the sum with 16 in state 0 is 5 * 16 + 1 * 16; less the loop's 5 * 16 it is 16, which is less than 4 * 5, and not less than 3 * 5: the exit is 3
loop_all : corner_sum (pos 5) sides loop_row 0 start ≡ pos 96
loop_all = refl

loop_exit : IsExit (pos 16) (pos 96) (pos 5) (pos 10) (pos 3)
loop_exit = inr (record { lt = tt })

-- where all weight stays in the set, the exit is 0
stays_exit : IsExit (pos 16) (pos 160) (pos 10) (pos 10) (pos 0)
stays_exit = inl (record { le = tt })

-- state 0 held at 3, and then at 5: the lesser number counts; state 1 isn't held
held_at : (holding (from_top case sides) 0 (pos 3)).ceiling 0 ≡ pos 3
held_at = refl

held_beside : (holding (from_top case sides) 0 (pos 3)).ceiling 1 ≡ pos 16
held_beside = refl

held_twice : (holding (holding (from_top case sides) 0 (pos 3)) 0 (pos 5)).ceiling 0 ≡ pos 3
held_twice = refl
