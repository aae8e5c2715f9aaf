-- What a formula says.
use Rattle.std.specs.Prelude.{◌≡◌, ◌&&◌, ℕ, pos, unsigned_abs, int_le, int_lt, List, Option, Some, None, Result, Ok, Err, option_and_then, if◌then◌else◌}
use Rattle.lift_frac.specs.Ratio.{Ratio}
use Rattle.lift_frac.specs.Written.{written_ratio}
use Rattle.lift_cert.specs.Bound.{part_limit}
use Rattle.lift_cert.specs.declared.bound.Bound.{Bound}
use Rattle.property_text.specs.declared.op.Op.{Op}
use Rattle.property_text.specs.declared.error.FormulaError.{FormulaError}
use Rattle.property_text.specs.declared.error.FormulaError.TheVariants.{Syntax, Bound as NoBound}
use Rattle.property_text.specs.Grammar.{Written, Writes}
use Rattle.property_text.specs.Reading.{writing}

-- A formula: how the probability is compared with the bound, the bound, the label of the safe states, if it has one, and that of the goal states.
pub record FormulaData : Type 0 where
  pub op : Op
  pub bound : Bound
  pub safe : Option (List ℕ)
  pub goal : List ℕ

-- a fraction in lowest terms as a bound, where it is from 0 to 1 and its denominator is below the limit of a bound's parts
abbrev pub bound_by : Ratio → Option Bound
bound_by q = if int_le (pos 0) q.num && int_le q.num q.den && int_lt q.den (pos part_limit)
    then Some (record { num = unsigned_abs q.num; den = unsigned_abs q.den }) else None

-- the bound that a text names; none where it is out of its range, where its divisor is 0 or where a part is too wide
abbrev pub bound_of : List ℕ → Option Bound
bound_of text = option_and_then bound_by (written_ratio text)

-- the formula says what is written
pub record Says (w : Written) (f : FormulaData) : Type 0 where
  pub op : f.op ≡ w.op
  pub bound : bound_of w.bound ≡ Some f.bound
  pub safe : f.safe ≡ w.safe
  pub goal : f.goal ≡ w.goal

-- the text writes a formula that says this
pub record IsFormula (text : List ℕ) (f : FormulaData) : Type 0 where
  pub written : Written
  pub writes : Writes text written
  pub says : Says written f

-- the text writes a formula whose bound isn't given
pub record HasNoBound (text : List ℕ) : Type 0 where
  pub written : Written
  pub writes : Writes text written
  pub none : bound_of written.bound ≡ None

-- ---- the same by reading

-- the formula that says what is written; none where its bound isn't given
abbrev pub said : Written → Result FormulaData FormulaError
said w = elim (bound_of w.bound) [ Some bound ↦ Ok (record { op = w.op; bound = bound; safe = w.safe; goal = w.goal }) | None ↦ Err NoBound ]

-- the formula that a text writes
abbrev pub formula_of : List ℕ → Result FormulaData FormulaError
formula_of text = elim (writing text) [ Some w ↦ said w | None ↦ Err Syntax ]
