-- What a window on a source holds, and what one read does to it.
use Rattle.std.specs.Prelude.{◌≡◌, ◌≤◌, ℕ, List, ◌++◌, length, drop}
use Rattle.std.specs.declared.option.Option.{Option}
use Rattle.std.specs.Io.KnownBytes.{Consumes, Keeps, IsAtEnd}
use Rattle.lift_base.specs.Outside.{Rose}
use Rattle.lift_base.specs.Lines.{most_read_bytes}
use Rattle.lift_base.specs.declared.input.Got.{Got}
use Rattle.lift_base.specs.declared.input.Got.TheVariants as got

-- a buffer, and where what is held begins in it
pub record WindowData : Type 0 where
  pub buf : List ℕ
  pub from : ℕ

-- the bytes that are held: the rest of the buffer
abbrev pub held_of : WindowData → List ℕ
held_of w = drop w.from w.buf

-- what one read did: the bytes that it gave are held behind the others, or it failed and a fault was counted
abbrev pub Fills : {S : Type 0} → (S → Option (List ℕ)) → (S → ℕ) → S → S → List ℕ → List ℕ → Got → Type 0
Fills left faults before after old new (got.Bytes n) =
    (bytes : List ℕ) × (length bytes ≡ n) × (n ≤ most_read_bytes) × (new ≡ old ++ bytes) × Consumes (left before) (left after) bytes
    × (n ≡ 0 → IsAtEnd (left after)) × (faults after ≡ faults before)
Fills left faults before after old new got.Failed =
    (new ≡ old) × Keeps (left before) (left after) × Rose (faults before) (faults after) × (faults before ≤ faults after)
