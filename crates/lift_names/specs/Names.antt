-- Lists of distinct names.
use Rattle.std.specs.Prelude.{◌≢◌, ◌^◌, ◌<◌, ℕ, List, length, map, Vec}
use Rattle.std.specs.List.{AllPairs}
use Rattle.std.specs.declared.alloc.Global.{Global}

-- a list has fewer names than this, so that each place fits 32 bits
abbrev pub names_limit : ℕ
names_limit = 2 ^ 32

-- what a list of names always is: no text stands twice, and each place fits 32 bits
pub record AreNames (names : List (List ℕ)) : Type 0 where
  pub distinct : AllPairs (λ a b. a ≢ b) names
  pub places : length names < names_limit

-- the texts that vectors hold
abbrev pub texts : List (Vec ℕ Global) → List (List ℕ)
texts vs = map (λ v. v.items) vs
