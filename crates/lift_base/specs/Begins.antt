-- What stands at the front of told bytes.
use Rattle.std.specs.Prelude.{◌≡◌, ℕ, List, length, take, None, Some, IsTrue, is_some, option_map}
use Rattle.std.specs.declared.option.Option.{Option}

-- how many bytes are told
abbrev pub reported_length : Option (List ℕ) → ℕ
reported_length None = 0
reported_length (Some bytes) = length bytes

-- the old bytes, where they are told, are told still, and stand at the front of the new ones
abbrev pub BeginsWith : Option (List ℕ) → Option (List ℕ) → Type 0
BeginsWith old new = IsTrue (is_some old) → option_map (take (reported_length old)) new ≡ old
