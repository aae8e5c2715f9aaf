-- Sources and sinks in memory, as their callers see them.
use Rattle.std.specs.Prelude.{◌+◌, ◌-◌, ◌==◌, ◌||◌, min, ℕ, List, ◌++◌, length, take, drop, Bool, if◌then◌else◌}
use Rattle.std.specs.List.{list_any}
use Rattle.lift_base.specs.Outside.{last_count}
use Rattle.lift_base.specs.declared.input.Got.{Got}
use Rattle.lift_base.specs.declared.input.Got.TheVariants as got
use Rattle.lift_base.specs.declared.output.Put.{Put}
use Rattle.lift_base.specs.declared.output.Put.TheVariants as put

-- a source in memory: what is left, how much a call gives at most, which calls fail, and the calls and faults so far
pub record MemoryInput : Type 0 where
  pub left : List ℕ
  pub step : ℕ
  pub failing : List ℕ
  pub calls : ℕ
  pub faults : ℕ

-- a sink in memory: what it took, how many bytes it may hold, how much a call takes at most, which calls fail, and the calls and faults so far
pub record MemoryOutput : Type 0 where
  pub taken : List ℕ
  pub room : ℕ
  pub step : ℕ
  pub failing : List ℕ
  pub calls : ℕ
  pub faults : ℕ

-- a count goes up by so many, and stays at the last value
abbrev pub added : ℕ → ℕ → ℕ
added n more = min (n + more) last_count

-- the next call is one of those that fail
abbrev pub fails_next : List ℕ → ℕ → Bool
fails_next failing calls = list_any (λ k. k == added calls 1) failing

-- how many bytes a read gives that doesn't fail, into a buffer of this length: the least of the step, the length and what is left
abbrev pub count_given : MemoryInput → ℕ → ℕ
count_given s len = min (min s.step len) (length s.left)

-- what the next read answers, into a buffer of this length
abbrev pub memory_read : MemoryInput → ℕ → Got
memory_read s len = if fails_next s.failing s.calls then got.Failed else got.Bytes (count_given s len)

-- the source after the next read: the call is counted; it lost the bytes that it gave, or a fault is counted too; all else stays
abbrev pub memory_left : MemoryInput → ℕ → MemoryInput
memory_left s len =
    if fails_next s.failing s.calls then record s { calls = added s.calls 1; faults = added s.faults 1 }
    else record s { left = drop (count_given s len) s.left; calls = added s.calls 1 }

-- the next write fails: its call is one of those that do, or no room is left
abbrev pub refuses_next : MemoryOutput → Bool
refuses_next s = fails_next s.failing s.calls || (length s.taken == s.room)

-- how many bytes a write takes that doesn't fail, of a piece of this length: the least of the step, the length and the room that is left
abbrev pub count_taken : MemoryOutput → ℕ → ℕ
count_taken s len = min (min s.step len) (s.room - length s.taken)

-- what the next write answers, of a piece of this length
abbrev pub memory_write : MemoryOutput → ℕ → Put
memory_write s len = if refuses_next s then put.Failed else put.Took (count_taken s len)

-- the sink after the next write: the call is counted; the front of the piece was appended, or a fault is counted too; all else stays
abbrev pub memory_kept : MemoryOutput → List ℕ → MemoryOutput
memory_kept s piece =
    if refuses_next s then record s { calls = added s.calls 1; faults = added s.faults 1 }
    else record s { taken = s.taken ++ take (count_taken s (length piece)) piece; calls = added s.calls 1 }
