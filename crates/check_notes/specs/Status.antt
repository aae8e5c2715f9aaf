-- How a program ends.
use Rattle.std.specs.Prelude.{ℕ}
use Rattle.check_notes.specs.declared.status.Status.{Status}
use Rattle.check_notes.specs.declared.status.Status.TheVariants as status

-- the number that the process ends with
abbrev pub status_number : Status → ℕ
status_number status.Done = 0
status_number status.NotSound = 1
status_number status.Usage = 2
status_number status.ModelRefused = 3
status_number status.RowsRefused = 4
status_number status.ReadFault = 5
status_number status.WriteFault = 6
status_number status.TooLong = 7
status_number status.Memory = 8
