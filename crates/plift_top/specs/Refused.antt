-- The refusals that failed calls become.
use Rattle.plift_words.specs.declared.error.WordsError.{WordsError}
use Rattle.plift_words.specs.declared.error.WordsError.TheVariants as words
use Rattle.lift_base.specs.declared.input.ReadError.{ReadError}
use Rattle.lift_base.specs.declared.input.ReadError.TheVariants as why
use Rattle.lift_grid.specs.declared.error.RegionError.{RegionError}
use Rattle.lift_grid.specs.declared.error.RegionError.TheVariants as region
use Rattle.drn_read.specs.declared.error.DrnCause.TheVariants as cause
use Rattle.drn_read.specs.declared.error.DrnError.{DrnError}
use Rattle.cert_check.specs.declared.error.CheckError.{CheckError}
use Rattle.cert_check.specs.declared.error.CheckError.TheVariants as check
use Rattle.lift_lump.specs.declared.error.LumpError.{LumpError}
use Rattle.lift_lump.specs.declared.error.LumpError.TheVariants as lump
use Rattle.plift_top.specs.declared.refusal.Refusal.{Refusal}
use Rattle.plift_top.specs.declared.refusal.Refusal.TheVariants as refusal

-- words that are refused, where it isn't for want of memory
abbrev pub words_refusal : WordsError → Refusal
words_refusal (words.Usage field) = refusal.Usage field
words_refusal words.Memory = refusal.Memory

-- each cause of a failed read has its own refusal
abbrev pub refusal_of : ReadError → Refusal
refusal_of why.Fault = refusal.ReadFault
refusal_of why.TooLong = refusal.TooLong
refusal_of why.Memory = refusal.Memory

-- a text that is refused, where it isn't for want of memory
abbrev pub model_refusal : DrnError → Refusal
model_refusal error = elim error.cause [ cause.Memory ↦ refusal.Memory | _ ↦ refusal.Model error ]

-- a region that is refused, where it isn't for want of memory
abbrev pub region_refusal : RegionError → Refusal
region_refusal region.Memory = refusal.Memory
region_refusal error = refusal.Region error

-- a file that isn't sound, where its source was read and it isn't for want of memory
abbrev pub check_refusal : CheckError → Refusal
check_refusal check.Fault = refusal.ReadFault
check_refusal check.TooLong = refusal.TooLong
check_refusal check.Memory = refusal.Memory
check_refusal error = refusal.Unsound error

-- a model that isn't lumped, where it isn't for want of memory
abbrev pub lump_refusal : LumpError → Refusal
lump_refusal lump.NotChain = refusal.NotChain
lump_refusal lump.Wide = refusal.TooWide
lump_refusal lump.Memory = refusal.Memory
