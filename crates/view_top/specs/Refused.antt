-- The refusals that failed calls become.
use Rattle.lift_base.specs.declared.input.ReadError.{ReadError}
use Rattle.lift_base.specs.declared.input.ReadError.TheVariants as why
use Rattle.cert_check.specs.declared.error.CheckError.{CheckError}
use Rattle.cert_check.specs.declared.error.CheckError.TheVariants as check
use Rattle.view_words.specs.declared.error.WordsError.{WordsError}
use Rattle.view_words.specs.declared.error.WordsError.TheVariants as words
use Rattle.view_follow.specs.declared.copying.CopyError.{CopyError}
use Rattle.view_follow.specs.declared.copying.CopyError.TheVariants as copy
use Rattle.view_top.specs.declared.refusal.Refusal.{Refusal}
use Rattle.view_top.specs.declared.refusal.Refusal.TheVariants as refusal

-- each cause of a failed read has its own refusal
abbrev pub read_refusal : ReadError → Refusal
read_refusal why.Fault = refusal.ReadFault
read_refusal why.TooLong = refusal.TooLong
read_refusal why.Memory = refusal.Memory

-- a report that isn't sound, where its source was read and it isn't for want of memory
abbrev pub check_refusal : CheckError → Refusal
check_refusal check.Fault = refusal.ReadFault
check_refusal check.TooLong = refusal.TooLong
check_refusal check.Memory = refusal.Memory
check_refusal error = refusal.Unsound error

-- words that ask for nothing, where it isn't for want of memory
abbrev pub words_refusal : WordsError → Refusal
words_refusal (words.Usage fault) = refusal.Usage fault
words_refusal words.Memory = refusal.Memory

-- a copy that was cut off
abbrev pub copy_refusal : CopyError → Refusal
copy_refusal copy.ReadFault = refusal.ReadFault
copy_refusal copy.WriteFault = refusal.WriteFault
copy_refusal copy.TooLong = refusal.TooLong
