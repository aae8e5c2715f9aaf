-- What copying a report comes to.
use Rattle.std.specs.Prelude.{ℕ, ◌-◌, ◌^◌, ◌≤◌, List, ◌++◌, length, Result, Ok, Err}
use Rattle.std.specs.declared.option.Option.{Option}
use Rattle.std.specs.Io.KnownBytes.{Appends, Consumes, IsAtEnd}
use Rattle.lift_base.specs.Outside.{Rose, AppendsFront, TakenHas}
use Rattle.view_follow.specs.Progress.{progress_lines, WroteEach}
use Rattle.view_follow.specs.declared.copying.CopyError.{CopyError}
use Rattle.view_follow.specs.declared.copying.CopyError.TheVariants as why
use Rattle.view_follow.specs.declared.progress.Lines.{Lines}

-- some bytes were taken off a source, and these bytes were appended to a sink
abbrev pub IsCopied : Option (List ℕ) → Option (List ℕ) → Option (List ℕ) → Option (List ℕ) → Type 0
IsCopied left left' taken taken' = (bytes : List ℕ) × Consumes left left' bytes × Appends taken taken' bytes

-- some bytes were taken off a source, and a front of these bytes was appended to a sink
abbrev pub IsCopiedInPart : Option (List ℕ) → Option (List ℕ) → Option (List ℕ) → Option (List ℕ) → Type 0
IsCopiedInPart left left' taken taken' = (bytes : List ℕ) × Consumes left left' bytes × AppendsFront taken taken' bytes

-- 2^64 - 1 bytes at least were taken off a source, and these bytes were appended to a sink
abbrev pub IsCopiedLong : Option (List ℕ) → Option (List ℕ) → Option (List ℕ) → Option (List ℕ) → Type 0
IsCopiedLong left left' taken taken' = (bytes : List ℕ) × Consumes left left' bytes × Appends taken taken' bytes × (2 ^ 64 - 1 ≤ length bytes)

-- What copying comes to: all that was left of the source was appended, and nothing else; or, after a fault of the source, what was read till then; or, after a fault of the sink, a front of what was read; or what 2^64 - 1 reads gave, behind which no end came.
abbrev pub Copies : {S K T : Type 0} → (S → Option (List ℕ)) → (S → ℕ) → (K → Option (List ℕ)) → (K → ℕ) → S → S → K → K → Result T CopyError → Type 0
Copies left faults taken counts source source' out out' (Ok _) = IsCopied (left source) (left source') (taken out) (taken out') × IsAtEnd (left source')
Copies left faults taken counts source source' out out' (Err why.ReadFault) =
    IsCopied (left source) (left source') (taken out) (taken out') × Rose (faults source) (faults source')
Copies left faults taken counts source source' out out' (Err why.WriteFault) =
    IsCopiedInPart (left source) (left source') (taken out) (taken out') × Rose (counts out) (counts out')
Copies left faults taken counts source source' out out' (Err why.TooLong) = IsCopiedLong (left source) (left source') (taken out) (taken out')

-- the bytes that were read have P; after a fault of the sink, all but those of the last read
abbrev pub PassedHas : {S T : Type 0} → (List ℕ → Type 0) → (S → Option (List ℕ)) → S → S → Result T CopyError → Type 0
PassedHas P left source source' (Err why.WriteFault) = (bytes : List ℕ) × (last : List ℕ) × Consumes (left source) (left source') (bytes ++ last) × (length last ≤ 4096) × P bytes
PassedHas P left source source' _ = TakenHas P (left source) (left source')

-- What is told of a copy: the lines of progress of these bytes.
abbrev pub Tells : {S E T : Type 0} → (S → Option (List ℕ)) → (E → Option (List ℕ)) → (E → ℕ) → Lines → S → S → E → E → Result T CopyError → Type 0
Tells left taken faults lines source source' notes notes' result =
    PassedHas (λ bytes. WroteEach taken faults notes notes' (progress_lines lines bytes)) left source source' result
