-- What calls to a source and a sink do to the bytes that they tell, and to their counts of faults.
use Rattle.std.specs.Prelude.{◌≡◌, ◌+◌, ◌-◌, ◌^◌, ◌<◌, ◌≤◌, min, ℕ, List, ◌++◌, length, take, OnOk, OnErr}
use Rattle.std.specs.declared.option.Option.{Option}
use Rattle.std.specs.declared.result.Result.{Result}
use Rattle.std.specs.Io.KnownBytes.{Appends, Consumes, Keeps, IsAtEnd}
use Rattle.lift_base.specs.declared.input.Got.{Got}
use Rattle.lift_base.specs.declared.input.Got.TheVariants as got
use Rattle.lift_base.specs.declared.output.Put.{Put}
use Rattle.lift_base.specs.declared.output.Put.TheVariants as put

-- a count has 64 bits, and stays at the last value
abbrev pub last_count : ℕ
last_count = 2 ^ 64 - 1

-- the count of faults has risen, or stands at the last value
abbrev pub Rose : ℕ → ℕ → Type 0
Rose before now = min (before + 1) last_count ≤ now

-- what one read did: it gave the first bytes of what was left, none only at the end, or it failed and a fault was counted
abbrev pub Reads : {S : Type 0} → (S → Option (List ℕ)) → (S → ℕ) → S → S → Got → List ℕ → Type 0
Reads left faults old new (got.Bytes n) buf =
    (n ≤ length buf) × Consumes (left old) (left new) (take n buf) × (n ≡ 0 → IsAtEnd (left new)) × (faults new ≡ faults old)
Reads left faults old new got.Failed buf = Keeps (left old) (left new) × Rose (faults old) (faults new) × (faults old ≤ faults new)

-- what one write did: it appended the first bytes of the piece, at least one, or it failed and a fault was counted
abbrev pub Puts : {K : Type 0} → (K → Option (List ℕ)) → (K → ℕ) → K → K → Put → List ℕ → Type 0
Puts taken faults old new (put.Took n) piece =
    (0 < n) × (n ≤ length piece) × Appends (taken old) (taken new) (take n piece) × (faults new ≡ faults old)
Puts taken faults old new put.Failed piece = Keeps (taken old) (taken new) × Rose (faults old) (faults new) × (faults old ≤ faults new)

-- some bytes were taken off the front, and have P
abbrev pub TakenHas : (List ℕ → Type 0) → Option (List ℕ) → Option (List ℕ) → Type 0
TakenHas P old new = (bytes : List ℕ) × Consumes old new bytes × P bytes

-- a part of the bytes was appended, from their front
abbrev pub AppendsFront : Option (List ℕ) → Option (List ℕ) → List ℕ → Type 0
AppendsFront old new bytes = (front : List ℕ) × (back : List ℕ) × (bytes ≡ front ++ back) × Appends old new front

-- What a writing call leaves: all the bytes were appended at Ok, and no fault was counted; else a part of them, and a fault was.
pub record Wrote {K T E : Type 0} (taken : K → Option (List ℕ)) (faults : K → ℕ) (old new : K) (result : Result T E) (bytes : List ℕ) : Type 0 where
  pub whole : OnOk result (Appends (taken old) (taken new) bytes)
  pub calm : OnOk result (faults new ≡ faults old)
  pub part : OnErr result (AppendsFront (taken old) (taken new) bytes)
  pub cause : OnErr result (Rose (faults old) (faults new))
  pub later : faults old ≤ faults new

-- What a writing call leaves whose text is known by what is said of it. At Ok there is such a text. Whichever bytes are such a text, they were appended, or after an error a part of them, from their front. An error comes only with a fault, and no count falls.
pub record WroteSome {K T E : Type 0} (is_text : List ℕ → Type 0) (taken : K → Option (List ℕ)) (faults : K → ℕ) (old new : K) (result : Result T E) : Type 0 where
  pub some : OnOk result ((bytes : List ℕ) × is_text bytes)
  pub whole : OnOk result ((bytes : List ℕ) → is_text bytes → Appends (taken old) (taken new) bytes)
  pub part : OnErr result ((bytes : List ℕ) → is_text bytes → AppendsFront (taken old) (taken new) bytes)
  pub cause : OnErr result (Rose (faults old) (faults new))
  pub later : faults old ≤ faults new
