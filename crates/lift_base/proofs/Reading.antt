-- Why a source wasn't read to its end.
use Rattle.std.proofs.Common.{◌≡◌, ◌≤◌, ℕ, List, Vec, length, Ok, Err, Result, subst, sym}
use Rattle.std.specs.Result.{IsErrAnd}
use Rattle.std.specs.declared.alloc.Global.{Global}
use Rattle.std.specs.declared.option.Option.{Option}
use Rattle.lift_base.specs.Outside.{TakenHas}
use Rattle.lift_base.specs.Whole.{ReadsWhole}
use Rattle.lift_base.specs.declared.input.ReadError.{ReadError}
use Rattle.lift_base.specs.declared.input.ReadError.TheVariants as why

-- memory ran out when at most so many bytes were taken
pub out_of_memory : {S : Type 0} (left : S → Option (List ℕ)) (old new : S) (limit : ℕ) (result : Result (Vec ℕ Global) ReadError)
    → IsErrAnd result (λ e. e ≡ why.Memory) → TakenHas (λ bytes. length bytes ≤ limit) (left old) (left new) → ReadsWhole left old new limit result
out_of_memory left old new limit (Ok v) is taken = absurd is
out_of_memory left old new limit (Err e) is taken = subst (λ (e : ReadError). ReadsWhole left old new limit (Err e)) (sym is) taken
