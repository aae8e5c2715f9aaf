-- Pieces that are copied one behind another.
use Rattle.std.proofs.Common.{◌≡◌, ℕ, List, ◌++◌, sym, ap, ◌∙◌, subst, append_assoc, Ok, Err, Result, IsErrAnd}
use Rattle.std.specs.declared.option.Option.{Option}
use Rattle.std.specs.Io.KnownBytes.{Consumes}
use Rattle.std.proofs.KnownBytes.{Appends-trans, Consumes-trans}
use Rattle.lift_base.specs.Outside.{Rose, AppendsFront}
use Rattle.view_follow.specs.Copied.{Copies, IsCopied, IsCopiedInPart}
use Rattle.view_follow.specs.declared.copying.CopyError.{CopyError}
use Rattle.view_follow.specs.declared.copying.CopyError.TheVariants as why

-- a piece of which a front was written
pub in_part : (a b c : Option (List ℕ)) (x y z : Option (List ℕ)) (piece : List ℕ) → IsCopied a b x y → Consumes b c piece → AppendsFront y z piece → IsCopiedInPart a c x z
in_part a b c x y z piece h read wrote =
    let bytes = h.0 in
    (bytes ++ piece, Consumes-trans a b c bytes piece h.1 read, (bytes ++ wrote.0, wrote.1, ap (λ r. bytes ++ r) wrote.2 ∙ sym (append_assoc bytes wrote.0 wrote.1), Appends-trans x y z bytes wrote.0 h.2 wrote.3))

-- a fault of the sink
pub cut : {S K : Type 0} (left : S → Option (List ℕ)) (faults : S → ℕ) (taken : K → Option (List ℕ)) (counts : K → ℕ) (source source' : S) (out out' : K) (result : Result (Unit {0}) CopyError)
    → IsErrAnd result (λ e. e ≡ why.WriteFault) → IsCopiedInPart (left source) (left source') (taken out) (taken out') → Rose (counts out) (counts out') → Copies left faults taken counts source source' out out' result
cut left faults taken counts source source' out out' (Ok x) is h rose = absurd is
cut left faults taken counts source source' out out' (Err e) is h rose =
    subst (λ (e : CopyError). Copies {T = Unit {0}} left faults taken counts source source' out out' (Err e)) (sym is) (h, rose)
