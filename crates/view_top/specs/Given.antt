-- How what is asked for is given.
use Rattle.std.specs.Prelude.{◌≡◌, ⊤, Ok, Err, Result}
use Rattle.view_words.specs.declared.job.Usage.{Usage}
use Rattle.view_top.specs.declared.refusal.Refusal.{Refusal}
use Rattle.view_top.specs.declared.refusal.Refusal.TheVariants as refusal

-- What is asked for is given, or it is at fault and its fault is told, or memory ran out.
abbrev pub Gives : {X Y : Type 0} → (X → Y) → Result Y Usage → Result X Refusal → Type 0
Gives view asked (Ok x) = asked ≡ Ok (view x)
Gives view asked (Err (refusal.Usage fault)) = asked ≡ Err fault
Gives view asked (Err refusal.Memory) = ⊤
Gives view asked (Err _) = ⊥
