use Rattle.std.proofs.Common.{◌≡◌, ℕ, List, Some, rules, refl, sym, ◌∙◌, ap, slice_get}
use Rattle.std.proofs.lemmas.Bool.Decides.{Decides-eqb}
use Rattle.std.proofs.lemmas.Option.{slice_get_read}
use Rattle.std.proofs.lemmas.Slice.Eq.{slice_eq-Decides}
use Rattle.cert_text.proofs.known.KnownTerms.find.Goals as goal

pub returns-then-eq : goal.returns-then-eq
returns-then-eq c =
    let there : slice_get c.args.self.now.texts.items c.args.place ≡ Some c.in_ok-known.known.now = slice_get_read c.args.self.now.texts.items _ c.args.place c.in_ok-known.known.now refl (search rules) (search rules) in
    let same : c.in_ok-known.known.now.text.items ≡ c.args.text.now = sym c.as_slice.ensures.value ∙ (slice_eq-Decides Decides-eqb _ _ _ c.eq.ensures).0 c.if-eq.true in
    rw there (ap (λ (text : List ℕ). Some (text, c.in_ok-known.known.now.poly)) same)
