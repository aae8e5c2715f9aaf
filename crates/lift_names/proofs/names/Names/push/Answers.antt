use Rattle.std.proofs.Common.{◌≡◌, sym, ap, ◌∙◌, refl, ◌++◌, ◌∷◌, []}
use Rattle.std.proofs.lemmas.Bool.Decides.{not_from_Decides}
use Rattle.lift_names.specs.Names.{AreNames, texts}
use Rattle.lift_names.proofs.Naming.{there, goes_last, one_more_name}
use Rattle.lift_names.proofs.names.Names.push.Goals as goal

pub returns-then-contains-clause-added : goal.returns-then-contains-clause-added
returns-then-contains-clause-added c = (
  λ bad. absurd (cc),
  λ absent. absurd (absent ((there _ _ _ c.self.view_is).0 (sym c.contains.ensures ∙ c.if-contains.true))),
)

pub invariant_of-self-2 : goal.invariant_of-self-2
invariant_of-self-2 c =
    let after : texts c.insert.new.self.keys ≡ c.args.self.now ++ c.args.name.now ∷ []
    = ap texts c.in_ok-insert.ensures.keys ∙ goes_last _ _ _ _ c.self.view_is c.in_ok-name.ensures.items (sym c.contains.ensures ∙ c.if-contains.false) in
    let names : AreNames c.args.self.now = rw c.self.view_is at c.self.invariant in
    rw after (one_more_name _ _ names c.requires (not_from_Decides _ (there _ _ _ c.self.view_is) (sym c.contains.ensures ∙ c.if-contains.false)))

pub returns-clause-added : goal.returns-clause-added
returns-clause-added c = (λ h. not_from_Decides _ (there _ _ _ c.self.view_is) (sym c.contains.ensures ∙ c.if-contains.false), λ h. refl)

pub returns-clause-after : goal.returns-clause-after
returns-clause-after c = ap texts c.in_ok-insert.ensures.keys ∙ goes_last _ _ _ _ c.self.view_is c.in_ok-name.ensures.items (sym c.contains.ensures ∙ c.if-contains.false)
