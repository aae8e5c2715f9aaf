use Rattle.std.proofs.Common.{◌≡◌, ◌-◌, ◌++◌, [], ◌∷◌, Bool, true, false, not, cond, List, ℕ, map, length, length-append, None, Some, Option, rules, refl, sym, ap, ◌∙◌, arith, Bor}
use Rattle.std.specs.Prelude.{is_none, is_some, position}
use Rattle.std.specs.Str.{bytes_eq}
use Rattle.std.proofs.lemmas.Bool.{false_from_ne_true, both_ways}
use Rattle.std.proofs.lemmas.Bool.Decides.{Decides-eqb}
use Rattle.std.proofs.lemmas.List.{map-append, length-map}
use Rattle.std.proofs.lemmas.Slice.Eq.{bytes_eq-Decides, slice_eq-Decides}
use Rattle.drn_read.proofs.Places.{place_new, none_is}
use Rattle.drn_read.proofs.reward_reader.RewardReader.add_name.Goals as goal

-- the names, and the one that came last
more_of : (new old : List (Bor (List ℕ))) (name : Bor (List ℕ)) → new ≡ old ++ name ∷ [] → map (λ (n : Bor (List ℕ)). n.now) new ≡ map (λ (n : Bor (List ℕ)). n.now) old ++ name.now ∷ []
more_of new old name items = ap (map (λ (n : Bor (List ℕ)). n.now)) items ∙ map-append (λ (n : Bor (List ℕ)). n.now) old (name ∷ [])

-- no name was the one that is asked for
none_of : (place found : Option ℕ) (r : Bool) → place ≡ found → is_some place ≡ not r → r ≡ true → is_none found ≡ true
none_of place None r e f g = refl
none_of place (Some n) r e f g = let k : true ≡ false = sym (ap is_some e) ∙ f ∙ ap not g in cc

pub invariant_of-self-then-eq : goal.invariant_of-self-then-eq
invariant_of-self-then-eq c =
    let p = bytes_eq c.self.inside.asked.now in
    let same : c.args.name.now ≡ c.self.inside.asked.now = (slice_eq-Decides Decides-eqb _ _ _ c.eq.ensures).0 c.if-eq.true in
    let found : p c.args.name.now ≡ true = (bytes_eq-Decides c.self.inside.asked.now c.args.name.now).1 (sym same) in
    let xs = map (λ (name : Bor (List ℕ)). name.now) c.self.inside.names.items in
    let items : c.push.new.self.items ≡ c.self.inside.names.items ++ c.args.name ∷ [] = search rules in
    let count : c.len.result ≡ length c.push.new.self.items = search rules in
    let last : c.len.result - 1 ≡ length xs = omega (arith, count, ap length items, length-append c.self.inside.names.items (c.args.name ∷ []), length-map c.self.inside.names.items (λ (name : Bor (List ℕ)). name.now)) in
    ap Some last ∙ sym (ap (position p) (more_of c.push.new.self.items c.self.inside.names.items c.args.name items) ∙ place_new p xs c.args.name.now (none_of c.self.inside.place _ c.is_none.result c.self.invariant c.is_none.ensures c.if-is_none.true) ∙ ap (λ b. cond b (Some (length xs)) None) found)

pub invariant_of-self-else-eq : goal.invariant_of-self-else-eq
invariant_of-self-else-eq c =
    let p = bytes_eq c.self.inside.asked.now in
    let xs = map (λ (name : Bor (List ℕ)). name.now) c.self.inside.names.items in
    let other : p c.args.name.now ≡ false =
    false_from_ne_true (p c.args.name.now) (λ t. both_ways c.eq.result c.if-eq.false ((slice_eq-Decides Decides-eqb _ _ _ c.eq.ensures).1 (sym ((bytes_eq-Decides c.self.inside.asked.now c.args.name.now).0 t)))) in
    let items : c.push.new.self.items ≡ c.self.inside.names.items ++ c.args.name ∷ [] = search rules in
    let none : is_none (position p xs) ≡ true = none_of c.self.inside.place _ c.is_none.result c.self.invariant c.is_none.ensures c.if-is_none.true in
    c.self.invariant ∙ none_is (position p xs) none
    ∙ sym (ap (position p) (more_of c.push.new.self.items c.self.inside.names.items c.args.name items) ∙ place_new p xs c.args.name.now none ∙ ap (λ b. cond b (Some (length xs)) None) other)
