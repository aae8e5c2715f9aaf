-- A model that is read with costs is the one that is read without rewards, and each of its states has a cost.
use Rattle.std.proofs.Common.{if◌then◌else◌, ◌≡◌, ℕ, Bool, true, false, List, [], ◌∷◌, ◌++◌, length, map, refl, sym, ap, ◌∙◌, Option, Some, None, Result, Ok, Err, arith, length-append}
use Rattle.std.specs.Prelude.{filter, position}
use Rattle.std.specs.Str.{bytes_eq}
use Rattle.std.proofs.lemmas.List.{length-map}
use Rattle.std.proofs.lemmas.List.Elements.{filter-append}
use Rattle.lift_costs.specs.Costs.{CostData}
use Rattle.lift_model.specs.Model.{ModelData}
use Rattle.drn_lexer.specs.Lines.{TextLine, lines, own_fault, is_comment}
use Rattle.drn_lexer.specs.declared.error.LexError.{LexError}
use Rattle.drn_read.specs.Faults.{first_of, lexed, reported}
use Rattle.drn_read.specs.Parts.{Part, parts}
use Rattle.drn_read.specs.Sections.{Placeholder, sections, names, placeholders, said_in, gather}
use Rattle.drn_read.specs.States.{model_line, model_lines, is_state, state}
use Rattle.drn_read.specs.Judging.{line_fault}
use Rattle.drn_read.specs.Reading.{said, judge, first_fault, end_fault, model, last_number, drn}
use Rattle.drn_read.specs.Costs.{Asked, reward_names, begins_state, line_cost, state_lines, costs, cost_said, line_rewards_fault, judge_costs, first_cost_fault, before_common, cost_end_fault, drn_costs}
use Rattle.drn_read.specs.CostLaws.{CostsAreReadWithTheModel}
use Rattle.drn_read.specs.declared.error.DrnError.{DrnError}
use Rattle.drn_read.specs.declared.section.Section.TheVariants.{Model}
use Rattle.drn_read.proofs.Declared.{first_none}

-- ---- faults

last_of_two : (a b : Option DrnError) → first_of (a ∷ b ∷ []) ≡ None → b ≡ None
last_of_two a b e = (first_none b [] (first_none a (b ∷ []) e).1).0

-- a line without a fault has none without its rewards
by_own : (o : Option LexError) (c : Bool) (r f : Option DrnError) (n : ℕ)
    → ◌≡◌ {A = Option DrnError} (elim o [ Some fault ↦ reported n (Some (lexed fault)) | None ↦ if c then None else first_of (r ∷ f ∷ []) ]) None
    → ◌≡◌ {A = Option DrnError} (elim o [ Some fault ↦ reported n (Some (lexed fault)) | None ↦ if c then None else f ]) None
by_own (Some fault) c r f n e = cc
by_own None true r f n e = refl
by_own None false r f n e = last_of_two r f e

judged : (asked : Asked) (before : List TextLine) (line : TextLine) → judge_costs asked before line ≡ None → judge asked.label before line ≡ None
unfolding judge_costs judge cost_said
judged asked before line e =
    by_own (own_fault line) (is_comment line) (reported line.number (line_rewards_fault (cost_said asked before) line)) (line_fault (said asked.label before) line) line.number e

by_line : (a b x y : Option DrnError) → (a ≡ None → b ≡ None) → (x ≡ None → y ≡ None)
    → ◌≡◌ {A = Option DrnError} (elim a [ Some fault ↦ Some fault | None ↦ x ]) None → ◌≡◌ {A = Option DrnError} (elim b [ Some fault ↦ Some fault | None ↦ y ]) None
by_line (Some fault) b x y h g e = cc
by_line None b x y h g e = rw (h refl) (g e)

-- nor have all lines
pub none_before : (asked : Asked) (before rest : List TextLine) → first_cost_fault asked before rest ≡ None → first_fault asked.label before rest ≡ None
unfolding first_cost_fault first_fault
none_before asked before [] e = refl
none_before asked before (line ∷ rest) e =
    by_line (judge_costs asked before line) (judge asked.label before line) (first_cost_fault asked (before ++ line ∷ []) rest) (first_fault asked.label (before ++ line ∷ []) rest)
    (judged asked before line) (none_before asked (before ++ line ∷ []) rest) e

-- nor has the end of the text
ending : (a b c : Option DrnError) → first_of (a ∷ b ∷ c ∷ []) ≡ None → c ≡ None
ending a b c e = last_of_two b c (first_none a (b ∷ c ∷ []) e).1

-- so the model is the same
whole : (o b p d : Option DrnError) (n m : ModelData) (cs costs : List CostData) → (o ≡ None → b ≡ None) → (p ≡ None → d ≡ None)
    → ◌≡◌ {A = Result (ModelData × List CostData) DrnError} (elim o [ Some fault ↦ Err fault | None ↦ elim p [ Some fault ↦ Err fault | None ↦ Ok (n, cs) ] ]) (Ok (m, costs))
    → (◌≡◌ {A = Result ModelData DrnError} (elim b [ Some fault ↦ Err fault | None ↦ elim d [ Some fault ↦ Err fault | None ↦ Ok n ] ]) (Ok m)) × (n ≡ m) × (cs ≡ costs)
whole (Some fault) b p d n m cs costs h g e = cc
whole None b (Some fault) d n m cs costs h g e = cc
whole None b None d n m cs costs h g e =
    let first : n ≡ m = ap (λ (r : Result (ModelData × List CostData) DrnError). elim r [ Ok pair ↦ pair.0 | Err fault ↦ n ]) e in
    let second : cs ≡ costs = ap (λ (r : Result (ModelData × List CostData) DrnError). elim r [ Ok pair ↦ pair.1 | Err fault ↦ cs ]) e in
    (rw (h refl, g refl) (ap Ok first), first, second)

-- ---- one cost for each state

heads_count : {A : Type 0} (p : A → Bool) (xs : List A) → length (parts p xs).1 ≡ length (filter p xs)
heads_count p [] = refl
heads_count {A} p (x ∷ xs) = by_test (p x) refl (heads_count p xs)
  where
    by_test : (b : Bool) → p x ≡ b → length (parts p xs).1 ≡ length (filter p xs) → length (parts p (x ∷ xs)).1 ≡ length (filter p (x ∷ xs))
    by_test true e more = rw e (omega (arith, more))
    by_test false e more = rw e more

states_count : (ns : List (List ℕ)) (ps : List Placeholder) (ls : List TextLine) → length (filter is_state (map (model_line ns ps) ls)) ≡ length (filter begins_state ls)
states_count ns ps [] = refl
states_count ns ps (l ∷ ls) = by_test (begins_state l) refl (states_count ns ps ls)
  where
    by_test : (b : Bool) → begins_state l ≡ b → length (filter is_state (map (model_line ns ps) ls)) ≡ length (filter begins_state ls)
        → length (filter is_state (map (model_line ns ps) (l ∷ ls))) ≡ length (filter begins_state (l ∷ ls))
    by_test true e more = rw e (omega (arith, more))
    by_test false e more = rw e more

gathered : (reward : List ℕ) (before ps : List (Part TextLine))
    → length (filter is_state (gather (λ front part. map (model_line (names front) (placeholders front)) (said_in Model part)) before ps))
    ≡ length (gather (λ front part. map (line_cost (position (bytes_eq reward) (reward_names front))) (state_lines part)) before ps)
gathered reward before [] = refl
gathered reward before (p ∷ ps) =
    let read = map (model_line (names before) (placeholders before)) (said_in Model p) in
    let more = gather (λ front part. map (model_line (names front) (placeholders front)) (said_in Model part)) (before ++ p ∷ []) ps in
    let cost = line_cost (position (bytes_eq reward) (reward_names before)) in
    let others = gather (λ front part. map (line_cost (position (bytes_eq reward) (reward_names front))) (state_lines part)) (before ++ p ∷ []) ps in
    ap length (filter-append is_state read more)
    ∙ omega (
      arith,
      length-append (filter is_state read) (filter is_state more),
      states_count (names before) (placeholders before) (said_in Model p),
      gathered reward (before ++ p ∷ []) ps,
      length-append (map cost (state_lines p)) others,
      length-map (state_lines p) cost,
    )

counted : (label reward : List ℕ) (text : List TextLine) → length (costs reward (sections text)) ≡ length (model (said label text)).states
unfolding model said
counted label reward text =
    let all = (parts is_state (model_lines (sections text))).1 in
    sym (gathered reward [] (sections text)) ∙ sym (heads_count is_state (model_lines (sections text))) ∙ sym (length-map (map (state label) all) _ ∙ length-map all (state label))

pub costs_are_read_with_the_model : CostsAreReadWithTheModel
unfolding drn_costs cost_said drn
costs_are_read_with_the_model text asked m cs e =
    let all = lines text in
    let end = end_fault (last_number all) (said asked.label all) in
    let same = whole (first_cost_fault asked [] all) (first_fault asked.label [] all) (cost_end_fault (last_number all) (cost_said asked all)) end (model (said asked.label all)) m (costs asked.reward (sections all)) cs
    (none_before asked [] all) (ending (before_common end) _ end) e in
    record { model = same.0; count = ap (length {A = CostData}) (sym same.2) ∙ counted asked.label asked.reward all ∙ ap (λ (x : ModelData). length x.states) same.1 }
