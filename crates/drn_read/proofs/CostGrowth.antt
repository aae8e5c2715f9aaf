-- What the lines of a text say of rewards, with one more line.
use Rattle.std.proofs.Common.{◌≡◌, ℕ, Bool, true, false, refl, List, [], ◌∷◌, ◌++◌, length, sym, ◌∙◌, ap, append_assoc, Option, Some, None}
use Rattle.std.specs.Prelude.{map, filter, position, ◌==◌, if◌then◌else◌}
use Rattle.std.specs.List.{list_all}
use Rattle.std.specs.Str.{bytes_eq}
use Rattle.std.proofs.Math.Dec.{eqb-suc-zero}
use Rattle.std.proofs.lemmas.Bool.{both_ways}
use Rattle.std.proofs.lemmas.List.{append-nil, map-append}
use Rattle.std.proofs.lemmas.List.Elements.{filter-append}
use Rattle.lift_costs.specs.Costs.{CostData}
use Rattle.drn_lexer.specs.Cutting.{pieces_behind}
use Rattle.drn_lexer.specs.Lines.{TextLine, content, is_blank_line, is_comment}
use Rattle.drn_lexer.specs.Words.{words}
use Rattle.drn_read.specs.Faults.{reported}
use Rattle.drn_read.specs.Parts.{Part, parts}
use Rattle.drn_read.specs.Sections.{section_at, section_of, is_head, is_section, said_in, sections, phase_of, phase_behind}
use Rattle.drn_read.specs.Judging.{Said, line_fault}
use Rattle.drn_read.specs.Reading.{said}
use Rattle.drn_read.specs.Keeping.{with_line}
use Rattle.drn_read.specs.Rewards.{reward_name}
use Rattle.drn_read.specs.Costs.{Asked, Rewards, CostSaid, listed_rewards, reward_names_in, reward_names, begins_state, line_cost, state_lines, costs, cost_said, line_rewards_fault, cost_line_fault}
use Rattle.drn_read.specs.CostKeeping.{with_reward_names, with_reward_words, rewards_with, with_cost_line}
use Rattle.drn_read.specs.declared.section.Phase.{Phase}
use Rattle.drn_read.specs.declared.section.Phase.TheVariants as phase
use Rattle.drn_read.specs.declared.section.Section.{Section}
use Rattle.drn_read.specs.declared.section.Section.TheVariants.{ModelType, ValueType, Parameters, RewardModels, NrStates, NrChoices, Placeholders, Model}
use Rattle.drn_read.proofs.Cuts.{longer, begun, onto_last, parts_new, parts_grow, Ends, nothing, ending, ends, onto_last-ends}
use Rattle.drn_read.proofs.Declared.{first_none}
use Rattle.drn_read.proofs.Headers.{flat_map-push, gather-push, phase-ends}
use Rattle.drn_read.proofs.Bodies.{nothing_said, other_said, blank_said, more_said, known_section, no_section, known_phase, no_phase, either}
use Rattle.drn_read.proofs.Growth.{plain, plain_more, plain_same, grows, skips}

abbrev rewards : List ℕ → List (List ℕ) → List CostData → Rewards
rewards reward names cs = record { asked = reward; names = names; costs = cs }

-- what sections say of rewards
unfoldable rewards_of : List ℕ → List (Part TextLine) → Rewards
rewards_of reward ps = rewards reward (reward_names ps) (costs reward ps)

-- the costs that a section gives behind these others
abbrev costs_in : List ℕ → List (Part TextLine) → List TextLine → List CostData
costs_in reward front ls = map (line_cost (position (bytes_eq reward) (reward_names front))) ls

-- what sections say of rewards of which this one is the last
unfoldable rewards_last : List ℕ → List (Part TextLine) → Part TextLine → Rewards
rewards_last reward front p = rewards reward (reward_names front ++ reward_names_in p) (costs reward front ++ costs_in reward front (state_lines p))

rewards-ends : (reward : List ℕ) (front : List (Part TextLine)) (p : Part TextLine) → rewards_of reward (front ++ p ∷ []) ≡ rewards_last reward front p
unfolding rewards_of rewards_last
rewards-ends reward front p =
    ap (λ (ns : List (List ℕ)). rewards reward ns (costs reward (front ++ p ∷ []))) (flat_map-push reward_names_in front p)
    ∙ ap (rewards reward (reward_names front ++ reward_names_in p)) (gather-push (λ before part. costs_in reward before (state_lines part)) [] front p)

-- ---- a line that begins a section

no_names : (l : TextLine) → reward_names_in (begun l) ≡ []
no_names l = either (is_section RewardModels (begun l)) []

begin_rewards : (reward : List ℕ) (ps : List (Part TextLine)) (l : TextLine) → rewards_of reward (ps ++ begun l ∷ []) ≡ rewards_of reward ps
unfolding rewards_of rewards_last
begin_rewards reward ps l =
    rewards-ends reward ps (begun l)
    ∙ ap (λ (ns : List (List ℕ)). rewards reward (reward_names ps ++ ns) (costs reward ps ++ costs_in reward ps (state_lines (begun l)))) (no_names l)
    ∙ ap (λ (ls : List TextLine). rewards reward (reward_names ps ++ []) (costs reward ps ++ costs_in reward ps (filter begins_state ls))) (nothing_said Model l)
    ∙ ap (λ (ns : List (List ℕ)). rewards reward ns (costs reward ps ++ [])) (append-nil (reward_names ps))
    ∙ ap (rewards reward (reward_names ps)) (append-nil (costs reward ps))

-- ---- a line of the last section

abbrev Grows : List ℕ → List (Part TextLine) → Part TextLine → TextLine → Type 0
Grows reward front p l = rewards_last reward front (longer p l) ≡ rewards_with (phase_of p) (rewards_last reward front p) l

other_names : (p : Part TextLine) (l : TextLine) → is_section RewardModels p ≡ false → reward_names_in (longer p l) ≡ reward_names_in p
other_names p l e = ap (λ (c : Bool). if c then listed_rewards (p.body ++ l ∷ []) else []) e ∙ sym (ap (λ (c : Bool). if c then listed_rewards p.body else []) e)

stays : (reward : List ℕ) (front : List (Part TextLine)) (p : Part TextLine) (l : TextLine) → reward_names_in (longer p l) ≡ reward_names_in p → said_in Model (longer p l) ≡ said_in Model p
    → rewards_last reward front (longer p l) ≡ rewards_last reward front p
unfolding rewards_last
stays reward front p l e f =
    ap (λ (ns : List (List ℕ)). rewards reward (reward_names front ++ ns) (costs reward front ++ costs_in reward front (state_lines (longer p l)))) e
    ∙ ap (λ (ls : List TextLine). rewards reward (reward_names front ++ reward_names_in p) (costs reward front ++ costs_in reward front (filter begins_state ls))) f

-- such a phase lets a line say something of rewards
abbrev pub tells : Phase → Bool
tells phase.RewardList = true
tells phase.Model = true
tells _ = false

pub quiet : (p : Phase) (r : Rewards) (l : TextLine) → tells p ≡ false → rewards_with p r l ≡ r
quiet phase.Sections r l e = refl
quiet phase.NameList r l e = refl
quiet phase.RewardList r l e = absurd (both_ways true e refl)
quiet phase.StateCount r l e = refl
quiet phase.ChoiceCount r l e = refl
quiet phase.Placeholders r l e = refl
quiet phase.Model r l e = absurd (both_ways true e refl)

-- in a section that says nothing of rewards
idle : (reward : List ℕ) (front : List (Part TextLine)) (p : Part TextLine) (l : TextLine) → tells (phase_of p) ≡ false → is_section RewardModels p ≡ false → is_section Model p ≡ false → Grows reward front p l
idle reward front p l now a b = stays reward front p l (other_names p l a) (other_said Model p l b) ∙ sym (quiet (phase_of p) (rewards_last reward front p) l now)

names_phase : (head : TextLine) (body : List TextLine) → section_of (content head) ≡ Some Parameters → tells (phase_of (record { head = head; body = body })) ≡ false
names_phase head [] e = ap tells (known_phase Parameters (record { head = head; body = [] }) e)
names_phase head (l ∷ body) e = ap tells (known_phase Parameters (record { head = head; body = l ∷ body }) e)

counting : (b : Bool) (p : Phase) → tells p ≡ false → tells (if b then p else phase.Sections) ≡ false
counting true p e = e
counting false p e = refl

-- the list of names
in_rewards : (reward : List ℕ) (front : List (Part TextLine)) (head : TextLine) (body : List TextLine) (l : TextLine) → section_of (content head) ≡ Some RewardModels → is_head l ≡ false
    → Grows reward front (record { head = head; body = body }) l
unfolding rewards_last
in_rewards reward front head [] l e f =
    let p = begun head in
    let named = map reward_name (words (content l)) in
    let first : reward_names_in (longer p l) ≡ named = ap (λ (c : Bool). if c then listed_rewards (l ∷ []) else []) (known_section RewardModels RewardModels p e) in
    let list : rewards_with phase.RewardList (rewards_last reward front p) l ≡ with_reward_names (rewards_last reward front p) (words (content l)) = rw f refl in
    ap (λ (ns : List (List ℕ)). rewards reward (reward_names front ++ ns) (costs reward front ++ costs_in reward front (state_lines (longer p l)))) first
    ∙ ap (λ (ls : List TextLine). rewards reward (reward_names front ++ named) (costs reward front ++ costs_in reward front (filter begins_state ls))) (other_said Model p l (known_section Model RewardModels p e))
    ∙ ap (λ (ns : List (List ℕ)). rewards reward (ns ++ named) (costs reward front ++ costs_in reward front (state_lines p))) (sym (append-nil (reward_names front)) ∙ ap (λ (ns : List (List ℕ)). reward_names front ++ ns) (sym (no_names head)))
    ∙ sym list
    ∙ ap (λ (q : Phase). rewards_with q (rewards_last reward front p) l) (sym (known_phase RewardModels p e))
in_rewards reward front head (k ∷ body) l e f =
    let p : Part TextLine = record { head = head; body = k ∷ body } in
    stays reward front p l refl (other_said Model p l (known_section Model RewardModels p e))
    ∙ sym (quiet (phase_of p) (rewards_last reward front p) l (ap tells (known_phase RewardModels p e)))

-- a blank line holds no word
no_words : (text : List ℕ) → (length text == 0) ≡ true → words text ≡ []
unfolding pieces_behind
no_words [] e = refl
no_words (b ∷ text) e = let k = rw (eqb-suc-zero (length text)) at e in cc

one_line : (l : TextLine) (c : Bool) → begins_state l ≡ c → filter begins_state (l ∷ []) ≡ (if c then l ∷ [] else [])
one_line l true e = rw e refl
one_line l false e = rw e refl

in_words : (r : Rewards) (l : TextLine) (c : Bool) → begins_state l ≡ c
    → with_reward_words r (words (content l)) ≡ (if c then record r { costs = r.costs ++ line_cost (position (bytes_eq r.asked) r.names) l ∷ [] } else r)
in_words r l true e = rw e refl
in_words r l false e = rw e refl

-- a line of the model
model_step : (reward : List ℕ) (front : List (Part TextLine)) (p : Part TextLine) (l : TextLine) → section_at p ≡ Some Model → is_blank_line l ≡ false → (c : Bool) → begins_state l ≡ c
    → rewards_last reward front (longer p l) ≡ with_reward_words (rewards_last reward front p) (words (content l))
unfolding rewards_last
model_step reward front p l e g c h =
    let cost = line_cost (position (bytes_eq reward) (reward_names front)) in
    let more : state_lines (longer p l) ≡ state_lines p ++ (if c then l ∷ [] else []) =
    ap (filter begins_state) (more_said Model p l (known_section Model Model p e) g) ∙ filter-append begins_state (said_in Model p) (l ∷ []) ∙ ap (λ (ls : List TextLine). state_lines p ++ ls) (one_line l c h) in
    ap (λ (ns : List (List ℕ)). rewards reward (reward_names front ++ ns) (costs reward front ++ costs_in reward front (state_lines (longer p l)))) (other_names p l (known_section RewardModels Model p e))
    ∙ ap (λ (ls : List TextLine). rewards reward (reward_names front ++ reward_names_in p) (costs reward front ++ map cost ls)) more
    ∙ by_state c
    ∙ sym (in_words (rewards_last reward front p) l c h)
  where
    named_front : reward_names front ++ reward_names_in p ≡ reward_names front
    named_front = ap (λ (c : Bool). reward_names front ++ (if c then listed_rewards p.body else [])) (known_section RewardModels Model p e) ∙ append-nil (reward_names front)

    by_state : (c : Bool)
        → rewards reward (reward_names front ++ reward_names_in p) (costs reward front ++ costs_in reward front (state_lines p ++ (if c then l ∷ [] else [])))
        ≡ (if c then record (rewards_last reward front p) { costs = (rewards_last reward front p).costs ++ line_cost (position (bytes_eq reward) (reward_names front ++ reward_names_in p)) l ∷ [] } else rewards_last reward front p)
    by_state true =
        ap (rewards reward (reward_names front ++ reward_names_in p))
        (ap (λ (cs : List CostData). costs reward front ++ cs) (map-append (line_cost (position (bytes_eq reward) (reward_names front))) (state_lines p) (l ∷ []))
        ∙ sym (append_assoc (costs reward front) (costs_in reward front (state_lines p)) (line_cost (position (bytes_eq reward) (reward_names front)) l ∷ []))
        ∙ ap (λ (ns : List (List ℕ)). (costs reward front ++ costs_in reward front (state_lines p)) ++ line_cost (position (bytes_eq reward) ns) l ∷ []) (sym named_front))
    by_state false = ap (λ (ls : List TextLine). rewards reward (reward_names front ++ reward_names_in p) (costs reward front ++ costs_in reward front ls)) (append-nil (state_lines p))

in_model : (reward : List ℕ) (front : List (Part TextLine)) (p : Part TextLine) (l : TextLine) → section_at p ≡ Some Model → (c : Bool) → is_blank_line l ≡ c → Grows reward front p l
in_model reward front p l e true g =
    stays reward front p l (other_names p l (known_section RewardModels Model p e)) (blank_said Model p l g)
    ∙ sym (ap (with_reward_words (rewards_last reward front p)) (no_words (content l) g))
    ∙ ap (λ (q : Phase). rewards_with q (rewards_last reward front p) l) (sym (known_phase Model p e))
in_model reward front p l e false g =
    model_step reward front p l e g (begins_state l) refl
    ∙ ap (λ (q : Phase). rewards_with q (rewards_last reward front p) l) (sym (known_phase Model p e))

-- in any section
in_part : (reward : List ℕ) (front : List (Part TextLine)) (p : Part TextLine) (l : TextLine) → is_head l ≡ false → (s : Option Section) → section_at p ≡ s → Grows reward front p l
in_part reward front p l f None e = idle reward front p l (ap tells (no_phase p e)) (no_section RewardModels p e) (no_section Model p e)
in_part reward front p l f (Some ModelType) e = idle reward front p l (ap tells (known_phase ModelType p e)) (known_section RewardModels ModelType p e) (known_section Model ModelType p e)
in_part reward front p l f (Some ValueType) e = idle reward front p l (ap tells (known_phase ValueType p e)) (known_section RewardModels ValueType p e) (known_section Model ValueType p e)
in_part reward front p l f (Some Parameters) e = idle reward front p l (names_phase p.head p.body e) (known_section RewardModels Parameters p e) (known_section Model Parameters p e)
in_part reward front p l f (Some RewardModels) e = in_rewards reward front p.head p.body l e f
in_part reward front p l f (Some NrStates) e =
    idle reward front p l (ap tells (known_phase NrStates p e) ∙ counting (list_all is_blank_line p.body) phase.StateCount refl) (known_section RewardModels NrStates p e) (known_section Model NrStates p e)
in_part reward front p l f (Some NrChoices) e =
    idle reward front p l (ap tells (known_phase NrChoices p e) ∙ counting (list_all is_blank_line p.body) phase.ChoiceCount refl) (known_section RewardModels NrChoices p e) (known_section Model NrChoices p e)
in_part reward front p l f (Some Placeholders) e = idle reward front p l (ap tells (known_phase Placeholders p e)) (known_section RewardModels Placeholders p e) (known_section Model Placeholders p e)
in_part reward front p l f (Some Model) e = in_model reward front p l e (is_blank_line l) refl

before_all : (reward : List ℕ) (l : TextLine) → rewards_of reward (onto_last [] l) ≡ rewards_with (phase_behind []) (rewards_of reward []) l
unfolding onto_last
before_all reward l = refl

more_of : (reward : List ℕ) (ps : List (Part TextLine)) (l : TextLine) → is_head l ≡ false → Ends ps → rewards_of reward (onto_last ps l) ≡ rewards_with (phase_behind ps) (rewards_of reward ps) l
more_of reward _ l f nothing = before_all reward l
more_of reward _ l f (ending front p) =
    ap (rewards_of reward) (onto_last-ends front p l)
    ∙ rewards-ends reward front (longer p l)
    ∙ in_part reward front p l f (section_at p) refl
    ∙ ap (λ (q : Phase). rewards_with q (rewards_last reward front p) l) (sym (phase-ends front p))
    ∙ ap (λ (r : Rewards). rewards_with (phase_behind (front ++ p ∷ [])) r l) (sym (rewards-ends reward front p))

-- ---- lines

-- in the model no section begins
head_says_nothing : (s : Said) (r : Rewards) (l : TextLine) → is_head l ≡ true → line_fault s l ≡ None → (p : Phase) → s.header.phase ≡ p → rewards_with p r l ≡ r
head_says_nothing s r l f h phase.RewardList e = rw f refl
head_says_nothing s r l f h phase.Model e = let k = rw (e, f) at h in cc
head_says_nothing s r l f h phase.Sections e = refl
head_says_nothing s r l f h phase.NameList e = refl
head_says_nothing s r l f h phase.StateCount e = refl
head_says_nothing s r l f h phase.ChoiceCount e = refl
head_says_nothing s r l f h phase.Placeholders e = refl

phase_is : (label : List ℕ) (before : List TextLine) → (said label before).header.phase ≡ phase_behind (sections before)
unfolding said
phase_is label before = refl

grows_by : (reward : List ℕ) (label : List ℕ) (before : List TextLine) (l : TextLine) → line_fault (said label before) l ≡ None → (c : Bool) → is_head l ≡ c
    → rewards_of reward (parts is_head (plain before ++ l ∷ [])).1 ≡ rewards_with (said label before).header.phase (rewards_of reward (sections before)) l
grows_by reward label before l h true f =
    ap (λ (r : List TextLine × List (Part TextLine)). rewards_of reward r.1) (parts_new is_head (plain before) l f)
    ∙ begin_rewards reward (sections before) l
    ∙ sym (head_says_nothing (said label before) (rewards_of reward (sections before)) l f h (said label before).header.phase refl)
grows_by reward label before l h false f =
    ap (rewards_of reward) (parts_grow is_head (plain before) l f)
    ∙ more_of reward (sections before) l f (ends (sections before))
    ∙ ap (λ (q : Phase). rewards_with q (rewards_of reward (sections before)) l) (sym (phase_is label before))

abbrev both : Said → Rewards → CostSaid
both s r = record { said = s; rewards = r }

cost_said_is : (asked : Asked) (lines : List TextLine) → cost_said asked lines ≡ both (said asked.label lines) (rewards_of asked.reward (sections lines))
unfolding cost_said rewards_of
cost_said_is asked lines = refl

-- a line without fault has none without its rewards
calm : (s : CostSaid) (l : TextLine) → cost_line_fault s l ≡ None → line_fault s.said l ≡ None
calm s l e = (first_none (line_fault s.said l) [] (first_none (reported l.number (line_rewards_fault s l)) (line_fault s.said l ∷ []) e).1).0

-- a line without fault that is no comment
pub cost_grows : (asked : Asked) (before : List TextLine) (line : TextLine) → is_comment line ≡ false → cost_line_fault (cost_said asked before) line ≡ None
    → cost_said asked (before ++ line ∷ []) ≡ with_cost_line asked.label (cost_said asked before) line
cost_grows asked before line e h =
    let s = said asked.label before in
    let none : line_fault s line ≡ None = ap (λ (k : CostSaid). line_fault k.said line) (sym (cost_said_is asked before)) ∙ calm (cost_said asked before) line h in
    cost_said_is asked (before ++ line ∷ [])
    ∙ ap (λ (k : Said). both k (rewards_of asked.reward (sections (before ++ line ∷ [])))) (grows asked.label before line e none)
    ∙ ap (both (with_line asked.label s line))
    (ap (λ (ls : List TextLine). rewards_of asked.reward (parts is_head ls).1) (plain_more before line e) ∙ grows_by asked.reward asked.label before line none (is_head line) refl)
    ∙ ap (λ (k : CostSaid). with_cost_line asked.label k line) (sym (cost_said_is asked before))

-- a comment line says nothing
pub cost_skips : (asked : Asked) (before : List TextLine) (line : TextLine) → is_comment line ≡ true → cost_said asked (before ++ line ∷ []) ≡ cost_said asked before
cost_skips asked before line e =
    cost_said_is asked (before ++ line ∷ [])
    ∙ ap (λ (k : Said). both k (rewards_of asked.reward (sections (before ++ line ∷ [])))) (skips asked.label before line e)
    ∙ ap (λ (ls : List TextLine). both (said asked.label before) (rewards_of asked.reward (parts is_head ls).1)) (plain_same before line e)
    ∙ sym (cost_said_is asked before)
