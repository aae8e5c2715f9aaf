-- The tests of a line with rewards, step by step.
use Rattle.std.proofs.Common.{◌≡◌, ◌==◌, ℕ, Bool, true, false, cond, List, [], ◌∷◌, length, Option, Some, None, Result, Ok, Err, refl, sym, ◌∙◌, ap, subst, arith}
use Rattle.std.specs.Prelude.{OnOk, codes}
use Rattle.std.specs.Option.{option_and_then}
use Rattle.std.proofs.lemmas.Bool.{both_ways}
use Rattle.drn_lexer.specs.Cutting.{Piece}
use Rattle.drn_lexer.specs.Lines.{TextLine, content}
use Rattle.drn_lexer.specs.Words.{WordKind, words}
use Rattle.lift_bytes.specs.Bytes.{first_passes}
use Rattle.drn_read.specs.Faults.{first_of, reported}
use Rattle.drn_read.specs.Sections.{Header, is_head}
use Rattle.drn_read.specs.States.{StateText, is_transition}
use Rattle.drn_read.specs.Judging.{Said, line_fault}
use Rattle.drn_read.specs.Keeping.{with_line}
use Rattle.drn_read.specs.Rewards.{reward_names_fault, rewards_fault}
use Rattle.drn_read.specs.RewardLines.{reached_in_action, words_rewards_fault}
use Rattle.drn_read.specs.declared.owner.Owner.TheVariants.{Action}
use Rattle.drn_read.specs.Reading.{said}
use Rattle.drn_read.specs.Costs.{Asked, Rewards, CostSaid, cost_said, line_rewards_fault, cost_line_fault}
use Rattle.drn_read.specs.CostKeeping.{with_reward_names, with_reward_words, rewards_with, with_cost_line}
use Rattle.drn_read.specs.ModelSteps.{on_line}
use Rattle.drn_read.specs.Shown.{Tells, TellsLine, IsSource, rest}
use Rattle.drn_read.specs.CostShown.{behind_word}
use Rattle.drn_read.specs.declared.cursor.Cursor.{Cursor}
use Rattle.drn_read.specs.declared.error.DrnCause.{DrnCause}
use Rattle.drn_read.specs.declared.error.DrnError.{DrnError}
use Rattle.drn_read.specs.declared.section.Phase.{Phase}
use Rattle.drn_read.specs.declared.section.Phase.TheVariants as phase
use Rattle.drn_read.proofs.CostGrowth.{tells, quiet}
use Rattle.drn_read.proofs.Stated.{words_digit}
use Rattle.drn_read.proofs.Declared.{reported_none}

alone : (o : Option DrnError) → first_of (o ∷ []) ≡ o
alone None = refl
alone (Some fault) = refl

-- a line without fault of its rewards is judged as without them
pub calm_rewards : (s : CostSaid) (source : TextLine) → line_rewards_fault s source ≡ None → cost_line_fault s source ≡ line_fault s.said source
calm_rewards s source e = ap (λ (o : Option DrnCause). first_of (reported source.number o ∷ line_fault s.said source ∷ [])) e ∙ alone (line_fault s.said source)

pub reported_as_ever : (r : Result (Unit {0}) DrnError) (s : CostSaid) (source : TextLine) → line_rewards_fault s source ≡ None → TellsLine r (line_fault s.said source) → TellsLine r (cost_line_fault s source)
reported_as_ever r s source e h = subst (TellsLine r) (sym (calm_rewards s source e)) h

-- a fault of rewards is told first
pub reported_first : (s : CostSaid) (source : TextLine) (error : DrnError) → reported source.number (line_rewards_fault s source) ≡ Some error → cost_line_fault s source ≡ Some error
reported_first s source error e = ap (λ (o : Option DrnError). first_of (o ∷ line_fault s.said source ∷ [])) e

-- the same of a line, where the cause alone was told
pub reported_on_line : (r : Result (Unit {0}) DrnCause) (number line : ℕ) (fault : Option DrnCause) → number ≡ line → Tells r fault → TellsLine (on_line number r) (reported line fault)
reported_on_line (Ok x) number line fault e h = ap (reported line) h
reported_on_line (Err cause) number line fault e h = λ ne. ap (reported line) (h ne) ∙ ap (λ (n : ℕ). Some (record { line = n; cause = cause })) (sym e)

pub ok_gives : (r : Result (Unit {0}) DrnError) (P Q : Type 0) → OnOk r P → (P → Q) → OnOk r Q
ok_gives (Ok x) P Q p step = step p
ok_gives (Err error) P Q p step = tt

-- nothing was read yet
pub start_said : (asked : Asked) (s : Said) (r : Rewards) → s ≡ said asked.label [] → r ≡ record { asked = asked.reward; names = []; costs = [] } → record { said = s; rewards = r } ≡ cost_said asked []
unfolding cost_said
start_said asked s r e f =
    ap (λ (k : Said). record { said = k; rewards = r }) e ∙ ap (λ (k : Rewards). record { said = said asked.label []; rewards = k }) f

-- ---- in the list of names

pub in_list : (s : CostSaid) (source : TextLine) → s.said.header.phase ≡ phase.RewardList → is_head source ≡ false → line_rewards_fault s source ≡ reward_names_fault (words (content source))
in_list s source e f = rw (e, f) refl

pub head_in_list : (s : CostSaid) (source : TextLine) → s.said.header.phase ≡ phase.RewardList → is_head source ≡ true → line_rewards_fault s source ≡ None
head_in_list s source e f = rw (e, f) refl

-- the head of a line, by what is left of it
pub head_is : (cursor : Cursor) (source : TextLine) (b : Bool) → IsSource cursor source → first_passes (λ b. b == 64) (rest cursor) ≡ b → is_head source ≡ b
head_is cursor source b s e = ap (first_passes (λ b. b == 64)) (sym s.says) ∙ e

pub list_after : (label : List ℕ) (s : CostSaid) (read : Said) (kept : Rewards) (source : TextLine) (cursor : Cursor) → IsSource cursor source → s.said.header.phase ≡ phase.RewardList → is_head source ≡ false
    → read ≡ with_line label s.said source → kept ≡ with_reward_names s.rewards (words (rest cursor)) → record { said = read; rewards = kept } ≡ with_cost_line label s source
list_after label s read kept source cursor spans e f g h =
    let list : rewards_with phase.RewardList s.rewards source ≡ with_reward_names s.rewards (words (content source)) = rw f refl in
    let more : kept ≡ rewards_with s.said.header.phase s.rewards source =
    h ∙ ap (λ (text : List ℕ). with_reward_names s.rewards (words text)) spans.says ∙ sym list ∙ ap (λ (p : Phase). rewards_with p s.rewards source) (sym e) in
    ap (λ (k : Said). record { said = k; rewards = kept }) g ∙ ap (λ (r : Rewards). record { said = with_line label s.said source; rewards = r }) more

pub head_after : (label : List ℕ) (s : CostSaid) (read : Said) (source : TextLine) → s.said.header.phase ≡ phase.RewardList → is_head source ≡ true
    → read ≡ with_line label s.said source → record { said = read; rewards = s.rewards } ≡ with_cost_line label s source
head_after label s read source e f g =
    let same : rewards_with phase.RewardList s.rewards source ≡ s.rewards = rw f refl in
    ap (λ (k : Said). record { said = k; rewards = s.rewards }) g
    ∙ ap (λ (r : Rewards). record { said = with_line label s.said source; rewards = r }) (sym same ∙ ap (λ (p : Phase). rewards_with p s.rewards source) (sym e))

-- ---- in the model

pub in_model : (s : CostSaid) (source : TextLine) → s.said.header.phase ≡ phase.Model → line_rewards_fault s source ≡ words_rewards_fault (length s.rewards.names) s.said.header s.said.states (words (content source))
in_model s source e = rw e refl

-- what is told of the rewards of a line, by what is left of it
pub model_reported : (s : CostSaid) (source : TextLine) (cursor : Cursor) → IsSource cursor source → s.said.header.phase ≡ phase.Model
    → reported source.number (line_rewards_fault s source) ≡ reported source.number (words_rewards_fault (length s.rewards.names) s.said.header s.said.states (words (rest cursor)))
model_reported s source cursor spans e =
    ap (reported source.number) (in_model s source e ∙ ap (λ (text : List ℕ). words_rewards_fault (length s.rewards.names) s.said.header s.said.states (words text)) (sym spans.says))

pub model_calm : (s : CostSaid) (source : TextLine) (cursor : Cursor) → IsSource cursor source → s.said.header.phase ≡ phase.Model
    → reported source.number (words_rewards_fault (length s.rewards.names) s.said.header s.said.states (words (rest cursor))) ≡ None → line_rewards_fault s source ≡ None
model_calm s source cursor spans e f = reported_none source.number (line_rewards_fault s source) (model_reported s source cursor spans e ∙ f)

pub model_after : (label : List ℕ) (s : CostSaid) (read : Said) (kept : Rewards) (source : TextLine) (cursor : Cursor) → IsSource cursor source → s.said.header.phase ≡ phase.Model
    → read ≡ with_line label s.said source → kept ≡ with_reward_words s.rewards (words (rest cursor)) → record { said = read; rewards = kept } ≡ with_cost_line label s source
model_after label s read kept source cursor spans e g h =
    ap (λ (k : Said). record { said = k; rewards = kept }) g
    ∙ ap (λ (r : Rewards). record { said = with_line label s.said source; rewards = r })
    (h ∙ ap (λ (text : List ℕ). with_reward_words s.rewards (words text)) spans.says ∙ ap (λ (p : Phase). rewards_with p s.rewards source) (sym e))

neither : {A : Type 0} (a b : Bool) (x y z : A) → a ≡ false → b ≡ false → cond a x (cond b y z) ≡ z
neither true b x y z e f = cc
neither false true x y z e f = cc
neither false false x y z e f = refl

no_state : {A : Type 0} (a : Bool) (x y : A) → a ≡ false → cond a x y ≡ y
no_state true x y e = cc
no_state false x y e = refl

-- a transition has no rewards
pub transition_calm : (s : CostSaid) (source : TextLine) (cursor : Cursor) → IsSource cursor source → s.said.header.phase ≡ phase.Model → is_transition (rest cursor) ≡ true → line_rewards_fault s source ≡ None
transition_calm s source cursor spans e f =
    in_model s source e
    ∙ ap (λ (text : List ℕ). words_rewards_fault (length s.rewards.names) s.said.header s.said.states (words text)) (sym spans.says)
    ∙ neither _ _ _ _ _ (words_digit 115 (codes "tate") (rest cursor) (omega arith) f) (words_digit 97 (codes "ction") (rest cursor) (omega arith) f)

pub transition_after : (label : List ℕ) (s : CostSaid) (read : Said) (source : TextLine) (cursor : Cursor) → IsSource cursor source → s.said.header.phase ≡ phase.Model → is_transition (rest cursor) ≡ true
    → read ≡ with_line label s.said source → record { said = read; rewards = s.rewards } ≡ with_cost_line label s source
transition_after label s read source cursor spans e f g =
    model_after label s read s.rewards source cursor spans e g
    (sym (no_state _ _ s.rewards (words_digit 115 (codes "tate") (rest cursor) (omega arith) f)))

-- ---- elsewhere

none_reported : (s : CostSaid) (source : TextLine) (p : Phase) → s.said.header.phase ≡ p → tells p ≡ false → line_rewards_fault s source ≡ None
none_reported s source phase.Sections e f = rw e refl
none_reported s source phase.NameList e f = rw e refl
none_reported s source phase.RewardList e f = absurd (both_ways true f refl)
none_reported s source phase.StateCount e f = rw e refl
none_reported s source phase.ChoiceCount e f = rw e refl
none_reported s source phase.Placeholders e f = rw e refl
none_reported s source phase.Model e f = absurd (both_ways true f refl)

pub other_calm : (s : CostSaid) (source : TextLine) → tells s.said.header.phase ≡ false → line_rewards_fault s source ≡ None
other_calm s source f = none_reported s source s.said.header.phase refl f

pub other_after : (label : List ℕ) (s : CostSaid) (read : Said) (source : TextLine) → tells s.said.header.phase ≡ false
    → read ≡ with_line label s.said source → record { said = read; rewards = s.rewards } ≡ with_cost_line label s source
other_after label s read source f g =
    ap (λ (k : Said). record { said = k; rewards = s.rewards }) g
    ∙ ap (λ (r : Rewards). record { said = with_line label s.said source; rewards = r }) (sym (quiet s.said.header.phase s.rewards source f))

-- ---- words

by_action : {A B : Type 0} (a b : Bool) (xs ys : A) (x : Option B) (give : A → Option B) → cond a (Some xs) None ≡ None → cond b (Some xs) None ≡ Some ys → cond a x (cond b (give xs) None) ≡ give ys
by_action true b xs ys x give e f = cc
by_action false false xs ys x give e f = cc
by_action {A} false true xs ys x give e f = let same : xs ≡ ys = ap (λ (o : Option A). elim o as (λ o. A) [ Some z ↦ z | None ↦ xs ]) f in ap give same

-- the rewards of a line that begins with `action`
pub action_line : (count : ℕ) (h : Header) (states : List StateText) (ws behind : List (Piece WordKind)) → behind_word (codes "state") ws ≡ None → behind_word (codes "action") ws ≡ Some behind
    → words_rewards_fault count h states ws ≡ option_and_then (rewards_fault count Action) (reached_in_action h.kind states behind)
action_line count h states ws behind e f = by_action _ _ _ behind _ (λ xs. option_and_then (rewards_fault count Action) (reached_in_action h.kind states xs)) e f
