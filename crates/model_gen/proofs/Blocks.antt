-- What the lines of the first so many blocks say, in closed form.
use Rattle.std.proofs.Common.{◌≡◌, ◌<◌, ◌≤◌, ◌+◌, ◌*◌, ℕ, zero, suc, Bool, true, false, List, [], ◌∷◌, ◌++◌, length, refl, sym, ap, subst, ◌∙◌, arith, length-append, append_assoc}
use Rattle.std.specs.Prelude.{codes}
use Rattle.std.specs.Fmt.{decimal}
use Rattle.std.proofs.lemmas.List.{append-nil}
use Rattle.drn_lexer.specs.Cutting.{Piece, pieces_behind}
use Rattle.drn_lexer.specs.Lines.{TextLine, numbered}
use Rattle.drn_lexer.specs.Words.{WordKind}
use Rattle.drn_read.specs.States.{StateText}
use Rattle.drn_read.specs.Judging.{Said}
use Rattle.drn_read.specs.Reading.{said}
use Rattle.model_gen.specs.Ladder.{most_blocks, block, blocks, first_label, state_line, head_lines, last_lines, ladder_lines, p_poly, not_p_poly, q_poly, not_q_poly, one_poly}
use Rattle.model_gen.proofs.Numbers.{number}
use Rattle.model_gen.proofs.Words.{plain_word}
use Rattle.model_gen.proofs.Leads.{Leads, leads_one, leads_none, leads_both}
use Rattle.model_gen.proofs.Steps.{saying, done, text_state, text_transition, IsLabels}
use Rattle.model_gen.proofs.Pieces.{no_label, init_label, done_label, over, p_value, not_p_value, q_value, not_q_value, one_value}
use Rattle.model_gen.proofs.States.{Sized, no_states, sized_more, one_leads, two_leads}

-- ---- what is said

abbrev pub is_first : ℕ → Bool
is_first zero = true
is_first (suc i) = false

-- the two states of a block whose first line has this number
abbrev pub first_state : ℕ → ℕ → StateText
first_state number i =
    text_state number (is_first i) false ((text_transition (number + 1) (2 * i + 2) (over p_poly) ∷ text_transition (number + 1 + 1) (2 * i + 1) (over not_p_poly) ∷ []) ∷ [])

abbrev pub second_state : ℕ → ℕ → ℕ → StateText
second_state number n i =
    text_state number false false ((text_transition (number + 1) (2 * i) (over q_poly) ∷ text_transition (number + 1 + 1) (2 * n + 1) (over not_q_poly) ∷ []) ∷ [])

-- the states of the first so many blocks of n
unfoldable pub text_states : ℕ → ℕ → List StateText
text_states n zero = []
text_states n (suc i) = text_states n i ++ first_state (5 + length (blocks n i)) i ∷ second_state (5 + length (blocks n i) + 1 + 1 + 1) n i ∷ []

-- the goal and the sink
abbrev pub goal_state : ℕ → ℕ → StateText
goal_state number n = text_state number false true ((text_transition (number + 1) (2 * n) (over one_poly) ∷ []) ∷ [])

abbrev pub sink_state : ℕ → ℕ → StateText
sink_state number n = text_state number false false ((text_transition (number + 1) (2 * n + 1) (over one_poly) ∷ []) ∷ [])

-- all states
abbrev pub all_states : ℕ → List StateText
all_states n = text_states n n ++ goal_state (5 + length (blocks n n)) n ∷ sink_state (5 + length (blocks n n) + 1 + 1) n ∷ []

-- ---- the head

pub head_leads : Leads done (numbered 1 0 head_lines) (said done []) (saying [])
unfolding said pieces_behind
head_leads =
    let a : Said = said done [] in
    leads_both done (numbered 1 0 (codes "@type: DTMC" ∷ [])) (numbered 2 12 (codes "@parameters" ∷ codes "p q" ∷ codes "@model" ∷ [])) a _ _ (leads_one done _ a _ refl refl refl refl)
    (leads_both done (numbered 2 12 (codes "@parameters" ∷ [])) (numbered 3 24 (codes "p q" ∷ codes "@model" ∷ [])) _ _ _ (leads_one done _ _ _ refl refl refl refl)
    (leads_both done (numbered 3 24 (codes "p q" ∷ [])) (numbered 4 28 (codes "@model" ∷ [])) _ _ _ (leads_one done _ _ _ refl refl refl refl)
    (leads_one done _ _ _ refl refl refl refl)))

-- ---- a block

-- the words of a block's first label
first_words : ℕ → List (Piece WordKind)
first_words zero = plain_word (codes "init") ∷ []
first_words (suc i) = []

first_is : (i : ℕ) → IsLabels (first_label i) (first_words i) (is_first i) false
unfolding first_words
first_is zero = init_label
first_is (suc i) = no_label

pub block_leads : (at number1 n i : ℕ) (states : List StateText) → i < n → n ≤ most_blocks → Sized states (2 * i)
    → Leads done (numbered number1 at (block n i)) (saying states) (saying (states ++ first_state number1 i ∷ second_state (number1 + 1 + 1 + 1) n i ∷ []))
block_leads at number1 n i states l m sized =
    let s = first_state number1 i in
    let t = second_state (number1 + 1 + 1 + 1) n i in
    subst (λ ss. Leads done (numbered number1 at (block n i)) (saying states) (saying ss)) (append_assoc states (s ∷ []) (t ∷ []))
    (leads_both done _ _ (saying states) (saying (states ++ s ∷ [])) (saying ((states ++ s ∷ []) ++ t ∷ []))
    (two_leads _ _ _ (decimal (2 * i)) (first_label i) (first_words i) (is_first i) false (decimal (2 * i + 2)) (codes " : p") (2 * i + 2) (over p_poly) (decimal (2 * i + 1)) (codes " : 1-p") (2 * i + 1) (over not_p_poly) states (2 * i)
    refl (number (2 * i) (omega arith)) (first_is i) refl (number (2 * i + 2) (omega arith)) p_value refl (number (2 * i + 1) (omega arith)) not_p_value (λ e. omega arith) sized (omega arith))
    (two_leads _ _ _ (decimal (2 * i + 1)) [] [] false false (decimal (2 * i)) (codes " : q") (2 * i) (over q_poly) (decimal (2 * n + 1)) (codes " : 1-q") (2 * n + 1) (over not_q_poly) (states ++ s ∷ []) (2 * i + 1)
    (sym (append-nil (state_line (2 * i + 1)))) (number (2 * i + 1) (omega arith)) no_label refl (number (2 * i) (omega arith)) q_value refl (number (2 * n + 1) (omega arith)) not_q_value (λ e. omega arith)
    (sized_more states (2 * i) _ _ _ _ sized (omega arith)) (omega arith)))

-- ---- all blocks

-- where the lines behind others stand
record Behind (number1 at : ℕ) (xs ys : List (List ℕ)) : Type 0 where
  pub at_end : ℕ
  pub is : numbered number1 at (xs ++ ys) ≡ numbered number1 at xs ++ numbered (number1 + length xs) at_end ys

behind : (number1 at : ℕ) (xs ys : List (List ℕ)) → Behind number1 at xs ys
behind number1 at [] ys = record { at_end = at; is = ap (λ k. numbered k at ys) (omega arith) }
behind number1 at (x ∷ xs) ys =
    let more = behind (number1 + 1) (at + length x + 1) xs ys in
    let size : number1 + 1 + length xs ≡ number1 + length (x ∷ xs) = omega arith in
    let line : TextLine = record { number = number1; at = at; bytes = x } in
    record { at_end = more.at_end; is = ap (λ ls. line ∷ ls) (more.is ∙ ap (λ k. numbered (number1 + 1) (at + length x + 1) xs ++ numbered k more.at_end ys) size) }

sized_block : (number1 n i : ℕ) (states : List StateText) → Sized states (2 * i) → Sized (states ++ first_state number1 i ∷ second_state (number1 + 1 + 1 + 1) n i ∷ []) (2 * suc i)
sized_block number1 n i states h =
    let s = first_state number1 i in
    let t = second_state (number1 + 1 + 1 + 1) n i in
    let two : 2 * i + 1 + 1 ≡ 2 * suc i = omega arith in
    let both : Sized ((states ++ s ∷ []) ++ t ∷ []) (2 * i + 1 + 1) = sized_more (states ++ s ∷ []) (2 * i + 1) _ _ _ _ (sized_more states (2 * i) _ _ _ _ h (omega arith)) (omega arith) in
    subst (λ ss. Sized ss (2 * suc i)) (append_assoc states (s ∷ []) (t ∷ [])) (subst (Sized ((states ++ s ∷ []) ++ t ∷ [])) two both)

pub sized_states : (n i : ℕ) → Sized (text_states n i) (2 * i)
unfolding text_states
sized_states n zero = no_states
sized_states n (suc i) = sized_block (5 + length (blocks n i)) n i (text_states n i) (sized_states n i)

pub blocks_lead : (at n i : ℕ) → i ≤ n → n ≤ most_blocks → Leads done (numbered 5 at (blocks n i)) (saying []) (saying (text_states n i))
unfolding blocks text_states
blocks_lead at n zero l m = leads_none done (saying [])
blocks_lead at n (suc i) l m =
    let b = behind 5 at (blocks n i) (block n i) in
    subst (λ ls. Leads done ls (saying []) (saying (text_states n (suc i)))) (sym b.is)
    (leads_both done _ _ (saying []) (saying (text_states n i)) (saying (text_states n (suc i)))
    (blocks_lead at n i (omega arith) m)
    (block_leads b.at_end (5 + length (blocks n i)) n i (text_states n i) (omega arith) m (sized_states n i)))

-- ---- the goal and the sink

last_lead : (at number1 n : ℕ) (states : List StateText) → n ≤ most_blocks → Sized states (2 * n)
    → Leads done (numbered number1 at (last_lines n)) (saying states) (saying (states ++ goal_state number1 n ∷ sink_state (number1 + 1 + 1) n ∷ []))
last_lead at number1 n states m sized =
    let s = goal_state number1 n in
    let t = sink_state (number1 + 1 + 1) n in
    subst (λ ss. Leads done (numbered number1 at (last_lines n)) (saying states) (saying ss)) (append_assoc states (s ∷ []) (t ∷ []))
    (leads_both done _ _ (saying states) (saying (states ++ s ∷ [])) (saying ((states ++ s ∷ []) ++ t ∷ []))
    (one_leads _ _ (decimal (2 * n)) (codes " done") (plain_word done ∷ []) false true (decimal (2 * n)) (codes " : 1") (2 * n) (over one_poly) states (2 * n)
    refl (number (2 * n) (omega arith)) done_label refl (number (2 * n) (omega arith)) one_value sized (omega arith))
    (one_leads _ _ (decimal (2 * n + 1)) [] [] false false (decimal (2 * n + 1)) (codes " : 1") (2 * n + 1) (over one_poly) (states ++ s ∷ []) (2 * n + 1)
    (sym (append-nil (state_line (2 * n + 1)))) (number (2 * n + 1) (omega arith)) no_label refl (number (2 * n + 1) (omega arith)) one_value
    (sized_more states (2 * n) _ _ _ _ sized (omega arith)) (omega arith)))

-- ---- the whole

pub ladder_leads : (n : ℕ) → n ≤ most_blocks → Leads done (numbered 1 0 (ladder_lines n)) (said done []) (saying (all_states n))
ladder_leads n m =
    let b = behind 1 0 (head_lines ++ blocks n n) (last_lines n) in
    let c = behind 1 0 head_lines (blocks n n) in
    let is : numbered 1 0 (ladder_lines n) ≡ (numbered 1 0 head_lines ++ numbered 5 c.at_end (blocks n n)) ++ numbered (5 + length (blocks n n)) b.at_end (last_lines n) =
    b.is ∙ ap (λ ls. ls ++ numbered (1 + length (head_lines ++ blocks n n)) b.at_end (last_lines n)) c.is
    ∙ ap (λ k. (numbered 1 0 head_lines ++ numbered 5 c.at_end (blocks n n)) ++ numbered k b.at_end (last_lines n)) (omega (arith, length-append head_lines (blocks n n))) in
    subst (λ ls. Leads done ls (said done []) (saying (all_states n))) (sym is)
    (leads_both done _ _ (said done []) (saying (text_states n n)) (saying (all_states n))
    (leads_both done _ _ (said done []) (saying []) (saying (text_states n n)) head_leads (blocks_lead c.at_end n n (omega arith) m))
    (last_lead b.at_end (5 + length (blocks n n)) n (text_states n n) m (sized_states n n)))

pub sized_all : (n : ℕ) → Sized (all_states n) (2 * n + 2)
sized_all n =
    let s = goal_state (5 + length (blocks n n)) n in
    let t = sink_state (5 + length (blocks n n) + 1 + 1) n in
    let two : 2 * n + 1 + 1 ≡ 2 * n + 2 = omega arith in
    subst (λ ss. Sized ss (2 * n + 2)) (append_assoc (text_states n n) (s ∷ []) (t ∷ []))
    (subst (Sized ((text_states n n ++ s ∷ []) ++ t ∷ [])) two (sized_more (text_states n n ++ s ∷ []) (2 * n + 1) _ _ _ _ (sized_more (text_states n n) (2 * n) _ _ _ _ (sized_states n n) (omega arith)) (omega arith)))
