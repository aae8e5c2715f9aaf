-- The readers of nodes, step by step.
use Rattle.std.proofs.Common.{◌≡◌, ◌∙◌, ◌+◌, ◌-◌, ap, sym, ℕ, List, Bool, true, false, length, map, codes, Ok, refl}
use Rattle.line_text.specs.declared.error.TextCause.TheVariants.{Syntax}
use Rattle.line_text.specs.Words.{words}
use Rattle.line_text.specs.Parts.{must, number_in}
use Rattle.line_text.specs.Reading.{◌>>=◌, Cursor, at, due, fault, line_at}
use Rattle.cert_text.specs.Lines.{values_of, marks_of, reject_of, unknown_of, Rejected}
use Rattle.cert_text.specs.Head.{HeadData, least_precision, at_precision}
use Rattle.cert_text.specs.Nodes.{split, accept, reject, unknown, begins, fits_leaf}
use Rattle.cert_text.specs.Nodes.{split_at, accept_at, rejecting_at, reject_at, unknown_at, node_by, decided_by, reported_at, second_by, node_in, node_at}

pub split_is_read : (h : HeadData) (c : Cursor) → split_at h c ≡ (line_at (number_in (codes "split") 0 (length h.asked.model.names)) c >>= λ axis. Ok (split axis.0, axis.1))
unfolding split_at
split_is_read h c = refl

pub accept_is_read : (h : HeadData) (c : Cursor) → accept_at h c ≡ (line_at (values_of (codes "accept") (length h.asked.model.states) h.asked.w) c >>= λ x. Ok (accept h.asked.w x.0, x.1))
unfolding accept_at
accept_is_read h c = refl

pub rejecting_is_read : (h : HeadData) (r : Rejected) (c : Cursor) → rejecting_at h r c ≡ (line_at (values_of (codes "y") (length h.asked.model.states) h.asked.w) c
    >>= λ y. line_at (marks_of (codes "choice") (map length h.asked.model.states)) y.1
    >>= λ picks. line_at (marks_of (codes "rank") (map (λ _. r.k + 1) h.asked.model.states)) picks.1
    >>= λ ranks. at (ranks.1.0 - 4) (must (fits_leaf h r y.0 picks.0 ranks.0) Syntax)
    >>= λ _. Ok (reject h.asked.w (record { numbers = y.0; picks = picks.0; ranks = ranks.0; e = r.e; k = r.k }), ranks.1))
unfolding rejecting_at
rejecting_is_read h r c = refl

pub reject_is_read : (h : HeadData) (c : Cursor) → reject_at h c ≡ (line_at reject_of c >>= λ r. rejecting_at h r.0 r.1)
unfolding reject_at
reject_is_read h c = refl

pub unknown_is_read : (c : Cursor) → unknown_at c ≡ (line_at unknown_of c >>= λ x. Ok (unknown, x.1))
unfolding unknown_at
unknown_is_read c = refl

pub reported_is_read : (h : HeadData) (c : Cursor) → reported_at h c ≡ (line_at (number_in (codes "at") (least_precision h) (h.asked.w + 1)) c >>= λ u. due u.1 >>= λ l. decided_by (at_precision u.0 h) (words l.0) u.1)
unfolding reported_at
reported_is_read h c = refl

pub node_is_read : (h : HeadData) (c : Cursor) → node_at h c ≡ (due c >>= λ l. node_in h h.from (words l.0) c)
unfolding node_at
node_is_read h c = refl

-- ---- by the first word

yes : {A : Type 0} (b : Bool) (x y : A) → b ≡ true → (elim b [ true ↦ x | false ↦ y ]) ≡ x
yes b x y e = ap (λ (b : Bool). elim b [ true ↦ x | false ↦ y ]) e

no : {A : Type 0} (b : Bool) (x y : A) → b ≡ false → (elim b [ true ↦ x | false ↦ y ]) ≡ y
no b x y e = ap (λ (b : Bool). elim b [ true ↦ x | false ↦ y ]) e

pub first_split : (h : HeadData) (ws : List (List ℕ)) (c : Cursor) → begins (codes "split") ws ≡ true → node_by h ws c ≡ split_at h c
unfolding node_by
first_split h ws c e = yes (begins (codes "split") ws) (split_at h c) (elim (begins (codes "accept") ws) [ true ↦ accept_at h c | false ↦ (elim (begins (codes "reject") ws) [ true ↦ reject_at h c | false ↦ unknown_at c ]) ]) e

pub first_accept : (h : HeadData) (ws : List (List ℕ)) (c : Cursor) → begins (codes "split") ws ≡ false → begins (codes "accept") ws ≡ true → node_by h ws c ≡ accept_at h c
unfolding node_by
first_accept h ws c e f = no (begins (codes "split") ws) (split_at h c) (elim (begins (codes "accept") ws) [ true ↦ accept_at h c | false ↦ (elim (begins (codes "reject") ws) [ true ↦ reject_at h c | false ↦ unknown_at c ]) ]) e ∙ yes (begins (codes "accept") ws) (accept_at h c) (elim (begins (codes "reject") ws) [ true ↦ reject_at h c | false ↦ unknown_at c ]) f

pub first_reject : (h : HeadData) (ws : List (List ℕ)) (c : Cursor) → begins (codes "split") ws ≡ false → begins (codes "accept") ws ≡ false → begins (codes "reject") ws ≡ true → node_by h ws c ≡ reject_at h c
unfolding node_by
first_reject h ws c e f i = no (begins (codes "split") ws) (split_at h c) (elim (begins (codes "accept") ws) [ true ↦ accept_at h c | false ↦ (elim (begins (codes "reject") ws) [ true ↦ reject_at h c | false ↦ unknown_at c ]) ]) e ∙ no (begins (codes "accept") ws) (accept_at h c) (elim (begins (codes "reject") ws) [ true ↦ reject_at h c | false ↦ unknown_at c ]) f ∙ yes (begins (codes "reject") ws) (reject_at h c) (unknown_at c) i

pub first_other : (h : HeadData) (ws : List (List ℕ)) (c : Cursor) → begins (codes "split") ws ≡ false → begins (codes "accept") ws ≡ false → begins (codes "reject") ws ≡ false → node_by h ws c ≡ unknown_at c
unfolding node_by
first_other h ws c e f i = no (begins (codes "split") ws) (split_at h c) (elim (begins (codes "accept") ws) [ true ↦ accept_at h c | false ↦ (elim (begins (codes "reject") ws) [ true ↦ reject_at h c | false ↦ unknown_at c ]) ]) e ∙ no (begins (codes "accept") ws) (accept_at h c) (elim (begins (codes "reject") ws) [ true ↦ reject_at h c | false ↦ unknown_at c ]) f ∙ no (begins (codes "reject") ws) (reject_at h c) (unknown_at c) i

pub decided_accept : (h : HeadData) (ws : List (List ℕ)) (c : Cursor) → begins (codes "accept") ws ≡ true → decided_by h ws c ≡ accept_at h c
unfolding decided_by
decided_accept h ws c e = yes (begins (codes "accept") ws) (accept_at h c) (elim (begins (codes "reject") ws) [ true ↦ reject_at h c | false ↦ fault c.0 Syntax ]) e

pub decided_reject : (h : HeadData) (ws : List (List ℕ)) (c : Cursor) → begins (codes "accept") ws ≡ false → begins (codes "reject") ws ≡ true → decided_by h ws c ≡ reject_at h c
unfolding decided_by
decided_reject h ws c e f = no (begins (codes "accept") ws) (accept_at h c) (elim (begins (codes "reject") ws) [ true ↦ reject_at h c | false ↦ fault c.0 Syntax ]) e ∙ yes (begins (codes "reject") ws) (reject_at h c) (fault c.0 Syntax) f

pub decided_other : (h : HeadData) (ws : List (List ℕ)) (c : Cursor) → begins (codes "accept") ws ≡ false → begins (codes "reject") ws ≡ false → decided_by h ws c ≡ fault c.0 Syntax
unfolding decided_by
decided_other h ws c e f = no (begins (codes "accept") ws) (accept_at h c) (elim (begins (codes "reject") ws) [ true ↦ reject_at h c | false ↦ fault c.0 Syntax ]) e ∙ no (begins (codes "reject") ws) (reject_at h c) (fault c.0 Syntax) f

pub second_split : (h : HeadData) (ws : List (List ℕ)) (c : Cursor) → begins (codes "split") ws ≡ true → second_by h ws c ≡ split_at h c
unfolding second_by
second_split h ws c e = yes (begins (codes "split") ws) (split_at h c) (elim (begins (codes "at") ws) [ true ↦ reported_at h c | false ↦ unknown_at c ]) e

pub second_reported : (h : HeadData) (ws : List (List ℕ)) (c : Cursor) → begins (codes "split") ws ≡ false → begins (codes "at") ws ≡ true → second_by h ws c ≡ reported_at h c
unfolding second_by
second_reported h ws c e f = no (begins (codes "split") ws) (split_at h c) (elim (begins (codes "at") ws) [ true ↦ reported_at h c | false ↦ unknown_at c ]) e ∙ yes (begins (codes "at") ws) (reported_at h c) (unknown_at c) f

pub second_other : (h : HeadData) (ws : List (List ℕ)) (c : Cursor) → begins (codes "split") ws ≡ false → begins (codes "at") ws ≡ false → second_by h ws c ≡ unknown_at c
unfolding second_by
second_other h ws c e f = no (begins (codes "split") ws) (split_at h c) (elim (begins (codes "at") ws) [ true ↦ reported_at h c | false ↦ unknown_at c ]) e ∙ no (begins (codes "at") ws) (reported_at h c) (unknown_at c) f

-- what the code tests of the line at the front
pub reported_by : (key line text : List ℕ) (b v : Bool) → b ≡ begins key (words line) → line ≡ text → b ≡ v → begins key (words text) ≡ v
reported_by key line text b v e same is = ap (λ (l : List ℕ). begins key (words l)) (sym same) ∙ sym e ∙ is
