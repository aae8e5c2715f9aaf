-- The text as it is written, block by block.
use Rattle.std.proofs.Common.{◌≡◌, ◌<◌, ◌+◌, ◌-◌, ◌*◌, ℕ, zero, suc, List, [], ◌∷◌, ◌++◌, refl, sym, ap, subst, ◌∙◌, arith, append_assoc}
use Rattle.std.specs.Prelude.{codes}
use Rattle.std.specs.Fmt.{decimal}
use Rattle.std.proofs.lemmas.Grind.{flat_map-append}
use Rattle.std.proofs.lemmas.List.{append-nil}
use Rattle.model_gen.specs.Ladder.{block, blocks, first_label, head_lines, last_lines, ladder_text, joined}

line1 : (x rest more : List ℕ) → rest ≡ more → (x ++ 10 ∷ []) ++ rest ≡ x ++ (10 ∷ more)
line1 x rest more e = append_assoc x (10 ∷ []) rest ∙ ap (λ t. x ++ (10 ∷ t)) e

line2 : (x y rest more : List ℕ) → rest ≡ more → ((x ++ y) ++ 10 ∷ []) ++ rest ≡ x ++ (y ++ (10 ∷ more))
line2 x y rest more e = line1 (x ++ y) rest more e ∙ append_assoc x y (10 ∷ more)

block_parts : (a l b c d e f : List ℕ)
    → codes "state " ++ (a ++ (l ++ (10 ∷ (b ++ (codes " : p" ++ (10 ∷ (c ++ (codes " : 1-p" ++ (10 ∷ (codes "state " ++ (d ++ (10 ∷ (e ++ (codes " : q" ++ (10 ∷ (f ++ (codes " : 1-q" ++ (10 ∷ []))))))))))))))))))
    ≡ joined (((codes "state " ++ a) ++ l) ∷ (b ++ codes " : p") ∷ (c ++ codes " : 1-p") ∷ (codes "state " ++ d) ∷ (e ++ codes " : q") ∷ (f ++ codes " : 1-q") ∷ [])
block_parts a l b c d e f =
    sym (ap (λ t. codes "state " ++ t) (line2 a l _ _ (line2 b (codes " : p") _ _ (line2 c (codes " : 1-p") _ _ (ap (λ t. codes "state " ++ t) (line1 d _ _ (line2 e (codes " : q") _ _ (line2 f (codes " : 1-q") _ _ refl))))))))

pub block_text : (n i : ℕ) (l : List ℕ) → l ≡ first_label i
    → codes "state " ++ (decimal (2 * i) ++ (l ++ (10 ∷ (decimal (2 * i + 2) ++ (codes " : p" ++ (10 ∷ (decimal (2 * i + 1) ++ (codes " : 1-p" ++ (10 ∷ (codes "state " ++ (decimal (2 * i + 1) ++ (10 ∷ (decimal (2 * i) ++ (codes " : q" ++ (10 ∷ (decimal (2 * n + 1) ++ (codes " : 1-q" ++ (10 ∷ []))))))))))))))))))
    ≡ joined (block n i)
block_text n i l e =
    block_parts (decimal (2 * i)) l (decimal (2 * i + 2)) (decimal (2 * i + 1)) (decimal (2 * i + 1)) (decimal (2 * i)) (decimal (2 * n + 1))
    ∙ ap (λ l. joined (((codes "state " ++ decimal (2 * i)) ++ l) ∷ (decimal (2 * i + 2) ++ codes " : p") ∷ (decimal (2 * i + 1) ++ codes " : 1-p") ∷ (codes "state " ++ decimal (2 * i + 1)) ∷ (decimal (2 * i) ++ codes " : q") ∷ (decimal (2 * n + 1) ++ codes " : 1-q") ∷ [])) e

last_parts : (a b c d : List ℕ)
    → codes "state " ++ (a ++ (codes " done" ++ (10 ∷ (b ++ (codes " : 1" ++ (10 ∷ (codes "state " ++ (c ++ (10 ∷ (d ++ (codes " : 1" ++ (10 ∷ []))))))))))))
    ≡ joined (((codes "state " ++ a) ++ codes " done") ∷ (b ++ codes " : 1") ∷ (codes "state " ++ c) ∷ (d ++ codes " : 1") ∷ [])
last_parts a b c d =
    sym (ap (λ t. codes "state " ++ t) (line2 a (codes " done") _ _ (line2 b (codes " : 1") _ _ (ap (λ t. codes "state " ++ t) (line1 c _ _ (line2 d (codes " : 1") _ _ refl))))))

pub last_text : (n : ℕ)
    → codes "state " ++ (decimal (2 * n) ++ (codes " done" ++ (10 ∷ (decimal (2 * n) ++ (codes " : 1" ++ (10 ∷ (codes "state " ++ (decimal (2 * n + 1) ++ (10 ∷ (decimal (2 * n + 1) ++ (codes " : 1" ++ (10 ∷ []))))))))))))
    ≡ joined (last_lines n)
last_text n = last_parts (decimal (2 * n)) (decimal (2 * n)) (decimal (2 * n + 1)) (decimal (2 * n + 1))

pub blocks_none : (n : ℕ) → joined (blocks n 0) ≡ []
unfolding blocks
blocks_none n = refl

-- the text in its three parts
pub text_parts : (n : ℕ) → ladder_text n ≡ joined head_lines ++ (joined (blocks n n) ++ joined (last_lines n))
text_parts n =
    flat_map-append (λ l. l ++ 10 ∷ []) (head_lines ++ blocks n n) (last_lines n)
    ∙ ap (λ t. t ++ joined (last_lines n)) (flat_map-append (λ l. l ++ 10 ∷ []) head_lines (blocks n n))
    ∙ append_assoc (joined head_lines) (joined (blocks n n)) (joined (last_lines n))

-- one block more
pub blocks_more : (n i : ℕ) → joined (blocks n (i + 1)) ≡ joined (blocks n i) ++ joined (block n i)
unfolding blocks
blocks_more n i =
    let one : i + 1 ≡ suc i = omega arith in
    ap (λ k. joined (blocks n k)) one ∙ flat_map-append (λ l. l ++ 10 ∷ []) (blocks n i) (block n i)

-- the blocks behind one
pub record Further (n i k : ℕ) : Type 0 where
  pub rest : List ℕ
  pub is : joined (blocks n k) ≡ (joined (blocks n i) ++ joined (block n i)) ++ rest

further_by : (n i k : ℕ) → Further n i (i + 1 + k)
further_by n i zero = record { rest = []; is = ap (λ k. joined (blocks n k)) (omega arith) ∙ blocks_more n i ∙ sym (append-nil (joined (blocks n i) ++ joined (block n i))) }
further_by n i (suc k) =
    let f = further_by n i k in
    let one : i + 1 + suc k ≡ i + 1 + k + 1 = omega arith in
    record {
      rest = f.rest ++ joined (block n (i + 1 + k));
      is = ap (λ k. joined (blocks n k)) one ∙ blocks_more n (i + 1 + k) ∙ ap (λ t. t ++ joined (block n (i + 1 + k))) f.is ∙ append_assoc (joined (blocks n i) ++ joined (block n i)) f.rest (joined (block n (i + 1 + k)));
    }

pub further : (n i : ℕ) → i < n → Further n i n
further n i h =
    let e : i + 1 + (n - (i + 1)) ≡ n = omega arith in
    subst (Further n i) e (further_by n i (n - (i + 1)))
