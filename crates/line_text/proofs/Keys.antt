-- Words that have to stand first.
use Rattle.std.proofs.Common.{◌≡◌, ℕ, ◌≤◌, Bool, true, false, List, [], ◌∷◌, length, take, drop, get_or, Ok, refl, sym, ap, ◌∙◌, arith, ◌⊎◌, ⊎_elim, inl, inr}
use Rattle.std.specs.Prelude.{◌==◌}
use Rattle.std.specs.List.{position_or_len}
use Rattle.std.specs.Str.{bytes_eq}
use Rattle.line_text.specs.Parts.{Words, Read, first, keyed}
use Rattle.line_text.proofs.ShortNumbers.{position_at, position_past}

-- a key without a space, behind which a space stands, or nothing
pub key_len : (key text : List ℕ) → take (length key) text ≡ key → length key ≤ length text → (length key ≡ length text) ⊎ (get_or text (length key) 0 ≡ 32) → length key ≡ position_or_len (λ b. b == 32) key → length key ≡ position_or_len (λ b. b == 32) text
key_len [] [] e le end none = refl
key_len [] (t ∷ ts) e le end none =
    ⊎_elim (λ (all : 0 ≡ length (t ∷ ts)). absurd (omega (arith, all)))
    (λ (space : t ≡ 32). sym (position_at (λ b. b == 32) t ts (ap (λ b. b == 32) space))) end
key_len (k ∷ ks) [] e le end none = absurd (omega (arith, le))
key_len (k ∷ ks) (t ∷ ts) e le end none = by_test (k == 32) refl (λ left. key_len ks ts (ap (drop 1) e) (omega (arith, le)) (⊎_elim (λ (all : length (k ∷ ks) ≡ length (t ∷ ts)). inl (omega (arith, all))) (λ (space : get_or ts (length ks) 0 ≡ 32). inr space) end) left)
  where
    same : t ≡ k
    same = ap (λ l. get_or l 0 0) e

    by_test : (b : Bool) → (k == 32) ≡ b → (length ks ≡ position_or_len (λ b. b == 32) ks → length ks ≡ position_or_len (λ b. b == 32) ts) → length (k ∷ ks) ≡ position_or_len (λ b. b == 32) (t ∷ ts)
    by_test true is more = absurd (omega (arith, none, position_at (λ b. b == 32) k ks is))
    by_test false is more = omega (arith, more (omega (arith, none, position_past (λ b. b == 32) k ks is)), position_past (λ b. b == 32) t ts (ap (λ b. b == 32) same ∙ is))

pair_in : Read (List ℕ × Words) → List ℕ × Words
pair_in (Ok p) = p
pair_in _ = ([], [])

bytes_same : (w : List ℕ) → bytes_eq w w ≡ true
bytes_same [] = refl
bytes_same (x ∷ xs) = rw (bytes_same xs) (search (arith))

-- what stands behind the first word, where that is the key
pub behind_key : (key : List ℕ) (ws rest : Words) → first ws ≡ Ok (key, rest) → keyed key ws ≡ Ok rest
unfolding pair_in
behind_key key [] rest e = absurd (cc e)
behind_key key (w ∷ ws) rest e =
    let word : w ≡ key = ap (λ r. (pair_in r).0) e in
    let left : ws ≡ rest = ap (λ r. (pair_in r).1) e in
    rw (word, left, bytes_same key) refl
