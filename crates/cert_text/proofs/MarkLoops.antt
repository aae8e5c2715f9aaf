-- One flag for each state, as a loop makes them.
use Rattle.std.proofs.Common.{◌≡◌, ℕ, zero, suc, ◌+◌, ◌-◌, ◌<◌, Bool, true, false, cond, List, [], ◌∷◌, ◌++◌, drop, refl, sym, ap, ◌∙◌, append_assoc, arith}
use Rattle.cert_text.specs.Lines.{flags}
use Rattle.cert_text.specs.Shown.{comes_first}

drop_next : {A : Type 0} (xs : List A) (i : ℕ) (x : A) (rest : List A) → drop i xs ≡ x ∷ rest → drop (i + 1) xs ≡ rest
drop_next [] zero x rest e = absurd cc
drop_next [] (suc i) x rest e = absurd cc
drop_next (y ∷ xs) zero x rest e = cc
drop_next (y ∷ xs) (suc i) x rest e = let next : suc i + 1 ≡ suc (i + 1) = omega arith in rw next (drop_next xs i x rest e)

next_left : (states s : ℕ) → s < states → states - s ≡ suc (states - (s + 1))
next_left states s h = omega (arith, h)

pub flag_set : (states s next : ℕ) (goals : List ℕ) (done total : List Bool) → s < states → comes_first s (drop next goals) ≡ true → total ≡ done ++ flags (states - s) s (drop next goals) → total ≡ (done ++ true ∷ []) ++ flags (states - (s + 1)) (s + 1) (drop (next + 1) goals)
flag_set states s next goals done total h first e = e ∙ ap (λ k. done ++ flags k s (drop next goals)) (next_left states s h) ∙ by_rest (drop next goals) refl first
  where
    by_rest : (gs : List ℕ) → drop next goals ≡ gs → comes_first s gs ≡ true → done ++ flags (suc (states - (s + 1))) s gs ≡ (done ++ true ∷ []) ++ flags (states - (s + 1)) (s + 1) (drop (next + 1) goals)
    by_rest [] is first = absurd cc
    by_rest (g ∷ gs) is first = ap (λ b. done ++ cond b (true ∷ flags (states - (s + 1)) (s + 1) gs) (false ∷ flags (states - (s + 1)) (s + 1) (g ∷ gs))) first ∙ ap (λ t. done ++ true ∷ flags (states - (s + 1)) (s + 1) t) (sym (drop_next goals next g gs is)) ∙ sym (append_assoc done (true ∷ []) (flags (states - (s + 1)) (s + 1) (drop (next + 1) goals)))

pub flag_clear : (states s next : ℕ) (goals : List ℕ) (done total : List Bool) → s < states → comes_first s (drop next goals) ≡ false → total ≡ done ++ flags (states - s) s (drop next goals) → total ≡ (done ++ false ∷ []) ++ flags (states - (s + 1)) (s + 1) (drop next goals)
flag_clear states s next goals done total h first e = e ∙ ap (λ k. done ++ flags k s (drop next goals)) (next_left states s h) ∙ by_rest (drop next goals) first
  where
    by_rest : (gs : List ℕ) → comes_first s gs ≡ false → done ++ flags (suc (states - (s + 1))) s gs ≡ (done ++ false ∷ []) ++ flags (states - (s + 1)) (s + 1) gs
    by_rest [] first = sym (append_assoc done (false ∷ []) (flags (states - (s + 1)) (s + 1) []))
    by_rest (g ∷ gs) first = ap (λ b. done ++ cond b (true ∷ flags (states - (s + 1)) (s + 1) gs) (false ∷ flags (states - (s + 1)) (s + 1) (g ∷ gs))) first ∙ sym (append_assoc done (false ∷ []) (flags (states - (s + 1)) (s + 1) (g ∷ gs)))
