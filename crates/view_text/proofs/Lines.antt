-- Values of parameters, each on its line.
use Rattle.std.proofs.Common.{◌≡◌, ℕ, zero, suc, ◌+◌, ◌<◌, ◌≤◌, List, [], ◌∷◌, ◌++◌, length, drop, get_or, refl, ap, sym, subst, arith}
use Rattle.cert_text.specs.Head.{HeadData}
use Rattle.view_map.specs.Slice.{CutData}
use Rattle.view_text.specs.Axes.{cut_text, cuts_from}

at : (h : HeadData) (line : ℕ) (cuts : List CutData) (i : ℕ) (cut d : CutData) → i < length cuts → cut ≡ get_or cuts i d → cuts_from h line (drop i cuts) ≡ cut_text h line cut ++ cuts_from h (line + 1) (drop (suc i) cuts)
unfolding cuts_from
at h line [] i cut d below e = absurd (omega (arith, below))
at h line (c ∷ cuts) zero cut d below e = ap (λ z. cut_text h line z ++ cuts_from h (line + 1) cuts) (sym e)
at h line (c ∷ cuts) (suc i) cut d below e = at h line cuts i cut d (omega (arith, below)) e

-- the line that is due
pub line_due : (h : HeadData) (cuts : List CutData) (i : ℕ) (cut : CutData) → i < length cuts → cut ≡ get_or cuts i cut → cuts_from h i (drop i cuts) ≡ cut_text h i cut ++ cuts_from h (i + 1) (drop (i + 1) cuts)
line_due h cuts i cut below e =
    let one : suc i ≡ i + 1 = omega arith in
    subst (λ (n : ℕ). cuts_from h i (drop i cuts) ≡ cut_text h i cut ++ cuts_from h (i + 1) (drop n cuts)) one (at h i cuts i cut cut below e)

-- none is due behind the last
pub no_line : (h : HeadData) (line : ℕ) (cuts : List CutData) (i : ℕ) → length cuts ≤ i → cuts_from h line (drop i cuts) ≡ []
unfolding cuts_from
no_line h line [] zero above = refl
no_line h line [] (suc i) above = refl
no_line h line (c ∷ cuts) zero above = absurd (omega (arith, above))
no_line h line (c ∷ cuts) (suc i) above = no_line h line cuts i (omega (arith, above))
