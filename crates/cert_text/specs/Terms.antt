-- What a writer of entries keeps: terms with their text. No public clause rests on it.
use Rattle.std.specs.Prelude.{◌-◌, ◌==◌, min, ℕ, List, [], ◌∷◌, ◌++◌, length, take, if◌then◌else◌}
use Rattle.std.specs.List.{flat_map}
use Rattle.lift_base.specs.Memory.{added}
use Rattle.lift_base.specs.declared.output.Put.{Put}
use Rattle.lift_base.specs.declared.output.Put.TheVariants as put
use Rattle.lift_poly.specs.Polynomial.{Term}
use Rattle.cert_text.specs.Report.{spaced, term_word}
use Rattle.cert_text.specs.declared.recent_terms.FewTerms.{FewTerms}
use Rattle.cert_text.specs.declared.recent_terms.FewTerms.TheVariants.{No, One, Two}

-- the text of terms: each behind a space
abbrev pub terms_text : List Term → List ℕ
terms_text terms = flat_map (λ term. spaced (term_word term)) terms

-- at most two terms, as a list
abbrev pub terms_of_few : FewTerms → List Term
terms_of_few No = []
terms_of_few (One term) = term ∷ []
terms_of_few (Two first second) = first ∷ second ∷ []

-- a short text as a sink: what it took, and how many writes have failed
pub record ShortData : Type 0 where
  pub taken : List ℕ
  pub faults : ℕ

-- what the next write answers, of a piece of this length, where there is room for so many bytes in all
abbrev pub short_write : ℕ → ShortData → ℕ → Put
short_write room s len = if length s.taken == room then put.Failed else put.Took (min len (room - length s.taken))

-- the text after the next write: the front of the piece was appended as far as there was room, or a fault is counted
abbrev pub short_kept : ℕ → ShortData → List ℕ → ShortData
short_kept room s piece =
    if length s.taken == room then record s { faults = added s.faults 1 }
    else record s { taken = s.taken ++ take (min (length piece) (room - length s.taken)) piece }
