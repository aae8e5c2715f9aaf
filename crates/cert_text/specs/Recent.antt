-- What a reader of entries keeps: the polynomials of texts, and marks of states. No public clause rests on it.
use Rattle.std.specs.Prelude.{◌≡◌, ◌≤◌, ℕ, List, All, Ok, length}
use Rattle.lift_model.specs.Valid.{most_parameters, most_states}
use Rattle.lift_poly.specs.Polynomial.{Term}
use Rattle.line_text.specs.Words.{words}
use Rattle.cert_text.specs.Shown.{terms_of}
use Rattle.cert_text.specs.declared.known.Known.{Known}

-- a polynomial with the text that it is kept for
abbrev pub text_and_terms : Known → List ℕ × List Term
text_and_terms k = (k.text.items, k.poly)

-- reading the text gives the polynomial
abbrev pub IsKnown : ℕ → Known → Type 0
IsKnown parameters k = terms_of parameters (words k.text.items) ≡ Ok (Ok k.poly)

-- reading each text gives its polynomial
abbrev pub AreKnown : ℕ → List Known → Type 0
AreKnown parameters texts = All (IsKnown parameters) texts

-- what entries are read by: the number of parameters, each state's mark, and the mark of the row whose entries are read
pub record ReadsEntries : Type 0 where
  pub parameters : ℕ
  pub marks : List ℕ
  pub mark : ℕ

-- the sizes are within limits, each text is kept with its polynomial, and no state has a later row's mark
pub record IsEntryReader (texts : List Known) (r : ReadsEntries) : Type 0 where
  pub parameters : r.parameters ≤ most_parameters
  pub states : length r.marks ≤ most_states
  pub known : AreKnown r.parameters texts
  pub low : All (λ m. m ≤ r.mark) r.marks
