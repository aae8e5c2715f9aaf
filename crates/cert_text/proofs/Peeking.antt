-- A reader that looks at the line that is due before it reads on.
use Rattle.std.proofs.Common.{◌≡◌, ℕ, ◌+◌, ◌^◌, ◌<◌, ◌≤◌, Bool, true, false, List, [], ◌∷◌, ◌++◌, length, Result, Ok, sym, ap, subst, ◌∙◌, append_assoc, arith, inl, inr, ◌⊎◌}
use Rattle.std.specs.List.{concat}
use Rattle.std.proofs.lemmas.List.{length-append}
use Rattle.line_text.specs.declared.error.TextCause.TheVariants.{Truncated}
use Rattle.line_text.specs.declared.error.TextError.{TextError}
use Rattle.line_text.specs.Reading.{◌>>=◌, Cursor, Reader, fault, due, is_feed}
use Rattle.cert_text.specs.Whole.{feed_count}
use Rattle.cert_text.proofs.CutLines.{NoFeed, every_front, due_again, due_short, feed_count-none}
use Rattle.cert_text.proofs.Inverting.{Lines, IsPartial, Inverts, Opens, CutFirst, CutLast, cut, front_of, bind_is}

-- the text goes on with a line for which the test says so
pub record First (test : List ℕ → Bool) (b : Bool) (rest : List ℕ) : Type 0 where
  pub line : List ℕ
  pub more : List ℕ
  pub is : rest ≡ line ++ 10 ∷ more
  pub clean : NoFeed line
  pub short : length line ≤ 2 ^ 20
  pub says : test line ≡ b

-- the lines begin with one for which the test says so
pub record Begins (test : List ℕ → Bool) (b : Bool) (ls : Lines) : Type 0 where
  pub line : List ℕ
  pub more : Lines
  pub is : ls ≡ (line ++ 10 ∷ []) ∷ more
  pub clean : NoFeed line
  pub short : length line ≤ 2 ^ 20
  pub says : test line ≡ b

begun : {test : List ℕ → Bool} {b : Bool} {ls : Lines} (h : Begins test b ls) (rest : List ℕ) → concat ls ++ rest ≡ h.line ++ 10 ∷ (concat h.more ++ rest)
begun h rest = ap (λ l. concat l ++ rest) h.is ∙ append_assoc (h.line ++ 10 ∷ []) (concat h.more) rest ∙ append_assoc h.line (10 ∷ []) (concat h.more ++ rest)

pub opens_first : {test : List ℕ → Bool} {b : Bool} (Next : List ℕ → Type 0) {ls : Lines} → Begins test b ls → Opens (First test b) Next ls
opens_first {test} {b} Next {ls} h = record {
  whole = λ rest _. record { line = h.line; more = concat h.more ++ rest; is = begun h rest; clean = h.clean; short = h.short; says = h.says };
  part = λ more back e some. by_cut more back (cut (h.line ++ 10 ∷ []) (concat h.more) more back (sym (ap concat h.is) ∙ e));
  ended = λ more _. inl (record { line = h.line; more = concat h.more ++ more; is = begun h more; clean = h.clean; short = h.short; says = h.says });
}
  where
    by_cut : (more back : List ℕ) → CutFirst (h.line ++ 10 ∷ []) more back ⊎ CutLast (h.line ++ 10 ∷ []) (concat h.more) more back → First test b more ⊎ IsPartial more
    by_cut more back (inl c) =
        let f = front_of h.line more c.more c.is c.some in
        inr (record { clean = every_front (λ x. is_feed x ≡ false) more f.0 (subst NoFeed f.1 h.clean); short = omega (arith, h.short, ap length f.1, length-append more f.0) })
    by_cut more back (inr c) = inl (record { line = h.line; more = c.more; is = c.is ∙ append_assoc h.line (10 ∷ []) c.more; clean = h.clean; short = h.short; says = h.says })

pub opens_done : {Next : List ℕ → Type 0} {ls : Lines} (Next₁ : List ℕ → Type 0) → ((rest : List ℕ) → Next rest → Next₁ rest) → ls ≡ [] → Opens Next₁ Next ls
opens_done {Next} {ls} Next₁ h e = record {
  whole = λ rest goes. subst (λ l. Next₁ (concat l ++ rest)) (sym e) (h rest goes);
  part = λ more back f some. absurd (omega (arith, some, length-append more back, ap length f, ap (λ l. length (concat l)) e));
  ended = λ more _. inr e;
}

-- what is read where the line that is due passes, and where it doesn't
abbrev pub peek : {A : Type 0} → (List ℕ → Bool) → Reader A → Reader A → Reader A
peek test passed other c = due c >>= λ l. elim (test l.0) [ true ↦ passed c | false ↦ other c ]

peek_first : {A : Type 0} (test : List ℕ → Bool) (passed other : Reader A) (n : ℕ) (b : Bool) (text : List ℕ) → First test b text → peek test passed other (n, text) ≡ elim b [ true ↦ passed (n, text) | false ↦ other (n, text) ]
peek_first test passed other n b text f =
    let d : due (n, text) ≡ Ok (f.line, (n + 1, f.more)) = ap (λ t. due (n, t)) f.is ∙ due_again n f.line f.more f.clean f.short in
    ap (λ (r : Result (List ℕ × Cursor) TextError). r >>= λ l. elim (test l.0) [ true ↦ passed (n, text) | false ↦ other (n, text) ]) d
    ∙ ap (λ (t : Bool). elim t [ true ↦ passed (n, text) | false ↦ other (n, text) ]) f.says

peek_partial : {A : Type 0} (test : List ℕ → Bool) (passed other : Reader A) (n : ℕ) (t : List ℕ) → IsPartial t → peek test passed other (n, t) ≡ fault n Truncated
peek_partial test passed other n t p = ap (λ (r : Result (List ℕ × Cursor) TextError). r >>= λ l. elim (test l.0) [ true ↦ passed (n, t) | false ↦ other (n, t) ]) (due_short n t p.clean p.short)

peek_by : {A : Type 0} (b : Bool) (passed other y : Result (A × Cursor) TextError) → (elim b [ true ↦ passed | false ↦ other ]) ≡ y → (passed ≡ y) ⊎ (other ≡ y)
peek_by true passed other y e = inl e
peek_by false passed other y e = inr e

pub inverts_peek : {A : Type 0} {Next : List ℕ → Type 0} {S T : A → Lines → Type 0} (test : List ℕ → Bool) {passed other : Reader A} → Inverts Next S passed → Inverts Next T other → ((x : A) (ls : Lines) → S x ls → Opens (First test true) Next ls) → ((x : A) (ls : Lines) → T x ls → Opens (First test false) Next ls) → Inverts Next (λ x ls. S x ls ⊎ T x ls) (peek test passed other)
inverts_peek {A} {Next} {S} {T} test {passed} {other} f g oS oT = record { takes = takes; again = again; short = short; stops = stops; feeds = feeds }
  where
    takes : (n m : ℕ) (text rest : List ℕ) (x : A) → peek test passed other (n, text) ≡ Ok (x, (m, rest)) → (ls : Lines) × (S x ls ⊎ T x ls) × (text ≡ concat ls ++ rest) × (m ≡ n + length ls)
    takes n m text rest x e =
        let d = bind_is (due (n, text)) (λ l. elim (test l.0) [ true ↦ passed (n, text) | false ↦ other (n, text) ]) (x, (m, rest)) e in
        elim (peek_by (test d.0.0) (passed (n, text)) (other (n, text)) (Ok (x, (m, rest))) d.2) [
          | inl r ↦ let t = f.takes n m text rest x r in (t.0, inl t.1, t.2, t.3)
          | inr r ↦ let t = g.takes n m text rest x r in (t.0, inr t.1, t.2, t.3)
        ]

    again : (n : ℕ) (x : A) (ls : Lines) (rest : List ℕ) → (S x ls ⊎ T x ls) → Next rest → peek test passed other (n, concat ls ++ rest) ≡ Ok (x, (n + length ls, rest))
    again n x ls rest (inl s) goes = peek_first test passed other n true (concat ls ++ rest) ((oS x ls s).whole rest goes) ∙ f.again n x ls rest s goes
    again n x ls rest (inr t) goes = peek_first test passed other n false (concat ls ++ rest) ((oT x ls t).whole rest goes) ∙ g.again n x ls rest t goes

    short : (n : ℕ) (x : A) (ls : Lines) (front back : List ℕ) → (S x ls ⊎ T x ls) → concat ls ≡ front ++ back → 0 < length back → peek test passed other (n, front) ≡ fault (n + feed_count front) Truncated
    short n x ls front back (inl s) e some =
        elim ((oS x ls s).part front back e some) [
          | inl h ↦ peek_first test passed other n true front h ∙ f.short n x ls front back s e some
          | inr p ↦ peek_partial test passed other n front p ∙ ap (λ k. fault k Truncated) (omega (arith, feed_count-none front p.clean))
        ]
    short n x ls front back (inr t) e some =
        elim ((oT x ls t).part front back e some) [
          | inl h ↦ peek_first test passed other n false front h ∙ g.short n x ls front back t e some
          | inr p ↦ peek_partial test passed other n front p ∙ ap (λ k. fault k Truncated) (omega (arith, feed_count-none front p.clean))
        ]

    empty : (n : ℕ) (x : A) (ls : Lines) (more : List ℕ) → ls ≡ [] → IsPartial more → peek test passed other (n, concat ls ++ more) ≡ fault (n + length ls) Truncated
    empty n x ls more none p = ap (λ l. peek test passed other (n, concat l ++ more)) none ∙ peek_partial test passed other n more p ∙ ap (λ k. fault k Truncated) (omega (arith, ap length none))

    stops : (n : ℕ) (x : A) (ls : Lines) (more : List ℕ) → (S x ls ⊎ T x ls) → IsPartial more → (peek test passed other (n, concat ls ++ more) ≡ Ok (x, (n + length ls, more))) ⊎ (peek test passed other (n, concat ls ++ more) ≡ fault (n + length ls) Truncated)
    stops n x ls more (inl s) p =
        elim ((oS x ls s).ended more p) [
          | inl h ↦ elim (f.stops n x ls more s p) [
            | inl e ↦ inl (peek_first test passed other n true (concat ls ++ more) h ∙ e)
            | inr e ↦ inr (peek_first test passed other n true (concat ls ++ more) h ∙ e)
          ]
          | inr none ↦ inr (empty n x ls more none p)
        ]
    stops n x ls more (inr t) p =
        elim ((oT x ls t).ended more p) [
          | inl h ↦ elim (g.stops n x ls more t p) [
            | inl e ↦ inl (peek_first test passed other n false (concat ls ++ more) h ∙ e)
            | inr e ↦ inr (peek_first test passed other n false (concat ls ++ more) h ∙ e)
          ]
          | inr none ↦ inr (empty n x ls more none p)
        ]

    feeds : (x : A) (ls : Lines) → (S x ls ⊎ T x ls) → feed_count (concat ls) ≡ length ls
    feeds x ls (inl s) = f.feeds x ls s
    feeds x ls (inr t) = g.feeds x ls t
