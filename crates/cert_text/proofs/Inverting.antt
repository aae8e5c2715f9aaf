-- A reader that gives exactly what stands in a text: the laws of one step, and of steps in a row.
use Rattle.std.proofs.Common.{◌≡◌, ℕ, ◌+◌, ◌^◌, ◌<◌, ◌≤◌, false, List, [], ◌∷◌, ◌++◌, length, Result, Ok, Err, refl, sym, ap, subst, ◌∙◌, append_assoc, arith, inl, inr, ◌⊎◌}
use Rattle.std.specs.List.{concat, join_with_byte}
use Rattle.std.proofs.lemmas.List.{append-nil, length-append}
use Rattle.std.proofs.lemmas.List.Folds.{concat-append}
use Rattle.line_text.specs.declared.error.TextCause.TheVariants.{Truncated}
use Rattle.line_text.specs.declared.error.TextError.{TextError}
use Rattle.cert_text.specs.Report.{line}
use Rattle.line_text.specs.Words.{words}
use Rattle.line_text.specs.Reading.{◌>>=◌, Cursor, Reader, at, fault, due, line_at, is_feed}
use Rattle.line_text.specs.Parts.{Words, Read}
use Rattle.cert_text.proofs.Steps.{Reads, ok_is}
use Rattle.cert_text.specs.Whole.{feed_count}
use Rattle.cert_text.proofs.CutLines.{IsLine, NoFeed, line_join, line_words, words_join, no_feeds, every_front, due_again, due_short, due_takes, due_clean, words_line, feed_count-append, feed_count-none}

abbrev pub Lines : Type 0
Lines = List (List ℕ)

-- a text that goes on anyhow
abbrev pub Anything : List ℕ → Type 0
Anything rest = Unit {0}

-- less than a line
pub record IsPartial (t : List ℕ) : Type 0 where
  pub clean : NoFeed t
  pub short : length t ≤ 2 ^ 20

-- The reader gives x exactly where lines that stand for x begin the text, if the text goes on as Next says. It refuses each proper front of these lines as Truncated, at the line that was due. Where less than a line stands behind them, it leaves that, or refuses it as Truncated.
pub record Inverts {A : Type 0} (Next : List ℕ → Type 0) (Spells : A → Lines → Type 0) (read : Reader A) : Type 0 where
  pub takes : (n m : ℕ) (text rest : List ℕ) (x : A) → read (n, text) ≡ Ok (x, (m, rest)) → (ls : Lines) × Spells x ls × (text ≡ concat ls ++ rest) × (m ≡ n + length ls)
  pub again : (n : ℕ) (x : A) (ls : Lines) (rest : List ℕ) → Spells x ls → Next rest → read (n, concat ls ++ rest) ≡ Ok (x, (n + length ls, rest))
  pub short : (n : ℕ) (x : A) (ls : Lines) (front back : List ℕ) → Spells x ls → concat ls ≡ front ++ back → 0 < length back → read (n, front) ≡ fault (n + feed_count front) Truncated
  pub stops : (n : ℕ) (x : A) (ls : Lines) (more : List ℕ) → Spells x ls → IsPartial more → (read (n, concat ls ++ more) ≡ Ok (x, (n + length ls, more))) ⊎ (read (n, concat ls ++ more) ≡ fault (n + length ls) Truncated)
  pub feeds : (x : A) (ls : Lines) → Spells x ls → feed_count (concat ls) ≡ length ls

-- ---- a line

abbrev pub OneLine : {A : Type 0} → (A → Words → Type 0) → A → Lines → Type 0
OneLine P x ls = (ws : Words) × P x ws × (ls ≡ line ws ∷ [])

pub bind_is : {A B E : Type 0} (r : Result A E) (f : A → Result B E) (y : B) → (r >>= f) ≡ Ok y → (x : A) × (r ≡ Ok x) × (f x ≡ Ok y)
bind_is (Ok x) f y e = (x, refl, e)
bind_is (Err d) f y e = absurd cc

pub at_is : {A : Type 0} (n : ℕ) (r : Read A) (x : A) → at n r ≡ Ok x → r ≡ Ok x
at_is n (Ok y) x e = ap (λ z. Ok z) (ok_is y x e)
at_is n (Err cause) x e = absurd cc

-- a proper front of a line holds no line feed and isn't longer
pub front_of : (t front back : List ℕ) → t ++ 10 ∷ [] ≡ front ++ back → 0 < length back → (more : List ℕ) × (t ≡ front ++ more)
front_of t [] back e some = (t, refl)
front_of [] (b ∷ front) back e some = absurd (omega (arith, length-append front back, ap length e))
front_of (a ∷ t) (b ∷ front) back e some =
    let m = front_of t front back (cc) some in
    let same : a ≡ b = cc in
    (m.0, ap (λ x. a ∷ x) m.1 ∙ ap (λ x. x ∷ (front ++ m.0)) same)

line_is : (ws : Words) → IsLine ws → line ws ++ [] ≡ join_with_byte 32 ws ++ 10 ∷ []
line_is ws l = append-nil (line ws) ∙ line_join ws l.some

line_takes : {A : Type 0} (P : A → Words → Type 0) (read : Words → Read A) → ((ws : Words) → Reads (λ x. P x ws) (read ws)) → (n m : ℕ) (text rest : List ℕ) (x : A) → line_at read (n, text) ≡ Ok (x, (m, rest)) → (ls : Lines) × OneLine P x ls × (text ≡ concat ls ++ rest) × (m ≡ n + length ls)
unfolding line_at
line_takes {A} P read law n m text rest x e =
    let l = bind_is (due (n, text)) (λ l. at n (read (words l.0)) >>= λ x. Ok (x, l.1)) (x, (m, rest)) e in
    let r = bind_is (at n (read (words l.0.0))) (λ x. Ok (x, l.0.1)) (x, (m, rest)) l.2 in
    let same : (r.0, l.0.1) ≡ (x, (m, rest)) = ok_is (r.0, l.0.1) (x, (m, rest)) r.2 in
    let d = due_takes n l.0.1.0 text l.0.0 l.0.1.1 l.1 in
    let said : P r.0 (words l.0.0) = (law (words l.0.0)).takes r.0 (at_is n (read (words l.0.0)) r.0 r.1) in
    let whole : text ≡ (line (words l.0.0) ++ []) ++ l.0.1.1 = d.0 ∙ sym (append_assoc l.0.0 (10 ∷ []) l.0.1.1) ∙ ap (λ t. t ++ l.0.1.1) (sym (line_words l.0.0)) ∙ ap (λ t. t ++ l.0.1.1) (sym (append-nil (line (words l.0.0)))) in (
      line (words l.0.0) ∷ [],
      (words l.0.0, subst (λ y. P y (words l.0.0)) (ap (λ y. y.0) same) said, refl),
      whole ∙ ap (λ (y : A × Cursor). (line (words l.0.0) ++ []) ++ y.1.1) same,
      sym (ap (λ (y : A × Cursor). y.1.0) same) ∙ d.1,
    )

line_again : {A : Type 0} (P : A → Words → Type 0) (read : Words → Read A) → ((ws : Words) → Reads (λ x. P x ws) (read ws)) → ((x : A) (ws : Words) → P x ws → IsLine ws) → (n : ℕ) (x : A) (ls : Lines) (rest : List ℕ) → OneLine P x ls → line_at read (n, concat ls ++ rest) ≡ Ok (x, (n + length ls, rest))
unfolding line_at
line_again P read law fits n x ls rest s =
    let ws = s.0 in
    let l = fits x ws s.1 in
    let text : concat ls ++ rest ≡ join_with_byte 32 ws ++ 10 ∷ rest = ap (λ t. concat t ++ rest) s.2 ∙ ap (λ t. t ++ rest) (line_is ws l) ∙ append_assoc (join_with_byte 32 ws) (10 ∷ []) rest in
    let d = due_again n (join_with_byte 32 ws) rest (no_feeds ws l.words) l.short in
    let r = (law ws).again x s.1 in
    let count : n + 1 ≡ n + length ls = ap (λ t. n + length t) (sym s.2) in
    ap (λ t. line_at read (n, t)) text ∙ rw (d, words_join ws l.some l.words, r, count) refl

line_short : {A : Type 0} (P : A → Words → Type 0) (read : Words → Read A) → ((x : A) (ws : Words) → P x ws → IsLine ws) → (n : ℕ) (x : A) (ls : Lines) (front back : List ℕ) → OneLine P x ls → concat ls ≡ front ++ back → 0 < length back → line_at read (n, front) ≡ fault (n + feed_count front) Truncated
unfolding line_at
line_short P read fits n x ls front back s e some =
    let ws = s.0 in
    let l = fits x ws s.1 in
    let text : join_with_byte 32 ws ++ 10 ∷ [] ≡ front ++ back = sym (line_is ws l) ∙ sym (ap concat s.2) ∙ e in
    let f = front_of (join_with_byte 32 ws) front back text some in
    let clean : NoFeed front = every_front (λ b. is_feed b ≡ false) front f.0 (subst NoFeed f.1 (no_feeds ws l.words)) in
    let len : length front ≤ 2 ^ 20 = omega (arith, l.short, ap length f.1, length-append front f.0) in
    let count : n ≡ n + feed_count front = omega (arith, feed_count-none front clean) in
    rw (due_short n front clean len) (ap (λ k. fault k Truncated) count)

line_feeds : {A : Type 0} (P : A → Words → Type 0) → ((x : A) (ws : Words) → P x ws → IsLine ws) → (x : A) (ls : Lines) → OneLine P x ls → feed_count (concat ls) ≡ length ls
line_feeds P fits x ls s =
    let ws = s.0 in
    let l = fits x ws s.1 in
    let text : concat ls ≡ join_with_byte 32 ws ++ 10 ∷ [] = ap concat s.2 ∙ line_is ws l in
    ap feed_count text ∙ feed_count-append (join_with_byte 32 ws) (10 ∷ []) ∙ rw (feed_count-none (join_with_byte 32 ws) (no_feeds ws l.words), s.2) refl

pub inverts_line : {A : Type 0} (Next : List ℕ → Type 0) (P : A → Words → Type 0) (read : Words → Read A) → ((ws : Words) → Reads (λ x. P x ws) (read ws)) → ((x : A) (ws : Words) → P x ws → IsLine ws) → Inverts Next (OneLine P) (line_at read)
inverts_line Next P read law fits = record {
  takes = line_takes P read law;
  again = λ n x ls rest s _. line_again P read law fits n x ls rest s;
  short = line_short P read fits;
  stops = λ n x ls more s _. inl (line_again P read law fits n x ls more s);
  feeds = line_feeds P fits;
}

-- a line whose words alone don't tell that it is one
line_takes_in : {A : Type 0} (P : A → Words → Type 0) (read : Words → Read A) → ((ws : Words) → Reads (λ x. P x ws) (read ws)) → (n m : ℕ) (text rest : List ℕ) (x : A) → line_at read (n, text) ≡ Ok (x, (m, rest)) → (ls : Lines) × OneLine (λ x ws. P x ws × IsLine ws) x ls × (text ≡ concat ls ++ rest) × (m ≡ n + length ls)
unfolding line_at
line_takes_in {A} P read law n m text rest x e =
    let l = bind_is (due (n, text)) (λ l. at n (read (words l.0)) >>= λ x. Ok (x, l.1)) (x, (m, rest)) e in
    let r = bind_is (at n (read (words l.0.0))) (λ x. Ok (x, l.0.1)) (x, (m, rest)) l.2 in
    let same : (r.0, l.0.1) ≡ (x, (m, rest)) = ok_is (r.0, l.0.1) (x, (m, rest)) r.2 in
    let d = due_takes n l.0.1.0 text l.0.0 l.0.1.1 l.1 in
    let c = due_clean n l.0.1.0 text l.0.0 l.0.1.1 l.1 in
    let said : P r.0 (words l.0.0) = (law (words l.0.0)).takes r.0 (at_is n (read (words l.0.0)) r.0 r.1) in
    let whole : text ≡ (line (words l.0.0) ++ []) ++ l.0.1.1 = d.0 ∙ sym (append_assoc l.0.0 (10 ∷ []) l.0.1.1) ∙ ap (λ t. t ++ l.0.1.1) (sym (line_words l.0.0)) ∙ ap (λ t. t ++ l.0.1.1) (sym (append-nil (line (words l.0.0)))) in (
      line (words l.0.0) ∷ [],
      (words l.0.0, (subst (λ y. P y (words l.0.0)) (ap (λ y. y.0) same) said, words_line l.0.0 c.0 c.1), refl),
      whole ∙ ap (λ (y : A × Cursor). (line (words l.0.0) ++ []) ++ y.1.1) same,
      sym (ap (λ (y : A × Cursor). y.1.0) same) ∙ d.1,
    )

line_again_in : {A : Type 0} (P : A → Words → Type 0) (read : Words → Read A) → ((ws : Words) → Reads (λ x. P x ws) (read ws)) → (n : ℕ) (x : A) (ls : Lines) (rest : List ℕ) → OneLine (λ x ws. P x ws × IsLine ws) x ls → line_at read (n, concat ls ++ rest) ≡ Ok (x, (n + length ls, rest))
unfolding line_at
line_again_in P read law n x ls rest s =
    let ws = s.0 in
    let l : IsLine ws = s.1.1 in
    let text : concat ls ++ rest ≡ join_with_byte 32 ws ++ 10 ∷ rest = ap (λ t. concat t ++ rest) s.2 ∙ ap (λ t. t ++ rest) (line_is ws l) ∙ append_assoc (join_with_byte 32 ws) (10 ∷ []) rest in
    let d = due_again n (join_with_byte 32 ws) rest (no_feeds ws l.words) l.short in
    let r = (law ws).again x s.1.0 in
    let count : n + 1 ≡ n + length ls = ap (λ t. n + length t) (sym s.2) in
    ap (λ t. line_at read (n, t)) text ∙ rw (d, words_join ws l.some l.words, r, count) refl

pub inverts_line_in : {A : Type 0} (Next : List ℕ → Type 0) (P : A → Words → Type 0) (read : Words → Read A) → ((ws : Words) → Reads (λ x. P x ws) (read ws)) → Inverts Next (OneLine (λ x ws. P x ws × IsLine ws)) (line_at read)
inverts_line_in {A} Next P read law = record {
  takes = line_takes_in P read law;
  again = λ n x ls rest s _. line_again_in P read law n x ls rest s;
  short = line_short (λ (x : A) ws. P x ws × IsLine ws) read (λ x ws p. p.1);
  stops = λ n x ls more s _. inl (line_again_in P read law n x ls more s);
  feeds = line_feeds (λ (x : A) ws. P x ws × IsLine ws) (λ x ws p. p.1);
}

-- ---- steps in a row

-- first what stands for x, and then what stands for y behind it
abbrev pub Then : {A B : Type 0} → (A → Lines → Type 0) → (A → B → Lines → Type 0) → B → Lines → Type 0
Then {A} S T y ls = (x : A) × (first : Lines) × (last : Lines) × S x first × T x y last × (ls ≡ first ++ last)

-- how lines behind another part begin, where that part asks for it
pub record Opens (Next₁ Next : List ℕ → Type 0) (ls : Lines) : Type 0 where
  pub whole : (rest : List ℕ) → Next rest → Next₁ (concat ls ++ rest)
  pub part : (more back : List ℕ) → concat ls ≡ more ++ back → 0 < length back → Next₁ more ⊎ IsPartial more
  pub ended : (more : List ℕ) → IsPartial more → Next₁ (concat ls ++ more) ⊎ (ls ≡ [])

pub opens_anything : (Next : List ℕ → Type 0) (ls : Lines) → Opens Anything Next ls
opens_anything Next ls = record { whole = λ rest _. tt; part = λ more back _ _. inl tt; ended = λ more _. inl tt }

then_takes : {A B : Type 0} (Next₁ Next : List ℕ → Type 0) (S : A → Lines → Type 0) (T : A → B → Lines → Type 0) (read : Reader A) (next : A → Reader B) → Inverts Next₁ S read → ((x : A) (ls : Lines) → S x ls → Inverts Next (T x) (next x)) → (n m : ℕ) (text rest : List ℕ) (y : B) → (read (n, text) >>= λ x. next x.0 x.1) ≡ Ok (y, (m, rest)) → (ls : Lines) × Then S T y ls × (text ≡ concat ls ++ rest) × (m ≡ n + length ls)
then_takes Next₁ Next S T read next f g n m text rest y e =
    let a = bind_is (read (n, text)) (λ x. next x.0 x.1) (y, (m, rest)) e in
    let p = f.takes n a.0.1.0 text a.0.1.1 a.0.0 a.1 in
    let q = (g a.0.0 p.0 p.1).takes a.0.1.0 m a.0.1.1 rest y a.2 in (
      p.0 ++ q.0,
      (a.0.0, p.0, q.0, p.1, q.1, refl),
      p.2 ∙ ap (λ t. concat p.0 ++ t) q.2 ∙ sym (append_assoc (concat p.0) (concat q.0) rest) ∙ ap (λ t. t ++ rest) (sym (concat-append p.0 q.0)),
      omega (arith, p.3, q.3, length-append p.0 q.0),
    )

then_again : {A B : Type 0} (Next₁ Next : List ℕ → Type 0) (S : A → Lines → Type 0) (T : A → B → Lines → Type 0) (read : Reader A) (next : A → Reader B) → Inverts Next₁ S read → ((x : A) (ls : Lines) → S x ls → Inverts Next (T x) (next x)) → ((x : A) (y : B) (last : Lines) → T x y last → Opens Next₁ Next last) → (n : ℕ) (y : B) (ls : Lines) (rest : List ℕ) → Then S T y ls → Next rest → (read (n, concat ls ++ rest) >>= λ x. next x.0 x.1) ≡ Ok (y, (n + length ls, rest))
then_again Next₁ Next S T read next f g o n y ls rest (x, first, last, s, t, e) goes =
    let text : concat ls ++ rest ≡ concat first ++ (concat last ++ rest) = ap (λ l. concat l ++ rest) e ∙ ap (λ l. l ++ rest) (concat-append first last) ∙ append_assoc (concat first) (concat last) rest in
    let count : (n + length first) + length last ≡ n + length ls = omega (arith, ap length e, length-append first last) in
    ap (λ l. read (n, l) >>= λ x. next x.0 x.1) text
    ∙ ap (λ r. r >>= λ x. next x.0 x.1) (f.again n x first (concat last ++ rest) s ((o x y last t).whole rest goes))
    ∙ (g x first s).again (n + length first) y last rest t goes
    ∙ ap (λ k. Ok (y, (k, rest))) count

-- where a text is cut in two, the cut is in its first part or behind it
pub record CutFirst (a front back : List ℕ) : Type 0 where
  pub more : List ℕ
  pub is : a ≡ front ++ more
  pub some : 0 < length more

pub record CutLast (a b front back : List ℕ) : Type 0 where
  pub more : List ℕ
  pub is : front ≡ a ++ more
  pub rest : b ≡ more ++ back

pub cut : (a b front back : List ℕ) → a ++ b ≡ front ++ back → CutFirst a front back ⊎ CutLast a b front back
cut [] b front back e = inr (record { more = front; is = refl; rest = e })
cut (x ∷ a) b [] back e = inl (record { more = x ∷ a; is = refl; some = omega arith })
cut (x ∷ a) b (y ∷ front) back e =
    let same : x ≡ y = cc in
    elim (cut a b front back (cc)) [
      | inl c ↦ inl (record { more = c.more; is = ap (λ t. x ∷ t) c.is ∙ ap (λ z. z ∷ (front ++ c.more)) same; some = c.some })
      | inr c ↦ inr (record { more = c.more; is = ap (λ t. y ∷ t) c.is ∙ ap (λ z. z ∷ (a ++ c.more)) (sym same); rest = c.rest })
    ]

then_short : {A B : Type 0} (Next₁ Next : List ℕ → Type 0) (S : A → Lines → Type 0) (T : A → B → Lines → Type 0) (read : Reader A) (next : A → Reader B) → Inverts Next₁ S read → ((x : A) (ls : Lines) → S x ls → Inverts Next (T x) (next x)) → ((x : A) (y : B) (last : Lines) → T x y last → Opens Next₁ Next last) → (n : ℕ) (y : B) (ls : Lines) (front back : List ℕ) → Then S T y ls → concat ls ≡ front ++ back → 0 < length back → (read (n, front) >>= λ x. next x.0 x.1) ≡ fault (n + feed_count front) Truncated
then_short Next₁ Next S T read next f g o n y ls front back (x, first, last, s, t, e) whole some =
    let parts : concat first ++ concat last ≡ front ++ back = sym (concat-append first last) ∙ sym (ap concat e) ∙ whole in
    elim (cut (concat first) (concat last) front back parts) [
      | inl c ↦ ap (λ r. r >>= λ x. next x.0 x.1) (f.short n x first front c.more s c.is c.some)
      | inr c ↦
          let count : (n + length first) + feed_count c.more ≡ n + feed_count front = omega (arith, f.feeds x first s, ap feed_count c.is, feed_count-append (concat first) c.more) in
          let second : next x (n + length first, c.more) ≡ fault (n + feed_count front) Truncated = (g x first s).short (n + length first) y last c.more back t c.rest some ∙ ap (λ k. fault k Truncated) count in
          ap (λ l. read (n, l) >>= λ x. next x.0 x.1) c.is
          ∙ elim ((o x y last t).part c.more back c.rest some) [
            | inl goes ↦ ap (λ r. r >>= λ x. next x.0 x.1) (f.again n x first c.more s goes) ∙ second
            | inr partial ↦ elim (f.stops n x first c.more s partial) [
              | inl e ↦ ap (λ r. r >>= λ x. next x.0 x.1) e ∙ second
              | inr e ↦ ap (λ r. r >>= λ x. next x.0 x.1) e ∙ ap (λ k. fault k Truncated) (omega (arith, count, feed_count-none c.more partial.clean))
            ]
          ]
    ]

then_stops : {A B : Type 0} (Next₁ Next : List ℕ → Type 0) (S : A → Lines → Type 0) (T : A → B → Lines → Type 0) (read : Reader A) (next : A → Reader B) → Inverts Next₁ S read → ((x : A) (ls : Lines) → S x ls → Inverts Next (T x) (next x)) → ((x : A) (y : B) (last : Lines) → T x y last → Opens Next₁ Next last) → (n : ℕ) (y : B) (ls : Lines) (more : List ℕ) → Then S T y ls → IsPartial more → ((read (n, concat ls ++ more) >>= λ x. next x.0 x.1) ≡ Ok (y, (n + length ls, more))) ⊎ ((read (n, concat ls ++ more) >>= λ x. next x.0 x.1) ≡ fault (n + length ls) Truncated)
then_stops {A} {B} Next₁ Next S T read next f g o n y ls more (x, first, last, s, t, e) partial =
    let text : concat ls ++ more ≡ concat first ++ (concat last ++ more) = ap (λ l. concat l ++ more) e ∙ ap (λ l. l ++ more) (concat-append first last) ∙ append_assoc (concat first) (concat last) more in
    let count : (n + length first) + length last ≡ n + length ls = omega (arith, ap length e, length-append first last) in
    let begun : (read (n, concat ls ++ more) >>= λ x. next x.0 x.1) ≡ (read (n, concat first ++ (concat last ++ more)) >>= λ x. next x.0 x.1) = ap (λ l. read (n, l) >>= λ x. next x.0 x.1) text in
    elim ((o x y last t).ended more partial) [
      | inl goes ↦ behind begun count (ap (λ r. r >>= λ x. next x.0 x.1) (f.again n x first (concat last ++ more) s goes))
      | inr none ↦
          let bare : concat last ++ more ≡ more = ap (λ l. concat l ++ more) none in
          elim (f.stops n x first more s partial) [
            | inl e ↦ behind begun count (ap (λ l. read (n, concat first ++ l) >>= λ x. next x.0 x.1) bare ∙ ap (λ r. r >>= λ x. next x.0 x.1) e ∙ ap (λ l. next x (n + length first, l)) (sym bare))
            | inr e ↦ inr (begun ∙ ap (λ l. read (n, concat first ++ l) >>= λ x. next x.0 x.1) bare ∙ ap (λ r. r >>= λ x. next x.0 x.1) e ∙ ap (λ k. fault k Truncated) (omega (arith, count, ap length none)))
          ]
    ]
  where
    behind : {r q : Result (B × Cursor) TextError} → r ≡ q → (n + length first) + length last ≡ n + length ls → q ≡ next x (n + length first, concat last ++ more) → (r ≡ Ok (y, (n + length ls, more))) ⊎ (r ≡ fault (n + length ls) Truncated)
    behind a count b =
        elim ((g x first s).stops (n + length first) y last more t partial) [
          | inl e ↦ inl (a ∙ b ∙ e ∙ ap (λ k. Ok (y, (k, more))) count)
          | inr e ↦ inr (a ∙ b ∙ e ∙ ap (λ k. fault k Truncated) count)
        ]

then_feeds : {A B : Type 0} (Next₁ Next : List ℕ → Type 0) (S : A → Lines → Type 0) (T : A → B → Lines → Type 0) (read : Reader A) (next : A → Reader B) → Inverts Next₁ S read → ((x : A) (ls : Lines) → S x ls → Inverts Next (T x) (next x)) → (y : B) (ls : Lines) → Then S T y ls → feed_count (concat ls) ≡ length ls
then_feeds Next₁ Next S T read next f g y ls (x, first, last, s, t, e) =
    omega (arith, ap length e, length-append first last, f.feeds x first s, (g x first s).feeds y last t, ap (λ l. feed_count (concat l)) e, ap feed_count (concat-append first last), feed_count-append (concat first) (concat last))

pub inverts_then : {A B : Type 0} (Next₁ Next : List ℕ → Type 0) (S : A → Lines → Type 0) (T : A → B → Lines → Type 0) (read : Reader A) (next : A → Reader B) → Inverts Next₁ S read → ((x : A) (ls : Lines) → S x ls → Inverts Next (T x) (next x)) → ((x : A) (y : B) (last : Lines) → T x y last → Opens Next₁ Next last) → Inverts Next (Then S T) (λ c. read c >>= λ x. next x.0 x.1)
inverts_then Next₁ Next S T read next f g o = record { takes = then_takes Next₁ Next S T read next f g; again = then_again Next₁ Next S T read next f g o; short = then_short Next₁ Next S T read next f g o; stops = then_stops Next₁ Next S T read next f g o; feeds = then_feeds Next₁ Next S T read next f g }

-- where the first part asks for nothing
pub inverts_pass : {A B : Type 0} {Next : List ℕ → Type 0} {S : A → Lines → Type 0} {T : A → B → Lines → Type 0} {read : Reader A} {next : A → Reader B} → Inverts Anything S read → ((x : A) (ls : Lines) → S x ls → Inverts Next (T x) (next x)) → Inverts Next (Then S T) (λ c. read c >>= λ x. next x.0 x.1)
inverts_pass {A} {B} {Next} {S} {T} {read} {next} f g = inverts_then Anything Next S T read next f g (λ x y last t. opens_anything Next last)

-- nothing more is read
abbrev pub Done : {A : Type 0} → A → A → Lines → Type 0
Done v y ls = (v ≡ y) × (ls ≡ [])

pub inverts_done : {A : Type 0} (Next : List ℕ → Type 0) (v : A) → Inverts Next (Done v) (λ c. Ok (v, c))
inverts_done Next v = record {
  takes = λ n m text rest x e. let p = ok_is (v, (n, text)) (x, (m, rest)) e in ([], (ap (λ y. y.0) p, refl), ap (λ y. y.1.1) p, omega (arith, ap (λ y. y.1.0) p));
  again = λ n x ls rest s _. rw (← s.0, s.1) (ap (λ k. Ok (v, (k, rest))) (omega arith));
  short = λ n x ls front back s e some. absurd (omega (arith, length-append front back, ap length e, ap (λ l. length (concat l)) s.1));
  stops = λ n x ls more s _. inl (rw (← s.0, s.1) (ap (λ k. Ok (v, (k, more))) (omega arith)));
  feeds = λ x ls s. rw (s.1) refl;
}

-- ---- the same in other words

pub inverts_so : {A : Type 0} {Next : List ℕ → Type 0} {S : A → Lines → Type 0} {read : Reader A} → Inverts Next S read → (T : A → Lines → Type 0) → ((x : A) (ls : Lines) → S x ls → T x ls) → ((x : A) (ls : Lines) → T x ls → S x ls) → Inverts Next T read
inverts_so h T f g = record {
  takes = λ n m text rest x e. let t = h.takes n m text rest x e in (t.0, f x t.0 t.1, t.2, t.3);
  again = λ n x ls rest s goes. h.again n x ls rest (g x ls s) goes;
  short = λ n x ls front back s e some. h.short n x ls front back (g x ls s) e some;
  stops = λ n x ls more s partial. h.stops n x ls more (g x ls s) partial;
  feeds = λ x ls s. h.feeds x ls (g x ls s);
}

-- a law for a text that goes on anyhow serves each
pub inverts_anyhow : {A : Type 0} {S : A → Lines → Type 0} {read : Reader A} → Inverts Anything S read → (Next : List ℕ → Type 0) → Inverts Next S read
inverts_anyhow h Next = record { takes = h.takes; again = λ n x ls rest s _. h.again n x ls rest s tt; short = h.short; stops = h.stops; feeds = h.feeds }
