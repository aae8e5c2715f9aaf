-- What each line of the head says, both ways.
use Rattle.std.proofs.Common.{◌≡◌, ◌≢◌, ℕ, zero, suc, ◌+◌, ◌-◌, ◌^◌, ◌<◌, ◌≤◌, Bool, true, false, cond, not, ◌&&◌, ◌||◌, List, [], ◌∷◌, length, map, Ok, Err, Option, Some, None, refl, sym, ap, subst, ◌∙◌, arith}
use Rattle.std.specs.Prelude.{ℤ, pos, negsuc, nat_lt, nat_le, unsigned_abs, codes, count_ones, bit_or, ◌==◌}
use Rattle.std.specs.List.{AllByRecursion, list_any}
use Rattle.std.specs.Ordering.{int_eq}
use Rattle.std.specs.Str.{bytes_eq}
use Rattle.std.specs.Fmt.{decimal, signed_decimal}
use Rattle.std.specs.Bool.{Decides}
use Rattle.std.proofs.lemmas.Fmt.{decimal_digit}
use Rattle.std.proofs.lemmas.Bool.Decides.{Decides-and, Decides-int_eq, Decides-eqb, Decides-not, not_from_Decides}
use Rattle.std.proofs.lemmas.Slice.Eq.{bytes_eq-Decides}
use Rattle.std.proofs.lemmas.Bool.{leb-true, ltb-true, le-leb, lt-ltb}
use Rattle.lift_model.specs.declared.kind.Kind.{Kind}
use Rattle.lift_model.specs.declared.kind.Kind.TheVariants.{Dtmc, Mdp}
use Rattle.line_text.specs.declared.error.TextCause.{TextCause}
use Rattle.line_text.specs.declared.error.TextCause.TheVariants.{Syntax, Version, Limit}
use Rattle.cert_text.specs.Report.{kind_name, kind_words, version_words, numbers_words, parameters_words, goal_words, goal_states, row_words}
use Rattle.lift_bytes.specs.Bytes.{is_name}
use Rattle.line_text.specs.Words.{number_of}
use Rattle.line_text.specs.Parts.{Words, Read, must, first, count_of, counted, natural, is_above}
use Rattle.cert_text.specs.Lines.{version_in, version_of, kind_of, name_of, names_in, parameters_of, goals_in, flags, goal_of, row_of, terms_in}
use Rattle.cert_text.proofs.Steps.{Reads, Both, ok_is, reads_ok, reads_must, reads_spelled, reads_first, reads_single, reads_so, reads_pass, reads_test}
use Rattle.cert_text.proofs.Decimals.{number_back, number_again}
use Rattle.cert_text.proofs.Fields.{Writes, IsSmall, reads_keyed, reads_each, reads_numbers, reads_one, reads_between, numbers_back, numbers_again}

-- ---- version and kind

pub decides_must : {X : Type 0} (b : Bool) (cause : TextCause) → Decides b X → Reads (λ _. X) (must b cause)
decides_must {X} b cause d = reads_must X b cause d.0 d.1

-- the number of a version
abbrev version_is : ℤ → Bool → Type 0
version_is z true = z ≡ pos 2
version_is z false = z ≡ pos 1

version_by : (z : ℤ) (a b : Bool) → Decides a (z ≡ pos 1) → Decides b (z ≡ pos 2) → Reads (version_is z) (cond a (Ok false) (cond b (Ok true) (Err Version)))
version_by z true b d e = record { takes = λ k is. subst (version_is z) (ok_is false k is) (d.0 refl); again = λ k is. again k is }
  where
    again : (k : Bool) → version_is z k → ◌≡◌ {A = Read Bool} (Ok false) (Ok k)
    again false is = refl
    again true is = let no : pos 1 ≡ pos 2 = sym (d.0 refl) ∙ is in absurd (cc)
version_by z false true d e = record { takes = λ k is. subst (version_is z) (ok_is true k is) (e.0 refl); again = λ k is. again k is }
  where
    again : (k : Bool) → version_is z k → ◌≡◌ {A = Read Bool} (Ok true) (Ok k)
    again false is = let no : pos 2 ≡ pos 1 = sym (e.0 refl) ∙ is in absurd (cc)
    again true is = refl
version_by z false false d e = record { takes = λ k is. absurd cc; again = λ k is. again k is }
  where
    again : (k : Bool) → version_is z k → ◌≡◌ {A = Read Bool} (Err Version) (Ok k)
    again false is = let y = d.1 is in absurd (cc)
    again true is = let y = e.1 is in absurd (cc)

version_small : (z : ℤ) (k : Bool) → version_is z k → IsSmall z
version_small z true is = subst IsSmall (sym is) (omega arith)
version_small z false is = subst IsSmall (sym is) (omega arith)

version_reported : (ws : Words) (z : ℤ) (k : Bool) → ws ≡ numbers_words (codes "plift") (z ∷ []) → version_is z k → ws ≡ version_words k
version_reported ws z true is k = is ∙ ap (λ y. numbers_words (codes "plift") (y ∷ [])) k ∙ ap (λ t. codes "plift" ∷ t ∷ []) (decimal_digit 2 (omega arith))
version_reported ws z false is k = is ∙ ap (λ y. numbers_words (codes "plift") (y ∷ [])) k ∙ ap (λ t. codes "plift" ∷ t ∷ []) (decimal_digit 1 (omega arith))

version_again : (ws : Words) (k : Bool) → ws ≡ version_words k → (z : ℤ) × (ws ≡ numbers_words (codes "plift") (z ∷ [])) × version_is z k
version_again ws true is = (pos 2, is ∙ ap (λ t. codes "plift" ∷ t ∷ []) (sym (decimal_digit 2 (omega arith))), refl)
version_again ws false is = (pos 1, is ∙ ap (λ t. codes "plift" ∷ t ∷ []) (sym (decimal_digit 1 (omega arith))), refl)

pub reads_version : (ws : Words) → Reads (λ second. ws ≡ version_words second) (version_of ws)
reads_version ws =
    reads_so (reads_one (codes "plift") ws version_in (λ z k q. version_small z k q) (λ z. version_by z (int_eq z (pos 1)) (int_eq z (pos 2)) (Decides-int_eq z (pos 1)) (Decides-int_eq z (pos 2)))) (λ second. ws ≡ version_words second)
    (λ second (z, is, one). version_reported ws z second is one)
    (λ second is. version_again ws second is)

kind_by : (w : List ℕ) (a b : Bool) → Decides a (w ≡ codes "dtmc") → Decides b (w ≡ codes "mdp") → Reads (λ kind. w ≡ kind_name kind) (cond a (Ok Dtmc) (cond b (Ok Mdp) (Err Syntax)))
kind_by w true b d e = record { takes = λ k is. d.0 refl ∙ ap kind_name (ok_is Dtmc k is); again = λ k is. again k is }
  where
    again : (k : Kind) → w ≡ kind_name k → ◌≡◌ {A = Read Kind} (Ok Dtmc) (Ok k)
    again Dtmc is = refl
    again Mdp is = let no : codes "dtmc" ≡ codes "mdp" = sym (d.0 refl) ∙ is in absurd (cc)
kind_by w false true d e = record { takes = λ k is. e.0 refl ∙ ap kind_name (ok_is Mdp k is); again = λ k is. again k is }
  where
    again : (k : Kind) → w ≡ kind_name k → ◌≡◌ {A = Read Kind} (Ok Mdp) (Ok k)
    again Dtmc is = let no : codes "mdp" ≡ codes "dtmc" = sym (e.0 refl) ∙ is in absurd (cc)
    again Mdp is = refl
kind_by w false false d e = record { takes = λ k is. absurd cc; again = λ k is. again k is }
  where
    again : (k : Kind) → w ≡ kind_name k → ◌≡◌ {A = Read Kind} (Err Syntax) (Ok k)
    again Dtmc is = let y = d.1 is in absurd (cc)
    again Mdp is = let y = e.1 is in absurd (cc)

pub reads_kind : (ws : Words) → Reads (λ kind. ws ≡ kind_words kind) (kind_of ws)
reads_kind ws =
    reads_so (reads_pass (reads_pass (reads_keyed (codes "kind") ws) (λ rest _. reads_single rest)) (λ w _. kind_by w (bytes_eq w (codes "dtmc")) (bytes_eq w (codes "mdp")) (bytes_eq-Decides w (codes "dtmc")) (bytes_eq-Decides w (codes "mdp")))) (λ kind. ws ≡ kind_words kind)
    (λ kind (w, (rest, is, one), name). is ∙ ap (λ t. codes "kind" ∷ t) one ∙ ap (λ t. codes "kind" ∷ t ∷ []) name)
    (λ kind is. (kind_name kind, (kind_name kind ∷ [], is, refl), refl))

-- ---- a counted line

-- the word of the count, and the words behind it
pub record IsCounted {A : Type 0} (key : List ℕ) (of : List ℕ → Option A) (ws : Words) (xs : List A) : Type 0 where
  pub count : List ℕ
  pub rest : Words
  pub is : ws ≡ key ∷ count ∷ rest
  pub number : number_of count ≡ Some (pos (length xs))
  pub writes : Writes of rest xs

reads_count : (key : List ℕ) (ws : Words) → Reads (λ p. (count : List ℕ) × (ws ≡ key ∷ count ∷ p.1) × (number_of count ≡ Some p.0)) (count_of key ws)
reads_count key ws =
    reads_so (reads_pass (reads_keyed key ws) (λ rest _. reads_pass (reads_first rest) (λ parts _. reads_pass (reads_spelled (number_of parts.0)) (λ count _. reads_ok (count, parts.1)))))
    (λ p. (count : List ℕ) × (ws ≡ key ∷ count ∷ p.1) × (number_of count ≡ Some p.0))
    (λ p (rest, is, (parts, parted, (count, number, same))).
    (parts.0, is ∙ ap (λ t. key ∷ t) parted ∙ ap (λ (q : ℤ × Words). key ∷ parts.0 ∷ q.1) same, number ∙ ap (λ (q : ℤ × Words). Some q.0) same))
    (λ p (count, is, number). (count ∷ p.1, is, ((count, p.1), refl, (p.0, number, refl))))

pub reads_counted : {A : Type 0} (key : List ℕ) (of : List ℕ → Option A) (ws : Words) → Reads (IsCounted key of ws) (counted key of ws)
reads_counted {A} key of ws =
    reads_so (reads_pass (reads_count key ws) (λ parts _. reads_pass (reads_each of parts.1) (λ xs _. reads_test (int_eq parts.0 (pos (length xs))) Syntax (Decides-int_eq parts.0 (pos (length xs))) (λ _. reads_ok xs)))) (IsCounted key of ws)
    (λ xs (parts, (count, is, number), (ys, writes, (same, ends))).
    record { count = count; rest = parts.1; is = is; number = number ∙ ap (λ z. Some z) same ∙ ap (λ y. Some (pos (length y))) ends; writes = subst (λ y. Writes of parts.1 y) ends writes })
    (λ xs c. ((pos (length xs), c.rest), (c.count, c.is, c.number), (xs, c.writes, (refl, refl))))

-- ---- parameters

abbrev pub Fresh : {A : Type 0} → A → List A → Type 0
Fresh x before = AllByRecursion (λ b. x ≢ b) before

pub decides_fresh : {A : Type 0} (same : A → A → Bool) → ((a b : A) → Decides (same a b) (a ≡ b)) → (x : A) (before : List A) → Decides (not (list_any (same x) before)) (Fresh x before)
decides_fresh same d x [] = (λ _. tt, λ _. refl)
decides_fresh same d x (b ∷ before) = by_first (same x b) (list_any (same x) before) (d x b) (decides_fresh same d x before)
  where
    by_first : {P Q : Type 0} (t u : Bool) → Decides t P → Decides (not u) Q → Decides (not (t || u)) ((P → ⊥) × Q)
    by_first true u d e = (λ no. absurd (cc), λ p. absurd (p.0 (d.0 refl)))
    by_first false u d e = (λ yes. (λ p. let f = d.1 p in absurd (cc), e.0 yes), λ p. e.1 p.1)

-- the names differ from those before them and aren't long
abbrev pub Named : Words → Words → Type 0
Named before [] = Unit {0}
Named before (name ∷ names) = Fresh name before × (length name ≤ 64) × Named (name ∷ before) names

pub reads_names : (before names : Words) → Reads (λ _. Named before names) (names_in before names)
reads_names before [] = record { takes = λ _ _. tt; again = λ u _. refl }
reads_names before (name ∷ names) =
    reads_so (reads_test (not (list_any (bytes_eq name) before)) Syntax (decides_fresh bytes_eq bytes_eq-Decides name before) (λ _. reads_test (nat_le (length name) 64) Limit (leb-true (length name) 64, le-leb (length name) 64) (λ _. reads_names (name ∷ before) names))) (λ _. Named before (name ∷ names))
    (λ _ (a, (b, c)). (a, b, c)) (λ _ (a, b, c). (a, (b, c)))

pub record AreDeclared (names : Words) : Type 0 where
  pub few : length names ≤ 16
  pub forms : AllByRecursion (λ n. is_name n ≡ true) names
  pub named : Named [] names

name_is : (w n : List ℕ) → name_of w ≡ Some n → (w ≡ n) × (is_name n ≡ true)
name_is w n e = by_test (is_name w) refl e
  where
    by_test : (b : Bool) → is_name w ≡ b → cond b (Some w) None ≡ Some n → (w ≡ n) × (is_name n ≡ true)
    by_test true t e = let same : w ≡ n = cc in (same, ap is_name (sym same) ∙ t)
    by_test false t e = absurd cc

names_back : (ws names : Words) → Writes name_of ws names → (ws ≡ names) × AllByRecursion (λ n. is_name n ≡ true) names
names_back [] [] h = (refl, tt)
names_back [] (n ∷ names) h = absurd h
names_back (w ∷ ws) [] h = absurd h
names_back (w ∷ ws) (n ∷ names) h = let f = name_is w n h.0 in let g = names_back ws names h.1 in (ap (λ t. t ∷ ws) f.0 ∙ ap (λ t. n ∷ t) g.0, (f.1, g.1))

names_again : (names : Words) → AllByRecursion (λ n. is_name n ≡ true) names → Writes name_of names names
names_again [] h = tt
names_again (n ∷ names) h = (rw h.0 refl, names_again names h.1)

pub reads_parameters : (ws : Words) → Reads (λ names. (ws ≡ parameters_words names) × AreDeclared names) (parameters_of ws)
reads_parameters ws =
    reads_so (reads_pass (reads_counted (codes "parameters") name_of ws) (λ names _. reads_test (nat_le (length names) 16) Limit (leb-true (length names) 16, le-leb (length names) 16) (λ _. reads_pass (reads_names [] names) (λ _ _. reads_ok names)))) (λ names. (ws ≡ parameters_words names) × AreDeclared names)
    (λ names (ns, c, (few, (_, named, same))).
    let b = names_back c.rest ns c.writes in
    let number : decimal (length ns) ≡ c.count = number_back c.count (pos (length ns)) c.number (omega (arith, few)) in
    subst (λ y. (ws ≡ parameters_words y) × AreDeclared y) same
    (c.is ∙ ap (λ t. codes "parameters" ∷ t ∷ c.rest) (sym number) ∙ ap (λ t. codes "parameters" ∷ decimal (length ns) ∷ t) b.0, record { few = few; forms = b.1; named = named }))
    (λ names (is, d). (names, record { count = decimal (length names); rest = names; is = is; number = number_again (pos (length names)) (few_small names d.few); writes = names_again names d.forms }, (d.few, (tt, d.named, refl))))
  where
    few_small : (names : Words) → length names ≤ 16 → IsSmall (pos (length names))
    few_small names h = omega (arith, h)

-- ---- goal states

-- ascending states from the least on
abbrev pub Ascending : ℕ → ℕ → List ℕ → Type 0
Ascending states least [] = Unit {0}
Ascending states least (s ∷ ss) = (least ≤ s) × (s < states) × Ascending states (s + 1) ss

abbrev pub behind : Option ℕ → ℕ
behind None = 0
behind (Some n) = n + 1

above_is : (before : Option ℕ) (s : ℕ) → Decides (is_above before (pos s)) (behind before ≤ s)
above_is None s = (λ _. omega arith, λ _. refl)
above_is (Some n) s = (λ e. omega (arith, ltb-true n s e), λ h. lt-ltb n s (omega arith))

pub reads_goals : (states : ℕ) (before : Option ℕ) (zs : List ℤ) → Reads (λ ss. (zs ≡ map pos ss) × Ascending states (behind before) ss) (goals_in states before zs)
reads_goals states before [] = record { takes = λ ss e. subst (λ y. ([] ≡ map pos y) × Ascending states (behind before) y) (ok_is [] ss e) (refl, tt); again = λ ss t. nothing ss t.0 }
  where
    nothing : (ss : List ℕ) → [] ≡ map pos ss → ◌≡◌ {A = Read (List ℕ)} (Ok []) (Ok ss)
    nothing [] e = refl
    nothing (s ∷ ss) e = absurd cc
reads_goals states before (z ∷ zs) =
    reads_so (reads_test (is_above before z) Syntax (λ e. e, λ e. e) (λ _. reads_pass (reads_between 0 states z) (λ s _. reads_pass (reads_goals states (Some s) zs) (λ ss _. reads_ok (s ∷ ss))))) (λ ss. (z ∷ zs ≡ map pos ss) × Ascending states (behind before) ss)
    (λ ss (above, (s, (is, low, high), (rest, (more, asc), same))).
    subst (λ y. (z ∷ zs ≡ map pos y) × Ascending states (behind before) y) same
    (ap (λ y. y ∷ zs) is ∙ ap (λ y. pos s ∷ y) more, ((above_is before s).0 (ap (is_above before) (sym is) ∙ above), high, asc)))
    (λ ss (is, asc). back ss is asc)
  where
    back : (ss : List ℕ) → z ∷ zs ≡ map pos ss → Ascending states (behind before) ss → (is_above before z ≡ true) × Both (λ (s : ℕ). (z ≡ pos s) × (0 ≤ s) × (s < states)) (λ s. Both (λ (rest : List ℕ). (zs ≡ map pos rest) × Ascending states (behind (Some s)) rest) (λ rest y. s ∷ rest ≡ y)) ss
    back [] is asc = absurd cc
    back (s ∷ ss) is asc = let first : z ≡ pos s = cc in (ap (is_above before) first ∙ (above_is before s).1 asc.0, (s, (first, omega arith, asc.1), (ss, (cc, asc.2), refl)))

pub asc_len : (states least : ℕ) (ss : List ℕ) → Ascending states least ss → least ≤ states → length ss + least ≤ states
asc_len states least [] asc h = omega arith
asc_len states least (s ∷ ss) asc h = omega (arith, asc.0, asc.1, asc_len states (s + 1) ss asc.2 (omega (arith, asc.1)))

asc_small : (states least : ℕ) (ss : List ℕ) → states ≤ 10 ^ 64 → Ascending states least ss → AllByRecursion IsSmall (map pos ss)
asc_small states least [] h asc = tt
asc_small states least (s ∷ ss) h asc = (omega (arith, asc.1), asc_small states (s + 1) ss h asc.2)

pub map_decimal : (ss : List ℕ) → map signed_decimal (map pos ss) ≡ map decimal ss
map_decimal [] = refl
map_decimal (s ∷ ss) = ap (λ t. decimal s ∷ t) (map_decimal ss)

flags_len_by : (b : Bool) (left : ℕ) (xs ys : List Bool) → length xs ≡ left → length ys ≡ left → length (cond b (true ∷ xs) (false ∷ ys)) ≡ suc left
flags_len_by true left xs ys e f = ap suc e
flags_len_by false left xs ys e f = ap suc f

flags_len : (left s : ℕ) (ss : List ℕ) → length (flags left s ss) ≡ left
flags_len zero s ss = refl
flags_len (suc left) s [] = ap suc (flags_len left (s + 1) [])
flags_len (suc left) s (g ∷ gs) = flags_len_by (g == s) left (flags left (s + 1) gs) (flags left (s + 1) (g ∷ gs)) (flags_len left (s + 1) gs) (flags_len left (s + 1) (g ∷ gs))

flags_back_by : (s g : ℕ) (gs : List ℕ) (xs ys : List Bool) (b : Bool) → (b ≡ true → g ≡ s) → (g ≡ s → goal_states (s + 1) xs ≡ gs) → (b ≡ false → goal_states (s + 1) ys ≡ g ∷ gs) → goal_states s (cond b (true ∷ xs) (false ∷ ys)) ≡ g ∷ gs
flags_back_by s g gs xs ys true d e f = let same = d refl in ap (λ t. s ∷ t) (e same) ∙ ap (λ y. y ∷ gs) (sym same)
flags_back_by s g gs xs ys false d e f = f refl

flags_back : (states left s : ℕ) (ss : List ℕ) → s + left ≡ states → Ascending states s ss → goal_states s (flags left s ss) ≡ ss
flags_back states zero s [] e asc = refl
flags_back states zero s (g ∷ gs) e asc = absurd (omega (arith, e, asc.0, asc.1))
flags_back states (suc left) s [] e asc = flags_back states left (s + 1) [] (omega (arith, e)) tt
flags_back states (suc left) s (g ∷ gs) e asc =
    let more : s + 1 + left ≡ states = omega (arith, e) in
    flags_back_by s g gs (flags left (s + 1) gs) (flags left (s + 1) (g ∷ gs)) (g == s) (Decides-eqb g s).0
    (λ same. flags_back states left (s + 1) gs more (subst (λ y. Ascending states (y + 1) gs) same asc.2))
    (λ other. flags_back states left (s + 1) (g ∷ gs) more (grind (arith, asc.0, not_from_Decides (g == s) (Decides-eqb g s) other), asc.1, asc.2))

pub goal_asc : (states s : ℕ) (goal : List Bool) → s + length goal ≡ states → Ascending states s (goal_states s goal)
goal_asc states s [] e = tt
goal_asc states s (true ∷ goal) e = (omega arith, omega (arith, e), goal_asc states (s + 1) goal (omega (arith, e)))
goal_asc states s (false ∷ goal) e = less states s (goal_states (s + 1) goal) (goal_asc states (s + 1) goal (omega (arith, e)))
  where
    less : (states s : ℕ) (ss : List ℕ) → Ascending states (s + 1) ss → Ascending states s ss
    less states s [] asc = tt
    less states s (g ∷ gs) asc = (omega (arith, asc.0), asc.1, asc.2)

flags_skip : (states left s : ℕ) (gs : List ℕ) → Ascending states (s + 1) gs → flags (suc left) s gs ≡ false ∷ flags left (s + 1) gs
flags_skip states left s [] asc = refl
flags_skip states left s (g ∷ gs) asc = let other : (g == s) ≡ false = grind (arith, asc.0) in rw other refl

flags_again : (states s : ℕ) (goal : List Bool) → s + length goal ≡ states → flags (length goal) s (goal_states s goal) ≡ goal
flags_again states s [] e = refl
flags_again states s (true ∷ goal) e = rw ((Decides-eqb s s).1 refl) (ap (λ t. true ∷ t) (flags_again states (s + 1) goal (omega (arith, e))))
flags_again states s (false ∷ goal) e =
    flags_skip states (length goal) s (goal_states (s + 1) goal) (goal_asc states (s + 1) goal (omega (arith, e)))
    ∙ ap (λ t. false ∷ t) (flags_again states (s + 1) goal (omega (arith, e)))

-- for each state whether it is a goal state, and one is
pub record AreGoals (states : ℕ) (goal : List Bool) : Type 0 where
  pub size : length goal ≡ states
  pub some : 0 < length (goal_states 0 goal)

pub map_len : {A B : Type 0} (f : A → B) (xs : List A) → length (map f xs) ≡ length xs
map_len f [] = refl
map_len f (x ∷ xs) = ap suc (map_len f xs)

pub reads_goal : (states : ℕ) (ws : Words) → states ≤ 10 ^ 64 - 1 → Reads (λ goal. (ws ≡ goal_words goal) × AreGoals states goal) (goal_of states ws)
reads_goal states ws limit =
    reads_so (reads_pass (reads_counted (codes "goal") number_of ws) (λ zs _. reads_test (not (length zs == 0)) Syntax (Decides-not (length zs == 0) (Decides-eqb (length zs) 0)) (λ _. reads_pass (reads_goals states None zs) (λ ss _. reads_ok (flags states 0 ss))))) (λ goal. (ws ≡ goal_words goal) × AreGoals states goal)
    (λ goal (zs, c, (some, (ss, (is, asc), same))). subst (λ y. (ws ≡ goal_words y) × AreGoals states y) same (found zs ss c some is asc))
    (λ goal (is, g). written goal is g)
  where
    found : (zs : List ℤ) (ss : List ℕ) → IsCounted (codes "goal") number_of ws zs → (length zs ≡ 0 → ⊥) → zs ≡ map pos ss → Ascending states 0 ss → (ws ≡ goal_words (flags states 0 ss)) × AreGoals states (flags states 0 ss)
    found zs ss c some is asc =
        let back = flags_back states states 0 ss (omega arith) asc in
        let len : length zs ≡ length ss = ap length is ∙ map_len pos ss in
        let few : length ss + 0 ≤ states = asc_len states 0 ss asc (omega arith) in
        let count : decimal (length zs) ≡ c.count = number_back c.count (pos (length zs)) c.number (omega (arith, len, few, limit)) in
        let rest : c.rest ≡ map decimal ss = numbers_back c.rest (map pos ss) (subst (λ y. Writes number_of c.rest y) is c.writes) (asc_small states 0 ss (omega (arith, limit)) asc) ∙ map_decimal ss in (
          c.is ∙ ap (λ t. codes "goal" ∷ t ∷ c.rest) (sym count ∙ ap decimal len) ∙ ap (λ t. codes "goal" ∷ decimal (length ss) ∷ t) rest ∙ ap (λ t. codes "goal" ∷ decimal (length t) ∷ map decimal t) (sym back),
          record { size = flags_len states 0 ss; some = rw back (grind (arith, len, some)) },
        )

    written : (goal : List Bool) → ws ≡ goal_words goal → AreGoals states goal → Both (IsCounted (codes "goal") number_of ws) (λ zs y. (length zs ≡ 0 → ⊥) × Both (λ (ss : List ℕ). (zs ≡ map pos ss) × Ascending states (behind None) ss) (λ ss z. flags states 0 ss ≡ z) y) goal
    written goal is g =
        let ss = goal_states 0 goal in
        let asc : Ascending states 0 ss = goal_asc states 0 goal (omega (arith, g.size)) in
        let few : length ss + 0 ≤ states = asc_len states 0 ss asc (omega arith) in
        let len : length (map pos ss) ≡ length ss = map_len pos ss in (
          map pos ss,
          record { count = decimal (length ss); rest = map decimal ss; is = is; number = number_again (pos (length ss)) (omega (arith, few, limit)) ∙ ap (λ k. Some (pos k)) (sym len); writes = subst (λ t. Writes number_of t (map pos ss)) (map_decimal ss) (numbers_again (map pos ss) (asc_small states 0 ss (omega (arith, limit)) asc)) },
          (
            (λ none. omega (arith, none, len, g.some)),
            (ss, (refl, asc), ap (λ k. flags k 0 ss) (sym g.size) ∙ flags_again states 0 goal (omega (arith, g.size))),
          ),
        )

-- ---- rows and entries

-- the number of entries, where so many choices and transitions are left
abbrev pub IsRowLine : ℕ → ℕ → ℕ → ℕ → ℕ → Words → Type 0
IsRowLine s a choices transitions n ws = (ws ≡ row_words s a n) × (0 < choices) × (n ≤ transitions)

reads_natural : (z : ℤ) → Reads (λ n. z ≡ pos n) (natural z)
reads_natural (pos n) = record { takes = λ m e. ap pos (ok_is n m e); again = λ m e. cc }
reads_natural (negsuc n) = record { takes = λ m e. absurd cc; again = λ m e. absurd cc }

pub reads_row : (s a choices transitions : ℕ) (ws : Words) → s < 10 ^ 64 → a < 10 ^ 64 → transitions < 10 ^ 64 → Reads (λ n. IsRowLine s a choices transitions n ws) (row_of s a choices transitions ws)
reads_row s a choices transitions ws small_s small_a small_t =
    reads_so (reads_pass (reads_numbers (codes "row") ws) (λ zs _. reads_pass (reads_first zs) (λ state _. reads_pass (reads_first state.1) (λ choice _. reads_pass (reads_single choice.1) (λ count _.
    reads_test (int_eq state.0 (pos s) && int_eq choice.0 (pos a)) Syntax (Decides-and (int_eq state.0 (pos s)) (int_eq choice.0 (pos a)) (Decides-int_eq state.0 (pos s)) (Decides-int_eq choice.0 (pos a))) (λ _.
    reads_pass (reads_natural count) (λ n _.
    reads_test (nat_lt 0 choices && nat_le n transitions) Limit (Decides-and (nat_lt 0 choices) (nat_le n transitions) (ltb-true 0 choices, lt-ltb 0 choices) (leb-true n transitions, le-leb n transitions)) (λ _. reads_ok n))))))))
    (λ n. IsRowLine s a choices transitions n ws)
    (λ n (zs, (rest, is, writes), (state, first, (choice, second, (count, third, ((fs, fa), (m, fm, ((some, few), same))))))).
    let zs-are : zs ≡ pos s ∷ pos a ∷ pos m ∷ [] = first ∙ ap (λ t. state.0 ∷ t) second ∙ ap (λ t. state.0 ∷ choice.0 ∷ t) third ∙ ap (λ t. t ∷ choice.0 ∷ count ∷ []) fs ∙ ap (λ t. pos s ∷ t ∷ count ∷ []) fa ∙ ap (λ t. pos s ∷ pos a ∷ t ∷ []) fm in
    let rest-is : rest ≡ map signed_decimal (pos s ∷ pos a ∷ pos m ∷ []) = numbers_back rest (pos s ∷ pos a ∷ pos m ∷ []) (subst (λ t. Writes number_of rest t) zs-are writes) (small_s, (small_a, (omega (arith, few, small_t), tt))) in
    subst (λ y. IsRowLine s a choices transitions y ws) same (is ∙ ap (λ t. codes "row" ∷ t) rest-is, some, few))
    (λ n (is, some, few).
    let small_n : n < 10 ^ 64 = omega (arith, few, small_t) in (
      pos s ∷ pos a ∷ pos n ∷ [],
      (decimal s ∷ decimal a ∷ decimal n ∷ [], is, (number_again (pos s) small_s, (number_again (pos a) small_a, (number_again (pos n) small_n, tt)))),
      ((pos s, pos a ∷ pos n ∷ []), refl, ((pos a, pos n ∷ []), refl, (pos n, refl, ((refl, refl), (n, refl, ((some, few), refl)))))),
    ))

-- ascending sets of at most four declared parameters, and coefficients that are neither 0 nor large
abbrev pub AreTerms : ℕ → ℕ → ℕ → List (ℕ × ℤ) → Type 0
AreTerms parameters seen least [] = Unit {0}
AreTerms parameters seen least (term ∷ terms) = (least ≤ term.0) × (term.0 < 2 ^ parameters) × (count_ones (bit_or seen term.0) ≤ 4) × (term.1 ≢ pos 0) × (unsigned_abs term.1 < 2 ^ 100) × AreTerms parameters (bit_or seen term.0) (term.0 + 1) terms

abbrev pub signed_terms : List (ℕ × ℤ) → List (ℤ × ℤ)
signed_terms terms = map (λ term. (pos term.0, term.1)) terms

pub reads_terms : (parameters seen : ℕ) (before : Option ℕ) (zs : List (ℤ × ℤ)) → Reads (λ terms. (zs ≡ signed_terms terms) × AreTerms parameters seen (behind before) terms) (terms_in parameters seen before zs)
reads_terms parameters seen before [] = record { takes = λ ts e. subst (λ y. ([] ≡ signed_terms y) × AreTerms parameters seen (behind before) y) (ok_is [] ts e) (refl, tt); again = λ ts t. nothing ts t.0 }
  where
    nothing : (ts : List (ℕ × ℤ)) → [] ≡ signed_terms ts → ◌≡◌ {A = Read (List (ℕ × ℤ))} (Ok []) (Ok ts)
    nothing [] e = refl
    nothing (t ∷ ts) e = absurd cc
reads_terms parameters seen before (z ∷ zs) =
    reads_so (reads_test (is_above before z.0) Syntax (λ e. e, λ e. e) (λ _. reads_pass (reads_between 0 (2 ^ parameters) z.0) (λ set _.
    reads_test (nat_le (count_ones (bit_or seen set)) 4) Limit (leb-true (count_ones (bit_or seen set)) 4, le-leb (count_ones (bit_or seen set)) 4) (λ _.
    reads_test (not (int_eq z.1 (pos 0))) Syntax (Decides-not (int_eq z.1 (pos 0)) (Decides-int_eq z.1 (pos 0))) (λ _.
    reads_test (nat_lt (unsigned_abs z.1) (2 ^ 100)) Limit (ltb-true (unsigned_abs z.1) (2 ^ 100), lt-ltb (unsigned_abs z.1) (2 ^ 100)) (λ _.
    reads_pass (reads_terms parameters (bit_or seen set) (Some set) zs) (λ rest _. reads_ok ((set, z.1) ∷ rest))))))))
    (λ terms. (z ∷ zs ≡ signed_terms terms) × AreTerms parameters seen (behind before) terms)
    (λ terms (above, (set, (is, low, high), (few, (other, (size, (rest, (more, asc), same)))))).
    subst (λ y. (z ∷ zs ≡ signed_terms y) × AreTerms parameters seen (behind before) y) same
    (ap (λ y. y ∷ zs) (paired z (pos set) is) ∙ ap (λ y. (pos set, z.1) ∷ y) more, ((above_is before set).0 (ap (is_above before) (sym is) ∙ above), high, few, other, size, asc)))
    (λ terms (is, asc). back terms is asc)
  where
    paired : (p : ℤ × ℤ) (a : ℤ) → p.0 ≡ a → p ≡ (a, p.1)
    paired (x, y) a e = ap (λ t. (t, y)) e

    back : (terms : List (ℕ × ℤ)) → z ∷ zs ≡ signed_terms terms → AreTerms parameters seen (behind before) terms → (is_above before z.0 ≡ true) × Both (λ (set : ℕ). (z.0 ≡ pos set) × (0 ≤ set) × (set < 2 ^ parameters)) (λ set y. (count_ones (bit_or seen set) ≤ 4) × ((z.1 ≡ pos 0 → ⊥) × ((unsigned_abs z.1 < 2 ^ 100) × Both (λ (rest : List (ℕ × ℤ)). (zs ≡ signed_terms rest) × AreTerms parameters (bit_or seen set) (behind (Some set)) rest) (λ rest y. (set, z.1) ∷ rest ≡ y) y))) terms
    back [] is asc = absurd cc
    back ((set, c) ∷ terms) is asc =
        let first : z ≡ (pos set, c) = cc in
        let one : z.0 ≡ pos set = ap (λ p. p.0) first in
        let two : z.1 ≡ c = ap (λ p. p.1) first in (
          ap (is_above before) one ∙ (above_is before set).1 asc.0,
          (set, (one, omega arith, asc.1), (asc.2, ((λ e. asc.3 (sym two ∙ e)), (subst (λ y. unsigned_abs y < 2 ^ 100) (sym two) asc.4, (terms, (cc, asc.5), ap (λ y. (set, y) ∷ terms) two))))),
        )
