-- The parser of command lines over the options of a plain line: what each word does, in any order and in both spellings.
use Prim.Native.Char.{code}
use Rattle.std.proofs.Common.{◌≡◌, ◌==◌, ◌&&◌, ◌||◌, not, List, [], ◌∷◌, ◌++◌, map, Option, Some, None, Bool, true, false, refl, sym, ap, ap₂, ◌∙◌, subst, arith, codes, cond, append_assoc, append-nil, ◌⊎◌, inl, inr}
use Rattle.std.specs.Prelude.{⊤, unwrap_or, drop}
use Rattle.std.specs.List.{list_all, list_any, fold}
use Rattle.std.specs.Str.{bytes_eq}
use Rattle.std.proofs.lemmas.Slice.Eq.{bytes_eq-Decides}
use Rattle.std.proofs.lemmas.List.Folds.{list_any-append}
use Rattle.std.proofs.lemmas.Bool.Decides.{nat_tests}
use Rattle.std.specs.Prelude.{Result, Ok, Err, IfOk, IfErr}
use Rattle.clap.specs.Words.{App, HasMatchesOf, Row, Rule, Shape, Text, built, first_value, found_of, is_simple, kind_of, matches_of, takes}
use Rattle.clap.specs.declared.error.Error.{Error}
use Rattle.clap.specs.declared.error.ErrorKind.TheVariants as kind
use Rattle.clap.specs.declared.parser.matches.ArgMatches.{ArgMatches}
use Rattle.clap.specs.Lexer.{long_of, short_of}
use Rattle.clap.specs.Walk.{Held, Walk, is_empty, more_values, walk_from, walked, option, settled, used_by_id, arg_by_id, at_row, has_row, with_values, without, nothing_held, with_default, finished, walk, first_of}
use Rattle.clap.specs.Takes.{default_passes, turn_passes, walk_passes, settle_passes, level_passes, is_valid}
use Rattle.clap.specs.declared.parser.matches.ValueSource.TheVariants.{CommandLine}
use Rattle.clap.specs.declared.builder.value_parser.Reading.TheVariants.{AsWritten}
use Rattle.clap.proofs.TakesLemmas.{leaf_takes}
use Rattle.clap.proofs.WalkLemmas.{both, first_value-rows}
use Rattle.clap.proofs.SimpleLemmas.{is_false, is_nil}
use Rattle.lift_frac.specs.Written.{cut_at}
use Rattle.plift_words.specs.Line.{Setting, attached, options, stands, value_of, is_among, is_value, are_options, is_command, is_verify, is_bounded, is_lumped, common_options, range_options, is_property, is_cost, is_asking}
use Rattle.plift_words.proofs.Cuts.{neither, cut_parts, options_one, options_two, options_lone}
use Rattle.plift_words.specs.Parser.{HasValues, option_names, verify_app}

-- the command as the parser builds it, and the rules of its options
unfoldable shape : Shape
unfolding verify_app
shape = (built verify_app).top

abbrev rules : List Rule
rules = shape.rules

-- what holds of each of these names
abbrev Each : (Text → Type 0) → List Text → Type 0
Each P [] = ⊤
Each P (name ∷ names) = P name × Each P names

-- holds of a name that is one of them
among : (P : Text → Type 0) (names : List Text) → Each P names → (name : Text) → is_among names name ≡ true → P name
among P [] h name e = absurd (cc)
among P (first ∷ names) h name e = go (among P names h.1 name) (bytes_eq name first) refl
  where
    go : (is_among names name ≡ true → P name) → (t : Bool) → bytes_eq name first ≡ t → P name
    go rest true is = subst P (sym ((bytes_eq-Decides name first).0 is)) h.0
    go rest false is = rest (rw is at e)

-- an option that the parser knows
abbrev IsKnown : Text → Type 0
IsKnown name = is_among option_names name ≡ true

-- waits for the value of an option
abbrev waits : List Row → Text → Walk
waits rows id = record { held = record { rows = rows; pending = Some (id, []); skip = 0 }; waiting = option id; position = 1; is_trailing = false; stopped = None }

-- holds the value of an option
abbrev holds : List Row → Text → Text → Held
holds rows id v = record { rows = rows; pending = Some (id, v ∷ []); skip = 0 }

-- holds rows alone
abbrev clean : List Row → Held
clean rows = record { rows = rows; pending = None; skip = 0 }

-- ---- one word

name_walked : (name : Text) → IsKnown name → (h : Held) → walked rules [] (walk_from h) name ≡ record (waits [] (drop 2 name)) { held = record (settled rules h) { pending = Some (drop 2 name, []) } }
unfolding walked shape verify_app
name_walked = among (λ name. (h : Held) → walked rules [] (walk_from h) name ≡ record (waits [] (drop 2 name)) { held = record (settled rules h) { pending = Some (drop 2 name, []) } }) option_names (λ h. refl, (λ h. refl, (λ h. refl, (λ h. refl, (λ h. refl, (λ h. refl, (λ h. refl, (λ h. refl, (λ h. refl, (λ h. refl, (λ h. refl, tt)))))))))))

name_passes : (name : Text) → IsKnown name → (h : Held) → settle_passes rules false h ≡ true → turn_passes shape [] (walk_from h) name ≡ true
unfolding shape verify_app
name_passes = among (λ name. (h : Held) → settle_passes rules false h ≡ true → turn_passes shape [] (walk_from h) name ≡ true) option_names (λ h e. rw e refl, (λ h e. rw e refl, (λ h e. rw e refl, (λ h e. rw e refl, (λ h e. rw e refl, (λ h e. rw e refl, (λ h e. rw e refl, (λ h e. rw e refl, (λ h e. rw e refl, (λ h e. rw e refl, (λ h e. rw e refl, tt)))))))))))

-- what doesn't begin with `-` is no option
record IsNoFlag (v : Text) : Type 0 where
  long : long_of v ≡ None
  short : short_of v ≡ None
  marker : bytes_eq v (45 ∷ 45 ∷ []) ≡ false

no_flag : (v : Text) → is_value (Some v) ≡ true → IsNoFlag v
no_flag [] e = record { long = refl; short = refl; marker = refl }
no_flag (b ∷ v) e =
    let other : (b == 45) ≡ false = go (45 == b) refl in
    record { long = rw other refl; short = rw other refl; marker = rw other refl }
  where
    go : (t : Bool) → (45 == b) ≡ t → (b == 45) ≡ false
    go true is = absurd (cc (rw is at e))
    go false is = grind (arith, nat_tests)

value_walked : (name : Text) → IsKnown name → (v : Text) (rows : List Row) → IsNoFlag v → walked rules [] (waits rows (drop 2 name)) v ≡ walk_from (holds rows (drop 2 name) v)
unfolding walked shape verify_app
value_walked = among (λ name. (v : Text) (rows : List Row) → IsNoFlag v → walked rules [] (waits rows (drop 2 name)) v ≡ walk_from (holds rows (drop 2 name) v)) option_names (λ v rows n. rw (n.long, n.short, n.marker) refl, (λ v rows n. rw (n.long, n.short, n.marker) refl, (λ v rows n. rw (n.long, n.short, n.marker) refl, (λ v rows n. rw (n.long, n.short, n.marker) refl, (λ v rows n. rw (n.long, n.short, n.marker) refl, (λ v rows n. rw (n.long, n.short, n.marker) refl, (λ v rows n. rw (n.long, n.short, n.marker) refl, (λ v rows n. rw (n.long, n.short, n.marker) refl, (λ v rows n. rw (n.long, n.short, n.marker) refl, (λ v rows n. rw (n.long, n.short, n.marker) refl, (λ v rows n. rw (n.long, n.short, n.marker) refl, tt)))))))))))

value_passes : (name : Text) → IsKnown name → (v : Text) (rows : List Row) → IsNoFlag v → turn_passes shape [] (waits rows (drop 2 name)) v ≡ true
unfolding shape verify_app
value_passes = among (λ name. (v : Text) (rows : List Row) → IsNoFlag v → turn_passes shape [] (waits rows (drop 2 name)) v ≡ true) option_names (λ v rows n. rw (n.long, n.short, n.marker) refl, (λ v rows n. rw (n.long, n.short, n.marker) refl, (λ v rows n. rw (n.long, n.short, n.marker) refl, (λ v rows n. rw (n.long, n.short, n.marker) refl, (λ v rows n. rw (n.long, n.short, n.marker) refl, (λ v rows n. rw (n.long, n.short, n.marker) refl, (λ v rows n. rw (n.long, n.short, n.marker) refl, (λ v rows n. rw (n.long, n.short, n.marker) refl, (λ v rows n. rw (n.long, n.short, n.marker) refl, (λ v rows n. rw (n.long, n.short, n.marker) refl, (λ v rows n. rw (n.long, n.short, n.marker) refl, tt)))))))))))

-- the rows after an option was used with a value
abbrev used_with : Text → Text → List Row → List Row
used_with id v rows = used_by_id (arg_by_id rules id) (v ∷ []) rows

one_walked : (name : Text) → IsKnown name → (v : Text) (h : Held) → walked rules [] (walk_from h) (name ++ code "=" ∷ v) ≡ walk_from (record (settled rules h) { rows = used_with (drop 2 name) v (settled rules h).rows })
unfolding walked shape verify_app
one_walked = among (λ name. (v : Text) (h : Held) → walked rules [] (walk_from h) (name ++ code "=" ∷ v) ≡ walk_from (record (settled rules h) { rows = used_with (drop 2 name) v (settled rules h).rows })) option_names (λ v h. refl, (λ v h. refl, (λ v h. refl, (λ v h. refl, (λ v h. refl, (λ v h. refl, (λ v h. refl, (λ v h. refl, (λ v h. refl, (λ v h. refl, (λ v h. refl, tt)))))))))))

one_passes : (name : Text) → IsKnown name → (v : Text) (h : Held) → settle_passes rules false h ≡ true → has_row (drop 2 name) (settled rules h).rows ≡ false → turn_passes shape [] (walk_from h) (name ++ code "=" ∷ v) ≡ true
unfolding shape verify_app
one_passes = among (λ name. (v : Text) (h : Held) → settle_passes rules false h ≡ true → has_row (drop 2 name) (settled rules h).rows ≡ false → turn_passes shape [] (walk_from h) (name ++ code "=" ∷ v) ≡ true) option_names (λ v h e fresh. rw (e, fresh) refl, (λ v h e fresh. rw (e, fresh) refl, (λ v h e fresh. rw (e, fresh) refl, (λ v h e fresh. rw (e, fresh) refl, (λ v h e fresh. rw (e, fresh) refl, (λ v h e fresh. rw (e, fresh) refl, (λ v h e fresh. rw (e, fresh) refl, (λ v h e fresh. rw (e, fresh) refl, (λ v h e fresh. rw (e, fresh) refl, (λ v h e fresh. rw (e, fresh) refl, (λ v h e fresh. rw (e, fresh) refl, tt)))))))))))

-- ---- rows

-- a row of a new id goes to the end
at_new : (id : Text) (change : Row → List Row) (missing rows : List Row) → has_row id rows ≡ false → at_row id change missing rows ≡ rows ++ missing
at_new id change missing [] fresh = refl
at_new id change missing (r ∷ rows) fresh = go (at_new id change missing rows) (bytes_eq r.id id) refl
  where
    go : (has_row id rows ≡ false → at_row id change missing rows ≡ rows ++ missing) → (t : Bool) → bytes_eq r.id id ≡ t → at_row id change missing (r ∷ rows) ≡ (r ∷ rows) ++ missing
    go rest true is = absurd (cc (rw is at fresh))
    go rest false is = rw is (ap (λ (rs : List Row). r ∷ rs) (rest (rw is at fresh)))

-- the row of an option
abbrev row : Text → Text → Row
row id v = record { id = id; values = v ∷ []; count = None; source = Some CommandLine; reading = AsWritten }

set_new : (id v : Text) (rows : List Row) → has_row id rows ≡ false → with_values id AsWritten CommandLine (v ∷ []) (without id rows) ≡ rows ++ row id v ∷ []
set_new id v rows fresh =
    let same : without id rows ≡ rows = at_new id (λ _. []) [] rows fresh ∙ append-nil rows in
    ap (with_values id AsWritten CommandLine (v ∷ [])) same ∙ at_new id (more_values CommandLine (v ∷ [])) (row id v ∷ []) rows fresh

used_new : (name : Text) → IsKnown name → (v : Text) (rows : List Row) → has_row (drop 2 name) rows ≡ false → used_with (drop 2 name) v rows ≡ rows ++ row (drop 2 name) v ∷ []
unfolding shape verify_app
used_new = among (λ name. (v : Text) (rows : List Row) → has_row (drop 2 name) rows ≡ false → used_with (drop 2 name) v rows ≡ rows ++ row (drop 2 name) v ∷ []) option_names (λ v rows fresh. set_new _ v rows fresh, (λ v rows fresh. set_new _ v rows fresh, (λ v rows fresh. set_new _ v rows fresh, (λ v rows fresh. set_new _ v rows fresh, (λ v rows fresh. set_new _ v rows fresh, (λ v rows fresh. set_new _ v rows fresh, (λ v rows fresh. set_new _ v rows fresh, (λ v rows fresh. set_new _ v rows fresh, (λ v rows fresh. set_new _ v rows fresh, (λ v rows fresh. set_new _ v rows fresh, (λ v rows fresh. set_new _ v rows fresh, tt)))))))))))

-- what is held comes to these rows
record Ready (h : Held) (rows : List Row) : Type 0 where
  settles : settled rules h ≡ clean rows
  passes : settle_passes rules false h ≡ true

clean_ready : (rows : List Row) → Ready (clean rows) rows
clean_ready rows = record { settles = refl; passes = refl }

holds_passes : (name : Text) → IsKnown name → (v : Text) (rows : List Row) → has_row (drop 2 name) rows ≡ false → settle_passes rules false (holds rows (drop 2 name) v) ≡ true
unfolding shape verify_app
holds_passes = among (λ name. (v : Text) (rows : List Row) → has_row (drop 2 name) rows ≡ false → settle_passes rules false (holds rows (drop 2 name) v) ≡ true) option_names (λ v rows fresh. rw fresh refl, (λ v rows fresh. rw fresh refl, (λ v rows fresh. rw fresh refl, (λ v rows fresh. rw fresh refl, (λ v rows fresh. rw fresh refl, (λ v rows fresh. rw fresh refl, (λ v rows fresh. rw fresh refl, (λ v rows fresh. rw fresh refl, (λ v rows fresh. rw fresh refl, (λ v rows fresh. rw fresh refl, (λ v rows fresh. rw fresh refl, tt)))))))))))

holds_ready : (name : Text) → IsKnown name → (v : Text) (rows : List Row) → has_row (drop 2 name) rows ≡ false → Ready (holds rows (drop 2 name) v) (rows ++ row (drop 2 name) v ∷ [])
holds_ready name k v rows fresh = record { settles = ap clean (used_new name k v rows fresh); passes = holds_passes name k v rows fresh }

-- ---- options

either : (a b : Bool) → (a || b) ≡ true → (a ≡ true) ⊎ (b ≡ true)
either true b e = inl refl
either false b e = inr e

-- a name is its id behind two dashes
dashed : (name : Text) → IsKnown name → name ≡ 45 ∷ 45 ∷ drop 2 name
dashed = among (λ name. name ≡ 45 ∷ 45 ∷ drop 2 name) option_names (refl, (refl, (refl, (refl, (refl, (refl, (refl, (refl, (refl, (refl, (refl, tt)))))))))))

same_name : (n m : Text) → IsKnown n → IsKnown m → bytes_eq (drop 2 n) (drop 2 m) ≡ bytes_eq n m
same_name n m a b = ap₂ bytes_eq (sym (dashed n a)) (sym (dashed m b))

-- the row of an option that stands in a line
abbrev row_of : Setting → Row
row_of g = row (drop 2 g.name) (unwrap_or g.value [])

-- none of the options has a row yet
abbrev are_new : List Row → List Setting → Bool
are_new rows given = list_all (λ g. not (has_row (drop 2 g.name) rows)) given

first_of_two : (a b : Bool) → (a || b) ≡ true → b ≡ false → a ≡ true
first_of_two true b e none = refl
first_of_two false b e none = absurd (cc)

-- options that the parser knows
abbrev are_known : List Setting → Bool
are_known = are_options option_names []

-- the parts of the test of the option at the front
record Front (g : Setting) (more : List Setting) : Type 0 where
  name : IsKnown g.name
  value : is_value g.value ≡ true
  once : stands g.name more ≡ false
  rest : are_known more ≡ true

front : (g : Setting) (more : List Setting) → are_known (g ∷ more) ≡ true → Front g more
front g more e =
    let a = both ((is_among option_names g.name || false) && is_value g.value && not (stands g.name more)) _ e in
    let b = both ((is_among option_names g.name || false) && is_value g.value) _ a.0 in
    let c = both (is_among option_names g.name || false) _ b.0 in
    record { name = first_of_two _ _ c.0 refl; value = c.1; once = is_false _ b.1; rest = a.1 }

differs : (a b : Text) → bytes_eq a b ≡ false → bytes_eq b a ≡ false
differs a b e = go (bytes_eq b a) refl
  where
    go : (t : Bool) → bytes_eq b a ≡ t → bytes_eq b a ≡ false
    go false is = is
    go true is = let same : bytes_eq a b ≡ true = (bytes_eq-Decides a b).1 (sym ((bytes_eq-Decides b a).0 is)) in absurd (cc)

are_new_here : (rows : List Row) (g : Setting) (more : List Setting) → are_new rows (g ∷ more) ≡ true → has_row (drop 2 g.name) rows ≡ false
are_new_here rows g more e = is_false _ (both _ _ e).0

are_new_more : (name v : Text) (rows : List Row) (given : List Setting) → IsKnown name → are_known given ≡ true → stands name given ≡ false → are_new rows given ≡ true
    → are_new (rows ++ row (drop 2 name) v ∷ []) given ≡ true
are_new_more name v rows [] k options absent new = refl
are_new_more name v rows (g ∷ more) k options absent new =
    let f = front g more options in
    let away = neither (bytes_eq g.name name) _ absent in
    let id_differs : bytes_eq (drop 2 name) (drop 2 g.name) ≡ false = same_name name g.name k f.name ∙ differs g.name name away.0 in
    let here : has_row (drop 2 g.name) (rows ++ row (drop 2 name) v ∷ []) ≡ false =
    list_any-append (λ (r : Row). bytes_eq r.id (drop 2 g.name)) rows (row (drop 2 name) v ∷ []) ∙ rw (are_new_here rows g more new, id_differs) refl in
    rw here (are_new_more name v rows more k f.rest away.1 (both _ _ new).1)

-- ---- the walk

-- the parser walks over the words, and comes to these rows
record Walks (words : List Text) (h : Held) (rows : List Row) : Type 0 where
  end : Held
  walks : fold (walked rules []) (walk_from h) words ≡ walk_from end
  passes : walk_passes shape [] (walk_from h) words ≡ true
  ready : Ready end rows

-- an option in one word, and the words behind it
one_then : (name v : Text) (words : List Text) (h : Held) (rows all : List Row) → IsKnown name → Ready h rows → has_row (drop 2 name) rows ≡ false
    → ((h : Held) → Ready h (rows ++ row (drop 2 name) v ∷ []) → Walks words h all) → Walks ((name ++ code "=" ∷ v) ∷ words) h all
unfolding walk_passes
one_then name v words h rows all k r fresh next =
    let id = drop 2 name in
    let w = next (clean (rows ++ row id v ∷ [])) (clean_ready _) in
    let same : walked rules [] (walk_from h) (name ++ code "=" ∷ v) ≡ walk_from (clean (rows ++ row id v ∷ [])) =
    one_walked name k v h ∙ ap (λ (q : Held). walk_from (record q { rows = used_with id v q.rows })) r.settles ∙ ap (λ (rs : List Row). walk_from (clean rs)) (used_new name k v rows fresh) in
    let new : has_row id (settled rules h).rows ≡ false = ap (λ (q : Held). has_row id q.rows) r.settles ∙ fresh in
    record {
      end = w.end;
      walks = ap (λ (q : Walk). fold (walked rules []) q words) same ∙ w.walks;
      passes = ap₂ (λ (a b : Bool). a && b) (one_passes name k v h r.passes new) (ap (λ (q : Walk). walk_passes shape [] q words) same ∙ w.passes);
      ready = w.ready;
    }

-- an option in two words, and the words behind it
two_then : (name v : Text) (words : List Text) (h : Held) (rows all : List Row) → IsKnown name → IsNoFlag v → Ready h rows → has_row (drop 2 name) rows ≡ false
    → ((h : Held) → Ready h (rows ++ row (drop 2 name) v ∷ []) → Walks words h all) → Walks (name ∷ v ∷ words) h all
unfolding walk_passes
two_then name v words h rows all k n r fresh next =
    let id = drop 2 name in
    let w = next (holds rows id v) (holds_ready name k v rows fresh) in
    let first : walked rules [] (walk_from h) name ≡ waits rows id =
    name_walked name k h ∙ ap (λ (q : Held). record (waits [] id) { held = record q { pending = Some (id, []) } }) r.settles in
    let second : walked rules [] (waits rows id) v ≡ walk_from (holds rows id v) = value_walked name k v rows n in
    let same : walked rules [] (walked rules [] (walk_from h) name) v ≡ walk_from (holds rows id v) = ap (λ (q : Walk). walked rules [] q v) first ∙ second in
    record {
      end = w.end;
      walks = ap (λ (q : Walk). fold (walked rules []) q words) same ∙ w.walks;
      passes = ap₂ (λ (a b : Bool). a && b) (name_passes name k h r.passes)
          (ap₂ (λ (a b : Bool). a && b) (ap (λ (q : Walk). turn_passes shape [] q v) first ∙ value_passes name k v rows n) (ap (λ (q : Walk). walk_passes shape [] q words) same ∙ w.passes));
      ready = w.ready;
    }

-- ---- a line

-- from any rows that lack these options the parser comes to a row more for each
abbrev Goes : List Text → List Setting → Type 0
Goes words given = (h : Held) (rows : List Row) → are_known given ≡ true → Ready h rows → are_new rows given ≡ true → Walks words h (rows ++ map row_of given)

-- the options behind the one at the front
goes_on : (name v : Text) (words : List Text) (more : List Setting) (rows : List Row) → Goes words more → are_known (record { name = name; value = Some v } ∷ more) ≡ true
    → are_new rows (record { name = name; value = Some v } ∷ more) ≡ true → (h : Held) → Ready h (rows ++ row (drop 2 name) v ∷ [])
    → Walks words h (rows ++ map row_of (record { name = name; value = Some v } ∷ more))
goes_on name v words more rows next e new h r =
    let f = front (record { name = name; value = Some v }) more e in
    let w = next h (rows ++ row (drop 2 name) v ∷ []) f.rest r (are_new_more name v rows more f.name f.rest f.once (both _ _ new).1) in
    subst (Walks words h) (append_assoc rows (row (drop 2 name) v ∷ []) (map row_of more)) w

goes_one : (name v : Text) (words : List Text) (more : List Setting) → Goes words more → Goes ((name ++ code "=" ∷ v) ∷ words) (record { name = name; value = Some v } ∷ more)
goes_one name v words more next h rows e r new =
    let f = front (record { name = name; value = Some v }) more e in
    one_then name v words h rows _ f.name r (are_new_here rows (record { name = name; value = Some v }) more new) (goes_on name v words more rows next e new)

goes_two : (name v : Text) (words : List Text) (more : List Setting) → Goes words more → Goes (name ∷ v ∷ words) (record { name = name; value = Some v } ∷ more)
goes_two name v words more next h rows e r new =
    let f = front (record { name = name; value = Some v }) more e in
    two_then name v words h rows _ f.name (no_flag v f.value) r (are_new_here rows (record { name = name; value = Some v }) more new) (goes_on name v words more rows next e new)

-- an option without a value isn't plain
goes_lone : (name : Text) (words : List Text) (more : List Setting) → Goes words (record { name = name; value = None } ∷ more)
goes_lone name words more h rows e r new = absurd (cc ((front (record { name = name; value = None }) more e).value))

goes_attached : (name v : Text) (words : List Text) (more : List Setting) → Goes words more → Goes ((name ++ code "=" ∷ v) ∷ words) (record { name = name; value = attached v } ∷ more)
goes_attached name [] words more next = goes_lone name _ more
goes_attached name (b ∷ v) words more next = goes_one name (b ∷ v) words more next

-- a word that is cut at `=`
goes_cut : (word : Text) (words : List Text) (parts : Text × Text) → cut_at (code "=") word ≡ Some parts → Goes words (options words) → Goes (word ∷ words) (options (word ∷ words))
goes_cut word words parts is next =
    subst (Goes (word ∷ words)) (sym (options_one word words parts is))
    (subst (λ (w : Text). Goes (w ∷ words) (record { name = parts.0; value = attached parts.1 } ∷ options words)) (sym (cut_parts 61 word parts is)) (goes_attached parts.0 parts.1 words (options words) next))

goes_none : Goes [] []
unfolding walk_passes
goes_none h rows e r new = record { end = h; walks = refl; passes = refl; ready = subst (Ready h) (sym (append-nil rows)) r }

-- the parser takes options in any order and in both spellings
goes : (words : List Text) → Goes words (options words)
goes [] = goes_none
goes (word ∷ []) = go (cut_at (code "=") word) refl
  where
    go : (o : Option (Text × Text)) → cut_at (code "=") word ≡ o → Goes (word ∷ []) (options (word ∷ []))
    go None is = subst (Goes (word ∷ [])) (sym (options_lone word is)) (goes_lone word _ [])
    go (Some parts) is = goes_cut word [] parts is goes_none
goes (word ∷ next ∷ words) = go (goes (next ∷ words)) (goes words) (cut_at (code "=") word) refl
  where
    go : Goes (next ∷ words) (options (next ∷ words)) → Goes words (options words) → (o : Option (Text × Text)) → cut_at (code "=") word ≡ o
        → Goes (word ∷ next ∷ words) (options (word ∷ next ∷ words))
    go one two None is = subst (Goes (word ∷ next ∷ words)) (sym (options_two word next words is)) (goes_two word next words (options words) two)
    go one two (Some parts) is = goes_cut word (next ∷ words) parts is one

-- ---- what is found

-- a row for each option, and nothing else
new_from_none : (given : List Setting) → are_new [] given ≡ true
new_from_none [] = refl
new_from_none (g ∷ more) = new_from_none more

line_walks : (words : List Text) → are_known (options words) ≡ true → Walks words nothing_held (map row_of (options words))
line_walks words e = goes words nothing_held [] e (clean_ready []) (new_from_none (options words))

-- where no rule has a default, none is added
no_default : (a : Rule) (rows : List Row) → is_empty a.defaults ≡ true → with_default rows a ≡ rows
no_default a rows e = let none = is_nil a.defaults e in rw none (go (has_row a.id rows))
  where
    go : (t : Bool) → cond t rows rows ≡ rows
    go true = refl
    go false = refl

no_defaults : (rows : List Row) (given : List Rule) → list_all (λ a. is_empty a.defaults) given ≡ true → fold with_default rows given ≡ rows
no_defaults rows [] e = refl
no_defaults rows (a ∷ more) e = ap (λ (rs : List Row). fold with_default rs more) (no_default a rows (both _ _ e).0) ∙ no_defaults rows more (both _ _ e).1

-- the value that is there
there : (v : Option Text) → is_value v ≡ true → Some (unwrap_or v []) ≡ v
there None e = absurd (cc)
there (Some v) e = refl

-- the first value of an id is that of its option
first_is : (name : Text) → IsKnown name → (given : List Setting) → are_known given ≡ true → first_of (drop 2 name) (map row_of given) ≡ value_of name given
first_is name k [] e = refl
first_is name k (g ∷ more) e = go (first_is name k more f.rest) (bytes_eq g.name name) refl
  where
    f : Front g more
    f = front g more e

    same : bytes_eq (drop 2 g.name) (drop 2 name) ≡ bytes_eq g.name name
    same = same_name g.name name f.name k

    go : first_of (drop 2 name) (map row_of more) ≡ value_of name more → (t : Bool) → bytes_eq g.name name ≡ t → first_of (drop 2 name) (map row_of (g ∷ more)) ≡ value_of name (g ∷ more)
    go rest true is = let id_is : bytes_eq (drop 2 g.name) (drop 2 name) ≡ true = same ∙ is in rw (id_is, is) (there g.value f.value)
    go rest false is = let id_is : bytes_eq (drop 2 g.name) (drop 2 name) ≡ false = same ∙ is in rw (id_is, is) rest

-- what the parser makes of the words behind a command is what a plain line says
rows_are : (words : List Text) → are_known (options words) ≡ true → finished rules (walk rules [] nothing_held words).held ≡ map row_of (options words)
unfolding shape verify_app
rows_are words e =
    let w = line_walks words e in
    ap (λ (q : Walk). fold with_default (settled rules q.held).rows rules) w.walks ∙ ap (λ (h : Held). fold with_default h.rows rules) w.ready.settles
    ∙ no_defaults (map row_of (options words)) rules refl

valid : (rows : List Row) → is_valid shape rows false ≡ true
unfolding shape verify_app
valid rows = refl

free_of_defaults : list_all default_passes rules ≡ true
unfolding shape verify_app
free_of_defaults = refl

settles_once : shape.args_override_self ≡ false
unfolding shape verify_app
settles_once = refl

all_pass : {a b c d : Bool} → a ≡ true → b ≡ true → c ≡ true → d ≡ true → (a && (b && (c && d))) ≡ true
all_pass p q r t = rw (p, q, r, t) refl

-- the parser takes the words behind a command
level : (words : List Text) → are_known (options words) ≡ true → level_passes shape [] nothing_held words false ≡ true
level words e =
    let w = line_walks words e in
    let ends : settle_passes rules false (walk rules [] nothing_held words).held ≡ true = ap (λ (q : Walk). settle_passes rules false q.held) w.walks ∙ w.ready.passes in
    let ok : is_valid shape (finished rules (walk rules [] nothing_held words).held) false ≡ true =
    ap (λ (rs : List Row). is_valid shape rs false) (rows_are words e) ∙ valid (map row_of (options words)) in
    all_pass w.passes (ap (λ (t : Bool). settle_passes rules t (walk rules [] nothing_held words).held) settles_once ∙ ends) free_of_defaults ok

-- ---- what the parser promises

-- names that are among others
among_more : (a b : List Text) → list_all (is_among b) a ≡ true → (name : Text) → is_among a name ≡ true → is_among b name ≡ true
among_more [] b e name is = absurd (cc)
among_more (first ∷ a) b e name is = elim (either (bytes_eq name first) (is_among a name) is) [
  | inl same ↦ subst (λ (n : Text). is_among b n ≡ true) (sym ((bytes_eq-Decides name first).0 same)) (both _ _ e).0
  | inr rest ↦ among_more a b (both _ _ e).1 name rest
]

-- options of a command are some that the parser knows
are_some : (must may : List Text) → list_all (is_among option_names) must ≡ true → list_all (is_among option_names) may ≡ true → (given : List Setting) → are_options must may given ≡ true → are_known given ≡ true
are_some must may a b [] e = refl
are_some must may a b (g ∷ more) e =
    let s = both ((is_among must g.name || is_among may g.name) && is_value g.value && not (stands g.name more)) _ e in
    let v = both ((is_among must g.name || is_among may g.name) && is_value g.value) _ s.0 in
    let n = both (is_among must g.name || is_among may g.name) _ v.0 in
    let known : is_among option_names g.name ≡ true = elim (either (is_among must g.name) (is_among may g.name) n.0) [ inl o ↦ among_more must option_names a g.name o | inr o ↦ among_more may option_names b g.name o ] in
    rw (known, n.1, v.1) (are_some must may a b more s.1)

of_command : (name command : Text) (must may words : List Text) → list_all (is_among option_names) must ≡ true → list_all (is_among option_names) may ≡ true
    → is_command name must may (command ∷ words) ≡ true → are_known (options words) ≡ true
of_command name command must may words a b e =
    let all = λ (option : Text). stands option (options words) in
    are_some must may a b (options words) (both (bytes_eq command name) _ (both _ (list_all all must) e).0).1

plain_line : (command : Text) (words : List Text) → is_asking (command ∷ words) ≡ true → are_known (options words) ≡ true
plain_line command words e = let line = command ∷ words in elim (either (is_verify line || is_bounded line || is_lumped line || is_property line) (is_cost line) e) [
  | inl o ↦ elim (either (is_verify line || is_bounded line || is_lumped line) (is_property line) o) [
    | inl o ↦ elim (either (is_verify line || is_bounded line) (is_lumped line) o) [
      | inl o ↦ elim (either (is_verify line) (is_bounded line) o) [
        | inl v ↦ of_command (codes "verify") command (codes "--goal" ∷ codes "--bound" ∷ []) range_options words refl refl v
        | inr b ↦ of_command (codes "bounded") command (codes "--goal" ∷ codes "--bound" ∷ codes "--steps" ∷ []) common_options words refl refl b
      ]
      | inr l ↦ of_command (codes "lumped") command (codes "--goal" ∷ codes "--bound" ∷ []) common_options words refl refl l
    ]
    | inr p ↦ of_command (codes "property") command (codes "--formula" ∷ []) range_options words refl refl p
  ]
  | inr c ↦ of_command (codes "cost") command (codes "--goal" ∷ codes "--reward" ∷ codes "--budget" ∷ codes "--cap" ∷ []) common_options words refl refl c
]

-- the parser takes the words, and what it finds in them
unfoldable takes_line : List Text → Bool
takes_line words = takes verify_app words

unfoldable line_rows : List Text → List Row
line_rows words = matches_of verify_app words

-- the parser takes a plain line
taken : (words : List Text) → is_asking words ≡ true → takes_line words ≡ true
unfolding takes_line verify_app shape
taken [] e = absurd (cc)
taken (command ∷ words) e = leaf_takes (built verify_app) nothing_held words refl (level words (plain_line command words e))

-- and finds the values that stand there
found : (words : List Text) → is_asking words ≡ true → (name : Text) → IsKnown name → first_of (drop 2 name) (line_rows words) ≡ value_of name (options (drop 1 words))
unfolding line_rows verify_app shape
found [] e name k = absurd (cc)
found (command ∷ words) e name k =
    let p = plain_line command words e in
    ap (first_of (drop 2 name)) (rows_are words p) ∙ first_is name k (options words) p

-- what the parser promises of its rules, said of these options
pub passes_line : {T : Type 0} (a : App) (words : List Text) (r : Result T Error) → a ≡ verify_app → is_asking words ≡ true
    → IfErr r (λ e. takes a words ≡ true → kind_of e ≡ kind.OutOfMemory) → IfErr r (λ e. kind_of e ≡ kind.OutOfMemory)
unfolding takes_line
passes_line a words (Ok x) is plain h = tt
passes_line a words (Err e) is plain h = h (ap (λ (b : App). takes b words) is ∙ taken words plain)

simple : is_simple verify_app ≡ true
unfolding verify_app
simple = refl

value_found : (a : App) (words : List Text) (m : ArgMatches) → a ≡ verify_app → is_asking words ≡ true → HasMatchesOf a words m → HasValues (found_of m) (options (drop 1 words))
unfolding line_rows
value_found a words m is plain h name k =
    first_value-rows (found_of m) (drop 2 name) ∙ ap (first_of (drop 2 name)) ((h (ap is_simple is ∙ simple)).0 ∙ ap (λ (b : App). matches_of b words) is) ∙ found words plain name k

pub values_found : (a : App) (words : List Text) (r : Result ArgMatches Error) → a ≡ verify_app → is_asking words ≡ true → IfOk r (HasMatchesOf a words)
    → IfOk r (λ m. HasValues (found_of m) (options (drop 1 words)))
values_found a words (Err e) is plain h = tt
values_found a words (Ok m) is plain h = value_found a words m is plain h
