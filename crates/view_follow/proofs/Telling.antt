-- What is told while a report comes, piece by piece.
use Rattle.std.proofs.Common.{◌≡◌, ◌<◌, ◌≤◌, ◌==◌, ℕ, Bool, true, false, cond, nat_lt, List, [], ◌∷◌, ◌++◌, length, Ok, Err, Result, IsErrAnd, Some, None, refl, sym, ap, ◌∙◌, subst, append_assoc, append-nil}
use Rattle.std.proofs.lemmas.Bool.{lt-ltb}
use Rattle.std.specs.Option.{option_to_list}
use Rattle.std.specs.declared.option.Option.{Option}
use Prim.Native.Char.{code}
use Rattle.std.specs.Io.KnownBytes.{Consumes}
use Rattle.lift_base.specs.Outside.{Wrote}
use Rattle.lift_base.specs.Laws.{Written}
use Rattle.view_follow.specs.Nodes.{node_of, node_of_line, nodes_in, nodes_behind, node_ended, nodes_ended, node_in, with_byte, line_behind, line_after}
use Rattle.view_follow.specs.Progress.{ProgressData, beginning, behind_node, when_reported, lines_due, lines_behind, line_text, percent, share_sum, progress_behind, progress_data, progress_lines, Passes, WroteEach}
use Rattle.view_follow.specs.declared.line.Line.{Line}
use Rattle.view_follow.specs.declared.line.Line.TheVariants.{Empty, One, Begun}
use Rattle.view_follow.specs.declared.line.NodeLine.{NodeLine}
use Rattle.view_follow.specs.declared.progress.Lines.{Lines}
use Rattle.view_follow.specs.declared.progress.Lines.TheVariants.{Apart}
use Rattle.view_follow.specs.Copied.{PassedHas}
use Rattle.view_follow.specs.declared.copying.CopyError.{CopyError}
use Rattle.view_follow.specs.declared.copying.CopyError.TheVariants as why
use Rattle.view_follow.specs.declared.progress.Progress.{Progress}

-- ---- bytes one behind the other

line_append : (line : Line) (xs ys : List ℕ) → line_after line (xs ++ ys) ≡ line_after (line_after line xs) ys
unfolding line_after
line_append line [] ys = refl
line_append line (x ∷ xs) ys = line_append (line_behind line x) xs ys

nodes_append : (line : Line) (xs ys : List ℕ) → nodes_ended line (xs ++ ys) ≡ nodes_ended line xs ++ nodes_ended (line_after line xs) ys
unfolding line_after nodes_ended
nodes_append line [] ys = refl
nodes_append line (x ∷ xs) ys =
    ap (λ (ns : List NodeLine). option_to_list (node_ended line x) ++ ns) (nodes_append (line_behind line x) xs ys)
    ∙ sym (append_assoc (option_to_list (node_ended line x)) (nodes_ended (line_behind line x) xs) (nodes_ended (line_after (line_behind line x) xs) ys))

progress_append : (p : ProgressData) (xs ys : List NodeLine) → progress_behind p (xs ++ ys) ≡ progress_behind (progress_behind p xs) ys
unfolding progress_behind
progress_append p [] ys = refl
progress_append p (x ∷ xs) ys = progress_append (when_reported (behind_node p x)) xs ys

reported_append : (lines : Lines) (p : ProgressData) (xs ys : List NodeLine) → lines_behind lines p (xs ++ ys) ≡ lines_behind lines p xs ++ lines_behind lines (progress_behind p xs) ys
unfolding progress_behind lines_behind
reported_append lines p [] ys = refl
reported_append lines p (x ∷ xs) ys =
    ap (λ (ts : List (List ℕ)). lines_due lines (behind_node p x) ++ ts) (reported_append lines (when_reported (behind_node p x)) xs ys)
    ∙ sym (append_assoc (lines_due lines (behind_node p x)) (lines_behind lines (when_reported (behind_node p x)) xs) (lines_behind lines (progress_behind (when_reported (behind_node p x)) xs) ys))

module _ {E : Type 0} (taken : E → Option (List ℕ)) (faults : E → ℕ) where
  pub each_append : (old mid new : E) (xs ys : List (List ℕ)) → WroteEach taken faults old mid xs → WroteEach taken faults mid new ys → WroteEach taken faults old new (xs ++ ys)
  each_append old mid new [] ys h k = subst (λ (o : E). WroteEach taken faults o new ys) h k
  each_append old mid new (x ∷ xs) ys h k = (h.0, h.1, h.2, each_append h.0 mid new xs ys h.3 k)

  -- a line that is due
  pub reported_once : (old new : E) (lines : Lines) (p : ProgressData) (end : Written) → p.reported < percent (share_sum p.shares) → Wrote taken faults old new end (line_text lines p) → WroteEach taken faults old new (lines_due lines p)
  reported_once old new lines p end less w =
      let due : nat_lt p.reported (percent (share_sum p.shares)) ≡ true = lt-ltb p.reported (percent (share_sum p.shares)) less in
      subst (λ (b : Bool). WroteEach taken faults old new (cond b (line_text lines p ∷ []) [])) (sym due) (new, end, w, refl)

  -- no byte has come
  pub passes_nothing : (notes : E) (p : Progress) → Passes taken faults notes notes p p []
  unfolding line_after nodes_ended progress_behind lines_behind
  passes_nothing notes p = record { state = refl; line = refl; lines = refl; reported = refl }

  -- some bytes, and some more
  pub passes_both : (old mid new : E) (p q r : Progress) (xs ys : List ℕ) → Passes taken faults old mid p q xs → Passes taken faults mid new q r ys → Passes taken faults old new p r (xs ++ ys)
  passes_both old mid new p q r xs ys h k =
      let nodes = nodes_ended p.line xs in
      let more = nodes_ended q.line ys in
      let all : nodes_ended p.line (xs ++ ys) ≡ nodes ++ more = nodes_append p.line xs ys ∙ ap (λ (l : Line). nodes ++ nodes_ended l ys) (sym h.line) in
      let same : lines_behind q.lines (progress_data q) more ≡ lines_behind p.lines (progress_behind (progress_data p) nodes) more =
      ap (λ (l : Lines). lines_behind l (progress_data q) more) h.lines ∙ ap (λ (d : ProgressData). lines_behind p.lines d more) h.state in
      record {
        state = k.state ∙ ap (λ (d : ProgressData). progress_behind d more) h.state ∙ sym (progress_append (progress_data p) nodes more) ∙ ap (λ (ns : List NodeLine). progress_behind (progress_data p) ns) (sym all);
        line = k.line ∙ ap (λ (l : Line). line_after l ys) h.line ∙ sym (line_append p.line xs ys);
        lines = k.lines ∙ h.lines;
        reported = subst (λ (ts : List (List ℕ)). WroteEach taken faults old new ts) (sym (ap (λ (ns : List NodeLine). lines_behind p.lines (progress_data p) ns) all ∙ reported_append p.lines (progress_data p) nodes more))
            (each_append old mid new _ _ h.reported (subst (λ (ts : List (List ℕ)). WroteEach taken faults mid new ts) same k.reported));
      }

  -- ---- one byte

  -- one that ends no node's line
  pub passes_byte : (notes : E) (p p' : Progress) (byte : ℕ) → node_ended p.line byte ≡ None → progress_data p' ≡ progress_data p → p'.line ≡ line_behind p.line byte → p'.lines ≡ p.lines → Passes taken faults notes notes p p' (byte ∷ [])
  unfolding line_after nodes_ended progress_behind lines_behind
  passes_byte notes p p' byte none state line lines =
      let nodes : nodes_ended p.line (byte ∷ []) ≡ [] = ap (λ (o : Option NodeLine). option_to_list o ++ []) none in
      record {
        state = state ∙ ap (λ (ns : List NodeLine). progress_behind (progress_data p) ns) (sym nodes);
        line = line;
        lines = lines;
        reported = subst (λ (ns : List NodeLine). WroteEach taken faults notes notes (lines_behind p.lines (progress_data p) ns)) (sym nodes) refl;
      }

  -- one that ends a node's line
  pub passes_node : (old new : E) (p q p' : Progress) (byte : ℕ) (node : NodeLine) → node_ended p.line byte ≡ Some node → progress_data q ≡ behind_node (progress_data p) node → q.lines ≡ p.lines → progress_data p' ≡ when_reported (progress_data q)
      → p'.line ≡ line_behind p.line byte → p'.lines ≡ q.lines → WroteEach taken faults old new (lines_due q.lines (progress_data q)) → Passes taken faults old new p p' (byte ∷ [])
  unfolding line_after nodes_ended progress_behind lines_behind
  passes_node old new p q p' byte node some came mode state line lines reported =
      let nodes : nodes_ended p.line (byte ∷ []) ≡ node ∷ [] = ap (λ (o : Option NodeLine). option_to_list o ++ []) some in
      let due : lines_due q.lines (progress_data q) ≡ lines_due p.lines (behind_node (progress_data p) node) ++ [] =
      ap (λ (l : Lines). lines_due l (progress_data q)) mode ∙ ap (λ (d : ProgressData). lines_due p.lines d) came ∙ sym (append-nil (lines_due p.lines (behind_node (progress_data p) node))) in
      record {
        state = state ∙ ap when_reported came ∙ ap (λ (ns : List NodeLine). progress_behind (progress_data p) ns) (sym nodes);
        line = line;
        lines = lines ∙ mode;
        reported = subst (λ (ns : List NodeLine). WroteEach taken faults old new (lines_behind p.lines (progress_data p) ns)) (sym nodes) (subst (λ (ts : List (List ℕ)). WroteEach taken faults old new ts) due reported);
      }

-- ---- lines and the two bytes that are kept of them

abbrev begun : List ℕ → Line
begun [] = Empty
begun (first ∷ []) = One first
begun (first ∷ second ∷ rest) = Begun (node_of first second)

begun_more : (line : List ℕ) (byte : ℕ) → with_byte (begun line) byte ≡ begun (line ++ byte ∷ [])
begun_more [] byte = refl
begun_more (first ∷ []) byte = refl
begun_more (first ∷ second ∷ rest) byte = refl

node_begun : (line : List ℕ) → node_in (begun line) ≡ node_of_line line
node_begun [] = refl
node_begun (first ∷ []) = refl
node_begun (first ∷ second ∷ rest) = refl

step : (b : Bool) (line : List ℕ) (byte : ℕ) (bytes : List ℕ) → nodes_ended Empty bytes ≡ nodes_behind [] bytes → nodes_ended (begun (line ++ byte ∷ [])) bytes ≡ nodes_behind (line ++ byte ∷ []) bytes
    → option_to_list (cond b (node_in (begun line)) None) ++ nodes_ended (cond b Empty (with_byte (begun line) byte)) bytes
    ≡ cond b (option_to_list (node_of_line line) ++ nodes_behind [] bytes) (nodes_behind (line ++ byte ∷ []) bytes)
step true line byte bytes new on =
    ap (λ (o : Option NodeLine). option_to_list o ++ nodes_ended Empty bytes) (node_begun line)
    ∙ ap (λ (ns : List NodeLine). option_to_list (node_of_line line) ++ ns) new
step false line byte bytes new on = ap (λ (l : Line). nodes_ended l bytes) (begun_more line byte) ∙ on

same_nodes : (line bytes : List ℕ) → nodes_ended (begun line) bytes ≡ nodes_behind line bytes
unfolding nodes_ended nodes_behind
same_nodes line [] = refl
same_nodes line (byte ∷ bytes) = step (byte == code "\n") line byte bytes (same_nodes [] bytes) (same_nodes (line ++ byte ∷ []) bytes)

-- ---- a whole report

module _ {E : Type 0} (taken : E → Option (List ℕ)) (faults : E → ℕ) where
  -- the last line behind those that were told while the bytes came
  pub reported_all : (old mid new : E) (lines : Lines) (p p' : Progress) (bytes : List ℕ) → progress_data p ≡ beginning → p.line ≡ Empty → p.lines ≡ lines → WroteEach taken faults mid new (line_text Apart (progress_data p') ∷ [])
      → Passes taken faults old mid p p' bytes → WroteEach taken faults old new (progress_lines lines bytes)
  reported_all old mid new lines p p' bytes begins empty mode end h =
      let nodes : nodes_ended p.line bytes ≡ nodes_in bytes = ap (λ (l : Line). nodes_ended l bytes) empty ∙ same_nodes [] bytes in
      let came : progress_data p' ≡ progress_behind beginning (nodes_in bytes) =
      h.state ∙ ap (λ (d : ProgressData). progress_behind d (nodes_ended p.line bytes)) begins ∙ ap (λ (ns : List NodeLine). progress_behind beginning ns) nodes in
      let texts : lines_behind p.lines (progress_data p) (nodes_ended p.line bytes) ≡ lines_behind lines beginning (nodes_in bytes) =
      ap (λ (l : Lines). lines_behind l (progress_data p) (nodes_ended p.line bytes)) mode
      ∙ ap (λ (d : ProgressData). lines_behind lines d (nodes_ended p.line bytes)) begins
      ∙ ap (λ (ns : List NodeLine). lines_behind lines beginning ns) nodes in
      each_append taken faults old mid new _ _
      (subst (λ (ts : List (List ℕ)). WroteEach taken faults old mid ts) texts h.reported)
      (subst (λ (d : ProgressData). WroteEach taken faults mid new (line_text Apart d ∷ [])) came end)

module _ {S : Type 0} (left : S → Option (List ℕ)) (source source' : S) where
  -- what else is known of the bytes
  pub passed_map : {T : Type 0} (P Q : List ℕ → Type 0) → ((bytes : List ℕ) → P bytes → Q bytes) → (result : Result T CopyError) → PassedHas P left source source' result → PassedHas Q left source source' result
  passed_map P Q f (Ok x) h = (h.0, h.1, f h.0 h.2)
  passed_map P Q f (Err why.ReadFault) h = (h.0, h.1, f h.0 h.2)
  passed_map P Q f (Err why.WriteFault) h = (h.0, h.1, h.2, h.3, f h.0 h.4)
  passed_map P Q f (Err why.TooLong) h = (h.0, h.1, f h.0 h.2)

  -- a fault of the sink
  pub passed_but_last : (P : List ℕ → Type 0) (result : Result (Unit {0}) CopyError) → IsErrAnd result (λ e. e ≡ why.WriteFault) → (bytes last : List ℕ) → Consumes (left source) (left source') (bytes ++ last) → length last ≤ 4096 → P bytes
      → PassedHas P left source source' result
  passed_but_last P (Ok x) is bytes last took short h = absurd is
  passed_but_last P (Err e) is bytes last took short h = subst (λ (e : CopyError). PassedHas {T = Unit {0}} P left source source' (Err e)) (sym is) (bytes, last, took, short, h)
