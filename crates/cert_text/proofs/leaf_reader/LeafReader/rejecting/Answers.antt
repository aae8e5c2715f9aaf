use Rattle.std.proofs.Common.{◌≡◌, ◌∙◌, ◌+◌, ◌-◌, ℕ, ℤ, Bool, true, false, List, length, map, Ok, codes, ap, sym, arith, rules}
use Rattle.line_text.specs.declared.error.TextCause.TheVariants.{Syntax}
use Rattle.line_text.specs.Reading.{◌>>=◌, Cursor, at, line_at}
use Rattle.line_text.specs.Parts.{must}
use Rattle.line_text.specs.declared.error.FileError.TheVariants as file
use Rattle.line_text.specs.Follow.{place, reported_fault}
use Rattle.cert_text.specs.Lines.{values_of, marks_of}
use Rattle.cert_text.specs.Leaf.{rejected_of}
use Rattle.cert_text.specs.Nodes.{Node, reject, fits_leaf, rejecting_at}
use Rattle.cert_text.proofs.NodeSteps.{rejecting_is_read}
use Rattle.cert_text.proofs.Following.{begin_as, done, goes, refused, stops, tail}
use Rattle.cert_text.proofs.leaf_reader.LeafReader.rejecting.Goals as goal

pub returns-in_err-y : goal.returns-in_err-y
returns-in_err-y g c =
    let adds = c.calls_add_up.ensures in
    let s0 = begin_as adds (rejecting_at c.args.self.now (rejected_of c.args.rejected.now)) (λ p. (line_at (values_of (codes "y") (length c.args.self.now.asked.model.states) c.args.self.now.asked.w)) p >>= λ y. (line_at (marks_of (codes "choice") (map length c.args.self.now.asked.model.states))) y.1 >>= λ picks. (line_at (marks_of (codes "rank") (map (λ _. c.args.rejected.now.k + 1) c.args.self.now.asked.model.states))) picks.1 >>= λ ranks. at (ranks.1.0 - 4) (must (fits_leaf c.args.self.now (rejected_of c.args.rejected.now) y.0 picks.0 ranks.0) Syntax) >>= λ _. Ok (reject c.args.self.now.asked.w (record { numbers = y.0; picks = picks.0; ranks = ranks.0; e = c.args.rejected.now.e; k = c.args.rejected.now.k }), ranks.1)) (rejecting_is_read c.args.self.now (rejected_of c.args.rejected.now)) c.args.lines.now c.args.src.now in
    stops adds (line_at (values_of (codes "y") (length c.args.self.now.asked.model.states) c.args.self.now.asked.w)) (λ (y : List ℤ). λ (p : Cursor). (line_at (marks_of (codes "choice") (map length c.args.self.now.asked.model.states))) p >>= λ picks. (line_at (marks_of (codes "rank") (map (λ _. c.args.rejected.now.k + 1) c.args.self.now.asked.model.states))) picks.1 >>= λ ranks. at (ranks.1.0 - 4) (must (fits_leaf c.args.self.now (rejected_of c.args.rejected.now) y picks.0 ranks.0) Syntax) >>= λ _. Ok (reject c.args.self.now.asked.w (record { numbers = y; picks = picks.0; ranks = ranks.0; e = c.args.rejected.now.e; k = c.args.rejected.now.k }), ranks.1)) c.from_residual.result c.from_residual.ensures.1 s0 c.in_err-y.ensures.value

pub returns-in_err-picks : goal.returns-in_err-picks
returns-in_err-picks g c =
    let adds = c.calls_add_up.ensures in
    let s0 = begin_as adds (rejecting_at c.args.self.now (rejected_of c.args.rejected.now)) (λ p. (line_at (values_of (codes "y") (length c.args.self.now.asked.model.states) c.args.self.now.asked.w)) p >>= λ y. (line_at (marks_of (codes "choice") (map length c.args.self.now.asked.model.states))) y.1 >>= λ picks. (line_at (marks_of (codes "rank") (map (λ _. c.args.rejected.now.k + 1) c.args.self.now.asked.model.states))) picks.1 >>= λ ranks. at (ranks.1.0 - 4) (must (fits_leaf c.args.self.now (rejected_of c.args.rejected.now) y.0 picks.0 ranks.0) Syntax) >>= λ _. Ok (reject c.args.self.now.asked.w (record { numbers = y.0; picks = picks.0; ranks = ranks.0; e = c.args.rejected.now.e; k = c.args.rejected.now.k }), ranks.1)) (rejecting_is_read c.args.self.now (rejected_of c.args.rejected.now)) c.args.lines.now c.args.src.now in
    let s1 = goes adds (line_at (values_of (codes "y") (length c.args.self.now.asked.model.states) c.args.self.now.asked.w)) (λ (y : List ℤ). λ (p : Cursor). (line_at (marks_of (codes "choice") (map length c.args.self.now.asked.model.states))) p >>= λ picks. (line_at (marks_of (codes "rank") (map (λ _. c.args.rejected.now.k + 1) c.args.self.now.asked.model.states))) picks.1 >>= λ ranks. at (ranks.1.0 - 4) (must (fits_leaf c.args.self.now (rejected_of c.args.rejected.now) y picks.0 ranks.0) Syntax) >>= λ _. Ok (reject c.args.self.now.asked.w (record { numbers = y; picks = picks.0; ranks = ranks.0; e = c.args.rejected.now.e; k = c.args.rejected.now.k }), ranks.1)) s0 c.in_ok-y.ensures.value in
    stops adds (line_at (marks_of (codes "choice") (map length c.args.self.now.asked.model.states))) (λ (picks : List ℕ). λ (p : Cursor). (line_at (marks_of (codes "rank") (map (λ _. c.args.rejected.now.k + 1) c.args.self.now.asked.model.states))) p >>= λ ranks. at (ranks.1.0 - 4) (must (fits_leaf c.args.self.now (rejected_of c.args.rejected.now) c.in_ok-y.y.items picks ranks.0) Syntax) >>= λ _. Ok (reject c.args.self.now.asked.w (record { numbers = c.in_ok-y.y.items; picks = picks; ranks = ranks.0; e = c.args.rejected.now.e; k = c.args.rejected.now.k }), ranks.1)) c.from_residual-in_err-picks.result c.from_residual-in_err-picks.ensures.1 s1 c.in_err-picks.ensures.value

pub returns-in_err-ranks : goal.returns-in_err-ranks
returns-in_err-ranks g c =
    let adds = c.calls_add_up.ensures in
    let s0 = begin_as adds (rejecting_at c.args.self.now (rejected_of c.args.rejected.now)) (λ p. (line_at (values_of (codes "y") (length c.args.self.now.asked.model.states) c.args.self.now.asked.w)) p >>= λ y. (line_at (marks_of (codes "choice") (map length c.args.self.now.asked.model.states))) y.1 >>= λ picks. (line_at (marks_of (codes "rank") (map (λ _. c.args.rejected.now.k + 1) c.args.self.now.asked.model.states))) picks.1 >>= λ ranks. at (ranks.1.0 - 4) (must (fits_leaf c.args.self.now (rejected_of c.args.rejected.now) y.0 picks.0 ranks.0) Syntax) >>= λ _. Ok (reject c.args.self.now.asked.w (record { numbers = y.0; picks = picks.0; ranks = ranks.0; e = c.args.rejected.now.e; k = c.args.rejected.now.k }), ranks.1)) (rejecting_is_read c.args.self.now (rejected_of c.args.rejected.now)) c.args.lines.now c.args.src.now in
    let s1 = goes adds (line_at (values_of (codes "y") (length c.args.self.now.asked.model.states) c.args.self.now.asked.w)) (λ (y : List ℤ). λ (p : Cursor). (line_at (marks_of (codes "choice") (map length c.args.self.now.asked.model.states))) p >>= λ picks. (line_at (marks_of (codes "rank") (map (λ _. c.args.rejected.now.k + 1) c.args.self.now.asked.model.states))) picks.1 >>= λ ranks. at (ranks.1.0 - 4) (must (fits_leaf c.args.self.now (rejected_of c.args.rejected.now) y picks.0 ranks.0) Syntax) >>= λ _. Ok (reject c.args.self.now.asked.w (record { numbers = y; picks = picks.0; ranks = ranks.0; e = c.args.rejected.now.e; k = c.args.rejected.now.k }), ranks.1)) s0 c.in_ok-y.ensures.value in
    let s2 = goes adds (line_at (marks_of (codes "choice") (map length c.args.self.now.asked.model.states))) (λ (picks : List ℕ). λ (p : Cursor). (line_at (marks_of (codes "rank") (map (λ _. c.args.rejected.now.k + 1) c.args.self.now.asked.model.states))) p >>= λ ranks. at (ranks.1.0 - 4) (must (fits_leaf c.args.self.now (rejected_of c.args.rejected.now) c.in_ok-y.y.items picks ranks.0) Syntax) >>= λ _. Ok (reject c.args.self.now.asked.w (record { numbers = c.in_ok-y.y.items; picks = picks; ranks = ranks.0; e = c.args.rejected.now.e; k = c.args.rejected.now.k }), ranks.1)) s1 c.in_ok-picks.ensures.value in
    stops adds (line_at (marks_of (codes "rank") (map (λ _. c.args.rejected.now.k + 1) c.args.self.now.asked.model.states))) (λ (ranks : List ℕ). λ (p : Cursor). at (p.0 - 4) (must (fits_leaf c.args.self.now (rejected_of c.args.rejected.now) c.in_ok-y.y.items c.in_ok-picks.picks.items ranks) Syntax) >>= λ _. Ok (reject c.args.self.now.asked.w (record { numbers = c.in_ok-y.y.items; picks = c.in_ok-picks.picks.items; ranks = ranks; e = c.args.rejected.now.e; k = c.args.rejected.now.k }), p)) c.from_residual-in_err-ranks.result c.from_residual-in_err-ranks.ensures.1 s2 c.in_err-ranks.ensures.value

pub returns-then-not-fits_leaf : goal.returns-then-not-fits_leaf
returns-then-not-fits_leaf g c =
    let adds = c.calls_add_up.ensures in
    let s0 = begin_as adds (rejecting_at c.args.self.now (rejected_of c.args.rejected.now)) (λ p. (line_at (values_of (codes "y") (length c.args.self.now.asked.model.states) c.args.self.now.asked.w)) p >>= λ y. (line_at (marks_of (codes "choice") (map length c.args.self.now.asked.model.states))) y.1 >>= λ picks. (line_at (marks_of (codes "rank") (map (λ _. c.args.rejected.now.k + 1) c.args.self.now.asked.model.states))) picks.1 >>= λ ranks. at (ranks.1.0 - 4) (must (fits_leaf c.args.self.now (rejected_of c.args.rejected.now) y.0 picks.0 ranks.0) Syntax) >>= λ _. Ok (reject c.args.self.now.asked.w (record { numbers = y.0; picks = picks.0; ranks = ranks.0; e = c.args.rejected.now.e; k = c.args.rejected.now.k }), ranks.1)) (rejecting_is_read c.args.self.now (rejected_of c.args.rejected.now)) c.args.lines.now c.args.src.now in
    let s1 = goes adds (line_at (values_of (codes "y") (length c.args.self.now.asked.model.states) c.args.self.now.asked.w)) (λ (y : List ℤ). λ (p : Cursor). (line_at (marks_of (codes "choice") (map length c.args.self.now.asked.model.states))) p >>= λ picks. (line_at (marks_of (codes "rank") (map (λ _. c.args.rejected.now.k + 1) c.args.self.now.asked.model.states))) picks.1 >>= λ ranks. at (ranks.1.0 - 4) (must (fits_leaf c.args.self.now (rejected_of c.args.rejected.now) y picks.0 ranks.0) Syntax) >>= λ _. Ok (reject c.args.self.now.asked.w (record { numbers = y; picks = picks.0; ranks = ranks.0; e = c.args.rejected.now.e; k = c.args.rejected.now.k }), ranks.1)) s0 c.in_ok-y.ensures.value in
    let s2 = goes adds (line_at (marks_of (codes "choice") (map length c.args.self.now.asked.model.states))) (λ (picks : List ℕ). λ (p : Cursor). (line_at (marks_of (codes "rank") (map (λ _. c.args.rejected.now.k + 1) c.args.self.now.asked.model.states))) p >>= λ ranks. at (ranks.1.0 - 4) (must (fits_leaf c.args.self.now (rejected_of c.args.rejected.now) c.in_ok-y.y.items picks ranks.0) Syntax) >>= λ _. Ok (reject c.args.self.now.asked.w (record { numbers = c.in_ok-y.y.items; picks = picks; ranks = ranks.0; e = c.args.rejected.now.e; k = c.args.rejected.now.k }), ranks.1)) s1 c.in_ok-picks.ensures.value in
    let s3 = goes adds (line_at (marks_of (codes "rank") (map (λ _. c.args.rejected.now.k + 1) c.args.self.now.asked.model.states))) (λ (ranks : List ℕ). λ (p : Cursor). at (p.0 - 4) (must (fits_leaf c.args.self.now (rejected_of c.args.rejected.now) c.in_ok-y.y.items c.in_ok-picks.picks.items ranks) Syntax) >>= λ _. Ok (reject c.args.self.now.asked.w (record { numbers = c.in_ok-y.y.items; picks = c.in_ok-picks.picks.items; ranks = ranks; e = c.args.rejected.now.e; k = c.args.rejected.now.k }), p)) s2 c.in_ok-ranks.ensures.value in
    let fits : c.fits_leaf.result ≡ fits_leaf c.args.self.now (rejected_of c.args.rejected.now) c.in_ok-y.y.items c.in_ok-picks.picks.items c.in_ok-ranks.ranks.items = search rules in
    let none = c.in_ok-ranks.ensures.value.ran.left_with in
    let bad : fits_leaf c.args.self.now (rejected_of c.args.rejected.now) c.in_ok-y.y.items c.in_ok-picks.picks.items c.in_ok-ranks.ranks.items ≡ false = search rules in
    let lines = c.ranks_line.new.lines in
    let number : lines.given + 1 - 4 ≡ c.args.lines.now.given = omega (arith, c.in_ok-y.ensures.given, c.in_ok-picks.ensures.given, c.in_ok-ranks.ensures.given) in
    tail adds _ s3 (refused adds (λ (p : Cursor). at (p.0 - 4) (must (fits_leaf c.args.self.now (rejected_of c.args.rejected.now) c.in_ok-y.y.items c.in_ok-picks.picks.items c.in_ok-ranks.ranks.items) Syntax) >>= λ _. Ok (reject c.args.self.now.asked.w (record { numbers = c.in_ok-y.y.items; picks = c.in_ok-picks.picks.items; ranks = c.in_ok-ranks.ranks.items; e = c.args.rejected.now.e; k = c.args.rejected.now.k }), p)) lines c.ranks_line.new.src c.args.misfit (record { line = lines.given + 1 - 4; cause = Syntax }) none (λ later. ap (λ (fit : Bool). at (lines.given + 1 - 4) (must fit Syntax) >>= λ _. Ok (reject c.args.self.now.asked.w (record { numbers = c.in_ok-y.y.items; picks = c.in_ok-picks.picks.items; ranks = c.in_ok-ranks.ranks.items; e = c.args.rejected.now.e; k = c.args.rejected.now.k }), place lines later)) bad) (c.requires.misfit ∙ ap (λ (n : ℕ). file.Text (reported_fault (record { line = n; cause = Syntax }))) (sym number)))

pub returns : goal.returns
returns g c =
    let adds = c.calls_add_up.ensures in
    let s0 = begin_as adds (rejecting_at c.args.self.now (rejected_of c.args.rejected.now)) (λ p. (line_at (values_of (codes "y") (length c.args.self.now.asked.model.states) c.args.self.now.asked.w)) p >>= λ y. (line_at (marks_of (codes "choice") (map length c.args.self.now.asked.model.states))) y.1 >>= λ picks. (line_at (marks_of (codes "rank") (map (λ _. c.args.rejected.now.k + 1) c.args.self.now.asked.model.states))) picks.1 >>= λ ranks. at (ranks.1.0 - 4) (must (fits_leaf c.args.self.now (rejected_of c.args.rejected.now) y.0 picks.0 ranks.0) Syntax) >>= λ _. Ok (reject c.args.self.now.asked.w (record { numbers = y.0; picks = picks.0; ranks = ranks.0; e = c.args.rejected.now.e; k = c.args.rejected.now.k }), ranks.1)) (rejecting_is_read c.args.self.now (rejected_of c.args.rejected.now)) c.args.lines.now c.args.src.now in
    let s1 = goes adds (line_at (values_of (codes "y") (length c.args.self.now.asked.model.states) c.args.self.now.asked.w)) (λ (y : List ℤ). λ (p : Cursor). (line_at (marks_of (codes "choice") (map length c.args.self.now.asked.model.states))) p >>= λ picks. (line_at (marks_of (codes "rank") (map (λ _. c.args.rejected.now.k + 1) c.args.self.now.asked.model.states))) picks.1 >>= λ ranks. at (ranks.1.0 - 4) (must (fits_leaf c.args.self.now (rejected_of c.args.rejected.now) y picks.0 ranks.0) Syntax) >>= λ _. Ok (reject c.args.self.now.asked.w (record { numbers = y; picks = picks.0; ranks = ranks.0; e = c.args.rejected.now.e; k = c.args.rejected.now.k }), ranks.1)) s0 c.in_ok-y.ensures.value in
    let s2 = goes adds (line_at (marks_of (codes "choice") (map length c.args.self.now.asked.model.states))) (λ (picks : List ℕ). λ (p : Cursor). (line_at (marks_of (codes "rank") (map (λ _. c.args.rejected.now.k + 1) c.args.self.now.asked.model.states))) p >>= λ ranks. at (ranks.1.0 - 4) (must (fits_leaf c.args.self.now (rejected_of c.args.rejected.now) c.in_ok-y.y.items picks ranks.0) Syntax) >>= λ _. Ok (reject c.args.self.now.asked.w (record { numbers = c.in_ok-y.y.items; picks = picks; ranks = ranks.0; e = c.args.rejected.now.e; k = c.args.rejected.now.k }), ranks.1)) s1 c.in_ok-picks.ensures.value in
    let s3 = goes adds (line_at (marks_of (codes "rank") (map (λ _. c.args.rejected.now.k + 1) c.args.self.now.asked.model.states))) (λ (ranks : List ℕ). λ (p : Cursor). at (p.0 - 4) (must (fits_leaf c.args.self.now (rejected_of c.args.rejected.now) c.in_ok-y.y.items c.in_ok-picks.picks.items ranks) Syntax) >>= λ _. Ok (reject c.args.self.now.asked.w (record { numbers = c.in_ok-y.y.items; picks = c.in_ok-picks.picks.items; ranks = ranks; e = c.args.rejected.now.e; k = c.args.rejected.now.k }), p)) s2 c.in_ok-ranks.ensures.value in
    let fits : c.fits_leaf.result ≡ fits_leaf c.args.self.now (rejected_of c.args.rejected.now) c.in_ok-y.y.items c.in_ok-picks.picks.items c.in_ok-ranks.ranks.items = search rules in
    let none = c.in_ok-ranks.ensures.value.ran.left_with in
    let good : fits_leaf c.args.self.now (rejected_of c.args.rejected.now) c.in_ok-y.y.items c.in_ok-picks.picks.items c.in_ok-ranks.ranks.items ≡ true = search rules in
    let lines = c.ranks_line.new.lines in
    done adds c.leaf.result none s3 (λ later. ap (λ (fit : Bool). at (lines.given + 1 - 4) (must fit Syntax) >>= λ _. Ok (reject c.args.self.now.asked.w (record { numbers = c.in_ok-y.y.items; picks = c.in_ok-picks.picks.items; ranks = c.in_ok-ranks.ranks.items; e = c.args.rejected.now.e; k = c.args.rejected.now.k }), place lines later)) good
    ∙ ap (λ (node : Node). Ok (node, place lines later)) (sym c.leaf.ensures))
