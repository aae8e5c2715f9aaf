use Rattle.std.proofs.Common.{◌≡◌, ◌*◌, length, refl, sym, ap, ◌∙◌, subst}
use Rattle.region_tree.specs.Nodes.{Node}
use Rattle.region_tree.specs.Recent.{KeepsPlaces, NotesAccepted, NotesRejected}
use Rattle.region_tree.specs.Right.{Decision}
use Rattle.region_tree.specs.Rooms.{LanesData}
use Rattle.region_tree.specs.Walking.{AreReady}
use Rattle.region_tree.proofs.Ahead.{split_given, accept_given, reject_given, unknown_given, accept_noted, reject_noted}
use Rattle.region_tree.proofs.Goings.{same_shape, shape_with, still_ready}
use Rattle.region_tree.proofs.Shapes.{inside_ends}
use Rattle.region_tree.proofs.Shown.{took, stands}
use Rattle.region_tree.proofs.known.GoingGuide.next.Goals as goal

pub note_accepted-requires : goal.note_accepted-requires
note_accepted-requires g c =
    let k = c.args.self.now.search.case.now in
    let ready = c.requires.ready.1 in
    let size : length c.args.sides.now ≡ 2 * length k.model.names = inside_ends k c.w.ensures.case c.args.sides.now c.requires.sides in
    let decided : c.room.inside.decided ≡ c.args.room.now.decided = ap (λ l. l.decided) c.room.view_is in
    rw (size, decided) ready.has.decided

pub note_rejected-requires : goal.note_rejected-requires
note_rejected-requires g c =
    let k = c.args.self.now.search.case.now in
    let ready = c.requires.ready.1 in
    let size : length c.args.sides.now ≡ 2 * length k.model.names = inside_ends k c.w.ensures.case c.args.sides.now c.requires.sides in
    let decided : c.room.inside.decided ≡ c.args.room.now.decided = ap (λ l. l.decided) c.room.view_is in
    rw (size, decided) ready.has.decided

pub returns-in-Split-clause-given : goal.returns-in-Split-clause-given
returns-in-Split-clause-given g c t rest ahead =
    let s = split_given g.B.Base.is_ahead g.B.Base.bytes (g.B.Base.entry c.args.base.now) c.args.base.now c.next.new.self c.in-Split.axis c.in-Split.ensures.gives t rest ahead.0 in
    (s.0, (s.1.0, (s.1.1.0, ((s.1.1.1, λ n. ap (λ f. f n) c.in-Split.ensures.entry ∙ ahead.1 n), refl))))

pub returns-in-Unknown-clause-given : goal.returns-in-Unknown-clause-given
returns-in-Unknown-clause-given g c t rest ahead =
    let s = unknown_given g.B.Base.is_ahead g.B.Base.bytes (g.B.Base.entry c.args.base.now) c.args.base.now c.next.new.self c.in-Unknown.ensures.gives t rest ahead.0 in
    (s.0, ((s.1, λ n. ap (λ f. f n) c.in-Unknown.ensures.entry ∙ ahead.1 n), refl))

pub returns-in-Accept-clause-ready : goal.returns-in-Accept-clause-ready
returns-in-Accept-clause-ready g c made ready =
    let search = c.args.self.now.search in
    let k = search.case.now in
    let room = c.args.room.now in
    let noted = c.note_accepted.new.self in
    let decided : c.room.inside.decided ≡ room.decided = ap (λ l. l.decided) c.room.view_is in
    let places : KeepsPlaces room.decided noted = rw decided at c.note_accepted.ensures.places in
    let notes : NotesAccepted c.args.sides.now room.decided noted = rw decided at c.note_accepted.ensures.notes in
    let ahead = c.requires.ahead in
    let known = accept_noted g.B.Base.is_ahead g.B.Base.bytes (g.B.Base.entry c.args.base.now) c.args.base.now c.next.new.self c.certificates_are_of_one_kind.ensures.shared k c.w.ensures.case search.sought c.args.sides.now c.requires.sides room.decided noted ready.known
    c.certificates_double.ensures.accepting c.ranks_fit.ensures.any c.in-Accept.ensures.gives ahead.0 ahead.1.0 ahead.1.1.0.0 ahead.1.1.1 notes in
    let after : LanesData = record room { decided = noted } in
    let still : AreReady k search.links.now search.sought search.from made after = still_ready k search.links.now search.sought search.from made room after (shape_with room room noted (same_shape room) places) known ready in
    subst (λ l. AreReady k search.links.now search.sought search.from made l) (sym (ap (λ (l : LanesData). let x : LanesData = record l { decided = noted } in x) c.room.view_is)) still

pub returns-in-Accept-clause-given : goal.returns-in-Accept-clause-given
returns-in-Accept-clause-given g c t rest ahead =
    let s = accept_given g.B.Base.is_ahead g.B.Base.bytes (g.B.Base.entry c.args.base.now) c.args.base.now c.next.new.self c.in-Accept.ensures.gives t rest ahead.0 in
    let node = Node.accept s.0 s.1.0 in
    let visits = rw (c.bytes.ensures ∙ s.1.1.1.0 ∙ ahead.1 node) at c.copy.ensures.visits in (
      Decision.accept s.0 s.1.0,
      (
        s.1.1.0,
        (
          (s.1.1.1.1, λ n. ap (λ f. f n) c.in-Accept.ensures.entry ∙ ahead.1 n ∙ sym (ap (λ f. f n) c.copy.ensures.entry)),
          (took g.V.Visitor.taken g.V.Visitor.faults c.args.out.now c.copy.new.self c.copy.result (g.V.Visitor.entry c.args.out.now node) c.kept.result c.kept.ensures visits, stands c.kept.result),
        ),
      ),
    )

pub returns-in-Reject-clause-ready : goal.returns-in-Reject-clause-ready
returns-in-Reject-clause-ready g c made ready =
    let search = c.args.self.now.search in
    let k = search.case.now in
    let room = c.args.room.now in
    let noted = c.note_rejected.new.self in
    let decided : c.room.inside.decided ≡ room.decided = ap (λ l. l.decided) c.room.view_is in
    let places : KeepsPlaces room.decided noted = rw decided at c.note_rejected.ensures.places in
    let notes : NotesRejected c.args.sides.now room.decided noted = rw decided at c.note_rejected.ensures.notes in
    let ahead = c.requires.ahead in
    let known = reject_noted g.B.Base.is_ahead g.B.Base.bytes (g.B.Base.entry c.args.base.now) c.args.base.now c.next.new.self c.certificates_are_of_one_kind.ensures.shared k c.w.ensures.case search.sought c.args.sides.now c.requires.sides room.decided noted ready.known
    c.certificates_double.ensures.rejecting c.in-Reject.ensures.gives ahead.0 ahead.1.0 ahead.1.1.0.0 ahead.1.1.1 notes in
    let after : LanesData = record room { decided = noted } in
    let still : AreReady k search.links.now search.sought search.from made after = still_ready k search.links.now search.sought search.from made room after (shape_with room room noted (same_shape room) places) known ready in
    subst (λ l. AreReady k search.links.now search.sought search.from made l) (sym (ap (λ (l : LanesData). let x : LanesData = record l { decided = noted } in x) c.room.view_is)) still

pub returns-in-Reject-clause-given : goal.returns-in-Reject-clause-given
returns-in-Reject-clause-given g c t rest ahead =
    let s = reject_given g.B.Base.is_ahead g.B.Base.bytes (g.B.Base.entry c.args.base.now) c.args.base.now c.next.new.self c.in-Reject.ensures.gives t rest ahead.0 in
    let node = Node.reject s.0 s.1.0 in
    let visits = rw (c.bytes-in-Reject.ensures ∙ s.1.1.1.0 ∙ ahead.1 node) at c.copy-in-Reject.ensures.visits in (
      Decision.reject s.0 s.1.0,
      (
        s.1.1.0,
        (
          (s.1.1.1.1, λ n. ap (λ f. f n) c.in-Reject.ensures.entry ∙ ahead.1 n ∙ sym (ap (λ f. f n) c.copy-in-Reject.ensures.entry)),
          (took g.V.Visitor.taken g.V.Visitor.faults c.args.out.now c.copy-in-Reject.new.self c.copy-in-Reject.result (g.V.Visitor.entry c.args.out.now node) c.kept-in-Reject.result c.kept-in-Reject.ensures visits, stands c.kept-in-Reject.result),
        ),
      ),
    )
