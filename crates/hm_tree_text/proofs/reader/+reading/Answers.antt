use Rattle.std.proofs.Common.{◌-◌, refl, arith, ◌∙◌}
use Rattle.std.proofs.lemmas.Result.{err_from_is_err_and}
use Rattle.hm_tree_text.proofs.Gathering.{gathered_none, gathered_more, gathered_all, taken_make, edge_fails}
use Rattle.hm_tree_text.proofs.Making.{same_after}
use Rattle.hm_tree_text.proofs.Reached.{not_false, if_ok, if_err, passed, name_fails, below_fails, separator_fails, edge_read, edge_longer, below_nothing, below_mark, full_fails, too_deep, below_inside, inside_fails}
use Rattle.hm_tree_text.proofs.reader.+reading.Goals as goal

pub read_below-returns-then-not-is_at-clause-text : goal.read_below-returns-then-not-is_at-clause-text
read_below-returns-then-not-is_at-clause-text g t c =
    below_nothing _ _ _ _ c.requires _ c.empty.ensures (λ r e. not_false (c.if-not-is_at.ensures.only r e))

pub read_below-returns-in-Some-clause-text : goal.read_below-returns-in-Some-clause-text
read_below-returns-in-Some-clause-text g t c = below_mark _ _ _ _ c.requires (c.if-not-is_at.ensures.there refl) _ c.in-Some.ensures.0
    c.in-Some.ensures.1 c.in-Some.ensures.2

pub read_below-returns-then-not-is_at-2-clause-fault : goal.read_below-returns-then-not-is_at-2-clause-fault
read_below-returns-then-not-is_at-2-clause-fault g t c =
    full_fails _ _ _ _ c.requires (c.if-not-is_at.ensures.there refl) (λ r e. not_false (c.if-not-is_at-2.ensures.only r e)) c.in_default.ensures

pub read_below-returns-then-room-eq0-clause-fault : goal.read_below-returns-then-room-eq0-clause-fault
read_below-returns-then-room-eq0-clause-fault g t c =
    too_deep _ _ _ _ c.requires (c.if-not-is_at.ensures.there refl) (c.if-not-is_at-2.ensures.there refl) c.if-room-eq0.true

pub read_below-returns-clause-text : goal.read_below-returns-clause-text
read_below-returns-clause-text g t c =
    if_ok _ _ c.read_inside.result (λ read h. below_inside _ _ _ _ c.requires (c.if-not-is_at.ensures.there refl)
    (c.if-not-is_at-2.ensures.there refl) (c.args.room - 1) (omega arith) _ _ h) c.read_inside.ensures.text

pub read_below-returns-clause-fault : goal.read_below-returns-clause-fault
read_below-returns-clause-fault g t c =
    if_err _ _ c.read_inside.result (λ fault h. inside_fails _ _ _ _ c.requires (c.if-not-is_at.ensures.there refl)
    (c.if-not-is_at-2.ensures.there refl) (c.args.room - 1) (omega arith) fault h) c.read_inside.ensures.fault

pub read_edge-returns-in_err-name-clause-fault : goal.read_edge-returns-in_err-name-clause-fault
read_edge-returns-in_err-name-clause-fault g t c =
    let after = same_after g.B.Built.value _ _ c.deref.ensures.value c.args.start _ c.last_name.ensures in
    let p = err_from_is_err_and c.from_residual.result c.from_residual.ensures.1 in
    passed _ _ _ _ p.1 p.2 (name_fails _ _ _ _ _ c.requires.place _ after _ c.in_err-name.ensures.fault)

pub read_edge-returns-in_err-child-clause-fault : goal.read_edge-returns-in_err-child-clause-fault
read_edge-returns-in_err-child-clause-fault g t c =
    let after = same_after g.B.Built.value _ _ c.deref.ensures.value c.args.start _ c.last_name.ensures in
    let p = err_from_is_err_and c.from_residual-in_err-child.result c.from_residual-in_err-child.ensures.1 in
    passed _ _ _ _ p.1 p.2 (below_fails _ _ _ _ _ c.requires.place _ _ c.in_ok-name.ensures.text ((after _).1 c.in_ok-name.ensures.after)
    c.in_ok-name.ensures.stands _ c.in_err-child.ensures.fault)

pub read_edge-returns-then-is_at-clause-text : goal.read_edge-returns-then-is_at-clause-text
read_edge-returns-then-is_at-clause-text g t c =
    let after = same_after g.B.Built.value _ _ c.deref.ensures.value c.args.start _ c.last_name.ensures in
    edge_read _ _ _ _ _ c.requires.place _ _ c.in_ok-name.ensures.text ((after _).1 c.in_ok-name.ensures.after) c.in_ok-name.ensures.stands _ _
    c.in_ok-child.ensures.text _ (c.if-is_at.ensures.there refl)

pub read_edge-returns-then-is_at-2-clause-text : goal.read_edge-returns-then-is_at-2-clause-text
read_edge-returns-then-is_at-2-clause-text g t c =
    let after = same_after g.B.Built.value _ _ c.deref.ensures.value c.args.start _ c.last_name.ensures in
    edge_read _ _ _ _ _ c.requires.place _ _ c.in_ok-name.ensures.text ((after _).1 c.in_ok-name.ensures.after) c.in_ok-name.ensures.stands _ _
    c.in_ok-child.ensures.text _ (c.if-is_at-2.ensures.there refl)

pub read_edge-returns-else-is_at-2-clause-fault : goal.read_edge-returns-else-is_at-2-clause-fault
read_edge-returns-else-is_at-2-clause-fault g t c =
    let after = same_after g.B.Built.value _ _ c.deref.ensures.value c.args.start _ c.last_name.ensures in
    separator_fails _ _ _ _ _ c.requires.place _ _ c.in_ok-name.ensures.text ((after _).1 c.in_ok-name.ensures.after)
    c.in_ok-name.ensures.stands _ _ c.in_ok-child.ensures.text (λ r e. not_false (c.if-is_at.ensures.only r e))
    (λ r e. not_false (c.if-is_at-2.ensures.only r e))

pub read_inside-loop-edge-init : goal.read_inside-loop-edge-init
read_inside-loop-edge-init g t c = gathered_none _ _ _ _ _ _ _ (c.len-start.ensures ∙ c.args.pending.now.ok.0) c.requires

pub read_inside-returns-in_err-edge-clause-fault : goal.read_inside-returns-in_err-edge-clause-fault
read_inside-returns-in_err-edge-clause-fault g t c =
    let p = err_from_is_err_and c.from_residual.result c.from_residual.ensures.1 in
    passed _ _ _ _ p.1 p.2 (edge_fails _ _ _ _ _ _ c.loop-edge.invariant.gathered c.requires _ c.in_err-edge.ensures.fault)

pub read_inside-of_edges-requires : goal.read_inside-of_edges-requires
read_inside-of_edges-requires g t c = taken_make _ _ _ _ _ _ _ _ _ c.loop-edge.invariant _ _ _ _ c.in_ok-edge.ensures.text _ _
    c.in_ok-edge.ensures.kept c.in_ok-add_edge.ensures _ c.in_ok-edges.ensures.taken

pub read_inside-returns-then-not-edge-clause-text : goal.read_inside-returns-then-not-edge-clause-text
read_inside-returns-then-not-edge-clause-text g t c = gathered_all _ _ _ _ _ _ _ _ _ c.loop-edge.invariant _ _ _ _ c.in_ok-edge.ensures.text _ _
    c.in_ok-edge.ensures.kept c.in_ok-add_edge.ensures c.if-not-edge.true _ _ c.in_ok-edges.ensures.taken c.in_ok-of_edges.ensures

pub read_inside-loop-edge-smaller : goal.read_inside-loop-edge-smaller
read_inside-loop-edge-smaller g t c =
    let longer = edge_longer _ _ _ _ _ _ _ _ _ c.loop-edge.invariant.gathered.stands.within c.in_ok-edge.ensures.text in
    let within = c.in_ok-edge.ensures.text.stands.within in
    omega arith

pub read_inside-loop-edge-preserved : goal.read_inside-loop-edge-preserved
read_inside-loop-edge-preserved g t c = gathered_more _ _ _ _ _ _ _ _ _ c.loop-edge.invariant _ _ _ _ c.in_ok-edge.ensures.text _ _
    c.in_ok-edge.ensures.kept c.in_ok-add_edge.ensures c.if-not-edge.false
