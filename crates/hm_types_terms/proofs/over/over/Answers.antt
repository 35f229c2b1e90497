use Rattle.hm_types_table.specs.Tables.{replaced}
use Rattle.hm_types_terms.proofs.StandsOver.{added_at}
use Rattle.hm_types_terms.proofs.over.over.Goals as goal

pub returns-clause-extends : goal.returns-clause-extends
returns-clause-extends c = record { more = _; is = c.in_ok-add_like.ensures.node c.requires.node c.requires.is }

pub returns-clause-node : goal.returns-clause-node
returns-clause-node c n e =
    added_at c.args.table.now c.add_like.new.self (replaced n c.args.next.items c.args.other) c.in_ok-add_like.field-0 (c.in_ok-add_like.ensures.node n e)
    c.in_ok-add_like.ensures.place
