use Rattle.hm_tree_cases.proofs.Small.{unlisted_alone_formed, unlisted_alone_leads}
use Rattle.hm_tree_cases.proofs.schemas.unlisted_alone.Goals as goal

pub new-requires-5 : goal.new-requires-5
new-requires-5 c =
    rw (
      c.in_ok-push-2.ensures.items,
      c.new-nodes.ensures.items,
      c.in_ok-push.ensures.items,
      c.new-shapes.ensures.items,
      c.in_ok-from_list.ensures,
      c.in_ok-from_list-2.ensures,
      c.new.ensures.items,
      c.new-2.ensures.items,
      c.new-3.ensures.items,
      c.new-4.ensures.items,
    )
    (unlisted_alone_formed c.args.class c.args.least c.args.most c.requires)

pub returns-clause-leads : goal.returns-clause-leads
returns-clause-leads c =
    rw (
      c.new-5.ensures,
      c.in_ok-push-2.ensures.items,
      c.new-nodes.ensures.items,
      c.in_ok-push.ensures.items,
      c.new-shapes.ensures.items,
      c.in_ok-from_list.ensures,
      c.in_ok-from_list-2.ensures,
      c.new.ensures.items,
      c.new-2.ensures.items,
      c.new-3.ensures.items,
      c.new-4.ensures.items,
    )
    (unlisted_alone_leads c.args.class c.args.least c.args.most)
