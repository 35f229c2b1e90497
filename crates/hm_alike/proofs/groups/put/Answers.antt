use Rattle.hm_alike.proofs.Lent.{put_name}
use Rattle.hm_alike.proofs.groups.put.Goals as goal

pub returns : goal.returns
returns c =
    put_name c.args.groups.now.items c.args.place c.index_mut.result.now c.push.new.self c.args.name c.requires
    c.index_mut.ensures.value c.in_ok-push.ensures.items
