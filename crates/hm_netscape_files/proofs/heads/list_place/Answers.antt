use Rattle.std.proofs.Common.{◌≡◌, false, drop, sym, ap, ◌∙◌}
use borrow.Author.Count.{below_more}
use Rattle.hm_netscape_files.specs.Heads.{begins_list}
use Rattle.hm_netscape_files.proofs.heads.list_place.Goals as goal

pub loop-place-preserved : goal.loop-place-preserved
loop-place-preserved c =
    below_more (λ k. begins_list (drop k c.args.bytes.now) ≡ false) c.loop-place.place c.loop-place.invariant
    (sym (ap begins_list c.split_at.ensures.back) ∙ sym c.begins_list.ensures ∙ c.if-begins_list.false)
