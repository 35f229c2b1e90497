use Rattle.std.proofs.Common.{sym, ap, ◌∙◌, subst}
use Rattle.serde_json.specs.Data.{object, put, Members}
use Rattle.serde_json.specs.Find.{get_member}
use Rattle.serde_json.specs.View.{view, members_view}
use Rattle.serde_json.specs.declared.value.Value.{Object}
use Rattle.serde_json.proofs.Views.{view-Object}
use Rattle.hm_json_marks.specs.Roots.{roots_key, bar_key, other_key}
use Rattle.hm_json_marks.specs.Rewriting.{HasRootAt, IsRootWritten}
use Rattle.hm_json_marks.proofs.WrittenRoots.{taken_apart, same_members, bar_root, other_root, bar_at, other_at, roots_written}
use Rattle.hm_json_marks.proofs.writing.roots_anew.Goals as goal

pub members_of-members-requires : goal.members_of-members-requires
members_of-members-requires c = (c.requires.roots.members.file, c.requires.roots.members.is)

pub members_of-requires : goal.members_of-requires
members_of-requires c =
    let h = c.requires.roots in
    (h.members.roots, (taken_apart (view c.args.file) h (members_view c.members_of-members.result.entries) c.in_ok-roots.field-0 c.in-Some.roots c.members_of-members.ensures c.in_ok-roots.ensures.old c.in-Some.is).0)

pub both_anew-requires-clause-bar_root : goal.both_anew-requires-clause-bar_root
both_anew-requires-clause-bar_root c =
    let h = c.requires.roots in
    let apart = taken_apart (view c.args.file) h (members_view c.members_of-members.result.entries) c.in_ok-roots.field-0 c.in-Some.roots c.members_of-members.ensures c.in_ok-roots.ensures.old c.in-Some.is in
    subst (HasRootAt bar_key) (same_members _ _ (view c.in-Some.roots) apart.0 c.members_of.ensures) (bar_root (view c.args.file) h)

pub both_anew-requires-clause-other_root : goal.both_anew-requires-clause-other_root
both_anew-requires-clause-other_root c =
    let h = c.requires.roots in
    let apart = taken_apart (view c.args.file) h (members_view c.members_of-members.result.entries) c.in_ok-roots.field-0 c.in-Some.roots c.members_of-members.ensures c.in_ok-roots.ensures.old c.in-Some.is in
    subst (HasRootAt other_key) (same_members _ _ (view c.in-Some.roots) apart.0 c.members_of.ensures) (other_root (view c.args.file) h)

pub returns : goal.returns
returns c = λ h.
    let apart = taken_apart (view c.args.file) h (members_view c.members_of-members.result.entries) c.in_ok-roots.field-0 c.in-Some.roots c.members_of-members.ensures c.in_ok-roots.ensures.old c.in-Some.is in
    let same = same_members _ _ (view c.in-Some.roots) apart.0 c.members_of.ensures in
    let w = c.in_ok-roots-in-Some.ensures h.bar_node h.other_node h.bar h.other (ap (get_member bar_key) (sym same) ∙ bar_at (view c.args.file) h)
    (ap (get_member other_key) (sym same) ∙ other_at (view c.args.file) h) in
    roots_written (view c.args.file) h c.args.bar.now c.args.other.now w.between (members_view c.in_ok-roots-in-Some.roots.entries) _ (view (Object c.set.new.members))
    (subst (λ (rs : Members). IsRootWritten bar_key c.args.bar.now h.bar_node h.bar rs w.between) (sym same) w.bar_written) w.other_written
    (view-Object c.set.new.members ∙ ap object (c.in_ok-set-in-Some.ensures ∙ (λ i. put roots_key (view-Object c.in_ok-roots-in-Some.roots i)
    ((c.in_ok-roots.ensures.new ∙ ap (put roots_key _) apart.1) i))))
