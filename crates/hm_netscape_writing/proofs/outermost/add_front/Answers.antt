use Rattle.std.proofs.Common.{[], refl, ap, ◌∙◌, subst}
use Rattle.hm_marks.specs.Layouts.{items_of}
use Rattle.hm_netscape_entries.specs.Entries.{html}
use Rattle.hm_netscape_entries.specs.Next.{Next, Begins}
use Rattle.hm_netscape_lines.specs.Behind.{seen, joined}
use Rattle.hm_netscape_writing.specs.Added.{first_of}
use Rattle.hm_netscape_writing.proofs.BarLeft.{not_first, none_joined, none_at_end}
use Rattle.hm_netscape_writing.proofs.Staying.{past_none, past_more, past_all, folder_next}
use Rattle.hm_netscape_writing.proofs.outermost.add_front.Goals as goal

pub loop-next-init : goal.loop-next-init
unfolding past_none
loop-next-init c = record {
  utf8 = c.requires.utf8;
  past = λ lists all more rest room left. (past_none 1 lists [] all c.args.trees.now c.args.out.now.items c.args.old.now more rest room left, refl);
}

pub returns-in-End-clause-found : goal.returns-in-End-clause-found
returns-in-End-clause-found c = λ lists all more rest room left.
    let p = c.loop-next.invariant.past lists all more rest room left in
    let ends = rw c.in-End.is at (c.next_entry.ensures.next p.0.after more rest p.0.left) in
    let d = past_all 1 lists [] all c.loop-next.trees c.args.out.now.items c.loop-next.out.items c.loop-next.rest.now c.next_entry.result.1.now more rest p.0 ends in
    record { none = none_at_end all p.0.passed p.0.after c.next_entry.result.1.now more rest p.0.are ends p.1; stayed = d.0; ends = d.1 }

pub returns-in-Some : goal.returns-in-Some
returns-in-Some c = record {
  found = λ lists all more rest room left.
      let p = c.loop-next.invariant.past lists all more rest room left in
      let bar = rw c.in-Some.is at c.bar_at.ensures in
      let back = c.next_entry.result.1.now in
      let f = folder_next p.0.after (seen c.in-Some.entry) back more rest
      (subst (λ (k : Next). Begins back more rest p.0.after k) bar.0 (c.next_entry.ensures.next p.0.after more rest p.0.left)) in
      record {
        front = p.0.passed;
        inside = f.inside;
        behind = f.behind;
        are = p.0.are ∙ ap (joined p.0.passed) f.are;
        none = p.1;
        is = bar.1;
        stayed = p.0.stayed;
        left = f.left;
      };
  utf8 = (c.next_entry.ensures.utf8 c.loop-next.invariant.utf8).1;
}

pub loop-next-preserved : goal.loop-next-preserved
unfolding past_more
loop-next-preserved c = record {
  utf8 = c.in_ok-rest-in-None.ensures.utf8;
  past = λ lists all more rest room left.
      let p = c.loop-next.invariant.past lists all more rest room left in
      let begins = c.next_entry.ensures.next p.0.after more rest p.0.left in (
        past_more 1 lists [] all c.loop-next.trees c.add_over.new.trees c.args.out.now.items c.loop-next.out.items c.add_over.new.out.items c.loop-next.rest.now
            c.in_ok-rest-in-None.rest.now more rest p.0
            (c.in_ok-rest-in-None.ensures.past lists (items_of html p.0.passed) p.0.after more rest p.0.stayed.have begins),
        none_joined p.0.passed (first_of p.0.after) p.1 ∙ not_first p.0.after _ c.next_entry.result.1.now more rest begins (rw c.in-None.is at c.bar_at.ensures),
      );
}
