use Rattle.std.proofs.Common.{sym, ap, ◌∙◌}
use Rattle.hm_netscape_entries.specs.Entries.{text_of, address_in}
use Rattle.hm_netscape_marks.proofs.Passing.{link_sought}
use Rattle.hm_netscape_marks.proofs.seeking.lacks.Goals as goal

pub returns : goal.returns
returns c = λ found e attributes title.
    link_sought c.args.tree.now c.in_ok-key.key e c.in_ok-address.address (ap text_of title ∙ sym c.in_ok-key.ensures)
    (ap address_in attributes ∙ sym c.in_ok-address.ensures) (c.lacks_link.ensures found)
