use Rattle.std.proofs.Common.{ℕ, List, ◌++◌, ap, ◌∙◌}
use Rattle.hm_marks_tokens.specs.Entities.{escaped}
use Rattle.hm_netscape_lines.proofs.Trimmed.{new_link_line}
use Rattle.hm_netscape_lines.proofs.anew.add_new_link.Goals as goal

pub returns : goal.returns
returns c =
    new_link_line c.args.level c.args.out.now.items c.begin_line.new.out.items c.add_escaped.new.out.items c.extend_from_slice.new.self.items c.add_escaped-2.new.out.items
    c.extend_from_slice-2.new.self.items (escaped c.args.address.now) (escaped c.args.title.now) c.in_ok-begin_line.ensures
    (c.in_ok-add_escaped.ensures ∙ ap (λ (b : List ℕ). c.begin_line.new.out.items ++ escaped b) c.bytes.ensures.value) c.in_ok-extend_from_slice.ensures.items
    (c.in_ok-add_escaped-2.ensures ∙ ap (λ (b : List ℕ). c.extend_from_slice.new.self.items ++ escaped b) c.bytes-2.ensures.value) c.in_ok-extend_from_slice-2.ensures.items
