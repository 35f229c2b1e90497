use Rattle.std.proofs.Common.{ℕ, List, Option, sym, subst}
use Rattle.std.specs.Borrow.{Bor}
use Rattle.std.specs.Option.{option_map}
use Rattle.hm_netscape_entries.specs.Next.{note_seen}
use Rattle.hm_netscape_entries.specs.Written.{trimmed, note_lines}
use Rattle.hm_netscape_lines.specs.Behind.{AreBehind}
use Rattle.hm_netscape_lines.proofs.Trimmed.{note_line}
use Rattle.hm_netscape_lines.proofs.lines.add_note.Goals as goal

pub returns-in_ok-push-in-Some : goal.returns-in_ok-push-in-Some
returns-in_ok-push-in-Some c =
    subst (λ (o : Option (Bor (List ℕ))). AreBehind c.args.level c.args.out.now.items c.push.new.self.items (note_lines (option_map trimmed (note_seen o))))
    (sym c.in-Some.is)
    (note_line c.args.level c.args.out.now.items c.begin_line.new.out.items c.extend_from_slice.new.self.items c.push.new.self.items c.in-Some.bytes.now
    c.trim_ascii_end.result.now c.in_ok-begin_line-in-Some.ensures c.in_ok-extend_from_slice-in-Some.ensures.items c.in_ok-push-in-Some.ensures.items
    c.trim_ascii_end.ensures.value)
