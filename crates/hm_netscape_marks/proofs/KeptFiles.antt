-- What is written is read as the tree, and what trees don't show stays.
use Rattle.std.proofs.Common.{◌≡◌, ℕ, List, None, refl, sym, ◌∙◌, subst}
use Rattle.std.specs.Prelude.{Ok}
use Rattle.hm_tree.specs.Nodes.{Tree}
use Rattle.hm_marks_schema.specs.Nesting.{marks_over}
use Rattle.hm_marks_tokens.specs.Grammar.{Contents}
use Rattle.hm_netscape_entries.specs.Written.{tidied}
use Rattle.hm_netscape_files.specs.Files.{IsFile, NetscapeReads}
use Rattle.hm_netscape_files.specs.Writing.{IsWrittenAnew, NetscapeWrites, stays, anew}
use Rattle.hm_netscape_files.proofs.ReadAnew.{old_stands, found_again, read_anew}
use Rattle.hm_netscape_marks.specs.Kept.{OutermostKeeps, NetscapeKeeps}
use Rattle.hm_netscape_marks.proofs.TidiedTwice.{tidied_twice, tidied_alike}
use Rattle.hm_netscape_marks.proofs.TidiedKept.{outermost_tidied}
use Rattle.hm_netscape_marks.proofs.BarKept.{outermost_kept, outermost_itself}

-- bytes that stay keep all
file_keeps_itself : (bytes : List ℕ) (c : Contents) → IsFile bytes c → NetscapeKeeps bytes bytes
file_keeps_itself bytes c file =
    record { old = c; new = c; was = file; is = file; head_size = refl; head_stays = refl; tail_stays = refl; entries = outermost_itself (tidied c) }

-- bytes that are written anew keep all that has to stay
keeps_anew : (t : Tree) (before after : List ℕ) → IsWrittenAnew t before after → NetscapeKeeps before after
keeps_anew t before after w =
    let again = found_again t before after w in
    let same : tidied again.found ≡ tidied w.new = tidied_alike (tidied w.new) again.found again.alike ∙ tidied_twice w.new in
    record {
      old = w.old;
      new = again.found;
      was = w.file;
      is = again.file;
      head_size = again.size;
      head_stays = again.head;
      tail_stays = again.tail;
      entries = subst (λ (c : Contents). OutermostKeeps (tidied w.old) c) (sym same)
          (outermost_tidied w.old w.new (outermost_kept w.old t w.new (old_stands t before after w) w.anew));
    }

-- what is written is read as the tree
pub put_get : (t : Tree) (before after : List ℕ) → marks_over t ≡ None → NetscapeWrites t before after → NetscapeReads after (Ok t)
put_get t before after over (stays h) = h
put_get t before after over (anew not_read w) = read_anew t before after w over

pub kept : (t : Tree) (before after : List ℕ) → NetscapeWrites t before after → NetscapeKeeps before after
kept t before after (stays h) = file_keeps_itself before h.0.contents h.0.file
kept t before after (anew not_read w) = keeps_anew t before after w
