-- The tree of a file is a member of the schema of bookmarks: its keys and addresses are clean.
use Rattle.std.proofs.Common.{ℕ, List, []}
use Rattle.std.specs.Prelude.{Ok}
use Rattle.std.specs.Option.{unwrap_or}
use Rattle.hm_tree.specs.Nodes.{Tree}
use Rattle.hm_tree.proofs.Classed.{cleaned-cleaned}
use Rattle.hm_schema.specs.Membership.{IsMemberTree}
use Rattle.hm_marks.specs.Contents.{nothing, link, folder, separator}
use Rattle.hm_marks_schema.specs.Schema.{marks_schema}
use Rattle.hm_marks_schema.specs.Bookmarks.{HaveCleanTexts}
use Rattle.hm_marks_schema.proofs.Members.{bookmarks_are_members}
use Rattle.hm_marks_tokens.specs.Attributes.{address_of}
use Rattle.hm_marks_tokens.specs.Entities.{unescaped}
use Rattle.hm_marks_tokens.specs.Grammar.{Contents}
use Rattle.hm_netscape_entries.specs.Entries.{html}
use Rattle.hm_netscape_entries.specs.Toolbars.{bar_of, other_of}
use Rattle.hm_netscape_files.specs.Files.{NetscapeReads}

clean_texts : (c : Contents) → HaveCleanTexts html c
clean_texts nothing = tt
clean_texts (link e c) =
    ((cleaned-cleaned (unescaped e.title), cleaned-cleaned (unescaped (unwrap_or (address_of e.attributes) []))), clean_texts c)
clean_texts (folder e inside c) = (cleaned-cleaned (unescaped e.title), clean_texts inside, clean_texts c)
clean_texts (separator a c) = (tt, clean_texts c)

pub member_read : (bytes : List ℕ) (t : Tree) → NetscapeReads bytes (Ok t) → IsMemberTree marks_schema t
member_read bytes t is =
    let c = is.0.contents in
    bookmarks_are_members html (bar_of c) (other_of c) t is.0.tree (clean_texts (bar_of c)) (clean_texts (other_of c))
