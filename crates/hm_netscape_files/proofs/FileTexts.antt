-- The keys and addresses of what stands in a folder are UTF-8, where its bytes are.
use Rattle.std.proofs.Common.{ℕ, List, [], Option, Some, None}
use Rattle.std.specs.Prelude.{IfSome}
use Rattle.std.specs.Option.{unwrap_or}
use Rattle.std.specs.Str.{IsUtf8}
use Rattle.std.proofs.lemmas.Str.{IsUtf8-nil}
use Rattle.hm_tree.proofs.CleanText.{cleaned_utf8}
use Rattle.hm_marks.specs.Contents.{nothing, link, folder, separator}
use Rattle.hm_marks_schema.specs.Bookmarks.{HaveUtf8Texts}
use Rattle.hm_marks_tokens.specs.Attributes.{address_of}
use Rattle.hm_marks_tokens.specs.Entities.{unescaped}
use Rattle.hm_marks_tokens.specs.Grammar.{Contents}
use Rattle.hm_marks_tokens.proofs.Utf8.{unescaped_utf8}
use Rattle.hm_netscape_entries.specs.Entries.{text_of, address_in, html}
use Rattle.hm_netscape_entries.specs.Next.{IsUtf8Entry}
use Rattle.hm_netscape_entries.specs.Toolbars.{bar_of, other_of}
use Rattle.hm_netscape_entries.proofs.Addresses.{address_utf8}
use Rattle.hm_netscape_files.proofs.BarParts.{bar_holds, other_holds}
use Rattle.hm_netscape_files.proofs.EntryTexts.{HaveUtf8Bytes}

text_utf8 : (bytes : List ℕ) → IsUtf8 bytes → IsUtf8 (text_of bytes)
text_utf8 bytes utf8 = cleaned_utf8 (unescaped bytes) (unescaped_utf8 bytes utf8)

address_text : (attributes : List ℕ) → IsUtf8 attributes → IsUtf8 (address_in attributes)
address_text attributes utf8 = go (address_of attributes) (address_utf8 attributes utf8)
  where
    go : (o : Option (List ℕ)) → IfSome o IsUtf8 → IsUtf8 (text_of (unwrap_or o []))
    go None h = text_utf8 [] IsUtf8-nil
    go (Some a) h = text_utf8 a h

texts : (c : Contents) → HaveUtf8Bytes c → HaveUtf8Texts html c
texts nothing h = tt
texts (link e c) h = ((text_utf8 e.title h.0.title, address_text e.attributes h.0.attributes), texts c h.1)
texts (folder e inside c) h = (text_utf8 e.title h.0.title, texts inside h.1, texts c h.2)
texts (separator a c) h = (tt, texts c h.1)

-- in the bookmarks bar, and beside it
pub bar_texts : (c : Contents) → HaveUtf8Bytes c → HaveUtf8Texts html (bar_of c)
bar_texts c h = texts (bar_of c) (bar_holds IsUtf8Entry IsUtf8Entry IsUtf8 c h)

pub other_texts : (c : Contents) → HaveUtf8Bytes c → HaveUtf8Texts html (other_of c)
other_texts c h = texts (other_of c) (other_holds IsUtf8Entry IsUtf8Entry IsUtf8 c h)
