-- The bytes of all that stands in a file are UTF-8.
use Rattle.std.proofs.Common.{ℕ, Bool, true, false, List, [], ◌∷◌, ◌++◌, drop, Option, Some, None, subst}
use Rattle.std.specs.Str.{IsUtf8}
use Rattle.std.proofs.lemmas.Str.{IsUtf8-nil}
use Rattle.hm_marks.specs.Contents.{nothing, link, folder, separator}
use Rattle.hm_marks.specs.Layouts.{AreSound}
use Rattle.hm_marks_tokens.specs.Symbols as symbols
use Rattle.hm_marks_tokens.specs.Symbols.{Symbol, words_of, is_titled_behind, HasSymbols}
use Rattle.hm_marks_tokens.specs.Grammar.{Contents, note_symbols}
use Rattle.hm_marks_tokens.proofs.Unambiguous.{ended}
use Rattle.hm_netscape_entries.specs.Next.{IsLeft, IsUtf8Note, IsUtf8Entry}
use Rattle.hm_netscape_entries.proofs.Left.{link_left, folder_left}
use Rattle.hm_netscape_entries.proofs.Cut.{IsUtf8Symbol, symbol_utf8}
use Rattle.hm_netscape_files.specs.Files.{IsFile}
use Rattle.hm_netscape_files.proofs.ListText.{list_text}

-- the bytes of all that stands in a folder, at each depth, are UTF-8
abbrev pub HaveUtf8Bytes : Contents → Type 0
HaveUtf8Bytes c = AreSound IsUtf8Entry IsUtf8Entry IsUtf8 c

-- bytes of UTF-8 that begin with symbols
record IsBehind (titled : Bool) (ms : List Symbol) (rest : List ℕ) : Type 0 where
  bytes : List ℕ
  utf8 : IsUtf8 bytes
  has : HasSymbols titled bytes ms rest

-- a symbol, and what stands behind it
one_symbol : (titled : Bool) (m : Symbol) (ms : List Symbol) (rest : List ℕ) → IsBehind titled (m ∷ ms) rest
    → IsUtf8Symbol m × IsBehind (is_titled_behind titled m) ms rest
one_symbol titled m ms rest is =
    let two = symbol_utf8 titled is.bytes m is.has.0 is.has.1.0 is.utf8 in
    (two.0, record { bytes = is.has.0; utf8 = two.1; has = is.has.1.1 })

-- a title, and what stands behind the symbol that ends it
title_text : (t : List ℕ) (m : Symbol) (ms : List Symbol) (rest : List ℕ) → IsBehind true (words_of t ++ m ∷ ms) rest
    → IsUtf8 t × IsBehind (is_titled_behind true m) ms rest
title_text [] m ms rest is = (IsUtf8-nil, (one_symbol true m ms rest is).1)
title_text (b ∷ t) m ms rest is =
    let words = one_symbol true (symbols.words (b ∷ t)) (m ∷ ms) rest is in (words.0, (one_symbol true m ms rest words.1).1)

note_text : (note : Option (List ℕ)) (ms : List Symbol) (rest : List ℕ) → IsBehind false (note_symbols note ++ ms) rest
    → IsUtf8Note note × IsBehind false ms rest
note_text None ms rest is = (tt, is)
note_text (Some []) ms rest is = (IsUtf8-nil, (one_symbol false symbols.note ms rest is).1)
note_text (Some (b ∷ w)) ms rest is =
    one_symbol false (symbols.words (b ∷ w)) ms rest (one_symbol false symbols.note (symbols.words (b ∷ w) ∷ ms) rest is).1

-- what is left of a folder, and what stands behind its end
left_text : (c : Contents) (more : List Symbol) (rest bytes : List ℕ) → IsUtf8 bytes → IsLeft bytes c more rest
    → HaveUtf8Bytes c × IsBehind false more rest
left_text nothing more rest bytes utf8 left =
    (tt, (one_symbol false symbols.list_end more rest (record { bytes = bytes; utf8 = utf8; has = left })).1)
left_text (link e c) more rest bytes utf8 left =
    let begun = link_left bytes e c more rest left in
    let tag = symbol_utf8 false bytes symbols.entry begun.behind_entry begun.entry utf8 in
    let inner = symbol_utf8 false begun.behind_entry (symbols.link e.attributes) begun.behind_tag begun.tag_is tag.1 in
    let title = title_text e.title symbols.link_end (note_symbols e.note ++ ended c more) rest (record { bytes = begun.behind_tag; utf8 = inner.1; has = begun.has }) in
    let note = note_text e.note (ended c more) rest title.1 in
    let others = left_text c more rest note.1.bytes note.1.utf8 note.1.has in
    ((record { attributes = inner.0; title = title.0; note = note.0 }, others.0), others.1)
left_text (folder e inside c) more rest bytes utf8 left =
    let begun = folder_left bytes e inside c more rest left in
    let tag = symbol_utf8 false bytes symbols.entry begun.behind_entry begun.entry utf8 in
    let inner = symbol_utf8 false begun.behind_entry (symbols.heading e.attributes) begun.behind_tag begun.tag_is tag.1 in
    let title = title_text e.title symbols.heading_end (note_symbols e.note ++ symbols.list ∷ ended inside (ended c more)) rest
    (record { bytes = begun.behind_tag; utf8 = inner.1; has = begun.has }) in
    let note = note_text e.note (symbols.list ∷ ended inside (ended c more)) rest title.1 in
    let list = (one_symbol false symbols.list (ended inside (ended c more)) rest note.1).1 in
    let within = left_text inside (ended c more) rest list.bytes list.utf8 list.has in
    let others = left_text c more rest within.1.bytes within.1.utf8 within.1.has in
    ((record { attributes = inner.0; title = title.0; note = note.0 }, within.0, others.0), others.1)
left_text (separator a c) more rest bytes utf8 left =
    let rule = one_symbol false (symbols.rule a) (ended c more) rest (record { bytes = bytes; utf8 = utf8; has = left }) in
    let others = left_text c more rest rule.1.bytes rule.1.utf8 rule.1.has in
    ((rule.0, others.0), others.1)

pub left_bytes : (c : Contents) (more : List Symbol) (rest bytes : List ℕ) → IsUtf8 bytes → IsLeft bytes c more rest → HaveUtf8Bytes c
left_bytes c more rest bytes utf8 left = (left_text c more rest bytes utf8 left).0

-- what stands in the outermost folder of a file, and its tail
pub file_bytes : (bytes : List ℕ) (c : Contents) (is : IsFile bytes c) → HaveUtf8Bytes c × IsUtf8 is.tail
file_bytes bytes c is =
    let list = drop is.head bytes in
    let first = one_symbol false symbols.list (ended c []) is.tail
    (record { bytes = list; utf8 = list_text bytes is.head is.text is.head_is; has = is.list.has }) in
    let all = left_text c [] is.tail first.1.bytes first.1.utf8 first.1.has in
    (all.0, subst IsUtf8 all.1.has all.1.utf8)
