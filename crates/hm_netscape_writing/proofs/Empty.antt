-- What is left of a folder in which nothing stands.
use Rattle.std.proofs.Common.{[], codes, refl}
use Rattle.std.specs.Str.{IsUtf8}
use Rattle.hm_marks.specs.Contents.{nothing}
use Rattle.hm_marks_schema.proofs.Utf8Keys.{word_utf8}
use Rattle.hm_marks_tokens.specs.Tokens.{tag}
use Rattle.hm_marks_tokens.specs.Symbols.{here}
use Rattle.hm_netscape_entries.specs.Next.{IsLeft, IsInFolder}

pub empty_left : IsLeft (codes "</DL>") nothing [] []
empty_left = ([], (here {p = tag (codes "/DL")} (record { are = refl; may = refl }) refl refl, refl))

pub in_empty : IsInFolder (codes "</DL>")
in_empty = (nothing, ([], ([], empty_left)))

pub empty_utf8 : IsUtf8 (codes "</DL>")
empty_utf8 = word_utf8 (codes "</DL>") refl
