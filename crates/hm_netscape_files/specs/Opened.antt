-- A file that was opened: what stands in its outermost folder.
use Rattle.std.specs.Prelude.{ℕ, max, List, [], IsUtf8}
use Rattle.hm_marks_schema.specs.Nesting.{nesting}
use Rattle.hm_marks_tokens.specs.Grammar.{Contents}
use Rattle.hm_netscape_entries.specs.Next.{IsLeft}
use Rattle.hm_netscape_entries.specs.Toolbars.{bar_of, other_of}
use Rattle.hm_netscape_files.specs.Files.{IsFile}

-- bytes begin with what stands in the outermost folder of a file
pub record IsOpened (bytes inside : List ℕ) : Type 0 where
  pub contents : Contents
  pub file : IsFile bytes contents
  pub rest : List ℕ
  pub left : IsLeft inside contents [] rest
  pub text : IsUtf8 inside

-- so many folders nest in the bookmarks bar or beside it
abbrev pub folders_within : Contents → ℕ
folders_within c = max (nesting (bar_of c)) (nesting (other_of c))
