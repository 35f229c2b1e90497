-- The format of files of Netscape bookmarks.
use Rattle.hm_format.specs.Formats.{FormatMeaning}
use Rattle.hm_marks_schema.specs.Nesting.{marks_over}
use Rattle.hm_marks_schema.specs.Schema.{schema_under}
use Rattle.hm_netscape_files.specs.Files.{NetscapeReads}
use Rattle.hm_netscape_files.specs.Writing.{NetscapeWrites}
use Rattle.hm_netscape_marks.specs.Kept.{NetscapeKeeps}

abbrev pub netscape_marks : FormatMeaning
netscape_marks = record {
  tag = 2;
  schema_of = schema_under;
  reads = λ o bytes r. NetscapeReads bytes r;
  over = marks_over;
  writes = λ o t before after. NetscapeWrites t before after;
  keeps = λ o before after. NetscapeKeeps before after;
}
