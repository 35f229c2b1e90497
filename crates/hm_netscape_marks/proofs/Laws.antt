-- The format of files of Netscape bookmarks meets the laws.
use Rattle.std.proofs.Common.{ℕ, List, sym, subst}
use Rattle.std.specs.Prelude.{Err}
use Rattle.hm_tree.specs.Nodes.{Tree}
use Rattle.hm_schema.specs.Values.{OptionsValue, SchemaValue}
use Rattle.hm_schema.specs.Membership.{HasNoTwins, IsMemberTree}
use Rattle.hm_format.specs.declared.fault.FormatFault.{FormatFault}
use Rattle.hm_format.specs.declared.fault.FormatFault.TheVariants.{BadOption, NotUtf8, BadItem, NoKey, TooDeep, Outside, Memory}
use Rattle.hm_format.specs.Formats.{HasSchema, IsReadFault, IsLawful}
use Rattle.hm_marks_schema.specs.Schema.{marks_schema}
use Rattle.hm_marks_schema.proofs.Schemas as schemas
use Rattle.hm_netscape_files.specs.Files.{NetscapeReads}
use Rattle.hm_netscape_files.specs.Writing.{stays}
use Rattle.hm_netscape_files.proofs.MemberTrees.{member_read}
use Rattle.hm_netscape_files.proofs.ReadOnce.{read_once}
use Rattle.hm_netscape_files.proofs.SomeFile.{some_read}
use Rattle.hm_netscape_files.proofs.WritesOnce.{writes_once, some_written}
use Rattle.hm_netscape_marks.specs.Writing.{netscape_marks}
use Rattle.hm_netscape_marks.proofs.KeptFiles.{put_get, kept}

member_of : (o : OptionsValue) (s : SchemaValue) (t : Tree) → HasSchema netscape_marks o s → IsMemberTree s t → IsMemberTree marks_schema t
member_of o s t has member = subst (λ s. IsMemberTree s t) (sym (schemas.schema_is o s has)) member

read_faults : (bytes : List ℕ) (f : FormatFault) → NetscapeReads bytes (Err f) → IsReadFault f
read_faults bytes (BadOption key) h = absurd h
read_faults bytes (NotUtf8 at) h = tt
read_faults bytes (BadItem number) h = tt
read_faults bytes (NoKey number) h = absurd h
read_faults bytes (TooDeep depth) h = tt
read_faults bytes (Outside path) h = absurd h
read_faults bytes Memory h = absurd h

pub netscape_lawful : IsLawful netscape_marks
netscape_lawful = record {
  read_once = λ o bytes r q h k. read_once bytes r q h k;
  read_faults = λ o bytes f h. read_faults bytes f h;
  some_read = λ o s bytes sound has. some_read bytes;
  no_twins = λ o s sound has. subst HasNoTwins (schemas.schema_is o s has) schemas.no_twins;
  members = λ o s bytes t sound has h. subst (λ s. IsMemberTree s t) (schemas.schema_is o s has) (member_read bytes t h);
  within = λ o s bytes t has h. h.1;
  writes_once = λ o t before one other h k. writes_once t before one other h k;
  some_written = λ o s before old t sound has read member over. some_written t before read.0.contents read.0.file (member_of o s t has member);
  put_get = λ o s before after old t sound has read member over made. put_get t before after over made;
  get_put = λ o before t sound h. stays h;
  kept = λ o s before after old t sound has read member over made. kept t before after made;
}
