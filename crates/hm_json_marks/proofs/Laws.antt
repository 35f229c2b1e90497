-- The format of bookmark files of JSON meets the laws.
use Rattle.std.proofs.Common.{ℕ, List, sym, subst}
use Rattle.hm_tree.specs.Nodes.{Tree}
use Rattle.hm_schema.specs.Values.{OptionsValue, SchemaValue}
use Rattle.hm_schema.specs.Membership.{HasNoTwins, IsMemberTree}
use Rattle.hm_format.specs.Formats.{HasSchema, IsLawful}
use Rattle.hm_marks_schema.specs.Schema.{marks_schema}
use Rattle.hm_marks_schema.proofs.Members.{bookmarks_are_members}
use Rattle.hm_marks_schema.proofs.Schemas as schemas
use Rattle.hm_json_nodes.specs.Nodes.{json}
use Rattle.hm_json_nodes.proofs.Texts.{nodes_clean}
use Rattle.hm_json_marks.specs.Files.{IsBookmarkFile}
use Rattle.hm_json_marks.specs.Writing.{json_marks, stays}
use Rattle.hm_json_marks.proofs.ReadOnce.{read_once, read_faults}
use Rattle.hm_json_marks.proofs.SomeFile.{some_read}
use Rattle.hm_json_marks.proofs.WritesOnce.{writes_once, some_written}
use Rattle.hm_json_marks.proofs.KeptFiles.{put_get, kept}

member_of : (o : OptionsValue) (s : SchemaValue) (t : Tree) → HasSchema json_marks o s → IsMemberTree s t → IsMemberTree marks_schema t
member_of o s t has member = subst (λ s. IsMemberTree s t) (sym (schemas.schema_is o s has)) member

-- the tree of a file is a member of it
book_member : (bytes : List ℕ) (t : Tree) → IsBookmarkFile bytes t → IsMemberTree marks_schema t
book_member bytes t h =
    bookmarks_are_members json h.file.bar.contents h.file.other.contents t h.tree
    (nodes_clean h.file.bar.children h.file.bar.contents h.file.bar.folder.nodes)
    (nodes_clean h.file.other.children h.file.other.contents h.file.other.folder.nodes)

pub json_lawful : IsLawful json_marks
json_lawful = record {
  read_once = λ o bytes r q h k. read_once bytes r q h k;
  read_faults = λ o bytes f h. read_faults bytes f h;
  some_read = λ o s bytes sound has. some_read bytes;
  no_twins = λ o s sound has. subst HasNoTwins (schemas.schema_is o s has) schemas.no_twins;
  members = λ o s bytes t sound has h. subst (λ s. IsMemberTree s t) (schemas.schema_is o s has) (book_member bytes t h.1);
  within = λ o s bytes t has h. h.2;
  writes_once = λ o t before one other h k. writes_once t before one other h k;
  some_written = λ o s before old t sound has read member over. some_written t before read.1.file (member_of o s t has member);
  put_get = λ o s before after old t sound has read member over made. put_get read.0 t over after made;
  get_put = λ o before t sound h. stays h;
  kept = λ o s before after old t sound has read member over made. kept read.0 t over after made;
}
