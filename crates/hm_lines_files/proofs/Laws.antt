-- The files of a form that meets its laws are a lawful format.
use Rattle.std.proofs.Common.{◌≡◌, sym, subst}
use Rattle.hm_tree.specs.Nodes.{Tree}
use Rattle.hm_schema.specs.Values.{OptionsValue, SchemaValue}
use Rattle.hm_schema.specs.Membership.{HasNoTwins}
use Rattle.hm_book_cards.specs.Books.{book_schema}
use Rattle.hm_book_cards.proofs.Laws as cards
use Rattle.hm_format.specs.Options.{bad_key}
use Rattle.hm_format.specs.Formats.{HasSchema, IsLawful}
use Rattle.hm_schema.specs.Membership.{IsMemberTree}
use Rattle.hm_format.proofs.Accepted.{schema_given}
use Rattle.hm_format.proofs.Limits.{not_over}
use Rattle.hm_lines_files.specs.Forms.{Form, show_rules, judged, shown_of}
use Rattle.hm_lines_files.specs.Writing.{meaning_of, stays}
use Rattle.hm_lines_files.specs.FormLaws.{IsForm}
use Rattle.hm_lines_files.proofs.ReadOnce.{read_once, read_faults}
use Rattle.hm_lines_files.proofs.FileLaws.{writes_once, members, put_get, keeps}
use Rattle.hm_lines_files.proofs.ShownProperties.{shown_edges}
use Rattle.hm_lines_files.proofs.SomeFile.{some_read, some_written}
use Rattle.hm_book_cards.proofs.Laws.{book_member}

module _ (f : Form) where
  pub schema_is : (o : OptionsValue) (s : SchemaValue) → HasSchema (meaning_of f) o s → book_schema (shown_of f o) ≡ s
  schema_is o s has = schema_given (bad_key show_rules (judged f.properties o)) (book_schema (shown_of f o)) s has

  pub member_of : (o : OptionsValue) (s : SchemaValue) (t : Tree) → HasSchema (meaning_of f) o s → IsMemberTree s t → IsMemberTree (book_schema (shown_of f o)) t
  member_of o s t has member = subst (λ s. IsMemberTree s t) (sym (schema_is o s has)) member

pub form_lawful : (f : Form) → IsForm f → IsLawful (meaning_of f)
form_lawful f law = record {
  read_once = λ o bytes r q. read_once f law o bytes r q;
  read_faults = λ o bytes fault h. read_faults f law o bytes fault h;
  some_read = λ o s bytes sound has. some_read f law o bytes;
  no_twins = λ o s sound has. subst HasNoTwins (schema_is f o s has) (cards.no_twins (shown_of f o));
  members = λ o s bytes t sound has h. subst (λ s. IsMemberTree s t) (schema_is f o s has) (members f law o bytes t h);
  within = λ o s bytes t has h. not_over t h.1;
  writes_once = λ o t before one other h k. writes_once f law o t before one other h k;
  some_written = λ o s before old t sound has read member over.
      some_written f law o before read.0.layout read.0.file read.0.keyed t
      (book_member (shown_of f o) (shown_edges f.properties o law.properties.names) t (member_of f o s t has member));
  put_get = λ o s before after old t sound has read member over made.
      put_get f law o before old t read (member_of f o s t has member) over after made;
  get_put = λ o before t sound h. stays h;
  kept = λ o s before after old t sound has read member over made.
      keeps f law o before old t read (member_of f o s t has member) over after made;
}
