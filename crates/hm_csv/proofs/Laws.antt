-- The format of comma-separated values meets the laws.
use Rattle.std.proofs.Common.{◌≡◌, length, sym, subst}
use Rattle.hm_tree.specs.Nodes.{Tree}
use Rattle.hm_schema.specs.Values.{OptionsValue, SchemaValue}
use Rattle.hm_schema.specs.Membership.{HasNoTwins}
use Rattle.hm_csv_records.specs.Rows.{Fields, IsHeader}
use Rattle.hm_book_cards.specs.Books.{book_schema}
use Rattle.hm_book_cards.proofs.Laws as cards
use Rattle.hm_csv_columns.specs.Records.{AreColumns}
use Rattle.hm_format.specs.Options.{AreSound, bad_key}
use Rattle.hm_format.specs.Formats.{HasSchema, IsLawful}
use Rattle.hm_schema.specs.Membership.{IsMemberTree}
use Rattle.hm_format.proofs.Accepted.{schema_given}
use Rattle.hm_format.proofs.Limits.{not_over}
use Rattle.hm_csv.specs.Options.{csv_rules, shown_of, column_names}
use Rattle.hm_csv.specs.Tables.{key_place, columns_of}
use Rattle.hm_csv.specs.Writing.{csv, stays}
use Rattle.hm_csv.proofs.ColumnFacts.{columns_are}
use Rattle.hm_csv.proofs.ShownNames.{shown_are, none_bad}
use Rattle.hm_csv.proofs.ReadOnce.{read_once, read_faults}
use Rattle.hm_csv.proofs.FileLaws.{writes_once, members, put_get, keeps}
use Rattle.hm_csv.proofs.SomeFile.{some_read, some_written}
use Rattle.hm_book_cards.proofs.Laws.{book_member}

pub schema_is : (o : OptionsValue) (s : SchemaValue) → HasSchema csv o s → book_schema (shown_of o) ≡ s
schema_is o s has = schema_given (bad_key csv_rules o) (book_schema (shown_of o)) s has

-- a header that has the columns of accepted options
pub found : (o : OptionsValue) (s : SchemaValue) → AreSound o → HasSchema csv o s → (header : Fields) → IsHeader (column_names o) header
    → AreColumns (columns_of o header) (key_place o header) (length header)
found o s sound has header is = columns_are o header sound (none_bad o s has) is

pub member_of : (o : OptionsValue) (s : SchemaValue) (t : Tree) → HasSchema csv o s → IsMemberTree s t → IsMemberTree (book_schema (shown_of o)) t
member_of o s t has member = subst (λ s. IsMemberTree s t) (sym (schema_is o s has)) member

pub csv_lawful : IsLawful csv
csv_lawful = record {
  read_once = λ o bytes r q. read_once o bytes r q;
  read_faults = λ o bytes f h. read_faults o bytes f h;
  some_read = λ o s bytes sound has. some_read o bytes;
  no_twins = λ o s sound has. subst HasNoTwins (schema_is o s has) (cards.no_twins (shown_of o));
  members = λ o s bytes t sound has h. subst (λ s. IsMemberTree s t) (schema_is o s has) (members o (found o s sound has) (shown_are o sound) bytes t h);
  within = λ o s bytes t has h. not_over t h.1;
  writes_once = λ o t before one other h k. writes_once o t before one other h k;
  some_written = λ o s before old t sound has read member over.
      some_written o before t read.0.table (book_member (shown_of o) (shown_are o sound) t (member_of o s t has member));
  put_get = λ o s before after old t sound has read member over made.
      put_get o (found o s sound has) (shown_are o sound) before old t read (member_of o s t has member) over after made;
  get_put = λ o before t sound h. stays h;
  kept = λ o s before after old t sound has read member over made.
      keeps o (found o s sound has) (shown_are o sound) before old t read (member_of o s t has member) over after made;
}
