-- The text of records.
use Rattle.std.specs.Prelude.{◌≡◌, ℕ, Bool, true, false, if◌then◌else◌, List, [], ◌++◌, Some}
use Rattle.std.specs.Prelude.{Vec}
use Rattle.std.specs.List.{flat_map}
use Rattle.std.specs.declared.alloc.Global.{Global}
use Rattle.csv.specs.Writing.{default_writer, fields_written, has_written, row_text, text_written, with_flexible, writer_setup}
use Rattle.hm_csv_records.specs.Rows.{Fields, byte_order_mark}
use Rattle.hm_csv_records.specs.declared.writer.RecordsWriter.{RecordsWriter}

-- a byte-order mark, if there is to be one, and each record's text, which a line feed ends
abbrev pub written : Bool → List Fields → List ℕ
written mark rows = (if mark then byte_order_mark else []) ++ flat_map (row_text default_writer) rows

-- the writer has written this, and stands behind a record
pub record HasWritten (w : RecordsWriter) (mark : Bool) (rows : List Fields) : Type 0 where
  pub setup : writer_setup w.writer ≡ with_flexible default_writer true
  pub fields : fields_written w.writer ≡ 0
  pub shows : has_written w.writer ≡ false
  pub text : text_written (λ (v : Vec ℕ Global). Some v.items) w.writer ≡ Some (written mark rows)
