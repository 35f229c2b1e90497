-- What bytes are read as: a byte-order mark and records, or why they aren't read.
use Rattle.std.specs.Prelude.{◌≡◌, ◌≢◌, ◌⊎◌, ◌↔◌, ℕ, ◌+◌, Bool, IsTrue, List, [], ◌∷◌, ◌++◌, length, map, IsUtf8, Result, Ok, Err}
use Rattle.std.specs.Str.Lossy.{utf8_valid_len}
use Rattle.hm_tree.specs.Names.{Name}
use Rattle.csv.specs.Reading.{AreRecords, Reached, default_config, strip_bom}
use Rattle.csv.specs.Records.{fields_of}
use Rattle.csv.specs.declared.parser.State.{State}
use Rattle.csv.specs.declared.parser.State.TheVariants as st
use Rattle.csv.specs.declared.error.ErrorKind.{ErrorKind}
use Rattle.csv.specs.declared.error.ErrorKind.TheVariants as kind
use Rattle.hm_csv_records.specs.Rows.{Fields, BeginsWithMark, IsBad, AreGood}
use Rattle.hm_csv_records.specs.declared.fault.RecordsFault.{RecordsFault}
use Rattle.hm_csv_records.specs.declared.fault.RecordsFault.TheVariants.{NotUtf8, BadItem, Memory}
use Rattle.hm_csv_records.specs.declared.records.Records.{Records}

-- whether a byte-order mark stands in front, and the records
pub record Sheet : Type 0 where
  pub mark : Bool
  pub rows : List Fields

-- these are all the records of the bytes, behind the byte-order mark if one stands in front
abbrev pub AreAll : List ℕ → List Fields → Type 0
AreAll bytes rows = AreRecords default_config st.StartRecord (strip_bom bytes) rows

-- these are the first ones
abbrev pub AreFirst : List ℕ → List Fields → Type 0
AreFirst bytes rows = (state : State) × (rest : List ℕ) × Reached default_config st.StartRecord (strip_bom bytes) rows state rest

-- these are all of them, a header and others, and none is bad
pub record AreRows (names : List Name) (bytes : List ℕ) (rows : List Fields) : Type 0 where
  pub all : AreAll bytes rows
  pub some : rows ≢ []
  pub good : AreGood names rows

pub record IsSheet (names : List Name) (bytes : List ℕ) (sheet : Sheet) : Type 0 where
  pub text : IsUtf8 bytes
  pub marked : IsTrue sheet.mark ↔ BeginsWithMark bytes
  pub rows : AreRows names bytes sheet.rows

-- the bytes aren't UTF-8, and this is the length of the longest beginning that is
pub record StopsAt (bytes : List ℕ) (at : ℕ) : Type 0 where
  pub broken : ¬ (IsUtf8 bytes)
  pub place : at ≡ utf8_valid_len bytes

-- the record of this number, from 1, is bad, and none before it is
pub record IsFirstBad (names : List Name) (bytes : List ℕ) (number : ℕ) : Type 0 where
  pub before : List Fields
  pub row : Fields
  pub stand : AreFirst bytes (before ++ row ∷ [])
  pub good : AreGood names before
  pub bad : IsBad names before row
  pub place : number ≡ length before + 1

-- where there is no record, the header is missing
abbrev pub IsBadItem : List Name → List ℕ → ℕ → Type 0
IsBadItem names bytes number = ((number ≡ 1) × AreAll bytes []) ⊎ IsFirstBad names bytes number

-- what bytes are read as, where the header is to have columns of some names; want of memory is nothing of it
abbrev pub ReadsRecords : List Name → List ℕ → Result Sheet RecordsFault → Type 0
ReadsRecords names bytes (Ok sheet) = IsSheet names bytes sheet
ReadsRecords names bytes (Err (NotUtf8 at)) = StopsAt bytes at
ReadsRecords names bytes (Err (BadItem number)) = IsUtf8 bytes × IsBadItem names bytes number
ReadsRecords names bytes (Err Memory) = ⊥

-- a result is such, unless there was no memory
abbrev pub UnlessMemory : {A : Type 0} → (Result A RecordsFault → Type 0) → Result A RecordsFault → Type 0
UnlessMemory Such (Ok x) = Such (Ok x)
UnlessMemory Such (Err (NotUtf8 at)) = Such (Err (NotUtf8 at))
UnlessMemory Such (Err (BadItem number)) = Such (Err (BadItem number))
UnlessMemory Such (Err Memory) = Unit {0}

-- what a result shows
abbrev pub sheet_of : Records → Sheet
sheet_of records = record { mark = records.mark; rows = map fields_of records.rows.items }

abbrev pub shown : Result Records RecordsFault → Result Sheet RecordsFault
shown (Ok records) = Ok (sheet_of records)
shown (Err fault) = Err fault

-- what hinders the reading of the records themselves
abbrev pub RowsFaults : List Name → List ℕ → RecordsFault → Type 0
RowsFaults names bytes (NotUtf8 at) = ⊥
RowsFaults names bytes (BadItem number) = IsBadItem names bytes number
RowsFaults names bytes Memory = Unit {0}

-- what hinders the keeping of a record behind others
abbrev pub RefusesRow : List Name → List Fields → Fields → RecordsFault → Type 0
RefusesRow names rows row (NotUtf8 at) = ⊥
RefusesRow names rows row (BadItem number) = IsBad names rows row × (number ≡ length rows + 1)
RefusesRow names rows row Memory = Unit {0}

-- what an error of the crate tells behind so many records: of a record of another length, or else of want of memory
abbrev pub Tells : ℕ → ErrorKind → RecordsFault → Type 0
Tells before (kind.UnequalLengths pos expected len) fault = (fault ≡ BadItem (before + 1)) ⊎ (fault ≡ Memory)
Tells before (kind.Io e) fault = fault ≡ Memory
Tells before (kind.Utf8 pos err) fault = fault ≡ Memory
Tells before kind.OutOfMemory fault = fault ≡ Memory
Tells before (kind.Serialize text) fault = fault ≡ Memory
Tells before (kind.Deserialize pos err) fault = fault ≡ Memory
