-- The files of a run: what is found of them, what their new texts are refused for, and what writing leaves.
use Rattle.std.specs.Prelude.{◌≡◌, ◌⊎◌, ℕ, Bool, true, false, nat_lt, if◌then◌else◌, List, [], ◌∷◌, ◌++◌, length, map, find, Vec, Option, Some, None, Result, Ok, Err}
use Rattle.std.specs.List.{fold}
use Rattle.std.specs.declared.alloc.Global.{Global}
use Rattle.hm_tree.specs.Names.{Name}
use Rattle.hm_outside.specs.Contents.{Contents, held, replaced}
use Rattle.hm_outside.specs.Failures.{HasRisen}
use Rattle.hm_outside.specs.declared.outside.Failure.{Failure}
use Rattle.hm_outside.specs.declared.outside.Kind.{Kind}
use Rattle.hm_outside.specs.declared.outside.Kind.TheVariants.{Load, Replace}
use Rattle.hm_run_files.specs.declared.slot.Slot.{Slot}
use Rattle.hm_run_files.specs.declared.slot.Slot.TheVariants.{Archive}
use Rattle.hm_run_files.specs.declared.slot.Named.{Named}
use Rattle.hm_run_files.specs.declared.slot.NewFile.{NewFile}
use Rattle.hm_run_files.specs.declared.stop.FileFault.TheVariants.{Missing, TooLarge, Overgrown}
use Rattle.hm_run_files.specs.declared.stop.Refusal.{Refusal}
use Rattle.hm_run_files.specs.declared.stop.Refusal.TheVariants.{At}
use Rattle.hm_run_files.specs.Steps.{WhereTold}

-- the greatest number of bytes of a file
abbrev pub limit : ℕ
limit = 16777216

-- a slot, and the name of its file
pub record File : Type 0 where
  pub slot : Slot
  pub name : Name

abbrev pub file_of : Named → File
file_of f = record { slot = f.slot; name = f.name.now }

abbrev pub bytes_of : Vec ℕ Global → List ℕ
bytes_of v = v.items

abbrev pub all_bytes : Vec (Vec ℕ Global) Global → List (List ℕ)
all_bytes v = map bytes_of v.items

-- ---- loading

-- the archive alone may be absent
abbrev pub may_lack : Slot → Bool
may_lack Archive = true
may_lack _ = false

-- what is found of what a slot's name has in the store; an archive that is absent has no bytes
abbrev pub load : Slot → Option (List ℕ) → Result (List ℕ) Refusal
load at None = if may_lack at then Ok [] else Err (At at Missing)
load at (Some bytes) = if nat_lt limit (length bytes) then Err (At at TooLarge) else Ok bytes

infixl 10 ◌>>=◌
abbrev pub ◌>>=◌ : {A B : Type 0} → Result A Refusal → (A → Result B Refusal) → Result B Refusal
(Ok x) >>= f = f x
(Err e) >>= f = Err e

-- the bytes of one file more, behind those that were found
abbrev pub load_next : Contents → Result (List (List ℕ)) Refusal → File → Result (List (List ℕ)) Refusal
load_next c found f = do
  all ← found
  bytes ← load f.slot (held c f.name)
  Ok (all ++ bytes ∷ [])

-- the bytes of the files, or the first that is refused
unfoldable pub loads : Contents → List File → Result (List (List ℕ)) Refusal
loads c files = fold (load_next c) (Ok []) files

-- a call for the file of this slot has failed
pub record HasFailed (call : Kind) (slot : Slot) (name : Name) (before after : List Failure) (kind : Kind) (at : Slot) : Type 0 where
  pub is_call : kind ≡ call
  pub is_at : at ≡ slot
  pub risen : HasRisen call name before after

-- one of the files can't be read, and those before it were found
pub record AreUnread (told : Option Contents) (files : List File) (before after : List Failure) (kind : Kind) (at : Slot) : Type 0 where
  pub earlier : List File
  pub here : File
  pub later : List File
  pub among : files ≡ earlier ++ here ∷ later
  pub unread : HasFailed Load here.slot here.name before after kind at
  pub found : WhereTold told (λ c. (all : List (List ℕ)) × (loads c earlier ≡ Ok all))

-- ---- measuring

-- a slot, the name of its file, and the bytes that it is to have
pub record New : Type 0 where
  pub slot : Slot
  pub name : Name
  pub bytes : List ℕ

abbrev pub new_of : NewFile → New
new_of f = record { slot = f.slot; name = f.name.now; bytes = f.bytes.items }

abbrev pub is_overgrown : New → Bool
is_overgrown f = nat_lt limit (length f.bytes)

-- the first new text that has more bytes than a file may have is refused
abbrev pub overgrown : Option New → Result (Unit {0}) Refusal
overgrown None = Ok tt
overgrown (Some f) = Err (At f.slot (Overgrown (length f.bytes)))

unfoldable pub measures : List New → Result (Unit {0}) Refusal
measures files = overgrown (find is_overgrown files)

-- ---- writing

-- the contents with the bytes of these files in them
unfoldable pub written : Contents → List New → Contents
written c files = fold (λ d f. replaced d f.name f.bytes) c files

-- a replace of the name of this file has failed, and the file is old or new
pub record IsUnwritten (told left : Option Contents) (f : New) (before after : List Failure) (kind : Kind) (at : Slot) : Type 0 where
  pub failed : HasFailed Replace f.slot f.name before after kind at
  pub left_so : WhereTold told (λ c. (left ≡ Some c) ⊎ (left ≡ Some (replaced c f.name f.bytes)))

-- one of the files can't be written, those before it are new, and those behind it are old
pub record AreUnwritten (told left : Option Contents) (files : List New) (before after : List Failure) (kind : Kind) (at : Slot) : Type 0 where
  pub earlier : List New
  pub here : New
  pub later : List New
  pub among : files ≡ earlier ++ here ∷ later
  pub failed : HasFailed Replace here.slot here.name before after kind at
  pub left_so : WhereTold told (λ c. (left ≡ Some (written c earlier)) ⊎ (left ≡ Some (written c (earlier ++ here ∷ []))))
