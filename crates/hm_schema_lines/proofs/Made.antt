-- Elements of a list at their places, and what lines bring.
use Rattle.std.proofs.Common.{◌≡◌, ◌<◌, ℕ, zero, suc, length, get_or, List, [], ◌∷◌, Option, Some, None, refl, ap, ◌∙◌, slice_get, filter_map}
use Rattle.std.specs.List.{Contains, cons_option}
use Rattle.std.specs.Option.{option_map}
use Rattle.std.proofs.lemmas.Option.{slice_get_within, slice_get_read, slice_get-map, get_or_from_slice_get, slice_get-get_or}
use Rattle.hm_schema_lines.specs.declared.entry.Entry.{Entry}
use Rattle.hm_schema_lines.specs.Entries.{EntryValue, entry_value, entry_values}

-- ---- elements and their places

-- an element, at some place
abbrev pub At : {X : Type 0} → List X → X → Type 0
At xs x = (m : ℕ) × (slice_get xs m ≡ Some x)

pub at_place : {X : Type 0} (xs : List X) (x : X) → Contains xs x → At xs x
at_place xs x c = (c.0, slice_get-get_or xs c.0 x c.1 ∙ ap Some c.2)

pub from_place : {X : Type 0} (xs : List X) (x : X) → At xs x → Contains xs x
from_place xs x a = (a.0, slice_get_within xs a.0 x a.1, get_or_from_slice_get xs a.0 x x a.1)

-- a line as it is read
pub entry_at : (xs : List Entry) (i : ℕ) (x : Entry) → i < length xs → x ≡ get_or xs i x → slice_get (entry_values xs) i ≡ Some (entry_value x)
entry_at xs i x within is = slice_get-map entry_value xs i ∙ ap (option_map entry_value) (slice_get_read xs (length xs) i x refl within is)

-- ---- what lines add, and the lines that add it

pub record IsMade {X : Type 0} (f : EntryValue → Option X) (es : List EntryValue) (x : X) : Type 0 where
  pub line : ℕ
  pub entry : EntryValue
  pub is : slice_get es line ≡ Some entry
  pub made : f entry ≡ Some x

module _ {X : Type 0} (f : EntryValue → Option X) where
  pub made_from : (es : List EntryValue) (x : X) → At (filter_map f es) x → IsMade f es x
  made_from [] x a = let h = a.1 in let no : ⊥ = cc in absurd no
  made_from (e ∷ es) x a = go (f e) refl (made_from es x) a.0 a.1
    where
      further : IsMade f es x → IsMade f (e ∷ es) x
      further m = record { line = suc m.line; entry = m.entry; is = m.is; made = m.made }

      go : (o : Option X) → f e ≡ o → (At (filter_map f es) x → IsMade f es x) → (m : ℕ)
          → slice_get (cons_option o (filter_map f es)) m ≡ Some x → IsMade f (e ∷ es) x
      go None is rest m h = further (rest (m, h))
      go (Some y) is rest zero h = record { line = 0; entry = e; is = refl; made = is ∙ h }
      go (Some y) is rest (suc m) h = further (rest (m, h))

  pub made_at : (es : List EntryValue) (x : X) (m : ℕ) (e : EntryValue) → slice_get es m ≡ Some e → f e ≡ Some x → At (filter_map f es) x
  made_at [] x m e is made = let no : ⊥ = cc in absurd no
  made_at (d ∷ es) x zero e is made = let same : d ≡ e = cc in (0, ap (λ o. slice_get (cons_option o (filter_map f es)) 0) (ap f same ∙ made))
  made_at (d ∷ es) x (suc m) e is made = go (f d) (made_at es x m e is made)
    where
      go : (o : Option X) → At (filter_map f es) x → At (cons_option o (filter_map f es)) x
      go None a = a
      go (Some y) a = (suc a.0, a.1)

  pub brought : (es : List EntryValue) (e : EntryValue) (x : X) → f e ≡ Some x → Contains es e → Contains (filter_map f es) x
  brought es e x made c = let a = at_place es e c in from_place (filter_map f es) x (made_at es x a.0 e a.1 made)

  pub brings : (es : List EntryValue) (x : X) → Contains (filter_map f es) x → (e : EntryValue) × Contains es e × (f e ≡ Some x)
  brings es x c = let m = made_from es x (at_place (filter_map f es) x c) in (m.entry, from_place es m.entry (m.line, m.is), m.made)
