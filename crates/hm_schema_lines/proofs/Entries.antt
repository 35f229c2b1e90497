-- Reading lines one after another.
use Rattle.std.proofs.Common.{◌≡◌, ℕ, List, [], ◌∷◌, ◌++◌, sym, ap, ◌∙◌, subst, append_assoc}
use mathlib.Core.List.{append-nil}
use Rattle.std.specs.List.{AllZip}
use Rattle.hm_schema_lines.specs.Entries.{EntryValue, IsEntry}

pub none_read : (whole : List (List ℕ)) (es : List EntryValue) → es ≡ [] → (more : List EntryValue) → AllZip IsEntry whole more
    → AllZip IsEntry whole (es ++ more)
none_read whole es none more m = subst (λ (z : List EntryValue). AllZip IsEntry whole (z ++ more)) (sym none) m

module _ (whole rest : List (List ℕ)) (es : List EntryValue)
    (h : (more : List EntryValue) → AllZip IsEntry rest more → AllZip IsEntry whole (es ++ more)) where
  pub read_one : (next : List (List ℕ)) (line : List ℕ) (new : List EntryValue) (e : EntryValue) → rest ≡ line ∷ next → IsEntry line e
      → new ≡ es ++ e ∷ [] → (more : List EntryValue) → AllZip IsEntry next more → AllZip IsEntry whole (new ++ more)
  read_one next line new e is k n more m =
      subst (AllZip IsEntry whole) (sym (ap (λ (z : List EntryValue). z ++ more) n ∙ append_assoc es (e ∷ []) more))
      (h (e ∷ more) (subst (λ (z : List (List ℕ)). AllZip IsEntry z (e ∷ more)) (sym is) (k, m)))

  pub all_read : rest ≡ [] → AllZip IsEntry whole es
  all_read is = subst (AllZip IsEntry whole) (append-nil es) (h [] (subst (λ (z : List (List ℕ)). AllZip IsEntry z []) (sym is) tt))
