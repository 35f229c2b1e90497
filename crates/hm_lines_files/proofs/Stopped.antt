-- What a reader of lines that stops has told.
use Rattle.std.proofs.Common.{◌≡◌, Result, Ok, Err, sym, subst}
use Rattle.std.specs.Prelude.{IfErr, IsErrAnd}
use Rattle.hm_lines_files.specs.declared.layout_fault.LayoutFault.{LayoutFault}

-- a stop that is passed on
pub passed : {X : Type 0} (r : Result X LayoutFault) (s : LayoutFault) (P : LayoutFault → Type 0) → IsErrAnd r (λ e. e ≡ s) → P s → IfErr r P
passed (Ok x) s P e h = absurd e
passed (Err f) s P e h = subst P (sym e) h
