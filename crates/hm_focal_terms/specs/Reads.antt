-- What bytes are read as.
use Rattle.std.specs.Prelude.{ℕ, List}
use Rattle.hm_terms.specs.Lenses.{Lens}
use Rattle.hm_terms.specs.Programs.{lens_of}
use Rattle.hm_focal_terms.specs.declared.reader.TermRead.{TermRead}
use Rattle.hm_focal_terms.specs.declared.reader.TermRead.TheVariants.{Term, Oversized, Nothing}
use Rattle.hm_focal_terms.specs.TermText.{IsTermText}
use Rattle.hm_focal_terms.specs.Limits.{IsOversized}

-- a term, whose lens the bytes are the text of; oversized bytes, of which nothing else is said; or no lens's text
abbrev pub IsTermRead : List ℕ → TermRead → Type 0
IsTermRead bytes (Term t) = ¬ (IsOversized bytes) × IsTermText bytes (lens_of t)
IsTermRead bytes Oversized = IsOversized bytes
IsTermRead bytes Nothing = ¬ (IsOversized bytes) × ((l : Lens) → ¬ (IsTermText bytes l))
