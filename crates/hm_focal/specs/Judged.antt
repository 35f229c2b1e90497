-- The lines of a file of which none is bad, or the first bad one.
use Rattle.std.specs.Prelude.{ℕ, List, Result, Ok, Err}
use Rattle.hm_schema_lines.specs.Entries.{entry_values, texts_of}
use Rattle.hm_schema_lines.specs.FirstBad.{HasNoBad}
use Rattle.hm_schema_lines.specs.Firsts.{node_names, AreFirsts}
use Rattle.hm_focal.specs.declared.fault.LensFault.{LensFault}
use Rattle.hm_focal.specs.declared.fault.LensFault.TheVariants.{BadLens, Memory}
use Rattle.hm_focal.specs.declared.read.SoundLines.{SoundLines}
use Rattle.hm_focal.specs.OwnLines.{own_values}
use Rattle.hm_focal.specs.Lines.{AreLines}
use Rattle.hm_focal.specs.BadLines.{IsBadLine, IsFirstBadLine}

-- the lines of these bytes, of which none is bad, and the nodes that they declare
pub record AreSoundLines (bytes : List ℕ) (s : SoundLines) : Type 0 where
  pub read : AreLines (texts_of bytes) (entry_values s.lines.entries.items) (own_values s.lines.own.items)
  pub sound : HasNoBad (IsBadLine (entry_values s.lines.entries.items) (own_values s.lines.own.items))
  pub nodes : AreFirsts s.declared (node_names (entry_values s.lines.entries.items))

abbrev pub JudgesLines : List ℕ → Result SoundLines LensFault → Type 0
JudgesLines bytes (Ok s) = AreSoundLines bytes s
JudgesLines bytes (Err (BadLens line)) = IsFirstBadLine bytes line
JudgesLines bytes (Err Memory) = Unit {0}
