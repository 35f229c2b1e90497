use Rattle.std.proofs.Common.{◌≡◌, ◌++◌, List, ℕ}
use Rattle.std.specs.Io.KnownBytes.{Consumes}
use Rattle.hm_outside.proofs.replace.has_bytes.Given as goal

-- what the reader gave so far are the first bytes
abbrev pub invariant-loop : goal.invariant-loop
invariant-loop g l = (given : List ℕ) × Consumes (g.F.Read.remaining l.initial.file) (g.F.Read.remaining l.file) given × (l.bytes ≡ given ++ l.rest)
