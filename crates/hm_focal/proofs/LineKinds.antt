-- A line is of one kind alone: skipped, of a node, or of the file's own.
use Rattle.std.proofs.Common.{◌≡◌, ◌≢◌, ℕ, List, slice_get, Some, sym, ◌∙◌, arith}
use Rattle.hm_schema_lines.specs.NodeLines.{NodeLineValue, node, edge, other, shape, IsNodeLine}
use Rattle.hm_schema_lines.specs.Entries.{IsEntry, unknown}
use Rattle.hm_schema_writer.proofs.Laws.{not_skipped, first_byte, node_first}
use Rattle.hm_focal.specs.OwnLines.{OwnValue, nothing, header, format, lens, main, IsOwn, IsReadOwn}
use Rattle.hm_focal.proofs.Owns.{letter, letter_of}

module _ (line : List ℕ) (o : OwnValue) (h : IsOwn line o) where
  letters : (b : ℕ) → slice_get line 0 ≡ Some b → letter o ≡ b
  letters b e = let both : Some (letter o) ≡ Some b = sym (letter_of line o h) ∙ e in cc

  not_hash : (o : OwnValue) → IsOwn line o → letter o ≢ 35 × letter o ≢ 32 × letter o ≢ 110
  not_hash nothing k = absurd k
  not_hash header k = ((λ e. omega (arith, e)), (λ e. omega (arith, e)), (λ e. omega (arith, e)))
  not_hash (format w ps) k = ((λ e. omega (arith, e)), (λ e. omega (arith, e)), (λ e. omega (arith, e)))
  not_hash (lens d) k = ((λ e. omega (arith, e)), (λ e. omega (arith, e)), (λ e. omega (arith, e)))
  not_hash (main b) k = ((λ e. omega (arith, e)), (λ e. omega (arith, e)), (λ e. omega (arith, e)))

  own_not_node : (x : NodeLineValue) → ¬ (IsNodeLine line x)
  own_not_node x n = go x (letters (first_byte x) (node_first line x n))
    where
      go : (x : NodeLineValue) → letter o ≡ first_byte x → ⊥
      go (node w) e = (not_hash o h).2 e
      go (edge k w) e = (not_hash o h).1 e
      go (other c w) e = (not_hash o h).1 e
      go (shape s) e = (not_hash o h).1 e

  pub own_entry : IsEntry line unknown
  own_entry = (
    not_skipped line (letter o) 0 (letter o) (letter_of line o h) (not_hash o h).0 (letter_of line o h) (not_hash o h).1,
    own_not_node,
  )

pub node_own : (line : List ℕ) (x : NodeLineValue) → IsNodeLine line x → IsReadOwn line nothing
node_own line x n o h = own_not_node line o h x n
