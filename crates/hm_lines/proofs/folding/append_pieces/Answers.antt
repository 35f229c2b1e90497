use Rattle.std.proofs.Common.{◌∙◌, ◌++◌, ◌∷◌, [], ◌<◌, length, take, arith, sym, ap, subst}
use Rattle.std.specs.Str.{IsUtf8}
use Rattle.std.proofs.lemmas.Str.{IsUtf8-drop}
use Rattle.hm_lines.specs.Unfolding.{feed, return}
use Rattle.hm_lines.specs.Folding.{IsLongest}
use Rattle.hm_lines.proofs.FoldedPieces.{kept_more, piece_behind, last_behind, is_longest, left_shorter}
use Rattle.hm_lines.proofs.folding.append_pieces.Goals as goal

pub loop-limit-smaller : goal.loop-limit-smaller
loop-limit-smaller c =
    subst (λ l. length l < length c.loop-limit.rest.now) (sym c.split_at.ensures.back)
    (left_shorter c.loop-limit.limit c.loop-limit.rest.now c.floor_char_boundary.result c.floor_char_boundary.ensures.bound
    c.floor_char_boundary.ensures.boundary c.floor_char_boundary.ensures.nearest c.loop-limit.invariant.text c.loop-limit.invariant.room
    c.loop-limit-test.true)

longest : (c : goal.In_ok-extend_from_slice-2) → IsLongest c.loop-limit.limit c.loop-limit.rest.now c.split_at.result.0.now c.split_at.result.1.now
longest c =
    let is = is_longest c.loop-limit.limit c.loop-limit.rest.now c.floor_char_boundary.result c.floor_char_boundary.ensures.bound
    c.floor_char_boundary.ensures.boundary c.floor_char_boundary.ensures.nearest in
    subst (λ l. IsLongest c.loop-limit.limit c.loop-limit.rest.now l c.split_at.result.1.now) (sym c.split_at.ensures.front)
    (subst (λ l. IsLongest c.loop-limit.limit c.loop-limit.rest.now (take c.floor_char_boundary.result c.loop-limit.rest.now) l)
    (sym c.split_at.ensures.back) is)

pub loop-limit-preserved : goal.loop-limit-preserved
loop-limit-preserved c = record {
  text =
      subst IsUtf8 (sym c.split_at.ensures.back)
      (IsUtf8-drop c.loop-limit.rest.now c.floor_char_boundary.result c.loop-limit.invariant.text c.floor_char_boundary.ensures.boundary);
  room = omega arith;
  kept =
      kept_more c.args.folded.now.items c.extend_from_slice.new.self.items c.extend_from_slice-in-loop-limit.new.self.items
      (return ∷ feed ∷ 32 ∷ [])
      (kept_more c.args.folded.now.items c.loop-limit.folded.items c.extend_from_slice.new.self.items c.as_bytes.result.now
      c.loop-limit.invariant.kept c.in_ok-extend_from_slice.ensures.items)
      c.in_ok-extend_from_slice-2.ensures.items;
  pieces =
      piece_behind c.args.line.now c.args.folded.now.items c.loop-limit.folded.items c.loop-limit.limit c.loop-limit.rest.now
      c.loop-limit.invariant.pieces c.split_at.result.0.now c.split_at.result.1.now c.extend_from_slice.new.self.items
      c.extend_from_slice-in-loop-limit.new.self.items c.loop-limit-test.true (longest c)
      (c.in_ok-extend_from_slice.ensures.items ∙ ap (λ l. c.loop-limit.folded.items ++ l) c.as_bytes.ensures.value)
      c.in_ok-extend_from_slice-2.ensures.items;
}

pub returns-clause-ok : goal.returns-clause-ok
returns-clause-ok c =
    last_behind c.args.line.now c.args.folded.now.items c.loop-limit.folded.items c.loop-limit.limit c.loop-limit.rest.now c.loop-limit.invariant.pieces
    c.extend_from_slice-2.new.self.items c.extend_from_slice-3.new.self.items c.loop-limit-test.false
    (c.in_ok-extend_from_slice-3.ensures.items ∙ ap (λ l. c.loop-limit.folded.items ++ l) c.as_bytes-2.ensures.value)
    c.in_ok-extend_from_slice-4.ensures.items
