-- Lines that were folded are unfolded to the same lines.
use Rattle.std.proofs.Common.{◌≡◌, ℕ, suc, ◌+◌, Bool, true, false, cond, List, [], ◌∷◌, ◌++◌, length, get_or, map, All, refl, sym, ap, ◌∙◌, subst, arith}
use Rattle.std.specs.Bool.{◌==◌}
use Rattle.std.specs.List.{flat_map, onto_first}
use Rattle.std.proofs.lemmas.List.{append_assoc, append-nil, length-append, length-map, get_or-map, get_or_append_left, get_or-append-add}
use Rattle.std.proofs.lemmas.List.Elements.{All-append, All-cons}
use Rattle.hm_lines.specs.Unfolding.{feed, return, begins_with_blank, unfolded, cut, without_return, lines}
use Rattle.hm_lines.specs.Folding.{HasNone, IsPlain, ArePieces, further_limit, joined, AreFolded}
use Rattle.std.specs.Str.{IsUtf8}
use Rattle.std.proofs.lemmas.Str.{IsUtf8-nil, IsUtf8-append}
use Rattle.hm_lines.proofs.Chunks.{line_end}
use Rattle.hm_lines.proofs.Folds.{fold_goes, no_feed_no_fold}
use Rattle.hm_lines.proofs.Returns.{at_last, kept_none}
use Rattle.hm_lines.proofs.FirstLines.{cut_line}
use Rattle.hm_facts.proofs.Bytes.{one_ascii}

-- a line and its end
abbrev pub ended : List ℕ → List ℕ
ended line = line ++ return ∷ feed ∷ []

with_return : (line : List ℕ) → HasNone feed line → HasNone feed (line ++ return ∷ [])
with_return line none =
    All-append (λ b. (b == feed) ≡ false) line (return ∷ []) none (All-cons (λ b. (b == feed) ≡ false) return [] refl (λ k d lt. absurd (omega arith)))

front_none : (front rest : List ℕ) → HasNone feed (front ++ rest) → HasNone feed front
front_none front rest all k d lt =
    let more = length-append front rest in
    subst (λ b. (b == feed) ≡ false) (get_or_append_left front rest d k lt) (all k d (omega arith))

rest_none : (front rest : List ℕ) → HasNone feed (front ++ rest) → HasNone feed rest
rest_none front rest all k d lt =
    let more = length-append front rest in
    subst (λ b. (b == feed) ≡ false) (get_or-append-add front rest k d) (all (length front + k) d (omega arith))

module _ (tail : List ℕ) (apart : begins_with_blank tail ≡ false) where
  last : (piece : List ℕ) → HasNone feed piece → unfolded ((piece ++ return ∷ feed ∷ []) ++ tail) ≡ piece ++ return ∷ feed ∷ unfolded tail
  last piece none =
      ap unfolded (append_assoc piece (return ∷ feed ∷ []) tail ∙ sym (append_assoc piece (return ∷ []) (feed ∷ tail)))
      ∙ line_end (piece ++ return ∷ []) tail (with_return piece none) apart
      ∙ append_assoc piece (return ∷ []) (feed ∷ unfolded tail)

  fold : (piece more : List ℕ) → HasNone feed piece → unfolded ((piece ++ return ∷ feed ∷ 32 ∷ more) ++ tail) ≡ piece ++ unfolded (more ++ tail)
  fold piece more none =
      ap unfolded (append_assoc piece (return ∷ feed ∷ 32 ∷ more) tail ∙ sym (append_assoc piece (return ∷ []) (feed ∷ 32 ∷ more ++ tail)))
      ∙ fold_goes 32 (more ++ tail) refl (piece ++ return ∷ []) (no_feed_no_fold (piece ++ return ∷ []) (feed ∷ 32 ∷ more ++ tail) (with_return piece none))
      ∙ ap (λ l. l ++ unfolded (more ++ tail)) (at_last piece return ∙ append-nil piece)

  pieces_unfold : (limit : ℕ) (line : List ℕ) (pieces : List (List ℕ)) → ArePieces limit line pieces → HasNone feed line
      → unfolded (joined pieces ++ tail) ≡ line ++ return ∷ feed ∷ unfolded tail
  pieces_unfold limit line [] cut none = absurd cut
  pieces_unfold limit line (piece ∷ []) (short, is) none =
      last piece (subst (HasNone feed) is none) ∙ ap (λ l. l ++ return ∷ feed ∷ unfolded tail) (sym is)
  pieces_unfold limit line (piece ∷ next ∷ pieces) (long, (rest, (longest, others))) none =
      let parted = subst (HasNone feed) longest.parts none in
      fold piece (joined (next ∷ pieces)) (front_none piece rest parted)
      ∙ ap (λ l. piece ++ l) (pieces_unfold further_limit rest (next ∷ pieces) others (rest_none piece rest parted))
      ∙ sym (append_assoc piece rest (return ∷ feed ∷ unfolded tail))
      ∙ ap (λ l. l ++ return ∷ feed ∷ unfolded tail) (sym longest.parts)

-- ---- what is written of lines begins with no blank

no_blank_joined : (piece more tail line : List ℕ) → line ≡ piece ++ more → begins_with_blank line ≡ false → (ends : List ℕ)
    → begins_with_blank ((piece ++ return ∷ ends) ++ tail) ≡ false
no_blank_joined [] more tail line is apart ends = refl
no_blank_joined (b ∷ piece) more tail line is apart ends = ap begins_with_blank (sym is) ∙ apart

no_blank_pieces : (limit : ℕ) (line tail : List ℕ) (pieces : List (List ℕ)) → ArePieces limit line pieces → begins_with_blank line ≡ false
    → begins_with_blank (joined pieces ++ tail) ≡ false
no_blank_pieces limit line tail [] cut apart = absurd cut
no_blank_pieces limit line tail (piece ∷ []) (short, is) apart = no_blank_joined piece [] tail line (is ∙ sym (append-nil piece)) apart (feed ∷ [])
no_blank_pieces limit line tail (piece ∷ next ∷ pieces) (long, (rest, (longest, others))) apart =
    no_blank_joined piece rest tail line longest.parts apart (feed ∷ 32 ∷ joined (next ∷ pieces))

no_blank_lines : (ls : List (List ℕ)) (bytes : List ℕ) → All IsPlain ls → AreFolded ls bytes → begins_with_blank bytes ≡ false
no_blank_lines [] bytes plain is = ap begins_with_blank is
no_blank_lines (l ∷ ls) bytes plain (first, rest, folded, others, parts) =
    ap begins_with_blank (parts ∙ ap (λ b. b ++ rest) folded.joins)
    ∙ no_blank_pieces _ l rest folded.pieces folded.cut (plain 0 l (omega arith)).no_blank

-- ---- lines

-- lines that were folded are unfolded to the lines with their ends
pub folded_unfolded : (ls : List (List ℕ)) (bytes : List ℕ) → All IsPlain ls → AreFolded ls bytes → unfolded bytes ≡ flat_map ended ls
folded_unfolded [] bytes plain is = ap unfolded is
folded_unfolded (l ∷ ls) bytes plain (first, rest, folded, others, parts) =
    let later : All IsPlain ls = λ k d lt. plain (suc k) d (omega arith) in
    ap unfolded (parts ∙ ap (λ b. b ++ rest) folded.joins)
    ∙ pieces_unfold rest (no_blank_lines ls rest later others) _ l folded.pieces folded.cut (plain 0 l (omega arith)).no_feed
    ∙ ap (λ b. l ++ return ∷ feed ∷ b) (folded_unfolded ls rest later others)
    ∙ sym (append_assoc l (return ∷ feed ∷ []) (flat_map ended ls))

pub ended_lines : (ls : List (List ℕ)) → All IsPlain ls → lines (flat_map ended ls) ≡ ls
ended_lines [] plain = refl
ended_lines (l ∷ ls) plain =
    ap lines (append_assoc l (return ∷ feed ∷ []) (flat_map ended ls) ∙ sym (append_assoc l (return ∷ []) (feed ∷ flat_map ended ls)))
    ∙ ap (map without_return) (cut_line (l ++ return ∷ []) (flat_map ended ls) (with_return l (plain 0 l (omega arith)).no_feed))
    ∙ (λ i. (at_last l return ∙ append-nil l) i ∷ ended_lines ls (λ k d lt. plain (suc k) d (omega arith)) i)

-- lines that were folded are unfolded to themselves
pub folded_lines : (ls : List (List ℕ)) (bytes : List ℕ) → All IsPlain ls → AreFolded ls bytes → lines (unfolded bytes) ≡ ls
folded_lines ls bytes plain is = ap lines (folded_unfolded ls bytes plain is) ∙ ended_lines ls plain

-- which are UTF-8 where the lines are
pub ended_utf8 : (ls : List (List ℕ)) → All IsUtf8 ls → IsUtf8 (flat_map ended ls)
ended_utf8 [] all = IsUtf8-nil
ended_utf8 (l ∷ ls) all =
    IsUtf8-append (ended l) (flat_map ended ls)
    (IsUtf8-append l (return ∷ feed ∷ []) (all 0 l (omega arith))
    (IsUtf8-append (return ∷ []) (feed ∷ []) (one_ascii return (omega arith)) (one_ascii feed (omega arith))))
    (ended_utf8 ls (λ k d lt. all (suc k) d (omega arith)))

-- ---- no line has a line feed

led_none : (b : ℕ) (ps : List (List ℕ)) → (b == feed) ≡ false → All (HasNone feed) ps → All (HasNone feed) (onto_first b ps)
led_none b [] e all = All-cons (HasNone feed) (b ∷ []) [] (All-cons (λ x. (x == feed) ≡ false) b [] e (λ k d lt. absurd (omega arith))) (λ k d lt. absurd (omega arith))
led_none b (p ∷ ps) e all =
    All-cons (HasNone feed) (b ∷ p) ps (All-cons (λ x. (x == feed) ≡ false) b p e (all 0 p (omega arith))) (λ k d lt. all (suc k) d (omega arith))

cut_none : (bytes : List ℕ) → All (HasNone feed) (cut bytes)
cut_none [] = λ k d lt. absurd (omega arith)
cut_none (b ∷ bytes) = go (b == feed) refl (cut_none bytes)
  where
    go : (c : Bool) → (b == feed) ≡ c → All (HasNone feed) (cut bytes) → All (HasNone feed) (cond c ([] ∷ cut bytes) (onto_first b (cut bytes)))
    go true e all = All-cons (HasNone feed) [] (cut bytes) (λ k d lt. absurd (omega arith)) all
    go false e all = led_none b (cut bytes) e all

pub lines_no_feed : (bytes : List ℕ) → All (HasNone feed) (lines bytes)
lines_no_feed bytes k d lt =
    let same = length-map (cut bytes) without_return in
    subst (HasNone feed) (sym (get_or-map without_return (cut bytes) k d d (omega arith)))
    (kept_none feed (get_or (cut bytes) k d) (cut_none bytes k d (omega arith)))
