use Rattle.std.proofs.Common.{rules, ◌≡◌, ◌∷◌, [], ◌++◌, ◌+◌, ◌<◌, ◌∙◌, length, get_or, take, map, filter, ap, sym, subst, List, ℕ}
use Rattle.std.specs.Prelude.{Vec, IsUtf8}
use Rattle.std.specs.Borrow.{Bor}
use Rattle.std.specs.declared.alloc.Global.{Global}
use Rattle.std.proofs.lemmas.List.{length-map, get_or-map, take-map, map-append}
use Rattle.hm_csv_fields.specs.Cutting.{bytes_of, lent, AreLentUtf8}
use Rattle.hm_csv_fields.specs.Texts.{stays}
use Rattle.hm_csv_fields.proofs.Filtered.{comes, goes}
use Rattle.hm_csv_fields.proofs.Items.{item_utf8, pushed_utf8}
use Rattle.hm_csv_fields.proofs.showing.append_staying.Goals as goal
use Rattle.hm_csv_fields.proofs.showing.append_staying.Goals.{then-branch+in_ok-push, else-branch}

pub loop-piece-preserved : goal.loop-piece-preserved
loop-piece-preserved c =
    let within : c.loop-piece.piece-index < length c.args.pieces.now = search rules in
    let all : List (List ℕ) = map bytes_of c.args.pieces.now in
    let lt : c.loop-piece.piece-index < length all =
    subst (λ n. c.loop-piece.piece-index < n) (sym (length-map c.args.pieces.now bytes_of)) within in
    let is : c.piece-item.result.items ≡ get_or all c.loop-piece.piece-index c.piece-item.result.items =
    ap bytes_of c.piece-item.is
    ∙ sym (get_or-map bytes_of c.args.pieces.now c.loop-piece.piece-index c.piece-item.result c.piece-item.result.items within) in
    let before : lent c.loop-piece.new.items ≡ lent c.args.new.now.items ++ filter (stays c.args.set.now) (take c.loop-piece.piece-index all) =
    c.loop-piece.invariant.added
    ∙ ap (λ l. lent c.args.new.now.items ++ filter (stays c.args.set.now) l) (sym (take-map bytes_of c.loop-piece.piece-index c.args.pieces.now)) in
    let after = ap (λ l. lent c.args.new.now.items ++ filter (stays c.args.set.now) l) (take-map bytes_of (c.loop-piece.piece-index + 1) c.args.pieces.now) in
    elim c.if-branch.branch [
      | then-branch+in_ok-push w ↦ record {
        added = comes (stays c.args.set.now) all c.loop-piece.piece-index c.piece-item.result.items lt is (lent c.args.new.now.items)
            (lent c.loop-piece.new.items) (lent c.if-branch.new.items) before
            (ap (stays c.args.set.now) (sym c.deref.ensures.value) ∙ sym c.in_ok-stays.ensures ∙ w.if-branch.true)
            (ap (λ (v : Vec (Bor (List ℕ)) Global). lent v.items) w.new-is ∙ ap lent w.in_ok-push.ensures.items
            ∙ map-append (λ b. b.now) c.loop-piece.new.items (w.deref-then-branch.result ∷ [])
            ∙ ap (λ (n : List ℕ). lent c.loop-piece.new.items ++ n ∷ []) w.deref-then-branch.ensures.value) ∙ after;
        utf8 = subst (λ (v : Vec (Bor (List ℕ)) Global). AreLentUtf8 v.items) (sym w.new-is)
            (pushed_utf8 c.loop-piece.new.items w.push.new.self.items w.deref-then-branch.result c.loop-piece.invariant.utf8 w.in_ok-push.ensures.items
            (subst IsUtf8 (sym w.deref-then-branch.ensures.value)
            (item_utf8 c.args.pieces.now c.loop-piece.piece-index c.piece-item.result c.requires.pieces within c.piece-item.is)));
      }
      | else-branch w ↦ record {
        added = goes (stays c.args.set.now) all c.loop-piece.piece-index c.piece-item.result.items lt is (lent c.args.new.now.items)
            (lent c.loop-piece.new.items) (lent c.if-branch.new.items) before
            (ap (stays c.args.set.now) (sym c.deref.ensures.value) ∙ sym c.in_ok-stays.ensures ∙ w.if-branch.false)
            (ap (λ (v : Vec (Bor (List ℕ)) Global). lent v.items) w.new-is) ∙ after;
        utf8 = subst (λ (v : Vec (Bor (List ℕ)) Global). AreLentUtf8 v.items) (sym w.new-is) c.loop-piece.invariant.utf8;
      }
    ]

pub stays-requires : goal.stays-requires
stays-requires c =
    let utf8 = item_utf8 c.args.pieces.now c.loop-piece.piece-index c.piece-item.result c.requires.pieces (search rules) c.piece-item.is in
    search rules
