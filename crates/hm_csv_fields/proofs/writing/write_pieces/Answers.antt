use Rattle.std.proofs.Common.{rules, ◌≡◌, ◌++◌, ◌∙◌, ◌<◌, ◌≤◌, get_or, length, ap, sym, subst, [], ℕ}
use Rattle.std.specs.Prelude.{Vec, IsUtf8}
use Rattle.std.specs.declared.alloc.Global.{Global}
use Rattle.std.proofs.lemmas.List.{length-map, get_or-map, take_all}
use Rattle.hm_csv_fields.specs.Pieces.{spelled, written}
use Rattle.hm_csv_fields.proofs.Items.{lent_utf8}
use Rattle.hm_csv_fields.proofs.Utf8Pieces.{written_utf8}
use Rattle.hm_csv_fields.specs.Cutting.{lent}
use Rattle.hm_csv_fields.proofs.Joined.{first_piece, next_piece}
use Rattle.hm_csv_fields.proofs.writing.write_pieces.Goals as goal
use Rattle.hm_csv_fields.proofs.writing.write_pieces.Goals.{then-place-gt0+in_ok-push, else-place-gt0}

pub loop-place-preserved : goal.loop-place-preserved
loop-place-preserved c =
    let within : c.loop-place.place < length c.args.pieces.now = search rules in
    let lt : c.loop-place.place < length (lent c.args.pieces.now) =
    subst (λ n. c.loop-place.place < n) (sym (length-map c.args.pieces.now (λ b. b.now))) within in
    let more : c.append_spelled.new.made.items ≡ c.if-place-gt0.made.items ++ spelled (get_or (lent c.args.pieces.now) c.loop-place.place []) =
    c.in_ok-append_spelled.ensures
    ∙ ap (λ l. c.if-place-gt0.made.items ++ spelled l)
    (sym (get_or-map (λ b. b.now) c.args.pieces.now c.loop-place.place (record { ref_ptr = (0, 0); now = [] }) [] within)) in
    elim c.if-place-gt0.branch [
      | then-place-gt0+in_ok-push w ↦
          next_piece (lent c.args.pieces.now) c.loop-place.place lt c.loop-place.made.items c.if-place-gt0.made.items c.append_spelled.new.made.items
          (search rules) c.loop-place.invariant (ap (λ (v : Vec ℕ Global). v.items) w.made-is ∙ w.in_ok-push.ensures.items) more
      | else-place-gt0 w ↦
          first_piece (lent c.args.pieces.now) c.loop-place.place lt c.if-place-gt0.made.items c.append_spelled.new.made.items (search rules)
          (ap (λ (v : Vec ℕ Global). v.items) w.made-is ∙ c.loop-place.invariant) more
    ]

pub returns-clause-utf8 : goal.returns-clause-utf8
returns-clause-utf8 c =
    let all : length (lent c.args.pieces.now) ≤ c.loop-place.place =
    subst (λ n. n ≤ c.loop-place.place) (sym (length-map c.args.pieces.now (λ b. b.now))) (search rules) in
    let is = c.loop-place.invariant ∙ ap written (take_all c.loop-place.place (lent c.args.pieces.now) all) in
    subst IsUtf8 (sym is) (written_utf8 (lent c.args.pieces.now) (lent_utf8 c.args.pieces.now c.requires.utf8))
