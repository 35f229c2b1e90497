use Rattle.std.proofs.Common.{◌<◌, ℕ, ap, sym, subst, ◌∙◌}
use Rattle.std.specs.Borrow.{Bor}
use Rattle.std.proofs.lemmas.List.{get_or-map}
use Rattle.hm_tree.specs.Names.{Name}
use Rattle.hm_tree.proofs.Sorted.{place_read}
use Rattle.hm_book_items.specs.LentKeys.{lent_counts}
use Rattle.hm_book_items.proofs.LentKeys.{lent_length}
use Rattle.hm_book_items.proofs.wanted.is_at.Goals as goal

pub returns-then-place-wanted : goal.returns-then-place-wanted
returns-then-place-wanted c = λ yes.
    let wanted = c.args.wanted.now in
    let here = c.index-wanted-place.result in
    let plain : Bor Name × ℕ → Name × ℕ = λ e. (e.0.now, e.1) in
    let lent = get_or-map plain wanted c.args.place here (plain here) c.if-place-wanted.true in
    place_read c.args.key.now (lent_counts wanted) c.requires c.args.place (plain here)
    (subst (λ n. c.args.place < n) (sym (lent_length wanted)) c.if-place-wanted.true)
    (ap (λ (e : Name × ℕ). e.0) lent ∙ c.same.ensures.0 yes)
