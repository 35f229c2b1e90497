use Rattle.std.proofs.Common.{ℕ, List, take, sym, subst}
use Rattle.hm_netscape_files.specs.Heads.{begins_heading, NoneBefore}
use Rattle.hm_netscape_files.proofs.HeadPlaces.{one_place}
use Rattle.hm_netscape_files.proofs.heads.head_len.Goals as goal

pub returns-then-has_heading : goal.returns-then-has_heading
returns-then-has_heading c = λ n is.
    let bytes = c.args.bytes.now in
    let same = one_place bytes c.in_ok-len.len n c.in_ok-len.ensures.place.0 c.in_ok-len.ensures.place.1 is in
    let plain = subst (λ (m : ℕ). NoneBefore begins_heading m (take m bytes)) (sym same) is.plain in
    let head = subst (λ (l : List ℕ). NoneBefore begins_heading c.in_ok-len.len l) (sym c.split_at.ensures.front) plain in
    c.if-has_heading.ensures (subst (λ (m : ℕ). NoneBefore begins_heading m c.split_at.result.0.now) (sym c.split_at.ensures.front_len) head)
