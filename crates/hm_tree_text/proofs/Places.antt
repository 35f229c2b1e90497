-- Places in the bytes, and the texts that stand there.
use Rattle.std.proofs.Common.{◌≡◌, ℕ, ◌+◌, ◌≤◌, List, ◌++◌, length, drop, sym, ap, ◌∙◌, append_assoc, arith, length-append, length-drop}
use Rattle.hm_tree_text.specs.Reading.{StandsAt}

-- what stands behind a text
pub behind : (bytes part : List ℕ) (start end : ℕ) → start ≤ length bytes → StandsAt bytes start part end → end ≡ start + length part
behind bytes part start end le h =
    let l = ap length h.spelled in
    let a = length-drop start bytes in
    let b = length-drop end bytes in
    let c = length-append part (drop end bytes) in
    let d = h.within in
    omega arith

-- two texts, one behind the other
pub joins : (bytes one two : List ℕ) (start middle end : ℕ) → StandsAt bytes start one middle → StandsAt bytes middle two end
    → StandsAt bytes start (one ++ two) end
joins bytes one two start middle end g h = record {
  spelled = g.spelled ∙ ap (λ l. one ++ l) h.spelled ∙ sym (append_assoc one two (drop end bytes));
  within = h.within;
}
