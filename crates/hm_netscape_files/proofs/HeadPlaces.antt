-- A file has one head at the most.
use Rattle.std.proofs.Common.{◌≡◌, ℕ, true, List, drop, sym, ◌∙◌, arith, inl, inr}
use Rattle.std.proofs.lemmas.Bool.{true≢false, cases_lt}
use Rattle.hm_netscape_files.specs.Heads.{begins_list, NoneBefore, IsHead}

-- it ends where the first list begins
pub one_place : (bytes : List ℕ) (m n : ℕ) → begins_list (drop m bytes) ≡ true → NoneBefore begins_list m bytes → IsHead bytes n → m ≡ n
one_place bytes m n begins none is =
    elim (cases_lt m n) [
      | inl less ↦ absurd (true≢false (sym begins ∙ is.first m less))
      | inr more ↦ elim (cases_lt n m) [
        | inl less ↦ absurd (true≢false (sym is.list ∙ none n less))
        | inr same ↦ omega arith
      ]
    ]
