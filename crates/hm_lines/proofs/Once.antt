-- What is folded of lines, and how a line is parted, is one at the most.
use Rattle.std.proofs.Common.{◌≡◌, ℕ, ◌+◌, ◌<◌, inl, inr, List, [], ◌∷◌, ◌++◌, length, take, drop, refl, sym, ap, ◌∙◌, subst, arith}
use Rattle.std.specs.List.{prefix_len}
use Rattle.std.proofs.lemmas.Bool.{cases_order, both_ways}
use Rattle.std.proofs.lemmas.List.{take_at, drop_at, take-take, get_or-take, length-take-le}
use Rattle.hm_lines.specs.declared.content.LineParts.{LineParts}
use Rattle.hm_lines.specs.Folding.{IsLongest, ArePieces, first_limit, further_limit, joined, IsFolded, AreFolded}
use Rattle.hm_lines.specs.Content.{is_of_word, opens_quotes, IsContentLine, IsFirstColon}
use Rattle.hm_lines.proofs.ContentLines.{are_found}

module _ (limit : ℕ) (text p x q y : List ℕ) (one : IsLongest limit text p x) (two : IsLongest limit text q y) where
  same_length : length p ≡ length q
  same_length =
      let low = one.longest (length q) two.within two.character in
      let high = two.longest (length p) one.within one.character in
      omega arith

  same_piece : p ≡ q
  same_piece =
      sym (take_at p x (length p) refl) ∙ ap (take (length p)) (sym one.parts ∙ two.parts) ∙ ap (λ n. take n (q ++ y)) same_length
      ∙ take_at q y (length q) refl

  same_rest : x ≡ y
  same_rest =
      sym (drop_at p x (length p) refl) ∙ ap (drop (length p)) (sym one.parts ∙ two.parts) ∙ ap (λ n. drop n (q ++ y)) same_length
      ∙ drop_at q y (length q) refl

pub pieces_once : (limit : ℕ) (text : List ℕ) (ps qs : List (List ℕ)) → ArePieces limit text ps → ArePieces limit text qs → ps ≡ qs
pieces_once limit text [] qs one two = absurd one
pieces_once limit text (p ∷ ps) [] one two = absurd two
pieces_once limit text (p ∷ []) (q ∷ []) (_, one) (_, two) = ap (λ (l : List ℕ). l ∷ []) (sym one ∙ two)
pieces_once limit text (p ∷ []) (q ∷ r ∷ qs) (short, _) (long, _) = absurd (omega arith)
pieces_once limit text (p ∷ o ∷ ps) (q ∷ []) (long, _) (short, _) = absurd (omega arith)
pieces_once limit text (p ∷ o ∷ ps) (q ∷ r ∷ qs) (_, (x, (one, ones))) (_, (y, (two, twos))) =
    let rests = same_rest limit text p x q y one two in
    λ i. same_piece limit text p x q y one two i
    ∷ pieces_once further_limit y (o ∷ ps) (r ∷ qs) (subst (λ l. ArePieces further_limit l (o ∷ ps)) rests ones) twos i

pub folded_once : (line a b : List ℕ) → IsFolded line a → IsFolded line b → a ≡ b
folded_once line a b one two = one.joins ∙ ap joined (pieces_once first_limit line one.pieces two.pieces one.cut two.cut) ∙ sym two.joins

pub all_folded_once : (lines : List (List ℕ)) (a b : List ℕ) → AreFolded lines a → AreFolded lines b → a ≡ b
all_folded_once [] a b one two = one ∙ sym two
all_folded_once (line ∷ lines) a b (f, r, one, ones, parts) (g, s, two, twos, others) =
    parts ∙ (λ i. folded_once line f g one two i ++ all_folded_once lines r s ones twos i) ∙ sym others

-- ---- content lines

module _ (bytes : List ℕ) where
  not_before : (a b : ℕ) → IsFirstColon bytes a → IsFirstColon bytes b → a < b → ⊥
  not_before a b one two lt =
      let within = two.within in
      let long = length-take-le b bytes (omega arith) in
      both_ways (opens_quotes (take a bytes)) one.before.outside
      (ap opens_quotes (sym (take-take a b bytes (omega arith)))
      ∙ two.before.first a (omega arith) (get_or-take b bytes a 0 lt ∙ one.is_colon))

  one_colon : (a b : ℕ) → IsFirstColon bytes a → IsFirstColon bytes b → a ≡ b
  one_colon a b one two = elim (cases_order a b) [
    | inl same ↦ same
    | inr other ↦ elim other [
      | inl lt ↦ absurd (not_before a b one two lt)
      | inr gt ↦ absurd (not_before b a two one gt)
    ]
  ]

module _ (line : List ℕ) (p q : LineParts) (one : IsContentLine line p) (two : IsContentLine line q) where
  same_from : length one.group ≡ length two.group
  same_from = sym (are_found line p one).group ∙ (are_found line q two).group

  same_to : length one.group + length one.name ≡ length two.group + length two.name
  same_to =
      sym (are_found line p one).name ∙ ap (λ n. n + prefix_len is_of_word (drop n line)) same_from ∙ (are_found line q two).name

  same_parameters : length one.parameters ≡ length two.parameters
  same_parameters =
      one_colon (drop (length two.group + length two.name) line) (length one.parameters) (length two.parameters)
      (subst (λ n. IsFirstColon (drop n line) (length one.parameters)) same_to (are_found line p one).has.colon)
      (are_found line q two).has.colon

  -- a line is parted in one way alone
  pub parted_once : p ≡ q
  parted_once =
      let from = one.name_from ∙ same_from ∙ sym two.name_from in
      let to = one.name_to ∙ same_to ∙ sym two.name_to in
      let value = one.value_from ∙ (λ i. same_to i + same_parameters i + 1) ∙ sym two.value_from in
      λ i. record { name_from = from i; name_to = to i; value_from = value i }
