-- The definitions, tried on small folders: links with a number beside title and address, and what isn't kept of them.
use Rattle.std.proofs.Common.{◌≡◌, ◌≤◌, ℕ, [], ◌∷◌, length, get_or, Some, None, refl, ap, codes, arith}
use Rattle.hm_tree.specs.Names.{Name, name_cmp}
use Rattle.hm_tree.specs.Nodes.{Tree}
use Rattle.hm_marks.specs.Contents.{Contents, nothing, link, folder, separator, a_link}
use Rattle.hm_marks.specs.Layouts.{Layout, IsLayout}
use Rattle.hm_marks.specs.Pieces.{an_item, a_separator, pieces}
use Rattle.hm_marks.specs.Kept.{Keeps, behind, link_survives, folder_survives, link_goes, folder_goes}

-- title, address and a number; title and a number
abbrev Link : Type 0
Link = Name × Name × ℕ

abbrev Folder : Type 0
Folder = Name × ℕ

abbrev Small : Type 0
Small = Contents Link Folder ℕ

abbrev small : Layout Link Folder
small = record {
  link_key = λ l. l.0;
  address = λ l. l.1;
  folder_key = λ f. f.0;
  new_link = λ k n. (k, n, 0);
  readdressed = λ l n. (l.0, n, l.2);
  new_folder = λ k. (k, 0);
}

abbrev AreAlike : Link → Link → Type 0
AreAlike l m = (l.0 ≡ m.0) × (l.2 ≡ m.2)

is_layout : IsLayout small (λ l. Unit {0}) (λ f. Unit {0}) AreAlike
is_layout = record {
  new_key = λ k n key address. refl;
  new_address = λ k n key address. refl;
  new_stands = λ k n key address. tt;
  same_key = λ l n is address. refl;
  other_address = λ l n is address. refl;
  still_stands = λ l n is address. tt;
  still_alike = λ l n is address. (refl, refl);
  new_folder_key = λ k key. refl;
  new_folder_stands = λ k key. tt;
}

abbrev a : Name
a = codes "a"

abbrev b : Name
b = codes "b"

abbrev here : Name
here = codes "here"

abbrev there : Name
there = codes "there"

abbrev KeepsSmall : Small → Small → Type 0
KeepsSmall old new = Keeps small AreAlike old new

-- what survives stands where it stood, with the separators between, and what is new behind all
what_is_new : (t u : Tree) (c : Small)
    → pieces small ((a, t ∷ []) ∷ (b, u ∷ []) ∷ []) (link (a, here, 1) (separator 1 (folder (codes "c", 1) c nothing)))
    ≡ an_item (a, Some (a_link (a, here, 1)), t) ∷ a_separator 1 ∷ an_item (b, None, u) ∷ []
unfolding name_cmp
what_is_new t u c = refl

-- ---- what isn't kept

no_first : 1 ≤ 0 → ⊥
no_first le = omega (arith, le)

keys_apart : b ≡ a → ⊥
keys_apart e = let first : 98 ≡ 97 = ap (λ (n : Name). get_or n 0 0) e in omega (arith, first)

addresses_apart : there ≡ here → ⊥
addresses_apart e = let first : 116 ≡ 104 = ap (λ (n : Name). get_or n 0 0) e in omega (arith, first)

-- a separator that moves
moved : ¬ (KeepsSmall (link (a, here, 1) (separator 1 nothing)) (separator 1 (link (a, here, 1) nothing)))
unfolding name_cmp
moved h = elim h [ link_goes le rest ↦ no_first le ]

-- a new item in front
front : ¬ (KeepsSmall (link (a, here, 1) nothing) (link (b, here, 0) (link (a, here, 1) nothing)))
unfolding name_cmp
front h = elim h [
  | link_survives lt is rest ↦ keys_apart is.key_is
  | link_goes le rest ↦ no_first le
]

-- the second item of a key in place of the first
second : ¬ (KeepsSmall (link (a, here, 1) (link (a, here, 2) nothing)) (link (a, here, 2) nothing))
unfolding name_cmp
second h = elim h [
  | link_survives lt is rest ↦ (let bad : 2 ≡ 1 = ap (λ (l : Link). l.2) (is.same refl) in omega (arith, bad))
  | link_goes le rest ↦ no_first le
]

-- a link with another address that isn't what it was besides
other : ¬ (KeepsSmall (link (a, here, 1) nothing) (link (a, there, 2) nothing))
unfolding name_cmp
other h = elim h [
  | link_survives lt is rest ↦ (let bad : 1 ≡ 2 = (is.alike addresses_apart).1 in omega (arith, bad))
  | link_goes le rest ↦ no_first le
]

-- a folder without what stood in it
emptied : ¬ (KeepsSmall (folder (a, 1) (separator 1 nothing) nothing) (folder (a, 1) nothing nothing))
unfolding name_cmp
emptied h = elim h [
  | folder_survives lt inside rest ↦ elim inside [ ]
  | folder_goes le rest ↦ no_first le
]

-- a separator that comes
came : ¬ (KeepsSmall nothing (separator 1 nothing))
came h = elim h [ behind none ↦ (let bad : 1 ≡ 0 = ap length none in omega (arith, bad)) ]
