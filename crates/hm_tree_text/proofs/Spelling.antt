-- The spelling is a prefix code: no text of a value is the beginning of another's, where what follows is no colon.
use Rattle.std.proofs.Common.{◌≡◌, ◌≢◌, ℕ, Bool, true, false, List, [], ◌∷◌, ◌++◌, refl, sym, ◌∙◌, append_assoc, arith}
use Rattle.hm_tree.specs.Names.{Name}
use Rattle.hm_tree.specs.Nodes.{Shape, bare, mark, edge, Node}
use Rattle.hm_tree.specs.NodeLaws.{same_node}
use Rattle.hm_tree_spelling.specs.Spelling.{spelled}
use Rattle.hm_tree_spelling.specs.SpellingLaws.{spelled_one, spelled-append}
use Rattle.hm_tree_text.specs.Text.{Position, whole, below, further, before, text, edge_text, separator}

-- behind a name the bytes that follow don't begin with a colon
abbrev pub IsOver : Position → List ℕ → Type 0
IsOver whole bytes = Unit {0}
IsOver further bytes = Unit {0}
IsOver below [] = Unit {0}
IsOver below (b ∷ bytes) = b ≢ 58

over_further : (more : Shape) (x : List ℕ) → IsOver below (text further more ++ x)
over_further bare x = λ e. omega arith
over_further mark x = λ e. omega arith
over_further (edge n c r) x = λ e. omega arith

pub over_separator : (more : Bool) (x : List ℕ) → IsOver below (separator more ∷ x)
over_separator true x = λ e. omega arith
over_separator false x = λ e. omega arith

regroup : (a b c d x : List ℕ) → (a ++ (b ++ (c ++ d))) ++ x ≡ a ++ (b ++ (c ++ (d ++ x)))
regroup a b c d x = simp append_assoc

before_apart : (p : Position) (x y : List ℕ) → before p ++ x ≡ before p ++ y → x ≡ y
before_apart whole x y e = cc
before_apart below x y e = cc
before_apart further x y e = cc

-- two lists that begin with different numbers
pub heads : (a b : ℕ) (x y : List ℕ) → a ∷ x ≡ b ∷ y → a ≢ b → ⊥
heads a b x y e differ = let head : a ≡ b = cc in differ head

pub tails : (a b : ℕ) (x y : List ℕ) → a ∷ x ≡ b ∷ y → x ≡ y
tails a b x y e = cc

pub brace_quote : ◌≢◌ {A = ℕ} 125 34
brace_quote e = omega arith

pub brace_comma : ◌≢◌ {A = ℕ} 125 44
brace_comma e = omega arith

pub open_mark : ◌≢◌ {A = ℕ} 123 33
open_mark e = omega arith

close_mark : ◌≢◌ {A = ℕ} 125 33
close_mark e = omega arith

comma_mark : ◌≢◌ {A = ℕ} 44 33
comma_mark e = omega arith

pub no_colon : (x y : List ℕ) → IsOver below x → x ≡ 58 ∷ y → ⊥
no_colon [] y o e = cc
no_colon (b ∷ x) y o e = let colon : b ≡ 58 = cc in o colon

bare_edge : (p : Position) (x y : List ℕ) (n : Name) → IsOver p x → text p bare ++ x ≡ before p ++ (spelled n ++ y) → ⊥
bare_edge whole x y n o e = heads 125 34 _ _ (tails 123 123 _ _ e ∙ spelled-append n y) brace_quote
bare_edge further x y n o e = heads 125 44 _ _ e brace_comma
bare_edge below x y n o e = no_colon x _ o e

bare_mark : (p : Position) (x y : List ℕ) → IsOver p x → text p bare ++ x ≡ text p mark ++ y → ⊥
bare_mark whole x y o e = heads 123 33 _ _ e open_mark
bare_mark further x y o e = heads 125 33 _ _ e close_mark
bare_mark below x y o e = no_colon x _ o e

mark_edge : (p : Position) (x y : List ℕ) → text p mark ++ x ≡ before p ++ y → ⊥
mark_edge whole x y e = heads 123 33 _ _ (sym e) open_mark
mark_edge further x y e = heads 44 33 _ _ (sym e) comma_mark
mark_edge below x y e = heads 123 33 _ _ (tails 58 58 _ _ (sym e)) open_mark

bare_bare : (p : Position) (x y : List ℕ) → text p bare ++ x ≡ text p bare ++ y → x ≡ y
bare_bare whole x y e = cc
bare_bare further x y e = cc
bare_bare below x y e = e

mark_mark : (p : Position) (x y : List ℕ) → text p mark ++ x ≡ text p mark ++ y → x ≡ y
mark_mark whole x y e = cc
mark_mark further x y e = cc
mark_mark below x y e = cc

pub apart : (p : Position) (a b : Shape) (x y : List ℕ) → (a ≡ bare → IsOver p x) → (b ≡ bare → IsOver p y) → text p a ++ x ≡ text p b ++ y
    → (a ≡ b) × (x ≡ y)
apart p bare bare x y ox oy e = (refl, bare_bare p x y e)
apart p bare mark x y ox oy e = absurd (bare_mark p x y (ox refl) e)
apart p bare (edge n c r) x y ox oy e = absurd (bare_edge p x _ n (ox refl) (e ∙ regroup (before p) (spelled n) (text below c) (text further r) y))
apart p mark bare x y ox oy e = absurd (bare_mark p y x (oy refl) (sym e))
apart p mark mark x y ox oy e = (refl, mark_mark p x y e)
apart p mark (edge n c r) x y ox oy e = absurd (mark_edge p x _ (e ∙ append_assoc (before p) (spelled n ++ (text below c ++ text further r)) y))
apart p (edge n c r) bare x y ox oy e =
    absurd (bare_edge p y _ n (oy refl) (sym e ∙ regroup (before p) (spelled n) (text below c) (text further r) x))
apart p (edge n c r) mark x y ox oy e = absurd (mark_edge p y _ (sym e ∙ append_assoc (before p) (spelled n ++ (text below c ++ text further r)) x))
apart p (edge n c r) (edge m d s) x y ox oy e =
    let behind = before_apart p _ _ (sym (regroup (before p) (spelled n) (text below c) (text further r) x) ∙ e
    ∙ regroup (before p) (spelled m) (text below d) (text further s) y) in
    let one = spelled_one n m (text below c ++ (text further r ++ x)) (text below d ++ (text further s ++ y)) behind in
    let two = apart below c d (text further r ++ x) (text further s ++ y) (λ _. over_further r x) (λ _. over_further s y) one.1 in
    let three = apart further r s x y (λ _. tt) (λ _. tt) two.1 in
    ((λ i. edge (one.0 i) (two.0 i) (three.0 i)), three.1)

pub separator_apart : (a b : Bool) (x y : List ℕ) → separator a ∷ x ≡ separator b ∷ y → (a ≡ b) × (x ≡ y)
separator_apart true true x y e = (refl, cc)
separator_apart true false x y e = absurd (heads 125 44 y x (sym e) brace_comma)
separator_apart false true x y e = absurd (heads 125 44 x y e brace_comma)
separator_apart false false x y e = (refl, cc)

-- what stands behind a name, up to a separator
pub below_apart : (c d : Shape) (a b : Bool) (x y : List ℕ) → text below c ++ separator a ∷ x ≡ text below d ++ separator b ∷ y
    → (c ≡ d) × (a ≡ b) × (x ≡ y)
below_apart c d a b x y e =
    let two = apart below c d (separator a ∷ x) (separator b ∷ y) (λ _. over_separator a x) (λ _. over_separator b y) e in
    let three = separator_apart a b x y two.1 in
    (two.0, three.0, three.1)

-- an edge with what stands behind it
pub edge_apart : {k : Bool} (n m : Name) (c d : Node k) (a b : Bool) (x y : List ℕ)
    → edge_text n c.shape ++ separator a ∷ x ≡ edge_text m d.shape ++ separator b ∷ y → (n ≡ m) × (c ≡ d) × (a ≡ b) × (x ≡ y)
edge_apart n m c d a b x y e =
    let one = spelled_one n m (text below c.shape ++ separator a ∷ x) (text below d.shape ++ separator b ∷ y)
    (sym (append_assoc (spelled n) (text below c.shape) (separator a ∷ x)) ∙ e
    ∙ append_assoc (spelled m) (text below d.shape) (separator b ∷ y)) in
    let two = below_apart c.shape d.shape a b x y one.1 in
    (one.0, same_node c d two.0, two.1, two.2)
