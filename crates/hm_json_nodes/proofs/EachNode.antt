-- The nodes of a folder are nodes, at every depth.
use Rattle.std.proofs.Common.{◌≡◌, ℕ, Bool, true, false, List, [], ◌++◌, refl, sym, ap, ◌∙◌, subst, get_or, arith}
use Rattle.std.specs.Prelude.{All, unwrap_or}
use Rattle.std.proofs.lemmas.Bool.{and_parts, or_left, or_right}
use Rattle.std.proofs.lemmas.List.Elements.{All-append, All-nil, All-cons}
use Rattle.std.proofs.lemmas.Slice.Eq.{bytes_eq-Decides}
use Rattle.serde_json.specs.Data.{Data, object, Items, Members}
use Rattle.hm_json_nodes.specs.Nodes.{type_key, url_key, folder_type, text_at, has_type, is_link, is_folder, Contents, AreNodes, no_nodes, a_link_node, a_folder_node}
use Rattle.hm_json_nodes.specs.Numbers.{listed, below, is_node}
use Rattle.hm_json_nodes.proofs.Listed.{below_folder}

-- a link is no folder
pub link_no_folder : (d : Data) → is_link d ≡ true → is_folder d ≡ false
link_no_folder d h = go (has_type folder_type d) refl
  where
    named : (word : List ℕ) → has_type word d ≡ true → unwrap_or (text_at type_key d) [] ≡ word
    named word e = (bytes_eq-Decides (unwrap_or (text_at type_key d) []) word).0 e

    go : (b : Bool) → has_type folder_type d ≡ b → is_folder d ≡ false
    go true e =
        let same : url_key ≡ folder_type = sym (named url_key (and_parts _ _ h).0) ∙ named folder_type e in
        let first : 117 ≡ 102 = ap (λ (w : List ℕ). get_or w 0 0) same in absurd (omega (arith, first))
    go false e = rw e refl

pub below_link : (ms : Members) → is_link (object ms) ≡ true → below (object ms) ≡ []
below_link ms h = rw (link_no_folder (object ms) h) refl

abbrev pub AreAll : List Data → Type 0
AreAll ds = All (λ d. is_node d ≡ true) ds

pub all_nodes : (ds : Items) (c : Contents) → AreNodes ds c → AreAll (listed ds)
all_nodes _ _ no_nodes = All-nil (λ d. is_node d ≡ true)
all_nodes _ _ (a_link_node {ms = ms} {ds = ds} {rest = rest} kind more) =
    All-cons (λ d. is_node d ≡ true) (object ms) (below (object ms) ++ listed ds) (or_left _ _ kind)
    (subst (λ l. AreAll (l ++ listed ds)) (sym (below_link ms kind)) (all_nodes ds rest more))
all_nodes _ _ (a_folder_node {ms = ms} {children = children} {ds = ds} {inside = inside} {rest = rest} kind are within more) =
    All-cons (λ d. is_node d ≡ true) (object ms) (below (object ms) ++ listed ds) (or_right _ _ kind)
    (All-append (λ d. is_node d ≡ true) (below (object ms)) (listed ds)
    (subst AreAll (sym (below_folder ms children kind are)) (all_nodes children inside within)) (all_nodes ds rest more))
