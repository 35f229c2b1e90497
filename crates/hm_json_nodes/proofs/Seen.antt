-- A value that is seen as a link or a folder is one, and one that is seen as neither is none.
use Rattle.std.proofs.Common.{◌≡◌, ℕ, Bool, true, false, cond, List, [], Option, Some, None, refl, sym, ap, ◌∙◌, arith}
use Rattle.std.specs.Prelude.{is_some, unwrap_or}
use Rattle.std.proofs.lemmas.Bool.{and_parts}
use Rattle.serde_json.specs.Data.{Data, null, boolean, number, string, array, object, Items, no_items, Members}
use Rattle.hm_json_nodes.specs.Nodes.{text_at, children_of, has_type, folder_type, name_key, url_key, is_link, is_folder}
use Rattle.hm_json_nodes.specs.Numbers.{is_node}
use Rattle.hm_json_nodes.specs.Kinds.{SeenKind, a_link, a_folder, neither, kind_of}

first_text : SeenKind → List ℕ
first_text (a_link n a) = n
first_text (a_folder n ds) = n
first_text neither = []

second_text : SeenKind → List ℕ
second_text (a_link n a) = a
second_text (a_folder n ds) = []
second_text neither = []

items_in : SeenKind → Items
items_in (a_link n a) = no_items
items_in (a_folder n ds) = ds
items_in neither = no_items

which : SeenKind → ℕ
which (a_link n a) = 0
which (a_folder n ds) = 1
which neither = 2

no_link : (n a : List ℕ) → a_link n a ≡ neither → ⊥
unfolding which
no_link n a e = let bad : 0 ≡ 2 = ap which e in absurd (omega (arith, bad))

no_folder : (n : List ℕ) (ds : Items) → a_folder n ds ≡ neither → ⊥
unfolding which
no_folder n ds e = let bad : 1 ≡ 2 = ap which e in absurd (omega (arith, bad))

link_or_folder : (n a m : List ℕ) (ds : Items) → a_link n a ≡ a_folder m ds → ⊥
unfolding which
link_or_folder n a m ds e = let bad : 0 ≡ 1 = ap which e in absurd (omega (arith, bad))

-- ---- a link

-- a value is a link with this name and this address, as they are spelled
pub record IsALink (d : Data) (n a : List ℕ) : Type 0 where
  pub members : Members
  pub is : d ≡ object members
  pub kind : is_link (object members) ≡ true
  pub name : n ≡ unwrap_or (text_at name_key (object members)) []
  pub address : a ≡ unwrap_or (text_at url_key (object members)) []

link_members : (ms : Members) (n a : List ℕ) → a_link n a ≡ kind_of (object ms) → IsALink (object ms) n a
unfolding first_text second_text
link_members ms n a e = go (is_link (object ms)) (is_folder (object ms)) refl e
  where
    go : (l f : Bool) → is_link (object ms) ≡ l → a_link n a ≡ cond l (a_link (unwrap_or (text_at name_key (object ms)) []) (unwrap_or (text_at url_key (object ms)) []))
        (cond f (a_folder (unwrap_or (text_at name_key (object ms)) []) (unwrap_or (children_of (object ms)) no_items)) neither)
        → IsALink (object ms) n a
    go true f kind e = record { members = ms; is = refl; kind = kind; name = ap first_text e; address = ap second_text e }
    go false true kind e = absurd (link_or_folder n a _ _ e)
    go false false kind e = absurd (no_link n a e)

pub link_seen : (d : Data) (n a : List ℕ) → a_link n a ≡ kind_of d → IsALink d n a
link_seen null n a e = absurd (no_link n a e)
link_seen (boolean b) n a e = absurd (no_link n a e)
link_seen (number x) n a e = absurd (no_link n a e)
link_seen (string s) n a e = absurd (no_link n a e)
link_seen (array ds) n a e = absurd (no_link n a e)
link_seen (object ms) n a e = link_members ms n a e

-- ---- a folder

-- a value is a folder with this name, as it is spelled, and these children
pub record IsAFolder (d : Data) (n : List ℕ) (children : Items) : Type 0 where
  pub members : Members
  pub is : d ≡ object members
  pub kind : is_folder (object members) ≡ true
  pub name : n ≡ unwrap_or (text_at name_key (object members)) []
  pub children_are : children_of (object members) ≡ Some children

pub children_there : (d : Data) → is_folder d ≡ true → children_of d ≡ Some (unwrap_or (children_of d) no_items)
children_there d h = go (children_of d) (and_parts _ _ (and_parts (has_type folder_type d) _ h).1).1
  where
    go : (o : Option Items) → is_some o ≡ true → o ≡ Some (unwrap_or o no_items)
    go None h = absurd cc
    go (Some ds) h = refl

folder_members : (ms : Members) (n : List ℕ) (children : Items) → a_folder n children ≡ kind_of (object ms) → IsAFolder (object ms) n children
unfolding first_text items_in
folder_members ms n children e = go (is_link (object ms)) (is_folder (object ms)) refl e
  where
    go : (l f : Bool) → is_folder (object ms) ≡ f
        → a_folder n children ≡ cond l (a_link (unwrap_or (text_at name_key (object ms)) []) (unwrap_or (text_at url_key (object ms)) []))
        (cond f (a_folder (unwrap_or (text_at name_key (object ms)) []) (unwrap_or (children_of (object ms)) no_items)) neither)
        → IsAFolder (object ms) n children
    go true f kind e = absurd (link_or_folder _ _ n children (sym e))
    go false true kind e =
        record {
          members = ms;
          is = refl;
          kind = kind;
          name = ap first_text e;
          children_are = children_there (object ms) kind ∙ ap Some (sym (ap items_in e));
        }
    go false false kind e = absurd (no_folder n children e)

pub folder_seen : (d : Data) (n : List ℕ) (children : Items) → a_folder n children ≡ kind_of d → IsAFolder d n children
folder_seen null n ds e = absurd (no_folder n ds e)
folder_seen (boolean b) n ds e = absurd (no_folder n ds e)
folder_seen (number x) n ds e = absurd (no_folder n ds e)
folder_seen (string s) n ds e = absurd (no_folder n ds e)
folder_seen (array es) n ds e = absurd (no_folder n ds e)
folder_seen (object ms) n ds e = folder_members ms n ds e

-- ---- neither

pub neither_seen : (d : Data) → neither ≡ kind_of d → is_node d ≡ false
neither_seen d e = go (is_link d) (is_folder d) refl refl e
  where
    go : (l f : Bool) → is_link d ≡ l → is_folder d ≡ f → neither ≡ cond l (a_link (unwrap_or (text_at name_key d) []) (unwrap_or (text_at url_key d) []))
        (cond f (a_folder (unwrap_or (text_at name_key d) []) (unwrap_or (children_of d) no_items)) neither)
        → is_node d ≡ false
    go true f link folder e = absurd (no_link _ _ (sym e))
    go false true link folder e = absurd (no_folder _ _ (sym e))
    go false false link folder e = rw (link, folder) refl
