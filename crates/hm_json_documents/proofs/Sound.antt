-- Sound values have no float, and their strings and keys are UTF-8.
use Rattle.std.proofs.Common.{◌≡◌, false, refl}
use Rattle.std.proofs.lemmas.Bool.{or_from}
use Rattle.serde_json.specs.Data.{Data, null, boolean, number, unsigned, negative, float, string, array, object, Items, no_items, item, Members, no_members, member}
use Rattle.serde_json.specs.Written.{has_float, items_have_float, members_have_float}
use Rattle.hm_json_documents.specs.Documents.{AreTexts, ItemsAreTexts, MembersAreTexts, IsSound, ItemsAreSound, MembersAreSound}

mutual
  pub sound_no_float : (d : Data) → IsSound d → has_float d ≡ false
  sound_no_float null sound = refl
  sound_no_float (boolean b) sound = refl
  sound_no_float (number (unsigned n)) sound = refl
  sound_no_float (number (negative z)) sound = refl
  sound_no_float (number (float x)) sound = absurd sound
  sound_no_float (string s) sound = refl
  sound_no_float (array ds) sound = items_no_float ds sound
  sound_no_float (object ms) sound = members_no_float ms sound

  items_no_float : (ds : Items) → ItemsAreSound ds → items_have_float ds ≡ false
  items_no_float no_items sound = refl
  items_no_float (item d ds) sound = or_from (has_float d) (items_have_float ds) (sound_no_float d sound.0) (items_no_float ds sound.1)

  pub members_no_float : (ms : Members) → MembersAreSound ms → members_have_float ms ≡ false
  members_no_float no_members sound = refl
  members_no_float (member k d ms) sound = or_from (has_float d) (members_have_float ms) (sound_no_float d sound.1) (members_no_float ms sound.3)

mutual
  pub sound_texts : (d : Data) → IsSound d → AreTexts d
  sound_texts null sound = tt
  sound_texts (boolean b) sound = tt
  sound_texts (number n) sound = tt
  sound_texts (string s) sound = sound
  sound_texts (array ds) sound = items_texts ds sound
  sound_texts (object ms) sound = members_texts ms sound

  items_texts : (ds : Items) → ItemsAreSound ds → ItemsAreTexts ds
  items_texts no_items sound = tt
  items_texts (item d ds) sound = (sound_texts d sound.0, items_texts ds sound.1)

  pub members_texts : (ms : Members) → MembersAreSound ms → MembersAreTexts ms
  members_texts no_members sound = tt
  members_texts (member k d ms) sound = (sound.0, sound_texts d sound.1, members_texts ms sound.3)
