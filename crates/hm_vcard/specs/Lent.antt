-- What contracts see of cards that are made of lines which are lent.
use Rattle.hm_lines_cards.specs.Lent.{lent}
use Rattle.hm_vcard.specs.Cards.{CardLines}
use Rattle.hm_vcard.specs.declared.card.Card.{Card}

abbrev pub card_lines : Card → CardLines
card_lines c = record { begin = c.begin.now; version = c.version.now; properties = lent c.properties.items; end = c.end.now }
