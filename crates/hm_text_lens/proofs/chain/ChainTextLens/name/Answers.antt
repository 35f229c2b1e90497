use Rattle.hm_text_lens.specs.ChainLaws.{chain_lawful}
use Rattle.hm_text_lens.proofs.chain.ChainTextLens.name.Goals as goal

pub returns-clause-lawful : goal.returns-clause-lawful
returns-clause-lawful g c =
    let chain = c.args.self.now in
    chain_lawful chain.name (g.F.TextLens.meaning chain.parts.first) (g.G.TextLens.meaning chain.parts.second) (g.met.F.TextLens.lawful chain.parts.first) (g.met.G.TextLens.lawful chain.parts.second) chain.parts.classes
