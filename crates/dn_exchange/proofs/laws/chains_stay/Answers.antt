use Rattle.dn_exchange.proofs.ChainStays.{opens_chain, submits_chain, ticks_chain, shuts_chain, hears_chain, holds_chain, abandons_chain}
use Rattle.dn_exchange.proofs.laws.chains_stay.Goals as goal

pub returns : goal.returns
returns c = record {
  opens = opens_chain;
  submits = submits_chain;
  ticks = ticks_chain;
  shuts = shuts_chain;
  hears = hears_chain;
  holds = holds_chain;
  abandons = abandons_chain;
}
