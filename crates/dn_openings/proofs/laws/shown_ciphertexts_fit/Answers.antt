use Rattle.dn_openings.proofs.FitLemmas.{shown_fits}
use Rattle.dn_openings.proofs.laws.shown_ciphertexts_fit.Goals as goal

pub returns : goal.returns
returns c = shown_fits
