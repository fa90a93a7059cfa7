use Rattle.dn_links.proofs.Linking.{record_fits}
use Rattle.dn_links.proofs.laws.records_fit_runs.Goals as goal

pub returns : goal.returns
returns c = record_fits
