-- What holds of a run: each promise of dn_headline, where the audit is clean; and the last, whatever the audit says.
use Rattle.std.specs.Prelude.{ℕ}
use Rattle.dn_record_types.specs.declared.body.Body.{Body}
use Rattle.dn_headline.specs.Run.{RunView}
use Rattle.dn_headline.specs.Certified.{IsCertified}
use Rattle.dn_headline.specs.Clean.{Clean}
use Rattle.dn_headline.specs.Headline.{OneBodyPerRound, IncludedCountOnce, LateNeverCount, LengthsAreSound, CertifiedAreInChain, OutputIsTheirs, HonestServersAddNothing, HonestClientsAddTheirText, BlocksStand, DeliveredAreCertified, OnlyCorruptAreBlamed, AnsweredBlameSomebody}

pub record KeepsPromises (w : RunView) : Type 0 where
  pub one_body : Clean w → OneBodyPerRound w
  pub included : Clean w → IncludedCountOnce w
  pub late : Clean w → LateNeverCount w
  pub lengths : Clean w → LengthsAreSound w
  pub in_chain : Clean w → CertifiedAreInChain w
  pub outputs : Clean w → OutputIsTheirs w
  pub servers : Clean w → HonestServersAddNothing w
  pub clients : Clean w → HonestClientsAddTheirText w
  pub blocks : Clean w → BlocksStand w
  pub delivered : Clean w → DeliveredAreCertified w
  pub blamed : Clean w → OnlyCorruptAreBlamed w
  pub answered : AnsweredBlameSomebody w
