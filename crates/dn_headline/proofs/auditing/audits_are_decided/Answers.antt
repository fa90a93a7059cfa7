use Rattle.dn_headline.proofs.Behinds.{collide_exactly, decide_collisions, decide_digests, decide_honest, theirs_exactly}
use Rattle.dn_headline.proofs.SignedBefore.{decide_clean, decide_lists_theirs, decide_signatures}
use Rattle.dn_headline.proofs.auditing.audits_are_decided.Goals as goal

pub returns-clause-collide : goal.returns-clause-collide
returns-clause-collide c = collide_exactly

pub returns-clause-lists : goal.returns-clause-lists
returns-clause-lists c = decide_collisions

pub returns-clause-digests : goal.returns-clause-digests
returns-clause-digests c = decide_digests

pub returns-clause-honest : goal.returns-clause-honest
returns-clause-honest c = decide_honest

pub returns-clause-signed : goal.returns-clause-signed
returns-clause-signed c = theirs_exactly

pub returns-clause-theirs : goal.returns-clause-theirs
returns-clause-theirs c = decide_lists_theirs

pub returns-clause-signatures : goal.returns-clause-signatures
returns-clause-signatures c = decide_signatures

pub returns-clause-clean : goal.returns-clause-clean
returns-clause-clean c = decide_clean
