use Rattle.dn_client.proofs.Discipline.{submission_made, one_submission, rebuttal_answers, either_kind, no_concession, accusation_made}
use Rattle.dn_client.proofs.laws.clients_sign_their_own.Goals as goal

pub returns : goal.returns
returns c = record {
  submissions = λ v r prev i digest is straight. submission_made v is straight r prev i digest;
  one_a_round = λ v r prev other_prev i other digest other_digest is straight. one_submission v is straight r prev other_prev i other digest other_digest;
  rebuttals = λ v r k j seed envelope is straight. rebuttal_answers v is straight r k j seed envelope;
  nothing_else = λ v s is straight. either_kind v is straight s;
  concedes = λ v r k is straight. no_concession v is straight r k;
  accusations = λ v s is straight. accusation_made v is straight s;
}
