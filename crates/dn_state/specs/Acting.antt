-- What comes of a server's answer.
use Rattle.std.specs.Prelude.{◌≡◌, List, Option, Some, None}
use Rattle.std.specs.Option.{option_to_list}
use Rattle.dn_wire.specs.declared.ids.Member.TheVariants as members
use Rattle.dn_wire.specs.declared.ids.Round.{Round}
use Rattle.dn_wire.specs.declared.ids.ServerId.{ServerId}
use Rattle.dn_cert.specs.Certificate.{CertificateView}
use Rattle.dn_cert.specs.Chain.{ChainView}
use Rattle.dn_server.specs.declared.act.Act.{Act}
use Rattle.dn_server.specs.declared.act.Act.TheVariants as acts
use Rattle.dn_server.specs.declared.answer.Answer.{Answer}
use Rattle.dn_server.specs.declared.answer.Answer.TheVariants as answers
use Rattle.dn_report.specs.declared.outcome.Outcome.{Outcome}
use Rattle.dn_report.specs.declared.outcome.Outcome.TheVariants as outcomes
use Rattle.dn_state.specs.Parts.{PartsView}
use Rattle.dn_state.specs.Words.{ignored_word_of, spoil_word_of}
use Rattle.dn_state.specs.Putting.{Puts, Follows}
use Rattle.dn_state.specs.Telling.{TellsRound}
use Rattle.dn_state.specs.Doing.{Tells, Then, InTurn, own}

-- the line of an act that puts nothing and ends no round; none for the others. The server opened round `last` last
abbrev pub line_of : ServerId → Round → Act → Option Outcome
line_of server last (acts.Opened r prev) = Some (outcomes.Opened server r prev)
line_of server last (acts.Told client r told) = Some (outcomes.Told client server r told)
line_of server last (acts.Closed r count) = Some (outcomes.Closed server r count)
line_of server last (acts.Post to payload) = None
line_of server last (acts.Spoiled by reason kept came) = Some (outcomes.Spoiled server last by (spoil_word_of reason))
line_of server last (acts.Certified certificate) = None
line_of server last (acts.Held r) = Some (outcomes.Held (members.Server server) r)
line_of server last acts.Abandoned = Some (outcomes.Abandoned server last)

-- a certificate is given to the run's chain, which holds it where it can follow; and what its round came to is told
pub record TellsCertified (certificate : CertificateView) (old new : PartsView) (lines : List Outcome) : Type 0 where
  pub chain : ChainView
  pub given : Follows old.chain certificate.body chain
  pub tells : TellsRound (record old { chain = chain }) certificate.body new lines

-- What comes of one act: a payload is put; or a certificate is told, and what its round came to; or the act has its line.
abbrev pub Acts : ServerId → Round → Act → PartsView → PartsView → List Outcome → Type 0
Acts server last (acts.Post to payload) old new lines = Puts old (own (members.Server server)) to payload new lines
Acts server last (acts.Certified certificate) old new lines =
    Then (Tells (outcomes.Certified server certificate.body.r)) (TellsCertified certificate) old new lines
Acts server last act old new lines = (new ≡ old) × (lines ≡ option_to_list (line_of server last act))

-- What comes of an answer of a server that opened round `last` last: of what it does, act by act, or the line that it does nothing.
abbrev pub ComesOf : ServerId → Round → Answer → PartsView → PartsView → List Outcome → Type 0
ComesOf server last (answers.Acts did) = InTurn (Acts server last) did
ComesOf server last (answers.Ignored reason) = λ old new lines. Tells (outcomes.Ignored (ignored_word_of reason)) old new lines
ComesOf server last answers.Early = λ old new lines. Tells outcomes.Early old new lines
