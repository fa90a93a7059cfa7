-- What a server holds after a call.
use Rattle.std.specs.Prelude.{◌≡◌, ◌⊎◌, List, Contains}
use Rattle.dn_cert.specs.Certificate.{CertificateView}
use Rattle.dn_cert.specs.Chain.{with_held}
use Rattle.dn_server.specs.declared.act.Act.{Act}
use Rattle.dn_server.specs.declared.act.Act.TheVariants as acts
use Rattle.dn_server.specs.declared.answer.Answer.{Answer}
use Rattle.dn_server.specs.declared.answer.Answer.TheVariants as answers
use Rattle.dn_server.specs.Server.{ServerView}

-- it holds what it held, and the body of this certificate
abbrev pub HoldsBesides : ServerView → CertificateView → ServerView → Type 0
HoldsBesides v c after = after.chain ≡ record v.chain { held = with_held c.body v.chain.held }

-- It holds what it held; or it certified a round by what it did, and holds that body besides.
abbrev pub MayCertify : ServerView → List Act → ServerView → Type 0
MayCertify v did after = (after.chain ≡ v.chain) ⊎ ((c : CertificateView) × Contains did (acts.Certified c) × HoldsBesides v c after)

-- the same, by its answer
abbrev pub CertifiesAlone : ServerView → Answer → ServerView → Type 0
CertifiesAlone v (answers.Acts did) after = MayCertify v did after
CertifiesAlone v (answers.Ignored reason) after = after.chain ≡ v.chain
CertifiesAlone v answers.Early after = after.chain ≡ v.chain
