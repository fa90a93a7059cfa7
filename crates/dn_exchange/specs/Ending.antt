-- What a server answers that is to abandon its round, or that is handed a certificate, and what it is afterwards.
use Rattle.std.specs.Prelude.{◌≡◌, ℕ, true, false, [], ◌∷◌}
use Rattle.dn_wire.specs.declared.ids.Round.{Round}
use Rattle.dn_cert.specs.Certificate.{CertificateView}
use Rattle.dn_cert.specs.Chain.{CanFollow, IsHoldRefused, with_held}
use Rattle.dn_cert.specs.declared.hold_fault.HoldFault.TheVariants as faults
use Rattle.dn_server.specs.declared.act.Act.TheVariants as acts
use Rattle.dn_server.specs.declared.answer.Answer.{Answer}
use Rattle.dn_server.specs.declared.answer.Reason.TheVariants as reasons
use Rattle.dn_server.specs.Server.{ServerView, ended}
use Rattle.dn_server.specs.Answers.{ignored, does}

pub data Abandons (v : ServerView) (answer : Answer) (after : ServerView) : Type 0 where
  is_idle : v.run.is_running ≡ false → answer ≡ ignored reasons.Idle → after ≡ v → Abandons v answer after
  abandons : v.run.is_running ≡ true → answer ≡ does (acts.Abandoned ∷ []) → after ≡ ended v → Abandons v answer after

-- the certificate is held
abbrev pub with_certificate : ServerView → CertificateView → ServerView
with_certificate v c = record v { chain = record v.chain { held = with_held c.body v.chain.held } }

-- the certificate is that of the round that runs
abbrev pub IsOfRunning : ServerView → CertificateView → Type 0
IsOfRunning v c = (v.run.is_running ≡ true) × (c.body.r ≡ v.run.r)

pub data HoldsOn (v : ServerView) (c : CertificateView) (answer : Answer) (after : ServerView) : Type 0 where
  is_known : (r : Round) → IsHoldRefused v.chain c.body (faults.Known r) → answer ≡ ignored reasons.Known → after ≡ v → HoldsOn v c answer after
  has_no_prev : (prev : Round) → IsHoldRefused v.chain c.body (faults.NoPrev prev) → answer ≡ ignored reasons.Prev → after ≡ v → HoldsOn v c answer after
  is_off_floor : (count last : ℕ) → IsHoldRefused v.chain c.body (faults.Floor count last) → answer ≡ ignored reasons.Floor → after ≡ v → HoldsOn v c answer after
  is_of_other_length : (have need : ℕ) → IsHoldRefused v.chain c.body (faults.Length have need) → answer ≡ ignored reasons.Length → after ≡ v → HoldsOn v c answer after
  is_held : CanFollow v.chain c.body → (¬ IsOfRunning v c) → answer ≡ does (acts.Held c.body.r ∷ []) → after ≡ with_certificate v c → HoldsOn v c answer after
  ends_run : CanFollow v.chain c.body → IsOfRunning v c → answer ≡ does (acts.Held c.body.r ∷ []) → after ≡ ended (with_certificate v c) → HoldsOn v c answer after
