-- A server's acts are carried out, one after the other.
use Rattle.std.proofs.Common.{◌≡◌, ℕ, List, [], ◌∷◌, ◌++◌, refl, sym, ap, subst, ◌∙◌, true}
use Rattle.dn_wire.specs.declared.ids.Member.{Member}
use Rattle.dn_wire.specs.declared.ids.Member.TheVariants as members
use Rattle.dn_wire.specs.declared.ids.ServerId.{ServerId}
use Rattle.dn_wire.specs.declared.ids.Round.{Round}
use Rattle.dn_roster.specs.Roster.{RosterView}
use Rattle.dn_cert.specs.Certificate.{CertificateView, IsCertificate, IsCertificateUnder}
use Rattle.dn_server.specs.declared.act.Act.{Act}
use Rattle.dn_server.specs.declared.act.Act.TheVariants as acts
use Rattle.dn_report.specs.declared.outcome.Outcome.{Outcome}
use Rattle.dn_state.specs.Parts.{PartsView}
use Rattle.dn_state.specs.Doing.{InTurn}
use Rattle.dn_state.specs.Acting.{Acts}
use Rattle.dn_headline.specs.Group.{GroupView}
use Rattle.dn_headline.specs.Log.{Log, with_outcomes}
use Rattle.dn_steps.specs.Fitting.{FitsLog}
use Rattle.dn_steps.proofs.Places.{both_ways}
use Rattle.dn_steps.proofs.Putting.{GoesOrIsOther}
use Rattle.dn_steps.proofs.Acting.{ActsSo, no_act, post_so, IsTelling, tells_so, both_acts}
use Rattle.dn_steps.proofs.Certifying.{certified_so}

-- Acts that can be carried out in a log: what is posted to nobody is no certificate, and a certificate that the server made is posted right after it
-- is told.
pub data AreCarried (roster : RosterView) : List Act → Type 0 where
  nothing_is : AreCarried roster []
  posts : (to : List Member) (bytes : List ℕ) (did : List Act) → GoesOrIsOther roster bytes to → AreCarried roster did → AreCarried roster (acts.Post to bytes ∷ did)
  certifies : (e : CertificateView) (m : Member) (ms : List Member) (bytes : List ℕ) (did : List Act) → IsCertificate e → IsCertificateUnder roster e → bytes ≡ e.bytes
      → AreCarried roster did → AreCarried roster (acts.Certified e ∷ acts.Post (m ∷ ms) bytes ∷ did)
  tells : (a : Act) (did : List Act) → IsTelling a → AreCarried roster did → AreCarried roster (a ∷ did)

-- such acts one after the other are such
pub carried_too : (roster : RosterView) (did more : List Act) → AreCarried roster did → AreCarried roster more → AreCarried roster (did ++ more)
carried_too roster did more nothing_is rest = rest
carried_too roster did more (posts to bytes others goes first) rest = posts to bytes (others ++ more) goes (carried_too roster others more first rest)
carried_too roster did more (certifies e m ms bytes others c u same first) rest = certifies e m ms bytes (others ++ more) c u same (carried_too roster others more first rest)
carried_too roster did more (tells a others is first) rest = tells a (others ++ more) is (carried_too roster others more first rest)

-- the log after them
pub carried_so : (g : GroupView) (j : ServerId) (last : Round) (did : List Act) (log : Log) (old new : PartsView) (lines : List Outcome) → FitsLog g log old
    → old.payloads.roster ≡ g.roster → AreCarried g.roster did → InTurn (Acts j last) did old new lines → ActsSo g j last did log old new lines
carried_so g j last did log old new lines fits opens nothing_is does =
    subst (ActsSo g j last [] log old new) (sym does.1) (subst (λ (z : PartsView). ActsSo g j last [] log old z []) (sym does.0) (no_act g j last log old fits))
carried_so g j last did log old new lines fits opens (posts to bytes others goes rest) does =
    let one = post_so g j last to bytes log old does.between does.lines_first fits opens goes does.begins in
    let two = carried_so g j last others (with_outcomes true (members.Server j) log does.lines_first) does.between new does.lines_rest one.fits (one.same.opens ∙ opens) rest does.goes_on in
    subst (ActsSo g j last (acts.Post to bytes ∷ others) log old new) (sym does.told)
    (both_acts g j last (acts.Post to bytes ∷ []) others log old does.between new does.lines_first does.lines_rest one two)
carried_so g j last did log old new lines fits opens (certifies e m ms bytes others c u same rest) does =
    let second = does.goes_on in
    let one = certified_so g j last e m ms bytes log old does.between second.between does.lines_first second.lines_first fits opens c u same does.begins second.begins in
    let front = does.lines_first ++ second.lines_first in
    let two = carried_so g j last others (with_outcomes true (members.Server j) log front) second.between new second.lines_rest one.fits (one.same.opens ∙ opens) rest second.goes_on in
    subst (ActsSo g j last (acts.Certified e ∷ acts.Post (m ∷ ms) bytes ∷ others) log old new)
    (both_ways does.lines_first second.lines_first second.lines_rest ∙ ap (λ (os : List Outcome). does.lines_first ++ os) (sym second.told) ∙ sym does.told)
    (both_acts g j last (acts.Certified e ∷ acts.Post (m ∷ ms) bytes ∷ []) others log old second.between new front second.lines_rest one two)
carried_so g j last did log old new lines fits opens (tells a others is rest) does =
    let one = tells_so g j last a log old does.between does.lines_first fits is does.begins in
    let two = carried_so g j last others (with_outcomes true (members.Server j) log does.lines_first) does.between new does.lines_rest one.fits (one.same.opens ∙ opens) rest does.goes_on in
    subst (ActsSo g j last (a ∷ others) log old new) (sym does.told) (both_acts g j last (a ∷ []) others log old does.between new does.lines_first does.lines_rest one two)
