use Rattle.std.proofs.Common.{List, Bool, refl, sym}
use Rattle.dn_record_types.specs.declared.statement.Statement.TheVariants.{PadBits}
use Rattle.dn_seal.specs.Dealt.{server}
use Rattle.dn_trace.specs.Trial.{Says}
use Rattle.dn_trace.specs.Reasons.{Signed}
use Rattle.dn_trace.proofs.OpeningLemmas.{match_both, signed_nowhere, signed_carried, says_here, says_there}
use Rattle.dn_trace.proofs.openings.signed_pad.Goals as goal

pub returns-in-None : goal.returns-in-None
returns-in-None c =
    let trial = c.args.case.now in
    let carried = c.args.carried.now in
    let j = c.args.j.0 in
    match_both c.first_pad-in-None.result
    ((pad : List Bool) → ¬ Says carried (server j) (PadBits c.round-in-None.result c.place-in-None.result pad))
    ((pad : List Bool) → ¬ Signed trial j pad)
    (λ pad. Says carried (server j) (PadBits c.round-in-None.result c.place-in-None.result pad.now))
    (λ pad. Signed trial j pad.now)
    (λ none. signed_nowhere trial carried c.requires j
    (λ pad says. c.in-None.ensures pad (says_there trial trial.given c.given.result.now j c.round.result c.place.result pad (sym c.given.ensures.value) c.round.ensures c.place.ensures says))
    (λ pad says. none pad (says_there trial carried carried j c.round-in-None.result c.place-in-None.result pad refl c.round-in-None.ensures c.place-in-None.ensures says)))
    (λ pad says. signed_carried trial carried c.requires j pad.now
    (says_here trial carried carried j c.round-in-None.result c.place-in-None.result pad.now refl c.round-in-None.ensures c.place-in-None.ensures says))
    c.first_pad-in-None.ensures
