use Rattle.std.proofs.Common.{◌<◌, ◌-◌, ℕ, List, refl, sym, ap, ◌∙◌, subst}
use Rattle.std.specs.Prelude.{Contains}
use Rattle.std.proofs.lemmas.Bool.{false≢true}
use Rattle.dn_record_types.specs.declared.body.Body.{Body}
use Rattle.dn_seal.specs.Said.{SaidView}
use Rattle.dn_cert.specs.Evidence.{IsValid, IsInvalid}
use Rattle.dn_server.specs.Answers.{ignored}
use Rattle.dn_server.specs.Parts.{live}
use Rattle.dn_server.specs.Server.{ServerView, left_of}
use Rattle.dn_openings.specs.Accusing.{IsAccused, leaves_due, place_of, not_signed, not_valid, is_opened, is_spent}
use Rattle.dn_openings.proofs.LookLemmas.{has_prev}
use Rattle.dn_openings.proofs.accusing.accepted.Goals as goal

pub returns-in_default-clause-refused : goal.returns-in_default-clause-refused
returns-in_default-clause-refused g c = not_signed (λ b past. c.in_default.ensures.none refl b past) refl refl

pub unreachable-requires : goal.unreachable-requires
unreachable-requires g c =
    let v : ServerView = live c.args.parts.now in
    let r = c.args.r in
    let said : SaidView = c.args.said.now in
    let b : Body = c.in-Some.body.now in
    let some = c.in-Some.ensures.some in
    has_prev v.chain b c.in-Some.ensures.chain some.1.held c.in_default-layout.ensures.layout

pub returns-in-Err-clause-refused : goal.returns-in-Err-clause-refused
returns-in-Err-clause-refused g c =
    let v : ServerView = live c.args.parts.now in
    let r = c.args.r in
    let said : SaidView = c.args.said.now in
    let b : Body = c.in-Some.body.now in
    let some = c.in-Some.ensures.some in
    let layout : List ℕ = c.in-Some-layout.layout.now in
    let accused : IsAccused v r b some.0 layout = record { body = some.1; after = c.in-Some-layout.ensures.layout } in
    let invalid : IsInvalid layout b said.signer said.statement c.in-Err.why =
    subst (λ s. IsInvalid layout b said.signer s c.in-Err.why) c.statement.ensures.value
    (subst (λ who. IsInvalid layout b who c.statement.result.now c.in-Err.why) c.signer.ensures.value c.in-Err.ensures.invalid) in
    not_valid b some.0 layout c.in-Err.why accused invalid (ap ignored c.reason_for.ensures) refl

pub returns-then-is_among-clause-refused : goal.returns-then-is_among-clause-refused
returns-then-is_among-clause-refused g c =
    let v : ServerView = live c.args.parts.now in
    let r = c.args.r in
    let said : SaidView = c.args.said.now in
    let b : Body = c.in-Some.body.now in
    let some = c.in-Some.ensures.some in
    let layout : List ℕ = c.in-Some-layout.layout.now in
    let accused : IsAccused v r b some.0 layout = record { body = some.1; after = c.in-Some-layout.ensures.layout } in
    let holds : IsValid layout b said.signer said.statement c.in-Ok.valid =
    subst (λ s. IsValid layout b said.signer s c.in-Ok.valid) c.statement.ensures.value
    (subst (λ who. IsValid layout b who c.statement.result.now c.in-Ok.valid) c.signer.ensures.value c.in-Ok.ensures.valid) in
    let opened : Contains v.opened (place_of c.in-Ok.valid) = subst (λ l. Contains l (place_of c.in-Ok.valid)) c.get.ensures (c.is_among.ensures.0 c.if-is_among.true) in
    is_opened b some.0 layout c.in-Ok.valid accused holds opened refl refl

pub returns-then-leaves_free-leaves_due-clause-refused : goal.returns-then-leaves_free-leaves_due-clause-refused
returns-then-leaves_free-leaves_due-clause-refused g c =
    let v : ServerView = live c.args.parts.now in
    let r = c.args.r in
    let said : SaidView = c.args.said.now in
    let b : Body = c.in-Some.body.now in
    let some = c.in-Some.ensures.some in
    let layout : List ℕ = c.in-Some-layout.layout.now in
    let accused : IsAccused v r b some.0 layout = record { body = some.1; after = c.in-Some-layout.ensures.layout } in
    let holds : IsValid layout b said.signer said.statement c.in-Ok.valid =
    subst (λ s. IsValid layout b said.signer s c.in-Ok.valid) c.statement.ensures.value
    (subst (λ who. IsValid layout b who c.statement.result.now c.in-Ok.valid) c.signer.ensures.value c.in-Ok.ensures.valid) in
    let new : ¬ Contains v.opened (place_of c.in-Ok.valid) =
    λ has. false≢true (sym c.if-is_among.false ∙ c.is_among.ensures.1 (subst (λ l. Contains l (place_of c.in-Ok.valid)) (sym c.get.ensures) has)) in
    let few : left_of v - v.aside < leaves_due v r =
    subst (λ n. n < leaves_due v r) c.leaves_free.ensures (subst (λ n. c.leaves_free.result < n) c.leaves_due.ensures c.if-leaves_free-leaves_due.true) in
    is_spent b some.0 layout c.in-Ok.valid accused holds new few refl refl
