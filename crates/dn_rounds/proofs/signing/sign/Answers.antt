use Rattle.std.proofs.Common.{◌∙◌, ℕ, Bool, length, ap, subst, sym, refl}
use Rattle.dn_roster.specs.Roster.{RosterView}
use Rattle.dn_server.specs.declared.past.Past.{Past}
use Rattle.dn_server.specs.Keeping.{IsMissing}
use Rattle.dn_server.specs.Parts.{live}
use Rattle.dn_rounds.specs.Sound.{Stepped, with_past_if}
use Rattle.dn_rounds.proofs.SignLemmas.{waits_for_reveals, sign_stepped}
use Rattle.dn_rounds.proofs.signing.sign.Goals as goal

pub returns-then-not-is_full : goal.returns-then-not-is_full
returns-then-not-is_full c =
    let p = c.args.parts.now in
    let n = c.servers-n.ensures.value ∙ ap (λ (r : RosterView). length r.servers) c.roster.ensures.value in
    let missing = subst (λ (k : ℕ). IsMissing 5 p.run.kept k) n (c.is_full.ensures.missing c.if-not-is_full.true) in
    (refl, refl, waits_for_reveals (live p) c.requires.stage missing)

pub sign_due-requires : goal.sign_due-requires
sign_due-requires c = c.requires.fit c.in_ok-body.ensures.0 c.in_ok-body.body c.in_ok-body.ensures.1

pub returns : goal.returns
returns c =
    let p = c.args.parts.now in
    let new = c.keep_past.new.parts in
    let before = c.args.acts.now.items in
    let after = c.sign_due.new.acts.items in
    let sum = c.in_ok-body.ensures.0 in
    let at = c.in_ok-body.ensures.1 in
    let past = c.in_ok-past.ensures sum at.has in
    let kept = c.in_ok-keep_past.ensures ∙ ap (λ (x : Past). with_past_if c.in_ok-due.due c.sign_due.new.parts x) past in
    subst (λ (b : Bool). Stepped p new before after b) (sym c.has_moved.ensures)
    (sign_stepped p c.sign_due.new.parts new before after sum c.in_ok-body.body at c.in_ok-due.due c.in_ok-due.ensures kept)
