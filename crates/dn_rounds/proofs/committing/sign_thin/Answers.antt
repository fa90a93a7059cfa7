use Rattle.std.proofs.Common.{◌≡◌, ◌∙◌, [], Bool, true, ap, subst, sym}
use Rattle.dn_roster.specs.Roster.{RosterView}
use Rattle.dn_rounds.specs.Going.{IsThinDue}
use Rattle.dn_server.specs.declared.past.Past.{Past}
use Rattle.dn_server.specs.Parts.{live}
use Rattle.dn_rounds.specs.Sound.{Stepped, with_past_if}
use Rattle.dn_rounds.proofs.CommitLemmas.{inventories_fit}
use Rattle.dn_rounds.proofs.ThinLemmas.{thin_stepped}
use Rattle.dn_rounds.proofs.committing.sign_thin.Goals as goal
use Rattle.dn_rounds.proofs.committing.sign_thin.Goals.{In_ok-body}

-- the body is due
due : (c : In_ok-body) → IsThinDue (live c.args.parts.now) c.in_ok-body.body
due c =
    let p = c.args.parts.now in
    let version = ap (λ (r : RosterView). r.version) c.roster.ensures.value in
    let is : c.in_ok-body.body ≡ record { version = p.identity.roster.version; r = p.run.r; prev = p.run.prev; thin = true; listed = c.args.listed.now; digests = []; out = [] } =
    c.in_ok-body.ensures
    ∙ (λ i. record { version = version i; r = p.run.r; prev = p.run.prev; thin = true; listed = c.args.listed.now; digests = []; out = c.in_ok-out.ensures i }) in
    record { stage = c.requires.stage; listed = c.args.listed.now; listing = c.requires.listing; is = is }

pub sign_due-requires : goal.sign_due-requires
sign_due-requires c = c.requires.fit c.in_ok-body.body (due (goal.at.sign_due-requires c).In_ok-body)

pub returns : goal.returns
returns c =
    let p = c.args.parts.now in
    let new = c.keep_past.new.parts in
    let before = c.args.acts.now.items in
    let after = c.sign_due.new.acts.items in
    let b = c.in_ok-body.body in
    subst (λ (x : Bool). Stepped p new before after x) (sym c.has_moved.ensures)
    (thin_stepped p c.sign_due.new.parts new before after b (inventories_fit (live p) c.requires.sound.said) (due (goal.at.returns c).In_ok-body) c.in_ok-due.due c.in_ok-due.ensures
    (c.in_ok-keep_past.ensures ∙ ap (λ (x : Past). with_past_if c.in_ok-due.due c.sign_due.new.parts x) c.in_ok-past.ensures))
