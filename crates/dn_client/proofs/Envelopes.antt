-- Each envelope that a client made unseals under the roster of its group.
use Rattle.std.proofs.Common.{sym, subst}
use Rattle.std.specs.Prelude.{Contains}
use Rattle.std.proofs.lemmas.List.Elements.{All-contains}
use Rattle.dn_wire.specs.declared.ids.SignerId.TheVariants.{Client, Slot}
use Rattle.dn_roster.specs.Roster.{RosterView}
use Rattle.dn_seal.specs.Said.{Unseals}
use Rattle.dn_seal.proofs.SaidLemmas.{sealed_unseals}
use Rattle.dn_client.specs.declared.made.Made.{Made}
use Rattle.dn_client.specs.declared.accused.Accused.{Accused}
use Rattle.dn_client.specs.Client.{ClientView, IsIn, IsClient, IsMade, IsAccused, submission_of, accusation_of}

pub made_unseals : (roster : RosterView) (v : ClientView) (m : Made) → IsIn roster v.who → IsClient v → Contains v.made m
    → Unseals roster m.envelope (Client v.who.me) (submission_of v.who m)
made_unseals roster v m within is there =
    let made = All-contains (IsMade v.who v.chain v.queue v.signed) v.made m is.made there in
    subst (λ b. Unseals roster b (Client v.who.me) (submission_of v.who m)) (sym made.sealed.3)
    (sealed_unseals roster v.who.digest (Client v.who.me) v.who.key made.sealed.0 (submission_of v.who m) within.digest within.key is.keys.0 made.sealed.1 made.fits)

pub accusation_unseals : (roster : RosterView) (v : ClientView) (a : Accused) → IsIn roster v.who → IsClient v → Contains v.accused a
    → Unseals roster a.envelope (Slot v.who.slot) (accusation_of v.who a)
accusation_unseals roster v a within is there =
    let made = All-contains (IsAccused v.who v.chain v.signed_as_slot) v.accused a is.accused there in
    subst (λ b. Unseals roster b (Slot v.who.slot) (accusation_of v.who a)) (sym made.sealed.3)
    (sealed_unseals roster v.who.digest (Slot v.who.slot) v.who.slot_key made.sealed.0 (accusation_of v.who a) within.digest within.slot_key is.keys.1 made.sealed.1 made.fits)
