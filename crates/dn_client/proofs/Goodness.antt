-- A client's rebuttals are good.
use Rattle.std.proofs.Common.{ℕ, ◌<◌, List, length, sym, ap, subst, ◌∙◌, refl, arith}
use Rattle.std.specs.Prelude.{All}
use Rattle.std.proofs.lemmas.Option.{get_or_from_slice_get, slice_get_within}
use Rattle.dn_wire.specs.declared.ids.SignerId.TheVariants.{Client, Server}
use Rattle.dn_roster.specs.Roster.{RosterView}
use Rattle.dn_seal.specs.Said.{IsSaid, IsUnder, Unseals}
use Rattle.dn_seal.proofs.SaidLemmas.{said_unseals, sealed_unseals}
use Rattle.dn_seal.specs.declared.challenge.Challenge.{Challenge}
use Rattle.dn_cert.specs.Evidence.{IsGood, bit_in}
use Rattle.dn_client.specs.Client.{ClientView, IsClient, IsIn, seed_with}
use Rattle.dn_client.specs.Answering.{IsRebutted, IsGoodRebuttal, rebuttal_of}

module _ (roster : RosterView) (old new : ClientView) (ch : Challenge) (envelope : List ℕ) (is : IsClient old) (within : IsIn roster old.who) (r : IsRebutted old ch envelope new) where
  server_within : (r.server < length ch.shown.items) × (r.server < length old.who.seeds)
  server_within =
      let few = slice_get_within ch.shown.items r.server r.false_bit.said r.false_bit.there in (few, omega (arith, few, r.challenged.asked.opened.1.count))

  good : IsSaid r.false_bit.said → IsUnder roster r.false_bit.said → IsGood roster old.who.me (rebuttal_of old.who ch r.server r.false_bit.said)
  good said under =
      let x = r.false_bit.said in
      let pads = r.challenged.asked.opened.1.each r.server x r.false_bit.there in record {
        r = ch.r;
        k = ch.k;
        server = record { 0 = r.server };
        seed = seed_with old.who r.server;
        envelope = x.bytes;
        bits = pads.0;
        is = refl;
        unseals = subst (λ s. Unseals roster x.bytes (Server record { 0 = r.server }) s) pads.2 (subst (λ w. Unseals roster x.bytes w x.statement) pads.1 (said_unseals roster x said under));
        opens = within.opens r.server server_within.1;
        differs = λ e. r.false_bit.shows (ap (λ s. bit_in s old.who.me) pads.2 ∙ sym e);
      }

  pub good_so : IsSaid r.false_bit.said → IsUnder roster r.false_bit.said → IsGoodRebuttal roster old.who.me envelope
  good_so said under =
      let s = rebuttal_of old.who ch r.server r.false_bit.said in (
        s,
        (ch.r, ch.k, record { 0 = r.server }, seed_with old.who r.server, r.false_bit.said.bytes, refl),
        subst (λ b. Unseals roster b (Client old.who.me) s) (sym r.sealed)
            (sealed_unseals roster old.who.digest (Client old.who.me) old.who.key (length old.signed) s within.digest within.key is.keys.0 r.leaf r.fits),
        good said under,
      )

  pub good_of_all : All IsSaid ch.shown.items → All (IsUnder roster) ch.shown.items → IsGoodRebuttal roster old.who.me envelope
  good_of_all said under =
      let x = r.false_bit.said in
      let at = get_or_from_slice_get ch.shown.items r.server x x r.false_bit.there in
      good_so (subst IsSaid at (said r.server x server_within.0)) (subst (IsUnder roster) at (under r.server x server_within.0))
