-- A server that keeps a statement without a fault stays sound.
use Rattle.std.proofs.Common.{◌≡◌, ℕ, ◌∷◌, [], Some, ap, subst, ◌∙◌}
use Rattle.std.specs.Prelude.{Contains}
use Rattle.std.proofs.lemmas.Option.{slice_get-get_or}
use Rattle.dn_wire.specs.declared.ids.Round.{Round}
use Rattle.std.proofs.lemmas.List.Elements.{All-append, All-cons, All-nil}
use Rattle.dn_cert.proofs.Orders.{All-from_contains}
use Rattle.dn_record_types.specs.declared.inventory.Entry.{Entry}
use Rattle.dn_record_types.specs.declared.inventory.Inventory.{Inventory}
use Rattle.dn_record_types.specs.declared.statement.Statement.{Statement}
use Rattle.dn_seal.specs.Said.{SaidView, IsSaid, IsUnder}
use Rattle.dn_cert.specs.Signed.{EntryVerifies}
use Rattle.dn_server.specs.declared.parts.Parts.{Parts}
use Rattle.dn_server.specs.Server.{ServerView}
use Rattle.dn_server.specs.Keeping.{round_of}
use Rattle.dn_server.specs.Parts.{live}
use Rattle.dn_exchange.specs.Hearing.{IsFaultless, AllVerify, with_kept}
use Rattle.dn_exchange.specs.Ready.{CanHear, in_kept}
use Rattle.dn_exchange.specs.Invariant.{IsSound, standing_of}
use Rattle.dn_exchange.proofs.KeptSound.{IsGood, runs_with}
use Rattle.dn_exchange.proofs.SteadyLemmas.{steady}

module _ (v : ServerView) (sound : IsSound v) (j : ℕ) (y : SaidView) (round : round_of y.statement ≡ Some v.run.r) (said : IsSaid y) (under : IsUnder v.seat.roster y)
    (fine : IsFaultless v j y.statement) where
  verifies : (inventory : Inventory) → inventory.r ≡ v.run.r → (inventory.prev ≡ v.run.prev) × AllVerify v inventory → (x : Entry) → Contains inventory.entries x
      → EntryVerifies v.seat.roster v.run.r v.run.prev x
  verifies inventory r h x there =
      let at = slice_get-get_or inventory.entries there.0 x there.1 ∙ ap Some there.2 in
      subst (λ (q : Round). EntryVerifies v.seat.roster v.run.r q x) h.0
      (subst (λ (q : Round). EntryVerifies v.seat.roster q inventory.prev x) r (h.1 there.0 x at))

  good : IsGood (standing_of v) y
  good = record {
    round = round;
    said = said;
    under = under;
    inventory = λ inventory e.
        let h = subst (IsFaultless v j) e fine in
        let r : inventory.r ≡ v.run.r = same_round inventory (subst (λ (s : Statement). round_of s ≡ Some v.run.r) e round) in
        (h.0, All-from_contains (EntryVerifies v.seat.roster v.run.r v.run.prev) inventory.entries (λ x there. verifies inventory r h x there));
    string = λ s e. (subst (IsFaultless v j) e fine).0;
    body = λ own b at kept e. subst (IsFaultless v j) e fine own at kept;
  }
    where
      same_round : (inventory : Inventory) → Some inventory.r ≡ Some v.run.r → inventory.r ≡ v.run.r
      same_round inventory e = cc

  pub kept_sound : IsSound (with_kept v y)
  kept_sound = record {
    seated = record { roster = sound.seated.roster; number = sound.seated.number; seeds = sound.seated.seeds };
    member = sound.member;
    is_key = sound.is_key;
    workers = sound.workers;
    slots = sound.slots;
    in_group = sound.in_group;
    window = sound.window;
    claims = sound.claims;
    are_claims = sound.are_claims;
    claimed = sound.claimed;
    is_open = sound.is_open;
    round = All-append (λ (s : SaidView). round_of s.statement ≡ Some v.run.r) v.run.kept (y ∷ []) sound.round
        (All-cons (λ (s : SaidView). round_of s.statement ≡ Some v.run.r) y [] round (All-nil (λ (s : SaidView). round_of s.statement ≡ Some v.run.r)));
    aside = sound.aside;
    some_aside = sound.some_aside;
    running = λ e. runs_with (standing_of v) y good (sound.running e);
  }

-- it can hear
pub can_hear : (p : Parts) (j : ℕ) (y : SaidView) → IsSound (live p) → round_of y.statement ≡ Some p.run.r → IsSaid y → IsUnder p.identity.roster y → CanHear p j y
can_hear p j y sound round said under = record {
  round = sound.round;
  claims = sound.are_claims;
  steady = λ runs none fine. steady (in_kept p y) (kept_sound (live p) sound j y round said under fine);
}
