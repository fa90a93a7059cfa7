-- A server as it is made is honest.
use Rattle.std.proofs.Common.{◌≡◌, ℕ, ◌<◌, ◌≤◌, false, true, [], refl, arith}
use Rattle.std.proofs.lemmas.List.Elements.{All-nil}
use Rattle.dn_record_types.specs.declared.body.Body.{Body}
use Rattle.dn_roster.specs.declared.group.GroupSpec.{GroupSpec}
use Rattle.dn_roster.specs.Roster.{RosterView}
use Rattle.dn_cert.specs.Chain.{IsChain, HasCertificate}
use Rattle.dn_exchange.specs.Honest.{IsTrue}
use Rattle.dn_exchange.specs.Making.{IsGroup, first_server}
use Rattle.dn_exchange.proofs.FirstSound.{none_claimed}

no_chain : (slots : ℕ) → 1 ≤ slots → slots ≤ 512 → IsChain (record { slots = slots; held = [] })
no_chain slots low high = record {
  slots = (low, high);
  certified = All-nil HasCertificate;
  ascends = λ k lt. absurd (omega (arith, lt));
  before = All-nil (λ (b : Body). b.prev.0 < b.r.0);
  floor = λ b c. absurd (omega (arith, c.1));
  long = λ b c. absurd (omega (arith, c.1));
}

never : false ≡ true → ⊥
never e = cc

pub first_true : (group : GroupSpec) (roster : RosterView) (j workers : ℕ) → IsGroup group roster → IsTrue (first_server group roster j workers)
first_true group roster j workers is =
    let clients = is.is.clients in
    let same = is.clients in
    record {
      honest = record {
        chain = no_chain group.clients (omega (arith, clients.0, same)) (omega (arith, clients.1, same));
        straight = refl;
        of_kinds = λ s c. absurd (omega (arith, c.1));
        rounds = λ s r c e. absurd (omega (arith, c.1));
        receipt_rounds = λ r i d w c. absurd (omega (arith, c.1));
        one_each = λ s t r a b x y k. absurd (omega (arith, a.1));
        one_receipt = λ r i d e w x a b. absurd (omega (arith, a.1));
        receipts = λ i d w c. absurd (omega (arith, c.1));
        claims = λ i x e. absurd (none_claimed group.clients i.0 x e);
        reveals = λ r s c. absurd (omega (arith, c.1));
        course = λ low. absurd (omega (arith, low));
        said = (λ t c r e. omega (arith, c.1), λ t c r e. omega (arith, c.1), λ t c r e. omega (arith, c.1), λ t c r e. omega (arith, c.1));
        signs = λ b c r. absurd (omega (arith, c.1));
        pasts = λ b c. absurd (omega (arith, c.1));
        past_are = λ p c. absurd (omega (arith, c.1));
        openings = record { pads = λ r k bits c. absurd (omega (arith, c.1)); shown = λ r s own c. absurd (omega (arith, c.1)) };
        one_kept = λ a b c d who kind. absurd (omega (arith, c.1));
        fitting = λ on. absurd (never on);
        listed = λ on at. absurd (never on);
        set_aside = λ on. absurd (never on);
      };
      gone = λ on. absurd (never on);
    }
