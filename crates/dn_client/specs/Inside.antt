-- A client's fields, and what contracts see of them.
use Rattle.std.specs.Prelude.{◌≡◌, false}
use Rattle.dn_wire.specs.declared.ids.SignerId.TheVariants.{Client, Slot}
use Rattle.dn_client.specs.Client.{ClientView, IsClient}
use Rattle.dn_client.specs.declared.client.Client.TheInside.{Inside}

abbrev pub view_of : Inside → ClientView
view_of c = record {
  who = record {
    me = c.me;
    slot = c.slot;
    digest = c.key.digest;
    key = c.key.key;
    slot_key = c.slot_key.key;
    seeds = c.seeds.items;
    mask = c.mask;
  };
  chain = c.chain;
  queue = c.queue.items;
  head = c.head;
  made = c.made.items;
  accused = c.accused.items;
  answered = c.answered.items;
  signed = c.key.signed;
  signed_as_slot = c.slot_key.signed;
  left = c.left;
  bent = c.bent;
  spent = c.spent;
}

-- each of its keys signs for it, and has lost no leaf unless memory was wanting
pub record Keeps (c : Inside) : Type 0 where
  pub client : IsClient (view_of c)
  pub signer : c.key.who ≡ Client c.me
  pub slot_signer : c.slot_key.who ≡ Slot c.slot
  pub one_group : c.slot_key.digest ≡ c.key.digest
  pub whole : c.spent ≡ false → (c.key.lost ≡ false) × (c.slot_key.lost ≡ false)
