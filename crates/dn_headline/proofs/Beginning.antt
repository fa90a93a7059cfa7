-- The invariant holds of a run in which nothing has happened.
use Rattle.std.proofs.Common.{◌≡◌, ℕ, List, subst, inl, inr, Bool, true, false}
use Rattle.std.specs.Prelude.{Contains, Some, slice_get}
use Rattle.dn_wire.specs.declared.ids.ClientId.{ClientId}
use Rattle.dn_wire.specs.declared.ids.ServerId.{ServerId}
use Rattle.dn_wire.specs.declared.ids.SignerId.{SignerId}
use Rattle.dn_wire.specs.declared.ids.SignerId.TheVariants.{Client, Server, Slot}
use Rattle.dn_record_types.specs.declared.body.Body.{Body}
use Rattle.dn_record_types.specs.declared.statement.Statement.{Statement}
use Rattle.dn_cert.specs.Chain.{ChainView, bodies}
use Rattle.dn_cert.proofs.Orders.{nothing, All-from_contains}
use Rattle.dn_report.specs.declared.outcome.Outcome.{Outcome}
use Rattle.dn_headline.specs.Group.{GroupView, IsHonestServer, IsHonestClient}
use Rattle.dn_headline.specs.Log.{Put, Message, with_steps}
use Rattle.dn_headline.specs.Run.{RunView, log, Happened}
use Rattle.dn_headline.specs.Spoken.{Signed}
use Rattle.dn_headline.specs.Certified.{IsCertified}
use Rattle.dn_headline.specs.Invariant.{Facts, Invariant, Signs, ClientSigns, IsHeldChain}
use Rattle.dn_headline.specs.Step.{first_run, HoldsNone, Begins}

module _ (group : GroupView) (f : Facts) (begins : Begins group f) where
  abbrev w : RunView
  w = first_run group

  none_put : (p : Put) (n : ℕ) → slice_get (log w).puts n ≡ Some p → ⊥
  unfolding with_steps
  none_put p n h = absurd cc

  none_delivered : (m : Message) → Contains (log w).delivered m → ⊥
  unfolding with_steps
  none_delivered m h = nothing m h

  none_signed : (who : SignerId) (s : Statement) → Signed w who s → ⊥
  none_signed who s h = none_put h.had.put h.had.at h.had.there

  none_happened : (o : Outcome) → Happened w o → ⊥
  none_happened o h = nothing h.0 h.1

  none_held : (chain : ChainView) → HoldsNone group chain → (b : Body) → Contains (bodies chain) b → ⊥
  none_held chain h b has = nothing b (subst (λ (ds : List Body). Contains ds b) h.none has)

  empty_chain : (chain : ChainView) → HoldsNone group chain → IsHeldChain w chain
  empty_chain chain h = record {
    slots = h.slots;
    certified = All-from_contains (IsCertified w) (bodies chain) (λ b has.
        absurd (none_held chain h b has));
    one_each = λ b c hb hc e. absurd (none_held chain h b hb);
  }

  none_by_server : (j : ServerId) → IsHonestServer group j → (s : Statement) → Signs f j s → ⊥
  none_by_server j h s c = nothing s (subst (λ (ss : List Statement). Contains ss s) (begins.servers j h).3 c)

  none_by_client : (i : ClientId) → IsHonestClient group i → (s : Statement) → ClientSigns f i s → ⊥
  none_by_client i h s c = nothing s (subst (λ (ss : List Statement). Contains ss s) (begins.clients i h).1 c)

  not_running : (t : Bool) → t ≡ false → t ≡ true → ⊥
  not_running true a b = absurd cc
  not_running false a b = absurd cc

  pub begun : Invariant w f
  begun = record {
    put_is_signed = record {
      servers = λ j s h c. absurd (none_signed (Server j) s c);
      clients = λ i s h c. absurd (none_signed (Client i) s c);
      slots = λ i slot s h owns c. absurd (none_signed (Slot slot) s c);
      said = λ j s h c. absurd (none_by_server j h s c);
    };
    kept_is_said = λ j x s h k. absurd (nothing k.0 (subst (λ ks. Contains ks k.0) (begins.servers j h).2 k.1));
    held_is_put = record {
      servers = λ j h. empty_chain (f.server j).chain (begins.servers j h).0;
      clients = λ i h. empty_chain (f.client i).chain (begins.clients i h).0;
    };
    servers = record {
      one_each = λ j h place s t a b ps pt. absurd (none_by_server j h s a);
      fit = λ j s h a. absurd (none_by_server j h s a);
      told_once = λ j i r t u h a b na nb. absurd (none_happened _ a);
    };
    clients = record {
      one_each = λ i r p q k l d e h a b. absurd (none_by_client i h _ a);
      fit = λ i s h a. absurd (none_by_client i h s a);
    };
    plains = record {
      by_rule = λ m there h. absurd (nothing m there);
      one_each = λ m o there other h same round. absurd (nothing m there);
    };
    rounds = record {
      opened_once = λ j r p q h a b. absurd (none_happened _ a);
      ends = λ j r p h a. absurd (none_happened _ a);
      gone_on = λ j r h runs. absurd (not_running (f.server j).runs (begins.servers j h).1 runs.runs);
      spoiled = λ j x r reason h a. absurd (none_happened _ a);
      prev_before = λ j n b h had. absurd (none_put had.put had.at had.there);
      certificates = λ j r h c. absurd (elim c [ inl a ↦ none_happened _ a | inr a ↦ none_happened _ a ]);
    };
    messages = record {
      was_put = λ m d. absurd (none_delivered m d);
      sent = λ x j r s hx hj ne phase a. absurd (none_by_server x hx s a);
      kept = λ x j r s m h phase c d runs. absurd (none_delivered m d);
    };
    verdicts = record {
      judged = λ s r k there e. absurd (nothing s there);
      alone = λ s m reason there line. absurd (nothing s there);
    };
    seeds = begins.seeds;
  }
