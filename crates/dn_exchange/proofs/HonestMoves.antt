-- A server stays honest where it holds more, and keeps more of its round.
use Rattle.std.proofs.Common.{◌≡◌, ℕ, ◌≤◌, Bool, true, false, List, [], ◌∷◌, ◌++◌, length, Some, refl, ap, ◌∙◌, inl, inr}
use Rattle.std.specs.Prelude.{All, Contains, ◌⊎◌}
use Rattle.std.proofs.lemmas.List.Elements.{All-weaker, Contains-append_left}
use Rattle.dn_wire.specs.declared.ids.Round.{Round}
use Rattle.dn_wire.specs.declared.ids.SignerId.{SignerId}
use Rattle.dn_record_types.specs.declared.body.Listed.{Listed}
use Rattle.dn_record_types.specs.declared.inventory.Inventory.{Inventory}
use Rattle.dn_record_types.specs.declared.shown.ShownCipher.{ShownCipher}
use Rattle.dn_record_types.specs.declared.statement.Statement.{Statement}
use Rattle.dn_record_types.specs.declared.statement.Statement.TheVariants as kinds
use Rattle.dn_records.specs.Records.{kind_byte}
use Rattle.dn_seal.specs.Said.{SaidView}
use Rattle.dn_cert.specs.Chain.{ChainView, IsLayoutAfter}
use Rattle.dn_cert.specs.Floor.{is_due_thin}
use Rattle.dn_cert.specs.Trim.{given_to}
use Rattle.dn_window.specs.Window.{WindowState}
use Rattle.dn_server.specs.declared.past.Past.{Past}
use Rattle.dn_server.specs.declared.run.Stage.{Stage}
use Rattle.dn_server.specs.declared.run.Stage.TheVariants as stages
use Rattle.dn_server.specs.declared.run.Sum.{Sum}
use Rattle.dn_server.specs.Server.{ServerView, statement_of, WasIncluded, course_of, servers_in}
use Rattle.dn_server.specs.Keeping.{HasAll}
use Rattle.dn_rounds.specs.Going.{IsListing, IsSum, commitment_of}
use Rattle.dn_openings.specs.Discipline.{ArePads, AreShown}
use Rattle.dn_exchange.specs.Disciplined.{IsSaidBy, IsPastAs, AreGood}
use Rattle.dn_exchange.specs.Honest.{HasSaid, HasSaidInventory, IsCommittedTo, HasRevealed, HasSaidBody, HasSaidThin, IsSaidAt, aside_at, AreFitting, IsHonest}
use Rattle.dn_exchange.specs.Closing.{inventory_of}
use Rattle.dn_exchange.proofs.Grows.{HoldsMore, included_grow, justified_grows}
use Rattle.dn_exchange.proofs.KeptSound.{statement_stays, all_stay}

-- what is kept grows
pub record KeepsMore (old new : List SaidView) : Type 0 where
  pub stays : (kind j : ℕ) (s : Statement) → statement_of old kind j ≡ Some s → statement_of new kind j ≡ Some s
  pub all : (kind n : ℕ) → HasAll kind old n → HasAll kind new n
  pub there : (x : SaidView) → Contains old x → Contains new x

pub keeps_same : (kept : List SaidView) → KeepsMore kept kept
keeps_same kept = record { stays = λ kind j s e. e; all = λ kind n h. h; there = λ x c. c }

pub keeps_push : (kept : List SaidView) (y : SaidView) → KeepsMore kept (kept ++ y ∷ [])
keeps_push kept y = record {
  stays = statement_stays kept y;
  all = all_stay kept y;
  there = λ x c. Contains-append_left kept (y ∷ []) x c;
}

-- in each round that was opened a statement that it signed is of a round above 0
pub round_above : (v : ServerView) → IsHonest v → HasSaidInventory v → 1 ≤ v.run.r.0
round_above v h said = (h.rounds (kinds.Inventory (inventory_of v.run)) v.run.r said.signed refl).0

module _ (v : ServerView) (chain : ChainView) (kept : List SaidView) (window : WindowState) (running : Bool) (aside : ℕ) where
  abbrev pub moved : ServerView
  moved = record v { chain = chain; aside = aside; run = record v.run { kept = kept; window = window; is_running = running } }

  module _ (longer : HoldsMore v.chain chain) (grown : KeepsMore v.run.kept kept) where
    said_on : (s : Statement) → HasSaid v s → HasSaid moved s
    said_on s h = record { signed = h.signed; kept = grown.stays (kind_byte s) v.seat.number s h.kept }

    pub included_on : (s : Statement) (c : List Bool) → WasIncluded v.run s c → WasIncluded moved.run s c
    included_on s c h = record { client = h.client; claim = h.claim; claimed = h.claimed; told = h.told; is = h.is; cipher = h.cipher }

    pub says_on : (who : SignerId) (s : Statement) → IsSaidBy v who s → IsSaidBy moved who s
    says_on who s (inl own) = inl own
    says_on who s (inr other) = inr (other.0, (other.1.0, grown.there other.1.0 other.1.1, other.1.2, other.1.3))

    summed_on : (sum : Sum) → IsSum v sum → IsSum moved sum
    summed_on sum h = record {
      rows = h.rows;
      told = included_grow (IsSaidBy v) (IsSaidBy v) (WasIncluded v.run) (WasIncluded moved.run) (λ who s x. x) included_on (course_of v.run) (given_to sum.listed v.seat.number) sum.own h.told;
      value = h.value;
    }

    good_on : (inventories : List Inventory) → All (AreGood v) inventories → All (AreGood moved) inventories
    good_on inventories all = All-weaker (AreGood v) (AreGood moved) (λ i g. record { r = g.r; prev = g.prev; verify = g.verify }) inventories all

    module _ (l : List ℕ) (after : IsLayoutAfter v.chain v.run.prev.0 l) where
      abbrev listing_on : (thin : Bool) (listed : List Listed) → IsListing v thin listed → IsListing moved thin listed
      listing_on thin listed x = record {
        inventories = x.inventories;
        kept = record { each = x.kept.each; say = λ j i there. grown.stays 3 j (kinds.Inventory i) (x.kept.say j i there) };
        trim = x.trim;
        floor = ap (is_due_thin v.seat.roster.version (length listed)) (longer.counts v.run.prev.0 l after) ∙ x.floor;
      }

      abbrev commit_on : (sum : Sum) → IsCommittedTo v sum → IsCommittedTo moved sum
      commit_on sum h = record {
        has = h.has;
        listing = listing_on false sum.listed h.listing;
        good = good_on h.listing.inventories h.good;
        summed = summed_on sum h.summed;
        said = said_on (commitment_of v sum) h.said;
      }

      reveal_on : (sum : Sum) → HasRevealed v sum → HasRevealed moved sum
      reveal_on sum h = record { commit = commit_on sum h.commit; commits = grown.all 4 (servers_in v) h.commits; said = said_on (kinds.Reveal v.run.r sum.s) h.said }

      body_on : HasSaidThin v ⊎ HasSaidBody v → HasSaidThin moved ⊎ HasSaidBody moved
      body_on (inl h) = inl (record {
        no_commit = h.no_commit;
        no_reveal = h.no_reveal;
        listed = h.listed;
        listing = listing_on true h.listed h.listing;
        body = h.body;
        said = said_on (kinds.Sign h.body) h.said;
      })
      body_on (inr h) =
          inr (record { sum = h.sum; reveal = reveal_on h.sum h.reveal; reveals = grown.all 5 (servers_in v) h.reveals; body = h.body; said = said_on (kinds.Sign h.body) h.said })

    module _ (h : IsHonest v) where
      inventory_on : HasSaidInventory v → HasSaidInventory moved
      inventory_on x = said_on (kinds.Inventory (inventory_of v.run)) x

      at : (stage : Stage) → IsSaidAt stage v → IsSaidAt stage moved
      at stages.Collecting x = x
      at stages.Listed x = (inventory_on x.0, x.1, x.2, x.3)
      at stages.Committed x = let c = h.course (round_above v h x.0) in (inventory_on x.0, (x.1.0, commit_on c.0 c.1 x.1.0 x.1.1), x.2, x.3)
      at stages.Revealed x = let c = h.course (round_above v h x.0) in (inventory_on x.0, (x.1.0, reveal_on c.0 c.1 x.1.0 x.1.1), x.2)
      at stages.Signed x = let c = h.course (round_above v h x.0) in (inventory_on x.0, body_on c.0 c.1 x.1)

      past_as : (thin : Bool) (past : Past) → IsPastAs thin v past → IsPastAs thin moved past
      past_as true past x = x
      past_as false past x = record {
        layout = x.layout;
        after = longer.layouts past.body.prev.0 x.layout x.after;
        long = x.long;
        rows = x.rows;
        value = x.value;
        digest = x.digest;
      }

      pads_on : (r : Round) (k : ℕ) (bits : List Bool) → ArePads v r k bits → ArePads moved r k bits
      pads_on r k bits x = record {
        body = x.body;
        past = x.past;
        signed = record { held = longer.all x.body x.signed.held; round = x.signed.round; kept = x.signed.kept; of_body = x.signed.of_body };
        full = x.full;
        within = x.within;
        true_bits = x.true_bits;
      }

      shown_on : (r : Round) (s : List Bool) (own : List ShownCipher) → AreShown v r s own → AreShown moved r s own
      shown_on r s own x = record {
        body = x.body;
        past = x.past;
        signed = record { held = longer.all x.body x.signed.held; round = x.signed.round; kept = x.signed.kept; of_body = x.signed.of_body };
        full = x.full;
        are = x.are;
      }

      pub honest_on : ((a b : SaidView) → Contains kept a → Contains kept b → a.signer ≡ b.signer → kind_byte a.statement ≡ kind_byte b.statement → a ≡ b)
          → (running ≡ true → AreFitting v kept) → (running ≡ true → v.run.stage ≡ stages.Collecting → window.closed ≡ false) → (running ≡ true → aside_at v.run.stage ≤ aside) → IsHonest moved
      honest_on one fitting opens enough = record {
        chain = longer.more_is;
        straight = h.straight;
        of_kinds = h.of_kinds;
        rounds = h.rounds;
        receipt_rounds = h.receipt_rounds;
        one_each = h.one_each;
        one_receipt = h.one_receipt;
        receipts = h.receipts;
        claims = h.claims;
        reveals = h.reveals;
        course = λ low. let c = h.course low in (c.0, longer.layouts v.run.prev.0 c.0 c.1, c.2);
        said = at v.run.stage h.said;
        signs = λ b there round.
            justified_grows (IsSaidBy v) (IsSaidBy moved) (WasIncluded v.run) (WasIncluded moved.run) says_on included_on v.seat v.chain chain b longer (h.signs b there round);
        pasts = h.pasts;
        past_are = λ past there. let x = h.past_are past there in (x.0, past_as past.body.thin past x.1);
        openings = record {
          pads = λ r k bits there. pads_on r k bits (h.openings.pads r k bits there);
          shown = λ r s own there. shown_on r s own (h.openings.shown r s own there);
        };
        one_kept = one;
        fitting = fitting;
        listed = opens;
        set_aside = enough;
      }
