-- A server stays honest where it signs statements that are none of a round's, and takes claims.
use Rattle.std.proofs.Common.{◌≡◌, ◌≢◌, ℕ, ◌≤◌, Bool, true, false, List, Some, None, refl, sym, subst, ◌∙◌, inl, inr}
use Rattle.std.specs.Prelude.{Option, Contains, ◌⊎◌, slice_get}
use Rattle.std.proofs.lemmas.List.Elements.{All-weaker}
use Rattle.dn_wire.specs.declared.ids.ClientId.{ClientId}
use Rattle.dn_wire.specs.declared.ids.Round.{Round}
use Rattle.dn_wire.specs.declared.ids.SignerId.{SignerId}
use Rattle.dn_record_types.specs.declared.body.Listed.{Listed}
use Rattle.dn_record_types.specs.declared.inventory.Inventory.{Inventory}
use Rattle.dn_record_types.specs.declared.statement.Statement.{Statement}
use Rattle.dn_record_types.specs.declared.statement.Statement.TheVariants as kinds
use Rattle.dn_record_types.specs.declared.statement.WordTold.{WordTold}
use Rattle.dn_records.specs.Records.{kind_byte}
use Rattle.dn_seal.specs.Said.{SaidView}
use Rattle.dn_cert.specs.Trim.{given_to}
use Rattle.dn_window.specs.Window.{WindowState}
use Rattle.dn_server.specs.declared.claims.Claim.{Claim}
use Rattle.dn_server.specs.declared.past.Past.{Past}
use Rattle.dn_server.specs.declared.places.Place.{Place}
use Rattle.dn_server.specs.declared.run.Stage.{Stage}
use Rattle.dn_server.specs.declared.run.Stage.TheVariants as stages
use Rattle.dn_server.specs.declared.run.Sum.{Sum}
use Rattle.dn_server.specs.Server.{ServerView, WasIncluded, course_of}
use Rattle.dn_server.specs.Keeping.{round_of}
use Rattle.dn_rounds.specs.Going.{IsListing, IsSum, commitment_of}
use Rattle.dn_openings.specs.Discipline.{KeepsOpenings}
use Rattle.dn_exchange.specs.Closing.{inventory_of}
use Rattle.dn_exchange.specs.Disciplined.{IsSaidBy, IsPastAs, AreGood, commit_to, HasSaidNone}
use Rattle.dn_exchange.specs.Honest.{HasSaid, HasSaidInventory, IsCommittedTo, HasRevealed, HasSaidBody, HasSaidThin, IsSaidAt, Wants, IsHonest, IsTrue}
use Rattle.dn_exchange.proofs.Grows.{included_grow, justified_grows, same_chain}

module _ (v : ServerView) (signed : List Statement) (window : WindowState) (claims : List (Option Claim)) (opened : List Place) (evidence : List SaidView) (challenged : List Place) where
  abbrev pub after : ServerView
  after = record v { signed = signed; opened = opened; evidence = evidence; challenged = challenged; run = record v.run { window = window; claims = claims } }

  -- what it signed stays, and what comes is none of a round's; what was told stays; and what is known of receipts and openings
  pub record Adds : Type 0 where
    pub stay : (t : Statement) → Contains v.signed t → Contains signed t
    pub come : (t : Statement) → Contains signed t → Contains v.signed t ⊎ (round_of t ≡ None)
    pub inventory : v.run.stage ≢ stages.Collecting → inventory_of after.run ≡ inventory_of v.run
    pub included : (s : Statement) (c : List Bool) → WasIncluded v.run s c → WasIncluded after.run s c
    pub of_kinds : (s : Statement) → Contains signed s → (2 ≤ kind_byte s) × (kind_byte s ≤ 8)
    pub receipt_rounds : (r : Round) (i : ClientId) (d : List ℕ) (w : WordTold) → Contains signed (kinds.Receipt r i d w) → (1 ≤ r.0) × (r.0 ≤ v.run.r.0)
    pub one_receipt : (r : Round) (i : ClientId) (d e : List ℕ) (w x : WordTold) → Contains signed (kinds.Receipt r i d w) → Contains signed (kinds.Receipt r i e x)
        → kinds.Receipt r i d w ≡ kinds.Receipt r i e x
    pub receipts : (i : ClientId) (d : List ℕ) (w : WordTold) → Contains signed (kinds.Receipt v.run.r i d w)
        → (claim : Claim) × (slice_get claims i.0 ≡ Some (Some claim)) × (claim.digest ≡ d) × (claim.told ≡ w)
    pub claimed : (i : ClientId) (claim : Claim) → slice_get claims i.0 ≡ Some (Some claim) → Contains signed (kinds.Receipt v.run.r i claim.digest claim.told)
    pub openings : KeepsOpenings after
    pub listed : v.run.is_running ≡ true → v.run.stage ≡ stages.Collecting → window.closed ≡ false

  module _ (h : IsHonest v) (adds : Adds) where
    -- a statement of a round was signed before
    was : (t : Statement) (r : Round) → round_of t ≡ Some r → Contains signed t → Contains v.signed t
    was t r round c = elim (adds.come t c) [ inl old ↦ old | inr none ↦ absurd (let clash : None ≡ Some r = sym none ∙ round in cc) ]

    said_on : (s : Statement) → HasSaid v s → HasSaid after s
    said_on s x = record { signed = adds.stay s x.signed; kept = x.kept }

    none_on : (kind : ℕ) → HasSaidNone v kind → HasSaidNone after kind
    none_on kind none t c round = none t (was t v.run.r round c) round

    says_on : (who : SignerId) (t : Statement) → IsSaidBy v who t → IsSaidBy after who t
    says_on who t (inl own) = inl (own.0, adds.stay t own.1)
    says_on who t (inr other) = inr other

    inventory_on : v.run.stage ≢ stages.Collecting → HasSaidInventory v → HasSaidInventory after
    inventory_on isnt x = subst (λ (i : Inventory). HasSaid after (kinds.Inventory i)) (sym (adds.inventory isnt)) (said_on (kinds.Inventory (inventory_of v.run)) x)

    abbrev listing_on : (thin : Bool) (listed : List Listed) → IsListing v thin listed → IsListing after thin listed
    listing_on thin listed x = record { inventories = x.inventories; kept = x.kept; trim = x.trim; floor = x.floor }

    summed_on : (sum : Sum) → IsSum v sum → IsSum after sum
    summed_on sum x = record {
      rows = x.rows;
      told = included_grow (IsSaidBy v) (IsSaidBy v) (WasIncluded v.run) (WasIncluded after.run) (λ who s y. y) adds.included (course_of v.run) (given_to sum.listed v.seat.number) sum.own x.told;
      value = x.value;
    }

    commit_on : (sum : Sum) → IsCommittedTo v sum → IsCommittedTo after sum
    commit_on sum x = record {
      has = x.has;
      listing = listing_on false sum.listed x.listing;
      good = All-weaker (AreGood v) (AreGood after) (λ i g. record { r = g.r; prev = g.prev; verify = g.verify }) x.listing.inventories x.good;
      summed = summed_on sum x.summed;
      said = said_on (commitment_of v sum) x.said;
    }

    reveal_on : (sum : Sum) → HasRevealed v sum → HasRevealed after sum
    reveal_on sum x = record { commit = commit_on sum x.commit; commits = x.commits; said = said_on (kinds.Reveal v.run.r sum.s) x.said }

    body_on : HasSaidThin v ⊎ HasSaidBody v → HasSaidThin after ⊎ HasSaidBody after
    body_on (inl x) = inl (record {
      no_commit = none_on 4 x.no_commit;
      no_reveal = none_on 5 x.no_reveal;
      listed = x.listed;
      listing = listing_on true x.listed x.listing;
      body = x.body;
      said = said_on (kinds.Sign x.body) x.said;
    })
    body_on (inr x) = inr (record { sum = x.sum; reveal = reveal_on x.sum x.reveal; reveals = x.reveals; body = x.body; said = said_on (kinds.Sign x.body) x.said })

    isnt : (stage : Stage) → v.run.stage ≡ stage → stage ≢ stages.Collecting → v.run.stage ≢ stages.Collecting
    isnt stage e other same = other (sym e ∙ same)

    at : (stage : Stage) → v.run.stage ≡ stage → IsSaidAt stage v → IsSaidAt stage after
    at stages.Collecting e x = (none_on 3 x.0, none_on 4 x.1, none_on 5 x.2, none_on 6 x.3)
    at stages.Listed e x = (inventory_on (isnt stages.Listed e (λ c. let clash = c in cc)) x.0, none_on 4 x.1, none_on 5 x.2, none_on 6 x.3)
    at stages.Committed e x = (inventory_on (isnt stages.Committed e (λ c. let clash = c in cc)) x.0, (x.1.0, commit_on x.1.0 x.1.1), none_on 5 x.2, none_on 6 x.3)
    at stages.Revealed e x = (inventory_on (isnt stages.Revealed e (λ c. let clash = c in cc)) x.0, (x.1.0, reveal_on x.1.0 x.1.1), none_on 6 x.2)
    at stages.Signed e x = (inventory_on (isnt stages.Signed e (λ c. let clash = c in cc)) x.0, body_on x.1)

    past_on : (thin : Bool) (past : Past) → IsPastAs thin v past → IsPastAs thin after past
    past_on true past x = x
    past_on false past x = record { layout = x.layout; after = x.after; long = x.long; rows = x.rows; value = x.value; digest = x.digest }

    pub adds_honest : IsHonest after
    adds_honest = record {
      chain = h.chain;
      straight = h.straight;
      of_kinds = adds.of_kinds;
      rounds = λ s r c round. h.rounds s r (was s r round c) round;
      receipt_rounds = adds.receipt_rounds;
      one_each = λ s t r a b at_s at_t kind. h.one_each s t r (was s r at_s a) (was t r at_t b) at_s at_t kind;
      one_receipt = adds.one_receipt;
      receipts = adds.receipts;
      claims = adds.claimed;
      reveals = λ r s c. adds.stay (commit_to v.seat r s) (h.reveals r s (was (kinds.Reveal r s) r refl c));
      course = h.course;
      said = at v.run.stage refl h.said;
      signs = λ b c round.
          justified_grows (IsSaidBy v) (IsSaidBy after) (WasIncluded v.run) (WasIncluded after.run) says_on adds.included v.seat v.chain v.chain b (same_chain v.chain h.chain)
          (h.signs b (was (kinds.Sign b) b.r refl c) round);
      pasts = λ b c. h.pasts b (was (kinds.Sign b) b.r refl c);
      past_are = λ past there. let x = h.past_are past there in (adds.stay (kinds.Sign past.body) x.0, past_on past.body.thin past x.1);
      openings = adds.openings;
      one_kept = h.one_kept;
      fitting = h.fitting;
      listed = adds.listed;
      set_aside = h.set_aside;
    }

  pub adds_true : IsTrue v → Adds → IsTrue after
  adds_true h adds = record { honest = adds_honest h.honest adds; gone = λ runs. by v.run.stage (h.gone runs) }
    where
      by : (stage : Stage) → Wants stage v → Wants stage after
      by stages.Collecting x = tt
      by stages.Listed x = λ thin listed l. x thin listed (record { inventories = l.inventories; kept = l.kept; trim = l.trim; floor = l.floor })
      by stages.Committed x = x
      by stages.Revealed x = x
      by stages.Signed x = x
