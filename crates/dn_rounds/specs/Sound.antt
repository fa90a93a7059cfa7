-- What a server keeps of its round, from one call to the next.
use Rattle.std.specs.Prelude.{◌≡◌, ◌≢◌, ℕ, ◌<◌, ◌++◌, ◌∷◌, [], Bool, true, false, List, length, All, Some, None, slice_get}
use Rattle.dn_bits.specs.Bits.{bytes_of}
use Rattle.dn_hash.specs.Digests.{cipher_digest_of}
use Rattle.dn_record_types.specs.declared.body.Body.{Body}
use Rattle.dn_record_types.specs.declared.body.Listed.{Listed}
use Rattle.dn_record_types.specs.declared.statement.WordTold.TheVariants as words
use Rattle.dn_cert.specs.Trim.{given_to}
use Rattle.dn_record_types.specs.declared.inventory.Inventory.{Inventory}
use Rattle.dn_record_types.specs.declared.statement.Statement.{Statement}
use Rattle.dn_record_types.specs.declared.statement.Statement.TheVariants as kinds
use Rattle.dn_roster.specs.Roster.{IsRoster}
use Rattle.dn_seal.specs.Dealt.{server}
use Rattle.dn_seal.specs.Said.{SaidView, IsSaid, IsUnder}
use Rattle.dn_seal.specs.Signer.{CanSign}
use Rattle.dn_cert.specs.Signed.{EntryVerifies}
use Rattle.dn_server.specs.declared.act.Act.{Act}
use Rattle.dn_server.specs.declared.claims.Claim.{Claim}
use Rattle.dn_server.specs.declared.parts.Parts.{Parts}
use Rattle.dn_rounds.specs.declared.going.Due.{Due}
use Rattle.dn_rounds.specs.declared.going.Due.TheVariants as dues
use Rattle.dn_server.specs.declared.past.Past.{Past}
use Rattle.dn_server.specs.declared.run.Run.{Run}
use Rattle.dn_server.specs.declared.run.Stage.{Stage}
use Rattle.dn_server.specs.declared.run.Stage.TheVariants as stages
use Rattle.dn_server.specs.declared.run.Sum.{Sum}
use Rattle.dn_server.specs.Server.{ServerView, servers_in, statement_of, post_next, others_of}
use Rattle.dn_server.specs.Keeping.{AreOfRound}
use Rattle.dn_rounds.specs.Going.{Step, Stands, Conflicts, IsFree, HasLeaf, IsListing, IsBodyDue, IsThinDue, IsFirstAgainst, IsUnopposed, spoiled_twice, spoiled_body}
use Rattle.dn_server.specs.Parts.{live, at_end}
use Rattle.dn_rounds.specs.Spoken.{spoken}

-- the server is one of its group, and shares a seed with each client
pub record IsSeated (v : ServerView) : Type 0 where
  pub roster : IsRoster v.seat.roster
  pub number : v.seat.number < servers_in v
  pub seeds : length v.seat.seeds ≡ length v.seat.roster.clients

-- each statement that is kept is one of the round, by a server of the group, and its signature verifies in the group
pub record AreSound (v : ServerView) (kept : List SaidView) : Type 0 where
  pub round : AreOfRound v.run.r kept
  pub said : All IsSaid kept
  pub under : All (IsUnder v.seat.roster) kept

-- each inventory that is kept follows the round's prev, and each of its entries verifies
abbrev pub InventoriesVerify : ServerView → Type 0
InventoriesVerify v = (j : ℕ) (inventory : Inventory) → statement_of v.run.kept 3 j ≡ Some (kinds.Inventory inventory)
    → (inventory.prev ≡ v.run.prev) × All (EntryVerifies v.seat.roster v.run.r v.run.prev) inventory.entries

-- each ciphertext that is kept has the round's length
abbrev pub StringsFit : ServerView → Type 0
StringsFit v = (j : ℕ) (s : List Bool) → statement_of v.run.kept 5 j ≡ Some (kinds.Reveal v.run.r s) → length s ≡ v.run.bits

-- each claim's ciphertext has the round's length, and its digest
abbrev pub ClaimsFit : Run → Type 0
ClaimsFit run = (i : ℕ) (claim : Claim) → slice_get run.claims i ≡ Some (Some claim)
    → (length claim.cipher ≡ run.bits) × (claim.digest ≡ cipher_digest_of run.r.0 i (bytes_of claim.cipher))

-- from the commitment on there is a sum
abbrev pub HasSum : Run → Type 0
HasSum run = (sum : Sum) × (run.sum ≡ Some sum) × (length sum.s ≡ run.bits)

-- What a step did, by what it answers: a step, or nothing, where none is possible.
abbrev pub Stepped : Parts → Parts → List Act → List Act → Bool → Type 0
Stepped old new before after true = (did : List Act) × (after ≡ before ++ did) × Step (live old) did (live new)
Stepped old new before after false = (new ≡ old) × (after ≡ before) × Stands (live old)

-- What became of a statement that is due, by whether another is kept in its place: then the run has ended, and else nothing has changed.
abbrev pub Opposed : Statement → Parts → Parts → List Act → List Act → Bool → Type 0
Opposed s old new before after true =
    (other : Statement) × Conflicts (live old) s other × (new ≡ at_end old) × (after ≡ before ++ spoiled_twice old.identity.number other s ∷ [])
Opposed s old new before after false = IsFree (live old) s × (new ≡ old) × (after ≡ before)

-- What became of a statement that is due: another one is kept in its place, and the run has ended; or it is said; or no leaf is left for it.
abbrev pub Became : Statement → Stage → Parts → Parts → List Act → List Act → Due → Type 0
Became s stage old new before after dues.Opposed =
    (other : Statement) × Conflicts (live old) s other × (new ≡ at_end old) × (after ≡ before ++ spoiled_twice old.identity.number other s ∷ [])
Became s stage old new before after dues.Said =
    IsFree (live old) s × HasLeaf (live old) × (new ≡ spoken old s stage)
    × (after ≡ before ++ post_next (live old) (others_of (live old).seat) s ∷ [])
Became s stage old new before after dues.Stuck = IsFree (live old) s × (¬ HasLeaf (live old)) × (new ≡ old) × (after ≡ before)

-- it is said, or the run has ended
abbrev pub has_moved : Due → Bool
has_moved dues.Opposed = true
has_moved dues.Said = true
has_moved dues.Stuck = false

-- the statement fits into an envelope of the server
abbrev pub IsSayable : Parts → Statement → Type 0
IsSayable p s = CanSign (server p.identity.number) s

-- a body that is due fits into an envelope of the server
abbrev pub BodiesFit : Parts → Type 0
BodiesFit p = (sum : Sum) (b : Body) → IsBodyDue (live p) sum b → IsSayable p (kinds.Sign b)

-- Server j has signed another body than b, or not.
abbrev pub SignsOther : Parts → Body → ℕ → Bool → Type 0
SignsOther p b j true = (other : Body) × (statement_of p.run.kept 6 j ≡ Some (kinds.Sign other)) × (other ≢ b)
SignsOther p b j false = (other : Body) → statement_of p.run.kept 6 j ≡ Some (kinds.Sign other) → other ≡ b

-- What became of a body that is due: a server signed another one, and the run has ended; or it is said; or no leaf is left for it.
abbrev pub BecameSigned : Body → Parts → Parts → List Act → List Act → Due → Type 0
BecameSigned b old new before after dues.Opposed =
    (j : ℕ) × (other : Body) × IsFirstAgainst (live old) b j other × (new ≡ at_end old) × (after ≡ before ++ spoiled_body j b other ∷ [])
BecameSigned b old new before after dues.Said =
    IsUnopposed (live old) b × HasLeaf (live old) × (new ≡ spoken old (kinds.Sign b) stages.Signed)
    × (after ≡ before ++ post_next (live old) (others_of (live old).seat) (kinds.Sign b) ∷ [])
BecameSigned b old new before after dues.Stuck = IsUnopposed (live old) b × (¬ HasLeaf (live old)) × (new ≡ old) × (after ≡ before)

-- the parts with what is kept of a body, where it was said
abbrev pub with_past_if : Due → Parts → Past → Parts
with_past_if dues.Opposed p past = p
with_past_if dues.Said p past = record p { pasts = p.pasts ++ past ∷ [] }
with_past_if dues.Stuck p past = p

-- The row's client has a claim that was told Included, with the row's digest and a ciphertext of the round's length.
pub record IsClaimed (run : Run) (l : Listed) : Type 0 where
  pub claim : Claim
  pub there : slice_get run.claims l.client.0 ≡ Some (Some claim)
  pub told : claim.told ≡ words.Included
  pub digest : claim.digest ≡ l.digest
  pub long : length claim.cipher ≡ run.bits
  pub fits : claim.digest ≡ cipher_digest_of run.r.0 l.client.0 (bytes_of claim.cipher)

abbrev pub AreClaimed : Run → List Listed → Type 0
AreClaimed run rows = All (IsClaimed run) rows

-- each list that the inventories may give is of clients of the group, and gives the server clients that it told Included
abbrev pub ListingsFit : Parts → Type 0
ListingsFit p = (thin : Bool) (listed : List Listed) → IsListing (live p) thin listed
    → AreClaimed p.run (given_to listed p.identity.number) × All (λ l. l.client.0 < length p.seeds.items) listed

-- the run with its sum, where the commitment to it was said; and in any case a sum that was made uses the place up
abbrev pub with_sum_if : Due → Parts → Sum → Parts
with_sum_if dues.Opposed p sum = record p { bend = None }
with_sum_if dues.Said p sum = record p { bend = None; run = record p.run { sum = Some sum } }
with_sum_if dues.Stuck p sum = p

-- a body without data that is due fits into an envelope of the server
abbrev pub ThinBodiesFit : Parts → Type 0
ThinBodiesFit p = (b : Body) → IsThinDue (live p) b → IsSayable p (kinds.Sign b)
