-- What contracts see of a client, and what it keeps.
use Rattle.std.specs.Prelude.{◌≡◌, ℕ, ◌<◌, ◌≤◌, ◌||◌, Bool, true, false, List, [], ◌∷◌, map, filter, length, take, drop, slice_get, slice_index_or, All, Contains, IsTrue, Some}
use Rattle.std.specs.List.{range_with_len}
use Rattle.std.specs.List.Sorted.{IsStrictlyIncreasing}
use Rattle.dn_wire.specs.declared.limits.TheConstants.{MAX_TEXT, MAX_SERVERS}
use Rattle.dn_wire.specs.declared.ids.ClientId.{ClientId}
use Rattle.dn_wire.specs.declared.ids.ServerId.{ServerId}
use Rattle.dn_wire.specs.declared.ids.SlotId.{SlotId}
use Rattle.dn_wire.specs.declared.ids.SignerId.TheVariants.{Client, Slot}
use Rattle.dn_bits.specs.Bits.{bytes_of}
use Rattle.dn_hash.specs.Digests.{seed_commitment_of, cipher_digest_of, mask_seed_of}
use Rattle.dn_record_types.specs.declared.body.Body.{Body}
use Rattle.dn_record_types.specs.declared.statement.Statement.{Statement}
use Rattle.dn_record_types.specs.declared.statement.Statement.TheVariants as kinds
use Rattle.dn_lms.specs.Key.{Key, IsKey, leaf_count}
use Rattle.dn_lms.specs.Signature.{public_key}
use Rattle.dn_layout.specs.Layout.{range_of}
use Rattle.dn_roster.specs.declared.group.GroupSpec.{GroupSpec}
use Rattle.dn_roster.specs.Dealing.{mask_secret_of}
use Rattle.dn_roster.specs.Owners.{IsOwners}
use Rattle.dn_roster.specs.Roster.{RosterView, key_of, commitment_of, digest_of}
use Rattle.dn_seal.specs.Dealt.{key_dealt_to, seed_dealt_to}
use Rattle.dn_seal.specs.Signer.{CanSign, sealed_in}
use Rattle.dn_cert.specs.Chain.{ChainView, bodies, IsChain, IsLayoutAfter}
use Rattle.dn_cert.specs.Evidence.{IsValid}
use Rattle.dn_client.specs.declared.made.Made.{Made}
use Rattle.dn_client.specs.declared.accused.Accused.{Accused}
use Rattle.dn_client.specs.declared.answered.Answered.{Answered}
use Rattle.dn_client.specs.Plain.{plain_text, carried_at, cipher_of}

-- Who a client is: its number and its slot, the digest of its group, its key and its slot's, the seeds that it shares with the servers, by
-- server, and its mask secret.
pub record Identity : Type 0 where
  pub me : ClientId
  pub slot : SlotId
  pub digest : List ℕ
  pub key : Key
  pub slot_key : Key
  pub seeds : List (List ℕ)
  pub mask : List ℕ

-- the group's dealer dealt it to client i
pub record IsDealtTo (group : GroupSpec) (i : ClientId) (who : Identity) : Type 0 where
  pub me : who.me ≡ i
  pub owner : (owners : List ClientId) → IsOwners group owners → slice_get owners who.slot.0 ≡ Some i
  pub key : who.key ≡ key_dealt_to group (Client i)
  pub slot_key : who.slot_key ≡ key_dealt_to group (Slot who.slot)
  pub seeds : who.seeds ≡ map (seed_dealt_to group i.0) (range_with_len 0 group.servers)
  pub mask : who.mask ≡ mask_secret_of group.seed i.0

-- the seed that it shares with server j
abbrev pub seed_with : Identity → ℕ → List ℕ
seed_with who j = slice_index_or who.seeds j []

-- the roster is that of its group, and has the public part of what is the client's
pub record IsIn (roster : RosterView) (who : Identity) : Type 0 where
  pub digest : who.digest ≡ digest_of roster
  pub key : key_of roster (Client who.me) ≡ Some (public_key who.key)
  pub slot_key : key_of roster (Slot who.slot) ≡ Some (public_key who.slot_key)
  pub seeds : length who.seeds ≡ length roster.servers
  pub opens : (j : ℕ) → j < length who.seeds → commitment_of roster who.me.0 j ≡ Some (seed_commitment_of who.me.0 j (seed_with who j))

-- Who it is, the certificates that it holds, the texts that it was given, in order, and how many of them are done with; what it made for
-- rounds, in order; the accusations that it made, in order, and the challenges that it answered; what its key and its slot's key signed, in
-- order; whether it has left, whether statements of others were signed with its keys, and whether memory was wanting.
pub record ClientView : Type 0 where
  pub who : Identity
  pub chain : ChainView
  pub queue : List (List ℕ)
  pub head : ℕ
  pub made : List Made
  pub accused : List Accused
  pub answered : List Answered
  pub signed : List Statement
  pub signed_as_slot : List Statement
  pub left : Bool
  pub bent : Bool
  pub spent : Bool

-- What a client makes for a round on this layout, where these texts wait in its queue, the first at this place. An honest client sends
-- nothing else.
pub record IsMadeOn (who : Identity) (lengths : List ℕ) (waiting : List (List ℕ)) (place : ℕ) (m : Made) : Type 0 where
  pub range : m.range ≡ range_of lengths who.slot.0
  pub carried : m.carried ≡ carried_at lengths who.slot.0 waiting place
  pub plain : m.plain ≡ plain_text lengths who.slot.0 waiting (mask_seed_of who.mask m.r.0)
  pub cipher : m.cipher ≡ cipher_of who.seeds m.r.0 m.plain
  pub digest : m.digest ≡ cipher_digest_of m.r.0 who.me.0 (bytes_of m.cipher)

-- the statements that it signs
abbrev pub submission_of : Identity → Made → Statement
submission_of who m = kinds.Submission m.r m.prev who.me m.digest

abbrev pub accusation_of : Identity → Accused → Statement
accusation_of who a = kinds.Accusation a.r who.slot a.k

-- the envelopes of statement n of its key, and of its slot's key
abbrev pub sealed_as_client : Identity → ℕ → Statement → List ℕ
sealed_as_client who n s = sealed_in who.digest (Client who.me) who.key n s

abbrev pub sealed_as_slot : Identity → ℕ → Statement → List ℕ
sealed_as_slot who n s = sealed_in who.digest (Slot who.slot) who.slot_key n s

-- the envelope is that of a statement among those that its key signed
abbrev pub IsSealed : Identity → List Statement → Statement → List ℕ → Type 0
IsSealed who signed s envelope =
    (n : ℕ) × (n < leaf_count who.key) × (slice_get signed n ≡ Some s) × (envelope ≡ sealed_as_client who n s)

-- among those that its slot's key signed
abbrev pub IsSealedAsSlot : Identity → List Statement → Statement → List ℕ → Type 0
IsSealedAsSlot who signed s envelope =
    (n : ℕ) × (n < leaf_count who.slot_key) × (slice_get signed n ≡ Some s) × (envelope ≡ sealed_as_slot who n s)

-- What the client made for a round: on the layout after prev, which is below the round, from the texts that waited when it was made, with
-- the envelope of its submission.
pub record IsMade (who : Identity) (chain : ChainView) (queue : List (List ℕ)) (signed : List Statement) (m : Made) : Type 0 where
  pub below : m.prev.0 < m.r.0
  pub lengths : List ℕ
  pub after : IsLayoutAfter chain m.prev.0 lengths
  pub place : ℕ
  pub said : ℕ
  pub within : said ≤ length queue
  pub content : IsMadeOn who lengths (drop place (take said queue)) place m
  pub fits : CanSign (Client who.me) (submission_of who m)
  pub sealed : IsSealed who signed (submission_of who m) m.envelope

-- An accusation that the client made: it holds against the body of its round that the client holds, and its envelope is among those that
-- the slot's key made.
pub record IsAccused (who : Identity) (chain : ChainView) (signed : List Statement) (a : Accused) : Type 0 where
  pub body : Body
  pub held : Contains (bodies chain) body
  pub lengths : List ℕ
  pub after : IsLayoutAfter chain body.prev.0 lengths
  pub valid : IsValid lengths body (Slot who.slot) (accusation_of who a) record { r = a.r; slot = who.slot; k = a.k }
  pub fits : CanSign (Slot who.slot) (accusation_of who a)
  pub sealed : IsSealedAsSlot who signed (accusation_of who a) a.envelope

abbrev pub is_submission : Statement → Bool
is_submission (kinds.Submission r prev i d) = true
is_submission _ = false

abbrev pub is_rebuttal : Statement → Bool
is_rebuttal (kinds.Rebuttal r k j seed e) = true
is_rebuttal _ = false

-- the statement is a rebuttal to this challenge
abbrev pub Rebuts : Answered → Statement → Type 0
Rebuts a s = (server : ServerId) × (seed : List ℕ) × (envelope : List ℕ) × (s ≡ kinds.Rebuttal a.r a.k server seed envelope)

-- one statement after the other rebuts one challenge after the other
abbrev pub RebutEach : List Answered → List Statement → Type 0
RebutEach [] [] = Unit {0}
RebutEach (a ∷ answered) (s ∷ statements) = Rebuts a s × RebutEach answered statements
RebutEach [] (s ∷ statements) = ⊥
RebutEach (a ∷ answered) [] = ⊥

-- What the keys of an honest client signed: its own key one submission for each round for which it made something, one rebuttal to each
-- challenge that it answered, and nothing else; its slot's key the accusations that it made, and nothing else.
pub record IsHonest (v : ClientView) : Type 0 where
  pub kinds : All (λ s. IsTrue (is_submission s || is_rebuttal s)) v.signed
  pub submissions : filter is_submission v.signed ≡ map (submission_of v.who) v.made
  pub rebuttals : RebutEach v.answered (filter is_rebuttal v.signed)
  pub accusations : v.signed_as_slot ≡ map (accusation_of v.who) v.accused

-- what a client keeps
pub record IsClient (v : ClientView) : Type 0 where
  pub chain : IsChain v.chain
  pub slot : v.who.slot.0 < v.chain.slots
  pub keys : IsKey v.who.key × IsKey v.who.slot_key
  pub seeds : (1 ≤ length v.who.seeds) × (length v.who.seeds ≤ MAX_SERVERS)
  pub texts : All (λ text. length text ≤ MAX_TEXT) v.queue
  pub head : v.head ≤ length v.queue
  pub ascends : IsStrictlyIncreasing (map (λ m. m.r.0) v.made)
  pub made : All (IsMade v.who v.chain v.queue v.signed) v.made
  pub accused : All (IsAccused v.who v.chain v.signed_as_slot) v.accused
  pub leaves : (length v.signed ≤ leaf_count v.who.key) × (length v.signed_as_slot ≤ leaf_count v.who.slot_key)
  pub honest : v.bent ≡ false → IsHonest v

-- Memory was wanting: the client is spent. It is the same client still.
abbrev pub IsSpent : ClientView → ClientView → Type 0
IsSpent old new = (new.spent ≡ true) × (new.who ≡ old.who)
